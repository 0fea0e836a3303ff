-- How an input is read.
use Rattle.std.proofs.Common.{◌≡◌, ◌∙◌, ◌+◌, ◌<◌, ℕ, List, [], ◌∷◌, ◌++◌, Option, Some, None, ap, inl, inr, refl, subst, sym, arith, append_assoc, length, length-append}
use Rattle.std.proofs.lemmas.List.{append-nil}
use Rattle.std.proofs.lemmas.Grind.{flat_map-append}
use Rattle.std.specs.Io.KnownBytes.{IsAtEnd}
use Rattle.git_object.specs.Reader.{◌>>=◌}
use Rattle.pktline_core.specs.LinkState.{LinkState}
use Rattle.pktline_core.specs.Links.{IsLater}
use Rattle.pktline_core.proofs.LinkLemmas.{risen_later}
use Rattle.script_frames.specs.Frames.{AreBodies, BeginsNoFrame, IsWord, frame_text, head_text}
use Rattle.script_frames.specs.ReadingFrames.{StopsInFrame, Takes, TakesFrame}
use Rattle.script_frames.specs.declared.frames.FrameFault.{FrameFault}
use Rattle.script_frames.specs.declared.frames.FrameFault.TheVariants as frame
use Rattle.script_frames.proofs.FrameLemmas.{begins_none}
use Rattle.script_frames.proofs.ReadingLemmas.{no_rest, takes_more}
use Rattle.report_input.specs.Confs.{no_files, with_body, with_bodies}
use Rattle.report_input.specs.Input.{AddsFile, FailsInput, Give, GoesWrong, LacksInput, ReadsInput, StopsAtAsk, StopsAtFile, StopsInFiles, StopsInput, TakesFiles, ask_word, file_word, files_text, input_fault, input_text}
use Rattle.report_input.specs.declared.confs.Confs.{Confs}
use Rattle.report_input.specs.declared.input.InputFault.{InputFault}
use Rattle.report_input.specs.declared.input.InputFault.TheVariants as fault

ask_is_word : IsWord ask_word
ask_is_word = record { no_feed = ((λ e. omega (arith, e)), ((λ e. omega (arith, e)), ((λ e. omega (arith, e)), ((λ e. omega (arith, e)), tt)))); short = omega arith }

-- ---- a frame

-- no questions stand where the input ends
pub ask_ended : (a b : LinkState) → Takes a b [] → IsAtEnd b.left → StopsAtAsk a b (fault.Bad 0)
ask_ended a b takes end = (refl, record { part = []; takes = takes; none = λ rest is. subst (BeginsNoFrame ask_word) (sym (no_rest b.left rest end is)) (begins_none ask_word ask_is_word) })

pub ask_stopped : (a b : LinkState) (f : FrameFault) → StopsInFrame ask_word a b f → StopsAtAsk a b (input_fault f 0)
ask_stopped a b frame.Bad stops = (refl, record { part = stops.part; takes = stops.takes; none = stops.bad })
ask_stopped a b frame.ReadFault stops = record { part = stops.part; fails = stops.fails }
ask_stopped a b frame.NoMemory stops = record { part = stops.part; takes = stops.takes }

-- no frame of a file stands here
pub file_stopped : (confs : Confs) (a b : LinkState) (offset : ℕ) (f : FrameFault) → StopsInFrame file_word a b f → StopsAtFile confs a b offset (input_fault f offset)
file_stopped confs a b offset frame.Bad stops =
    (refl, record { part = stops.part; takes = stops.takes; none = λ rest is. inl (omega (arith, stops.some, length-append stops.part rest), stops.bad rest is) })
file_stopped confs a b offset frame.ReadFault stops = record { part = stops.part; fails = stops.fails }
file_stopped confs a b offset frame.NoMemory stops = record { part = stops.part; takes = stops.takes }

-- a frame stands here whose body gives no file
pub file_refused : (confs : Confs) (a b : LinkState) (offset taken : ℕ) (body : List ℕ) → TakesFrame file_word a b taken body → with_body confs body ≡ None → StopsAtFile confs a b offset (fault.Bad offset)
file_refused confs a b offset taken body frame none = (
  refl,
  record {
    part = frame_text file_word body;
    takes = frame.takes;
    none = λ rest is. inr (record { body = body; more = rest; small = frame.small; split = refl; none = none });
  },
)

-- memory ran out behind a frame
pub file_lacked : (confs : Confs) (a b : LinkState) (offset taken : ℕ) (body : List ℕ) → TakesFrame file_word a b taken body → StopsAtFile confs a b offset fault.NoMemory
file_lacked confs a b offset taken body frame = record { part = frame_text file_word body; takes = frame.takes }

-- ---- one part behind another

fails_behind : (a b c : LinkState) (xs : List ℕ) → Takes a b xs → IsLater a b → FailsInput b c → FailsInput a c
fails_behind a b c xs takes later fails = record {
  part = xs ++ fails.part;
  fails = record {
    takes = takes_more a b c xs fails.part takes fails.fails.takes;
    risen = risen_later a.read_faults b.read_faults c.read_faults later.read_faults fails.fails.risen;
    may_fail = rw later.may_fail at fails.fails.may_fail;
  };
}

lacks_behind : (a b c : LinkState) (xs : List ℕ) → Takes a b xs → LacksInput b c → LacksInput a c
lacks_behind a b c xs takes lacks = record { part = xs ++ lacks.part; takes = takes_more a b c xs lacks.part takes lacks.takes }

-- ---- files

bodies_more : (bodies : List (List ℕ)) (body : List ℕ) → AreBodies bodies → AreBodies (body ∷ []) → AreBodies (bodies ++ body ∷ [])
bodies_more [] body none more = more
bodies_more (b ∷ bodies) body some more = (some.0, bodies_more bodies body some.1 more)

bind_same : (found : Option Confs) (f g : Confs → Option Confs) → ((c : Confs) → f c ≡ g c) → (found >>= f) ≡ (found >>= g)
bind_same None f g same = refl
bind_same (Some c) f g same = same c

bind_twice : (found : Option Confs) (f g : Confs → Option Confs) → ((found >>= f) >>= g) ≡ (found >>= λ (c : Confs). f c >>= g)
bind_twice None f g = refl
bind_twice (Some c) f g = refl

bind_some : (found : Option Confs) → (found >>= λ (c : Confs). with_bodies c []) ≡ found
bind_some None = refl
bind_some (Some c) = refl

gives_more : (confs : Confs) (bodies : List (List ℕ)) (body : List ℕ) → with_bodies confs (bodies ++ body ∷ []) ≡ (with_bodies confs bodies >>= λ (c : Confs). with_body c body)
gives_more confs [] body = bind_some (with_body confs body)
gives_more confs (b ∷ bodies) body =
    bind_same (with_body confs b) (λ (c : Confs). with_bodies c (bodies ++ body ∷ [])) (λ (c : Confs). with_bodies c bodies >>= λ (d : Confs). with_body d body) (λ c. gives_more c bodies body)
    ∙ sym (bind_twice (with_body confs b) (λ (c : Confs). with_bodies c bodies) (λ (d : Confs). with_body d body))

give_more : (bodies : List (List ℕ)) (body : List ℕ) (confs confs' : Confs) → Give bodies confs → AreBodies (body ∷ []) → with_body confs body ≡ Some confs' → Give (bodies ++ body ∷ []) confs'
give_more bodies body confs confs' give small gives = record {
  small = bodies_more bodies body give.small small;
  gives = gives_more no_files bodies body ∙ ap (λ (found : Option Confs). found >>= λ (c : Confs). with_body c body) give.gives ∙ gives;
}

some_frame : (word body : List ℕ) → 0 < length (frame_text word body)
unfolding frame_text
some_frame word body = omega (arith, length-append (head_text word (length body)) (10 ∷ (body ++ 10 ∷ [])))

-- a frame has bytes
pub given_more : (confs confs' : Confs) (a b : LinkState) (taken : ℕ) → AddsFile confs confs' a b taken → a.given < b.given
given_more confs confs' a b taken adds = omega (arith, adds.frame.takes.counted, some_frame file_word adds.body)

-- so many files were taken
pub record Took (a b : LinkState) (confs : Confs) (start offset : ℕ) : Type 0 where
  pub bodies : List (List ℕ)
  pub files : Give bodies confs
  pub takes : Takes a b (files_text bodies)
  pub place : offset ≡ start + length (files_text bodies)

pub took_none : (a : LinkState) (start : ℕ) → Takes a a [] → Took a a no_files start start
took_none a start takes = record { bodies = []; files = record { small = tt; gives = refl }; takes = takes; place = omega arith }

one_text : (body : List ℕ) → files_text (body ∷ []) ≡ frame_text file_word body
one_text body = append-nil (frame_text file_word body)

text_more : (bodies : List (List ℕ)) (body : List ℕ) → files_text (bodies ++ body ∷ []) ≡ files_text bodies ++ frame_text file_word body
text_more bodies body = flat_map-append (frame_text file_word) bodies (body ∷ []) ∙ ap (λ (l : List ℕ). files_text bodies ++ l) (one_text body)

pub took_more : (a b c : LinkState) (confs confs' : Confs) (start offset taken : ℕ) → Took a b confs start offset → AddsFile confs confs' b c taken → Took a c confs' start (offset + taken)
took_more a b c confs confs' start offset taken took adds = record {
  bodies = took.bodies ++ adds.body ∷ [];
  files = give_more took.bodies adds.body confs confs' took.files (adds.frame.small, tt) adds.gives;
  takes = subst (Takes a c) (sym (text_more took.bodies adds.body)) (takes_more a b c (files_text took.bodies) (frame_text file_word adds.body) took.takes adds.frame.takes);
  place = omega (arith, took.place, adds.frame.counted, ap length (text_more took.bodies adds.body), length-append (files_text took.bodies) (frame_text file_word adds.body));
}

pub took_all : (a b c : LinkState) (confs : Confs) (start offset : ℕ) → Took a b confs start offset → Takes b c [] → IsAtEnd c.left → TakesFiles a c confs
took_all a b c confs start offset took takes end = record {
  bodies = took.bodies;
  files = took.files;
  takes = subst (Takes a c) (append-nil (files_text took.bodies)) (takes_more a b c (files_text took.bodies) [] took.takes takes);
  ended = end;
}

pub took_stopped : (a b c : LinkState) (confs : Confs) (start offset : ℕ) (f : InputFault) → Took a b confs start offset → IsLater a b → StopsAtFile confs b c offset f → StopsInFiles a c start f
took_stopped a b c confs start offset (fault.Bad at) took later stops = record {
  bodies = took.bodies;
  confs = confs;
  part = stops.1.part;
  files = took.files;
  takes = takes_more a b c (files_text took.bodies) stops.1.part took.takes stops.1.takes;
  place = stops.0 ∙ took.place;
  none = stops.1.none;
}
took_stopped a b c confs start offset fault.Failed took later stops = fails_behind a b c (files_text took.bodies) took.takes later stops
took_stopped a b c confs start offset fault.NoMemory took later stops = lacks_behind a b c (files_text took.bodies) took.takes stops

-- ---- the whole input

-- no questions
pub input_unasked : (a b : LinkState) (f : InputFault) → StopsAtAsk a b f → StopsInput a b f
input_unasked a b (fault.Bad at) stops = record {
  part = stops.1.part;
  takes = stops.1.takes;
  bad = λ rest is. record { frames = []; rest = stops.1.part ++ rest; split = refl; place = stops.0; wrong = GoesWrong.no_questions (stops.1.none rest is) };
}
input_unasked a b fault.Failed stops = stops
input_unasked a b fault.NoMemory stops = stops

module _ (a b : LinkState) (taken : ℕ) (ask : List ℕ) (first : TakesFrame ask_word a b taken ask) where
  -- behind questions something that is no file
  pub input_stopped : (c : LinkState) (f : InputFault) → IsLater a b → StopsInFiles b c taken f → StopsInput a c f
  input_stopped c (fault.Bad at) later stops =
      let frames = input_text ask stops.bodies in
      record {
        part = frames ++ stops.part;
        takes = subst (Takes a c) (sym (append_assoc (frame_text ask_word ask) (files_text stops.bodies) stops.part)) (takes_more a b c (frame_text ask_word ask) (files_text stops.bodies ++ stops.part) first.takes stops.takes);
        bad = λ rest is. record {
          frames = frames;
          rest = stops.part ++ rest;
          split = append_assoc frames stops.part rest;
          place = omega (arith, stops.place, first.counted, length-append (frame_text ask_word ask) (files_text stops.bodies));
          wrong = GoesWrong.no_file ask stops.bodies stops.confs first.small stops.files (stops.none rest is);
        };
      }
  input_stopped c fault.Failed later stops = fails_behind a b c (frame_text ask_word ask) first.takes later stops
  input_stopped c fault.NoMemory later stops = lacks_behind a b c (frame_text ask_word ask) first.takes stops

  pub input_read : (c : LinkState) (confs : Confs) → TakesFiles b c confs → ReadsInput a c ask confs
  input_read c confs files = record {
    bodies = files.bodies;
    small = first.small;
    files = files.files;
    takes = takes_more a b c (frame_text ask_word ask) (files_text files.bodies) first.takes files.takes;
    ended = files.ended;
  }
