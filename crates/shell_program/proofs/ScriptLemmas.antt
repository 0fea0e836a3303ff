-- One session more of a script, and its end.
use Rattle.std.proofs.Common.{◌≡◌, ◌⊎◌, inl, inr, ℕ, ◌+◌, ◌<◌, ◌≤◌, true, false, IsTrue, List, [], ◌∷◌, ◌++◌, length, Option, Some, None, Result, Ok, Err, refl, sym, ◌∙◌, ap, subst, arith, append_assoc, length-append}
use Rattle.std.specs.Prelude.{is_some, codes, decimal}
use Rattle.std.specs.List.{flat_map}
use Rattle.std.proofs.lemmas.List.{append-nil}
use Rattle.std.proofs.lemmas.List.Concat.{flat_map-append}
use Rattle.std.proofs.KnownBytes.{Appends-nil, Consumes-nil}
use Rattle.std.specs.Io.KnownBytes.{Appends, Consumes}
use Rattle.base_types.specs.Counts.{HasRisen}
use Rattle.pktline_core.specs.LinkState.{LinkState}
use Rattle.pktline_core.specs.Links.{IsLater}
use Rattle.pktline_core.proofs.LinkLemmas.{appends_more, risen_later}
use Rattle.hub_history.specs.declared.entry.Entry.{Entry}
use Rattle.ref_store.specs.Refs.{Name}
use Rattle.hub.specs.Desk.{DeskView}
use Rattle.interaction_tree.specs.Traces.{Failure, Failed, Begins, FallsShort}
use Rattle.interaction_tree.specs.Turns as stop
use Rattle.interaction_tree.specs.Alone.{TurnAlone}
use Rattle.interaction_tree.specs.Endings.{IsInput, EndsAsDue, LacksMemory, TakesTurn}
use Rattle.interaction_tree.specs.Growth.{GrowsBy, own_since}
use Rattle.interaction_tree.specs.Requests.{OwnEntry}
use Rattle.interaction_tree.proofs.DeskLemmas.{makes_alone}
use Rattle.interaction_tree.proofs.AloneLemmas.{alone_is, alone_begins, alone_grows}
use Rattle.session_core.specs.declared.end.SessionEnd.{SessionEnd}
use Rattle.session_core.specs.declared.end.SessionEnd.TheVariants as end
use Rattle.session_core.specs.End.{halt_of, HasCause}
use Rattle.session_core.specs.Recorded.{IsRecorded, Recorded}
use Rattle.session_core.specs.Rulebook.{ByRulebook}
use Rattle.session_core.proofs.RulebookLemmas.{recorded_before}
use Rattle.git_session.specs.Session.{session}
use Rattle.script_frames.specs.Frames.{head_text, AreBodies, IsWord}
use Rattle.script_frames.specs.ReadingFrames.{Takes, IsRest}
use Rattle.script_frames.specs.Frames as frames
use Rattle.shell_program.specs.SessionFrames.{session_word, frame_text, BeginsNoFrame, TakesFrame, TakesNoFrame, GoesNoFurther}
use Rattle.shell_program.specs.Script.{end_word, stop_word, reply_text, fault_text, served_alone, Printed, sessions, bad_offset, last_line, script}
use Rattle.shell_program.specs.RunningScripts.{Serves, Advances, AdvancesOne, FindsEnd, FindsBad, MayLackAfter, FailsAtRead, LacksAtRead, LacksSession, LacksServing, ServesPart, ServesUnkept, TellsPart, StopsAdvancing, RunsScript, StopsAtRead, StopsServing, StopsTelling, StopsAtDisk, StopsAtWrite, StopsForMemory, StopsScript}
use Rattle.shell_program.specs.declared.script.ScriptFault.{ScriptFault}
use Rattle.shell_program.specs.declared.script.ScriptFault.TheVariants.{BadScript, InputFault, OutputFault, DiskFault, NoMemory}
use Rattle.script_frames.proofs.FrameLemmas.{begins_none}
use Rattle.script_frames.proofs.ReadingLemmas.{takes_more, no_rest}

-- I. One session

-- the whole input, of which this was taken
input_of : (left left' : Option (List ℕ)) (taken : List ℕ) → Consumes left left' taken → (more : List ℕ) × IsRest left' more × IsInput left (taken ++ more)
input_of None None taken consumed = ([], refl, tt)
input_of None (Some rest) taken consumed = (rest, refl, tt)
input_of (Some input) None taken consumed = absurd consumed
input_of (Some input) (Some rest) taken consumed = (rest, refl, consumed)

-- over a link that tells its bytes, alone at its hub
alone_turn : (recorded : Recorded) (a b : LinkState) (old new : DeskView) (body out : List ℕ) (end : SessionEnd) → a.left ≡ Some body → a.written ≡ Some [] → b.written ≡ Some out → IsTrue old.alone
    → GrowsBy old new (own_since old new) → EndsAsDue a b (own_since old new) (session recorded.book old.admin) end → IsRecorded old.admin new.seen recorded
    → served_alone recorded old.admin body old.seen ≡ record { bytes = out; stop = stop.Ended end; log = new.seen }
unfolding served_alone
alone_turn recorded a b old new body out end left empty written alone grows ends of =
    let input : body ≡ ends.input = rw left at ends.told in
    let bytes = rw (empty, written) at ends.written in
    rw (input, bytes)
    (alone_is recorded.answers end (session recorded.book old.admin) ends.input (own_since old new) old.seen new.seen (makes_alone old new (own_since old new) alone grows.made recorded.answers of.agrees) ends.entries ends.end_is)

pub serves : (a b : LinkState) (old new : DeskView) (number : ℕ) (body out word text : List ℕ) (end : SessionEnd) → a.left ≡ Some body → a.written ≡ Some [] → b.written ≡ Some out → IsTrue old.alone
    → GrowsBy old new (own_since old new) → ByRulebook old.admin new.seen (λ book. EndsAsDue a b (own_since old new) (session book old.admin) end) → word ≡ end_word end → text ≡ reply_text number word out → Serves old new number body text
serves a b old new number body out word text end left empty written alone grows ends word_is text_is = record {
  printed = λ recorded of. rw (alone_turn recorded a b old new body out end left empty written alone grows (ends recorded.book of.book) of) (text_is ∙ ap (λ (w : List ℕ). reply_text number w out) word_is);
  seen = λ recorded of. rw (alone_turn recorded a b old new body out end left empty written alone grows (ends recorded.book of.book) of) refl;
  admin = ap (λ (d : DeskView). d.admin) grows.new_is;
  alone = subst (λ (d : DeskView). IsTrue d.alone) (sym grows.new_is) alone;
}

-- what was seen goes on
pub grows_on : (old new : DeskView) → GrowsBy old new (own_since old new) → Begins old.seen new.seen
grows_on old new grows = (grows.more, ap (λ (d : DeskView). d.seen) grows.new_is)

-- where memory lacked in it
pub session_lacks : (a b : LinkState) (old new : DeskView) (body : List ℕ) → a.left ≡ Some body → IsTrue old.alone → GrowsBy old new (own_since old new)
    → ByRulebook old.admin new.seen (λ book. LacksMemory a b (own_since old new) (session book old.admin)) → LacksSession old new body
unfolding served_alone
session_lacks a b old new body left alone grows lacks = record {
  goes_on = grows_on old new grows;
  within = λ recorded of.
      let lack = lacks recorded.book of.book in
      let whole = input_of a.left b.left lack.part lack.read in
      let input : body ≡ lack.part ++ whole.0 = subst (λ (l : Option (List ℕ)). IsInput l (lack.part ++ whole.0)) left whole.2 in
      rw input
      (alone_begins recorded.answers (session recorded.book old.admin) lack.part whole.0 (own_since old new) old.seen new.seen (makes_alone old new (own_since old new) alone grows.made recorded.answers of.agrees) lack.entries);
}

-- over a link that can't fail only memory may lack
pub only_memory : (a b : LinkState) (own : List OwnEntry) (admin : Name) (log : List Entry) (end : SessionEnd) (failure : Failure) → a.may_fail ≡ false → HasCause a b end → halt_of end ≡ Failed failure
    → ByRulebook admin log (λ book. TakesTurn a b own (session book admin) (halt_of end)) → ByRulebook admin log (λ book. LacksMemory a b own (session book admin))
only_memory a b own admin log end.ReadFault failure cannot cause is turn = absurd (let may : false ≡ true = sym cannot ∙ cause.1 in cc)
only_memory a b own admin log end.WriteFault failure cannot cause is turn = absurd (let may : false ≡ true = sym cannot ∙ cause.1 in cc)
only_memory a b own admin log end.NoMemory failure cannot cause is turn = turn
only_memory a b own admin log end.Served failure cannot cause is turn = absurd cc
only_memory a b own admin log end.Denied failure cannot cause is turn = absurd cc
only_memory a b own admin log end.NoRepo failure cannot cause is turn = absurd cc
only_memory a b own admin log (end.BadPack fault) failure cannot cause is turn = absurd cc
only_memory a b own admin log (end.NotOurRef id) failure cannot cause is turn = absurd cc
only_memory a b own admin log end.BadCommand failure cannot cause is turn = absurd cc
only_memory a b own admin log end.BadUser failure cannot cause is turn = absurd cc
only_memory a b own admin log (end.Malformed offset) failure cannot cause is turn = absurd cc
only_memory a b own admin log (end.TooLong count) failure cannot cause is turn = absurd cc
only_memory a b own admin log end.Truncated failure cannot cause is turn = absurd cc

-- a session that was served, whose reply had no room
pub serves_unsaid : (old new : DeskView) (number : ℕ) (body text : List ℕ) → Begins old.seen new.seen → Serves old new number body text → LacksSession old new body
serves_unsaid old new number body text goes_on served = record { goes_on = goes_on; within = λ recorded of. ([], sym (served.seen recorded of) ∙ sym (append-nil new.seen)) }

-- II. Sessions one after the other

-- a session, and sessions, go on from the log before them
pub served_grows : (recorded : Recorded) (admin : Name) (body : List ℕ) (log : List Entry) → Begins log (served_alone recorded admin body log).log
unfolding served_alone
served_grows recorded admin body log = alone_grows recorded.answers (session recorded.book admin) body log

pub grows_more : (a b c : List Entry) → Begins a b → Begins b c → Begins a c
grows_more a b c p q = (p.0 ++ q.0, q.1 ∙ ap (λ (l : List Entry). l ++ q.0) p.1 ∙ append_assoc a p.0 q.0)

sessions_grow : (recorded : Recorded) (admin : Name) (number : ℕ) (bodies : List (List ℕ)) (log : List Entry) → Begins log (sessions recorded admin number bodies log).log
unfolding sessions
sessions_grow recorded admin number [] log = ([], sym (append-nil log))
sessions_grow recorded admin number (body ∷ bodies) log =
    let turn : TurnAlone SessionEnd (Unit {0}) = served_alone recorded admin body log in
    grows_more log turn.log (sessions recorded admin (number + 1) bodies turn.log).log (served_grows recorded admin body log) (sessions_grow recorded admin (number + 1) bodies turn.log)

-- recorded that agree with the log after sessions agree with the one before them
before_sessions : (recorded : Recorded) (admin : Name) (number : ℕ) (bodies : List (List ℕ)) (log log' : List Entry) → log' ≡ (sessions recorded admin number bodies log).log → IsRecorded admin log' recorded → IsRecorded admin log recorded
before_sessions recorded admin number bodies log log' is of = recorded_before admin log log' recorded (subst (Begins log) (sym is) (sessions_grow recorded admin number bodies log)) of

pub before_served : (recorded : Recorded) (admin : Name) (body : List ℕ) (log log' : List Entry) → log' ≡ (served_alone recorded admin body log).log → IsRecorded admin log' recorded → IsRecorded admin log recorded
before_served recorded admin body log log' is of = recorded_before admin log log' recorded (subst (Begins log) (sym is) (served_grows recorded admin body log)) of

module _ (recorded : Recorded) where
  sessions_more : (admin : Name) (number next : ℕ) (bodies more : List (List ℕ)) (log : List Entry) → next ≡ number + length bodies
      → sessions recorded admin number (bodies ++ more) log ≡ record {
        output = (sessions recorded admin number bodies log).output ++ (sessions recorded admin next more (sessions recorded admin number bodies log).log).output;
        log = (sessions recorded admin next more (sessions recorded admin number bodies log).log).log;
      }
  unfolding sessions
  sessions_more admin number next [] more log is = ap (λ n. sessions recorded admin n more log) (omega arith)
  sessions_more admin number next (body ∷ bodies) more log is =
      let turn : TurnAlone SessionEnd (Unit {0}) = served_alone recorded admin body log in
      let text : List ℕ = reply_text number (stop_word turn.stop) turn.bytes in
      ap (λ (p : Printed). record { output = text ++ p.output; log = p.log }) (sessions_more admin (number + 1) next bodies more turn.log (omega (arith, is)))
      ∙ ap (λ (o : List ℕ). record { output = o; log = (sessions recorded admin next more (sessions recorded admin (number + 1) bodies turn.log).log).log })
      (sym (append_assoc text (sessions recorded admin (number + 1) bodies turn.log).output (sessions recorded admin next more (sessions recorded admin (number + 1) bodies turn.log).log).output))

  -- one session alone
  one_session : (admin : Name) (number : ℕ) (body : List ℕ) (log : List Entry)
      → sessions recorded admin number (body ∷ []) log ≡ record { output = reply_text number (stop_word (served_alone recorded admin body log).stop) (served_alone recorded admin body log).bytes; log = (served_alone recorded admin body log).log }
  unfolding sessions
  one_session admin number body log = ap (λ (o : List ℕ). record { output = o; log = (served_alone recorded admin body log).log }) (append-nil _)

bodies_more : (bodies more : List (List ℕ)) → AreBodies bodies → AreBodies more → AreBodies (bodies ++ more)
bodies_more [] more p q = q
bodies_more (body ∷ bodies) more p q = (p.0, bodies_more bodies more p.1 q)

pub advances_one : (source source' sink sink' : LinkState) (old new : DeskView) (number taken : ℕ) (body text : List ℕ)
    → TakesFrame source source' taken body → Serves old new number body text → Appends sink.written sink'.written text → AdvancesOne source source' sink sink' old new number taken
unfolding sessions
advances_one source source' sink sink' old new number taken body text frame served wrote = record {
  body = body;
  advances = record {
    small = (frame.small, tt);
    takes = subst (Takes source source') (sym (append-nil (frame_text body))) frame.takes;
    written = λ recorded of. subst (Appends sink.written sink'.written) (served.printed recorded of ∙ sym (append-nil _)) wrote;
    seen = served.seen;
    admin = served.admin;
    alone = served.alone;
  };
  counted = frame.counted;
}

pub advances_none : (source sink : LinkState) (desk : DeskView) → IsTrue desk.alone → Advances source source sink sink desk desk 1 []
unfolding sessions
advances_none source sink desk alone = record {
  small = tt;
  takes = record { consumed = Consumes-nil source.left; counted = omega arith };
  written = λ recorded of. Appends-nil sink.written;
  seen = λ recorded of. refl;
  admin = refl;
  alone = alone;
}

pub advances_more : (s s' s'' k k' k'' : LinkState) (d d' d'' : DeskView) (number next : ℕ) (bodies more : List (List ℕ)) → next ≡ number + length bodies
    → Advances s s' k k' d d' number bodies → Advances s' s'' k' k'' d' d'' next more → Advances s s'' k k'' d d'' number (bodies ++ more)
advances_more s s' s'' k k' k'' d d' d'' number next bodies more is p q =
    let there : (recorded : Recorded) → IsRecorded d.admin d''.seen recorded → IsRecorded d'.admin d''.seen recorded = λ recorded of. subst (λ (a : Name). IsRecorded a d''.seen recorded) (sym p.admin) of in
    let mid : (recorded : Recorded) → IsRecorded d.admin d''.seen recorded → IsRecorded d.admin d'.seen recorded = λ recorded of.
    subst (λ (a : Name). IsRecorded a d'.seen recorded) p.admin (before_sessions recorded d'.admin next more d'.seen d''.seen (q.seen recorded (there recorded of)) (there recorded of)) in
    record {
      small = bodies_more bodies more p.small q.small;
      takes = subst (Takes s s'') (sym (flat_map-append frame_text bodies more)) (takes_more s s' s'' (flat_map frame_text bodies) (flat_map frame_text more) p.takes q.takes);
      written = λ recorded of.
          let written = rw (p.admin, p.seen recorded (mid recorded of)) at (q.written recorded (there recorded of)) in
          rw (sessions_more recorded d.admin number next bodies more d.seen is) (appends_more k.written k'.written k''.written _ _ (p.written recorded (mid recorded of)) written);
      seen = λ recorded of. let seen = rw (p.admin, p.seen recorded (mid recorded of)) at (q.seen recorded (there recorded of)) in rw (sessions_more recorded d.admin number next bodies more d.seen is) seen;
      admin = q.admin ∙ p.admin;
      alone = q.alone;
    }

-- the word of a script's frames is one
pub session_is_word : IsWord session_word
session_is_word = record {
  no_feed = ((λ e. omega (arith, e)), ((λ e. omega (arith, e)), ((λ e. omega (arith, e)), ((λ e. omega (arith, e)), ((λ e. omega (arith, e)), ((λ e. omega (arith, e)), ((λ e. omega (arith, e)), ((λ e. omega (arith, e)), tt))))))));
  short = omega arith;
}

-- a frame takes a byte at least
pub some_frame : (body : List ℕ) → 0 < length (frame_text body)
unfolding frames.frame_text
some_frame body = omega (arith, length-append (head_text session_word (length body)) (10 ∷ (body ++ 10 ∷ [])))

pub count_frames : (bodies : List (List ℕ)) → length bodies ≤ length (flat_map frame_text bodies)
count_frames [] = omega arith
count_frames (body ∷ bodies) = omega (arith, count_frames bodies, some_frame body, length-append (frame_text body) (flat_map frame_text bodies))

-- III. The end of a script

pub some_fault : (offset : ℕ) → 0 < length (fault_text offset)
unfolding fault_text
some_fault offset = omega (arith, length-append (codes "bad script at ") (decimal offset ++ 10 ∷ []))

-- a frame is bad, and the line that says so had no room
pub untold : (source source' sink : LinkState) (desk : DeskView) (number offset : ℕ) → TakesNoFrame source source' → StopsAdvancing source source' sink sink desk desk number offset NoMemory
untold source source' sink desk number offset bad =
    inr (inr (inr (record { read = bad; part = record { bytes = []; short = (fault_text offset, refl, some_fault offset); written = Appends-nil sink.written }; desk_is = refl }, inl refl)))

runs_to : (s s' s'' k k' k'' : LinkState) (d d' d'' : DeskView) (bodies : List (List ℕ)) (part : List ℕ) (at : Option ℕ)
    → Advances s s' k k' d d' 1 bodies → Takes s' s'' part → ((more : List ℕ) → IsRest s''.left more → BeginsNoFrame (part ++ more) × (bad_offset bodies (part ++ more) ≡ at))
    → (IsTrue (is_some at) → (0 < length part) × GoesNoFurther part) → Appends k'.written k''.written (last_line at) → d'' ≡ d' → RunsScript s s'' k k'' d.admin d.seen d''.seen (is_some at)
unfolding script
runs_to s s' s'' k k' k'' d d' d'' bodies part at advances last follows some wrote same =
    let takes = takes_more s s' s'' (flat_map frame_text bodies) part advances.takes last in
    let whole = input_of s.left s''.left (flat_map frame_text bodies ++ part) takes.consumed in
    let here = follows whole.0 whole.1 in
    let mid : (recorded : Recorded) → IsRecorded d.admin d''.seen recorded → IsRecorded d.admin d'.seen recorded = λ recorded of. subst (λ (e : DeskView). IsRecorded d.admin e.seen recorded) same of in
    record {
      input = (flat_map frame_text bodies ++ part) ++ whole.0;
      bodies = bodies;
      rest = part ++ whole.0;
      part = part;
      told = whole.2;
      is_script = record { frames = append_assoc (flat_map frame_text bodies) part whole.0; small = advances.small; stops = here.0 };
      bad_is = ap is_some here.1;
      follows = (whole.0, whole.1, refl);
      some = λ bad. (some bad).0;
      no_further = λ bad. (some bad).1;
      takes = takes;
      written = λ recorded of. rw here.1 (appends_more k.written k'.written k''.written _ _ (advances.written recorded (mid recorded of)) wrote);
      log_is = λ recorded of. ap (λ (e : DeskView). e.seen) same ∙ advances.seen recorded (mid recorded of);
    }

pub runs_end : (s s' s'' k k' k'' : LinkState) (d d' d'' : DeskView) (bodies : List (List ℕ)) → Advances s s' k k' d d' 1 bodies → FindsEnd s' s'' k' k'' d' d'' → RunsScript s s'' k k'' d.admin d.seen d''.seen false
runs_end s s' s'' k k' k'' d d' d'' bodies advances end =
    runs_to s s' s'' k k' k'' d d' d'' bodies [] None advances end.takes
    (λ more is. let none : more ≡ [] = no_rest s''.left more end.ended is in rw none (begins_none session_word session_is_word, refl))
    (λ bad. absurd (let none : false ≡ true = bad in cc)) (rw end.sink_is (Appends-nil k'.written)) end.desk_is

bad_some : (bodies : List (List ℕ)) (part more : List ℕ) (offset : ℕ) → 0 < length part → offset ≡ length (flat_map frame_text bodies) → bad_offset bodies (part ++ more) ≡ Some offset
bad_some bodies [] more offset some is = absurd (omega (arith, some))
bad_some bodies (b ∷ part) more offset some is = ap (λ n. Some n) (sym is)

pub runs_bad : (s s' s'' k k' k'' : LinkState) (d d' d'' : DeskView) (bodies : List (List ℕ)) (offset : ℕ) → Advances s s' k k' d d' 1 bodies → offset ≡ length (flat_map frame_text bodies)
    → FindsBad s' s'' k' k'' d' d'' offset → RunsScript s s'' k k'' d.admin d.seen d''.seen true
runs_bad s s' s'' k k' k'' d d' d'' bodies offset advances is bad =
    runs_to s s' s'' k k' k'' d d' d'' bodies bad.read.part (Some offset) advances bad.read.takes
    (λ more rest. (bad.read.bad more rest, bad_some bodies bad.read.part more offset bad.read.some is)) (λ bad_is. (bad.read.some, bad.read.no_further)) bad.written bad.desk_is

-- IV. The loop

pub given_more : (s s' k k' : LinkState) (d d' : DeskView) (number taken : ℕ) → AdvancesOne s s' k k' d d' number taken → s.given < s'.given
given_more s s' k k' d d' number taken one = omega (arith, one.advances.takes.counted, some_frame one.body, length-append (frame_text one.body) [])

pub advances_next : (s s' s'' k k' k'' : LinkState) (d d' d'' : DeskView) (number offset taken : ℕ) (bodies : List (List ℕ)) → Advances s s' k k' d d' 1 bodies → number ≡ 1 + length bodies
    → offset ≡ length (flat_map frame_text bodies) → AdvancesOne s' s'' k' k'' d' d'' number taken
    → (all : List (List ℕ)) × Advances s s'' k k'' d d'' 1 all × (number + 1 ≡ 1 + length all) × (offset + taken ≡ length (flat_map frame_text all))
advances_next s s' s'' k k' k'' d d' d'' number offset taken bodies advances count place one = (
  bodies ++ one.body ∷ [],
  advances_more s s' s'' k k' k'' d d' d'' 1 number bodies (one.body ∷ []) count advances one.advances,
  omega (arith, count, length-append bodies (one.body ∷ [])),
  omega (arith, place, one.counted, ap length (flat_map-append frame_text bodies (one.body ∷ [])), length-append (flat_map frame_text bodies) (flat_map frame_text (one.body ∷ [])), length-append (frame_text one.body) []),
)

module _ (s s' s'' k k' k'' : LinkState) (d d' d'' : DeskView) (bodies : List (List ℕ)) (advances : Advances s s' k k' d d' 1 bodies) where
  out : Recorded → List ℕ
  out recorded = (sessions recorded d.admin 1 bodies d.seen).output

  -- nothing was logged since
  unmoved : d'' ≡ d' → (recorded : Recorded) → IsRecorded d.admin d''.seen recorded → IsRecorded d.admin d'.seen recorded
  unmoved same recorded of = subst (λ (e : DeskView). IsRecorded d.admin e.seen recorded) same of

  -- the admin stays the same
  there : (log : List Entry) (recorded : Recorded) → IsRecorded d.admin log recorded → IsRecorded d'.admin log recorded
  there log recorded of = subst (λ (a : Name). IsRecorded a log recorded) (sym advances.admin) of

  log_unmoved : d'' ≡ d' → (recorded : Recorded) → IsRecorded d.admin d''.seen recorded → d''.seen ≡ (sessions recorded d.admin 1 bodies d.seen).log
  log_unmoved same recorded of = ap (λ (e : DeskView). e.seen) same ∙ advances.seen recorded (unmoved same recorded of)

  stops_read : IsLater s s' → FailsAtRead s' s'' k' k'' d' d'' → StopsAtRead s s'' k k'' d.admin d.seen d''.seen
  stops_read later fails = record {
    bodies = bodies;
    part = fails.read.part;
    small = advances.small;
    none = fails.read.none;
    wants = fails.read.wants;
    takes = takes_more s s' s'' (flat_map frame_text bodies) fails.read.part advances.takes fails.read.fails.takes;
    written = λ recorded of. rw fails.sink_is (advances.written recorded (unmoved fails.desk_is recorded of));
    log_is = log_unmoved fails.desk_is;
    risen = risen_later s.read_faults s'.read_faults s''.read_faults later.read_faults fails.read.fails.risen;
  }

  more_short : (first bytes text : List ℕ) → FallsShort bytes text → FallsShort (first ++ bytes) (first ++ text)
  more_short first bytes text short = (short.0, ap (λ (l : List ℕ). first ++ l) short.1 ∙ sym (append_assoc first bytes short.0), short.2)

  told : (offset : ℕ) → offset ≡ length (flat_map frame_text bodies) → (tells : TellsPart s' s'' k' k'' d' d'' offset) → StopsTelling s s'' d.admin d.seen d''.seen bodies tells.part.bytes
  unfolding script out
  told offset place tells =
      let takes = takes_more s s' s'' (flat_map frame_text bodies) tells.read.part advances.takes tells.read.takes in
      let whole = input_of s.left s''.left (flat_map frame_text bodies ++ tells.read.part) takes.consumed in
      record {
        rest = tells.read.part ++ whole.0;
        part = tells.read.part;
        told = subst (IsInput s.left) (append_assoc (flat_map frame_text bodies) tells.read.part whole.0) whole.2;
        small = advances.small;
        none = tells.read.bad whole.0 whole.1;
        follows = (whole.0, whole.1, refl);
        some = tells.read.some;
        no_further = tells.read.no_further;
        takes = takes;
        short = λ recorded of. rw (bad_some bodies tells.read.part whole.0 offset tells.read.some place) (more_short (out recorded) tells.part.bytes (fault_text offset) tells.part.short);
        log_is = log_unmoved tells.desk_is;
      }

  frames_more : (body : List ℕ) → flat_map frame_text bodies ++ frame_text body ≡ flat_map frame_text (bodies ++ body ∷ [])
  frames_more body = ap (λ (l : List ℕ). flat_map frame_text bodies ++ l) (sym (append-nil (frame_text body))) ∙ sym (flat_map-append frame_text bodies (body ∷ []))

  one_more : (number : ℕ) → number ≡ 1 + length bodies → (body : List ℕ) (recorded : Recorded) → IsRecorded d.admin d'.seen recorded
      → sessions recorded d.admin 1 (bodies ++ body ∷ []) d.seen ≡ record {
        output = out recorded ++ reply_text number (stop_word (served_alone recorded d'.admin body d'.seen).stop) (served_alone recorded d'.admin body d'.seen).bytes;
        log = (served_alone recorded d'.admin body d'.seen).log;
      }
  unfolding out
  one_more number count body recorded of =
      subst (λ (p : Name × List Entry). sessions recorded d.admin 1 (bodies ++ body ∷ []) d.seen
      ≡ record { output = out recorded ++ reply_text number (stop_word (served_alone recorded p.0 body p.1).stop) (served_alone recorded p.0 body p.1).bytes; log = (served_alone recorded p.0 body p.1).log })
      (λ i. (sym advances.admin i, sym (advances.seen recorded of) i))
      (sessions_more recorded d.admin 1 number bodies (body ∷ []) d.seen count
      ∙ ap (λ (p : Printed). record { output = out recorded ++ p.output; log = p.log }) (one_session recorded d.admin number body (sessions recorded d.admin 1 bodies d.seen).log))

  -- recorded that agree with the log after the session that was served agree with the one before it
  before_part : (number : ℕ) (part : ServesPart s' s'' k' k'' d' d'' number) (recorded : Recorded) → IsRecorded d.admin d''.seen recorded → IsRecorded d.admin d'.seen recorded
  before_part number part recorded of =
      subst (λ (a : Name). IsRecorded a d'.seen recorded) advances.admin
      (before_served recorded d'.admin part.body d'.seen d''.seen (part.serves.seen recorded (there d''.seen recorded of)) (there d''.seen recorded of))

  served : (number : ℕ) → number ≡ 1 + length bodies → (part : ServesPart s' s'' k' k'' d' d'' number) → StopsServing s s'' d.admin d.seen d''.seen bodies part.part.bytes
  unfolding out
  served number count part = record {
    body = part.body;
    small = bodies_more bodies (part.body ∷ []) advances.small (part.read.small, tt);
    takes = subst (λ (l : List ℕ). Takes s s'' l) (frames_more part.body) (takes_more s s' s'' (flat_map frame_text bodies) (frame_text part.body) advances.takes part.read.takes);
    short = λ recorded of.
        rw (one_more number count part.body recorded (before_part number part recorded of), ← part.serves.printed recorded (there d''.seen recorded of)) (more_short (out recorded) part.part.bytes part.text part.part.short);
    log_is = λ recorded of. rw (one_more number count part.body recorded (before_part number part recorded of)) (part.serves.seen recorded (there d''.seen recorded of));
  }

  wrote : (bytes : List ℕ) → Appends k'.written k''.written bytes → (recorded : Recorded) → IsRecorded d.admin d'.seen recorded → Appends k.written k''.written (out recorded ++ bytes)
  unfolding out
  wrote bytes appended recorded of = appends_more k.written k'.written k''.written (out recorded) bytes (advances.written recorded of) appended

  stops_write : (number offset : ℕ) → number ≡ 1 + length bodies → offset ≡ length (flat_map frame_text bodies) → IsLater k k'
      → ServesPart s' s'' k' k'' d' d'' number ⊎ TellsPart s' s'' k' k'' d' d'' offset → HasRisen k'.write_faults k''.write_faults → StopsAtWrite s s'' k k'' d.admin d.seen d''.seen
  unfolding out
  stops_write number offset count place later (inl part) risen =
      record { done = bodies; more = part.part.bytes; written = λ recorded of. wrote part.part.bytes part.part.written recorded (before_part number part recorded of); stops = inl (served number count part); risen = risen_later k.write_faults k'.write_faults k''.write_faults later.write_faults risen }
  stops_write number offset count place later (inr tells) risen =
      record { done = bodies; more = tells.part.bytes; written = λ recorded of. wrote tells.part.bytes tells.part.written recorded (unmoved tells.desk_is recorded of); stops = inr (told offset place tells); risen = risen_later k.write_faults k'.write_faults k''.write_faults later.write_faults risen }

  stops_disk : (number : ℕ) → number ≡ 1 + length bodies → ServesUnkept s' s'' k' k'' d' d'' number → StopsAtDisk s s'' k k'' d.admin d.seen d''.seen
  stops_disk number count unkept =
      let before : (recorded : Recorded) → IsRecorded d.admin d''.seen recorded → IsRecorded d.admin d'.seen recorded = λ recorded of.
      subst (λ (a : Name). IsRecorded a d'.seen recorded) advances.admin
      (before_served recorded d'.admin unkept.body d'.seen d''.seen (unkept.serves.seen recorded (there d''.seen recorded of)) (there d''.seen recorded of)) in
      record {
        done = bodies;
        body = unkept.body;
        small = bodies_more bodies (unkept.body ∷ []) advances.small (unkept.read.small, tt);
        takes = subst (λ (l : List ℕ). Takes s s'' l) (frames_more unkept.body) (takes_more s s' s'' (flat_map frame_text bodies) (frame_text unkept.body) advances.takes unkept.read.takes);
        written = λ recorded of. rw unkept.sink_is (advances.written recorded (before recorded of));
        log_is = λ recorded of. rw (one_more number count unkept.body recorded (before recorded of)) (unkept.serves.seen recorded (there d''.seen recorded of));
      }

  may_lack : (bytes : List ℕ) → IsLater k k' → MayLackAfter k' bytes → MayLackAfter k bytes
  may_lack bytes later may = rw later.may_lack at may

  -- entries were made since
  begun : Begins d'.seen d''.seen → (recorded : Recorded) → IsRecorded d.admin d''.seen recorded → IsRecorded d.admin d'.seen recorded
  begun goes_on recorded of = recorded_before d.admin d'.seen d''.seen recorded goes_on of

  -- where nothing more was printed
  unsaid : k'' ≡ k' → (recorded : Recorded) → IsRecorded d.admin d'.seen recorded → Appends k.written k''.written (out recorded ++ [])
  unsaid same recorded of = wrote [] (rw same (Appends-nil k'.written)) recorded of

  stops_memory : (number offset : ℕ) → number ≡ 1 + length bodies → offset ≡ length (flat_map frame_text bodies) → IsLater k k'
      → LacksAtRead s' s'' k' k'' d' d'' ⊎ LacksServing s' s'' k' k'' d' d'' ⊎ ((part : ServesPart s' s'' k' k'' d' d'' number) × MayLackAfter k' part.part.bytes) ⊎ ((tells : TellsPart s' s'' k' k'' d' d'' offset) × MayLackAfter k' tells.part.bytes)
      → StopsForMemory s s'' k k'' d.admin d.seen d''.seen
  unfolding out
  stops_memory number offset count place later (inl lacks) = record {
    done = bodies;
    more = [];
    written = λ recorded of. unsaid lacks.sink_is recorded (unmoved lacks.desk_is recorded of);
    may_lack = inl refl;
    stops =
        inl (record {
          part = lacks.read.part;
          small = advances.small;
          none = lacks.read.none;
          inside = inr lacks.read.inside;
          takes = takes_more s s' s'' (flat_map frame_text bodies) lacks.read.part advances.takes lacks.read.takes;
          nothing = refl;
          log_is = log_unmoved lacks.desk_is;
        });
  }
  stops_memory number offset count place later (inr (inl lacks)) = record {
    done = bodies;
    more = [];
    written = λ recorded of. unsaid lacks.sink_is recorded (begun lacks.lacks.goes_on recorded of);
    may_lack = inl refl;
    stops =
        inr (inl (record {
          body = lacks.body;
          small = bodies_more bodies (lacks.body ∷ []) advances.small (lacks.read.small, tt);
          takes = subst (λ (l : List ℕ). Takes s s'' l) (frames_more lacks.body) (takes_more s s' s'' (flat_map frame_text bodies) (frame_text lacks.body) advances.takes lacks.read.takes);
          nothing = refl;
          goes_on = λ recorded of. subst (λ (l : List Entry). Begins l d''.seen) (advances.seen recorded (begun lacks.lacks.goes_on recorded of)) lacks.lacks.goes_on;
          within = λ recorded of. rw (one_more number count lacks.body recorded (begun lacks.lacks.goes_on recorded of)) (lacks.lacks.within recorded (there d''.seen recorded of));
        }));
  }
  stops_memory number offset count place later (inr (inr (inl (part, may)))) =
      record { done = bodies; more = part.part.bytes; written = λ recorded of. wrote part.part.bytes part.part.written recorded (before_part number part recorded of); may_lack = may_lack part.part.bytes later may; stops = inr (inr (inl (served number count part))) }
  stops_memory number offset count place later (inr (inr (inr (tells, may)))) =
      record { done = bodies; more = tells.part.bytes; written = λ recorded of. wrote tells.part.bytes tells.part.written recorded (unmoved tells.desk_is recorded of); may_lack = may_lack tells.part.bytes later may; stops = inr (inr (inr (told offset place tells))) }

pub stops : (s s' s'' k k' k'' : LinkState) (d d' d'' : DeskView) (bodies : List (List ℕ)) (number offset : ℕ) (fault : ScriptFault) → Advances s s' k k' d d' 1 bodies → number ≡ 1 + length bodies
    → offset ≡ length (flat_map frame_text bodies) → IsLater s s' → IsLater k k' → StopsAdvancing s' s'' k' k'' d' d'' number offset fault → StopsScript s s'' k k'' d.admin d.seen d''.seen fault
stops s s' s'' k k' k'' d d' d'' bodies number offset BadScript advances count place input output stop = runs_bad s s' s'' k k' k'' d d' d'' bodies offset advances place stop
stops s s' s'' k k' k'' d d' d'' bodies number offset InputFault advances count place input output stop = stops_read s s' s'' k k' k'' d d' d'' bodies advances input stop
stops s s' s'' k k' k'' d d' d'' bodies number offset OutputFault advances count place input output stop = stops_write s s' s'' k k' k'' d d' d'' bodies advances number offset count place output stop.0 stop.1
stops s s' s'' k k' k'' d d' d'' bodies number offset DiskFault advances count place input output stop = stops_disk s s' s'' k k' k'' d d' d'' bodies advances number count stop
stops s s' s'' k k' k'' d d' d'' bodies number offset NoMemory advances count place input output stop = stops_memory s s' s'' k k' k'' d d' d'' bodies advances number offset count place output stop
