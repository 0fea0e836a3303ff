-- The rules in force along a log, and calls of a session that go by them.
use Rattle.std.proofs.Common.{◌≡◌, ℕ, zero, suc, ◌+◌, ◌<◌, ◌≤◌, List, [], ◌∷◌, ◌++◌, length, take, Some, Result, Ok, Err, refl, sym, ◌∙◌, ap, subst, arith, append-nil, append_assoc, length-append}
use Rattle.std.specs.List.{slice_get}
use Rattle.std.specs.Result.{IsErrAnd}
use Rattle.std.proofs.KnownBytes.{Appends-nil, Consumes-nil}
use Rattle.std.proofs.lemmas.List.{take-append-le, take_all}
use Rattle.pktline_core.specs.LinkState.{LinkState}
use Rattle.pktline_core.specs.Links.{IsLater, KeepsWriting}
use Rattle.pktline_core.specs.Packets as packets
use Rattle.pktline_core.specs.Reading.{ReadsPacket, answer_of, packet_of}
use Rattle.pktline_core.specs.declared.packets.Pkt.{Pkt}
use Rattle.pktline_core.specs.declared.packets.PktFault.{PktFault}
use Rattle.pktline_core.proofs.LinkLemmas.{appends_more, consumes_more, later_more, later_same, risen_later}
use Rattle.ref_store.specs.Refs.{Name}
use Rattle.rule_compile.specs.Flat.{Flat}
use Rattle.rule_compile.specs.Patterns.{AreTrue, Patterns}
use Rattle.hub_history.specs.declared.entry.Entry.{Entry}
use Rattle.hub_history.specs.Conf.{AreInForce}
use Rattle.hub_history.specs.History.{IsLegal, Stands, replay}
use Rattle.hub_history.specs.Laws.{BeginningIsLegal, ConfStaysGood, OneAnswer, PinsAreOfOpenings}
use Rattle.hub_history.specs.Opening.{Opening, Pinned}
use Rattle.hub_history.specs.State.{Conf}
use Rattle.hub.specs.Desk.{DeskView, MakesEntry}
use Rattle.interaction_tree.specs.Interaction.{Interaction, gives, ◌>>=◌}
use Rattle.interaction_tree.specs.Requests.{OwnEntry}
use Rattle.interaction_tree.specs.Traces.{Begins, Ended, Failed, Halt, IsTrace, Memory, Reading, Writing}
use Rattle.interaction_tree.specs.Runs.{IsCaused, MakesAll, Runs}
use Rattle.interaction_tree.specs.Laws.{LogsHaveAnswers}
use Rattle.interaction_tree.proofs.AnswerLemmas.{agrees_front}
use Rattle.interaction_tree.proofs.TraceLemmas.{trace_bind, trace_halts, trace_memory}
use Rattle.session_core.specs.declared.end.SessionEnd.{SessionEnd}
use Rattle.session_core.specs.declared.end.SessionEnd.TheVariants as end
use Rattle.session_core.specs.End.{halt_of, outcome_at, outcome_of}
use Rattle.session_core.specs.Packets.{EndsBy, next_packet}
use Rattle.session_core.specs.Recorded.{IsRecorded, LegalLogsAreRecorded, Recorded}
use Rattle.session_core.specs.Rulebook.{IsRulebook, LegalLogsHaveRulebooks, Rulebook, RulebooksAgree, RunsByRulebook}
use Rattle.session_core.proofs.StepLemmas.{packet_ends, packet_read, told_as}

-- a log's rulebook is that of each beginning of it
pub rulebook_front : (admin : Name) (log more : List Entry) (book : Rulebook) → IsRulebook admin (log ++ more) book → IsRulebook admin log book
rulebook_front admin log more book is = record {
  matching = is.matching;
  in_force = λ place within.
      subst (λ (l : List Entry). AreInForce book.patterns (replay admin l).conf (book.rules place)) (take-append-le place log more within) (is.in_force place (omega (arith, within, length-append log more)));
}

-- ---- what a caller has seen goes on

seen_after : (a b : DeskView) (one : OwnEntry) → MakesEntry a b one.before one.entry → (b.admin ≡ a.admin) × Begins a.seen b.seen
seen_after a b one makes = (
  ap (λ (d : DeskView). d.admin) makes.new_is,
  (
    makes.others ++ one.entry ∷ [],
    ap (λ (d : DeskView). d.seen) makes.new_is ∙ ap (λ (l : List Entry). l ++ one.entry ∷ []) makes.before_is ∙ append_assoc a.seen makes.others (one.entry ∷ []),
  ),
)

begins_on : (a b c : List Entry) → Begins a b → Begins b c → Begins a c
begins_on a b c p q = (p.0 ++ q.0, q.1 ∙ ap (λ (l : List Entry). l ++ q.0) p.1 ∙ append_assoc a p.0 q.0)

pub made_on : (a b : DeskView) (own : List OwnEntry) → MakesAll a b own → (b.admin ≡ a.admin) × Begins a.seen b.seen
made_on a b [] is = (ap (λ (d : DeskView). d.admin) is, ([], ap (λ (d : DeskView). d.seen) is ∙ sym (append-nil a.seen)))
made_on a b (one ∷ own) made =
    let first = seen_after a made.0 one made.1 in
    let rest = made_on made.0 b own made.2 in
    (rest.0 ∙ first.0, begins_on a.seen made.0.seen b.seen first.1 rest.1)

-- a desk's rulebook is that of what it was before
pub rulebook_before : (d e : DeskView) (book : Rulebook) → (e.admin ≡ d.admin) × Begins d.seen e.seen → IsRulebook e.admin e.seen book → IsRulebook d.admin d.seen book
rulebook_before d e book grown is =
    rulebook_front d.admin d.seen grown.1.0 book (subst (λ (l : List Entry). IsRulebook d.admin l book) grown.1.1 (subst (λ (a : Name). IsRulebook a e.seen book) grown.0 is))

-- ---- code that runs an interaction by the rules

-- code that ran one which is, by each rulebook, the interaction
pub runs_told : {E A : Type 0} (a b : LinkState) (d e : DeskView) (s : Interaction E A) (t : Rulebook → Interaction E A) (out : Result A (Halt E)) → Runs a b d e s out
    → ((book : Rulebook) → IsRulebook e.admin e.seen book → s ≡ t book) → RunsByRulebook a b d e t out
runs_told {E} {A} a b d e s t out ran same = record {
  read = ran.read;
  written = ran.written;
  own = ran.own;
  consumed = ran.consumed;
  counted = ran.counted;
  appended = ran.appended;
  made = ran.made;
  trace = λ book of. subst (λ (u : Interaction E A). IsTrace b.left out u ran.read ran.written ran.own) (same book of) ran.trace;
  later = ran.later;
  caused = ran.caused;
}

-- one that goes by no rules
pub runs_always : {E A : Type 0} (a b : LinkState) (d e : DeskView) (t : Interaction E A) (out : Result A (Halt E)) → Runs a b d e t out → RunsByRulebook a b d e (λ book. t) out
runs_always a b d e t out ran = runs_told a b d e t (λ book. t) out ran (λ book of. refl)

-- memory may lack anywhere
pub memory_by : {E A : Type 0} (a : LinkState) (d : DeskView) (t : Rulebook → Interaction E A) → RunsByRulebook a a d d t (Err (Failed Memory))
memory_by a d t = record {
  read = [];
  written = [];
  own = [];
  consumed = Consumes-nil a.left;
  counted = omega arith;
  appended = Appends-nil a.written;
  made = refl;
  trace = λ book of. trace_memory a.left (t book);
  later = later_same a;
  caused = tt;
}

-- the same told on by `?`
pub lacks_by : {A : Type 0} (a : LinkState) (d : DeskView) (t : Rulebook → Interaction SessionEnd A) (r : Result A SessionEnd) → IsErrAnd r (λ (y : SessionEnd). y ≡ end.NoMemory) → RunsByRulebook a a d d t (outcome_of r)
lacks_by {A} a d t r is = told_as end.NoMemory (λ (r : Result A SessionEnd). RunsByRulebook a a d d t (outcome_of r)) (memory_by a d t) r is

-- by one rulebook
pub runs_by : {E A : Type 0} (a b : LinkState) (d e : DeskView) (t : Rulebook → Interaction E A) (out : Result A (Halt E)) (book : Rulebook) → IsRulebook e.admin e.seen book → RunsByRulebook a b d e t out → Runs a b d e (t book) out
runs_by a b d e t out book of ran = record {
  read = ran.read;
  written = ran.written;
  own = ran.own;
  consumed = ran.consumed;
  counted = ran.counted;
  appended = ran.appended;
  made = ran.made;
  trace = ran.trace book of;
  later = ran.later;
  caused = ran.caused;
}

pub made_more : (a b c : DeskView) (xs ys : List OwnEntry) → MakesAll a b xs → MakesAll b c ys → MakesAll a c (xs ++ ys)
made_more a b c [] ys p q = rw (sym p) q
made_more a b c (x ∷ xs) ys p q = (p.0, p.1, made_more p.0 b c xs ys p.2 q)

caused_later : {E A : Type 0} (a b c : LinkState) (out : Result A (Halt E)) → IsLater a b → IsCaused b c out → IsCaused a c out
caused_later a b c (Ok x) later h = tt
caused_later a b c (Err (Ended e)) later h = tt
caused_later a b c (Err (Failed Reading)) later h = (risen_later a.read_faults b.read_faults c.read_faults later.read_faults h.0, rw later.may_fail at h.1)
caused_later a b c (Err (Failed Writing)) later h = (risen_later a.write_faults b.write_faults c.write_faults later.write_faults h.0, rw later.may_fail at h.1)
caused_later a b c (Err (Failed Memory)) later h = tt

caused_halt : {E : Type 0} (A B : Type 0) (a b : LinkState) (halt : Halt E) → IsCaused {A = A} a b (Err halt) → IsCaused {A = B} a b (Err halt)
caused_halt A B a b (Ended e) h = tt
caused_halt A B a b (Failed Reading) h = h
caused_halt A B a b (Failed Writing) h = h
caused_halt A B a b (Failed Memory) h = tt

module _ {E A B : Type 0} (a b : LinkState) (d e : DeskView) (t : Rulebook → Interaction E A) (k : Rulebook → A → Interaction E B) where
  -- one, and then another
  pub bind_by : (c : LinkState) (f : DeskView) (x : A) (out : Result B (Halt E)) → RunsByRulebook a b d e t (Ok x) → RunsByRulebook b c e f (λ book. k book x) out → RunsByRulebook a c d f (λ book. t book >>= k book) out
  bind_by c f x out p q = record {
    read = p.read ++ q.read;
    written = p.written ++ q.written;
    own = p.own ++ q.own;
    consumed = consumes_more a.left b.left c.left p.read q.read p.consumed q.consumed;
    counted = omega (arith, p.counted, q.counted, length-append p.read q.read);
    appended = appends_more a.written b.written c.written p.written q.written p.appended q.appended;
    made = made_more d e f p.own q.own p.made q.made;
    trace = λ book of.
        trace_bind (k book) b.left c.left x out (t book) p.read p.written p.own q.read q.written q.own (p.trace book (rulebook_before e f book (made_on e f q.own q.made) of)) (q.trace book of);
    later = later_more a b c p.later q.later;
    caused = caused_later a b c out p.later q.caused;
  }

  -- one that is left without a value
  pub halts_by : (halt : Halt E) → RunsByRulebook a b d e t (Err halt) → RunsByRulebook a b d e (λ book. t book >>= k book) (Err halt)
  halts_by halt p = record {
    read = p.read;
    written = p.written;
    own = p.own;
    consumed = p.consumed;
    counted = p.counted;
    appended = p.appended;
    made = p.made;
    trace = λ book of. trace_halts (k book) b.left halt (t book) p.read p.written p.own (p.trace book of);
    later = p.later;
    caused = caused_halt A B a b halt p.caused;
  }

-- and the same of a session, whose calls answer its ends
module _ {A B : Type 0} (a b : LinkState) (d e : DeskView) (t : Rulebook → Interaction SessionEnd A) (k : Rulebook → A → Interaction SessionEnd B) where
  -- a call that ends the session, and with it what would have followed
  pub ends_by : (result : Result A SessionEnd) (end : SessionEnd) → result ≡ Err end → RunsByRulebook a b d e t (outcome_of result) → RunsByRulebook a b d e (λ book. t book >>= k book) (Err (halt_of end))
  ends_by result end was ran = halts_by a b d e t k (halt_of end) (subst (λ (r : Result A SessionEnd). RunsByRulebook a b d e t (outcome_of r)) was ran)

  -- the same where the end is answered on
  pub exits_by : (result : Result A SessionEnd) (r : Result B SessionEnd) (end y : SessionEnd) → result ≡ Err end → r ≡ Err y → y ≡ end → RunsByRulebook a b d e t (outcome_of result)
      → RunsByRulebook a b d e (λ book. t book >>= k book) (outcome_of r)
  exits_by result r end y was is same ran =
      subst (λ (r : Result B SessionEnd). RunsByRulebook a b d e (λ book. t book >>= k book) (outcome_of r)) (sym (is ∙ ap (λ (x : SessionEnd). Err x) same)) (ends_by result end was ran)

  -- a call, and the rest
  pub goes_by : (result : Result A SessionEnd) (c : LinkState) (f : DeskView) (x : A) (out : Result B (Halt SessionEnd)) → result ≡ Ok x → RunsByRulebook a b d e t (outcome_of result) → RunsByRulebook b c e f (λ book. k book x) out
      → RunsByRulebook a c d f (λ book. t book >>= k book) out
  goes_by result c f x out was ran rest = bind_by a b d e t k c f x out (subst (λ (r : Result A SessionEnd). RunsByRulebook a b d e t (outcome_of r)) was ran) rest

-- a call that goes by no rules
module _ {A B : Type 0} (a b : LinkState) (d : DeskView) (t : Interaction SessionEnd A) (k : Rulebook → A → Interaction SessionEnd B) (result : Result A SessionEnd) where
  pub exits_first : (r : Result B SessionEnd) (end y : SessionEnd) → result ≡ Err end → r ≡ Err y → y ≡ end → Runs a b d d t (outcome_of result) → RunsByRulebook a b d d (λ book. t >>= k book) (outcome_of r)
  exits_first r end y was is same ran = exits_by a b d d (λ book. t) k result r end y was is same (runs_always a b d d t (outcome_of result) ran)

  pub goes_first : (c : LinkState) (f : DeskView) (x : A) (out : Result B (Halt SessionEnd)) → result ≡ Ok x → Runs a b d d t (outcome_of result) → RunsByRulebook b c d f (λ book. k book x) out → RunsByRulebook a c d f (λ book. t >>= k book) out
  goes_first c f x out was ran rest = goes_by a b d d (λ book. t) k result c f x out was (runs_always a b d d t (outcome_of result) ran) rest

-- and gives a value and the offset behind it
module _ {A B : Type 0} (a b : LinkState) (d : DeskView) (t : Interaction SessionEnd (A × ℕ)) (k : Rulebook → A × ℕ → Interaction SessionEnd B) (result : Result A SessionEnd) (offset : ℕ) where
  pub exits_at_by : (r : Result B SessionEnd) (end y : SessionEnd) → result ≡ Err end → r ≡ Err y → y ≡ end → Runs a b d d t (outcome_at result offset) → RunsByRulebook a b d d (λ book. t >>= k book) (outcome_of r)
  exits_at_by r end y was is same ran =
      subst (λ (r : Result B SessionEnd). RunsByRulebook a b d d (λ book. t >>= k book) (outcome_of r)) (sym (is ∙ ap (λ (x : SessionEnd). Err x) same))
      (halts_by a b d d (λ book. t) k (halt_of end) (runs_always a b d d t (Err (halt_of end)) (subst (λ (r : Result A SessionEnd). Runs a b d d t (outcome_at r offset)) was ran)))

  pub goes_at_by : (c : LinkState) (f : DeskView) (x : A) (out : Result B (Halt SessionEnd)) → result ≡ Ok x → Runs a b d d t (outcome_at result offset) → RunsByRulebook b c d f (λ book. k book (x, offset)) out
      → RunsByRulebook a c d f (λ book. t >>= k book) out
  goes_at_by c f x out was ran rest =
      bind_by a b d d (λ book. t) k c f (x, offset) out (runs_always a b d d t (Ok (x, offset)) (subst (λ (r : Result A SessionEnd). Runs a b d d t (outcome_at r offset)) was ran)) rest

-- a packet, and the rest
pub packet_by : {B : Type 0} (a b : LinkState) (d : DeskView) (offset : ℕ) (k : Rulebook → packets.Packet × ℕ → Interaction SessionEnd B) (result : Result Pkt PktFault) → ReadsPacket a b (answer_of result) → KeepsWriting a b → IsLater a b
    → (c : LinkState) (e : DeskView) (out : Result B (Halt SessionEnd)) (pkt : Pkt) (behind : ℕ) → result ≡ Ok pkt → behind + a.given ≡ offset + b.given → RunsByRulebook b c d e (λ book. k book (packet_of pkt, behind)) out
    → RunsByRulebook a c d e (λ book. next_packet offset >>= k book) out
packet_by {B} a b d offset k result reads keeps later c e out pkt behind is moved rest =
    bind_by a b d d (λ book. next_packet offset) k c e (packet_of pkt, behind) out
    (runs_always a b d d (next_packet offset) (Ok (packet_of pkt, behind)) (packet_read {B = Unit {0}} a b d offset (λ next. gives tt) result reads keeps later pkt behind is moved)) rest

-- a fault of it ends the session, and with it what would have followed
pub fault_by : {B : Type 0} (a b : LinkState) (d : DeskView) (offset : ℕ) (k : Rulebook → packets.Packet × ℕ → Interaction SessionEnd B) (result : Result Pkt PktFault) → ReadsPacket a b (answer_of result) → KeepsWriting a b → IsLater a b
    → (c : LinkState) (fault : PktFault) (found : SessionEnd) → result ≡ Err fault → EndsBy fault offset b c found → RunsByRulebook a c d d (λ book. next_packet offset >>= k book) (Err (halt_of found))
fault_by {B} a b d offset k result reads keeps later c fault found is by =
    halts_by a c d d (λ book. next_packet offset) k (halt_of found)
    (runs_always a c d d (next_packet offset) (Err (halt_of found)) (packet_ends {B = Unit {0}} a b d offset (λ next. gives tt) result reads keeps later c fault found is by))

-- ---- the rules at a place

get_within : (log : List Entry) (place : ℕ) (entry : Entry) → slice_get log place ≡ Some entry → place < length log
get_within [] place entry is = cc
get_within (e ∷ log) zero entry is = omega arith
get_within (e ∷ log) (suc place) entry is = omega (arith, get_within log place entry is)

-- what a rulebook has behind a beginning of its log is what the conf in force there comes to
pub rules_here : OneAnswer → (admin : Name) (before more : List Entry) (book : Rulebook) (rules : Flat) → IsRulebook admin (before ++ more) book → AreInForce book.patterns (replay admin before).conf rules → rules ≡ book.rules (length before)
rules_here one admin before more book rules is force =
    let here = (rulebook_front admin before more book is).in_force (length before) (omega arith) in
    one.rules book.patterns (replay admin before).conf rules (book.rules (length before)) force
    (subst (λ (l : List Entry). AreInForce book.patterns (replay admin l).conf (book.rules (length before))) (take_all (length before) before (omega arith)) here)

-- what it has behind an opening that stands there is what the conf that the opening pinned comes to
pub rules_at_opening : OneAnswer → PinsAreOfOpenings → (admin : Name) (log : List Entry) (book : Rulebook) (pin : Opening) (rules : Flat) → Stands pin admin log → IsRulebook admin log book
    → ((patterns : Patterns) → AreTrue patterns → AreInForce patterns pin.pinned.conf rules) → rules ≡ book.rules (pin.place + 1)
rules_at_opening one openings admin log book pin rules stands is force =
    let at = openings admin log pin stands in
    let within : pin.place + 1 ≤ length log = omega (arith, get_within log pin.place _ at.stands) in
    one.rules book.patterns (replay admin (take (pin.place + 1) log)).conf rules (book.rules (pin.place + 1))
    (subst (λ (c : Conf). AreInForce book.patterns c rules) (ap (λ (p : Pinned). p.conf) at.pinned_is) (force book.patterns is.matching)) (is.in_force (pin.place + 1) within)

-- ---- laws

take_begins : (place : ℕ) (log : List Entry) → (more : List Entry) × (take place log ++ more ≡ log)
take_begins place [] = ([], append-nil (take place []) ∙ take_all place [] (omega arith))
take_begins zero (e ∷ log) = (e ∷ log, refl)
take_begins (suc place) (e ∷ log) = let rest = take_begins place log in (rest.0, ap (λ (l : List Entry). e ∷ l) rest.1)

pub there : BeginningIsLegal → ConfStaysGood → LegalLogsHaveRulebooks
there beginning good admin log patterns name legal true_of =
    let of : (place : ℕ) → (rules : Flat) × AreInForce patterns (replay admin (take place log)).conf rules = λ place.
    let rest = take_begins place log in
    good admin (take place log) name (beginning admin (take place log) rest.0 (subst (IsLegal admin) (sym rest.1) legal)) patterns true_of in
    (record { patterns = patterns; rules = λ place. (of place).0 }, refl, record { matching = true_of; in_force = λ place within. (of place).1 })

pub agree : OneAnswer → RulebooksAgree
agree one admin log first other same p q place within =
    one.rules other.patterns (replay admin (take place log)).conf (first.rules place) (other.rules place)
    (subst (λ (ps : Patterns). AreInForce ps (replay admin (take place log)).conf (first.rules place)) same (p.in_force place within)) (q.in_force place within)

pub recorded : LegalLogsHaveRulebooks → LogsHaveAnswers → (patterns : Patterns) → AreTrue patterns → LegalLogsAreRecorded
recorded books answers patterns true_of admin log name legal =
    let book = books admin log patterns name legal true_of in
    let answer = answers log in
    (record { answers = answer.0; book = book.0 }, record { agrees = answer.1; book = book.2 })

-- what a log records is recorded by each beginning of it
pub recorded_before : (admin : Name) (log log' : List Entry) (r : Recorded) → Begins log log' → IsRecorded admin log' r → IsRecorded admin log r
recorded_before admin log log' r begins is =
    let all = subst (λ (l : List Entry). IsRecorded admin l r) begins.1 is in
    record { agrees = agrees_front r.answers log begins.0 all.agrees; book = rulebook_front admin log begins.0 r.book all.book }
