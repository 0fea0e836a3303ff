-- Parts of a request, one behind the other, and over the first bytes of the input.
use Rattle.std.proofs.Common.{◌≡◌, inl, inr, ℕ, ◌+◌, List, ◌++◌, length, Option, None, Result, Ok, Err, sym, ◌∙◌, subst, arith, length-append}
use Rattle.std.specs.Borrow.{GName}
use Rattle.std.specs.Io.KnownBytes.{Consumes}
use Rattle.pktline_core.specs.LinkState.{LinkState}
use Rattle.pktline_core.specs.Links.{IsLater}
use Rattle.pktline_core.proofs.LinkLemmas.{appends_more, consumes_more, later_more, risen_later}
use Rattle.request_head.specs.Limits.{limited}
use Rattle.request_head.proofs.LimitLemmas.{later_back, same_end, taken_back}
use Rattle.hub.specs.Desk.{DeskView}
use Rattle.interaction_tree.specs.Interaction.{Interaction, ends, ending_as, limits, ◌>>=◌}
use Rattle.interaction_tree.specs.Traces.{Reading, Writing, Memory, Halt, Ended, Failed, halt_as, outcome_as}
use Rattle.interaction_tree.specs.Runs.{IsCaused, Runs}
use Rattle.interaction_tree.proofs.LimitLemmas.{trace_limits, trace_unread}
use Rattle.interaction_tree.proofs.OtherEnds.{caused_as, trace_as}
use Rattle.interaction_tree.proofs.RunLemmas.{runs_ends}
use Rattle.interaction_tree.proofs.TraceLemmas.{trace_bind}
use Rattle.session_core.specs.Rulebook.{Rulebook, RunsByRulebook}
use Rattle.session_core.proofs.RulebookLemmas.{bind_by, halts_by, made_more, made_on, rulebook_before, runs_always}
use Rattle.smart_http.specs.declared.end.HttpEnd.{HttpEnd}
use Rattle.smart_http.specs.Running.{IsSteady, RunsPart}

pub caused_later : (a b c : LinkState) (halt : Halt HttpEnd) → IsLater a b → IsCaused {A = Unit {0}} b c (Err halt) → IsCaused {A = Unit {0}} a c (Err halt)
caused_later a b c (Ended end) later h = tt
caused_later a b c (Failed Reading) later h = (risen_later a.read_faults b.read_faults c.read_faults later.read_faults h.0, rw later.may_fail at h.1)
caused_later a b c (Failed Writing) later h = (risen_later a.write_faults b.write_faults c.write_faults later.write_faults h.0, rw later.may_fail at h.1)
caused_later a b c (Failed Memory) later h = tt

-- what is known of a link that tells nothing
consumes_untold : (a b : Option (List ℕ)) (xs : List ℕ) → a ≡ None → Consumes a b xs
consumes_untold a b xs none = subst (λ (l : Option (List ℕ)). Consumes l b xs) (sym none) tt

pub part_of : (a b : LinkState) (d e : DeskView) (t : Rulebook → Interaction HttpEnd (Unit {0})) (halt : Halt HttpEnd) → RunsByRulebook a b d e t (Err halt) → RunsPart a b d e t halt
part_of a b d e t halt ran = record {
  read = ran.read;
  written = ran.written;
  own = ran.own;
  consumed = λ steady. ran.consumed;
  counted = ran.counted;
  appended = ran.appended;
  made = ran.made;
  trace = ran.trace;
  later = ran.later;
  caused = ran.caused;
}

-- one that asks nothing of the hub
pub part_alone : (a b : LinkState) (d : DeskView) (t : Interaction HttpEnd (Unit {0})) (halt : Halt HttpEnd) → Runs a b d d t (Err halt) → RunsPart a b d d (λ book. t) halt
part_alone a b d t halt ran = part_of a b d d (λ book. t) halt (runs_always a b d d t (Err halt) ran)

-- one, and then a part
pub part_bind : {A : Type 0} (a b c : LinkState) (d e f : DeskView) (t : Rulebook → Interaction HttpEnd A) (k : Rulebook → A → Interaction HttpEnd (Unit {0})) (x : A) (halt : Halt HttpEnd)
    → RunsByRulebook a b d e t (Ok x) → RunsPart b c e f (λ book. k book x) halt → RunsPart a c d f (λ book. t book >>= k book) halt
part_bind a b c d e f t k x halt p q = record {
  read = p.read ++ q.read;
  written = p.written ++ q.written;
  own = p.own ++ q.own;
  consumed = λ steady. elim steady [
    | inl none ↦ consumes_untold a.left c.left (p.read ++ q.read) none
    | inr tells ↦ consumes_more a.left b.left c.left p.read q.read p.consumed (q.consumed (inr (p.later.tells ∙ tells)))
  ];
  counted = omega (arith, p.counted, q.counted, length-append p.read q.read);
  appended = appends_more a.written b.written c.written p.written q.written p.appended q.appended;
  made = made_more d e f p.own q.own p.made q.made;
  trace = λ book of.
      trace_bind (k book) b.left c.left x (Err halt) (t book) p.read p.written p.own q.read q.written q.own (p.trace book (rulebook_before e f book (made_on e f q.own q.made) of)) (q.trace book of);
  later = later_more a b c p.later q.later;
  caused = caused_later a b c halt p.later q.caused;
}

-- with other ends
pub as_by : {E F A : Type 0} (end_as : E → F) (a b : LinkState) (d e : DeskView) (t : Rulebook → Interaction E A) (out : Result A (Halt E)) → RunsByRulebook a b d e t out → RunsByRulebook a b d e (λ book. ending_as end_as (t book)) (outcome_as end_as out)
as_by end_as a b d e t out ran = record {
  read = ran.read;
  written = ran.written;
  own = ran.own;
  consumed = ran.consumed;
  counted = ran.counted;
  appended = ran.appended;
  made = ran.made;
  trace = λ book of. trace_as end_as b.left out (t book) ran.read ran.written ran.own (ran.trace book of);
  later = ran.later;
  caused = caused_as end_as a b out ran.caused;
}

-- and then the end that its value stands for
pub ended_by : {E A : Type 0} (end_as : E → HttpEnd) (stands : A → HttpEnd) (a b : LinkState) (d e : DeskView) (t : Rulebook → Interaction E A) (value : A) → RunsByRulebook a b d e t (Ok value)
    → RunsByRulebook {E = HttpEnd} {A = Unit {0}} a b d e (λ book. ending_as end_as (t book) >>= λ done. ends (stands done)) (Err (Ended (stands value)))
ended_by end_as stands a b d e t value ran =
    bind_by a b d e (λ book. ending_as end_as (t book)) (λ book done. ends (stands done)) b e value (Err (Ended (stands value)))
    (as_by end_as a b d e t (Ok value) ran) (runs_always b b e e (ends (stands value)) (Err (Ended (stands value))) (runs_ends b e (stands value)))

pub halted_by : {E A : Type 0} (end_as : E → HttpEnd) (stands : A → HttpEnd) (a b : LinkState) (d e : DeskView) (t : Rulebook → Interaction E A) (halt : Halt E) → RunsByRulebook a b d e t (Err halt)
    → RunsByRulebook {E = HttpEnd} {A = Unit {0}} a b d e (λ book. ending_as end_as (t book) >>= λ done. ends (stands done)) (Err (halt_as end_as halt))
halted_by end_as stands a b d e t halt ran =
    halts_by a b d e (λ book. ending_as end_as (t book)) (λ book done. ends (stands done)) (halt_as end_as halt) (as_by end_as a b d e t (Err halt) ran)

-- what was taken of the limited link was taken of the link
module _ (name name' : GName) (most most' : ℕ) (a b : LinkState) (d e : DeskView) (t : Rulebook → Interaction HttpEnd (Unit {0})) where
  caused_back : (halt : Halt HttpEnd) → IsCaused {A = Unit {0}} (limited name most a) (limited name' most' b) (Err halt) → IsCaused {A = Unit {0}} a b (Err halt)
  caused_back (Ended end) p = tt
  caused_back (Failed Reading) p = p
  caused_back (Failed Writing) p = p
  caused_back (Failed Memory) p = tt

  module _ (halt : Halt HttpEnd) (ran : RunsByRulebook (limited name most a) (limited name' most' b) d e t (Err halt)) where
    rest_is : length ran.read + most' ≡ most
    rest_is = let ends = same_end name name' most most' a b ran.later in let count : b.given ≡ a.given + length ran.read = ran.counted in omega (arith, ends, count)

    taken : IsSteady a → Consumes a.left b.left ran.read
    taken steady = elim steady [
      | inl none ↦ consumes_untold a.left b.left ran.read none
      | inr tells ↦ taken_back name name' most most' a b ran.later tells ran.read ran.consumed
    ]

    pub limits_part : (most' ≡ 0 → ◌≡◌ {A = Result (Unit {0}) (Halt HttpEnd)} (Err halt) (Err (Failed Reading)) → ⊥) → RunsPart a b d e (λ book. limits most (t book)) halt
    limits_part open_yet = record {
      read = ran.read;
      written = ran.written;
      own = ran.own;
      consumed = taken;
      counted = ran.counted;
      appended = ran.appended;
      made = ran.made;
      trace = λ book of. trace_limits b.left (Err halt) (t book) most' most ran.read ran.written ran.own rest_is open_yet (ran.trace book of);
      later = later_back name name' most most' a b ran.later;
      caused = caused_back halt ran.caused;
    }

  reading_lacks : ◌≡◌ {A = Result (Unit {0}) (Halt HttpEnd)} (Err (Failed Memory)) (Err (Failed Reading)) → ⊥
  reading_lacks is = absurd cc

  -- a read that failed, as want of memory
  pub limits_unread : (ran : RunsByRulebook (limited name most a) (limited name' most' b) d e t (Err (Failed Reading))) → RunsPart a b d e (λ book. limits most (t book)) (Failed Memory)
  limits_unread ran = record {
    read = ran.read;
    written = ran.written;
    own = ran.own;
    consumed = taken (Failed Reading) ran;
    counted = ran.counted;
    appended = ran.appended;
    made = ran.made;
    trace = λ book of.
        trace_limits b.left (Err (Failed Memory)) (t book) most' most ran.read ran.written ran.own (rest_is (Failed Reading) ran) (λ none is. reading_lacks is)
        (trace_unread (limited name' most' b).left (t book) ran.read ran.written ran.own (ran.trace book of));
    later = later_back name name' most most' a b ran.later;
    caused = tt;
  }
