-- The rule between any two steps of the lock, and what each step tells.
use Rattle.std.specs.Prelude.{◌≡◌, ◌⊎◌, ◌<◌, ◌==◌, ◌++◌, ◌∷◌, [], ℕ, List, Option, Some, All, Contains, MatchBool, false, suc, true}
use mathlib.Core.Option.{none, some}
use lib.ListN.{get_elem?}
use Rattle.atomic_table.specs.Seated.{TableId}
use Rattle.atomic_table.specs.Table.{State, Me}
use Rattle.turn_lock.specs.Lock.{PassState, AreOthers, longer}
use Rattle.turn_lock.specs.declared.rule.Knowledge.{Knowledge}
use Rattle.turn_lock.specs.declared.rule.View.{View}

-- ## What a seat knows

abbrev pub known : {E : Type 0} → List E → List E → List ℕ → Knowledge E
known at_new since numbers = record { at_new = record { marker = record {}; value = at_new }; since = record { marker = record {}; value = since }; numbers = record { marker = record {}; value = numbers } }

abbrev pub nothing : {E : Type 0} → Knowledge E
nothing = known [] [] []

-- what contracts see of a pass with this view
abbrev pub state_of : {E : Type 0} → TableId → View E → PassState E
state_of lock v = record { lock = lock; caller = v.caller; passes = v.passes; at_new = v.knowledge.at_new.value; since = v.knowledge.since.value; numbers = v.knowledge.numbers.value }

-- between two calls a pass holds neither the turn nor the slot, its own number is one of its numbers, and its
-- fields are what its view has
pub record IsAtRest {T E : Type 0} (me : Me (Option T) (View E)) (caller passes : ℕ) : Type 0 where
  pub empty : me.1 ≡ []
  pub idle : me.0.holds ≡ false
  pub own : Contains me.0.knowledge.numbers.value me.0.caller
  pub caller_is : caller ≡ me.0.caller
  pub passes_is : passes ≡ me.0.passes

-- make: the first pass
abbrev pub first_view : {E : Type 0} → List E → View E
first_view list = record { caller = 0; passes = 1; holds = false; knowledge = known list [] (0 ∷ []); taken = record { marker = record {}; value = [] }; left = nothing; right = nothing }

-- split: the first pass has made one more
abbrev pub counted_view : {E : Type 0} → View E → View E
counted_view v = record v { passes = suc v.passes }

-- split: the new pass has the next number, and has seen what the first pass has
abbrev pub next_view : {E : Type 0} → View E → View E
next_view v = record { caller = v.passes; passes = 0; holds = false; knowledge = known v.knowledge.at_new.value v.knowledge.since.value (v.passes ∷ []); taken = record { marker = record {}; value = [] }; left = nothing; right = nothing }

-- join: the longer list and the numbers of both. What the two were stays in sight, for the load that follows
abbrev pub joined_view : {E : Type 0} → View E → View E → View E
joined_view v w = record v { knowledge = known v.knowledge.at_new.value (longer v.knowledge.since.value w.knowledge.since.value) (v.knowledge.numbers.value ++ w.knowledge.numbers.value); left = v.knowledge; right = w.knowledge }

-- join: the pass that was taken in
abbrev pub spent_view : {E : Type 0} → View E
spent_view = record { caller = 0; passes = 0; holds = false; knowledge = nothing; taken = record { marker = record {}; value = [] }; left = nothing; right = nothing }

-- take: this list, past the one at `new`
abbrev pub holding : {E : Type 0} → View E → List E → View E
holding v list = record v { holds = true; taken = record { marker = record {}; value = list } }

-- release without an entry
abbrev pub idle_view : {E : Type 0} → View E → View E
idle_view v = record v { holds = false; taken = record { marker = record {}; value = [] } }

-- release with an entry
abbrev pub added_view : {E : Type 0} → View E → E → View E
added_view v e = record { caller = v.caller; passes = v.passes; holds = false; knowledge = known v.knowledge.at_new.value (v.taken.value ++ e ∷ []) v.knowledge.numbers.value; taken = record { marker = record {}; value = [] }; left = nothing; right = nothing }

-- ## The rule

-- this is what is known of the log, which is the list at `new` and what came since: its beginning, and past
-- that no entry bears one of the numbers
pub record GoesOn {E : Type 0} (caller : E → ℕ) (k : Knowledge E) (at_new since : List E) : Type 0 where
  pub starts : (n : ℕ) → Contains k.numbers.value n → k.at_new.value ≡ at_new
  pub rest : List E
  pub whole : k.since.value ++ rest ≡ since
  pub others : AreOthers caller k.numbers.value rest

-- both parts of the last join go on into what was put together
abbrev pub IsJoinOfBoth : {E : Type 0} → (E → ℕ) → View E → Type 0
IsJoinOfBoth caller v = GoesOn caller v.left v.knowledge.at_new.value v.knowledge.since.value × GoesOn caller v.right v.knowledge.at_new.value v.knowledge.since.value

-- one seat under the rule: what it knows is so, its numbers are its own and were given out, and who owns 0 is
-- the first pass
pub record IsSeat {E : Type 0} (caller : E → ℕ) (at_new since : List E) (passes : ℕ) (owner : ℕ → ℕ) (id : ℕ) (v : View E) : Type 0 where
  pub goes_on : GoesOn caller v.knowledge at_new since
  pub join_of : IsJoinOfBoth caller v
  pub owns : (n : ℕ) → Contains v.knowledge.numbers.value n → (owner n ≡ id) × (n < passes)
  pub first : Contains v.knowledge.numbers.value 0 → (v.caller ≡ 0) × (v.passes ≡ passes)

-- the turn is free: slot 0 is at home and has a value whose list is the log, and nobody holds the turn
abbrev pub IsFree : {T E : Type 0} → (T → List E) → State (Option T) (View E) → List E → Type 0
IsFree {T} {E} entries s log =
    (s.words ≡ 0 ∷ []) × ((x : T) × (s.homes ≡ some (Some x) ∷ []) × (entries x ≡ log)) × ((id : ℕ) (v : View E) → get_elem? s.views id ≡ some v → v.holds ≡ false)

-- one seat holds the turn and has taken the log. It is no spent one, since it has a number
abbrev pub IsHeld : {T E : Type 0} → State (Option T) (View E) → List E → Type 0
IsHeld {T} {E} s since =
    (s.words ≡ 1 ∷ []) × (s.homes ≡ none ∷ []) × (holder : ℕ) × ((v : View E) × (get_elem? s.views holder ≡ some v) × (v.holds ≡ true) × (n : ℕ) × Contains v.knowledge.numbers.value n)
    × ((id : ℕ) (v : View E) → get_elem? s.views id ≡ some v → v.holds ≡ true → (id ≡ holder) × (v.taken.value ≡ since))

-- THE RULE. There are a list at `new`, a list of what came since, a number of passes, and an owner of each
-- number, such that each seat is in order, each entry since bears the number of a pass that was made, and the
-- turn is free or held
pub record KeepsRule {T E : Type 0} (entries : T → List E) (caller : E → ℕ) (s : State (Option T) (View E)) : Type 0 where
  pub at_new : List E
  pub since : List E
  pub passes : ℕ
  pub owner : ℕ → ℕ
  pub seats : (id : ℕ) (v : View E) → get_elem? s.views id ≡ some v → IsSeat caller at_new since passes owner id v
  pub callers : All (λ e. caller e < passes) since
  pub turn : IsFree entries s (at_new ++ since) ⊎ IsHeld s since

-- ## What the steps tell

-- a try: the word was 0, so the seat holds the turn and the slot, and the value's list is what it had seen
-- and then entries of others; or nothing changed
abbrev pub Tries : {T E : Type 0} → (T → List E) → (E → ℕ) → Me (Option T) (View E) → ℕ → Me (Option T) (View E) → Type 0
Tries {T} {E} entries caller me found after =
    MatchBool (found == 0)
    ((x : T) × (rest : List E) × (after ≡ (holding me.0 (me.0.knowledge.since.value ++ rest), (0, Some x) ∷ []))
    × (entries x ≡ me.0.knowledge.at_new.value ++ (me.0.knowledge.since.value ++ rest)) × AreOthers caller me.0.knowledge.numbers.value rest)
    (after ≡ me)

-- the list is as it was, or has one entry more, with the number
abbrev pub Appends : {E : Type 0} → (E → ℕ) → ℕ → List E → List E → Type 0
Appends {E} caller n before after = (after ≡ before) ⊎ ((e : E) × (caller e ≡ n) × (after ≡ before ++ e ∷ []))

-- what a release asks: the seat holds the turn, and the slot has a value whose list is what was taken, or
-- that and one entry with the seat's number
abbrev pub MayRelease : {T E : Type 0} → (T → List E) → (E → ℕ) → Me (Option T) (View E) → Type 0
MayRelease {T} entries caller me =
    (me.0.holds ≡ true) × Contains me.0.knowledge.numbers.value me.0.caller × (x : T) × (me.1 ≡ (0, Some x) ∷ []) × Appends caller me.0.caller (me.0.knowledge.at_new.value ++ me.0.taken.value) (entries x)

-- a release: the seat holds nothing, and has seen its entry if there is one
abbrev pub Releases : {T E : Type 0} → (T → List E) → (E → ℕ) → Me (Option T) (View E) → Me (Option T) (View E) → Type 0
Releases {T} {E} entries caller me after =
    (x : T) × (me.1 ≡ (0, Some x) ∷ [])
    × (((entries x ≡ me.0.knowledge.at_new.value ++ me.0.taken.value) × (after ≡ (idle_view me.0, [])))
    ⊎ ((e : E) × (caller e ≡ me.0.caller) × (entries x ≡ (me.0.knowledge.at_new.value ++ me.0.taken.value) ++ e ∷ []) × (after ≡ (added_view me.0 e, []))))

-- the load after a join: nothing changes, and both parts are known to go on into what was put together
abbrev pub TellsOfJoin : {T E : Type 0} → (E → ℕ) → Me (Option T) (View E) → Me (Option T) (View E) → Type 0
TellsOfJoin caller me after = (after ≡ me) × IsJoinOfBoth caller me.0
