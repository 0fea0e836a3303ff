-- What a pass knows of the lock's list, and what each call does to it.
use Rattle.std.specs.Prelude.{◌≡◌, ◌≢◌, ◌⊎◌, ◌<◌, ◌==◌, ◌++◌, ◌∷◌, [], ℕ, List, All, Contains, filter, if◌then◌else◌, length, nat_lt}
use Rattle.atomic_table.specs.Seated.{TableId}

-- A pass as contracts see it.
-- lock: the lock that it is a pass of
-- caller: its number
-- passes: how many passes were made, which the first pass alone knows, and 0 in each other
-- at_new: the list at `new`
-- since: what it has seen come after that
-- numbers: whose entries it has all seen: its own number, and those of the passes that were joined into it
pub record PassState (E : Type 0) : Type 0 where
  pub lock : TableId
  pub caller : ℕ
  pub passes : ℕ
  pub at_new : List E
  pub since : List E
  pub numbers : List ℕ

-- the list that a pass has seen
abbrev pub seen : {E : Type 0} → PassState E → List E
seen p = p.at_new ++ p.since

-- the entries past the list at `new` that bear a number, as far as the pass has seen them
abbrev pub kept : {E : Type 0} → (E → ℕ) → PassState E → ℕ → List E
kept caller p n = filter (λ e. caller e == n) p.since

-- no entry bears one of the numbers
abbrev pub AreOthers : {E : Type 0} → (E → ℕ) → List ℕ → List E → Type 0
AreOthers caller numbers es = All (λ e. ¬ (Contains numbers (caller e))) es

-- a list goes on with entries that bear none of the numbers
abbrev pub GrowsByOthers : {E : Type 0} → (E → ℕ) → List ℕ → List E → List E → Type 0
GrowsByOthers {E} caller numbers before after = (anew : List E) × (before ++ anew ≡ after) × AreOthers caller numbers anew

-- the pass that `new` gives
abbrev pub first_pass : {E : Type 0} → TableId → List E → PassState E
first_pass lock list = record { lock = lock; caller = 0; passes = 1; at_new = list; since = []; numbers = 0 ∷ [] }

-- the pass that `split` gives: it has the next number, and has seen what the first pass has
abbrev pub next_pass : {E : Type 0} → PassState E → PassState E
next_pass p = record { lock = p.lock; caller = p.passes; passes = 0; at_new = p.at_new; since = p.since; numbers = p.passes ∷ [] }

-- the longer list, and the first where neither is longer
abbrev pub longer : {E : Type 0} → List E → List E → List E
longer xs ys = if nat_lt (length xs) (length ys) then ys else xs

-- the pass that `join` leaves: it has seen the longer list, and has the numbers of both
abbrev pub joined : {E : Type 0} → PassState E → PassState E → PassState E
joined p q = record p { since = longer p.since q.since; numbers = p.numbers ++ q.numbers }

-- each number below k is one of the numbers
abbrev pub ContainsBelow : List ℕ → ℕ → Type 0
ContainsBelow numbers k = (n : ℕ) → n < k → Contains numbers n

-- every pass that was split off was joined into this one, or into one that was
abbrev pub HasJoinedAll : {E : Type 0} → PassState E → Type 0
HasJoinedAll p = ContainsBelow p.numbers p.passes

-- the value's list is as it was, or has one entry more, which bears the number
abbrev pub AddsAtMostOne : {T E : Type 0} → (T → List E) → (E → ℕ) → ℕ → T → T → Type 0
AddsAtMostOne {T} {E} entries caller n before after = (entries after ≡ entries before) ⊎ ((e : E) × (caller e ≡ n) × (entries after ≡ entries before ++ e ∷ []))

-- The step found a list and left it with one entry more, which bears the pass's number. The pass has then
-- seen that list, and the entry is one more of its own
pub record SeesItsEntry {E : Type 0} (caller : E → ℕ) (old new : PassState E) (between after : List E) : Type 0 where
  pub entry : E
  pub bears : caller entry ≡ old.caller
  pub added : after ≡ (seen old ++ between) ++ entry ∷ []
  pub seen_is : seen new ≡ after
  pub pass_is : new ≡ record old { since = old.since ++ (between ++ entry ∷ []) }
  pub own : kept caller new old.caller ≡ kept caller old old.caller ++ entry ∷ []
  pub joined_kept : (n : ℕ) → Contains old.numbers n → n ≢ old.caller → kept caller new n ≡ kept caller old n

-- The step found what the pass had seen, and then entries that bear none of its numbers. Its relation holds
-- of the lists that it found and left. It left the list as it was, and the pass knows what it knew; or it
-- added its entry, and the pass has seen the list that was left
pub record Turned {E : Type 0} (caller : E → ℕ) (relates : List E → List E → Type 0) (old new : PassState E) : Type 0 where
  pub between : List E
  pub after : List E
  pub others : AreOthers caller old.numbers between
  pub related : relates (seen old ++ between) after
  pub left : ((after ≡ seen old ++ between) × (new ≡ old)) ⊎ SeesItsEntry caller old new between after

-- the same pass, whatever it has seen
pub record IsSamePass {E : Type 0} (old new : PassState E) : Type 0 where
  pub lock : new.lock ≡ old.lock
  pub caller : new.caller ≡ old.caller
  pub passes : new.passes ≡ old.passes
  pub at_new : new.at_new ≡ old.at_new
  pub numbers : new.numbers ≡ old.numbers
