-- What is in the way of a command that is told so.
use Rattle.std.proofs.Common.{◌≡◌, ◌⊎◌, inl, inr, ◌≤◌, ◌<◌, ℕ, zero, suc, Bool, true, false, not, cond, List, [], ◌∷◌, ◌++◌, map, take, refl, sym, ◌∙◌, ap, subst, arith}
use Rattle.std.specs.Prelude.{Option, Some, None, IsSome, if◌then◌else◌}
use Rattle.std.specs.List.{count_by, position, slice_get}
use Rattle.std.specs.Option.{unwrap_or}
use Rattle.std.specs.Cmp.Lexicographic.{bytes_decides}
use Rattle.std.specs.FinMap.{get}
use Rattle.git_object.specs.Content.{Content}
use Rattle.git_object.specs.declared.object_id.ObjectId.{ObjectId}
use Rattle.ref_store.specs.Objects.{same_id}
use Rattle.ref_store.specs.Refs.{AreAtOdds, HasNoZero, Name, Refs, first_at_odds, moved, value, zero_id}
use Rattle.ref_store.specs.declared.command.Command.{Command}
use Rattle.ref_store.proofs.ObjectLemmas.{id_is}
use Rattle.rule_compile.specs.Patterns.{AreTrue, Patterns}
use Rattle.hub_history.specs.declared.outcome.Outcome.{Outcome}
use Rattle.hub_history.specs.declared.outcome.Outcome.TheVariants.{Done, Stale, DirFile, AtomicOther}
use Rattle.hub_history.specs.declared.entry.Entry.{Entry}
use Rattle.hub_history.specs.History.{IsLegal, replay}
use Rattle.hub_history.specs.Laws.{HasNoRefusal, IsInTheWay, IsMovedBefore, IsThereAt, IsUnmovedBefore, IsValueAt, Moment, TellsCommand, moment_of}
use Rattle.hub_history.specs.Opening.{Pinned}
use Rattle.hub_history.specs.Push.{JudgesAllAtPush, beside, beside_first, by_directory, by_refs, in_order, is_done, outcomes_in, refs_after, refs_left, together}
use Rattle.hub_history.specs.State.{InForce, Repository, in_force, repository_at}
use Rattle.hub_history.proofs.FirstAtOdds.{first_is_least}
use Rattle.hub_history.proofs.HistoryLemmas.{beginning_legal, some_same}
use Rattle.hub_history.proofs.JudgeLemmas.{is_by_refs, once_untold}
use Rattle.hub_history.proofs.MovedLogs.{due_here}
use Rattle.hub_history.proofs.MovedRefs.{IsByRefs, after_other, by_refs_at, count_more, done_is, is_for, left_at, none_before, refs_at, own_ran, same_alike, told_together, was_alone}
use Rattle.hub_history.proofs.RefsApart.{none_first}
use Rattle.hub_history.proofs.NoZero.{nonzero-left, nonzero_at}

-- ---- the first so many

taken : {X : Type 0} (n : ℕ) (xs : List X) (i : ℕ) (x : X) → slice_get (take n xs) i ≡ Some x → (i < n) × (slice_get xs i ≡ Some x)
taken zero xs i x is = cc
taken (suc n) [] i x is = cc
taken (suc n) (y ∷ xs) zero x is = (omega arith, is)
taken (suc n) (y ∷ xs) (suc i) x is = let rest = taken n xs i x is in (omega (arith, rest.0), rest.1)

within : {X : Type 0} (n : ℕ) (xs : List X) (i : ℕ) (x : X) → i < n → slice_get xs i ≡ Some x → slice_get (take n xs) i ≡ Some x
within zero xs i x below is = absurd (omega (arith, below))
within (suc n) [] i x below is = is
within (suc n) (y ∷ xs) zero x below is = is
within (suc n) (y ∷ xs) (suc i) x below is = within n xs i x (omega (arith, below)) is

count_take : (name : Name) (n : ℕ) (cs : List Command) → count_by (is_for name) (take n cs) ≤ count_by (is_for name) cs
count_take name zero cs = omega arith
count_take name (suc n) [] = omega arith
count_take name (suc n) (c ∷ cs) = omega (arith, count_more name c (take n cs), count_more name c cs, count_take name n cs)

-- a command before the only one for a ref is for another
for_another : (cs : List Command) (i k : ℕ) (d c : Command) → i < k → slice_get cs i ≡ Some d → slice_get cs k ≡ Some c → count_by (is_for c.name) cs ≤ 1 → is_for c.name d ≡ false
for_another [] i k d c below there is once = cc
for_another (e ∷ cs) i zero d c below there is once = absurd (omega (arith, below))
for_another (e ∷ cs) zero (suc k) d c below there is once = ap (λ (x : Command). is_for c.name x) (sym (some_same there)) ∙ (none_before e cs k c is once).0
for_another (e ∷ cs) (suc i) (suc k) d c below there is once = for_another cs i k d c (omega (arith, below)) there is (none_before e cs k c is once).1

-- ---- a ref behind commands

-- a command for the ref that is done
abbrev IsDoneFor : List Command → List Outcome → Name → Type 0
IsDoneFor cs os name = (k : ℕ) × (c : Command) × (slice_get cs k ≡ Some c) × (slice_get os k ≡ Some Done) × (c.name ≡ name)

abbrev IsLeft : Refs → List Command → List Outcome → Name → Type 0
IsLeft refs cs os name = ((k : ℕ) (c : Command) → slice_get cs k ≡ Some c → slice_get os k ≡ Some Done → ¬ (c.name ≡ name)) × (value (refs_left refs cs os) name ≡ value refs name)

-- a command for the ref is done, or it is left as it was
done_or_left : (refs : Refs) (cs : List Command) (os : List Outcome) (name : Name) → IsDoneFor cs os name ⊎ IsLeft refs cs os name
done_or_left refs [] os name = inr (λ k c is done. cc, refl)
done_or_left refs (c ∷ cs) [] name = inr (λ k d is done. cc, refl)
done_or_left refs (c ∷ cs) (o ∷ os) name = by_case (is_for name c) refl (is_done o) refl (done_or_left (refs_after refs c o) cs os name)
  where
    later : value (refs_after refs c o) name ≡ value refs name → ((d : Command) → c ≡ d → o ≡ Done → ¬ (d.name ≡ name)) → IsDoneFor cs os name ⊎ IsLeft (refs_after refs c o) cs os name → IsDoneFor (c ∷ cs) (o ∷ os) name ⊎ IsLeft refs (c ∷ cs) (o ∷ os) name
    later same other (inl found) = inl (suc found.0, found.1, found.2, found.3, found.4)
    later same other (inr left) = inr (none, left.1 ∙ same)
      where
        none : (k : ℕ) (d : Command) → slice_get (c ∷ cs) k ≡ Some d → slice_get (o ∷ os) k ≡ Some Done → ¬ (d.name ≡ name)
        none zero d is done = other d (some_same is) (some_same done)
        none (suc k) d is done = left.0 k d is done

    by_case : (b : Bool) → is_for name c ≡ b → (d : Bool) → is_done o ≡ d → IsDoneFor cs os name ⊎ IsLeft (refs_after refs c o) cs os name → IsDoneFor (c ∷ cs) (o ∷ os) name ⊎ IsLeft refs (c ∷ cs) (o ∷ os) name
    by_case true here true done rest = inl (0, c, refl, ap (λ (x : Outcome). Some x) (done_is o done), sym ((bytes_decides name c.name).0 here))
    by_case true here false undone rest = later (ap (λ (b : Bool). value (if b then moved refs c.name c.new else refs) name) undone) (λ d same done named. let bad : true ≡ false = ap is_done (sym done) ∙ undone in cc) rest
    by_case false apart d done rest = later (after_other refs c o name apart) (λ d same done named. let bad : true ≡ false = sym ((bytes_decides name c.name).1 (sym named ∙ ap (λ (e : Command). e.name) (sym same))) ∙ apart in cc) rest

-- ---- what an outcome becomes beside others

becomes : (atomic : Bool) (os : List Outcome) (k : ℕ) → slice_get os k ≡ Some Done → (o : Outcome) × (slice_get (together atomic os) k ≡ Some o) × HasNoRefusal o
becomes false os k done = (Done, done, inl refl)
becomes true os k done = by_first (position (λ x. not (is_done x)) os)
  where
    among : (first : ℕ) (xs : List Outcome) (i : ℕ) → slice_get xs i ≡ Some Done → slice_get (map (beside first) xs) i ≡ Some (AtomicOther first)
    among first [] i done = cc
    among first (x ∷ xs) zero done = ap (λ (y : Outcome). Some (beside first y)) (some_same done)
    among first (x ∷ xs) (suc i) done = among first xs i done

    by_first : (p : Option ℕ) → (o : Outcome) × (slice_get (beside_first p os) k ≡ Some o) × HasNoRefusal o
    by_first None = (Done, done, inl refl)
    by_first (Some first) = (AtomicOther first, among first os k done, inr (first, refl))

met_directory : (refs : Refs) (c : Command) (r : Name) → DirFile r ≡ by_refs refs c None → (value refs c.name ≡ c.old) × (c.old ≡ zero_id) × (first_at_odds refs c.name ≡ Some r)
met_directory refs c r is = by_case (same_id (value refs c.name) c.old) refl (same_id c.old zero_id) refl (first_at_odds refs c.name) refl is
  where
    by_case : (b : Bool) → same_id (value refs c.name) c.old ≡ b → (z : Bool) → same_id c.old zero_id ≡ z → (o : Option Name) → first_at_odds refs c.name ≡ o
        → DirFile r ≡ cond (not b) (Stale (value refs c.name)) (if z then by_directory o else Done) → (value refs c.name ≡ c.old) × (c.old ≡ zero_id) × (first_at_odds refs c.name ≡ Some r)
    by_case false other z new o first is = cc
    by_case true same false old o first is = cc
    by_case true same true new None first is = cc
    by_case true same true new (Some q) first is = let named : q ≡ r = cc in (id_is (value refs c.name) c.old same, id_is c.old zero_id new, first ∙ ap (λ (n : Name). Some n) named)

-- and where a create is done there is none
met_clear : (refs : Refs) (c : Command) → Done ≡ by_refs refs c None → c.old ≡ zero_id → first_at_odds refs c.name ≡ None
met_clear refs c is create = by_case (same_id (value refs c.name) c.old) (same_id c.old zero_id) (same_alike c.old zero_id create) (first_at_odds refs c.name) is
  where
    by_case : (b z : Bool) → z ≡ true → (o : Option Name) → Done ≡ cond (not b) (Stale (value refs c.name)) (if z then by_directory o else Done) → o ≡ None
    by_case b z new None is = refl
    by_case false z new (Some q) is = cc
    by_case true false new (Some q) is = cc
    by_case true true new (Some q) is = cc

-- an outcome beside another's refusal is told by no refs
no_other : (refs : Refs) (c : Command) (first : ℕ) → AtomicOther first ≡ by_refs refs c None → ⊥
no_other refs c first is = by_case (same_id (value refs c.name) c.old) (same_id c.old zero_id) (first_at_odds refs c.name) is
  where
    by_case : (b z : Bool) (o : Option Name) → AtomicOther first ≡ cond (not b) (Stale (value refs c.name)) (if z then by_directory o else Done) → ⊥
    by_case false z o is = cc
    by_case true false o is = cc
    by_case true true None is = cc
    by_case true true (Some q) is = cc

-- ---- just before a command

module _ (ps : Patterns) (force : InForce) (now : Repository) (pinned : Pinned) (pack : List Content) (cs : List Command) (atomic : Bool) (js : List (Option Outcome)) (judges : JudgesAllAtPush ps force pinned pack cs js)
    (nonzero : HasNoZero now.refs) (k : ℕ) (c : Command) (o : Outcome) (is : slice_get cs k ≡ Some c) (o_is : slice_get (outcomes_in now pack cs atomic js) k ≡ Some o) (by : is_by_refs o ≡ true) (own : (first : ℕ) → ¬ (o ≡ AtomicOther first)) where
  abbrev told : List Outcome
  told = outcomes_in now pack cs atomic js

  abbrev run : List Outcome
  run = in_order now.refs cs js

  abbrev moment : Moment
  moment = record { refs = now.refs; commands = cs; outcomes = told; index = k }

  -- the refs just before the command
  abbrev here : Refs
  here = refs_at now.refs cs run k

  same : told ≡ together atomic run
  same = told_together ps force now pinned pack cs atomic js judges k o o_is by

  met : IsByRefs ps force now pinned pack cs atomic js judges k c o
  met = by_refs_at ps force now pinned pack cs atomic js judges k c o is (own_ran ps force now pinned pack cs atomic js judges k o o_is by own) by

  -- what has no refusal of its own was done in order
  ran_done : (i : ℕ) (d : Command) (o : Outcome) → slice_get cs i ≡ Some d → slice_get told i ≡ Some o → HasNoRefusal o → slice_get run i ≡ Some Done
  ran_done i d o at told_is free = by_was (was_alone atomic run i o (ap (λ (os : List Outcome). slice_get os i) (sym same) ∙ told_is)) free
    where
      by_was : (slice_get run i ≡ Some o) ⊎ ((slice_get run i ≡ Some Done) × (first : ℕ) × (o ≡ AtomicOther first)) → HasNoRefusal o → slice_get run i ≡ Some Done
      by_was (inr w) free = w.0
      by_was (inl ran) (inl done) = ran ∙ ap (λ (x : Outcome). Some x) done
      by_was (inl ran) (inr other) =
          let by = by_refs_at ps force now pinned pack cs atomic js judges i d (AtomicOther other.0) at (ran ∙ ap (λ (x : Outcome). Some x) other.1) refl in
          absurd (no_other (refs_at now.refs cs run i) d other.0 by.told_is)

  -- the only command for its ref
  once : (i : ℕ) (d : Command) → slice_get cs i ≡ Some d → slice_get run i ≡ Some Done → count_by (is_for d.name) cs ≤ 1
  once i d at done = once_untold ps force pinned pack cs d (by_refs_at ps force now pinned pack cs atomic js judges i d Done at done refl).untold

  -- the ref has its new value
  value_done : (i : ℕ) (d : Command) → i < k → slice_get cs i ≡ Some d → slice_get run i ≡ Some Done → value here d.name ≡ d.new
  value_done i d earlier at done =
      left_at now.refs (take k cs) (take k run) i d (omega (arith, once i d at done, count_take d.name k cs)) (within k cs i d earlier at) (within k run i Done earlier done)

  value_moved : (name : Name) (id : ObjectId) → IsMovedBefore moment name id → value here name ≡ id
  value_moved name id m =
      ap (value here) (sym m.for_ref) ∙ value_done m.place m.command m.earlier m.command_is (ran_done m.place m.command m.outcome m.command_is m.outcome_is m.unrefused) ∙ m.to

  moved_done : (name : Name) → IsDoneFor (take k cs) (take k run) name → (id : ObjectId) × IsMovedBefore moment name id
  moved_done name found =
      let at = taken k cs found.0 found.1 found.2 in
      let done = taken k run found.0 Done found.3 in
      let told_is = becomes atomic run found.0 done.1 in (
        found.1.new,
        record {
          command = found.1;
          outcome = told_is.0;
          place = found.0;
          earlier = at.0;
          command_is = at.1;
          outcome_is = ap (λ (os : List Outcome). slice_get os found.0) same ∙ told_is.1;
          unrefused = told_is.2;
          for_ref = found.4;
          to = refl;
        },
      )

  -- a ref's value at the moment is its value among these
  value_here : (name : Name) (id : ObjectId) → IsValueAt moment name id → value here name ≡ id
  value_here name id (inl m) = value_moved name id m
  value_here name id (inr stays) = elim (done_or_left now.refs (take k cs) (take k run) name) [
    | inl found ↦ let m = moved_done name found in absurd (stays.0 m.0 m.1)
    | inr left ↦ left.1 ∙ stays.1
  ]

  here_value : (name : Name) → IsValueAt moment name (value here name)
  here_value name = elim (done_or_left now.refs (take k cs) (take k run) name) [
    | inl found ↦ let m = moved_done name found in inl (subst (IsMovedBefore moment name) (sym (value_moved name m.0 m.1)) m.1)
    | inr left ↦ inr (
      λ id m. left.0 m.place m.command (within k cs m.place m.command m.earlier m.command_is)
          (within k run m.place Done m.earlier (ran_done m.place m.command m.outcome m.command_is m.outcome_is m.unrefused)) m.for_ref,
      sym left.1,
    )
  ]

  -- a ref is there exactly where it is among them
  there_here : (name : Name) → IsThereAt moment name → IsSome (get here name)
  there_here name there = by_get (get here name) refl
    where
      by_get : (o : Option ObjectId) → get here name ≡ o → IsSome o
      by_get None none = absurd (there.2 (sym (value_here name there.0 there.1) ∙ ap (λ (o : Option ObjectId). unwrap_or o zero_id) none))
      by_get (Some id) some = refl

  here_there : (name : Name) → IsSome (get here name) → IsThereAt moment name
  here_there name some = (value here name, here_value name, by_get (get here name) refl some)
    where
      by_get : (o : Option ObjectId) → get here name ≡ o → IsSome o → ¬ (unwrap_or o zero_id ≡ zero_id)
      by_get None none some same = let bad : false ≡ true = some in cc
      by_get (Some id) is some same = nonzero-left now.refs (take k cs) (take k run) nonzero name id is same

  -- no other command is for its ref
  unmoved : IsUnmovedBefore moment c.name
  unmoved id m =
      let apart : is_for c.name m.command ≡ false = for_another cs m.place k m.command c m.earlier m.command_is is (once_untold ps force pinned pack cs c met.untold) in
      let itself : is_for c.name m.command ≡ true = (bytes_decides c.name m.command.name).1 (sym m.for_ref) in
      cc

  pub in_the_way : (r : Name) → o ≡ DirFile r → IsInTheWay moment c r
  in_the_way r is_told =
      let said = met_directory here c r (sym is_told ∙ met.told_is) in
      let least = first_is_least here c.name r said.2 in
      record {
        create = said.1;
        absent = sym met.same ∙ said.0 ∙ said.1;
        unmoved = unmoved;
        there = here_there r least.there;
        at_odds = least.at_odds;
        least = λ q there odds. least.least q (there_here q there) odds;
      }

  pub none_in_the_way : o ≡ Done → c.old ≡ zero_id → (q : Name) → IsThereAt moment q → ¬ AreAtOdds q c.name
  none_in_the_way done create q there odds = none_first here c.name (met_clear here c (sym done ∙ met.told_is) create) q (there_here q there) odds

-- ---- the laws

module _ (ps : Patterns) (ok : AreTrue ps) (admin : Name) (before : List Entry) (entry : Entry) (legal : IsLegal admin (before ++ entry ∷ [])) (pinned : Pinned) (command : Command) where
  abbrev now_at : Repository
  now_at = repository_at (replay admin before) pinned.repo

  abbrev force_at : InForce
  force_at = in_force (replay admin before) pinned.repo

  nonzero_before : HasNoZero now_at.refs
  nonzero_before = nonzero_at ps ok admin before (beginning_legal admin before (entry ∷ []) legal) pinned.repo

  pub directory_is : (r : Name) (tells : TellsCommand admin before entry pinned command (DirFile r)) → IsInTheWay (moment_of tells) command r
  directory_is r t =
      let due = due_here ps ok admin before entry legal t.place t.pack t.commands t.atomic t.outcomes t.made pinned t.is_push t.opening in
      subst (λ (os : List Outcome). IsInTheWay (record { refs = now_at.refs; commands = t.commands; outcomes = os; index = t.index }) command r) (sym due.told)
      (in_the_way ps force_at now_at pinned t.pack t.commands t.atomic due.judged due.judges nonzero_before t.index command (DirFile r) t.command_is (ap (λ (os : List Outcome). slice_get os t.index) (sym due.told) ∙ t.outcome_is) refl (λ first same. cc) r refl)

  pub done_clear : (tells : TellsCommand admin before entry pinned command Done) → command.old ≡ zero_id → (q : Name) → IsThereAt (moment_of tells) q → ¬ AreAtOdds q command.name
  done_clear t create q =
      let due = due_here ps ok admin before entry legal t.place t.pack t.commands t.atomic t.outcomes t.made pinned t.is_push t.opening in
      subst (λ (os : List Outcome). IsThereAt (record { refs = now_at.refs; commands = t.commands; outcomes = os; index = t.index }) q → ¬ AreAtOdds q command.name) (sym due.told)
      (none_in_the_way ps force_at now_at pinned t.pack t.commands t.atomic due.judged due.judges nonzero_before t.index command Done t.command_is (ap (λ (os : List Outcome). slice_get os t.index) (sym due.told) ∙ t.outcome_is) refl (λ first same. cc) refl create q)
