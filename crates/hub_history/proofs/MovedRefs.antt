-- Which refs a push moves.
use Rattle.std.proofs.Common.{◌≡◌, ◌⊎◌, inl, inr, ◌≤◌, ◌+◌, ℕ, zero, suc, Bool, true, false, ◌||◌, not, cond, List, [], ◌∷◌, map, length, take, refl, sym, ◌∙◌, ap, subst, arith}
use Rattle.std.specs.Prelude.{Option, Some, None, nat_lt, if◌then◌else◌}
use Rattle.std.specs.List.{count_by, list_any, position, position_from, slice_get}
use Rattle.std.specs.Option.{unwrap_or}
use Rattle.std.specs.Ordering.{nat_cmp, eq_by_cmp}
use Rattle.std.specs.Cmp.Lexicographic.{bytes_decides, slice_cmp, nat_list_cmp_total, texts_ties}
use Rattle.std.specs.FinMap.{get, insert, remove, get-insert, get-remove}
use Rattle.std.proofs.lemmas.Iterator.Adapters.{position_from-zero}
use Rattle.std.proofs.lemmas.List.Sums.{sum_by-cons}
use Rattle.git_object.specs.Content.{Content}
use Rattle.git_object.specs.declared.object_id.ObjectId.{ObjectId}
use Rattle.ref_store.specs.declared.command.Command.{Command}
use Rattle.ref_store.specs.Objects.{same_id, with_pack}
use Rattle.ref_store.specs.Refs.{Name, Refs, value, moved, zero_id, first_at_odds}
use Rattle.ref_store.proofs.ObjectLemmas.{id_is}
use Rattle.rule_compile.specs.Patterns.{Patterns}
use Rattle.hub_history.specs.declared.outcome.Outcome.{Outcome}
use Rattle.hub_history.specs.declared.outcome.Outcome.TheVariants.{Done, BadName, Twice, NoChange, NotAdvertised, Missing, WrongKind, Denied, ManyPaths, ConfRefused, DeniedNow, ManyPathsNow, Stale, DirFile, AtomicOther, Collided, Full}
use Rattle.hub_history.specs.Collision.{collision}
use Rattle.hub_history.specs.Opening.{Pinned}
use Rattle.hub_history.specs.State.{InForce, Repository, same_name}
use Rattle.hub_history.specs.Push.{JudgesAllAtPush, JudgesAtPush, beside, beside_first, by_directory, by_refs, in_order, is_done, outcomes_in, refs_after, refs_left, together, unless_collided, unless_full}
use Rattle.hub_history.proofs.HistoryLemmas.{some_same}
use Rattle.hub_history.proofs.JudgeLemmas.{before_refs, is_by_refs, judged_at, once_untold}
use Rattle.hub_history.proofs.PushLemmas.{done_in_order, none_alike, none_beside}

-- ---- one ref

abbrev pub is_for : Name → Command → Bool
is_for name c = same_name name c.name

moved_other : (refs : Refs) (k name : Name) (new : ObjectId) → same_name name k ≡ false → value (moved refs k new) name ≡ value refs name
moved_other refs k name new other = by_zero (same_id new zero_id)
  where
    apart : eq_by_cmp (slice_cmp nat_cmp) name k ≡ false
    apart = sym (texts_ties name k) ∙ other

    by_zero : (b : Bool) → value (if b then remove refs k else insert refs k new) name ≡ value refs name
    by_zero true = ap (λ (o : Option ObjectId). unwrap_or o zero_id) (get-remove nat_list_cmp_total refs k name ∙ ap (λ (b : Bool). cond b None (get refs name)) apart)
    by_zero false = ap (λ (o : Option ObjectId). unwrap_or o zero_id) (get-insert nat_list_cmp_total refs k new name ∙ ap (λ (b : Bool). cond b (Some new) (get refs name)) apart)

moved_here : (refs : Refs) (k : Name) (new : ObjectId) → value (moved refs k new) k ≡ new
moved_here refs k new = by_zero (same_id new zero_id) refl
  where
    here : eq_by_cmp (slice_cmp nat_cmp) k k ≡ true
    here = sym (texts_ties k k) ∙ (bytes_decides k k).1 refl

    by_zero : (b : Bool) → same_id new zero_id ≡ b → value (if b then remove refs k else insert refs k new) k ≡ new
    by_zero true is = ap (λ (o : Option ObjectId). unwrap_or o zero_id) (get-remove nat_list_cmp_total refs k k ∙ ap (λ (b : Bool). cond b None (get refs k)) here) ∙ sym (id_is new zero_id is)
    by_zero false is = ap (λ (o : Option ObjectId). unwrap_or o zero_id) (get-insert nat_list_cmp_total refs k new k ∙ ap (λ (b : Bool). cond b (Some new) (get refs k)) here)

-- a command for another ref leaves the ref
pub after_other : (refs : Refs) (c : Command) (o : Outcome) (name : Name) → is_for name c ≡ false → value (refs_after refs c o) name ≡ value refs name
after_other refs c o name other = by_done (is_done o)
  where
    by_done : (b : Bool) → value (if b then moved refs c.name c.new else refs) name ≡ value refs name
    by_done true = moved_other refs c.name name c.new other
    by_done false = refl

pub done_is : (o : Outcome) → is_done o ≡ true → o ≡ Done
done_is Done is = refl
done_is BadName is = cc
done_is Twice is = cc
done_is NoChange is = cc
done_is (NotAdvertised id) is = cc
done_is (Missing id) is = cc
done_is (WrongKind id) is = cc
done_is (Denied verdict letter name) is = cc
done_is ManyPaths is = cc
done_is (ConfRefused fault) is = cc
done_is (DeniedNow verdict letter name) is = cc
done_is ManyPathsNow is = cc
done_is (Stale id) is = cc
done_is (DirFile r) is = cc
done_is (AtomicOther i) is = cc
done_is (Collided id) is = cc
done_is (Full n) is = cc

-- ---- commands for one ref

abbrev as_one : Bool → ℕ
as_one b = cond b 1 0

pub count_more : (name : Name) (c : Command) (cs : List Command) → count_by (is_for name) (c ∷ cs) ≡ as_one (is_for name c) + count_by (is_for name) cs
count_more name c cs = sum_by-cons (λ (d : Command). as_one (is_for name d)) c cs

itself : (name : Name) → same_name name name ≡ true
itself name = (bytes_decides name name).1 refl

-- a command is counted
counted : (cs : List Command) (k : ℕ) (c : Command) → slice_get cs k ≡ Some c → 1 ≤ count_by (is_for c.name) cs
counted [] k c is = cc
counted (d ∷ cs) zero c is =
    let here : is_for c.name d ≡ true = ap (λ (e : Command). same_name c.name e.name) (some_same is) ∙ itself c.name in
    omega (arith, count_more c.name d cs, ap as_one here)
counted (d ∷ cs) (suc k) c is = omega (arith, count_more c.name d cs, counted cs k c is)

-- without a command for it a ref is left as it is
left_other : (refs : Refs) (cs : List Command) (os : List Outcome) (name : Name) → count_by (is_for name) cs ≡ 0 → value (refs_left refs cs os) name ≡ value refs name
left_other refs [] os name none = refl
left_other refs (c ∷ cs) [] name none = refl
left_other refs (c ∷ cs) (o ∷ os) name none = by_name (is_for name c) refl (left_other (refs_after refs c o) cs os name)
  where
    by_name : (b : Bool) → is_for name c ≡ b → (count_by (is_for name) cs ≡ 0 → value (refs_left (refs_after refs c o) cs os) name ≡ value (refs_after refs c o) name)
        → value (refs_left (refs_after refs c o) cs os) name ≡ value refs name
    by_name true is rest = absurd (omega (arith, none, count_more name c cs, ap as_one is))
    by_name false is rest = rest (omega (arith, none, count_more name c cs)) ∙ after_other refs c o name is

-- where a command is the only one for its ref, none before it is for that
pub none_before : (d : Command) (cs : List Command) (k : ℕ) (c : Command) → slice_get cs k ≡ Some c → count_by (is_for c.name) (d ∷ cs) ≤ 1 → (is_for c.name d ≡ false) × (count_by (is_for c.name) cs ≤ 1)
none_before d cs k c is once = (by_name (is_for c.name d) refl, omega (arith, once, count_more c.name d cs))
  where
    by_name : (b : Bool) → is_for c.name d ≡ b → b ≡ false
    by_name true here = absurd (omega (arith, once, count_more c.name d cs, ap as_one here, counted cs k c is))
    by_name false here = refl

none_behind : (c : Command) (cs : List Command) → count_by (is_for c.name) (c ∷ cs) ≤ 1 → count_by (is_for c.name) cs ≡ 0
none_behind c cs once = omega (arith, once, count_more c.name c cs, ap as_one (itself c.name))

-- the refs at the turn of the command at a place
abbrev pub refs_at : Refs → List Command → List Outcome → ℕ → Refs
refs_at refs cs os k = refs_left refs (take k cs) (take k os)

-- the only command for a ref meets the value that the ref had at first
pub met_at : (refs : Refs) (cs : List Command) (js : List (Option Outcome)) (k : ℕ) (c : Command) (o : Outcome) → count_by (is_for c.name) cs ≤ 1 → slice_get cs k ≡ Some c → slice_get (in_order refs cs js) k ≡ Some o
    → (j : Option Outcome) × (slice_get js k ≡ Some j) × (value (refs_at refs cs (in_order refs cs js) k) c.name ≡ value refs c.name) × (o ≡ by_refs (refs_at refs cs (in_order refs cs js) k) c j)
met_at refs [] js k c o once is told = cc
met_at refs (d ∷ cs) [] k c o once is told = cc
met_at refs (d ∷ cs) (j ∷ js) zero c o once is told = (j, refl, refl, sym (some_same told) ∙ ap (λ (e : Command). by_refs refs e j) (some_same is))
met_at refs (d ∷ cs) (j ∷ js) (suc k) c o once is told =
    let before = none_before d cs k c is once in
    let later = met_at (refs_after refs d (by_refs refs d j)) cs js k c o before.1 is told in
    (later.0, later.1, later.2 ∙ after_other refs d (by_refs refs d j) c.name before.0, later.3)

-- and where it is done the ref has the new one in the end
pub left_at : (refs : Refs) (cs : List Command) (os : List Outcome) (k : ℕ) (c : Command) → count_by (is_for c.name) cs ≤ 1 → slice_get cs k ≡ Some c → slice_get os k ≡ Some Done → value (refs_left refs cs os) c.name ≡ c.new
left_at refs [] os k c once is done = cc
left_at refs (d ∷ cs) [] k c once is done = cc
left_at refs (d ∷ cs) (o ∷ os) zero c once is done =
    let same : d ≡ c = some_same is in
    let moves : refs_after refs d o ≡ moved refs c.name c.new = ap (λ (b : Bool). if b then moved refs d.name d.new else refs) (ap is_done (some_same done)) ∙ ap (λ (e : Command). moved refs e.name e.new) same in
    left_other (refs_after refs d o) cs os c.name (none_behind c cs (subst (λ (e : Command). count_by (is_for c.name) (e ∷ cs) ≤ 1) same once))
    ∙ ap (λ (r : Refs). value r c.name) moves ∙ moved_here refs c.name c.new
left_at refs (d ∷ cs) (o ∷ os) (suc k) c once is done = left_at (refs_after refs d o) cs os k c (none_before d cs k c is once).1 is done

-- a command for this ref that is done
abbrev IsDoneFor : List Command → List Outcome → Name → Type 0
IsDoneFor cs os name = (k : ℕ) × (c : Command) × (slice_get cs k ≡ Some c) × (slice_get os k ≡ Some Done) × (c.name ≡ name)

-- what is known of the commands behind one
abbrev Later : Refs → List Command → List Outcome → Name → Type 0
Later refs cs os name = ¬ (value (refs_left refs cs os) name ≡ value refs name) → IsDoneFor cs os name

-- a ref whose value has changed has a command that is done
pub changed_by : (refs : Refs) (cs : List Command) (os : List Outcome) (name : Name) → ¬ (value (refs_left refs cs os) name ≡ value refs name) → IsDoneFor cs os name
changed_by refs [] os name differs = absurd (differs refl)
changed_by refs (c ∷ cs) [] name differs = absurd (differs refl)
changed_by refs (c ∷ cs) (o ∷ os) name differs = by_name (is_for name c) refl (is_done o) refl (changed_by (refs_after refs c o) cs os name)
  where
    later : value (refs_after refs c o) name ≡ value refs name → Later (refs_after refs c o) cs os name → IsDoneFor (c ∷ cs) (o ∷ os) name
    later same rest =
        let found = rest (λ alike. differs (alike ∙ same)) in
        (suc found.0, found.1, found.2, found.3, found.4)

    by_name : (b : Bool) → is_for name c ≡ b → (d : Bool) → is_done o ≡ d → Later (refs_after refs c o) cs os name → IsDoneFor (c ∷ cs) (o ∷ os) name
    by_name true here true done rest = (0, c, refl, ap (λ (x : Outcome). Some x) (done_is o done), sym ((bytes_decides name c.name).0 here))
    by_name true here false done rest = later (ap (λ (b : Bool). value (if b then moved refs c.name c.new else refs) name) done) rest
    by_name false other d done rest = later (after_other refs c o name other) rest

-- ---- outcomes

-- where one is done, some is
pub done_among : (os : List Outcome) (k : ℕ) → slice_get os k ≡ Some Done → list_any is_done os ≡ true
done_among [] k is = cc
done_among (o ∷ os) zero is = ap (λ (x : Outcome). is_done x || list_any is_done os) (some_same is)
done_among (o ∷ os) (suc k) is = either (is_done o) (done_among os k is)
  where
    either : (b : Bool) → list_any is_done os ≡ true → (b || list_any is_done os) ≡ true
    either true some = refl
    either false some = some

-- by what an outcome was told
told_at : (refs : Refs) (cs : List Command) (js : List (Option Outcome)) (k : ℕ) (o : Outcome) → slice_get (in_order refs cs js) k ≡ Some o → (j : Option Outcome) × (slice_get js k ≡ Some j) × ((x : Outcome) → j ≡ Some x → x ≡ o)
told_at refs [] js k o told = cc
told_at refs (c ∷ cs) [] k o told = cc
told_at refs (c ∷ cs) (j ∷ js) zero o told = (j, refl, λ x is. sym (ap (by_refs refs c) is) ∙ some_same told)
told_at refs (c ∷ cs) (j ∷ js) (suc k) o told = told_at (refs_after refs c (by_refs refs c j)) cs js k o told

pub same_alike : (a b : ObjectId) → a ≡ b → same_id a b ≡ true
same_alike a b same = (bytes_decides a.bytes b.bytes).1 (ap (λ (id : ObjectId). id.bytes) same)

met_done : (refs : Refs) (c : Command) → Done ≡ by_refs refs c None → value refs c.name ≡ c.old
met_done refs c is = by_old (same_id (value refs c.name) c.old) refl is
  where
    by_old : (b : Bool) → same_id (value refs c.name) c.old ≡ b → Done ≡ cond (not b) (Stale (value refs c.name)) (if same_id c.old zero_id then by_directory (first_at_odds refs c.name) else Done) → value refs c.name ≡ c.old
    by_old true same is = id_is (value refs c.name) c.old same
    by_old false other is = cc

met_stale : (refs : Refs) (c : Command) (v : ObjectId) → Stale v ≡ by_refs refs c None → (v ≡ value refs c.name) × ¬ (v ≡ c.old)
met_stale refs c v is = by_old (same_id (value refs c.name) c.old) refl is
  where
    in_the_way : (o : Option Name) → Stale v ≡ by_directory o → ⊥
    in_the_way None is = cc
    in_the_way (Some r) is = cc

    no_stale : (b : Bool) → Stale v ≡ (if b then by_directory (first_at_odds refs c.name) else Done) → ⊥
    no_stale true is = in_the_way (first_at_odds refs c.name) is
    no_stale false is = cc

    stale_same : (a b : ObjectId) → Stale a ≡ Stale b → a ≡ b
    stale_same a b same = cc

    by_old : (b : Bool) → same_id (value refs c.name) c.old ≡ b → Stale v ≡ cond (not b) (Stale (value refs c.name)) (if same_id c.old zero_id then by_directory (first_at_odds refs c.name) else Done)
        → (v ≡ value refs c.name) × ¬ (v ≡ c.old)
    by_old true same is = absurd (no_stale (same_id c.old zero_id) is)
    by_old false other is =
        let same : v ≡ value refs c.name = stale_same v (value refs c.name) is in
        (same, λ alike. let yes : true ≡ false = sym (same_alike (value refs c.name) c.old (sym same ∙ alike)) ∙ other in cc)

-- what an outcome was before those of an atomic push were taken together
pub was_alone : (atomic : Bool) (os : List Outcome) (k : ℕ) (o : Outcome) → slice_get (together atomic os) k ≡ Some o → (slice_get os k ≡ Some o) ⊎ ((slice_get os k ≡ Some Done) × (first : ℕ) × (o ≡ AtomicOther first))
was_alone false os k o is = inl is
was_alone true os k o is = by_first (position (λ x. not (is_done x)) os) is
  where
    among : (first : ℕ) (xs : List Outcome) (i : ℕ) → slice_get (map (beside first) xs) i ≡ Some o → (slice_get xs i ≡ Some o) ⊎ ((slice_get xs i ≡ Some Done) × (first : ℕ) × (o ≡ AtomicOther first))
    among first [] i is = cc
    among first (x ∷ xs) zero is = by_done (is_done x) refl (some_same is)
      where
        by_done : (b : Bool) → is_done x ≡ b → (if b then AtomicOther first else x) ≡ o → (Some x ≡ Some o) ⊎ ((Some x ≡ Some Done) × (first : ℕ) × (o ≡ AtomicOther first))
        by_done true done same = inr (ap (λ (y : Outcome). Some y) (done_is x done), first, sym same)
        by_done false other same = inl (ap (λ (y : Outcome). Some y) same)
    among first (x ∷ xs) (suc i) is = among first xs i is

    by_first : (p : Option ℕ) → slice_get (beside_first p os) k ≡ Some o → (slice_get os k ≡ Some o) ⊎ ((slice_get os k ≡ Some Done) × (first : ℕ) × (o ≡ AtomicOther first))
    by_first None is = inl is
    by_first (Some first) is = among first os k is

module _ (ps : Patterns) (force : InForce) (now : Repository) (pinned : Pinned) (pack : List Content) (cs : List Command) (atomic : Bool) (js : List (Option Outcome)) (judges : JudgesAllAtPush ps force pinned pack cs js) where
  abbrev told : List Outcome
  told = outcomes_in now pack cs atomic js

  abbrev run : List Outcome
  run = in_order now.refs cs js

  -- An outcome that is told by the refs is of a command of which neither the opening says anything nor the
  -- rules just before the push, so of the only one for its ref, and is told by the refs at its turn, where
  -- this has the value that it had at first
  pub record IsByRefs (k : ℕ) (c : Command) (o : Outcome) : Type 0 where
    pub untold : JudgesAtPush ps force pinned pack cs c None
    pub same : value (refs_at now.refs cs run k) c.name ≡ value now.refs c.name
    pub told_is : o ≡ by_refs (refs_at now.refs cs run k) c None

  pub by_refs_at : (k : ℕ) (c : Command) (o : Outcome) → slice_get cs k ≡ Some c → slice_get run k ≡ Some o → is_by_refs o ≡ true → IsByRefs k c o
  by_refs_at k c o is ran by = go first.0 first.1 first.2
    where
      first : (j : Option Outcome) × (slice_get js k ≡ Some j) × ((x : Outcome) → j ≡ Some x → x ≡ o)
      first = told_at now.refs cs js k o ran

      go : (j : Option Outcome) → slice_get js k ≡ Some j → ((x : Outcome) → j ≡ Some x → x ≡ o) → IsByRefs k c o
      go (Some x) e same =
          let here : JudgesAtPush ps force pinned pack cs c (Some x) = judged_at (JudgesAtPush ps force pinned pack cs) cs js judges k c (Some x) is e in
          let fails : is_by_refs o ≡ false = ap is_by_refs (sym (same x refl)) ∙ before_refs ps force pinned pack cs c (Some x) here in
          absurd (let bad : true ≡ false = sym by ∙ fails in cc)
      go None e same =
          let here : JudgesAtPush ps force pinned pack cs c None = judged_at (JudgesAtPush ps force pinned pack cs) cs js judges k c None is e in
          let met = met_at now.refs cs js k c o (once_untold ps force pinned pack cs c here) is ran in
          let none : met.0 ≡ None = some_same (sym met.1 ∙ e) in
          record { untold = here; same = met.2; told_is = met.3 ∙ ap (by_refs (refs_at now.refs cs run k) c) none }

  done_ran : (k : ℕ) → slice_get told k ≡ Some Done → told ≡ run
  done_ran k done = (done_in_order now pack cs atomic js (done_among told k done)).1

  pub done_by_refs : (k : ℕ) (c : Command) → slice_get cs k ≡ Some c → slice_get told k ≡ Some Done → IsByRefs k c Done
  done_by_refs k c is done = by_refs_at k c Done is (ap (λ (os : List Outcome). slice_get os k) (sym (done_ran k done)) ∙ done) refl

  -- a command that is done
  pub done_met : (k : ℕ) (c : Command) → slice_get cs k ≡ Some c → slice_get told k ≡ Some Done → (value now.refs c.name ≡ c.old) × (value (refs_left now.refs cs told) c.name ≡ c.new)
  done_met k c is done =
      let met = done_by_refs k c is done in
      (sym met.same ∙ met_done (refs_at now.refs cs run k) c met.told_is, left_at now.refs cs told k c (once_untold ps force pinned pack cs c met.untold) is done)

  -- where one is told by the refs or beside another's refusal, the outcomes are those in order, together
  pub told_together : (k : ℕ) (o : Outcome) → slice_get told k ≡ Some o → is_by_refs o ≡ true → told ≡ together atomic run
  told_together k o is by = by_collision (collision now.objects pack) is
    where
      alike : (a : Outcome) → is_by_refs a ≡ false → (ds : List Command) (i : ℕ) → slice_get (map (λ (d : Command). a) ds) i ≡ Some o → ⊥
      alike a fails [] i is = cc
      alike a fails (d ∷ ds) zero is = let bad : false ≡ true = sym fails ∙ ap is_by_refs (some_same is) ∙ by in cc
      alike a fails (d ∷ ds) (suc i) is = alike a fails ds i is

      by_full : (b : Bool) → slice_get (if b then map (λ c. Full (length (with_pack now.objects pack))) cs else together atomic run) k ≡ Some o
          → (if b then map (λ c. Full (length (with_pack now.objects pack))) cs else together atomic run) ≡ together atomic run
      by_full true is = absurd (alike (Full (length (with_pack now.objects pack))) refl cs k is)
      by_full false is = refl

      by_collision : (x : Option ObjectId) → slice_get (unless_collided x cs (unless_full (length (with_pack now.objects pack)) cs (together atomic run))) k ≡ Some o
          → unless_collided x cs (unless_full (length (with_pack now.objects pack)) cs (together atomic run)) ≡ together atomic run
      by_collision (Some id) is = absurd (alike (Collided id) refl cs k is)
      by_collision None is = by_full (nat_lt 4294967295 (length (with_pack now.objects pack))) is

  -- and what isn't told beside another's was told in order
  pub own_ran : (k : ℕ) (o : Outcome) → slice_get told k ≡ Some o → is_by_refs o ≡ true → ((first : ℕ) → ¬ (o ≡ AtomicOther first)) → slice_get run k ≡ Some o
  own_ran k o is by other = elim (was_alone atomic run k o (ap (λ (os : List Outcome). slice_get os k) (sym (told_together k o is by)) ∙ is)) [
    | inl same ↦ same
    | inr w ↦ absurd (other w.1 w.2)
  ]

  -- a command that is stale
  pub stale_met : (k : ℕ) (c : Command) (v : ObjectId) → slice_get cs k ≡ Some c → slice_get told k ≡ Some (Stale v) → (v ≡ value now.refs c.name) × ¬ (v ≡ c.old)
  stale_met k c v is stale =
      let met = by_refs_at k c (Stale v) is (own_ran k (Stale v) stale refl (λ first same. cc)) refl in
      let was = met_stale (refs_at now.refs cs run k) c v met.told_is in
      (was.0 ∙ met.same, was.1)

-- where none is refused each is done
all_done : (o : Outcome) → is_done o ≡ false → (os : List Outcome) (from i : ℕ) → position_from (λ x. not (is_done x)) from os ≡ None → slice_get os i ≡ Some o → ⊥
all_done o refused [] from i none is = cc
all_done o refused (x ∷ xs) from zero none is = by_done (is_done x) (ap is_done (some_same is) ∙ refused) none
  where
    by_done : (b : Bool) → b ≡ false → cond (not b) (Some from) (position_from (λ x. not (is_done x)) (from + 1) xs) ≡ None → ⊥
    by_done true done none = cc
    by_done false refused none = cc
all_done o refused (x ∷ xs) from (suc i) none is = by_done (is_done x) none (λ later. all_done o refused xs (from + 1) i later is)
  where
    by_done : (b : Bool) → cond (not b) (Some from) (position_from (λ x. not (is_done x)) (from + 1) xs) ≡ None → (position_from (λ x. not (is_done x)) (from + 1) xs ≡ None → ⊥) → ⊥
    by_done true none rest = rest none
    by_done false none rest = cc

-- where an atomic push has an outcome that isn't done, none is
pub none_done : (now : Repository) (pack : List Content) (cs : List Command) (js : List (Option Outcome)) (k : ℕ) (o : Outcome) → slice_get (outcomes_in now pack cs true js) k ≡ Some o → is_done o ≡ false
    → list_any is_done (outcomes_in now pack cs true js) ≡ false
none_done now pack cs js k o is refused = by_collision (collision now.objects pack) is
  where
    by_first : (p : Option ℕ) → position (λ x. not (is_done x)) (in_order now.refs cs js) ≡ p → slice_get (beside_first p (in_order now.refs cs js)) k ≡ Some o → list_any is_done (beside_first p (in_order now.refs cs js)) ≡ false
    by_first None e is = absurd (all_done o refused (in_order now.refs cs js) 0 k (sym (position_from-zero (λ x. not (is_done x)) (in_order now.refs cs js)) ∙ e) is)
    by_first (Some first) e is = none_beside first (in_order now.refs cs js)

    by_full : (b : Bool) → slice_get (if b then map (λ c. Full (length (with_pack now.objects pack))) cs else together true (in_order now.refs cs js)) k ≡ Some o
        → list_any is_done (if b then map (λ c. Full (length (with_pack now.objects pack))) cs else together true (in_order now.refs cs js)) ≡ false
    by_full true is = none_alike (Full (length (with_pack now.objects pack))) refl cs
    by_full false is = by_first (position (λ x. not (is_done x)) (in_order now.refs cs js)) refl is

    by_collision : (c : Option ObjectId) → slice_get (unless_collided c cs (unless_full (length (with_pack now.objects pack)) cs (together true (in_order now.refs cs js)))) k ≡ Some o
        → list_any is_done (unless_collided c cs (unless_full (length (with_pack now.objects pack)) cs (together true (in_order now.refs cs js)))) ≡ false
    by_collision (Some id) is = none_alike (Collided id) refl cs
    by_collision None is = by_full (nat_lt 4294967295 (length (with_pack now.objects pack))) is
