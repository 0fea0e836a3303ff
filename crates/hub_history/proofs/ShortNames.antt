-- No ref's name has more than 1,024 bytes.
use Rattle.std.proofs.Common.{◌≡◌, ◌≤◌, List, [], ◌∷◌, refl, sym, ◌∙◌, subst, Bool, true, false, cond, length, map, ap, ◌||◌, T}
use Rattle.std.specs.Prelude.{Option, Some, None, is_some, if◌then◌else◌}
use Rattle.std.specs.List.{list_any, AllByRecursion}
use Rattle.std.specs.Ordering.{nat_cmp, eq_by_cmp}
use Rattle.std.specs.Cmp.Lexicographic.{slice_cmp, nat_list_cmp_total, texts_ties, same_text as one_text}
use Rattle.std.specs.FinMap.{get, insert, remove, empty, entries, get-insert, get-remove, get-empty, contains_key-keys}
use Rattle.std.specs.Cmp.{eq_by_cmp_equiv}
use Rattle.std.proofs.lemmas.List.Elements.{All-from_recursion}
use Rattle.git_object.specs.declared.object_id.ObjectId.{ObjectId}
use Rattle.ref_store.specs.Objects.{same_id}
use Rattle.ref_store.specs.Refs.{Name, Refs, zero_id, moved}
use Rattle.ref_store.specs.declared.command.Command.{Command}
use Rattle.rule_compile.specs.Patterns.{AreTrue, Patterns}
use Rattle.hub_history.specs.declared.outcome.Outcome.{Outcome}
use Rattle.hub_history.specs.declared.entry.Entry.{Entry}
use Rattle.hub_history.specs.State.{HasShortNames, Repository, same_name}
use Rattle.hub_history.specs.Push.{is_done, outcomes_in, refs_after, refs_left}
use Rattle.hub_history.specs.History.{IsLegal, replay}
use Rattle.hub_history.specs.Laws.{OfEachRepository}
use Rattle.hub_history.proofs.EachRepository.{Each, IsKept, each_pinned, each_replayed}

abbrev IsShort : Command → Type 0
IsShort c = length c.name ≤ 1024

-- the same, name by name
abbrev HasShort : Refs → Type 0
HasShort refs = (name : Name) (id : ObjectId) → get refs name ≡ Some id → length name ≤ 1024

abbrev same : Name → Name → Bool
same = eq_by_cmp (slice_cmp nat_cmp)

among : (es : List (Name × ObjectId)) → ((q : Name) → list_any (same q) (map (λ e. e.0) es) ≡ true → length q ≤ 1024) → AllByRecursion (λ (e : Name × ObjectId). length e.0 ≤ 1024) es
among [] each = tt
among (e ∷ es) each = (
  each e.0 (ap (λ b. b || list_any (same e.0) (map (λ e. e.0) es)) ((eq_by_cmp_equiv nat_list_cmp_total).refl e.0)),
  among es (λ q has. each q (ap (λ b. same q e.0 || b) has ∙ or_true (same q e.0))),
)
  where
    or_true : (b : Bool) → (b || true) ≡ true
    or_true true = refl
    or_true false = refl

each_short : (refs : Refs) → HasShort refs → HasShortNames refs
each_short refs short = All-from_recursion _ (entries refs) (among (entries refs) (λ q has. by_get q (get refs q) refl (contains_key-keys refs q ∙ has)))
  where
    by_get : (q : Name) (o : Option ObjectId) → get refs q ≡ o → is_some (get refs q) ≡ true → length q ≤ 1024
    by_get q None none some = absurd (subst T (sym some ∙ ap is_some none) tt)
    by_get q (Some id) is some = short q id is

short-empty : HasShort empty
short-empty q id is = let none = sym (get-empty {X = ObjectId} (slice_cmp nat_cmp) q) ∙ is in cc

short-insert : (refs : Refs) (name : Name) (id : ObjectId) → length name ≤ 1024 → HasShort refs → HasShort (insert refs name id)
short-insert refs name id few short q found is = by_name (same_name q name) refl (sym (get-insert nat_list_cmp_total refs name id q) ∙ is)
  where
    by_name : (b : Bool) → same_name q name ≡ b → cond (eq_by_cmp (slice_cmp nat_cmp) q name) (Some id) (get refs q) ≡ Some found → length q ≤ 1024
    by_name true same has = subst (λ (n : Name). length n ≤ 1024) (sym (one_text q name (sym same))) few
    by_name false apart has = short q found (subst (λ (b : Bool). cond b (Some id) (get refs q) ≡ Some found) (sym (texts_ties q name) ∙ apart) has)

short-remove : (refs : Refs) (name : Name) → HasShort refs → HasShort (remove refs name)
short-remove refs name short q found is = by_name (eq_by_cmp (slice_cmp nat_cmp) q name) (sym (get-remove nat_list_cmp_total refs name q) ∙ is)
  where
    by_name : (b : Bool) → cond b None (get refs q) ≡ Some found → length q ≤ 1024
    by_name true is = cc
    by_name false is = short q found is

short-moved : (refs : Refs) (name : Name) (id : ObjectId) → length name ≤ 1024 → HasShort refs → HasShort (moved refs name id)
short-moved refs name id few short = by_id (same_id id zero_id)
  where
    by_id : (b : Bool) → HasShort (if b then remove refs name else insert refs name id)
    by_id true = short-remove refs name short
    by_id false = short-insert refs name id few short

short-after : (refs : Refs) (c : Command) (o : Outcome) → IsShort c → HasShort refs → HasShort (refs_after refs c o)
short-after refs c o few short = by_done (is_done o)
  where
    by_done : (b : Bool) → HasShort (if b then moved refs c.name c.new else refs)
    by_done true = short-moved refs c.name c.new few short
    by_done false = short

short-left : (refs : Refs) (cs : List Command) (os : List Outcome) → AllByRecursion IsShort cs → HasShort refs → HasShort (refs_left refs cs os)
short-left refs [] os few short = short
short-left refs (c ∷ cs) [] few short = short
short-left refs (c ∷ cs) (o ∷ os) few short = short-left (refs_after refs c o) cs os few.1 (short-after refs c o few.0 short)

abbrev IsShortNamed : Repository → Type 0
IsShortNamed repository = HasShort repository.refs

short-pushed : IsKept IsShortNamed
short-pushed ps force now pinned pack commands atomic judged within fit judges short done = short-left now.refs commands (outcomes_in now pack commands atomic judged) within.short short

module _ (ps : Patterns) (ok : AreTrue ps) where
  replayed_short : (admin : Name) (log : List Entry) → IsLegal admin log → Each IsShortNamed (replay admin log).repositories
  replayed_short = each_replayed IsShortNamed ps ok (λ creator. short-empty) (λ repository roles short. short) short-pushed

  pub names_short : OfEachRepository (λ repository. HasShortNames repository.refs)
  names_short admin log legal = (
    λ name repository is. each_short repository.refs (replayed_short admin log legal name repository is),
    λ opening stands. each_short opening.pinned.repository.refs (each_pinned IsShortNamed replayed_short short-empty admin log legal opening stands),
  )
