-- No ref is a directory of another.
use Rattle.std.proofs.Common.{◌≡◌, List, [], ◌∷◌, refl, sym, ◌∙◌, ap, subst, Bool, true, false, not, ◌||◌, cond}
use Rattle.std.specs.Prelude.{Option, Some, None, if◌then◌else◌}
use Rattle.std.specs.List.{find as first_of, list_any}
use Rattle.std.specs.Ordering.{nat_cmp, eq_by_cmp}
use Rattle.std.specs.Cmp.Lexicographic.{slice_cmp, texts_ties}
use Rattle.std.specs.FinMap.{keys, contains_key-keys}
use Rattle.ref_store.specs.Objects.{same_id}
use Rattle.ref_store.specs.Refs.{Name, Refs, zero_id, value, moved, HasNoneAtOdds, HasRefsApart, are_at_odds, first_at_odds}
use Rattle.ref_store.specs.declared.command.Command.{Command}
use Rattle.ref_store.proofs.ObjectLemmas.{same_bytes, id_is}
use Rattle.ref_store.proofs.OddsLemmas.{test_of_odds}
use Rattle.ref_store.proofs.ApartLemmas.{apart-empty, apart-moved, there_by_value}
use Rattle.rule_compile.specs.Patterns.{AreTrue, Patterns}
use Rattle.hub_history.specs.declared.outcome.Outcome.{Outcome}
use Rattle.hub_history.specs.declared.outcome.Outcome.TheVariants.{Done, Stale}
use Rattle.hub_history.specs.declared.entry.Entry.{Entry}
use Rattle.hub_history.specs.State.{Repository}
use Rattle.hub_history.specs.Push.{by_directory, by_refs, in_order, refs_after, refs_left}
use Rattle.hub_history.specs.History.{IsLegal, replay}
use Rattle.hub_history.specs.Laws.{OfEachRepository}
use Rattle.hub_history.proofs.PushLemmas.{done_in_order}
use Rattle.hub_history.proofs.JudgeLemmas.{AllJudged, IsRefused, all_along, before_refs, refused}
use Rattle.hub_history.proofs.EachRepository.{Each, IsKept, each_pinned, each_replayed}

-- I. Where the first ref at odds with a name is none, no ref is

none_passing : (p : Name → Bool) (q : Name) (names : List Name) → first_of p names ≡ None → list_any (eq_by_cmp (slice_cmp nat_cmp) q) names ≡ true → p q ≡ false
none_passing p q [] none some = let bad : false ≡ true = some in cc
none_passing p q (n ∷ names) none some = by_tests (p n) (eq_by_cmp (slice_cmp nat_cmp) q n) refl refl none some (none_passing p q names)
  where
    by_tests : (b c : Bool) → p n ≡ b → eq_by_cmp (slice_cmp nat_cmp) q n ≡ c → cond b (Some n) (first_of p names) ≡ None → (c || list_any (eq_by_cmp (slice_cmp nat_cmp) q) names) ≡ true
        → (first_of p names ≡ None → list_any (eq_by_cmp (slice_cmp nat_cmp) q) names ≡ true → p q ≡ false) → p q ≡ false
    by_tests true c t same none some rest = cc
    by_tests false true t same none some rest = ap p (same_bytes q n (texts_ties q n ∙ same)) ∙ t
    by_tests false false t same none some rest = rest none some

pub none_first : (refs : Refs) (name : Name) → first_at_odds refs name ≡ None → HasNoneAtOdds refs name
none_first refs name none q some odds =
    let fails : are_at_odds q name ≡ false = none_passing (λ r. are_at_odds r name) q (keys refs) none (sym (contains_key-keys refs q) ∙ some) in
    let passes : are_at_odds q name ≡ true = test_of_odds q name odds in
    cc

-- II. What keeps refs apart

apart-run : (refs : Refs) (c : Command) → HasRefsApart refs → HasRefsApart (refs_after refs c (by_refs refs c None))
apart-run refs c apart = by_tests (same_id (value refs c.name) c.old) (same_id c.old zero_id) (first_at_odds refs c.name) refl refl refl
  where
    by_tests : (d z : Bool) (o : Option Name) → same_id (value refs c.name) c.old ≡ d → same_id c.old zero_id ≡ z → first_at_odds refs c.name ≡ o
        → HasRefsApart (refs_after refs c (if not d then Stale (value refs c.name) else if z then by_directory o else Done))
    by_tests false z o other is first = apart
    by_tests true true None same new none = apart-moved refs c.name c.new (none_first refs c.name none) apart
    by_tests true true (Some r) same new first = apart
    by_tests true false o same old first = apart-moved refs c.name c.new (apart c.name (there_by_value refs c.name c.old (id_is (value refs c.name) c.old same) old)) apart

apart-after : (refs : Refs) (c : Command) (j : Option Outcome) → IsRefused j → HasRefsApart refs → HasRefsApart (refs_after refs c (by_refs refs c j))
apart-after refs c (Some outcome) fails apart = subst (λ (b : Bool). HasRefsApart (if b then moved refs c.name c.new else refs)) (sym fails) apart
apart-after refs c None fails apart = apart-run refs c apart

apart-left : (refs : Refs) (cs : List Command) (js : List (Option Outcome)) → AllJudged (λ c j. IsRefused j) cs js → HasRefsApart refs → HasRefsApart (refs_left refs cs (in_order refs cs js))
apart-left refs [] js all apart = apart
apart-left refs (c ∷ cs) [] all apart = apart
apart-left refs (c ∷ cs) (j ∷ js) all apart = apart-left (refs_after refs c (by_refs refs c j)) cs js all.1 (apart-after refs c j all.0 apart)

abbrev IsApart : Repository → Type 0
IsApart repository = HasRefsApart repository.refs

apart-pushed : IsKept IsApart
apart-pushed ps force now pinned pack commands atomic judged within fit judges apart done =
    subst (λ (os : List Outcome). HasRefsApart (refs_left now.refs commands os)) (sym (done_in_order now pack commands atomic judged done).1)
    (apart-left now.refs commands judged (all_along (λ c o is. refused o (before_refs ps force pinned pack commands c o is)) commands judged judges) apart)

module _ (ps : Patterns) (ok : AreTrue ps) where
  replayed_apart : (admin : Name) (log : List Entry) → IsLegal admin log → Each IsApart (replay admin log).repositories
  replayed_apart = each_replayed IsApart ps ok (λ creator. apart-empty) (λ repository roles apart. apart) apart-pushed

  pub refs_apart : OfEachRepository (λ repository. HasRefsApart repository.refs)
  refs_apart admin log legal = (replayed_apart admin log legal, each_pinned IsApart replayed_apart apart-empty admin log legal)
