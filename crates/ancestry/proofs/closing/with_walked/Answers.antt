use Rattle.std.proofs.Common.{◌≡◌, ◌<◌, ℕ, List, Contains, true, sym, subst}
use Rattle.ancestry.specs.Runs.{is_in}
use Rattle.std.specs.List.{All}
use Rattle.std.specs.List.Sorted.{IsNonDecreasing}
use Rattle.std.proofs.lemmas.List.Sorted.{All-permutation, Contains-permutation, IsNonDecreasingBy-from_sort, IsPermutation-sym}
use Rattle.std.proofs.lemmas.Result.{IfOk-weaker}
use Rattle.ancestry.proofs.ClosureLemmas.{walked_of}
use Rattle.ancestry.proofs.closing.with_walked.Goals as goal

pub runs_of-requires-clause-ascend : goal.runs_of-requires-clause-ascend
runs_of-requires-clause-ascend c = subst IsNonDecreasing (sym c.deref.ensures.value) (IsNonDecreasingBy-from_sort (λ x. x) c.sort_unstable.new.self.items c.sort_unstable.ensures.sorted)

pub runs_of-requires-clause-small : goal.runs_of-requires-clause-small
runs_of-requires-clause-small c =
    subst (λ (ps : List ℕ). All (λ place. place < 4294967295) ps) (sym c.deref.ensures.value) (All-permutation (λ place. place < 4294967295) c.in_ok-places.places.items c.sort_unstable.new.self.items c.sort_unstable.ensures.permutation c.in_ok-places.ensures.small)

pub returns : goal.returns
returns c =
    let places = c.in_ok-places.places.items in
    let sorted = c.sort_unstable.new.self.items in
    IfOk-weaker c.union.result _ _
    (λ all is.
    walked_of c.args.front.now c.args.set.now c.args.met.now c.in_ok-walked.walked all places sorted is
    (λ place. subst (λ (ps : List ℕ). (is_in c.in_ok-walked.walked place ≡ true → Contains ps place) × (Contains ps place → is_in c.in_ok-walked.walked place ≡ true)) c.deref.ensures.value (c.in_ok-walked.ensures place))
    (λ place there. Contains-permutation sorted places place (IsPermutation-sym places sorted c.sort_unstable.ensures.permutation) there) (λ place there. Contains-permutation places sorted place c.sort_unstable.ensures.permutation there) c.in_ok-places.ensures.are) c.union.ensures
