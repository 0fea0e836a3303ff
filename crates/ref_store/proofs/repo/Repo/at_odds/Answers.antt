use Rattle.std.proofs.Common.{◌≡◌, ℕ, List, false, sym, ◌∙◌, ap, subst}
use Rattle.ref_store.specs.Objects.{same_id}
use Rattle.ref_store.specs.Refs.{Refs, zero_id, value, HasNoneAtOdds}
use Rattle.ref_store.specs.Store.{Store}
use Rattle.ref_store.proofs.ApartLemmas.{there_by_value}
use Rattle.ref_store.proofs.repo.Repo.at_odds.Goals as goal

-- a name whose value isn't zero is there, and refs stand apart
pub returns-then-not-same_id-clause-odds : goal.returns-then-not-same_id-clause-odds
returns-then-not-same_id-clause-odds c =
    let other : same_id c.args.old zero_id ≡ false = ap (λ (b : List ℕ). same_id c.args.old (record { bytes = b })) (sym c.zero.ensures) ∙ sym c.same_id.ensures.test ∙ c.if-not-same_id.true in
    let refs : c.self.inside.refs ≡ c.args.self.now.refs = ap (λ (s : Store). s.refs) c.self.view_is in
    let is : value c.self.inside.refs c.args.name.now ≡ c.args.old = ap (λ (r : Refs). value r c.args.name.now) refs ∙ c.requires in
    subst (λ (r : Refs). HasNoneAtOdds r c.args.name.now) refs (c.self.invariant.apart c.args.name.now (there_by_value c.self.inside.refs c.args.name.now c.args.old is other))

pub returns-in-None-clause-odds : goal.returns-in-None-clause-odds
returns-in-None-clause-odds c =
    let refs : c.refs-refs.result.now ≡ c.args.self.now.refs = c.refs-refs.ensures ∙ ap (λ (s : Store). s.refs) c.self.view_is in
    subst (λ (r : Refs). HasNoneAtOdds r c.args.name.now) refs (subst (HasNoneAtOdds c.refs-refs.result.now) c.text.ensures (rw c.in-None.is at c.in_ok-other.ensures))
