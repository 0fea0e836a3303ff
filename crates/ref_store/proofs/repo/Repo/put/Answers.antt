use Rattle.std.proofs.Common.{◌≡◌, ℕ, List, true, false, sym, ◌∙◌, ap, subst}
use Rattle.ref_store.specs.RefName.{is_ref_name}
use Rattle.ref_store.specs.Objects.{same_id}
use Rattle.ref_store.specs.Refs.{Refs, Name, zero_id, moved, HasRefNames, HasNoZero, HasNoneAtOdds, HasRefsApart}
use Rattle.ref_store.specs.Segments.{all_of}
use Rattle.ref_store.specs.Store.{Store}
use Rattle.ref_store.proofs.RefLemmas.{one_ref_more, one_ref_less, no_zero_more, no_zero_less, moved_some}
use Rattle.ref_store.proofs.ApartLemmas.{apart-insert, apart-remove}
use Rattle.ref_store.proofs.repo.Repo.put.Goals as goal

pub invariant_of-self-then-same_id : goal.invariant_of-self-then-same_id
invariant_of-self-then-same_id c = record {
  names = c.self.invariant.names;
  refs = subst HasRefNames (sym c.in_ok-remove.ensures.ok) (one_ref_less c.self.inside.refs c.text.result.now c.self.invariant.refs);
  values = subst HasNoZero (sym c.in_ok-remove.ensures.ok) (no_zero_less c.self.inside.refs c.text.result.now c.self.invariant.values);
  apart = subst HasRefsApart (sym c.in_ok-remove.ensures.ok) (apart-remove c.self.inside.refs c.text.result.now c.self.invariant.apart);
}

pub invariant_of-self-2 : goal.invariant_of-self-2
invariant_of-self-2 c =
    let good : is_ref_name c.in_ok-name.name ≡ true = ap is_ref_name (c.in_ok-name.ensures.cases ∙ c.text-2.ensures ∙ sym c.bytes-rule.ensures.bytes) ∙ c.bytes-rule.ensures.rule in
    let other : same_id c.args.new zero_id ≡ false = ap (λ (b : List ℕ). same_id c.args.new (record { bytes = b })) (sym c.zero.ensures) ∙ sym c.same_id.ensures.test ∙ c.if-same_id.false in
    let refs : c.args.self.now.refs ≡ c.self.inside.refs = sym (ap (λ (s : Store). s.refs) c.self.view_is) in
    let name : c.args.name.now ≡ c.in_ok-name.name = sym (c.in_ok-name.ensures.cases ∙ c.text-2.ensures) in
    let none : HasNoneAtOdds c.self.inside.refs c.in_ok-name.name = subst (HasNoneAtOdds c.self.inside.refs) name (subst (λ (r : Refs). HasNoneAtOdds r c.args.name.now) refs c.requires) in
    record {
      names = c.self.invariant.names;
      refs = subst HasRefNames (sym c.in_ok-insert.ensures.ok) (one_ref_more c.self.inside.refs c.in_ok-name.name c.args.new good c.self.invariant.refs);
      values = subst HasNoZero (sym c.in_ok-insert.ensures.ok) (no_zero_more c.self.inside.refs c.in_ok-name.name c.args.new other c.self.invariant.values);
      apart = subst HasRefsApart (sym c.in_ok-insert.ensures.ok) (apart-insert c.self.inside.refs c.in_ok-name.name c.args.new none c.self.invariant.apart);
    }

pub returns-clause-ok : goal.returns-clause-ok
returns-clause-ok c =
    let other : same_id c.args.new zero_id ≡ false = ap (λ (b : List ℕ). same_id c.args.new (record { bytes = b })) (sym c.zero.ensures) ∙ sym c.same_id.ensures.test ∙ c.if-same_id.false in
    let name : c.in_ok-name.name ≡ c.args.name.now = c.in_ok-name.ensures.cases ∙ c.text-2.ensures in
    let refs : c.insert.new.self ≡ moved c.self.inside.refs c.args.name.now c.args.new =
    c.in_ok-insert.ensures.ok ∙ moved_some c.self.inside.refs c.in_ok-name.name c.args.new other ∙ ap (λ (n : Name). moved c.self.inside.refs n c.args.new) name in
    ap (λ (r : Refs). record { objects = all_of c.self.inside.objects; refs = r }) refs ∙ ap (λ (s : Store). record s { refs = moved s.refs c.args.name.now c.args.new }) c.self.view_is
