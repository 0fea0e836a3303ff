use Rattle.std.proofs.Common.{rules, ◌≡◌, ◌+◌, ◌^◌, ◌≤◌, length, sym, ◌∙◌, ap, subst, arith}
use Rattle.std.specs.Prelude.{ℕ, List}
use Rattle.git_object.specs.Content.{Content}
use Rattle.ref_store.specs.Segments.{all_of}
use Rattle.ref_store.proofs.SegmentLemmas.{all_large, at_most_32, none_of_none}
use Rattle.ref_store.proofs.segments.Segments.number.Goals as goal

pub returns-clause-few : goal.returns-clause-few
returns-clause-few c =
    let len : c.len.result ≡ length c.self.inside.segments.items = search rules in
    let few = at_most_32 (length c.self.inside.segments.items) (omega (arith, all_large c.self.inside.segments.items c.self.invariant.halving, c.self.invariant.count_is, c.self.invariant.few)) in
    omega (arith, len, few)

pub returns-clause-halving : goal.returns-clause-halving
returns-clause-halving c =
    let len : c.len.result ≡ length c.self.inside.segments.items = search rules in
    let bound = all_large c.self.inside.segments.items c.self.invariant.halving in
    subst (λ (n : ℕ). 2 ^ n ≤ length (all_of c.args.self.now) + 1) (sym len)
    (subst (λ (ss : List (List Content)). 2 ^ length c.self.inside.segments.items ≤ length (all_of ss) + 1) c.self.view_is bound)

pub returns-clause-none : goal.returns-clause-none
returns-clause-none c = λ is.
    let len : c.len.result ≡ length c.self.inside.segments.items = search rules in
    ap all_of (sym c.self.view_is) ∙ none_of_none c.self.inside.segments.items (sym len ∙ is)
