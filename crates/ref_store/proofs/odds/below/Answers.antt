use Rattle.std.proofs.Common.{◌≡◌, List, ℕ, [], ◌∷◌, ◌++◌, true, false, nat_eq, sym, ◌∙◌, ap, subst}
use Rattle.std.specs.List.{starts_with}
use Rattle.ref_store.specs.Refs.{IsLeastAtOdds}
use Rattle.ref_store.proofs.RefLemmas.{below_found, below_past, below_none}
use Rattle.ref_store.proofs.odds.below.Goals as goal

pub returns-in_default : goal.returns-in_default
returns-in_default c = below_none c.args.refs.now c.args.name.now c.in_ok-front.front (c.in_ok-front.ensures ∙ ap (λ (l : List ℕ). l ++ 47 ∷ []) c.bytes.ensures) c.requires c.in_default.ensures

pub returns-then-starts_with : goal.returns-then-starts_with
returns-then-starts_with c =
    let front = c.in_ok-front.front in
    let starts : starts_with nat_eq c.in-Some.found.now front ≡ true =
    ap (λ (l : List ℕ). starts_with nat_eq l front) (sym c.bytes-2.ensures)
    ∙ ap (λ (l : List ℕ). starts_with nat_eq c.bytes-2.result.now l) (sym c.bytes-3.ensures)
    ∙ sym c.starts_with.ensures.value
    ∙ c.if-starts_with.true in
    subst (IsLeastAtOdds c.args.refs.now c.args.name.now) (sym c.in_ok-clone.ensures.cases)
    (below_found c.args.refs.now c.args.name.now front c.in-Some.found.now (c.in_ok-front.ensures ∙ ap (λ (l : List ℕ). l ++ 47 ∷ []) c.bytes.ensures) c.requires c.in-Some.ensures starts)

pub returns : goal.returns
returns c =
    let front = c.in_ok-front.front in
    let starts : starts_with nat_eq c.in-Some.found.now front ≡ false =
    ap (λ (l : List ℕ). starts_with nat_eq l front) (sym c.bytes-2.ensures)
    ∙ ap (λ (l : List ℕ). starts_with nat_eq c.bytes-2.result.now l) (sym c.bytes-3.ensures)
    ∙ sym c.starts_with.ensures.value
    ∙ c.if-starts_with.false in
    below_past c.args.refs.now c.args.name.now front c.in-Some.found.now (c.in_ok-front.ensures ∙ ap (λ (l : List ℕ). l ++ 47 ∷ []) c.bytes.ensures) c.requires c.in-Some.ensures starts
