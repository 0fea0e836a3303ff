use Rattle.std.proofs.Common.{◌≡◌, ℕ, ◌∙◌, arith, refl, sym, ap, subst, map, List, [], ◌∷◌, None}
use Rattle.refex.specs.Pattern.{Pattern}
use Rattle.refex.specs.Items.{placed_of, kept_item_of}
use Rattle.refex.specs.Faults.{first_fault}
use Rattle.refex.specs.Grammar.{Reads, alternation}
use Rattle.refex.specs.Program.{Runs, pattern_of, is_name_step}
use Rattle.std.specs.List.{list_any}
use Rattle.refex.specs.Text.{items}
use Rattle.refex.specs.Refex.{Spells, IsRefex, IsRefused, forms, has_name}
use Rattle.refex.specs.declared.faults.RefexFault.TheVariants.{TooManyPositions}
use Rattle.refex.proofs.OneAnswer.{refused_ok, refused_err, refex_err}
use Rattle.refex.specs.Means.{Means}
use Rattle.refex.specs.declared.items.Token.{Token}
use Rattle.refex.specs.declared.items.Last.TheVariants as last
use Rattle.refex.specs.declared.faults.Hole.{Hole}
use Rattle.refex.proofs.Reading.{pattern_is}
use Rattle.refex.proofs.Holes.{pattern_named}
use Rattle.refex.proofs.Refex.parse.Goals as goal

forms_kept : (tokens : List Token) → forms (map placed_of tokens) ≡ map kept_item_of tokens
forms_kept [] = refl
forms_kept (t ∷ ts) = ap (λ xs. kept_item_of t ∷ xs) (forms_kept ts)

spelled : (hole : Hole) (text : List ℕ) (tokens seen read : List Token) (p : Pattern) → map placed_of tokens ≡ items hole text → seen ≡ tokens → read ≡ tokens
    → None ≡ first_fault last.Nothing 0 (map placed_of seen) → Reads alternation (map kept_item_of read) p → Spells hole text p
spelled hole text tokens seen read p is same same' none reads = record {
  sound = ap (first_fault last.Nothing 0) (sym is ∙ sym (ap (map placed_of) same)) ∙ sym none;
  reads = subst (λ xs. Reads alternation xs p) (ap (map kept_item_of) same' ∙ sym (forms_kept tokens) ∙ ap forms is) reads;
}

pub returns-then-piece-gt-MAX_POSITIONS : goal.returns-then-piece-gt-MAX_POSITIONS
returns-then-piece-gt-MAX_POSITIONS c =
    let q = c.in_ok-steps.ensures in
    let b = c.in_ok-tables-2.ensures q.0 (subst (λ ns. Runs ns [] (q.0 ∷ [])) (sym c.deref-3.ensures.value) q.2) in
    let refused : IsRefused c.args.hole c.args.text.now (TooManyPositions c.in_ok-tables-2.piece.count) = (
      q.0,
      spelled c.args.hole c.args.text.now c.in_ok-tokens.tokens.items c.deref.result.now c.deref-2.result.now q.0 c.in_ok-tokens.ensures c.deref.ensures.value c.deref-2.ensures.value
          c.in-None.ensures q.1,
      (let counted = b.1.counted in omega arith),
      b.1.counted,
    ) in
    record {
      pattern = tt;
      ok = λ _. refused_ok c.args.hole c.args.text.now (TooManyPositions c.in_ok-tables-2.piece.count) refused;
      err = λ _. refused_err c.args.hole c.args.text.now (TooManyPositions c.in_ok-tables-2.piece.count) refused;
    }

pub returns : goal.returns
returns c =
    let q = c.in_ok-steps.ensures in
    let b = c.in_ok-tables-2.ensures q.0 (subst (λ ns. Runs ns [] (q.0 ∷ [])) (sym c.deref-3.ensures.value) q.2) in
    let is : pattern_of c.of.result.value.items ≡ q.0 = ap (λ v. pattern_of v.items) c.of.ensures ∙ pattern_is c.in_ok-steps.steps.items q.0 q.2 in
    let read : IsRefex c.args.hole c.args.text.now q.0 = record {
      spells = spelled c.args.hole c.args.text.now c.in_ok-tokens.tokens.items c.deref.result.now c.deref-2.result.now q.0 c.in_ok-tokens.ensures c.deref.ensures.value
          c.deref-2.ensures.value c.in-None.ensures q.1;
      fits = let counted = b.1.counted in omega arith;
    } in
    record {
      pattern = subst (λ p. IsRefex c.args.hole c.args.text.now p) (sym is) read;
      ok = λ _. (λ _. (q.0, read), λ _. refl);
      err = λ _ g. refex_err c.args.hole c.args.text.now q.0 read c.of.result.value.items g;
    }

pub invariant_of-result : goal.invariant_of-result
invariant_of-result c =
    let q = c.in_ok-steps.ensures in
    let b = c.in_ok-tables-2.ensures q.0 (subst (λ ns. Runs ns [] (q.0 ∷ [])) (sym c.deref-3.ensures.value) q.2) in
    let is : pattern_of c.of.result.value.items ≡ q.0 = ap (λ v. pattern_of v.items) c.of.ensures ∙ pattern_is c.in_ok-steps.steps.items q.0 q.2 in (
      subst (λ p. Means c.finish.result.masks.items c.finish.result.follow.items c.finish.result.first c.finish.result.holes p) (sym is) (c.finish.ensures q.0 b.1),
      c.has_name.ensures ∙ ap (list_any is_name_step) c.deref-4.ensures.value ∙ pattern_named c.in_ok-steps.steps.items q.0 q.2 ∙ ap has_name (sym is),
    )
