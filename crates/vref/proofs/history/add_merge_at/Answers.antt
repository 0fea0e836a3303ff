use Rattle.std.proofs.Common.{ℕ, ◌+◌, ◌∙◌, List, sym, subst, true≢false}
use Rattle.vref.specs.History.{AreMergesOf}
use Rattle.std.proofs.lemmas.Option.{none-some}
use Rattle.vref.proofs.LinkLemmas.{merges_same, merges_more, one_at, placed_at}
use Rattle.vref.proofs.history.add_merge_at.Goals as goal

pub returns-then-not-is_merge : goal.returns-then-not-is_merge
returns-then-not-is_merge c =
    merges_same c.args.lens.now c.args.ids.now.keys c.args.at c.args.merges.now.items c.requires
    (λ other there merge. true≢false (sym (c.is_merge.ensures.1 (one_at c.args.lens.now c.args.ids.now.keys c.args.at c.in-Some.id.now other (sym c.in-Some.ensures.key) there merge)) ∙ c.if-not-is_merge.true))

pub returns-in_default-place_of : goal.returns-in_default-place_of
returns-in_default-place_of c =
    merges_same c.args.lens.now c.args.ids.now.keys c.args.at c.args.merges.now.items c.requires
    (λ other there merge. none-some c.args.at (sym c.in_default-place_of.is ∙ c.place_of.ensures.place ∙ placed_at c.args.ids.now.keys c.args.at c.in-Some.id.now other (sym c.in-Some.ensures.key) there))

pub returns : goal.returns
returns c =
    subst (λ (merges : List ℕ). AreMergesOf (c.args.at + 1) c.args.lens.now c.args.ids.now.keys merges) (sym c.in_ok-push.ensures.items)
    (merges_more c.args.lens.now c.args.ids.now.keys c.args.at c.in-Some-place_of.place c.args.merges.now.items c.in-Some.id.now c.requires (sym c.in-Some.ensures.key)
    (c.is_merge.ensures.0 c.if-not-is_merge.false) (sym c.place_of.ensures.place ∙ c.in-Some-place_of.is))
