use Rattle.std.proofs.Common.{◌≡◌, ◌++◌, ◌∷◌, [], List, drop, sym, ◌∙◌, ap, subst}
use Rattle.std.proofs.lemmas.List.{take-append-drop}
use Rattle.ancestry.specs.Tables.{Entries, AreOf}
use Rattle.ancestry.proofs.TableLemmas.{of_parts}
use Rattle.ancestry.proofs.layers.Layers.with.Goals as goal

pub returns : goal.returns
returns g c =
    let older = c.split_at.result.0.now in
    let newer = c.split_at.result.1.now in
    let all = c.args.self.now in
    let at = c.staying.result in
    let whole : c.deref.result.now ≡ all = c.deref.ensures.value ∙ c.self.view_is in
    let parts : all ≡ older ++ newer =
    sym whole ∙ sym (take-append-drop at c.deref.result.now) ∙ ap (λ (l : List (Entries g.row.V.Denot)). l ++ drop at c.deref.result.now) (sym c.split_at.ensures.front) ∙ ap (λ (l : List (Entries g.row.V.Denot)). older ++ l) (sym c.split_at.ensures.back) in
    let copied : c.in_ok-layers.layers.items ≡ older = c.in_ok-layers.ensures.items_if_clones_equal (λ x y e. e) in
    let items : c.push.new.self.items ≡ older ++ c.in_ok-layer.layer ∷ [] =
    subst (λ (l : List (Entries g.row.V.Denot)). c.push.new.self.items ≡ l ++ c.in_ok-layer.layer ∷ []) copied c.in_ok-push.ensures.items in
    subst (λ (l : List (Entries g.row.V.Denot)). AreOf all c.args.layer.now l) (sym items) (of_parts all older newer c.args.layer.now c.in_ok-layer.layer parts c.in_ok-layer.ensures)
