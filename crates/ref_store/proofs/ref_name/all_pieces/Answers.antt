use Rattle.std.proofs.Common.{◌&&◌, not, nat_eq, sym, ◌∙◌, ap}
use Rattle.std.specs.Prelude.{codes}
use Rattle.std.specs.List.{ends_with}
use Rattle.ref_store.specs.RefName.{occurs}
use Rattle.ref_store.proofs.PieceLemmas.{plain_text}
use Rattle.ref_store.proofs.ref_name.all_pieces.Goals as goal

pub returns-else-begins_well : goal.returns-else-begins_well
returns-else-begins_well c =
    c.if-begins_well.false
    ∙ sym (plain_text c.args.text.now (sym c.contains.ensures.value ∙ c.if-contains.false) ∙ ap (λ q. q && (not (ends_with nat_eq c.args.text.now (codes "/")) && not (occurs (codes "//") c.args.text.now))) (sym c.begins_well.ensures ∙ c.if-begins_well.false))

pub returns-then-begins_well : goal.returns-then-begins_well
returns-then-begins_well c =
    c.parts_well.ensures
    ∙ sym (plain_text c.args.text.now (sym c.contains.ensures.value ∙ c.if-contains.false) ∙ ap (λ q. q && (not (ends_with nat_eq c.args.text.now (codes "/")) && not (occurs (codes "//") c.args.text.now))) (sym c.begins_well.ensures ∙ c.if-begins_well.true))
