use Rattle.std.proofs.Common.{sym, ◌∙◌, ◌+◌, ap, ◌++◌, ◌∷◌, []}
use Rattle.std.proofs.lemmas.Bool.{ltb-false, ltb-true}
use Rattle.git_object.specs.Tree.{entry_of}
use Rattle.policy_swap.specs.declared.rows.Row.{Row}
use Rattle.policy_swap.specs.declared.rows.TheConstants.{MAX_ROWS}
use Rattle.policy_swap.proofs.WalkLemmas.{adds, adds_too_many}
use Rattle.policy_swap.proofs.rows.add_row.Goals as goal

pub returns-then-are_too_many : goal.returns-then-are_too_many
returns-then-are_too_many c tree at names seen front new found expands =
    adds_too_many c.args.lens.now tree c.args.rows.now.items at names seen c.args.front.now (entry_of c.args.entry.now) front new found c.push.new.self.items
    (c.in_ok-push.ensures.items ∙ ap (λ (row : Row). c.args.rows.now.items ++ row ∷ []) c.in_ok-row.ensures) expands (ltb-true (MAX_ROWS + 1) _ (sym c.are_too_many.ensures ∙ c.if-are_too_many.true))

pub returns : goal.returns
returns c tree at names seen front new found expands =
    adds c.args.lens.now tree c.args.rows.now.items at names seen c.args.front.now (entry_of c.args.entry.now) front new found c.push.new.self.items
    (c.in_ok-push.ensures.items ∙ ap (λ (row : Row). c.args.rows.now.items ++ row ∷ []) c.in_ok-row.ensures) expands (ltb-false (MAX_ROWS + 1) _ (sym c.are_too_many.ensures ∙ c.if-are_too_many.false))
