use Rattle.std.proofs.Common.{Bool, sym, ap, ◌∙◌}
use Rattle.std.specs.Prelude.{codes, ◌&&◌}
use Rattle.conf_groups.specs.Groups.{holds}
use Rattle.access_check.proofs.users.Question.is_member_as_creator.Goals as goal

pub returns-then-is_creator : goal.returns-then-is_creator
returns-then-is_creator c = λ ps. c.contains.ensures ∙ ap (λ (b : Bool). b && holds c.args.members.now (codes "CREATOR")) (sym c.if-is_creator.true ∙ c.is_creator.ensures ps)

pub returns-else-is_creator : goal.returns-else-is_creator
returns-else-is_creator c = λ ps. c.if-is_creator.false ∙ ap (λ (b : Bool). b && holds c.args.members.now (codes "CREATOR")) (sym c.if-is_creator.false ∙ c.is_creator.ensures ps)
