use Rattle.std.proofs.Common.{Option, ap, ◌∙◌}
use Rattle.conf_groups.specs.Stacks.{front_found, state_of}
use Rattle.conf_groups.specs.declared.stack.LineAt.{LineAt}
use Rattle.conf_groups.proofs.RunLemmas.{step_ended, step_placed, step_refused}
use Rattle.conf_groups.proofs.stack.Splicer.step.Goals as goal

pub returns-in-Ok-None : goal.returns-in-Ok-None
returns-in-Ok-None c = step_ended _ (state_of c.args.self.now) _ (c.in-Ok-None.ensures ∙ ap (λ (l : Option LineAt). front_found c.next_line.new.self l) c.in-Ok-None.field-0-is)

pub returns-in-Err-admit : goal.returns-in-Err-admit
returns-in-Err-admit c = step_refused _ (state_of c.args.self.now) _ _ _ (c.in-Ok-Some.ensures ∙ ap (λ (l : Option LineAt). front_found c.next_line.new.self l) c.in-Ok-Some.field-0-is) c.in-Err-admit.ensures

pub returns-in-Ok-place : goal.returns-in-Ok-place
returns-in-Ok-place c = step_placed _ (state_of c.args.self.now) _ _ (state_of c.place.new.self) _ (c.in-Ok-Some.ensures ∙ ap (λ (l : Option LineAt). front_found c.next_line.new.self l) c.in-Ok-Some.field-0-is) c.in-Ok.ensures c.in-Ok-place.ensures
