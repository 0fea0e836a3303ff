use Rattle.std.proofs.Common.{Option, ap, ◌∙◌}
use Rattle.conf_groups.specs.Stacks.{front_found, state_of}
use Rattle.conf_groups.specs.declared.stack.LineAt.{LineAt}
use Rattle.conf_groups.proofs.RunLemmas.{last_ended, last_refused}
use Rattle.conf_groups.proofs.stack.Splicer.refuse_next.Goals as goal

pub returns-in-Ok-None : goal.returns-in-Ok-None
returns-in-Ok-None c = last_ended _ (state_of c.args.self.now) _ (c.in-Ok-None.ensures ∙ ap (λ (l : Option LineAt). front_found c.next_line.new.self l) c.in-Ok-None.field-0-is)

pub returns : goal.returns
returns c = last_refused _ (state_of c.args.self.now) _ _ _ (c.in-Ok-Some.ensures ∙ ap (λ (l : Option LineAt). front_found c.next_line.new.self l) c.in-Ok-Some.field-0-is) c.in-Err-admit.ensures
