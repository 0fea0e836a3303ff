use Rattle.std.proofs.Common.{length}
use Rattle.ancestry.specs.Wholeness.{is_missing, is_wrong}
use Rattle.ancestry.proofs.WalkLemmas.{met_by_walk, met_early, least_met}
use Rattle.ancestry.proofs.LineLemmas.{further, line_of, of_line, met_of_reached, reached_of_met}
use Rattle.ancestry.proofs.GenerationLemmas.{one_generation, generation_after, ancestor_lower}
use Rattle.ancestry.proofs.laws.hold_laws.Goals as goal

pub returns-clause-within : goal.returns-clause-within
returns-clause-within c = λ objects root kind want. (λ is. met_early objects root kind want is, λ contains. met_by_walk objects root kind (length objects) want contains)

pub returns-clause-missing : goal.returns-clause-missing
returns-clause-missing c = λ objects root kind. least_met objects root kind (is_missing objects)

pub returns-clause-wrong : goal.returns-clause-wrong
returns-clause-wrong c = λ objects root kind. least_met objects root kind (is_wrong objects)

pub returns-clause-reached : goal.returns-clause-reached
returns-clause-reached c = λ objects root id. (met_of_reached objects root id, λ met. reached_of_met objects root (id, met.0) met.1)

pub returns-clause-lines : goal.returns-clause-lines
returns-clause-lines c = λ objects ancestor id. (line_of objects id ancestor, λ line. of_line objects ancestor id line.0 line.1)

pub returns-clause-ancestors : goal.returns-clause-ancestors
returns-clause-ancestors c = λ objects first second third one two. further objects second third first one two

pub returns-clause-generation : goal.returns-clause-generation
returns-clause-generation c = λ objects id one other. one_generation objects id one other

pub returns-clause-parents : goal.returns-clause-parents
returns-clause-parents c = λ objects id generation there after. generation_after objects id generation there after

pub returns-clause-lower : goal.returns-clause-lower
returns-clause-lower c = λ objects ancestor id lower higher is low high. ancestor_lower objects ancestor id lower higher is low high
