use Rattle.interaction_tree.proofs.EndingLemmas.{runs_turn, runs_turn_read, ends_or_lacks}
use Rattle.interaction_tree.proofs.DeskLemmas.{makes_grows, makes_alone, others_not_own}
use Rattle.interaction_tree.proofs.AnswerLemmas.{agrees_front, logged}
use Rattle.interaction_tree.proofs.AloneLemmas.{alone_is}
use Rattle.interaction_tree.proofs.laws.turns_hold.Goals as goal

pub returns-clause-turns : goal.returns-clause-turns
returns-clause-turns g c = λ link link' desk desk' t halt ordered runs. runs_turn link link' desk desk' t halt ordered runs

pub returns-clause-grow : goal.returns-clause-grow
returns-clause-grow g c = λ old new own sound made. makes_grows old new own sound made

pub returns-clause-answers : goal.returns-clause-answers
returns-clause-answers g c = λ log. logged log

pub returns-clause-begun : goal.returns-clause-begun
returns-clause-begun g c = λ answers log more agrees. agrees_front answers log more agrees

pub returns-clause-only : goal.returns-clause-only
returns-clause-only g c = λ old new own alone made answers agrees. makes_alone old new own alone made answers agrees

pub returns-clause-alone : goal.returns-clause-alone
returns-clause-alone g c = λ answers end t input own log log' alone requests stops. alone_is answers end t input own log log' alone requests stops

pub returns-clause-sure : goal.returns-clause-sure
returns-clause-sure g c = λ link link' own t halt reads writes turn. ends_or_lacks link link' own t halt reads writes turn

pub returns-clause-others : goal.returns-clause-others
returns-clause-others g c = λ caller place log others within of_others. others_not_own caller place log others within of_others

pub returns-clause-used : goal.returns-clause-used
returns-clause-used g c = λ link link' desk desk' t halt ordered ran. runs_turn_read link link' desk desk' t halt ordered ran
