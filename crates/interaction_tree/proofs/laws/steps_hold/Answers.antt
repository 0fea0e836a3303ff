use Rattle.interaction_tree.proofs.RunLemmas.{runs_bind, runs_halts, runs_gives, runs_ends, runs_memory, runs_write, runs_read, runs_cut}
use Rattle.interaction_tree.proofs.StepLemmas.{runs_made, runs_packet, runs_pack, runs_pack_refused}
use Rattle.interaction_tree.proofs.laws.steps_hold.Goals as goal

pub returns-clause-composed : goal.returns-clause-composed
returns-clause-composed g c = λ a b c' d e f t value k out p q. runs_bind a b c' d e f t value k out p q

pub returns-clause-halted : goal.returns-clause-halted
returns-clause-halted g c = λ a b d e t k halt p. runs_halts a b d e t k halt p

pub returns-clause-nothing : goal.returns-clause-nothing
returns-clause-nothing g c = λ link desk. (λ value. runs_gives link desk value, λ end. runs_ends link desk end, λ t. runs_memory link desk t)

pub returns-clause-written : goal.returns-clause-written
returns-clause-written g c = λ old new desk bytes result p. runs_write _ old new desk bytes result p

pub returns-clause-read : goal.returns-clause-read
returns-clause-read g c = λ old new desk taken wanted cut found takes is. runs_read old new desk taken takes wanted cut found is

pub returns-clause-cut_off : goal.returns-clause-cut_off
returns-clause-cut_off g c = λ a b c' d e taken wanted cut f fault out takes is over p. runs_cut a b d taken takes wanted cut f c' e fault out is over p

pub returns-clause-entered : goal.returns-clause-entered
returns-clause-entered g c = λ link old new before event makes. runs_made link old new before event makes

pub returns-clause-packets : goal.returns-clause-packets
returns-clause-packets g c = λ old new desk cut used answer p keeps later count none. runs_packet old new desk keeps later cut used answer p count none

pub returns-clause-packs : goal.returns-clause-packs
returns-clause-packs g c = λ old new desk cut used contents p keeps later count. runs_pack old new desk keeps later cut used contents p count

pub returns-clause-refused : goal.returns-clause-refused
returns-clause-refused g c = λ a b c' d e cut f fault out p of keeps later still same q. runs_pack_refused a b d keeps later cut f c' e fault out of p still same q
