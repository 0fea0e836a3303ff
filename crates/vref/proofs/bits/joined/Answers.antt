use Rattle.vref.proofs.BitLemmas.{has_left, has_right, has_either}
use Rattle.vref.proofs.bits.joined.Goals as goal

pub returns-clause-left : goal.returns-clause-left
returns-clause-left c = λ k h. has_left c.args.word c.args.other k h

pub returns-clause-right : goal.returns-clause-right
returns-clause-right c = λ k h. has_right c.args.word c.args.other k h

pub returns-clause-only : goal.returns-clause-only
returns-clause-only c = λ k h. has_either c.args.word c.args.other k h
