use Rattle.std.specs.Int.{w64}
use Rattle.std.proofs.lemmas.Nat.Bits.{bit_at_set_same}
use Rattle.vref.proofs.BitLemmas.{has_left, has_with}
use Rattle.vref.proofs.bits.with.Goals as goal

pub returns-clause-same : goal.returns-clause-same
returns-clause-same c = bit_at_set_same w64 c.args.word c.args.bit c.requires

pub returns-clause-keeps : goal.returns-clause-keeps
returns-clause-keeps c = λ k h. has_left c.args.word _ k h

pub returns-clause-only : goal.returns-clause-only
returns-clause-only c = λ k h. has_with c.args.word c.args.bit k c.requires h
