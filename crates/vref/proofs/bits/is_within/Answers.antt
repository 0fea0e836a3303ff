use Rattle.std.proofs.Common.{subst, ℕ, bit_or}
use Rattle.std.proofs.lemmas.Bool.{eqb-true}
use Rattle.vref.specs.Marks.{Has}
use Rattle.vref.proofs.BitLemmas.{has_left}
use Rattle.vref.proofs.bits.is_within.Goals as goal

pub returns : goal.returns
returns c = λ is k h. subst (λ (word : ℕ). Has word k) (eqb-true (bit_or c.args.word c.args.other) c.args.other is) (has_left c.args.word c.args.other k h)
