use Rattle.std.proofs.Common.{refl}
use Rattle.std.specs.Prelude.{bit_and}
use Rattle.std.proofs.lemmas.Bool.{not-true, eqb-false, ne_eqb}
use Rattle.refex.proofs.SetLemmas.{meets_some, meets_none}
use Rattle.refex.proofs.machine.meets.Goals as goal

pub returns : goal.returns
returns c = (
  λ yes. meets_some c.args.holes c.args.set c.requires (eqb-false (bit_and c.args.set c.args.holes) 0 (not-true _ yes)),
  λ m. let e = ne_eqb (bit_and c.args.set c.args.holes) 0 (meets_none c.args.holes c.args.set m) in rw e refl,
)
