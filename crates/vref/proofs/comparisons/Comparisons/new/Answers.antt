use Rattle.std.proofs.Common.{ap}
use Rattle.std.specs.Map.{lookup}
use Rattle.vref.specs.Comparisons.{same_pair}
use Rattle.vref.proofs.comparisons.Comparisons.new.Goals as goal

pub returns : goal.returns
returns c = record {
  pairs = λ pair list is. absurd (let none = ap (lookup (same_pair pair)) c.with_hasher.ensures.empty in cc (is, none));
  bases = c.new.ensures.based c.args.lens.now;
}
