use Rattle.ancestry.specs.Known.{IsRight, IsWhole}
use Rattle.ancestry.proofs.KnownLemmas.{known_of}
use Rattle.ancestry.proofs.known.Known.with.Goals as goal

pub returns : goal.returns
returns c = λ objects known found. record {
  whole = known_of (IsWhole objects) c.args.self.now.whole c.args.findings.now.whole c.in_ok-with.field-0 c.in_ok-with.ensures known.whole found.whole;
  amiss = known_of (IsRight objects) c.args.self.now.amiss c.args.findings.now.amiss c.in_ok-with-2.field-0 c.in_ok-with-2.ensures known.amiss found.amiss;
}
