use Rattle.std.proofs.Common.{IfOk, subst}
use Rattle.ancestry.specs.Known.{AreKnown}
use Rattle.store_tests.proofs.ancestry_tests.known_beside.Goals as goal

pub returns : goal.returns
returns g c =
    let grown = c.grown_with.ensures c.args.lens.now c.args.lens.now c.args.lens.now (λ id o is. is) (λ id o is. is) c.requires c.found_from-findings.ensures in
    subst (λ r. IfOk r (AreKnown c.args.lens.now)) c.expect.ensures grown
