use Rattle.std.proofs.Common.{◌≤◌, length, sym, arith}
use Rattle.std.proofs.lemmas.List.{take_all}
use Rattle.session_core.proofs.denials.fitting.Goals as goal

pub returns-in-None-clause-value : goal.returns-in-None-clause-value
returns-in-None-clause-value c =
    let few : length c.args.text.now ≤ 60000 = omega (arith, c.in-None.ensures.cases) in
    sym (take_all 60000 c.args.text.now few)
