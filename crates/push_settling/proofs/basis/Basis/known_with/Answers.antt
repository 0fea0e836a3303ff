use Rattle.push_settling.proofs.BasisLemmas.{extends}
use Rattle.push_settling.proofs.basis.Basis.known_with.Goals as goal

pub returns-in-Unmoved : goal.returns-in-Unmoved
returns-in-Unmoved c = λ left are. c.grown.ensures c.args.self.prepared.objects left are.has_pack c.into_known.ensures

pub returns-in-Moved : goal.returns-in-Moved
returns-in-Moved c = λ left are.
    c.grown_with.ensures c.args.now.now.objects c.args.self.prepared.objects left (extends c.args.now.now.objects left are.behind_now) are.has_pack c.known.ensures c.findings.ensures
