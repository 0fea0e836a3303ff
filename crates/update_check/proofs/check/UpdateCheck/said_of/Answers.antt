use Rattle.update_check.proofs.check.UpdateCheck.said_of.Goals as goal

pub returns : goal.returns
returns c =
    let i = c.self.inside in
    rw (← c.self.view_is) (c.get.ensures (record { flat = i.policy.now; wild = i.wild.now; repo = i.repo.now; user = i.user.now; objects = i.lens.now }) c.self.invariant.1)
