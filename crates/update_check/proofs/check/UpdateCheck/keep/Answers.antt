use Rattle.update_check.proofs.check.UpdateCheck.keep.Goals as goal

pub invariant_of-self : goal.invariant_of-self
invariant_of-self c =
    let i = c.self.inside in
    let says = rw (← c.self.view_is) at c.requires in (
      c.self.invariant.0,
      c.keep.ensures (record { flat = i.policy.now; wild = i.wild.now; repo = i.repo.now; user = i.user.now; objects = i.lens.now }) c.self.invariant.1 says,
    )
