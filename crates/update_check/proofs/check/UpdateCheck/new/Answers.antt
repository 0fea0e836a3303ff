use Rattle.update_check.proofs.check.UpdateCheck.new.Goals as goal

pub invariant_of-result : goal.invariant_of-result
invariant_of-result c = (
  record { letters = c.flags_of.ensures; merge = c.holds_vref.ensures; paths = c.holds_vref-2.ensures },
  c.new.ensures (record { flat = c.args.policy.now; wild = c.args.wild.now; repo = c.args.repo.now; user = c.args.user.now; objects = c.args.lens.now }),
)
