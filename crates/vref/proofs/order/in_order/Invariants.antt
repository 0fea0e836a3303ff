use Rattle.std.proofs.Common.{◌+◌, ◌-◌, ◌*◌, ◌^◌, length, vec_len}
use Rattle.vref.proofs.order.in_order.Given as goal

-- what is still to be entered, and then what is still to be done
abbrev pub decreases-loop-id : goal.decreases-loop-id
decreases-loop-id l = (2 ^ 63 - length l.entered.keys) * 2 ^ 63 + vec_len l.work
