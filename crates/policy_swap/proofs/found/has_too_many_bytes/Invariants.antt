use Rattle.std.proofs.Common.{◌≡◌, ◌+◌, map}
use Rattle.std.specs.FinMap as named
use Rattle.conf_groups.specs.Splicing.{total_bytes}
use Rattle.conf_groups.specs.declared.limits.TheConstants.{MAX_FILE_BYTES}
use Rattle.policy_swap.proofs.found.has_too_many_bytes.Given as goal

-- what is left is the limit without the files so far
abbrev pub invariant-loop-body : goal.invariant-loop-body
invariant-loop-body l = l.left + total_bytes (named.values l.files) ≡ MAX_FILE_BYTES + total_bytes (map (λ e. e.1) l.body-iterator)
