use Rattle.std.proofs.Common.{[], take}
use Rattle.std.specs.List.{flat_map}
use Rattle.conf_groups.specs.Groups.{with_items}
use Rattle.repo_listing.specs.Steps.{AreAppended, patterns_at}
use Rattle.repo_listing.proofs.listing.push_patterns.Given as goal

abbrev pub invariant-loop-seq : goal.invariant-loop-seq
invariant-loop-seq l = AreAppended l.fn.list (with_items [] (flat_map (patterns_at l.policy.rules l.user) (take l.seq-index l.seq-items))) l.list l.seen
