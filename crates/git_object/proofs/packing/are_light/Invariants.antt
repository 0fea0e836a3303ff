use Rattle.std.proofs.Common.{◌≡◌, ◌+◌, All, drop, take}
use Rattle.git_object.specs.Object.{IsPackable, total_bytes}
use Rattle.git_object.specs.declared.packing.TheConstants.{MAX_PACKED_BYTES}
use Rattle.git_object.proofs.packing.are_light.Given as goal

-- what is left is the limit without the objects so far, each of which is of its form
abbrev pub invariant-loop-object : goal.invariant-loop-object
invariant-loop-object l = record {
  left : l.left + total_bytes l.objects ≡ MAX_PACKED_BYTES + total_bytes (drop l.object-index l.objects);
  formed : All IsPackable (take l.object-index l.objects);
}
