use Rattle.std.proofs.Common.{take}
use Rattle.std.specs.List.{flat_map}
use Rattle.event_record.specs.Fields.{object_bytes}
use Rattle.event_record.specs.Writing.{Adds}
use Rattle.event_record.proofs.writing.put_each_object.Given as goal

abbrev pub invariant-loop-object : goal.invariant-loop-object
invariant-loop-object l = Adds l.initial.builder l.builder (flat_map object_bytes (take l.object-index l.objects))
