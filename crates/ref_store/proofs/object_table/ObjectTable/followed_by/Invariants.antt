use Rattle.std.proofs.Common.{◌≡◌, ◌++◌, take}
use Rattle.ref_store.proofs.object_table.ObjectTable.followed_by.Given as goal

abbrev pub invariant-loop-object : goal.invariant-loop-object
invariant-loop-object l = l.table ≡ l.fn.self ++ take l.object-index l.objects
