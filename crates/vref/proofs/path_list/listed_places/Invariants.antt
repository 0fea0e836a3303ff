use Rattle.std.proofs.Common.{◌≡◌, take, filter}
use Rattle.vref.specs.PathTable.{is_listed_at}
use Rattle.vref.proofs.path_list.listed_places.Given as goal

abbrev pub invariant-loop-place : goal.invariant-loop-place
invariant-loop-place l = l.places.items ≡ filter (is_listed_at l.rows) (take l.place-index l.order)
