use Rattle.std.proofs.Common.{◌≡◌, ◌++◌, filter, map, not}
use Rattle.git_object.specs.Object.{links_of}
use Rattle.git_object.specs.declared.object_id.ObjectId.{ObjectId}
use Rattle.git_object.specs.declared.kind.Kind.{Kind}
use Rattle.ancestry.specs.Closures.{is_held}
use Rattle.ancestry.specs.IdSet.{Adds}
use Rattle.ancestry.proofs.closing.insert_unheld.Given as goal

abbrev pub invariant-loop-to : goal.invariant-loop-to
invariant-loop-to l = record {
  adds : Adds l.fn.set l.set (filter (λ (to : ObjectId). not (is_held l.front l.held to)) (map (λ (link : ObjectId × Kind). link.0) l.yielded));
  left : l.yielded ++ l.to-iterator ≡ links_of l.object.kind l.object.body;
}
