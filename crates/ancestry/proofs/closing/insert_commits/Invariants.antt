use Rattle.std.proofs.Common.{◌≡◌, ◌⊎◌, ◌++◌, Contains, map}
use Rattle.git_object.specs.Object.{links_of}
use Rattle.git_object.specs.declared.object_id.ObjectId.{ObjectId}
use Rattle.git_object.specs.declared.kind.Kind.{Kind}
use Rattle.ancestry.proofs.closing.insert_commits.Given as goal

abbrev pub invariant-loop-to : goal.invariant-loop-to
invariant-loop-to l = record {
  only : (to : ObjectId) → Contains l.set to → Contains l.fn.set to ⊎ Contains (map (λ (link : ObjectId × Kind). link.0) l.yielded) to;
  left : l.yielded ++ l.to-iterator ≡ links_of l.object.kind l.object.body;
}
