use Rattle.std.proofs.Common.{List, ℕ, subst, sym}
use Rattle.record_file.specs.Groups.{IsBuilt}
use Rattle.record_file.proofs.GroupLemmas.{longer_built, longer_view}
use Rattle.record_file.proofs.record_group.RecordBuilder.extend_from_slice.Goals as goal

pub invariant_of-self-2 : goal.invariant_of-self-2
invariant_of-self-2 c = subst (λ (l : List ℕ). IsBuilt l c.self.inside.sizes.items c.self.inside.start) (sym c.in_ok-extend_from_slice.ensures.items) (longer_built _ _ c.args.piece.now _ c.self.invariant)

pub returns-clause-ok : goal.returns-clause-ok
returns-clause-ok c = longer_view c.self.inside.bytes.items _ _ c.args.piece.now _ c.args.self.now c.self.invariant c.self.view_is c.in_ok-extend_from_slice.ensures.items
