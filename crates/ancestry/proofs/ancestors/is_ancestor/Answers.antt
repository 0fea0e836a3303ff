use Rattle.std.proofs.Common.{List, Contains, subst}
use Rattle.std.proofs.lemmas.Result.{IfOk-weaker}
use Rattle.git_object.specs.declared.object_id.ObjectId.{ObjectId}
use Rattle.ancestry.proofs.AboveLemmas.{above_is, old_met}
use Rattle.ancestry.proofs.ListLemmas.{contains_none}
use Rattle.ancestry.proofs.ancestors.is_ancestor.Goals as goal

pub returns : goal.returns
returns c =
    let objects = c.args.lens.now in
    let known = c.args.known.now in
    let floor = c.floor_of.result in
    let none = c.new-nothing.result in
    IfOk-weaker c.reaches.result _ _
    (λ is met. (
      λ t. above_is objects known floor none c.args.new c.args.old (met.0 t),
      λ ancestor. met.1 (old_met objects known floor none c.args.new c.args.old (c.floor_of.ensures objects c.requires) (λ id there behind. absurd (contains_none id (subst (λ (ids : List ObjectId). Contains ids id) c.new-nothing.ensures there))) ancestor),
    ))
    c.reaches.ensures
