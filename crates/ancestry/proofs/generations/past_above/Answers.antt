use Rattle.std.proofs.Common.{List, [], ◌∷◌, subst, Contains}
use Rattle.std.proofs.lemmas.Result.{IfOk-weaker}
use Rattle.git_object.specs.declared.object_id.ObjectId.{ObjectId}
use Rattle.ancestry.specs.Generations.{parents_above}
use Rattle.ancestry.specs.Reached.{IsReached}
use Rattle.ancestry.proofs.AboveLemmas.{past_met}
use Rattle.ancestry.proofs.generations.past_above.Goals as goal

pub returns : goal.returns
returns c =
    IfOk-weaker c.line_above.result _ _
    (λ past met. past_met c.args.lens.now c.args.known.now c.args.least c.args.old past c.requires (λ id. subst (λ (none : List ObjectId). (Contains past id → IsReached (parents_above c.args.lens.now c.args.known.now c.args.least none) (c.args.old ∷ []) id) × (IsReached (parents_above c.args.lens.now c.args.known.now c.args.least none) (c.args.old ∷ []) id → Contains past id)) c.new-nothing.ensures (met id)))
    c.line_above.ensures
