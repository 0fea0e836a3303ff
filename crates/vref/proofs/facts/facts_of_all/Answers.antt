use Rattle.std.proofs.Common.{◌+◌, ◌∙◌, ℕ, List, take, map, get_or, arith, sym, subst, true}
use Rattle.std.specs.List.{AllZip}
use Rattle.git_object.specs.declared.object_id.ObjectId.{ObjectId}
use Rattle.ref_store.specs.declared.command.Command.{Command}
use Rattle.ancestry.specs.declared.ancestors.Advance.{Advance}
use Rattle.ancestry.specs.declared.facts.Facts.{Facts}
use Rattle.vref.specs.Advances.{IsAdvance}
use Rattle.vref.specs.Facts.{AreFacts, pair_of}
use Rattle.vref.proofs.ListLemmas.{zip_map_at, zip_more}
use Rattle.vref.proofs.facts.facts_of_all.Goals as goal

pub index-requires : goal.index-requires
index-requires c =
    let objects = c.args.lens.now in
    let zip : AllZip (IsAdvance objects) (map (λ change. pair_of objects change.old change.new) c.args.changes.now) c.in_ok-advances.advances.items =
    subst (λ (pairs : List (ObjectId × ObjectId)). AllZip (IsAdvance objects) pairs c.in_ok-advances.advances.items) (c.deref.ensures.value ∙ c.in_ok-pairs.ensures) c.in_ok-advances.ensures in
    let some : Advance = record { forward = true; merge = true } in
    let at = zip_map_at (IsAdvance objects) (λ change. pair_of objects change.old change.new) c.args.changes.now c.in_ok-advances.advances.items c.loop-k.k c.index-changes-k.result some zip c.loop-k-test.true in
    omega (arith, at.0, c.in_ok-advances.advances.ok.0)

pub facts_by-requires : goal.facts_by-requires
facts_by-requires c =
    let objects = c.args.lens.now in
    let advance = c.index.result.now in
    let zip : AllZip (IsAdvance objects) (map (λ change. pair_of objects change.old change.new) c.args.changes.now) c.in_ok-advances.advances.items =
    subst (λ (pairs : List (ObjectId × ObjectId)). AllZip (IsAdvance objects) pairs c.in_ok-advances.advances.items) (c.deref.ensures.value ∙ c.in_ok-pairs.ensures) c.in_ok-advances.ensures in
    let at = zip_map_at (IsAdvance objects) (λ change. pair_of objects change.old change.new) c.args.changes.now c.in_ok-advances.advances.items c.loop-k.k c.index-changes-k.result advance zip c.loop-k-test.true in
    subst (λ (change : Command). IsAdvance objects (pair_of objects change.old change.new) advance) (sym c.index-changes-k.is)
    (subst (λ a. IsAdvance objects (pair_of objects (get_or c.args.changes.now c.loop-k.k c.index-changes-k.result).old (get_or c.args.changes.now c.loop-k.k c.index-changes-k.result).new) a) (sym c.index.ensures) at.1)

pub loop-k-preserved : goal.loop-k-preserved
loop-k-preserved c =
    let objects = c.args.lens.now in
    let change = c.index-changes-k.result in
    let one = c.facts_by.result in
    let facts : AreFacts objects change.name change.old change.new one = subst (λ (name : List ℕ). AreFacts objects name change.old change.new one) c.bytes.ensures c.facts_by.ensures in
    subst (λ (all : List Facts). AllZip (λ change facts. AreFacts objects change.name change.old change.new facts) (take (c.loop-k.k + 1) c.args.changes.now) all) (sym c.in_ok-push.ensures.items)
    (zip_more (λ change facts. AreFacts objects change.name change.old change.new facts) c.args.changes.now c.loop-k.all.items c.loop-k.k change one c.loop-k-test.true c.loop-k.invariant
    (subst (λ (item : Command). AreFacts objects item.name item.old item.new one) c.index-changes-k.is facts))
