use Rattle.std.proofs.Common.{List, sym, subst, refl}
use Rattle.ancestry.specs.Walk.{Want}
use Rattle.ancestry.specs.Seen.{Notes}
use Rattle.ancestry.proofs.WalkLemmas.{links_there, no_links}
use Rattle.ancestry.proofs.SeenLemmas.{notes_none}
use Rattle.ancestry.proofs.WalkedLemmas.{walk_begins, walk_goes_on, walk_ends, ended}
use Rattle.ancestry.proofs.seen.walk.Goals as goal

pub loop-id-init : goal.loop-id-init
loop-id-init c = walk_begins c.args.lens.now c.args.root c.args.kind _ c.note.new.self c.with_hasher.ensures.empty refl c.in_ok-note.ensures

pub loop-id-preserved : goal.loop-id-preserved
loop-id-preserved c =
    let objects = c.args.lens.now in
    let links = links_there objects c.in-Some.id c.in-Some-get.object.now (sym c.in-Some-get.ensures) in
    walk_goes_on objects c.args.root c.args.kind c.loop-id.seen c.enter.new.self c.loop-id.next c.in-Some.id c.loop-id.invariant (sym c.in-Some.ensures.id) c.in-Some.ensures.within
    (subst (λ (wants : List Want). Notes objects c.loop-id.seen c.enter.new.self wants) (sym links) c.in_ok-enter.ensures)

pub loop-id-preserved-in_default-get : goal.loop-id-preserved-in_default-get
loop-id-preserved-in_default-get c =
    let objects = c.args.lens.now in
    let links = no_links objects c.in-Some.id (sym c.in_default-get.ensures) in
    walk_goes_on objects c.args.root c.args.kind c.loop-id.seen c.loop-id.seen c.loop-id.next c.in-Some.id c.loop-id.invariant (sym c.in-Some.ensures.id) c.in-Some.ensures.within
    (subst (λ (wants : List Want). Notes objects c.loop-id.seen c.loop-id.seen wants) (sym links) (notes_none objects c.loop-id.seen))

pub returns : goal.returns
returns c = walk_ends c.args.lens.now c.args.root c.args.kind c.loop-id.seen c.loop-id.next c.loop-id.invariant (ended c.loop-id.seen.known.keys c.loop-id.next (sym c.in_default.ensures.id))
