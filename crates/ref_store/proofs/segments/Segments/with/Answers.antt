use Rattle.std.proofs.Common.{rules, ◌+◌, ◌<◌, ◌≤◌, length, sym, ◌∙◌, ap, arith}
use Rattle.ref_store.specs.Segments.{all_of, with_fresh}
use Rattle.ref_store.proofs.SegmentLemmas.{fresh_segments, with_made}
use Rattle.ref_store.proofs.segments.Segments.with.Goals as goal

pub invariant_of-result : goal.invariant_of-result
invariant_of-result c =
    let ss = c.self.inside.segments.items in
    let fresh = c.args.fresh.now in
    let some : 0 < length fresh = search rules in
    let few : c.self.inside.count + length fresh ≤ 4294967295 = omega (arith, c.requires, ap (λ ts. length (all_of ts)) c.self.view_is, c.self.invariant.count_is) in
    let made = with_made c.args.self.now c.deref.result.now c.split_at.result.0.now c.split_at.result.1.now c.in_ok-segments.segments.items c.push.new.self.items c.in_ok-one_of.field-0 fresh c.staying.result some (c.deref.ensures.value ∙ c.self.view_is) c.staying.ensures.staying c.split_at.ensures.front c.split_at.ensures.back (c.in_ok-segments.ensures.items_if_clones_equal (λ x y e. e)) c.in_ok-one_of.ensures c.in_ok-push.ensures.items in
    fresh_segments ss c.push.new.self.items fresh c.self.inside.count c.self.invariant few (made ∙ ap (λ ts. with_fresh ts fresh) (sym c.self.view_is))
