use Rattle.std.proofs.Common.{◌+◌, drop, take, subst, sym, ◌∙◌, ap}
use Rattle.std.specs.Prelude.{ℕ}
use Rattle.ref_store.specs.Objects.{place_of}
use Rattle.ref_store.specs.Segments.{all_of}
use Rattle.ref_store.proofs.SegmentLemmas.{Looked, table_left, looked_more, looked_found, looked_there}
use Rattle.ref_store.proofs.segments.Segments.before.Goals as goal

pub returns-in-Some-clause-place : goal.returns-in-Some-clause-place
returns-in-Some-clause-place c =
    let i = c.loop-segment.segment-index in
    let s = c.table-table.result.now in
    let is = table_left c.deref-segment-items.result.now c.args.self.now i c.segment-item.result s (c.deref-segment-items.ensures.value ∙ c.self.view_is) c.loop-segment-test.true c.segment-item.is c.table-table.ensures in
    let found = sym (c.in-Some.ensures.place ∙ ap (λ n. place_of (take n s) c.args.id) c.saturating_sub.ensures) in
    sym (looked_found (all_of c.args.self.now) (all_of (drop i c.args.self.now)) s (all_of (drop (i + 1) c.args.self.now)) c.args.id c.args.among c.loop-segment.earlier c.in-Some.at is found c.loop-segment.invariant)

pub returns-in-Some-clause-object : goal.returns-in-Some-clause-object
returns-in-Some-clause-object c =
    let i = c.loop-segment.segment-index in
    let s = c.table-table.result.now in
    let is = table_left c.deref-segment-items.result.now c.args.self.now i c.segment-item.result s (c.deref-segment-items.ensures.value ∙ c.self.view_is) c.loop-segment-test.true c.segment-item.is c.table-table.ensures in
    looked_there (all_of c.args.self.now) (all_of (drop i c.args.self.now)) s (all_of (drop (i + 1) c.args.self.now)) c.args.id c.args.among c.loop-segment.earlier c.in-Some.at c.in-Some.object.now is c.in-Some.ensures.object c.loop-segment.invariant

pub loop-segment-preserved : goal.loop-segment-preserved
loop-segment-preserved c =
    let i = c.loop-segment.segment-index in
    let s = c.table-table.result.now in
    let is = table_left c.deref-segment-items.result.now c.args.self.now i c.segment-item.result s (c.deref-segment-items.ensures.value ∙ c.self.view_is) c.loop-segment-test.true c.segment-item.is c.table-table.ensures in
    let absent = sym (c.in_default.ensures.place ∙ ap (λ n. place_of (take n s) c.args.id) c.saturating_sub.ensures) in
    subst (λ (n : ℕ). Looked (all_of c.args.self.now) (all_of (drop (i + 1) c.args.self.now)) c.args.id c.args.among (c.loop-segment.earlier + n)) (sym c.len-earlier.ensures.len)
    (looked_more (all_of c.args.self.now) (all_of (drop i c.args.self.now)) s (all_of (drop (i + 1) c.args.self.now)) c.args.id c.args.among c.loop-segment.earlier is absent c.loop-segment.invariant)
