use Rattle.std.proofs.Common.{◌∙◌, ap, List}
use Rattle.record_file.specs.MemoryDisks.{Change, file_after}
use Rattle.record_file.proofs.CallLemmas.{replayed, all_replayed, front_of}
use Rattle.record_file.proofs.history.History.pending_after.Goals as goal

pub loop-call-preserved : goal.loop-call-preserved
loop-call-preserved c =
    let front = front_of _ _ _ _ c.deref.ensures.value c.split_at.ensures.front in
    let content = rw c.deref-in-loop-call.ensures.value at c.in_ok-replay.ensures.content in
    let pending = rw c.deref-in-loop-call.ensures.value at c.in_ok-replay.ensures.pending in
    let both = replayed c.self.inside.initial.items c.self.inside.written.items c.self.inside.calls.items c.split_at.result.0.now _ c.self.inside.room c.min-count.result c.args.self.now c.self.view_is front
    c.loop-call.call-index _ _ _ _ _ c.loop-call-test.true c.loop-call.invariant.content c.loop-call.invariant.pending content pending in
    record { content = both.0; pending = both.1 }

pub returns : goal.returns
returns c =
    let front = front_of _ _ _ _ c.deref.ensures.value c.split_at.ensures.front in
    c.loop-call.invariant.pending
    ∙ ap (λ (l : List Change). (file_after c.args.self.now.initial l).pending)
    (all_replayed c.self.inside.initial.items c.self.inside.written.items c.self.inside.calls.items c.split_at.result.0.now _ c.self.inside.room c.min-count.result c.args.self.now c.self.view_is front
    c.args.most c.len.result c.loop-call.call-index c.min-count.ensures (c.len.ensures ∙ c.self.inside.calls.ok.0) c.loop-call-test.false c.loop-call.auto.call-index-end)
