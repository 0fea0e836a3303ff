use Rattle.std.proofs.Common.{◌∙◌}
use Rattle.record_file.proofs.CallLemmas.{write_view}
use Rattle.record_file.proofs.history.History.keep_write.Goals as goal

pub returns : goal.returns
returns c =
    write_view c.self.inside.initial.items c.self.inside.written.items c.extend_from_slice.new.self.items c.args.piece.now c.self.inside.calls.items c.push.new.self.items _ _ c.self.inside.room c.args.at c.len-from.result c.args.self.now
    c.self.view_is c.self.invariant.4 c.in-Ok.ensures.items c.in-Ok.ensures.len (c.len-from.ensures ∙ c.self.inside.written.ok.0) c.in-Ok-push.ensures.items
