use Rattle.record_file.proofs.CallLemmas.{kept_view, wrote_nothing}
use Rattle.record_file.proofs.history.History.keep.Goals as goal

pub returns : goal.returns
returns c =
    kept_view c.self.inside.initial.items c.self.inside.written.items c.self.inside.calls.items c.push.new.self.items _ c.self.inside.room c.args.call c.args.self.now c.self.view_is c.in-Ok.ensures.items
    (wrote_nothing c.self.inside.written.items c.args.call c.requires.kept)
