use Rattle.std.proofs.Common.{◌++◌, ◌+◌, ℕ, length, subst, sym, ap}
use Rattle.record_file.specs.Files.{IsDurable}
use Rattle.record_file.proofs.writer.RecordWriter.append.Goals as goal

pub returns-in-Ok-clause-stored : goal.returns-in-Ok-clause-stored
returns-in-Ok-clause-stored g c t whole head bodies rest =
    let was = rw (← c.self.view_is) at rest in
    subst (λ (n : ℕ). IsDurable head (bodies ++ c.args.group.now) (c.self.inside.end + n) (g.D.Disk.state c.store.new.disk).file) (ap length (sym c.written.ensures.bytes)) (c.in-Ok.ensures.stored t head bodies was)
