use Rattle.std.proofs.Common.{◌≡◌, ℕ, subst, sym, ap}
use Rattle.record_file.specs.Crashes.{FileState, LeavesOnly, settled}
use Rattle.record_file.specs.Records.{head_of, Holds, HoldsAllOrNone}
use Rattle.record_file.specs.Reading.{IsReadTo, IsClosedAt}
use Rattle.record_file.specs.Opening.{bodies_of}
use Rattle.record_file.specs.Files.{WriterState, IsDurable}
use Rattle.record_file.proofs.OpenLemmas.{ends_at, opens, opens_group, read_from}
use Rattle.record_file.proofs.FoundLemmas.{found_there, head_refused, refused_there}
use Rattle.record_file.proofs.writer.RecordWriter.open.Goals as goal

pub returns-in-Err-read_all-clause-refused : goal.returns-in-Err-read_all-clause-refused
returns-in-Err-read_all-clause-refused g c t =
    let head = head_of c.args.magic.now c.args.name.now in
    refused_there c.args.magic.now c.args.name.now _ _ c.in-Err-read_all.fault (c.in-Ok.ensures.same t) (c.in-Ok.ensures.begun t)
    (c.in-Err-read_all.ensures.refused t head (read_from head _ _ (c.in-Ok.ensures.started t) c.in-Ok.ensures.offset))

pub returns-in-Ok-finish-clause-found : goal.returns-in-Ok-finish-clause-found
returns-in-Ok-finish-clause-found g c t =
    let head = head_of c.args.magic.now c.args.name.now in
    let read = c.in-Ok-read_all.ensures.read t head (read_from head _ _ (c.in-Ok.ensures.started t) c.in-Ok.ensures.offset) in
    found_there head _ _ (c.in-Ok.ensures.same t) (c.in-Ok.ensures.begun t) c.in-Ok-read_all.records (ends_at head _ _ _ read (c.in-Ok-read_all.ensures.closed t)).holds

pub returns-in-Ok-finish-clause-durable : goal.returns-in-Ok-finish-clause-durable
returns-in-Ok-finish-clause-durable g c t =
    let head = head_of c.args.magic.now c.args.name.now in
    let started = c.in-Ok.ensures.started t in
    let read = c.in-Ok-read_all.ensures.read t head (read_from head _ _ started c.in-Ok.ensures.offset) in
    let back = sym (c.read_all.ensures.file t) in
    subst (λ (n : ℕ). IsDurable head (bodies_of c.in-Ok-read_all.records) n (g.D.Disk.state c.finish.new.disk).file) (sym (ap (λ (w : WriterState). w.end) c.in-Ok-finish.ensures.writer))
    (c.in-Ok-finish.ensures.durable t head (bodies_of c.in-Ok-read_all.records)
    (subst (λ (f : FileState). IsReadTo head (bodies_of c.in-Ok-read_all.records) f.content c.read_all.new.reader.offset) back read)
    (subst (λ (f : FileState). IsClosedAt f.content c.read_all.new.reader.offset) back (c.in-Ok-read_all.ensures.closed t))
    (subst (λ (f : FileState). f.pending ≡ settled f.content) back started.settled))

pub returns-in-Ok-finish-clause-any_moment : goal.returns-in-Ok-finish-clause-any_moment
returns-in-Ok-finish-clause-any_moment g c t bodies leaves =
    let head = head_of c.args.magic.now c.args.name.now in
    let started = c.in-Ok.ensures.started t in
    let read = c.in-Ok-read_all.ensures.read t head (read_from head _ _ started c.in-Ok.ensures.offset) in
    let back = sym (c.read_all.ensures.file t) in
    let end = c.finish.ensures.any_moment t head (bodies_of c.in-Ok-read_all.records)
    (subst (λ (f : FileState). IsReadTo head (bodies_of c.in-Ok-read_all.records) f.content c.read_all.new.reader.offset) back read)
    (subst (λ (f : FileState). IsClosedAt f.content c.read_all.new.reader.offset) back (c.in-Ok-read_all.ensures.closed t))
    (subst (λ (f : FileState). f.pending ≡ settled f.content) back started.settled) in
    opens head (bodies_of c.in-Ok-read_all.records) _ _ _ started.settled (ends_at head _ _ _ read (c.in-Ok-read_all.ensures.closed t)).holds
    (subst (λ (f : FileState). LeavesOnly (Holds head (bodies_of c.in-Ok-read_all.records)) f (g.D.Disk.state c.finish.new.disk).file) (c.read_all.ensures.file t) end) bodies (c.start.ensures.any_moment t bodies leaves)

pub returns-in-Ok-finish-clause-any_moment_group : goal.returns-in-Ok-finish-clause-any_moment_group
returns-in-Ok-finish-clause-any_moment_group g c t bodies more leaves =
    let head = head_of c.args.magic.now c.args.name.now in
    let started = c.in-Ok.ensures.started t in
    let read = c.in-Ok-read_all.ensures.read t head (read_from head _ _ started c.in-Ok.ensures.offset) in
    let back = sym (c.read_all.ensures.file t) in
    let end = c.finish.ensures.any_moment t head (bodies_of c.in-Ok-read_all.records)
    (subst (λ (f : FileState). IsReadTo head (bodies_of c.in-Ok-read_all.records) f.content c.read_all.new.reader.offset) back read)
    (subst (λ (f : FileState). IsClosedAt f.content c.read_all.new.reader.offset) back (c.in-Ok-read_all.ensures.closed t))
    (subst (λ (f : FileState). f.pending ≡ settled f.content) back started.settled) in
    opens_group head (bodies_of c.in-Ok-read_all.records) _ _ _ started.settled (ends_at head _ _ _ read (c.in-Ok-read_all.ensures.closed t)).holds
    (subst (λ (f : FileState). LeavesOnly (Holds head (bodies_of c.in-Ok-read_all.records)) f (g.D.Disk.state c.finish.new.disk).file) (c.read_all.ensures.file t) end) bodies more (c.start.ensures.any_moment_group t bodies more leaves)

pub returns-in-Err-finish-clause-any_moment : goal.returns-in-Err-finish-clause-any_moment
returns-in-Err-finish-clause-any_moment g c t bodies leaves =
    let head = head_of c.args.magic.now c.args.name.now in
    let started = c.in-Ok.ensures.started t in
    let read = c.in-Ok-read_all.ensures.read t head (read_from head _ _ started c.in-Ok.ensures.offset) in
    let back = sym (c.read_all.ensures.file t) in
    let end = c.finish.ensures.any_moment t head (bodies_of c.in-Ok-read_all.records)
    (subst (λ (f : FileState). IsReadTo head (bodies_of c.in-Ok-read_all.records) f.content c.read_all.new.reader.offset) back read)
    (subst (λ (f : FileState). IsClosedAt f.content c.read_all.new.reader.offset) back (c.in-Ok-read_all.ensures.closed t))
    (subst (λ (f : FileState). f.pending ≡ settled f.content) back started.settled) in
    opens head (bodies_of c.in-Ok-read_all.records) _ _ _ started.settled (ends_at head _ _ _ read (c.in-Ok-read_all.ensures.closed t)).holds
    (subst (λ (f : FileState). LeavesOnly (Holds head (bodies_of c.in-Ok-read_all.records)) f (g.D.Disk.state c.finish.new.disk).file) (c.read_all.ensures.file t) end) bodies (c.start.ensures.any_moment t bodies leaves)

pub returns-in-Err-finish-clause-any_moment_group : goal.returns-in-Err-finish-clause-any_moment_group
returns-in-Err-finish-clause-any_moment_group g c t bodies more leaves =
    let head = head_of c.args.magic.now c.args.name.now in
    let started = c.in-Ok.ensures.started t in
    let read = c.in-Ok-read_all.ensures.read t head (read_from head _ _ started c.in-Ok.ensures.offset) in
    let back = sym (c.read_all.ensures.file t) in
    let end = c.finish.ensures.any_moment t head (bodies_of c.in-Ok-read_all.records)
    (subst (λ (f : FileState). IsReadTo head (bodies_of c.in-Ok-read_all.records) f.content c.read_all.new.reader.offset) back read)
    (subst (λ (f : FileState). IsClosedAt f.content c.read_all.new.reader.offset) back (c.in-Ok-read_all.ensures.closed t))
    (subst (λ (f : FileState). f.pending ≡ settled f.content) back started.settled) in
    opens_group head (bodies_of c.in-Ok-read_all.records) _ _ _ started.settled (ends_at head _ _ _ read (c.in-Ok-read_all.ensures.closed t)).holds
    (subst (λ (f : FileState). LeavesOnly (Holds head (bodies_of c.in-Ok-read_all.records)) f (g.D.Disk.state c.finish.new.disk).file) (c.read_all.ensures.file t) end) bodies more (c.start.ensures.any_moment_group t bodies more leaves)

pub returns-in-Err-read_all-clause-any_moment : goal.returns-in-Err-read_all-clause-any_moment
returns-in-Err-read_all-clause-any_moment g c t bodies leaves =
    subst (λ (f : FileState). LeavesOnly (Holds (head_of c.args.magic.now c.args.name.now) bodies) (g.D.Disk.state c.args.disk.now).file f) (sym (c.read_all.ensures.file t)) (c.start.ensures.any_moment t bodies leaves)

pub returns-in-Err-read_all-clause-any_moment_group : goal.returns-in-Err-read_all-clause-any_moment_group
returns-in-Err-read_all-clause-any_moment_group g c t bodies more leaves =
    subst (λ (f : FileState). LeavesOnly (HoldsAllOrNone (head_of c.args.magic.now c.args.name.now) bodies more) (g.D.Disk.state c.args.disk.now).file f) (sym (c.read_all.ensures.file t)) (c.start.ensures.any_moment_group t bodies more leaves)

pub returns-in-Err-clause-refused : goal.returns-in-Err-clause-refused
returns-in-Err-clause-refused g c t = head_refused c.args.magic.now c.args.name.now (g.D.Disk.state c.args.disk.now).file.content c.in-Err.fault (c.in-Err.ensures.refused t)
