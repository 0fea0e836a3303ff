use Rattle.std.proofs.Common.{◌≡◌, ◌∙◌, ◌∷◌, ◌++◌, ℕ, ◌<◌, List, [], ap, length, subst, sym}
use Rattle.ref_store.specs.Refs.{Name}
use Rattle.record_file.specs.Crashes.{FileState, Leaves, LeavesOnly}
use Rattle.record_file.specs.Files.{IsDurable, WriterState}
use Rattle.record_file.specs.Opening.{IsStarted}
use Rattle.record_file.specs.Reading.{IsClosedAt, IsReadTo}
use Rattle.record_file.specs.Records.{Holds, HoldsAllOrNone}
use Rattle.record_file.proofs.OpenLemmas.{ends_at, read_from}
use Rattle.hub.specs.Hub.{HubView}
use Rattle.hub_journal.specs.Events.{bodies_in, head_for}
use Rattle.hub_journal.specs.LastPushes.{TellsPushes}
use Rattle.hub_journal.specs.Recovery.{AreEventsOf, IsNoJournal, RefusesEvents}
use Rattle.hub_journal.specs.Replay.{last_push}
use Rattle.hub_journal.proofs.RecoveryLemmas.{any_moment, any_moment_group, begun_at, durable_there, events_found, read_at, refused_events, shut_at, still_moment, under_admin}
use Rattle.hub_journal.proofs.recovery.recover.Goals as goal

pub returns-in-Err-clause-any_moment : goal.returns-in-Err-clause-any_moment
returns-in-Err-clause-any_moment g c t bodies leaves =
    under_admin c.bytes-name.result.now c.args.admin.now (λ (m : Name). Leaves (Holds (head_for m) bodies) (g.Y.Disk.state c.args.disk.now).file.pending) (λ (m : Name). LeavesOnly (Holds (head_for m) bodies) (g.Y.Disk.state c.args.disk.now).file (g.Y.Disk.state c.start.new.disk).file) c.bytes-name.ensures.bytes
    (c.start.ensures.any_moment t bodies) leaves

pub returns-in-Err-find_last_pushes-clause-any_moment : goal.returns-in-Err-find_last_pushes-clause-any_moment
returns-in-Err-find_last_pushes-clause-any_moment g c t bodies leaves =
    under_admin c.bytes-name.result.now c.args.admin.now (λ (m : Name). Leaves (Holds (head_for m) bodies) (g.Y.Disk.state c.args.disk.now).file.pending) (λ (m : Name). LeavesOnly (Holds (head_for m) bodies) (g.Y.Disk.state c.args.disk.now).file (g.Y.Disk.state c.find_last_pushes.new.disk).file) c.bytes-name.ensures.bytes
    (λ was. still_moment (Holds (head_for c.bytes-name.result.now) bodies) (g.Y.Disk.state c.args.disk.now).file (g.Y.Disk.state c.start.new.disk).file (g.Y.Disk.state c.find_last_pushes.new.disk).file (c.find_last_pushes.ensures.file t) (c.start.ensures.any_moment t bodies was)) leaves

pub returns-in_err-replay-clause-any_moment : goal.returns-in_err-replay-clause-any_moment
returns-in_err-replay-clause-any_moment g c t bodies leaves =
    under_admin c.bytes-name.result.now c.args.admin.now (λ (m : Name). Leaves (Holds (head_for m) bodies) (g.Y.Disk.state c.args.disk.now).file.pending) (λ (m : Name). LeavesOnly (Holds (head_for m) bodies) (g.Y.Disk.state c.args.disk.now).file (g.Y.Disk.state c.find_last_pushes.new.disk).file) c.bytes-name.ensures.bytes
    (λ was. still_moment (Holds (head_for c.bytes-name.result.now) bodies) (g.Y.Disk.state c.args.disk.now).file (g.Y.Disk.state c.start.new.disk).file (g.Y.Disk.state c.find_last_pushes.new.disk).file (c.find_last_pushes.ensures.file t) (c.start.ensures.any_moment t bodies was)) leaves

pub returns-in-Err-replay_all-clause-any_moment : goal.returns-in-Err-replay_all-clause-any_moment
returns-in-Err-replay_all-clause-any_moment g c t bodies leaves =
    under_admin c.bytes-name.result.now c.args.admin.now (λ (m : Name). Leaves (Holds (head_for m) bodies) (g.Y.Disk.state c.args.disk.now).file.pending) (λ (m : Name). LeavesOnly (Holds (head_for m) bodies) (g.Y.Disk.state c.args.disk.now).file (g.Y.Disk.state c.replay_all.new.disk).file) c.bytes-name.ensures.bytes
    (λ was. still_moment (Holds (head_for c.bytes-name.result.now) bodies) (g.Y.Disk.state c.args.disk.now).file (g.Y.Disk.state c.start.new.disk).file (g.Y.Disk.state c.replay_all.new.disk).file (c.replay_all.ensures.file t ∙ c.find_last_pushes.ensures.file t) (c.start.ensures.any_moment t bodies was)) leaves

pub returns-in-Ok-finish-clause-any_moment : goal.returns-in-Ok-finish-clause-any_moment
returns-in-Ok-finish-clause-any_moment g c t bodies leaves =
    let head : List ℕ = head_for c.bytes-name.result.now in
    let started = c.in-Ok.ensures.started t in
    let same = c.find_last_pushes.ensures.file t in
    let found : List (List ℕ) = bodies_in c.in-Ok-replay_all.hub.log in
    let end : ℕ = c.replay_all.new.reader.offset in
    let read = read_at head found (g.Y.Disk.state c.start.new.disk).file (g.Y.Disk.state c.find_last_pushes.new.disk).file c.in-Ok.reader.offset end started c.in-Ok.ensures.offset same (c.in-Ok-replay_all.ensures.read t) in
    let shut = shut_at head found (g.Y.Disk.state c.start.new.disk).file (g.Y.Disk.state c.find_last_pushes.new.disk).file c.in-Ok.reader.offset end started c.in-Ok.ensures.offset same (c.in-Ok-replay_all.ensures.closed t) in
    under_admin c.bytes-name.result.now c.args.admin.now (λ (m : Name). Leaves (Holds (head_for m) bodies) (g.Y.Disk.state c.args.disk.now).file.pending) (λ (m : Name). LeavesOnly (Holds (head_for m) bodies) (g.Y.Disk.state c.args.disk.now).file (g.Y.Disk.state c.finish.new.disk).file) c.bytes-name.ensures.bytes
    (λ was. any_moment head found (g.Y.Disk.state c.args.disk.now).file (g.Y.Disk.state c.start.new.disk).file (g.Y.Disk.state c.replay_all.new.disk).file (g.Y.Disk.state c.finish.new.disk).file end started read shut (c.replay_all.ensures.file t ∙ same) (c.finish.ensures.any_moment t) bodies (c.start.ensures.any_moment t bodies was)) leaves

pub returns-in-Err-finish-clause-any_moment : goal.returns-in-Err-finish-clause-any_moment
returns-in-Err-finish-clause-any_moment g c t bodies leaves =
    let head : List ℕ = head_for c.bytes-name.result.now in
    let started = c.in-Ok.ensures.started t in
    let same = c.find_last_pushes.ensures.file t in
    let found : List (List ℕ) = bodies_in c.in-Ok-replay_all.hub.log in
    let end : ℕ = c.replay_all.new.reader.offset in
    let read = read_at head found (g.Y.Disk.state c.start.new.disk).file (g.Y.Disk.state c.find_last_pushes.new.disk).file c.in-Ok.reader.offset end started c.in-Ok.ensures.offset same (c.in-Ok-replay_all.ensures.read t) in
    let shut = shut_at head found (g.Y.Disk.state c.start.new.disk).file (g.Y.Disk.state c.find_last_pushes.new.disk).file c.in-Ok.reader.offset end started c.in-Ok.ensures.offset same (c.in-Ok-replay_all.ensures.closed t) in
    under_admin c.bytes-name.result.now c.args.admin.now (λ (m : Name). Leaves (Holds (head_for m) bodies) (g.Y.Disk.state c.args.disk.now).file.pending) (λ (m : Name). LeavesOnly (Holds (head_for m) bodies) (g.Y.Disk.state c.args.disk.now).file (g.Y.Disk.state c.finish.new.disk).file) c.bytes-name.ensures.bytes
    (λ was. any_moment head found (g.Y.Disk.state c.args.disk.now).file (g.Y.Disk.state c.start.new.disk).file (g.Y.Disk.state c.replay_all.new.disk).file (g.Y.Disk.state c.finish.new.disk).file end started read shut (c.replay_all.ensures.file t ∙ same) (c.finish.ensures.any_moment t) bodies (c.start.ensures.any_moment t bodies was)) leaves

pub returns-in-Err-clause-any_moment_group : goal.returns-in-Err-clause-any_moment_group
returns-in-Err-clause-any_moment_group g c t bodies more leaves =
    under_admin c.bytes-name.result.now c.args.admin.now (λ (m : Name). Leaves (HoldsAllOrNone (head_for m) bodies more) (g.Y.Disk.state c.args.disk.now).file.pending) (λ (m : Name). LeavesOnly (HoldsAllOrNone (head_for m) bodies more) (g.Y.Disk.state c.args.disk.now).file (g.Y.Disk.state c.start.new.disk).file) c.bytes-name.ensures.bytes
    (c.start.ensures.any_moment_group t bodies more) leaves

pub returns-in-Err-find_last_pushes-clause-any_moment_group : goal.returns-in-Err-find_last_pushes-clause-any_moment_group
returns-in-Err-find_last_pushes-clause-any_moment_group g c t bodies more leaves =
    under_admin c.bytes-name.result.now c.args.admin.now (λ (m : Name). Leaves (HoldsAllOrNone (head_for m) bodies more) (g.Y.Disk.state c.args.disk.now).file.pending) (λ (m : Name). LeavesOnly (HoldsAllOrNone (head_for m) bodies more) (g.Y.Disk.state c.args.disk.now).file (g.Y.Disk.state c.find_last_pushes.new.disk).file) c.bytes-name.ensures.bytes
    (λ was. still_moment (HoldsAllOrNone (head_for c.bytes-name.result.now) bodies more) (g.Y.Disk.state c.args.disk.now).file (g.Y.Disk.state c.start.new.disk).file (g.Y.Disk.state c.find_last_pushes.new.disk).file (c.find_last_pushes.ensures.file t) (c.start.ensures.any_moment_group t bodies more was)) leaves

pub returns-in_err-replay-clause-any_moment_group : goal.returns-in_err-replay-clause-any_moment_group
returns-in_err-replay-clause-any_moment_group g c t bodies more leaves =
    under_admin c.bytes-name.result.now c.args.admin.now (λ (m : Name). Leaves (HoldsAllOrNone (head_for m) bodies more) (g.Y.Disk.state c.args.disk.now).file.pending) (λ (m : Name). LeavesOnly (HoldsAllOrNone (head_for m) bodies more) (g.Y.Disk.state c.args.disk.now).file (g.Y.Disk.state c.find_last_pushes.new.disk).file) c.bytes-name.ensures.bytes
    (λ was. still_moment (HoldsAllOrNone (head_for c.bytes-name.result.now) bodies more) (g.Y.Disk.state c.args.disk.now).file (g.Y.Disk.state c.start.new.disk).file (g.Y.Disk.state c.find_last_pushes.new.disk).file (c.find_last_pushes.ensures.file t) (c.start.ensures.any_moment_group t bodies more was)) leaves

pub returns-in-Err-replay_all-clause-any_moment_group : goal.returns-in-Err-replay_all-clause-any_moment_group
returns-in-Err-replay_all-clause-any_moment_group g c t bodies more leaves =
    under_admin c.bytes-name.result.now c.args.admin.now (λ (m : Name). Leaves (HoldsAllOrNone (head_for m) bodies more) (g.Y.Disk.state c.args.disk.now).file.pending) (λ (m : Name). LeavesOnly (HoldsAllOrNone (head_for m) bodies more) (g.Y.Disk.state c.args.disk.now).file (g.Y.Disk.state c.replay_all.new.disk).file) c.bytes-name.ensures.bytes
    (λ was. still_moment (HoldsAllOrNone (head_for c.bytes-name.result.now) bodies more) (g.Y.Disk.state c.args.disk.now).file (g.Y.Disk.state c.start.new.disk).file (g.Y.Disk.state c.replay_all.new.disk).file (c.replay_all.ensures.file t ∙ c.find_last_pushes.ensures.file t) (c.start.ensures.any_moment_group t bodies more was)) leaves

pub returns-in-Ok-finish-clause-any_moment_group : goal.returns-in-Ok-finish-clause-any_moment_group
returns-in-Ok-finish-clause-any_moment_group g c t bodies more leaves =
    let head : List ℕ = head_for c.bytes-name.result.now in
    let started = c.in-Ok.ensures.started t in
    let same = c.find_last_pushes.ensures.file t in
    let found : List (List ℕ) = bodies_in c.in-Ok-replay_all.hub.log in
    let end : ℕ = c.replay_all.new.reader.offset in
    let read = read_at head found (g.Y.Disk.state c.start.new.disk).file (g.Y.Disk.state c.find_last_pushes.new.disk).file c.in-Ok.reader.offset end started c.in-Ok.ensures.offset same (c.in-Ok-replay_all.ensures.read t) in
    let shut = shut_at head found (g.Y.Disk.state c.start.new.disk).file (g.Y.Disk.state c.find_last_pushes.new.disk).file c.in-Ok.reader.offset end started c.in-Ok.ensures.offset same (c.in-Ok-replay_all.ensures.closed t) in
    under_admin c.bytes-name.result.now c.args.admin.now (λ (m : Name). Leaves (HoldsAllOrNone (head_for m) bodies more) (g.Y.Disk.state c.args.disk.now).file.pending) (λ (m : Name). LeavesOnly (HoldsAllOrNone (head_for m) bodies more) (g.Y.Disk.state c.args.disk.now).file (g.Y.Disk.state c.finish.new.disk).file) c.bytes-name.ensures.bytes
    (λ was. any_moment_group head found (g.Y.Disk.state c.args.disk.now).file (g.Y.Disk.state c.start.new.disk).file (g.Y.Disk.state c.replay_all.new.disk).file (g.Y.Disk.state c.finish.new.disk).file end started read shut (c.replay_all.ensures.file t ∙ same) (c.finish.ensures.any_moment t) bodies more (c.start.ensures.any_moment_group t bodies more was)) leaves

pub returns-in-Err-finish-clause-any_moment_group : goal.returns-in-Err-finish-clause-any_moment_group
returns-in-Err-finish-clause-any_moment_group g c t bodies more leaves =
    let head : List ℕ = head_for c.bytes-name.result.now in
    let started = c.in-Ok.ensures.started t in
    let same = c.find_last_pushes.ensures.file t in
    let found : List (List ℕ) = bodies_in c.in-Ok-replay_all.hub.log in
    let end : ℕ = c.replay_all.new.reader.offset in
    let read = read_at head found (g.Y.Disk.state c.start.new.disk).file (g.Y.Disk.state c.find_last_pushes.new.disk).file c.in-Ok.reader.offset end started c.in-Ok.ensures.offset same (c.in-Ok-replay_all.ensures.read t) in
    let shut = shut_at head found (g.Y.Disk.state c.start.new.disk).file (g.Y.Disk.state c.find_last_pushes.new.disk).file c.in-Ok.reader.offset end started c.in-Ok.ensures.offset same (c.in-Ok-replay_all.ensures.closed t) in
    under_admin c.bytes-name.result.now c.args.admin.now (λ (m : Name). Leaves (HoldsAllOrNone (head_for m) bodies more) (g.Y.Disk.state c.args.disk.now).file.pending) (λ (m : Name). LeavesOnly (HoldsAllOrNone (head_for m) bodies more) (g.Y.Disk.state c.args.disk.now).file (g.Y.Disk.state c.finish.new.disk).file) c.bytes-name.ensures.bytes
    (λ was. any_moment_group head found (g.Y.Disk.state c.args.disk.now).file (g.Y.Disk.state c.start.new.disk).file (g.Y.Disk.state c.replay_all.new.disk).file (g.Y.Disk.state c.finish.new.disk).file end started read shut (c.replay_all.ensures.file t ∙ same) (c.finish.ensures.any_moment t) bodies more (c.start.ensures.any_moment_group t bodies more was)) leaves

pub returns-in-Err-find_last_pushes-clause-refused : goal.returns-in-Err-find_last_pushes-clause-refused
returns-in-Err-find_last_pushes-clause-refused g c t = c.in-Err-find_last_pushes.ensures.refused t c.args.admin.now (g.Y.Disk.state c.args.disk.now).file.content

pub returns-in-Err-replay_all-clause-refused : goal.returns-in-Err-replay_all-clause-refused
returns-in-Err-replay_all-clause-refused g c t =
    let head : List ℕ = head_for c.bytes-name.result.now in
    let started = c.in-Ok.ensures.started t in
    let same = c.find_last_pushes.ensures.file t in
    let hub = c.in_ok-replay.ensures.hub in
    let named : c.bytes-name.result.now ≡ c.in_ok-replay.replay.hub.admin = c.bytes-name.ensures.bytes ∙ sym (ap (λ (h : HubView). h.admin) hub) in
    let begun = begun_at head [] (g.Y.Disk.state c.start.new.disk).file (g.Y.Disk.state c.find_last_pushes.new.disk).file c.in-Ok.reader.offset c.in-Ok.reader.offset started c.in-Ok.ensures.offset same in
    let tells = c.in-Ok-find_last_pushes.ensures.found t head
    (read_from head (g.Y.Disk.state c.start.new.disk).file c.in-Ok.reader.offset started c.in-Ok.ensures.offset) in
    let there = subst (λ (f : FileState). TellsPushes head f.content (last_push c.in-Ok-find_last_pushes.last_pushes.entries)) (sym same) tells in
    let refused = c.in-Err-replay_all.ensures.refused t (subst (λ (m : Name). IsReadTo (head_for m) [] (g.Y.Disk.state c.find_last_pushes.new.disk).file.content c.in-Ok.reader.offset) named begun)
    (subst (λ (ps : List (ℕ × ℕ)). TellsPushes (head_for c.in_ok-replay.replay.hub.admin) (g.Y.Disk.state c.find_last_pushes.new.disk).file.content (last_push ps)) (sym c.in_ok-replay.ensures.last_pushes)
    (subst (λ (m : Name). TellsPushes (head_for m) (g.Y.Disk.state c.find_last_pushes.new.disk).file.content (last_push c.in-Ok-find_last_pushes.last_pushes.entries)) named there)) in
    let here : RefusesEvents c.args.admin.now (g.Y.Disk.state c.start.new.disk).file.content c.in-Err-replay_all.fault =
    subst (λ (f : FileState). RefusesEvents c.args.admin.now f.content c.in-Err-replay_all.fault) same
    (subst (λ (m : Name). RefusesEvents m (g.Y.Disk.state c.find_last_pushes.new.disk).file.content c.in-Err-replay_all.fault) (ap (λ (h : HubView). h.admin) hub) refused) in
    refused_events c.args.admin.now (g.Y.Disk.state c.args.disk.now).file.content (g.Y.Disk.state c.start.new.disk).file.content (c.in-Ok.ensures.same t)
    (λ none. c.in-Ok.ensures.begun t none ∙ ap (λ (m : Name). head_for m ++ 0 ∷ []) c.bytes-name.ensures.bytes) c.in-Err-replay_all.fault here

pub returns-in-Ok-finish-clause-found : goal.returns-in-Ok-finish-clause-found
returns-in-Ok-finish-clause-found g c t =
    let head : List ℕ = head_for c.bytes-name.result.now in
    let started = c.in-Ok.ensures.started t in
    let same = c.find_last_pushes.ensures.file t in
    let found : List (List ℕ) = bodies_in c.in-Ok-replay_all.hub.log in
    let end : ℕ = c.replay_all.new.reader.offset in
    let read = read_at head found (g.Y.Disk.state c.start.new.disk).file (g.Y.Disk.state c.find_last_pushes.new.disk).file c.in-Ok.reader.offset end started c.in-Ok.ensures.offset same (c.in-Ok-replay_all.ensures.read t) in
    let shut = shut_at head found (g.Y.Disk.state c.start.new.disk).file (g.Y.Disk.state c.find_last_pushes.new.disk).file c.in-Ok.reader.offset end started c.in-Ok.ensures.offset same (c.in-Ok-replay_all.ensures.closed t) in
    let holds : Holds head found (g.Y.Disk.state c.start.new.disk).file.content = (ends_at head found (g.Y.Disk.state c.start.new.disk).file.content end read shut).holds in
    events_found c.args.admin.now (g.Y.Disk.state c.args.disk.now).file.content (g.Y.Disk.state c.start.new.disk).file.content (c.in-Ok.ensures.same t)
    (λ none. c.in-Ok.ensures.begun t none ∙ ap (λ (m : Name). head_for m ++ 0 ∷ []) c.bytes-name.ensures.bytes)
    c.in-Ok-replay_all.hub.log (subst (λ (m : Name). Holds (head_for m) found (g.Y.Disk.state c.start.new.disk).file.content) c.bytes-name.ensures.bytes holds)

pub returns-in-Ok-finish-clause-durable : goal.returns-in-Ok-finish-clause-durable
returns-in-Ok-finish-clause-durable g c t =
    let head : List ℕ = head_for c.bytes-name.result.now in
    let started = c.in-Ok.ensures.started t in
    let same = c.find_last_pushes.ensures.file t in
    let found : List (List ℕ) = bodies_in c.in-Ok-replay_all.hub.log in
    let end : ℕ = c.replay_all.new.reader.offset in
    let read = read_at head found (g.Y.Disk.state c.start.new.disk).file (g.Y.Disk.state c.find_last_pushes.new.disk).file c.in-Ok.reader.offset end started c.in-Ok.ensures.offset same (c.in-Ok-replay_all.ensures.read t) in
    let shut = shut_at head found (g.Y.Disk.state c.start.new.disk).file (g.Y.Disk.state c.find_last_pushes.new.disk).file c.in-Ok.reader.offset end started c.in-Ok.ensures.offset same (c.in-Ok-replay_all.ensures.closed t) in
    let named : c.bytes-name.result.now ≡ c.in-Ok-replay_all.hub.admin = c.bytes-name.ensures.bytes ∙ sym (c.in-Ok-replay_all.ensures.admin ∙ ap (λ (h : HubView). h.admin) c.in_ok-replay.ensures.hub) in
    let durable : IsDurable head found end (g.Y.Disk.state c.finish.new.disk).file = durable_there head found (g.Y.Disk.state c.args.disk.now).file (g.Y.Disk.state c.start.new.disk).file (g.Y.Disk.state c.replay_all.new.disk).file (g.Y.Disk.state c.finish.new.disk).file end started read shut (c.replay_all.ensures.file t ∙ same) (c.in-Ok-finish.ensures.durable t) in
    subst (λ (n : ℕ). IsDurable (head_for c.in-Ok-replay_all.hub.admin) found n (g.Y.Disk.state c.finish.new.disk).file) (sym (ap (λ (w : WriterState). w.end) c.in-Ok-finish.ensures.writer))
    (subst (λ (m : Name). IsDurable (head_for m) found end (g.Y.Disk.state c.finish.new.disk).file) named durable)
