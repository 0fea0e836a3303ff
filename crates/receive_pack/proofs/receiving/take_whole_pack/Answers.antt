use Rattle.receive_pack.proofs.PackLemmas.{pack_taken, pack_refused, pack_failed, pack_lacked, of_pack}
use Rattle.receive_pack.proofs.receiving.take_whole_pack.Goals as goal

pub returns-in-Ok-clause-runs : goal.returns-in-Ok-clause-runs
returns-in-Ok-clause-runs g c = λ desk.
    let n = c.read_pack.ensures in
    pack_taken _ _ desk c.args.capabilities c.args.commands.now c.read_pack.result n.reads n.writing n.later _ c.in-Ok.is

pub returns-in-ReadFault-clause-runs : goal.returns-in-ReadFault-clause-runs
returns-in-ReadFault-clause-runs g c = λ desk.
    let n = c.read_pack.ensures in
    pack_failed _ _ desk c.args.capabilities c.args.commands.now c.read_pack.result n.reads n.writing n.later (rw c.in-ReadFault.is at c.in-Err.is)

pub returns-in-NoMemory-clause-runs : goal.returns-in-NoMemory-clause-runs
returns-in-NoMemory-clause-runs g c = λ desk.
    let n = c.read_pack.ensures in
    pack_lacked _ _ desk c.args.capabilities c.args.commands.now c.read_pack.result n.reads n.writing n.later (rw c.in-NoMemory.is at c.in-Err.is)

pub returns-in_default-clause-runs : goal.returns-in_default-clause-runs
returns-in_default-clause-runs g c = λ desk.
    let n = c.read_pack.ensures in
    pack_refused _ _ desk c.args.capabilities c.args.commands.now c.read_pack.result n.reads n.writing n.later _ c.in-Err.fault _ c.in-Err.is (of_pack c.in-Err.fault c.in_default.not-ReadFault c.in_default.not-NoMemory) c.refuse_pack.ensures.reading (c.refuse_pack.ensures.runs desk)
