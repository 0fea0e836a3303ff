use Rattle.std.proofs.Common.{sym}
use Rattle.ref_store.proofs.ObjectLemmas.{no_object, object_there}
use Rattle.ref_store.proofs.object_table.ObjectTable.before.Goals as goal

pub returns-in-None-clause-place : goal.returns-in-None-clause-place
returns-in-None-clause-place c = absurd (no_object c.args.self.now c.in-Some.at (object_there c.args.among c.args.self.now c.args.id c.in-Some.at (sym c.in-Some.ensures)) c.in-None.ensures)
