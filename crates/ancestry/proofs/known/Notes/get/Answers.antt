use Rattle.std.proofs.Common.{sym}
use Rattle.ancestry.proofs.known.Notes.get.Goals as goal

pub returns-in-Some : goal.returns-in-Some
returns-in-Some c = λ objects noted. (noted.whole c.args.id c.in-Some._generation (sym c.in-Some.ensures)).0
