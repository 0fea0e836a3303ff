use Rattle.std.proofs.Common.{arith}
use Rattle.git_object.specs.Commit.{parent_line}
use Rattle.git_object.proofs.ReaderLemmas.{length-items}
use Rattle.git_object.proofs.commit.Parents.of.Goals as goal

pub returns-in-Some-clause-few : goal.returns-in-Some-clause-few
returns-in-Some-clause-few c = omega (arith, length-items parent_line c.in-Some.lines.now, c.in-Some.ensures.shorter)
