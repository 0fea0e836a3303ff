use Rattle.access_check.proofs.UserLemmas.{role_is}
use Rattle.access_check.proofs.users.Question.holds_role.Goals as goal

pub returns-in-Some : goal.returns-in-Some
returns-in-Some c = λ ps. rw c.in-Some.is (role_is c.in-Some.wild.now.roles c.args.role.now c.args.self.now.user.now c.holds.result c.holds.ensures)
