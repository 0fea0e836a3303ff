use Rattle.std.proofs.Common.{sym, ap, ◌∙◌}
use Rattle.access_check.specs.Questions.{asked_by}
use Rattle.access_check.specs.Users.{covers_user}
use Rattle.access_check.proofs.users.Question.covers_user.Goals as goal

pub returns-in-Creator : goal.returns-in-Creator
returns-in-Creator c = λ ps ok. c.is_creator.ensures ps ∙ ap (covers_user (asked_by ps c.args.self.now)) (sym c.in-Creator.is)
