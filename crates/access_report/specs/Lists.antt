-- What is asked.
use Rattle.std.specs.Prelude.{ℕ, ◌+◌, ◌*◌, ◌≤◌, List, length}
use Rattle.access_report.specs.declared.lists.AskedRepo.{AskedRepo}
use Rattle.access_report.specs.declared.lists.TheConstants.{MOST_ASKED, MOST_QUESTIONS}

-- Repositories, each with who created it and who holds which role in it; users; and refs.
pub record QuestionLists : Type 0 where
  pub repos : List AskedRepo
  pub users : List (List ℕ)
  pub refs : List (List ℕ)

-- Of a repository and a user there are two questions, and four more of each ref.
abbrev pub per_user : QuestionLists → ℕ
per_user q = 2 + 4 * length q.refs

abbrev pub count : QuestionLists → ℕ
count q = length q.repos * length q.users * per_user q

-- there are no more than 1,000 of each (`MOST_ASKED`), and than 1,000,000 questions (`MOST_QUESTIONS`)
pub record IsWithinLimits (q : QuestionLists) : Type 0 where
  pub repos : length q.repos ≤ MOST_ASKED
  pub users : length q.users ≤ MOST_ASKED
  pub refs : length q.refs ≤ MOST_ASKED
  pub all : count q ≤ MOST_QUESTIONS
