-- The lines of a report.
use Rattle.std.specs.Prelude.{ℕ, List, [], ◌++◌, slice_get, codes, decimal}
use Rattle.std.specs.Option.{option_map_or, unwrap_or}
use Rattle.access_check.specs.Letters.{letter_text}
use Rattle.access_check.specs.declared.letters.Letter.{Letter}
use Rattle.access_check.specs.declared.verdicts.Verdict.{Verdict}
use Rattle.access_check.specs.declared.verdicts.Verdict.TheVariants.{Allowed, DeniedBy, Fallthru}
use Rattle.access_report.specs.Lists.{QuestionLists}
use Rattle.access_report.specs.declared.answers.About.{About}
use Rattle.access_report.specs.declared.answers.About.TheVariants.{Read, Write, Create, Forward, Rewind, Delete}
use Rattle.access_report.specs.declared.answers.Question.{Question}

-- ---- words

abbrev pub repo_name : QuestionLists → ℕ → List ℕ
repo_name q at = option_map_or (λ repo. repo.name) (slice_get q.repos at) []

abbrev pub user_name : QuestionLists → ℕ → List ℕ
user_name q at = unwrap_or (slice_get q.users at) []

abbrev pub ref_name : QuestionLists → ℕ → List ℕ
ref_name q at = unwrap_or (slice_get q.refs at) []

-- a word, and a space
abbrev pub spaced : List ℕ → List ℕ
spaced word = word ++ codes " "

-- `any read`, `any write`, or a ref and what becomes of it
abbrev pub about_text : QuestionLists → About → List ℕ
about_text q Read = codes "any read"
about_text q Write = codes "any write"
about_text q (Create ref) = ref_name q ref ++ codes " create"
about_text q (Forward ref) = ref_name q ref ++ codes " forward"
about_text q (Rewind ref) = ref_name q ref ++ codes " rewind"
about_text q (Delete ref) = ref_name q ref ++ codes " delete"

-- `R`, `W`, or the letter of a change
abbrev pub need_text : About → Letter → List ℕ
need_text Read letter = codes "R"
need_text Write letter = codes "W"
need_text (Create ref) letter = letter_text letter
need_text (Forward ref) letter = letter_text letter
need_text (Rewind ref) letter = letter_text letter
need_text (Delete ref) letter = letter_text letter

abbrev pub verdict_text : Verdict → List ℕ
verdict_text (Allowed seq) = codes "allowed by " ++ decimal seq
verdict_text (DeniedBy seq) = codes "denied by " ++ decimal seq
verdict_text Fallthru = codes "fallthru"

-- ---- lines

-- `REPO USER any read`, or `REPO USER REF CHANGE`, and a space
unfoldable pub subject_text : QuestionLists → Question → List ℕ
subject_text q x = spaced (repo_name q x.repo) ++ spaced (user_name q x.user) ++ spaced (about_text q x.about)

-- `LETTER VERDICT`
unfoldable pub answer_text : Question → List ℕ
answer_text x = spaced (need_text x.about x.letter) ++ verdict_text x.verdict

-- what is asked, what it needs and what it is answered
unfoldable pub question_line : QuestionLists → Question → List ℕ
question_line q x = subject_text q x ++ answer_text x ++ codes "\n"

-- what is asked, and how it was answered and is now
unfoldable pub change_line : QuestionLists → Question → Question → List ℕ
change_line q old new = subject_text q old ++ codes "was " ++ answer_text old ++ codes " now " ++ answer_text new ++ codes "\n"
