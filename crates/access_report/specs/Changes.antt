-- What is printed of one place over two confs. It serves private functions alone.
use Rattle.std.specs.Prelude.{ℕ, List}
use Rattle.rule_compile.specs.Patterns.{Patterns}
use Rattle.access_report.specs.Answers.{Remembers, question_at}
use Rattle.access_report.specs.Lists.{QuestionLists}
use Rattle.access_report.specs.Report.{changed}
use Rattle.access_report.specs.declared.answers.Question.{Question}
use Rattle.access_report.specs.declared.report.Confs.{Confs}
use Rattle.access_report.specs.declared.report.Memos.{Memos}

-- the question at a place, where it changes
abbrev pub changed_at : Patterns → Confs → QuestionLists → ℕ → List (Question × Question)
changed_at patterns confs q at = changed (question_at patterns confs.first.now q at) (question_at patterns confs.second.now q at)

pub record RememberBoth (patterns : Patterns) (confs : Confs) (q : QuestionLists) (memos : Memos) : Type 0 where
  pub first : Remembers patterns confs.first.now q memos.first
  pub second : Remembers patterns confs.second.now q memos.second
