-- What is printed over one conf, and over two.
use Rattle.std.specs.Prelude.{ℕ, zero, suc, ◌==◌, Bool, true, false, not, ◌&&◌, List, [], ◌∷◌, ◌++◌, length, codes, decimal, Option, Some, None, if◌then◌else◌}
use Rattle.std.specs.List.{flat_map, list_any}
use Rattle.rule_compile.specs.Covering.{covers_repo}
use Rattle.rule_compile.specs.Flat.{Flat}
use Rattle.rule_compile.specs.Patterns.{Patterns}
use Rattle.rule_compile.specs.declared.rule.Rule.{Rule}
use Rattle.access_check.specs.declared.verdicts.Verdict.{Verdict}
use Rattle.access_check.specs.declared.verdicts.Verdict.TheVariants.{Allowed, DeniedBy, Fallthru}
use Rattle.access_report.specs.Answers.{all_questions, question_at}
use Rattle.access_report.specs.Lists.{QuestionLists, count}
use Rattle.access_report.specs.Text.{change_line, question_line}
use Rattle.access_report.specs.declared.answers.Question.{Question}
use Rattle.access_report.specs.declared.lists.AskedRepo.{AskedRepo}

-- ---- one conf

-- the verdict has the rule's number
abbrev pub names : ℕ → Verdict → Bool
names seq (Allowed n) = n == seq
names seq (DeniedBy n) = n == seq
names seq Fallthru = false

-- the rule covers the repository, for its creator
abbrev pub covers_asked : Patterns → Rule → AskedRepo → Bool
covers_asked patterns rule repo = covers_repo patterns rule.repo repo.name repo.wild.creator

-- some question is decided by the rule of this number
abbrev pub decide_some : List Question → ℕ → Bool
decide_some questions seq = list_any (λ (x : Question). names seq x.verdict) questions

-- A rule is idle that covers a repository that is asked of and decides no question.
abbrev pub is_idle : Patterns → QuestionLists → List Question → Rule → Bool
is_idle patterns q questions rule = list_any (covers_asked patterns rule) q.repos && not (decide_some questions rule.seq)

-- a space, and the number of a rule that is idle
abbrev pub idle_number : Patterns → QuestionLists → List Question → Rule → List ℕ
idle_number patterns q questions rule = if is_idle patterns q questions rule then codes " " ++ decimal rule.seq else []

-- `idle`, and the numbers of the rules that are
unfoldable pub idle_line_of : Patterns → Flat → QuestionLists → List Question → List ℕ
idle_line_of patterns flat q questions = codes "idle" ++ flat_map (idle_number patterns q questions) flat.rules ++ codes "\n"

abbrev pub question_lines : Patterns → Flat → QuestionLists → List ℕ
question_lines patterns flat q = flat_map (question_line q) (all_questions patterns flat q)

-- The report: a line for each question, in order, and the rules that are idle.
unfoldable pub report : Patterns → Flat → QuestionLists → List ℕ
report patterns flat q = question_lines patterns flat q ++ idle_line_of patterns flat q (all_questions patterns flat q)

-- ---- two confs

abbrev pub is_allowed : Verdict → Bool
is_allowed (Allowed seq) = true
is_allowed (DeniedBy seq) = false
is_allowed Fallthru = false

-- the one is allowed, and the other isn't
abbrev pub differ : Bool → Bool → Bool
differ true other = not other
differ false other = other

-- a question and its other answer, where just one of the two is that it is allowed
abbrev pub changed : Option Question → Option Question → List (Question × Question)
changed (Some old) (Some new) = if differ (is_allowed old.verdict) (is_allowed new.verdict) then (old, new) ∷ [] else []
changed (Some old) None = []
changed None new = []

abbrev pub change_lines : QuestionLists → List (Question × Question) → List ℕ
change_lines q changes = flat_map (λ (c : Question × Question). change_line q c.0 c.1) changes

-- `changed C of Q`
unfoldable pub changed_count : ℕ → ℕ → List ℕ
changed_count changes all = codes "changed " ++ decimal changes ++ codes " of " ++ decimal all ++ codes "\n"

module _ (patterns : Patterns) (old new : Flat) (q : QuestionLists) where
  -- which of the first so many questions change
  abbrev pub changes_below : ℕ → List (Question × Question)
  changes_below zero = []
  changes_below (suc at) = changes_below at ++ changed (question_at patterns old q at) (question_at patterns new q at)

  abbrev pub all_changes : List (Question × Question)
  all_changes = changes_below (count q)

  -- The report over two confs: a line for each question that just one of them allows, in order, and how many
  -- these are.
  unfoldable pub change_report : List ℕ
  change_report = change_lines q all_changes ++ changed_count (length all_changes) (count q)
