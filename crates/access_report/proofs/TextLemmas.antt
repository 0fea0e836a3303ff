-- Lines have a byte at least.
use Rattle.std.proofs.Common.{◌≡◌, ◌<◌, ℕ, Bool, true, false, List, [], ◌∷◌, ◌++◌, length, arith, length-append}
use Rattle.std.specs.Prelude.{codes, decimal, if◌then◌else◌}
use Rattle.std.specs.List.{flat_map}
use Rattle.rule_compile.specs.Flat.{Flat}
use Rattle.rule_compile.specs.Patterns.{Patterns}
use Rattle.access_report.specs.Lists.{QuestionLists}
use Rattle.access_report.specs.Report.{change_lines, change_report, changed_count, idle_line_of, idle_number, question_lines, report}
use Rattle.access_report.specs.Text.{answer_text, change_line, question_line, subject_text}
use Rattle.access_report.specs.declared.answers.Question.{Question}

some_behind : (xs ys : List ℕ) → 0 < length ys → 0 < length (xs ++ ys)
some_behind xs ys some = omega (arith, some, length-append xs ys)

pub some_line : (q : QuestionLists) (x : Question) → 0 < length (question_line q x)
unfolding question_line
some_line q x = some_behind (subject_text q x ++ answer_text x) (codes "\n") (omega arith)

pub some_change : (q : QuestionLists) (x y : Question) → 0 < length (change_line q x y)
unfolding change_line
some_change q x y = some_behind (subject_text q x ++ codes "was " ++ answer_text x ++ codes " now " ++ answer_text y) (codes "\n") (omega arith)

pub some_count : (changes all : ℕ) → 0 < length (changed_count changes all)
unfolding changed_count
some_count changes all = some_behind (codes "changed " ++ decimal changes ++ codes " of " ++ decimal all) (codes "\n") (omega arith)

pub some_idle : (ps : Patterns) (flat : Flat) (q : QuestionLists) (questions : List Question) → 0 < length (idle_line_of ps flat q questions)
unfolding idle_line_of
some_idle ps flat q questions = some_behind (codes "idle" ++ flat_map (idle_number ps q questions) flat.rules) (codes "\n") (omega arith)

pub some_changed : (q : QuestionLists) (x y : Question) (b : Bool) → b ≡ true → 0 < length (change_lines q (if b then (x, y) ∷ [] else []))
some_changed q x y true is = omega (arith, some_change q x y, length-append (change_line q x y) [])
some_changed q x y false is = absurd (cc)

pub some_report : (ps : Patterns) (flat : Flat) (q : QuestionLists) → 0 < length (report ps flat q)
unfolding report
some_report ps flat q = some_behind (question_lines ps flat q) _ (some_idle ps flat q _)

pub some_changes : (ps : Patterns) (old new : Flat) (q : QuestionLists) → 0 < length (change_report ps old new q)
unfolding change_report
some_changes ps old new q = some_behind _ _ (some_count _ _)

-- behind what waits
pub some_waiting : (waiting text : List ℕ) → 0 < length text → 0 < length (waiting ++ text)
some_waiting waiting text some = some_behind waiting text some
