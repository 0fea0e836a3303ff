-- Which rules are marked, by their numbers.
use Rattle.std.specs.Prelude.{◌≡◌, ℕ, zero, suc, ◌<◌, ◌≤◌, ◌||◌, Bool, false, List, length, slice_get, unwrap_or}
use Rattle.access_check.specs.declared.verdicts.Verdict.{Verdict}
use Rattle.access_report.specs.Report.{decide_some, names}
use Rattle.access_report.specs.declared.answers.Question.{Question}

-- the mark of a rule
abbrev pub mark_of : List Bool → ℕ → Bool
mark_of marks zero = false
mark_of marks (suc n) = unwrap_or (slice_get marks n) false

-- a rule is marked that was, or that the verdict names
abbrev pub MarksRule : List Bool → List Bool → Verdict → Type 0
MarksRule old new verdict = (seq : ℕ) → 0 < seq → seq ≤ length old → mark_of new seq ≡ (mark_of old seq || names seq verdict)

-- the marked rules are those that decide a question
abbrev pub AreDeciding : List Bool → List Question → Type 0
AreDeciding marks questions = (seq : ℕ) → 0 < seq → seq ≤ length marks → mark_of marks seq ≡ decide_some questions seq
