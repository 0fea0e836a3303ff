-- The lines of questions, one after the other.
use Rattle.std.proofs.Common.{◌≡◌, ◌∙◌, ◌+◌, ◌-◌, ◌<◌, ℕ, zero, suc, Bool, true, false, List, [], ◌∷◌, ◌++◌, length, drop, drop-cons, get_or, add-one, ap, ap₂, refl, subst, sym, arith, append_assoc}
use Rattle.std.specs.Prelude.{◌||◌, IfErr, OnOk, Result, Ok, Err}
use Rattle.std.specs.Io.KnownBytes.{Appends}
use Rattle.std.specs.List.{AllByRecursion, flat_map}
use Rattle.std.proofs.lemmas.Grind.{flat_map-append}
use Rattle.std.proofs.lemmas.List.{append-nil}
use Rattle.std.proofs.lemmas.List.Folds.{list_any-append}
use Rattle.pktline_core.specs.LinkState.{LinkState}
use Rattle.pktline_core.specs.Links.{IsLater}
use Rattle.rule_compile.specs.Flat.{Flat}
use Rattle.rule_compile.specs.Patterns.{Patterns}
use Rattle.rule_compile.specs.Index.{AreNumbered}
use Rattle.rule_compile.specs.declared.rule.Rule.{Rule}
use Rattle.access_check.specs.Questions.{Leads}
use Rattle.access_check.proofs.RuleLemmas.{rules_lead}
use Rattle.access_report.specs.Answers.{all_questions}
use Rattle.access_report.specs.Lists.{QuestionLists, count}
use Rattle.access_report.specs.Marks.{AreDeciding, MarksRule}
use Rattle.access_report.specs.Report.{all_changes, change_lines, change_report, changed_count, decide_some, idle_line_of, names, question_lines, report}
use Rattle.access_report.specs.Writing.{HandsOn, StopsInside}
use Rattle.access_report.specs.declared.answers.Question.{Question}
use Rattle.access_report.specs.declared.report.ReportFault.{ReportFault}
use Rattle.access_report.proofs.WritingLemmas.{hands_more, stops_before, stops_later, writes_last}

-- a list that grows by some items at each step: those of a later step begin with those of an earlier one
module _ {X : Type 0} (at : ℕ → List X) (all : ℕ → List X) (next : (n : ℕ) → all (suc n) ≡ all n ++ at n) where
  grown : (n k : ℕ) → (more : List X) × (all (k + n) ≡ all n ++ more)
  grown n zero = ([], ap all (let same : 0 + n ≡ n = omega arith in same) ∙ sym (append-nil (all n)))
  grown n (suc k) =
      let before = grown n k in
      (before.0 ++ at (k + n), ap all (let same : suc k + n ≡ suc (k + n) = omega arith in same) ∙ next (k + n) ∙ ap (λ (l : List X). l ++ at (k + n)) before.1 ∙ append_assoc (all n) before.0 (at (k + n)))

  -- from the step behind a place on
  behind : (n last : ℕ) → n < last → (more : List X) × (all last ≡ all n ++ (at n ++ more))
  behind n last less =
      let later = grown (suc n) (last - suc n) in
      let reached : (last - suc n) + suc n ≡ last = omega arith in
      (later.0, ap all (sym reached) ∙ later.1 ∙ ap (λ (l : List X). l ++ later.0) (next n) ∙ append_assoc (all n) (at n) later.0)

module _ (a b : LinkState) (w w' : List ℕ) (later : IsLater a b) {X : Type 0} (text : X → List ℕ) (at : ℕ → List X) (all : ℕ → List X) (next : (n : ℕ) → all (suc n) ≡ all n ++ at n) (n last : ℕ) (so_far : HandsOn a b w w' (flat_map text (all n))) where
  -- the items of one more step are handed on
  pub step_handed : (c : LinkState) (w'' : List ℕ) → HandsOn b c w' w'' (flat_map text (at n)) → HandsOn a c w w'' (flat_map text (all (suc n)))
  step_handed c w'' more =
      subst (HandsOn a c w w'') (sym (ap (flat_map text) (next n) ∙ flat_map-append text (all n) (at n))) (hands_more a b c w w' w'' (flat_map text (all n)) (flat_map text (at n)) so_far more)

  -- or writing stops in them
  pub step_stopped : (c : LinkState) (fault : ReportFault) → n < last → StopsInside b c (w' ++ flat_map text (at n)) fault → StopsInside a c (w ++ flat_map text (all last)) fault
  step_stopped c fault less stops =
      let rest = behind at all next n last less in
      let whole : w ++ (flat_map text (all n) ++ (flat_map text (at n) ++ flat_map text rest.0)) ≡ w ++ flat_map text (all last) =
      ap (λ (l : List ℕ). w ++ l) (sym (ap (flat_map text) rest.1 ∙ flat_map-append text (all n) (at n ++ rest.0) ∙ ap (λ (l : List ℕ). flat_map text (all n) ++ l) (flat_map-append text (at n) rest.0))) in
      subst (λ (l : List ℕ). StopsInside a c l fault) whole
      (stops_later a b c w w' (flat_map text (all n)) (flat_map text (at n) ++ flat_map text rest.0) fault later so_far
      (subst (λ (l : List ℕ). StopsInside b c l fault) (append_assoc w' (flat_map text (at n)) (flat_map text rest.0)) (stops_before b c (w' ++ flat_map text (at n)) (flat_map text rest.0) fault stops)))

-- ---- marks

or_false : (b : Bool) → (b || false) ≡ b
or_false true = refl
or_false false = refl

-- one question more is marked
pub marked_more : (old new : List Bool) (questions : List Question) (question : Question) → length new ≡ length old → MarksRule old new question.verdict → AreDeciding old questions → AreDeciding new (questions ++ question ∷ [])
marked_more old new questions question same marks are = λ seq some within.
    marks seq some (omega (arith, same, within))
    ∙ ap (λ (b : Bool). b || names seq question.verdict) (are seq some (omega (arith, same, within)))
    ∙ sym (list_any-append (λ (x : Question). names seq x.verdict) questions (question ∷ []) ∙ ap (λ (b : Bool). decide_some questions seq || b) (or_false (names seq question.verdict)))

-- ---- a report, whole and in part

pub ok_mapped : {T E : Type 0} {P Q : Type 0} (r : Result T E) → OnOk r P → (P → Q) → OnOk r Q
ok_mapped (Ok x) is f = f is
ok_mapped (Err e) is f = tt

pub err_mapped : {T E : Type 0} {P Q : E → Type 0} (r : Result T E) → IfErr r P → ((e : E) → P e → Q e) → IfErr r Q
err_mapped (Ok x) is f = tt
err_mapped (Err e) is f = f e is

module _ (ps : Patterns) (flat : Flat) (q : QuestionLists) (a b : LinkState) (w w' : List ℕ) (none : w ≡ []) where
  whole : w ++ report ps flat q ≡ report ps flat q
  whole = ap (λ (l : List ℕ). l ++ report ps flat q) none

  pub report_written : (c : LinkState) → HandsOn a b w w' (question_lines ps flat q) → Appends b.written c.written (w' ++ idle_line_of ps flat q (all_questions ps flat q)) → Appends a.written c.written (report ps flat q)
  unfolding report
  report_written c lines idle = subst (Appends a.written c.written) whole (writes_last a b c w w' (question_lines ps flat q) (idle_line_of ps flat q (all_questions ps flat q)) lines idle)

  pub report_stopped : (c : LinkState) (fault : ReportFault) → IsLater a b → HandsOn a b w w' (question_lines ps flat q) → StopsInside b c (w' ++ idle_line_of ps flat q (all_questions ps flat q)) fault → StopsInside a c (report ps flat q) fault
  unfolding report
  report_stopped c fault later lines idle = subst (λ (l : List ℕ). StopsInside a c l fault) whole (stops_later a b c w w' (question_lines ps flat q) (idle_line_of ps flat q (all_questions ps flat q)) fault later lines idle)

  pub report_begun : (fault : ReportFault) → StopsInside a b (w ++ question_lines ps flat q) fault → StopsInside a b (report ps flat q) fault
  unfolding report
  report_begun fault lines =
      subst (λ (l : List ℕ). StopsInside a b l fault) (append_assoc w (question_lines ps flat q) (idle_line_of ps flat q (all_questions ps flat q)) ∙ whole)
      (stops_before a b (w ++ question_lines ps flat q) (idle_line_of ps flat q (all_questions ps flat q)) fault lines)

module _ (ps : Patterns) (old new : Flat) (q : QuestionLists) (a b : LinkState) (w w' : List ℕ) (none : w ≡ []) where
  abbrev changes : List (Question × Question)
  changes = all_changes ps old new q

  all_of : w ++ change_report ps old new q ≡ change_report ps old new q
  all_of = ap (λ (l : List ℕ). l ++ change_report ps old new q) none

  pub change_written : (c : LinkState) (n m : ℕ) → n ≡ length changes → m ≡ count q → HandsOn a b w w' (change_lines q changes) → Appends b.written c.written (w' ++ changed_count n m) → Appends a.written c.written (change_report ps old new q)
  unfolding change_report
  change_written c n m counted all lines last =
      subst (Appends a.written c.written) all_of
      (writes_last a b c w w' (change_lines q changes) (changed_count (length changes) (count q)) lines
      (subst (λ (l : List ℕ). Appends b.written c.written (w' ++ l)) (ap₂ changed_count counted all) last))

  pub change_stopped : (c : LinkState) (n m : ℕ) (fault : ReportFault) → n ≡ length changes → m ≡ count q → IsLater a b → HandsOn a b w w' (change_lines q changes) → StopsInside b c (w' ++ changed_count n m) fault → StopsInside a c (change_report ps old new q) fault
  unfolding change_report
  change_stopped c n m fault counted all later lines last =
      subst (λ (l : List ℕ). StopsInside a c l fault) all_of
      (stops_later a b c w w' (change_lines q changes) (changed_count (length changes) (count q)) fault later lines
      (subst (λ (l : List ℕ). StopsInside b c (w' ++ l) fault) (ap₂ changed_count counted all) last))

  pub change_begun : (fault : ReportFault) → StopsInside a b (w ++ change_lines q changes) fault → StopsInside a b (change_report ps old new q) fault
  unfolding change_report
  change_begun fault lines =
      subst (λ (l : List ℕ). StopsInside a b l fault) (append_assoc w (change_lines q changes) (changed_count (length changes) (count q)) ∙ all_of)
      (stops_before a b (w ++ change_lines q changes) (changed_count (length changes) (count q)) fault lines)

-- ---- rules in a row

all_at : {X : Type 0} (P : X → Type 0) (xs : List X) (i : ℕ) (d : X) → AllByRecursion P xs → i < length xs → P (get_or xs i d)
all_at P [] i d all less = absurd (omega arith)
all_at P (x ∷ xs) zero d all less = all.0
all_at P (x ∷ xs) (suc i) d all less = all_at P xs i d all.1 (omega (arith, less))

pub leads_in : (all rules : List Rule) (i : ℕ) (rule : Rule) → rules ≡ all → AreNumbered all → i < length rules → rule ≡ get_or rules i rule → Leads all rule
leads_in all rules i rule same are less is =
    subst (λ (r : Rule). Leads all r) (sym is)
    (subst (λ (xs : List Rule). Leads all (get_or xs i rule)) (sym same) (all_at (Leads all) all i rule (rules_lead all are) (subst (λ (xs : List Rule). i < length xs) same less)))

pub row_step : {X : Type 0} (f : X → List ℕ) (xs : List X) (i : ℕ) (x : X) (start text text' : List ℕ) → i < length xs → x ≡ get_or xs i x → start ≡ text ++ flat_map f (drop i xs) → text' ≡ text ++ f x
    → start ≡ text' ++ flat_map f (drop (i + 1) xs)
row_step {X} f xs i x start text text' less is before grown =
    let cut : drop i xs ≡ x ∷ drop (i + 1) xs = rw (add-one, drop-cons xs i x) (ap (λ (y : X). y ∷ drop (suc i) xs) (sym is)) in
    before ∙ ap (λ (l : List X). text ++ flat_map f l) cut ∙ sym (append_assoc text (f x) (flat_map f (drop (i + 1) xs))) ∙ ap (λ (l : List ℕ). l ++ flat_map f (drop (i + 1) xs)) (sym grown)
