-- Laws of what the rules say.
use Rattle.std.proofs.Common.{◌≡◌, ℕ, Bool, true, false, ◌&&◌, List, [], ◌∷◌, Option, Some, None, Contains, refl, sym, ◌∙◌, ap, subst, ◌⊎◌, inl, inr}
use Rattle.std.specs.Prelude.{IsTrue, if◌then◌else◌}
use Rattle.std.specs.Option.{option_or}
use Rattle.ancestry.proofs.ListLemmas.{contains_none, contains_here, contains_there, contains_cases}
use Rattle.git_object.specs.Content.{Content}
use Rattle.git_object.specs.declared.object_id.ObjectId.{ObjectId}
use Rattle.ref_store.specs.declared.command.Command.{Command}
use Rattle.ancestry.specs.declared.facts.Change.{Change}
use Rattle.ancestry.specs.declared.facts.Facts.{Facts}
use Rattle.vref.specs.Facts.{AreFacts}
use Rattle.vref.specs.Laws.{ListedOnce}
use Rattle.vref.specs.Paths.{DifferTooMuch, IsChanged}
use Rattle.vref.specs.Root.{root_of}
use Rattle.vref.specs.Rows.{Path}
use Rattle.rule_compile.specs.Patterns.{Patterns}
use Rattle.rule_compile.specs.declared.rule.Rule.{Rule}
use Rattle.access_check.specs.Users.{Asked}
use Rattle.access_check.specs.Verdicts.{decide, holds_vref}
use Rattle.access_check.specs.declared.letters.Letter.{Letter}
use Rattle.access_check.specs.declared.verdicts.Verdict.{Verdict}
use Rattle.access_check.specs.declared.verdicts.Verdict.TheVariants.{Allowed, DeniedBy, Fallthru}
use Rattle.access_check.specs.declared.verdicts.Vref.TheVariants.{Name, MergeCheck}
use Rattle.update_check.specs.Laws.{IsAllowed, IsNotDenied, LetsBeMade}
use Rattle.update_check.specs.Rules.{AreChanges, RulesSay, Says, SaysIf, by_ref, by_virtual, letter_for, merge_check_name, path_name, said_of_changes, said_of_merge, said_of_paths, said_of_ref, said_of_virtual}
use Rattle.update_check.specs.Table.{First, Counts, Passes}
use Rattle.update_check.specs.declared.refusal.Refusal.{Refusal}
use Rattle.update_check.specs.declared.refusal.Refusal.TheVariants.{Denied}

-- ---- tables

first_none : {Row Behind : Option Refusal → Type 0} → First Row Behind None → Row None × Behind None
first_none (Passes found row behind) = (row, behind)

-- where a row has none, what is found is behind it
first_behind : {Row Behind : Option Refusal → Type 0} → ((outcome : Refusal) → ¬ Row (Some outcome)) → (found : Option Refusal) → First Row Behind found → Behind found
first_behind never found (Counts outcome row) = absurd (never outcome row)
first_behind never found (Passes f row behind) = behind

first_one : {Row Behind : Option Refusal → Type 0} → ((a b : Option Refusal) → Row a → Row b → a ≡ b) → ((a b : Option Refusal) → Behind a → Behind b → a ≡ b)
    → (a b : Option Refusal) → First Row Behind a → First Row Behind b → a ≡ b
first_one rows behinds a b (Counts x p) (Counts y q) = rows (Some x) (Some y) p q
first_one rows behinds a b (Counts x p) (Passes f row behind) = let clash : Some x ≡ None = rows (Some x) None p row in absurd cc
first_one rows behinds a b (Passes f row behind) (Counts y q) = let clash : Some y ≡ None = rows (Some y) None q row in absurd cc
first_one rows behinds a b (Passes f row behind) (Passes g other later) = behinds f g behind later

-- what a row or what is behind it has
first_some : {Row Behind : Option Refusal → Type 0} → (outcome : Refusal) → First Row Behind (Some outcome) → Row (Some outcome) ⊎ Behind (Some outcome)
first_some outcome (Counts o row) = inl row
first_some outcome (Passes f row behind) = inr behind

or_cases : (first rest : Option Refusal) (outcome : Refusal) → Some outcome ≡ option_or first rest → (Some outcome ≡ first) ⊎ (Some outcome ≡ rest)
or_cases None rest outcome is = inr is
or_cases (Some x) rest outcome is = inl is

-- ---- verdicts

allowed_by : (letter : Letter) (name : List ℕ) (v : Verdict) → None ≡ by_ref letter name v → IsAllowed v
allowed_by letter name (Allowed seq) is = (seq, refl)
allowed_by letter name (DeniedBy seq) is = absurd cc
allowed_by letter name Fallthru is = absurd cc

not_denied_by : (letter : Letter) (name : List ℕ) (v : Verdict) → None ≡ by_virtual letter name v → IsNotDenied v
not_denied_by letter name (Allowed seq) is = λ other same. absurd cc
not_denied_by letter name (DeniedBy seq) is = absurd cc
not_denied_by letter name Fallthru is = λ other same. absurd cc

ref_passes : (letter : Letter) (name : List ℕ) (v : Verdict) → IsAllowed v → by_ref letter name v ≡ None
ref_passes letter name v allowed = ap (by_ref letter name) allowed.1

virtual_passes : (letter : Letter) (name : List ℕ) (v : Verdict) → IsNotDenied v → by_virtual letter name v ≡ None
virtual_passes letter name (Allowed seq) not = refl
virtual_passes letter name (DeniedBy seq) not = absurd (not seq refl)
virtual_passes letter name Fallthru not = refl

-- a denial's verdict, letter and name
record IsOf (v : Verdict) (letter : Letter) (name : List ℕ) (verdict : Verdict) (needed : Letter) (asked : List ℕ) : Type 0 where
  verdict_is : v ≡ verdict
  letter_is : letter ≡ needed
  name_is : name ≡ asked

denial_is : (v verdict : Verdict) (letter needed : Letter) (name asked : List ℕ) → Some (Denied v letter name) ≡ Some (Denied verdict needed asked) → IsOf v letter name verdict needed asked
denial_is v verdict letter needed name asked is = record { verdict_is = cc; letter_is = cc; name_is = cc }

denied_ref : (v : Verdict) (letter needed : Letter) (name asked : List ℕ) (verdict : Verdict) → Some (Denied v letter name) ≡ by_ref needed asked verdict → IsOf v letter name verdict needed asked
denied_ref v letter needed name asked (Allowed seq) is = absurd cc
denied_ref v letter needed name asked (DeniedBy seq) is = denial_is v (DeniedBy seq) letter needed name asked is
denied_ref v letter needed name asked Fallthru is = denial_is v Fallthru letter needed name asked is

record IsByRule (v : Verdict) (letter : Letter) (name : List ℕ) (verdict : Verdict) (needed : Letter) (asked : List ℕ) : Type 0 where
  of : IsOf v letter name verdict needed asked
  by_rule : ¬ (v ≡ Fallthru)

denied_virtual : (v : Verdict) (letter needed : Letter) (name asked : List ℕ) (verdict : Verdict) → Some (Denied v letter name) ≡ by_virtual needed asked verdict → IsByRule v letter name verdict needed asked
denied_virtual v letter needed name asked (Allowed seq) is = absurd cc
denied_virtual v letter needed name asked (DeniedBy seq) is =
    let of : IsOf v letter name (DeniedBy seq) needed asked = denial_is v (DeniedBy seq) letter needed name asked is in
    record { of = of; by_rule = λ fell. let clash : DeniedBy seq ≡ Fallthru = sym of.verdict_is ∙ fell in absurd cc }
denied_virtual v letter needed name asked Fallthru is = absurd cc

-- ---- facts

same_truth : (a b : Bool) → (IsTrue a → IsTrue b) → (IsTrue b → IsTrue a) → a ≡ b
same_truth true true f g = refl
same_truth true false f g = sym (f refl)
same_truth false true f g = g refl
same_truth false false f g = refl

abbrev facts_of : Change → Bool → Bool → Bool → Bool → Facts
facts_of change tag commits forward merge = record { change = change; tag = tag; commits = commits; forward = forward; merge = merge }

same_facts : (f g : Facts) → f.change ≡ g.change → f.tag ≡ g.tag → f.commits ≡ g.commits → f.forward ≡ g.forward → f.merge ≡ g.merge → f ≡ g
same_facts f g change tag commits forward merge =
    ap (λ (c : Change). facts_of c f.tag f.commits f.forward f.merge) change
    ∙ ap (λ t. facts_of g.change t f.commits f.forward f.merge) tag
    ∙ ap (λ c. facts_of g.change g.tag c f.forward f.merge) commits
    ∙ ap (λ w. facts_of g.change g.tag g.commits w f.merge) forward
    ∙ ap (λ m. facts_of g.change g.tag g.commits g.forward m) merge

pub facts_one : (objects : List Content) (name : List ℕ) (old new : ObjectId) (f g : Facts) → AreFacts objects name old new f → AreFacts objects name old new g → f ≡ g
facts_one objects name old new f g a b =
    same_facts f g (a.change ∙ sym b.change) (a.tag ∙ sym b.tag) (a.commits ∙ sym b.commits)
    (same_truth f.forward g.forward (λ is. b.forward.1 (a.forward.0 is)) (λ is. a.forward.1 (b.forward.0 is)))
    (same_truth f.merge g.merge (λ is. b.merge.1 (a.merge.0 is)) (λ is. a.merge.1 (b.merge.0 is)))

-- ---- the rows

same_option : (o : Option Refusal) (a b : Option Refusal) → a ≡ o → b ≡ o → a ≡ b
same_option o a b first second = first ∙ sym second

module _ (patterns : Patterns) (rules : List Rule) (a : Asked) (objects : List Content) (change : Command) where
  abbrev Changed : Path → Type 0
  Changed = IsChanged objects (root_of objects change.old) (root_of objects change.new)

  changes_one : ListedOnce → (one other : Option (List Path)) → AreChanges objects change.old change.new one → AreChanges objects change.old change.new other → one ≡ other
  changes_one once None None p q = refl
  changes_one once None (Some paths) p q = absurd (q.0 p)
  changes_one once (Some paths) None p q = absurd (p.0 q)
  changes_one once (Some paths) (Some others) p q = ap Some (once objects (root_of objects change.old) (root_of objects change.new) paths others p.1 q.1)

  says_if_one : ListedOnce → (letter : Letter) (b : Bool) (f g : Option Refusal) → SaysIf patterns rules a b objects letter change f → SaysIf patterns rules a b objects letter change g → f ≡ g
  says_if_one once letter false f g p q = p ∙ sym q
  says_if_one once letter true f g p q = p.2 ∙ ap (said_of_changes patterns rules a letter) (changes_one once p.0 q.0 p.1 q.1) ∙ sym q.2

  says_one : ListedOnce → (facts : Facts) (f g : Option Refusal) → Says patterns rules a objects facts change f → Says patterns rules a objects facts change g → f ≡ g
  says_one once facts =
      first_one (same_option (said_of_ref patterns rules a (letter_for patterns rules a facts) change.name))
      (first_one (same_option (said_of_merge patterns rules a (letter_for patterns rules a facts) facts.merge change.name))
      (first_one (says_if_one once (letter_for patterns rules a facts) (holds_vref patterns rules a Name))
      (same_option None)))

  pub said_once : ListedOnce → (f g : Option Refusal) → RulesSay patterns rules a objects change f → RulesSay patterns rules a objects change g → f ≡ g
  said_once once f g p q =
      says_one once p.0 f g p.2
      (subst (λ (facts : Facts). Says patterns rules a objects facts change g) (facts_one objects change.name change.old change.new q.0 p.0 q.1 p.1) q.2)

  -- what the rules say by these facts
  pub by_facts : (facts : Facts) → AreFacts objects change.name change.old change.new facts → (found : Option Refusal) → RulesSay patterns rules a objects change found → Says patterns rules a objects facts change found
  by_facts facts are found says = subst (λ (f : Facts). Says patterns rules a objects f change found) (facts_one objects change.name change.old change.new says.0 facts says.1 are) says.2

  -- ---- nothing is said

  module _ (letter : Letter) where
    verdict_on : List ℕ → Verdict
    verdict_on name = decide patterns rules a letter name

    merge_passes : (holds merge : Bool) (said : Option Refusal) → None ≡ (if holds && merge then said else None) → IsTrue holds → IsTrue merge → None ≡ said
    merge_passes true true said is h m = is
    merge_passes true false said is h m = absurd cc
    merge_passes false merge said is h m = absurd cc

    rest_passes : (first rest : Option Refusal) → None ≡ option_or first rest → (None ≡ first) × (None ≡ rest)
    rest_passes None rest is = (refl, is)
    rest_passes (Some x) rest is = absurd cc

    each_passes : (paths : List Path) → None ≡ said_of_paths patterns rules a letter paths → (path : Path) → Contains paths path → IsNotDenied (decide patterns rules a letter (path_name path))
    each_passes [] is path c = absurd (contains_none path c)
    each_passes (p ∷ paths) is path c =
        let both = rest_passes (said_of_virtual patterns rules a letter (path_name p)) (said_of_paths patterns rules a letter paths) is in
        elim (contains_cases p paths path c) [
          | inl here ↦ subst (λ (q : Path). IsNotDenied (decide patterns rules a letter (path_name q))) here (not_denied_by letter (path_name p) (decide patterns rules a letter (path_name p)) both.0)
          | inr there ↦ each_passes paths both.1 path there
        ]

    -- each of these paths, and nothing else, is said nothing of
    all_pass : (paths : List Path) → ((path : Path) → Contains paths path → IsNotDenied (decide patterns rules a letter (path_name path))) → said_of_paths patterns rules a letter paths ≡ None
    all_pass [] not = refl
    all_pass (p ∷ paths) not =
        ap (λ o. option_or o (said_of_paths patterns rules a letter paths)) (virtual_passes letter (path_name p) (decide patterns rules a letter (path_name p)) (not p (contains_here p paths)))
        ∙ all_pass paths (λ path c. not path (contains_there p paths path c))

    merge_let : (holds merge : Bool) (said : Option Refusal) → (IsTrue holds → IsTrue merge → said ≡ None) → (if holds && merge then said else None) ≡ None
    merge_let true true said is = is refl refl
    merge_let true false said is = refl
    merge_let false merge said is = refl

    paths_if : (b : Bool) → SaysIf patterns rules a b objects letter change None → IsTrue b
        → (¬ DifferTooMuch objects (root_of objects change.old) (root_of objects change.new)) × ((path : Path) → Changed path → IsNotDenied (decide patterns rules a letter (path_name path)))
    paths_if false says h = absurd cc
    paths_if true (None, are, is) h = absurd cc
    paths_if true (Some paths, are, is) h = (are.0, λ path changed. each_passes paths is path ((are.1.are_those path).1 changed))

    paths_let : (b : Bool) → (IsTrue b → ¬ DifferTooMuch objects (root_of objects change.old) (root_of objects change.new))
        → (IsTrue b → (path : Path) → Changed path → IsNotDenied (decide patterns rules a letter (path_name path)))
        → (found : Option Refusal) → SaysIf patterns rules a b objects letter change found → found ≡ None
    paths_let false few not found says = says
    paths_let true few not found (None, are, is) = absurd (few refl are)
    paths_let true few not found (Some paths, are, is) = is ∙ all_pass paths (λ path c. not refl path ((are.1.are_those path).0 c))

  pub let_made : (facts : Facts) → AreFacts objects change.name change.old change.new facts → RulesSay patterns rules a objects change None → LetsBeMade patterns rules a objects change facts
  let_made facts are says =
      let letter = letter_for patterns rules a facts in
      let ref = first_none (by_facts facts are None says) in
      let merge = first_none ref.1 in
      let paths = first_none merge.1 in
      record {
        ref = allowed_by letter change.name (decide patterns rules a letter change.name) ref.0;
        merge = λ holds brings.
            not_denied_by letter (merge_check_name change.name) (decide patterns rules a letter (merge_check_name change.name))
            (merge_passes letter (holds_vref patterns rules a MergeCheck) facts.merge (said_of_virtual patterns rules a letter (merge_check_name change.name)) merge.0 holds brings);
        few = λ asks. (paths_if letter (holds_vref patterns rules a Name) paths.0 asks).0;
        paths = λ asks. (paths_if letter (holds_vref patterns rules a Name) paths.0 asks).1;
      }

  pub none_said : (facts : Facts) → AreFacts objects change.name change.old change.new facts → LetsBeMade patterns rules a objects change facts
      → (found : Option Refusal) → RulesSay patterns rules a objects change found → found ≡ None
  none_said facts are made found says =
      let letter = letter_for patterns rules a facts in
      let behind_ref = first_behind (λ outcome is. let clash : Some outcome ≡ None = is ∙ ref_passes letter change.name (decide patterns rules a letter change.name) made.ref in absurd cc) found (by_facts facts are found says) in
      let behind_merge = first_behind (λ outcome is.
      let clash : Some outcome ≡ None =
      is
      ∙ merge_let letter (holds_vref patterns rules a MergeCheck) facts.merge (said_of_virtual patterns rules a letter (merge_check_name change.name))
      (λ holds brings. virtual_passes letter (merge_check_name change.name) (decide patterns rules a letter (merge_check_name change.name)) (made.merge holds brings)) in
      absurd cc) found behind_ref in
      first_behind (λ outcome is.
      let clash : Some outcome ≡ None = paths_let letter (holds_vref patterns rules a Name) made.few made.paths (Some outcome) is in
      absurd cc) found behind_merge

  -- ---- denials

  pub record IsDenial (facts : Facts) (v : Verdict) (letter : Letter) (name : List ℕ) : Type 0 where
    pub verdict_is : v ≡ decide patterns rules a letter name
    pub letter_is : letter ≡ letter_for patterns rules a facts
    pub name_is : v ≡ Fallthru → name ≡ change.name

  of_verdict : (v : Verdict) (letter needed : Letter) (name asked : List ℕ) → IsOf v letter name (decide patterns rules a needed asked) needed asked → v ≡ decide patterns rules a letter name
  of_verdict v letter needed name asked of = of.verdict_is ∙ ap (λ l. decide patterns rules a l asked) (sym of.letter_is) ∙ ap (decide patterns rules a letter) (sym of.name_is)

  by_rule : (facts : Facts) (v : Verdict) (letter : Letter) (name asked : List ℕ)
      → IsByRule v letter name (decide patterns rules a (letter_for patterns rules a facts) asked) (letter_for patterns rules a facts) asked → IsDenial facts v letter name
  by_rule facts v letter name asked by =
      record {
        verdict_is = of_verdict v letter (letter_for patterns rules a facts) name asked by.of;
        letter_is = by.of.letter_is;
        name_is = λ fell. absurd (by.by_rule fell);
      }

  module _ (facts : Facts) (v : Verdict) (letter : Letter) (name : List ℕ) where
    denied_merge : (holds merge : Bool) (said : Option Refusal) → Some (Denied v letter name) ≡ (if holds && merge then said else None) → Some (Denied v letter name) ≡ said
    denied_merge true true said is = is
    denied_merge true false said is = absurd cc
    denied_merge false merge said is = absurd cc

    denied_one : (asked : List ℕ) → Some (Denied v letter name) ≡ said_of_virtual patterns rules a (letter_for patterns rules a facts) asked → IsDenial facts v letter name
    denied_one asked is =
        by_rule facts v letter name asked (denied_virtual v letter (letter_for patterns rules a facts) name asked (decide patterns rules a (letter_for patterns rules a facts) asked) is)

    denied_path : (paths : List Path) → Some (Denied v letter name) ≡ said_of_paths patterns rules a (letter_for patterns rules a facts) paths → IsDenial facts v letter name
    denied_path [] is = absurd cc
    denied_path (p ∷ paths) is = elim (or_cases (said_of_virtual patterns rules a (letter_for patterns rules a facts) (path_name p)) (said_of_paths patterns rules a (letter_for patterns rules a facts) paths) (Denied v letter name) is) [
      | inl first ↦ denied_one (path_name p) first
      | inr rest ↦ denied_path paths rest
    ]

    denied_if : (b : Bool) → SaysIf patterns rules a b objects (letter_for patterns rules a facts) change (Some (Denied v letter name)) → IsDenial facts v letter name
    denied_if false says = absurd cc
    denied_if true (None, are, is) = absurd cc
    denied_if true (Some paths, are, is) = denied_path paths is

    denied_ref_itself : Some (Denied v letter name) ≡ said_of_ref patterns rules a (letter_for patterns rules a facts) change.name → IsDenial facts v letter name
    denied_ref_itself is =
        let of = denied_ref v letter (letter_for patterns rules a facts) name change.name (decide patterns rules a (letter_for patterns rules a facts) change.name) is in
        record { verdict_is = of_verdict v letter (letter_for patterns rules a facts) name change.name of; letter_is = of.letter_is; name_is = λ fell. of.name_is }

    pub denial : Says patterns rules a objects facts change (Some (Denied v letter name)) → IsDenial facts v letter name
    denial says = elim (first_some (Denied v letter name) says) [
      | inl ref ↦ denied_ref_itself ref
      | inr behind ↦ elim (first_some (Denied v letter name) behind) [
        | inl merge ↦ denied_one (merge_check_name change.name) (denied_merge (holds_vref patterns rules a MergeCheck) facts.merge (said_of_virtual patterns rules a (letter_for patterns rules a facts) (merge_check_name change.name)) merge)
        | inr later ↦ elim (first_some (Denied v letter name) later) [
          | inl paths ↦ denied_if (holds_vref patterns rules a Name) paths
          | inr none ↦ let clash : Some (Denied v letter name) ≡ None = none in absurd cc
        ]
      ]
    ]
