-- What rows tell of one command, and of all so far.
use Rattle.std.proofs.Common.{◌≡◌, ℕ, zero, suc, ◌+◌, ◌<◌, ◌≤◌, Bool, true, false, ◌&&◌, List, [], ◌∷◌, ◌++◌, take, length, get_or, refl, sym, ◌∙◌, ap, arith, subst}
use Rattle.std.specs.Prelude.{Option, Some, None, if◌then◌else◌, Result, Ok, Err, IfOk}
use Rattle.base_types.specs.declared.no_memory.NoMemory.{NoMemory}
use Rattle.push_judging.specs.declared.rows.JudgedCommand.{JudgedCommand}
use Rattle.std.specs.List.{AllZip}
use Rattle.std.proofs.lemmas.List.{take_more}
use Rattle.git_object.specs.Content.{Content}
use Rattle.git_object.specs.declared.object_id.ObjectId.{ObjectId}
use Rattle.conf_lex.specs.declared.fault.LexFault.TheVariants as lex
use Rattle.conf_groups.specs.Splicing.{HasPlace}
use Rattle.conf_groups.specs.declared.conf_file.ConfFile.{ConfFile}
use Rattle.conf_groups.specs.declared.fault.ConfFault.{ConfFault}
use Rattle.conf_groups.specs.declared.fault.ConfKind.{ConfKind}
use Rattle.conf_groups.specs.declared.fault.ConfKind.TheVariants as kind
use Rattle.ref_store.specs.declared.command.Command.{Command}
use Rattle.rule_compile.specs.Answers.{GivesSplicing}
use Rattle.rule_compile.specs.Flat.{Flat}
use Rattle.rule_compile.specs.Patterns.{AreTrue, Patterns}
use Rattle.rule_compile.specs.declared.fault.PolicyFault.{PolicyFault}
use Rattle.rule_compile.specs.declared.fault.PolicyFault.TheVariants.{Splicing, Rules}
use Rattle.rule_compile.specs.declared.fault.RuleFault.{RuleFault}
use Rattle.access_check.specs.Users.{Asked}
use Rattle.policy_swap.specs.Compile.{TellsOfPolicy, flat_of}
use Rattle.policy_swap.specs.Conf.{conf_tree}
use Rattle.policy_swap.specs.Laws.{IsOfConf}
use Rattle.update_check.specs.Check.{CheckView}
use Rattle.update_check.specs.Rules.{RulesSay}
use Rattle.update_check.specs.Table.{Counts, End, First, Passes}
use Rattle.hub_history.specs.declared.outcome.Outcome.{Outcome}
use Rattle.hub_history.specs.Conf.{ComesTo}
use Rattle.hub_history.specs.Opening.{Pinned, pinned_in_force}
use Rattle.hub_history.specs.Push.{ByRules, ByRulesNow, Judges, is_named_twice, is_of_conf}
use Rattle.hub_history.specs.State.{Conf, InForce}
use Rattle.push_judging.specs.Judged.{conf_at, conf_of, confs_of}
use Rattle.push_judging.specs.Rows.{IsCheckOf, SaysByRules, SaysNow, Tells, is_memory, is_no_memory}

-- ---- the conf at a commit

-- a fault that has a place is the one that is due
splicing_due : (k : ConfKind) (e : ConfFault) (due : Result Flat PolicyFault) → is_memory k ≡ false → GivesSplicing k e due → HasPlace k × (due ≡ Err (Splicing e))
splicing_due kind.NoMemory e due free gives = absurd cc
splicing_due (kind.NoFile name) e due free gives = (tt, gives)
splicing_due (kind.Lex lex.NoMemory) e due free gives = absurd gives
splicing_due (kind.Lex lex.NotAStatement) e due free gives = (tt, gives)
splicing_due (kind.Lex lex.BadPermission) e due free gives = (tt, gives)
splicing_due (kind.Lex (lex.BadWord at)) e due free gives = (tt, gives)
splicing_due kind.TooLong e due free gives = (tt, gives)
splicing_due kind.SubconfInSubconf e due free gives = (tt, gives)

module _ (ps : Patterns) where
  files_due : (conf : Result (List ConfFile) ConfFault) (p : Flat) → flat_of ps conf ≡ Ok p → IsOfConf conf
  files_due (Ok files) p is = tt
  files_due (Err e) p is = absurd cc

  rules_due : (conf : Result (List ConfFile) ConfFault) (e : RuleFault) → flat_of ps conf ≡ Err (Rules e) → IsOfConf conf
  rules_due (Ok files) e is = tt
  rules_due (Err f) e is = absurd cc

  spliced_due : (conf : Result (List ConfFile) ConfFault) (e : ConfFault) → HasPlace e.kind → flat_of ps conf ≡ Err (Splicing e) → IsOfConf conf
  spliced_due (Ok files) e place is = tt
  spliced_due (Err f) e place is = let same : f ≡ e = cc in subst (λ (x : ConfFault). HasPlace x.kind) (sym same) place

  module _ (ok : AreTrue ps) (objects : List Content) (commit : ObjectId) where
    pub comes_good : (p : Flat) → TellsOfPolicy objects (conf_tree objects commit) (Ok p) → ComesTo ps objects commit (Ok p)
    comes_good p tells = (tells.0, tells.1, files_due tells.0 p (tells.2 ps ok), sym (tells.2 ps ok))

    pub comes_bad : (fault : PolicyFault) → is_no_memory fault ≡ false → TellsOfPolicy objects (conf_tree objects commit) (Err fault) → ComesTo ps objects commit (Err fault)
    comes_bad (Rules e) free tells = (tells.0, tells.1, rules_due tells.0 e (tells.2 ps ok), sym (tells.2 ps ok))
    comes_bad (Splicing e) free tells =
        let due = splicing_due e.kind e (flat_of ps tells.0) free (tells.2 ps ok) in
        (tells.0, tells.1, spliced_due tells.0 e due.0 due.1, sym due.1)

-- ---- rows

and_false : (b : Bool) → (b && false) ≡ false
and_false true = refl
and_false false = refl

-- a command that is refused puts no conf in force
pub conf_refused : (pinned : Pinned) (pack : List Content) (c : Command) (o : Outcome) → conf_of pinned pack c (Some o) ≡ None
conf_refused pinned pack c o = ap (λ (b : Bool). if b then Some (conf_at pinned pack c) else None) (and_false (is_of_conf pinned.repo c.name))

-- nor does one for another ref
pub conf_elsewhere : (pinned : Pinned) (pack : List Content) (c : Command) → is_of_conf pinned.repo c.name ≡ false → conf_of pinned pack c None ≡ None
conf_elsewhere pinned pack c other = ap (λ (b : Bool). if b && true then Some (conf_at pinned pack c) else None) other

pub conf_there : (pinned : Pinned) (pack : List Content) (c : Command) → is_of_conf pinned.repo c.name ≡ true → conf_of pinned pack c None ≡ Some (conf_at pinned pack c)
conf_there pinned pack c there = ap (λ (b : Bool). if b && true then Some (conf_at pinned pack c) else None) there

-- what a check says is what the rules say that were in force
pub by_check : (ps : Patterns) (ok : AreTrue ps) (pinned : Pinned) (check : CheckView) (objects : List Content) (c : Command) (said : Option Outcome) → IsCheckOf (pinned_in_force pinned) pinned check → SaysByRules ps check objects c said → ByRules ps pinned objects c said
by_check ps ok pinned check objects c said is says =
    (check.flat, says.0, is.rules ps ok, subst (λ (a : Asked). RulesSay ps check.flat.rules a objects c says.0) (is.asks ps) says.1, says.2)

pub by_check_now : (ps : Patterns) (ok : AreTrue ps) (force : InForce) (pinned : Pinned) (check : CheckView) (objects : List Content) (c : Command) (said : Option Outcome) → IsCheckOf force pinned check → SaysNow ps check objects c said
    → ByRulesNow ps force pinned objects c said
by_check_now ps ok force pinned check objects c said is says =
    (check.flat, says.0, is.rules ps ok, subst (λ (a : Asked). RulesSay ps check.flat.rules a objects c says.0) (is.asks ps) says.1, says.2)

-- the last row of a table
pub last_row : (Row : Option Outcome → Type 0) (found : Option Outcome) → Row found → First Row End found
last_row Row None row = Passes None row refl
last_row Row (Some o) row = Counts o row

-- what follows of a value follows of a result
pub told_along : (r : Result JudgedCommand NoMemory) (P Q : JudgedCommand → Type 0) → ((t : JudgedCommand) → P t → Q t) → IfOk r P → IfOk r Q
told_along (Ok t) P Q follows p = follows t p
told_along (Err e) P Q follows p = tt

-- ---- all commands

pub take_all : {A : Type 0} (n : ℕ) (xs : List A) → length xs ≤ n → take n xs ≡ xs
take_all zero [] all = refl
take_all (suc n) [] all = refl
take_all zero (x ∷ xs) all = absurd (omega (arith, all))
take_all (suc n) (x ∷ xs) all = ap (λ l. x ∷ l) (take_all n xs (omega (arith, all)))

pub as_many : {A B : Type 0} (R : A → B → Type 0) (xs : List A) (ys : List B) → AllZip R xs ys → length ys ≡ length xs
as_many R [] [] all = refl
as_many R [] (b ∷ ys) all = absurd all
as_many R (a ∷ xs) [] all = absurd all
as_many R (a ∷ xs) (b ∷ ys) all = ap suc (as_many R xs ys all.1)

pub zip_at : {A B : Type 0} (R : A → B → Type 0) (xs : List A) (ys : List B) (i : ℕ) (d : A) (e : B) → AllZip R xs ys → i < length xs → R (get_or xs i d) (get_or ys i e)
zip_at R [] ys i d e all below = absurd (omega (arith, below))
zip_at R (a ∷ xs) [] i d e all below = absurd all
zip_at R (a ∷ xs) (b ∷ ys) zero d e all below = all.0
zip_at R (a ∷ xs) (b ∷ ys) (suc i) d e all below = zip_at R xs ys i d e all.1 (omega (arith, below))

pub all_zip_pushed : {A B : Type 0} (R : A → B → Type 0) (xs : List A) (ys : List B) (x : A) (y : B) → AllZip R xs ys → R x y → AllZip R (xs ++ x ∷ []) (ys ++ y ∷ [])
all_zip_pushed R [] [] x y all here = (here, tt)
all_zip_pushed R [] (b ∷ ys) x y all here = absurd all
all_zip_pushed R (a ∷ xs) [] x y all here = absurd all
all_zip_pushed R (a ∷ xs) (b ∷ ys) x y all here = (all.0, all_zip_pushed R xs ys x y all.1 here)

-- one command more
pub judged_more : (ps : Patterns) (pinned : Pinned) (pack : List Content) (cs : List Command) (told : List (Option Outcome)) (i : ℕ) (c : Command) (o : Option Outcome) → i < length cs → c ≡ get_or cs i c
    → AllZip (Judges ps pinned pack cs) (take i cs) told → Tells ps pinned pack (is_named_twice cs c.name) c o → AllZip (Judges ps pinned pack cs) (take (i + 1) cs) (told ++ o ∷ [])
judged_more ps pinned pack cs told i c o below is all here =
    subst (λ (l : List Command). AllZip (Judges ps pinned pack cs) l (told ++ o ∷ [])) (sym (take_more cs i c below ∙ ap (λ (d : Command). take i cs ++ d ∷ []) (sym is)))
    (all_zip_pushed (Judges ps pinned pack cs) (take i cs) told c o all here)

pub confs_more : (pinned : Pinned) (pack : List Content) (cs : List Command) (told : List (Option Outcome)) (c : Command) (o : Option Outcome) → length cs ≡ length told
    → confs_of pinned pack (cs ++ c ∷ []) (told ++ o ∷ []) ≡ confs_of pinned pack cs told ++ conf_of pinned pack c o ∷ []
confs_more pinned pack [] [] c o alike = refl
confs_more pinned pack [] (t ∷ told) c o alike = absurd (omega (arith, alike))
confs_more pinned pack (d ∷ cs) [] c o alike = absurd (omega (arith, alike))
confs_more pinned pack (d ∷ cs) (t ∷ told) c o alike = ap (λ (l : List (Option Conf)). conf_of pinned pack d t ∷ l) (confs_more pinned pack cs told c o (omega (arith, alike)))
