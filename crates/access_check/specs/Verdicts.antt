-- Which rule decides: the first of the flat list that meets the test of a question.
use Rattle.std.specs.Prelude.{ℕ, List, Bool, ◌&&◌, ◌||◌, find, codes, Option, Some, None, if◌then◌else◌}
use Rattle.std.specs.List.{list_any}
use Rattle.conf_lex.specs.declared.perm.Perm.{Perm}
use Rattle.rule_compile.specs.Covering.{covers_repo, deny_rules, is_pattern_word}
use Rattle.rule_compile.specs.Flat.{Flat, numbered}
use Rattle.rule_compile.specs.Patterns.{Patterns}
use Rattle.rule_compile.specs.Words.{is_vref}
use Rattle.rule_compile.specs.declared.rule.Rule.{Rule}
use Rattle.access_check.specs.Letters.{grants}
use Rattle.access_check.specs.Users.{Asked, asked_unborn, covers_user}
use Rattle.access_check.specs.declared.letters.Letter.{Letter}
use Rattle.access_check.specs.declared.verdicts.Verdict.{Verdict}
use Rattle.access_check.specs.declared.verdicts.Verdict.TheVariants.{Allowed, DeniedBy, Fallthru}
use Rattle.access_check.specs.declared.verdicts.Vref.{Vref}
use Rattle.access_check.specs.declared.verdicts.Vref.TheVariants as vref
use Rattle.access_check.specs.declared.verdicts.Want.{Want}
use Rattle.access_check.specs.declared.verdicts.Want.TheVariants.{Read, Write}

-- a rule is for the repository and for the user
abbrev pub covers : Patterns → Asked → Rule → Bool
covers patterns a rule = covers_repo patterns rule.repo a.repo a.creator && covers_user a rule.user

-- A `-` rule denies, and every other rule that decides allows. Where none decides, the question falls
-- through.
abbrev pub verdict_of : Option Rule → Verdict
verdict_of None = Fallthru
verdict_of (Some rule) = if rule.perm.deny then DeniedBy rule.seq else Allowed rule.seq

-- the rule that a verdict names
abbrev pub rule_of : List Rule → Verdict → Option Rule
rule_of rules (Allowed seq) = numbered rules seq
rule_of rules (DeniedBy seq) = numbered rules seq
rule_of rules Fallthru = None

-- ---- a change of a ref, or of a virtual ref

-- a rule for the repository and the user whose refex matches the ref from its start, and which is `-` or
-- grants the letter
abbrev pub decides : Patterns → Asked → Letter → List ℕ → Rule → Bool
decides patterns a letter name rule = covers patterns a rule && (patterns.starts rule.refex a.user name && (rule.perm.deny || grants rule.perm letter))

abbrev pub decide : Patterns → List Rule → Asked → Letter → List ℕ → Verdict
decide patterns rules a letter name = verdict_of (find (decides patterns a letter name) rules)

-- ---- the first stage

-- There is no ref yet, so every refex counts as matching, and `-` rules count under the option `deny-rules`
-- alone.

-- a permission grants reading or writing as such
abbrev pub opens : Perm → Want → Bool
opens perm Read = perm.read
opens perm Write = perm.write

-- whether `-` rules count
abbrev pub deny_rules_count : Patterns → Flat → Asked → Bool
deny_rules_count patterns flat a = deny_rules patterns flat.options a.repo a.creator

-- a rule for the repository and the user that is `-`, where those count, or grants what is wanted
abbrev pub opening_decides : Patterns → Asked → Bool → Want → Rule → Bool
opening_decides patterns a deny_counts want rule = covers patterns a rule && (if rule.perm.deny then deny_counts else opens rule.perm want)

abbrev pub first_stage : Patterns → Flat → Asked → Want → Verdict
first_stage patterns flat a want = verdict_of (find (opening_decides patterns a (deny_rules_count patterns flat a) want) flat.rules)

-- the first stage of a repository that isn't there
abbrev pub unborn_stage : Patterns → Flat → List ℕ → List ℕ → Want → Verdict
unborn_stage patterns flat repo asker want = first_stage patterns flat (asked_unborn patterns flat repo asker) want

-- `C` alone lets repositories be created whose names a pattern matches
abbrev pub creates : Rule → Bool
creates rule = rule.perm.lone_create && is_pattern_word rule.repo

abbrev pub creating_decides : Patterns → Asked → Bool → Rule → Bool
creating_decides patterns a deny_counts rule = covers patterns a rule && (if rule.perm.deny then deny_counts else creates rule)

-- the first stage in which nothing else grants
abbrev pub creating_stage : Patterns → Flat → Asked → Verdict
creating_stage patterns flat a = verdict_of (find (creating_decides patterns a (deny_rules_count patterns flat a)) flat.rules)

abbrev pub may_create : Patterns → Flat → List ℕ → List ℕ → Verdict
may_create patterns flat repo asker = creating_stage patterns flat (asked_unborn patterns flat repo asker)

-- ---- virtual refs

abbrev pub is_of_vref : Vref → List ℕ → Bool
is_of_vref vref.Name refex = is_vref (codes "VREF/NAME") refex
is_of_vref vref.MergeCheck refex = is_vref (codes "VREF/MERGE-CHECK") refex

-- a rule for the repository and the user has a refex of the virtual ref
abbrev pub asks_vref : Patterns → Asked → Vref → Rule → Bool
asks_vref patterns a which rule = covers patterns a rule && is_of_vref which rule.refex

-- Some rule does, so the virtual ref is asked.
abbrev pub holds_vref : Patterns → List Rule → Asked → Vref → Bool
holds_vref patterns rules a which = list_any (asks_vref patterns a which) rules
