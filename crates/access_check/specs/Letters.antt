-- The letter that a change needs, and what a permission grants.
use Rattle.std.specs.Prelude.{ℕ, List, [], ◌++◌, Bool, false, not, ◌&&◌, ◌||◌, codes, Option, if◌then◌else◌}
use Rattle.std.specs.List.{list_any}
use Rattle.ancestry.specs.declared.facts.Change.{Change}
use Rattle.ancestry.specs.declared.facts.Change.TheVariants as change
use Rattle.ancestry.specs.declared.facts.Facts.{Facts}
use Rattle.conf_lex.specs.declared.perm.Perm.{Perm}
use Rattle.rule_compile.specs.Covering.{covers_repo}
use Rattle.rule_compile.specs.Patterns.{Patterns}
use Rattle.rule_compile.specs.declared.rule.Rule.{Rule}
use Rattle.access_check.specs.declared.letters.Base.{Base}
use Rattle.access_check.specs.declared.letters.Base.TheVariants.{Write, Rewind, Create, Delete}
use Rattle.access_check.specs.declared.letters.Flags.{Flags}
use Rattle.access_check.specs.declared.letters.Letter.{Letter}

-- ---- the letters in force

-- some rule that covers the repository, whoever its user is, has the letter
abbrev pub some_rule_has : Patterns → List Rule → List ℕ → Option (List ℕ) → (Perm → Bool) → Bool
some_rule_has patterns rules repo creator has_letter = list_any (λ rule. covers_repo patterns rule.repo repo creator && has_letter rule.perm) rules

-- `C`, `D` and `M` after `RW` are in force for a repository where any rule for it has them.
abbrev pub flags_of : Patterns → List Rule → List ℕ → Option (List ℕ) → Flags
flags_of patterns rules repo creator = record {
  create = some_rule_has patterns rules repo creator (λ perm. perm.create);
  delete = some_rule_has patterns rules repo creator (λ perm. perm.delete);
  merge = some_rule_has patterns rules repo creator (λ perm. perm.merge);
}

-- ---- the letter of a change

-- A create needs `C` where that is in force, and else `W`; a delete `D`, and else `+`. A tag, and a ref from
-- or to an object that is no commit, is moved by `+` alone. Every other update needs `W` where it is forward,
-- and else `+`.
abbrev pub base_of : Flags → Change → Facts → Base
base_of flags change.Create facts = if flags.create then Create else Write
base_of flags change.Delete facts = if flags.delete then Delete else Rewind
base_of flags change.Update facts = if not facts.tag && (facts.commits && facts.forward) then Write else Rewind

-- An update that brings a merge needs `M` too, where that is in force.
abbrev pub needs_merge : Flags → Change → Facts → Bool
needs_merge flags change.Create facts = false
needs_merge flags change.Delete facts = false
needs_merge flags change.Update facts = flags.merge && facts.merge

abbrev pub letter_of : Flags → Facts → Letter
letter_of flags facts = record { base = base_of flags facts.change facts; merge = needs_merge flags facts.change facts }

-- ---- what a permission grants

abbrev pub has_base : Perm → Base → Bool
has_base perm Write = perm.write
has_base perm Rewind = perm.rewind
has_base perm Create = perm.create
has_base perm Delete = perm.delete

-- A permission other than `-` grants a letter that it has, one with `M` where it has that too.
abbrev pub grants : Perm → Letter → Bool
grants perm letter = not perm.deny && (has_base perm letter.base && (not letter.merge || perm.merge))

-- ---- texts

abbrev pub base_text : Base → List ℕ
base_text Write = codes "W"
base_text Rewind = codes "+"
base_text Create = codes "C"
base_text Delete = codes "D"

abbrev pub letter_text : Letter → List ℕ
letter_text letter = base_text letter.base ++ (if letter.merge then codes "M" else [])
