-- The texts of patterns in what a conf comes to are patterns. It serves private functions alone.
use Rattle.std.specs.Prelude.{ℕ, List}
use Rattle.std.specs.List.{AllByRecursion}
use Rattle.refex.specs.Pattern.{Pattern}
use Rattle.refex.specs.Refex.{IsRefex}
use Rattle.refex.specs.declared.faults.Hole.{Hole}
use Rattle.refex.specs.declared.faults.Hole.TheVariants.{Creator, User}
use Rattle.rule_compile.specs.Flat.{Flat}
use Rattle.rule_compile.specs.Index.{AreNumbered}
use Rattle.rule_compile.specs.declared.rule.OptionLine.{OptionLine}
use Rattle.rule_compile.specs.declared.rule.RepoWord.{RepoWord}
use Rattle.rule_compile.specs.declared.rule.RepoWord.TheVariants as repo
use Rattle.rule_compile.specs.declared.rule.Rule as declared

-- the text is a pattern
abbrev pub IsRefexText : Hole → List ℕ → Type 0
IsRefexText hole text = (p : Pattern) × IsRefex hole text p

abbrev pub IsSoundWord : RepoWord → Type 0
IsSoundWord (repo.Plain name) = Unit {0}
IsSoundWord repo.All = Unit {0}
IsSoundWord (repo.Pattern text) = IsRefexText Creator text

abbrev pub AreSoundWords : List RepoWord → Type 0
AreSoundWords words = AllByRecursion IsSoundWord words

abbrev pub IsSoundRule : declared.Rule → Type 0
IsSoundRule rule = IsSoundWord rule.repo × IsRefexText User rule.refex

abbrev pub IsSoundOption : OptionLine → Type 0
IsSoundOption line = AreSoundWords line.repos

pub record IsSound (flat : Flat) : Type 0 where
  pub numbered : AreNumbered flat.rules
  pub rules : AllByRecursion IsSoundRule flat.rules
  pub options : AllByRecursion IsSoundOption flat.options
