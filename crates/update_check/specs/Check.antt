-- A check of changes, as contracts see it.
use Rattle.std.specs.Prelude.{◌≡◌, ℕ, Bool, List}
use Rattle.git_object.specs.Content.{Content}
use Rattle.rule_compile.specs.Patterns.{AreTrue, Patterns}
use Rattle.rule_compile.specs.Flat.{Flat}
use Rattle.access_check.specs.Letters.{flags_of}
use Rattle.access_check.specs.Users.{Asked, asked}
use Rattle.access_check.specs.Verdicts.{holds_vref}
use Rattle.wild_perms.specs.Roles.{WildView}
use Rattle.access_check.specs.declared.letters.Flags.{Flags}
use Rattle.access_check.specs.declared.verdicts.Vref.TheVariants.{Name, MergeCheck}

-- the rules, who asks of which repository, which has this creator and these roles, and the objects
pub record CheckView : Type 0 where
  pub flat : Flat
  pub wild : WildView
  pub repo : List ℕ
  pub user : List ℕ
  pub objects : List Content

abbrev pub asked_by : Patterns → CheckView → Asked
asked_by patterns check = asked patterns check.flat check.wild check.repo check.user

-- What is found once for all changes: the letters in force, and which virtual refs are asked. It serves
-- private fields alone.
pub record IsFoundOf (flat : Flat) (wild : WildView) (repo user : List ℕ) (flags : Flags) (asks_merge_check asks_paths : Bool) : Type 0 where
  pub letters : (patterns : Patterns) → AreTrue patterns → flags ≡ flags_of patterns flat.rules repo wild.creator
  pub merge : (patterns : Patterns) → AreTrue patterns → asks_merge_check ≡ holds_vref patterns flat.rules (asked patterns flat wild repo user) MergeCheck
  pub paths : (patterns : Patterns) → AreTrue patterns → asks_paths ≡ holds_vref patterns flat.rules (asked patterns flat wild repo user) Name
