-- What holds of the definitions themselves.
use Rattle.std.specs.Prelude.{◌≡◌, ℕ, List, Bool, true, false, Option, codes, find}
use Rattle.rule_compile.specs.Covering.{rules_for}
use Rattle.rule_compile.specs.Flat.{Flat}
use Rattle.rule_compile.specs.Index.{AreNumbered}
use Rattle.rule_compile.specs.Patterns.{Patterns}
use Rattle.rule_compile.specs.declared.rule.Rule.{Rule}
use Rattle.rule_compile.specs.declared.rule.UserWord.{UserWord}
use Rattle.access_check.specs.Letters.{flags_of}
use Rattle.access_check.specs.Users.{Asked, covers_user, holds_role, word_covers}
use Rattle.access_check.specs.Verdicts.{creating_stage, decide, first_stage, holds_vref, rule_of, verdict_of}
use Rattle.access_check.specs.declared.letters.Letter.{Letter}
use Rattle.access_check.specs.declared.verdicts.Vref.{Vref}
use Rattle.access_check.specs.declared.verdicts.Want.{Want}
use Rattle.wild_perms.specs.declared.role.RoleEntry.{RoleEntry}

-- Only the rules whose repository word is that name, `@all` or a pattern have a part in any answer.
pub record OnlyRulesForItDecide : Type 0 where
  pub change : (patterns : Patterns) (rules : List Rule) (a : Asked) (letter : Letter) (name : List ℕ) → decide patterns (rules_for rules a.repo) a letter name ≡ decide patterns rules a letter name
  pub opening : (patterns : Patterns) (flat : Flat) (a : Asked) (want : Want) → first_stage patterns (record flat { rules = rules_for flat.rules a.repo }) a want ≡ first_stage patterns flat a want
  pub creating : (patterns : Patterns) (flat : Flat) (a : Asked) → creating_stage patterns (record flat { rules = rules_for flat.rules a.repo }) a ≡ creating_stage patterns flat a
  pub virtual : (patterns : Patterns) (rules : List Rule) (a : Asked) (which : Vref) → holds_vref patterns (rules_for rules a.repo) a which ≡ holds_vref patterns rules a which
  pub flags : (patterns : Patterns) (rules : List Rule) (repo : List ℕ) (creator : Option (List ℕ)) → flags_of patterns (rules_for rules repo) repo creator ≡ flags_of patterns rules repo creator

-- The number of a verdict leads to the rule that decides, whatever the test is.
pub record VerdictsNameTheirRules : Type 0 where
  pub named : (rules : List Rule) (test : Rule → Bool) → AreNumbered rules → rule_of rules (verdict_of (find test rules)) ≡ find test rules

-- A role that isn't declared for the repository covers nobody.
pub record OnlyDeclaredRolesCover : Type 0 where
  -- a word that is neither declared, nor `CREATOR`, nor the user's name doesn't cover the user, whatever
  -- roles the user holds
  pub word : (a : Asked) (word : List ℕ) → a.declares word ≡ false → ¬ (word ≡ codes "CREATOR") → ¬ (word ≡ a.user) → word_covers a word ≡ false
  -- who holds which role that isn't declared makes no difference
  pub entries : (a : Asked) (roles : List RoleEntry) → ((role : List ℕ) → a.declares role ≡ true → holds_role (record a { roles = roles }) role ≡ holds_role a role)
      → (user : UserWord) → covers_user (record a { roles = roles }) user ≡ covers_user a user
