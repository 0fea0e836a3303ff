-- What a question asks, as the code keeps it.
use Rattle.std.specs.Prelude.{◌≡◌, ℕ, List, [], Bool, ◌&&◌, ◌||◌, Option, Some, if◌then◌else◌}
use Rattle.std.specs.List.{AllByRecursion}
use Rattle.std.specs.Option.{option_copied, option_map_or}
use Rattle.conf_groups.specs.Groups.{holds}
use Rattle.conf_lex.specs.declared.perm.Perm.{Perm}
use Rattle.rule_compile.specs.Covering.{covers_repo}
use Rattle.rule_compile.specs.Flat.{numbered}
use Rattle.rule_compile.specs.Patterns.{Patterns}
use Rattle.rule_compile.specs.Roles.{declares}
use Rattle.rule_compile.specs.declared.rule.Rule.{Rule}
use Rattle.access_check.specs.Users.{Asked, holds_role}
use Rattle.access_check.specs.declared.letters.Flags.{Flags}
use Rattle.access_check.specs.declared.users.Question.{Question}

abbrev pub asked_by : Patterns → Question → Asked
asked_by patterns q = record {
  repo = q.repo.now;
  creator = option_copied q.creator;
  declares = λ word. declares patterns q.policy.now.options word q.repo.now (option_copied q.creator);
  roles = option_map_or (λ wild. wild.now.roles) q.wild [];
  user = q.user.now;
}

-- the word is one of these, is declared as a role, and the user holds it
abbrev pub role_covers : Asked → List (List ℕ) → List ℕ → Bool
role_covers a words word = holds_role a word && (holds words word && a.declares word)

-- the number of a rule leads to it
abbrev pub Leads : List Rule → Rule → Type 0
Leads rules rule = numbered rules rule.seq ≡ Some rule

abbrev pub AllLead : List Rule → List Rule → Type 0
AllLead rules some = AllByRecursion (Leads rules) some

-- the letters in force with one more permission
abbrev pub with_perm : Flags → Perm → Flags
with_perm flags perm = record { create = flags.create || perm.create; delete = flags.delete || perm.delete; merge = flags.merge || perm.merge }

abbrev pub with_rule : Patterns → List ℕ → Option (List ℕ) → Flags → Rule → Flags
with_rule patterns repo creator flags rule = if covers_repo patterns rule.repo repo creator then with_perm flags rule.perm else flags

-- the letters of the one or of the other
abbrev pub joined : Flags → Flags → Flags
joined some more = record { create = some.create || more.create; delete = some.delete || more.delete; merge = some.merge || more.merge }
