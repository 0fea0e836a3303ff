-- Whom a rule is for.
use Rattle.std.specs.Prelude.{ℕ, List, [], Bool, true, false, ◌&&◌, codes, Option, Some, if◌then◌else◌}
use Rattle.std.specs.List.{list_any}
use Rattle.std.specs.Option.{option_map_or}
use Rattle.std.specs.Str.{bytes_eq}
use Rattle.rule_compile.specs.Flat.{Flat}
use Rattle.rule_compile.specs.Patterns.{Patterns}
use Rattle.rule_compile.specs.Roles.{declares, is_common_role}
use Rattle.rule_compile.specs.declared.rule.UserWord.{UserWord}
use Rattle.rule_compile.specs.declared.rule.UserWord.TheVariants.{Name, Group, All, Creator, Role}
use Rattle.wild_perms.specs.Roles.{WildView}
use Rattle.wild_perms.specs.declared.role.RoleEntry.{RoleEntry}

-- Who asks of which repository: its name, who created it, if anybody did, which words are roles there, who
-- holds which of them, and who asks.
pub record Asked : Type 0 where
  pub repo : List ℕ
  pub creator : Option (List ℕ)
  pub declares : List ℕ → Bool
  pub roles : List RoleEntry
  pub user : List ℕ

-- of a repository that is there; its roles are those that the options declare for it
abbrev pub asked : Patterns → Flat → WildView → List ℕ → List ℕ → Asked
asked patterns flat wild repo user = record {
  repo = repo;
  creator = wild.creator;
  declares = λ word. declares patterns flat.options word repo wild.creator;
  roles = wild.roles;
  user = user;
}

-- Before a repository is there the asker counts as its creator, and nobody holds a role.
abbrev pub asked_unborn : Patterns → Flat → List ℕ → List ℕ → Asked
asked_unborn patterns flat repo asker = asked patterns flat (record { creator = Some asker; roles = [] }) repo asker

-- Where no repository is given, the asker counts as its creator too, and only the two roles that every
-- repository has are declared.
abbrev pub asked_anywhere : List ℕ → Asked
asked_anywhere asker = record { repo = []; creator = Some asker; declares = is_common_role; roles = []; user = asker }

abbrev pub is_creator : Asked → Bool
is_creator a = option_map_or (λ creator. bytes_eq creator a.user) a.creator false

abbrev pub holds_role : Asked → List ℕ → Bool
holds_role a role = list_any (λ entry. bytes_eq entry.role role && bytes_eq entry.user a.user) a.roles

-- `CREATOR` is for the creator, a word that is declared as a role for those who hold it in this repository,
-- and every other word for the user of that name.
abbrev pub word_covers : Asked → List ℕ → Bool
word_covers a word =
    if bytes_eq word (codes "CREATOR") then is_creator a
    else if a.declares word then holds_role a word
    else bytes_eq word a.user

-- Whom the user word of a rule covers. A group covers whom one of its members covers.
abbrev pub covers_user : Asked → UserWord → Bool
covers_user a (Name name) = word_covers a name
covers_user a (Group name members) = list_any (word_covers a) members
covers_user a All = true
covers_user a Creator = word_covers a (codes "CREATOR")
covers_user a (Role role) = word_covers a role
