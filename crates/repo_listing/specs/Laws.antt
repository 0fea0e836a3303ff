-- What holds of the definitions themselves.
use Rattle.std.specs.Prelude.{◌≡◌, ◌↔◌, ℕ, List, ◌++◌, Bool, true}
use Rattle.std.specs.List.{Contains}
use Rattle.conf_groups.specs.Laws.{are_distinct}
use Rattle.rule_compile.specs.Flat.{Flat}
use Rattle.rule_compile.specs.Patterns.{Patterns}
use Rattle.rule_compile.specs.declared.rule.RepoWord.TheVariants as repo
use Rattle.rule_compile.specs.declared.rule.Rule.{Rule}
use Rattle.access_check.specs.Users.{asked_anywhere, covers_user}
use Rattle.access_check.specs.Verdicts.{may_create}
use Rattle.access_check.specs.declared.verdicts.Want.{Want}
use Rattle.access_check.specs.declared.verdicts.Want.TheVariants.{Read, Write}
use Rattle.repo_listing.specs.Listing.{Repository, is_allowed, listing, may, patterns_for}
use Rattle.repo_listing.specs.declared.lines.LookLine.TheVariants.{Repo, Pattern}

-- one of the repositories has the name, the user may read it, and may write it or not
abbrev pub IsSeen : (Repository → Want → Bool) → List Repository → List ℕ → Bool → Type 0
IsSeen allows repos name write = (r : Repository) × Contains repos r × (r.name ≡ name) × (allows r Read ≡ true) × (allows r Write ≡ write)

-- a repository is listed exactly where it is given and the user may read it
abbrev pub ReposAreListed : Type 0
ReposAreListed = (patterns : Patterns) (flat : Flat) (repos : List Repository) (user name : List ℕ) (write : Bool)
    → Contains (listing patterns flat repos user) (Repo name write) ↔ IsSeen (may patterns flat user) repos name write

-- one of the rules is a lone `C` for this pattern, and is for the user where no repository is given
abbrev pub IsCreatable : List Rule → List ℕ → List ℕ → Type 0
IsCreatable rules user text =
    (rule : Rule) × Contains rules rule × (rule.perm.lone_create ≡ true) × (rule.repo ≡ repo.Pattern text) × (covers_user (asked_anywhere user) rule.user ≡ true)

-- a pattern is listed exactly where a rule lets the user create repositories by it
abbrev pub PatternsAreListed : Type 0
PatternsAreListed = (patterns : Patterns) (flat : Flat) (repos : List Repository) (user text : List ℕ)
    → Contains (listing patterns flat repos user) (Pattern text) ↔ IsCreatable flat.rules user text

-- no pattern is listed twice
abbrev pub PatternsAreOnce : Type 0
PatternsAreOnce = (rules : List Rule) (user : List ℕ) → are_distinct (patterns_for rules user) ≡ true

-- patterns of later rules come after those of the rules before
abbrev pub PatternsKeepOrder : Type 0
PatternsKeepOrder = (rules more : List Rule) (user : List ℕ) → (later : List (List ℕ)) × (patterns_for (rules ++ more) user ≡ patterns_for rules user ++ later)

-- whoever may create a repository has a pattern listed that takes its name
abbrev pub CreatedAreListed : Type 0
CreatedAreListed = (patterns : Patterns) (flat : Flat) (repos : List Repository) (name user : List ℕ) → is_allowed (may_create patterns flat name user) ≡ true
    → (text : List ℕ) × (patterns.takes text user name ≡ true) × Contains (listing patterns flat repos user) (Pattern text)
