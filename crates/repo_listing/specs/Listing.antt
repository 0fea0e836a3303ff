-- What a user may see.
use Rattle.std.specs.Prelude.{◌≡◌, ℕ, List, [], ◌∷◌, ◌++◌, Bool, true, false, ◌&&◌, if◌then◌else◌, map}
use Rattle.std.specs.List.{flat_map}
use Rattle.conf_groups.specs.Groups.{with_items}
use Rattle.wild_perms.specs.Roles.{WildView}
use Rattle.rule_compile.specs.Flat.{Flat}
use Rattle.rule_compile.specs.Patterns.{Patterns}
use Rattle.rule_compile.specs.declared.rule.RepoWord.{RepoWord}
use Rattle.rule_compile.specs.declared.rule.RepoWord.TheVariants as repo
use Rattle.rule_compile.specs.declared.rule.Rule.{Rule}
use Rattle.access_check.specs.Users.{asked, asked_anywhere, covers_user}
use Rattle.access_check.specs.Verdicts.{creates, first_stage}
use Rattle.access_check.specs.declared.verdicts.Verdict.{Verdict}
use Rattle.access_check.specs.declared.verdicts.Verdict.TheVariants.{Allowed, DeniedBy, Fallthru}
use Rattle.access_check.specs.declared.verdicts.Want.{Want}
use Rattle.access_check.specs.declared.verdicts.Want.TheVariants.{Read, Write}
use Rattle.repo_listing.specs.declared.lines.LookLine.{LookLine}
use Rattle.repo_listing.specs.declared.lines.LookLine.TheVariants.{Repo, Pattern}

-- ---- repositories

-- a repository that is there: its name, who created it, if anybody did, and who holds which role in it
pub record Repository : Type 0 where
  pub name : List ℕ
  pub wild : WildView

abbrev pub is_allowed : Verdict → Bool
is_allowed (Allowed seq) = true
is_allowed (DeniedBy seq) = false
is_allowed Fallthru = false

-- the first stage allows the user to read the repository, or to write it
abbrev pub may : Patterns → Flat → List ℕ → Repository → Want → Bool
may patterns flat user r want = is_allowed (first_stage patterns flat (asked patterns flat r.wild r.name user) want)

-- A repository that the user may read has a line, which says whether the user may write it too. Every other
-- has none.
abbrev pub repo_lines : Patterns → Flat → List ℕ → Repository → List LookLine
repo_lines patterns flat user r = if may patterns flat user r Read then Repo r.name (may patterns flat user r Write) ∷ [] else []

-- ---- patterns

-- A rule lets the user create repositories where it is a lone `C` for a pattern, and is for the user where no
-- repository is given: the user counts as the creator then, nobody holds a role, and only the two roles that
-- every repository has are declared.
abbrev pub lets_create : List ℕ → Rule → Bool
lets_create user rule = creates rule && covers_user (asked_anywhere user) rule.user

-- the text of a word that is a pattern
abbrev pub pattern_texts : RepoWord → List (List ℕ)
pattern_texts (repo.Plain name) = []
pattern_texts repo.All = []
pattern_texts (repo.Pattern text) = text ∷ []

-- the pattern of a rule that lets the user create repositories
abbrev pub patterns_by : List ℕ → Rule → List (List ℕ)
patterns_by user rule = if lets_create user rule then pattern_texts rule.repo else []

-- the patterns of all such rules, each once, in the order of the first rule of each
abbrev pub patterns_for : List Rule → List ℕ → List (List ℕ)
patterns_for rules user = with_items [] (flat_map (patterns_by user) rules)

abbrev pub pattern_lines : List Rule → List ℕ → List LookLine
pattern_lines rules user = map Pattern (patterns_for rules user)

-- Where memory runs out, some of the lines that are due were appended, from the first one on.
abbrev pub AppendsSome : List LookLine → List LookLine → List LookLine → Type 0
AppendsSome due before after = (some rest : List LookLine) × (due ≡ some ++ rest) × (after ≡ before ++ some)

-- ---- the whole

-- What a user may see: the repositories, in the order in which they are given, and then the patterns.
abbrev pub listing : Patterns → Flat → List Repository → List ℕ → List LookLine
listing patterns flat repos user = flat_map (repo_lines patterns flat user) repos ++ pattern_lines flat.rules user
