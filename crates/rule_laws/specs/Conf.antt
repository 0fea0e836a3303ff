-- A conf in its own words: what a subconf may set access for, blocks of lines, the words of lines, and the
-- rules of a line.
use Rattle.std.specs.Prelude.{ℕ, List, [], ◌∷◌, ◌++◌, ◌≡◌, ◌↔◌, ◌⊎◌, Bool, true, false, codes, Contains}
use Rattle.std.specs.List.{list_all}
use Rattle.conf_lex.specs.Names.{is_repo_name, occurs}
use Rattle.conf_lex.specs.RepoWords.{repo_word}
use Rattle.conf_lex.specs.declared.statement.Statement.{Statement}
use Rattle.conf_lex.specs.declared.statement.Statement.TheVariants.{Include, Opt, Repo, Rule, Subconf}
use Rattle.conf_groups.specs.Files.{fits, has_star, scope_of}
use Rattle.conf_groups.specs.Laws.{IsMember}
use Rattle.conf_groups.specs.Splicing.{main_name}
use Rattle.conf_groups.specs.declared.placed.Placed.{Placed}
use Rattle.conf_groups.specs.declared.placed.Placed.TheVariants as at
use Rattle.conf_groups.specs.declared.placed.PlacedLine.{PlacedLine}
use Rattle.conf_groups.specs.declared.placed.Scope.{Scope}
use Rattle.conf_groups.specs.declared.placed.Scope.TheVariants.{Main, Sub}
use Rattle.rule_compile.specs.Patterns.{TakesName}
use Rattle.rule_compile.specs.Words.{is_group, is_repo_group, repo_of, user_of, with_prefix}
use Rattle.rule_compile.specs.declared.rule.OptionLine.{OptionLine}
use Rattle.rule_compile.specs.declared.rule.RepoWord.{RepoWord}
use Rattle.rule_compile.specs.declared.rule.RepoWord.TheVariants as repo
use Rattle.rule_compile.specs.declared.rule.Rule as declared
use Rattle.rule_compile.specs.declared.rule.UserWord.{UserWord}

-- ---- what a subconf may set access for

-- lines of the main file made the word a member of the group of the subconf's name
abbrev pub IsGiven : List Placed → List ℕ → List ℕ → Type 0
IsGiven placed subconf word = IsMember word placed (64 ∷ subconf) Main

-- the text is what the subconf's name stands for, or what a word that it was given stands for
abbrev pub IsOwn : List Placed → List ℕ → List ℕ → Type 0
IsOwn placed subconf text = (text ≡ repo_word subconf) ⊎ ((word : List ℕ) × IsGiven placed subconf word × (text ≡ repo_word word))

-- a word that it was given is a pattern without `CREATOR`, and matches the whole of the name
abbrev pub IsTaken : List Placed → List ℕ → List ℕ → Type 0
IsTaken placed subconf name =
    (word : List ℕ) × IsGiven placed subconf word × (is_repo_name (repo_word word) ≡ false) × (occurs (codes "CREATOR") (repo_word word) ≡ false) × TakesName (repo_word word) [] name

-- Inside a subconf are its own words, and plain names that are taken. `@all` is inside none.
abbrev pub IsInside : List Placed → List ℕ → RepoWord → Type 0
IsInside placed subconf (repo.Plain name) = IsOwn placed subconf name ⊎ IsTaken placed subconf name
IsInside placed subconf (repo.Pattern text) = IsOwn placed subconf text
IsInside placed subconf repo.All = ⊥

-- a line of the main file may set access for each word
abbrev pub MaySet : List Placed → Scope → RepoWord → Type 0
MaySet placed Main word = Unit {0}
MaySet placed (Sub subconf) word = IsInside placed subconf word

-- ---- lines and blocks

-- the conf has the line, behind these
abbrev pub IsBehind : List Placed → List Placed → PlacedLine → Type 0
IsBehind placed before line = (after : List Placed) × (placed ≡ before ++ at.Line line ∷ after)

-- the word of an `include` or a `subconf` line names the file: it is its name, or has `*` and fits the whole
-- of it
abbrev pub Names : List ℕ → List ℕ → Type 0
Names word file = ((has_star word ≡ false) × (file ≡ word)) ⊎ ((has_star word ≡ true) × (fits word file ≡ true))

-- what a line says splices the file, in the scope: an `include` in its own scope, a `subconf` of the main
-- file in the file's scope
abbrev pub Splices : Scope → Statement → List ℕ → Scope → Type 0
Splices its (Include word) file scope = Names word file × (scope ≡ its)
Splices its (Subconf word) file scope = Names word file × (scope ≡ Sub (scope_of file)) × (its ≡ Main)
Splices its other file scope = ⊥

-- A file has the scope: it is the main file, or one of these lines splices it.
abbrev pub HasScope : List Placed → List ℕ → Scope → Type 0
HasScope before file scope =
    ((file ≡ main_name) × (scope ≡ Main)) ⊎ ((earlier : List Placed) × (line : PlacedLine) × IsBehind before earlier line × Splices line.scope line.statement file scope)

abbrev pub is_no_repo : Statement → Bool
is_no_repo (Repo words) = false
is_no_repo other = true

-- neither a `repo` line nor an end of a block
abbrev pub goes_on : Placed → Bool
goes_on at.EndOfBlock = false
goes_on (at.Line line) = is_no_repo line.statement

-- The lines end inside a block: they have a `repo` line, and go on behind it.
pub record Block (lines : List Placed) : Type 0 where
  pub before : List Placed
  pub opening : PlacedLine
  pub words : List (List ℕ)
  pub inner : List Placed
  pub are : lines ≡ before ++ at.Line opening ∷ inner
  pub says : opening.statement ≡ Repo words
  pub go_on : list_all goes_on inner ≡ true

-- ---- words

-- a word stands for itself, or for its members where it is a group: by these lines, as the scope sees them
abbrev pub StandsFor : Bool → List Placed → Scope → List ℕ → List ℕ → Type 0
StandsFor false lines scope word text = text ≡ word
StandsFor true lines scope word text = IsMember text lines word scope

-- one of the words stands for the text
abbrev pub IsMeant : (List ℕ → Bool) → List Placed → Scope → List (List ℕ) → List ℕ → Type 0
IsMeant is_group lines scope words text = (word : List ℕ) × Contains words word × StandsFor (is_group word) lines scope word text

-- One of the words of a `repo` line, for which the line's scope may set access. Groups are for their members
-- by all lines.
abbrev pub HasWord : List Placed → Scope → List (List ℕ) → RepoWord → Type 0
HasWord placed scope words word = (text : List ℕ) × IsMeant is_repo_group placed scope words text × (word ≡ repo_of text) × MaySet placed scope word

-- One of the refexes of a line, with its prefix. Groups are for their members by the lines before. A line
-- without refexes is for all refs.
abbrev pub HasRefex : List Placed → Scope → List (List ℕ) → List ℕ → Type 0
HasRefex before scope [] refex = refex ≡ codes "refs/.*"
HasRefex before scope (word ∷ words) refex = (text : List ℕ) × IsMeant is_group before scope (word ∷ words) text × (refex ≡ with_prefix text)

-- what one of the user words of a line stands for
abbrev pub HasUser : List Placed → Scope → List (List ℕ) → UserWord → Type 0
HasUser placed scope words user = (word : List ℕ) × Contains words word × (user ≡ user_of placed scope word)

-- ---- rules

-- the rule's file and number are those of the line
abbrev pub IsAt : declared.Rule → PlacedLine → Type 0
IsAt rule line = (rule.file ≡ line.file) × (rule.line ≡ line.line)

-- The rule is one of the rule line behind these: for a repository word of its block, one of its refexes and
-- one of its user words, with its permission and its place.
pub record IsOfLine (placed before : List Placed) (line : PlacedLine) (rule : declared.Rule) : Type 0 where
  pub refexes : List (List ℕ)
  pub users : List (List ℕ)
  pub says : line.statement ≡ Rule rule.perm refexes users
  pub block : Block before
  pub repo : HasWord placed block.opening.scope block.words rule.repo
  pub refex : HasRefex before line.scope refexes rule.refex
  pub user : HasUser placed line.scope users rule.user
  pub scope : rule.scope ≡ line.scope
  pub place : IsAt rule line

-- ---- options

abbrev pub says_option : Statement → Bool
says_option (Opt key value) = true
says_option other = false

abbrev pub is_option : Placed → Bool
is_option at.EndOfBlock = false
is_option (at.Line line) = says_option line.statement

-- The option is that of the option line behind these: for the repository words of its block. The line's scope
-- may set access for each of them.
pub record IsOption (placed before : List Placed) (line : PlacedLine) (option : OptionLine) : Type 0 where
  pub says : line.statement ≡ Opt option.key option.value
  pub block : Block before
  pub repos : (word : RepoWord) → Contains option.repos word ↔ HasWord placed block.opening.scope block.words word
  pub inside : (word : RepoWord) → Contains option.repos word → MaySet placed line.scope word
