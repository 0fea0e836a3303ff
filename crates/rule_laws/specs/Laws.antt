-- What holds of every conf that comes to rules.
use Rattle.std.specs.Prelude.{ℕ, List, ◌∷◌, ◌++◌, ◌+◌, ◌<◌, ◌≤◌, ◌≡◌, ◌↔◌, true, length, filter, slice_get, Some, Ok, Contains}
use Rattle.conf_lex.specs.declared.statement.Statement.TheVariants.{Opt, Repo}
use Rattle.conf_groups.specs.Laws.{are_distinct}
use Rattle.conf_groups.specs.Splicing.{spliced}
use Rattle.conf_groups.specs.declared.conf_file.ConfFile.{ConfFile}
use Rattle.conf_groups.specs.declared.placed.Placed.{Placed}
use Rattle.conf_groups.specs.declared.placed.Placed.TheVariants as at
use Rattle.conf_groups.specs.declared.placed.PlacedLine.{PlacedLine}
use Rattle.conf_groups.specs.declared.placed.Scope.TheVariants.{Sub}
use Rattle.rule_compile.specs.Flat.{Flat, flat, warning_at}
use Rattle.rule_compile.specs.Patterns.{AreTrue, Patterns}
use Rattle.rule_compile.specs.Words.{is_repo_group, repo_of}
use Rattle.rule_compile.specs.declared.rule.OptionLine.{OptionLine}
use Rattle.rule_compile.specs.declared.rule.RepoWord.{RepoWord}
use Rattle.rule_compile.specs.declared.rule.RepoWord.TheVariants as repo
use Rattle.rule_compile.specs.declared.rule.Rule.{Rule}
use Rattle.rule_compile.specs.declared.warning.Warning.{Warning}
use Rattle.rule_laws.specs.Conf.{Block, HasScope, HasWord, IsAt, IsBehind, IsInside, IsMeant, IsOfLine, IsOption, MaySet, is_option}

-- It holds of each conf that compiles: of its lines in their order, and of what they come to by true answers
-- about patterns.
abbrev pub OfEachConf : (List Placed → Flat → Type 0) → Type 0
OfEachConf holds =
    (patterns : Patterns) (files : List ConfFile) (placed : List Placed) (conf : Flat) → AreTrue patterns → spliced files ≡ Ok placed → flat patterns files ≡ Ok conf
    → holds placed conf

-- Each rule of a subconf is for a repository word that is inside it.
abbrev pub SubconfsStayInside : Type 0
SubconfsStayInside = OfEachConf (λ placed conf. (rule : Rule) (subconf : List ℕ) → Contains conf.rules rule → rule.scope ≡ Sub subconf → IsInside placed subconf rule.repo)

-- Each rule is of a rule line.
abbrev pub RulesAreOfLines : Type 0
RulesAreOfLines = OfEachConf (λ placed conf. (rule : Rule) → Contains conf.rules rule → (before : List Placed) × (line : PlacedLine) × IsBehind placed before line × IsOfLine placed before line rule)

-- Each rule of a rule line is there, with a number.
abbrev pub LinesGiveRules : Type 0
LinesGiveRules = OfEachConf (λ placed conf.
    (before : List Placed) (line : PlacedLine) (rule : Rule) → IsBehind placed before line → IsOfLine placed before line rule → (n : ℕ) × Contains conf.rules (record rule { seq = n }))

-- Each option is that of an option line.
abbrev pub OptionsAreOfLines : Type 0
OptionsAreOfLines = OfEachConf (λ placed conf. (option : OptionLine) → Contains conf.options option → (before : List Placed) × (line : PlacedLine) × IsBehind placed before line × IsOption placed before line option)

-- Each option line gives an option, in the order of lines: as many are before it as there are option lines
-- before the line.
abbrev pub LinesGiveOptions : Type 0
LinesGiveOptions = OfEachConf (λ placed conf.
    (before : List Placed) (line : PlacedLine) (key value : List ℕ) → IsBehind placed before line → line.statement ≡ Opt key value
    → (option : OptionLine) × (slice_get conf.options (length (filter is_option before)) ≡ Some option) × IsOption placed before line option)

-- Each line has its scope from an earlier line that splices its file, or from the main file.
abbrev pub ScopesComeFromLines : Type 0
ScopesComeFromLines = (files : List ConfFile) (placed before : List Placed) (line : PlacedLine) → spliced files ≡ Ok placed → IsBehind placed before line → HasScope before line.file line.scope

-- The lines of a block have the scope of its `repo` line.
abbrev pub BlocksHaveOneScope : Type 0
BlocksHaveOneScope =
    (files : List ConfFile) (placed before : List Placed) (line : PlacedLine) (block : Block before) → spliced files ≡ Ok placed → IsBehind placed before line
    → line.scope ≡ block.opening.scope

-- The rules are numbered from 1, in order.
abbrev pub NumbersHaveNoGap : Type 0
NumbersHaveNoGap = OfEachConf (λ placed conf. (i : ℕ) (rule : Rule) → slice_get conf.rules i ≡ Some rule → rule.seq ≡ i + 1)

-- A rule of an earlier line has a lower number than one of a later line.
abbrev pub RulesComeInOrder : Type 0
RulesComeInOrder = OfEachConf (λ placed conf.
    (before between after : List Placed) (earlier later : PlacedLine) (a b : Rule) → placed ≡ before ++ at.Line earlier ∷ (between ++ at.Line later ∷ after)
    → Contains conf.rules a → Contains conf.rules b → IsAt a earlier → IsAt b later → a.seq < b.seq)

-- Of two rules of one file the later isn't of an earlier line.
abbrev pub LinesNeverGoBack : Type 0
LinesNeverGoBack = OfEachConf (λ placed conf. (a b : Rule) → Contains conf.rules a → Contains conf.rules b → a.file ≡ b.file → a.seq < b.seq → a.line ≤ b.line)

-- the conf has a `repo` line with the word
abbrev pub IsWorded : List Placed → RepoWord → Type 0
IsWorded placed word = (before : List Placed) × (line : PlacedLine) × (words : List (List ℕ)) × IsBehind placed before line × (line.statement ≡ Repo words) × HasWord placed line.scope words word

-- A name is among the plain names exactly where some `repo` line has it as a plain word.
abbrev pub PlainAreWorded : Type 0
PlainAreWorded = OfEachConf (λ placed conf. (name : List ℕ) → Contains conf.plain name ↔ IsWorded placed (repo.Plain name))

-- No plain name is there twice.
abbrev pub PlainAreOnce : Type 0
PlainAreOnce = OfEachConf (λ placed conf. are_distinct conf.plain ≡ true)

-- the warning is of a word of a `repo` line, for which its scope may not set access
abbrev pub IsDropped : List Placed → Warning → Type 0
IsDropped placed warning =
    (before : List Placed) × (line : PlacedLine) × (words : List (List ℕ)) × IsBehind placed before line × (line.statement ≡ Repo words)
    × ((text : List ℕ) × IsMeant is_repo_group placed line.scope words text × (MaySet placed line.scope (repo_of text) → ⊥) × (warning ≡ warning_at line text))

-- Exactly such words are warned of.
abbrev pub DroppedAreWarned : Type 0
DroppedAreWarned = OfEachConf (λ placed conf. (warning : Warning) → Contains conf.warnings warning ↔ IsDropped placed warning)
