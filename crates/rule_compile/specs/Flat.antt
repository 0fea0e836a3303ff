-- The flat list of rules of a conf, or its first fault.
use Rattle.std.specs.Prelude.{ℕ, suc, zero, slice_get, List, [], ◌∷◌, ◌++◌, ◌+◌, ◌<◌, ◌≤◌, if◌then◌else◌, nat_lt, length, map, Option, Some, None, Result, Ok, Err}
use Rattle.std.specs.List.{flat_map}
use Rattle.conf_lex.specs.declared.perm.Perm.{Perm}
use Rattle.conf_lex.specs.declared.statement.Statement.{Statement}
use Rattle.conf_lex.specs.declared.statement.Statement.TheVariants.{Repo, Rule, Group, Opt}
use Rattle.conf_groups.specs.Groups.{with_item}
use Rattle.conf_groups.specs.Splicing.{spliced}
use Rattle.conf_groups.specs.declared.conf_file.ConfFile.{ConfFile}
use Rattle.conf_groups.specs.declared.fault.ConfFault.{ConfFault}
use Rattle.conf_groups.specs.declared.placed.Placed.{Placed}
use Rattle.conf_groups.specs.declared.placed.Placed.TheVariants as at
use Rattle.conf_groups.specs.declared.placed.PlacedLine.{PlacedLine}
use Rattle.conf_groups.specs.declared.placed.Scope.{Scope}
use Rattle.conf_groups.specs.declared.placed.Scope.TheVariants.{Main, Sub}
use Rattle.refex.specs.declared.faults.Hole.TheVariants.{User, Creator}
use Rattle.refex.specs.declared.faults.RefexFault.{RefexFault}
use Rattle.rule_compile.specs.Patterns.{Patterns}
use Rattle.rule_compile.specs.Words.{expanded, is_unknown_vref, may_set, refex_texts, refexes_in, repo_of, unknown_at, unknown_repo, users_of}
use Rattle.rule_compile.specs.declared.fault.PolicyFault.{PolicyFault}
use Rattle.rule_compile.specs.declared.fault.PolicyFault.TheVariants as fault
use Rattle.rule_compile.specs.declared.fault.RuleKind.{RuleKind}
use Rattle.rule_compile.specs.declared.fault.RuleKind.TheVariants.{RuleBeforeRepo, UnknownGroup, UnknownVref, BadRefex, TooManyRules}
use Rattle.rule_compile.specs.declared.limits.TheConstants.{MAX_RULES, MAX_PATTERNS}
use Rattle.rule_compile.specs.declared.rule.OptionLine.{OptionLine}
use Rattle.rule_compile.specs.declared.rule.RepoWord.{RepoWord}
use Rattle.rule_compile.specs.declared.rule.RepoWord.TheVariants as repo
use Rattle.rule_compile.specs.declared.rule.Rule as declared
use Rattle.rule_compile.specs.declared.rule.UserWord.{UserWord}
use Rattle.rule_compile.specs.declared.warning.Warning.{Warning}

-- What a conf comes to: its rules in order, its warnings, its option lines, and the plain repositories that
-- it names, each once, in order of first mention.
pub record Flat : Type 0 where
  pub rules : List declared.Rule
  pub warnings : List Warning
  pub options : List OptionLine
  pub plain : List (List ℕ)

-- What the lines so far come to: the repository words of the current block, if there is one; the flat list;
-- and the texts of patterns, each once.
pub record State : Type 0 where
  pub block : Option (List RepoWord)
  pub flat : Flat
  pub texts : List (List ℕ)

abbrev pub nothing : State
nothing = record { block = None; flat = record { rules = []; warnings = []; options = []; plain = [] }; texts = [] }

-- a value, or why a line is refused
abbrev pub Step : Type 0 → Type 0
Step A = Result A RuleKind

infixl 10 ◌>>=◌
abbrev pub ◌>>=◌ : {A B : Type 0} → Step A → (A → Step B) → Step B
(Ok x) >>= f = f x
(Err e) >>= f = Err e

-- the same, unless a group has no members
abbrev pub unless_unknown : {A : Type 0} → Option (List ℕ) → Step A → Step A
unless_unknown None due = due
unless_unknown (Some w) due = Err (UnknownGroup w)

-- the same, unless a text is no pattern
abbrev pub unless_bad : {A : Type 0} → List ℕ → Option RefexFault → Step A → Step A
unless_bad text None due = due
unless_bad text (Some e) due = Err (BadRefex text e)

-- ---- `repo` lines

-- the words of the current block
abbrev pub words_of : Option (List RepoWord) → List RepoWord
words_of None = []
words_of (Some words) = words

abbrev pub with_block : State → Option (List RepoWord) → State
with_block s block = record { block = block; flat = s.flat; texts = s.texts }

abbrev pub with_texts_of : State → List (List ℕ) → State
with_texts_of s texts = record { block = s.block; flat = s.flat; texts = texts }

-- a plain name that is mentioned
abbrev pub with_name : State → List ℕ → State
with_name s name = record {
  block = s.block;
  flat = record { rules = s.flat.rules; warnings = s.flat.warnings; options = s.flat.options; plain = with_item s.flat.plain name };
  texts = s.texts;
}

-- a word more in the current block
abbrev pub in_block : State → RepoWord → State
in_block s word = with_block s (Some (words_of s.block ++ word ∷ []))

-- A repository word that isn't dropped: the text of a pattern counts, and a plain name is mentioned.
abbrev pub keeping : Patterns → RepoWord → State → Step State
keeping patterns (repo.Pattern text) s =
    unless_bad text (patterns.fault Creator text) (Ok (in_block (with_texts_of s (with_item s.texts text)) (repo.Pattern text)))
keeping patterns (repo.Plain name) s = Ok (in_block (with_name s name) (repo.Plain name))
keeping patterns repo.All s = Ok (in_block s repo.All)

-- the name of a scope; no word of the main scope is dropped
abbrev pub scope_name : Scope → List ℕ
scope_name Main = []
scope_name (Sub name) = name

abbrev pub warning_at : PlacedLine → List ℕ → Warning
warning_at l word = record { scope = scope_name l.scope; word = word; file = l.file; line = l.line }

-- a repository word that a subconf may not set access for
abbrev pub dropped : PlacedLine → List ℕ → State → State
dropped l word s = record {
  block = s.block;
  flat = record { rules = s.flat.rules; warnings = s.flat.warnings ++ warning_at l word ∷ []; options = s.flat.options; plain = s.flat.plain };
  texts = s.texts;
}

abbrev pub with_text : Patterns → List Placed → PlacedLine → List ℕ → State → Step State
with_text patterns placed l text s =
    if may_set patterns placed l.scope text then keeping patterns (repo_of text) s else Ok (dropped l text s)

abbrev pub with_texts : Patterns → List Placed → PlacedLine → List (List ℕ) → State → Step State
with_texts patterns placed l [] s = Ok s
with_texts patterns placed l (t ∷ ts) s = with_text patterns placed l t s >>= with_texts patterns placed l ts

-- repository words, with their groups written out
abbrev pub with_words : Patterns → List Placed → PlacedLine → List (List ℕ) → State → Step State
with_words patterns placed l [] s = Ok s
with_words patterns placed l (w ∷ ws) s = with_texts patterns placed l (expanded placed l.scope w) s >>= with_words patterns placed l ws

-- a new block, without words so far
abbrev pub opened : State → State
opened s = with_block s (Some [])

-- unless there are too many patterns
abbrev pub within : State → Step State
within s = if nat_lt MAX_PATTERNS (length s.texts) then Err TooManyRules else Ok s

abbrev pub repo_line : Patterns → List Placed → PlacedLine → List (List ℕ) → State → Step State
repo_line patterns placed l words s =
    unless_unknown (unknown_repo placed l.scope words)
    (with_words patterns placed l words (opened s) >>= within)

-- ---- rules

-- Refexes, each of which is a pattern and no unknown virtual ref: their texts count.
abbrev pub with_refex : Patterns → List ℕ → State → Step State
with_refex patterns text s =
    if is_unknown_vref text then Err (UnknownVref text)
    else unless_bad text (patterns.fault User text) (Ok (with_texts_of s (with_item s.texts text)))

abbrev pub with_refexes : Patterns → List (List ℕ) → State → Step State
with_refexes patterns [] s = Ok s
with_refexes patterns (t ∷ ts) s = with_refex patterns t s >>= with_refexes patterns ts

-- a rule without its number and its line
pub record Draft : Type 0 where
  pub repo : RepoWord
  pub refex : List ℕ
  pub user : UserWord

-- one for each repository word, refex and user word, nested in this order
abbrev pub for_users : RepoWord → List ℕ → List UserWord → List Draft
for_users word refex users = map (λ user. record { repo = word; refex = refex; user = user }) users

abbrev pub for_refexes : RepoWord → List (List ℕ) → List UserWord → List Draft
for_refexes word refexes users = flat_map (λ refex. for_users word refex users) refexes

abbrev pub for_words : List RepoWord → List (List ℕ) → List UserWord → List Draft
for_words words refexes users = flat_map (λ word. for_refexes word refexes users) words

abbrev pub rule_of : PlacedLine → Perm → ℕ → Draft → declared.Rule
rule_of l perm n d = record { seq = n; scope = l.scope; repo = d.repo; perm = perm; refex = d.refex; user = d.user; file = l.file; line = l.line }

-- the rules with one more, which has the next number
abbrev pub with_rule : PlacedLine → Perm → List declared.Rule → Draft → List declared.Rule
with_rule l perm rules d = rules ++ rule_of l perm (length rules + 1) d ∷ []

-- the rules with more, unless there are too many
abbrev pub pushed : PlacedLine → Perm → List declared.Rule → List Draft → Step (List declared.Rule)
pushed l perm rules [] = Ok rules
pushed l perm rules (d ∷ ds) = if nat_lt (length rules) MAX_RULES then pushed l perm (with_rule l perm rules d) ds else Err TooManyRules

abbrev pub with_rules : State → List declared.Rule → State
with_rules s rules = record {
  block = s.block;
  flat = record { rules = rules; warnings = s.flat.warnings; options = s.flat.options; plain = s.flat.plain };
  texts = s.texts;
}

-- the rules of a line, for the words of the current block
abbrev pub rules_pushed : PlacedLine → Perm → List (List ℕ) → List UserWord → State → Step State
rules_pushed l perm refexes users s = pushed l perm s.flat.rules (for_words (words_of s.block) refexes users) >>= λ rules. Ok (with_rules s rules)

-- the refexes are read, and then the patterns counted
abbrev pub refexes_read : Patterns → List (List ℕ) → State → Step State
refexes_read patterns refexes s = with_refexes patterns refexes s >>= within

-- the refexes come first, and then the rules
abbrev pub line_rules : Patterns → PlacedLine → Perm → List (List ℕ) → List UserWord → State → Step State
line_rules patterns l perm refexes users s = refexes_read patterns refexes s >>= rules_pushed l perm refexes users

abbrev pub rule_line : Patterns → List Placed → ℕ → PlacedLine → Perm → List (List ℕ) → List (List ℕ) → Option (List RepoWord) → State → Step State
rule_line patterns placed place l perm refexes users None s = Err RuleBeforeRepo
rule_line patterns placed place l perm refexes users (Some words) s =
    unless_unknown (unknown_at placed place l.scope refexes)
    (unless_unknown (unknown_at placed (length placed) l.scope users)
    (line_rules patterns l perm (refex_texts (refexes_in placed place l.scope refexes)) (users_of placed l.scope users) s))

-- ---- options

abbrev pub with_option : State → OptionLine → State
with_option s o = record {
  block = s.block;
  flat = record { rules = s.flat.rules; warnings = s.flat.warnings; options = s.flat.options ++ o ∷ []; plain = s.flat.plain };
  texts = s.texts;
}

abbrev pub option_line : List ℕ → List ℕ → Option (List RepoWord) → State → Step State
option_line key value None s = Err RuleBeforeRepo
option_line key value (Some words) s = Ok (with_option s (record { repos = words; key = key; value = value }))

-- ---- lines

-- What comes of a line at its place.
abbrev pub statement_step : Patterns → List Placed → ℕ → PlacedLine → Statement → State → Step State
statement_step patterns placed place l (Repo words) s = repo_line patterns placed l words s
statement_step patterns placed place l (Rule perm refexes users) s = rule_line patterns placed place l perm refexes users s.block s
statement_step patterns placed place l (Group name members) s = unless_unknown (unknown_at placed place l.scope members) (Ok s)
statement_step patterns placed place l (Opt key value) s = option_line key value s.block s
statement_step patterns placed place l other s = Ok s

-- no block is current any more
abbrev pub closed : State → State
closed s = with_block s None

abbrev pub fault_at : PlacedLine → RuleKind → PolicyFault
fault_at l k = fault.Rules (record { kind = k; file = l.file; line = l.line })

-- a line's fault is at its place
abbrev pub at_line : PlacedLine → Step State → Result State PolicyFault
at_line l (Ok s) = Ok s
at_line l (Err k) = Err (fault_at l k)

abbrev pub placed_step : Patterns → List Placed → ℕ → Placed → State → Result State PolicyFault
placed_step patterns placed place at.EndOfBlock s = Ok (closed s)
placed_step patterns placed place (at.Line l) s = at_line l (statement_step patterns placed place l l.statement s)

abbrev pub and_then : Result State PolicyFault → (State → Result Flat PolicyFault) → Result Flat PolicyFault
and_then (Ok s) next = next s
and_then (Err e) next = Err e

-- What a conf comes to, or its first fault: by what the lines before a place come to, and the lines from
-- there on.
abbrev pub compiled : Patterns → List Placed → ℕ → List Placed → State → Result Flat PolicyFault
compiled patterns placed place [] s = Ok s.flat
compiled patterns placed place (p ∷ rest) s = and_then (placed_step patterns placed place p s) (compiled patterns placed (place + 1) rest)

abbrev pub compiled_all : Patterns → List Placed → Result Flat PolicyFault
compiled_all patterns placed = compiled patterns placed 0 placed nothing

-- the rules come once splicing has succeeded
abbrev pub after_splicing : Patterns → Result (List Placed) ConfFault → Result Flat PolicyFault
after_splicing patterns (Ok placed) = compiled_all patterns placed
after_splicing patterns (Err e) = Err (fault.Splicing e)

-- What the files of a conf come to: the flat list, or the first fault.
abbrev pub flat : Patterns → List ConfFile → Result Flat PolicyFault
flat patterns files = after_splicing patterns (spliced files)

-- a number that a rule bears
abbrev pub IsNumber : List declared.Rule → ℕ → Type 0
IsNumber rules n = (0 < n) × (n ≤ length rules)

-- the rule of a number
abbrev pub numbered : List declared.Rule → ℕ → Option declared.Rule
numbered rules zero = None
numbered rules (suc n) = slice_get rules n
