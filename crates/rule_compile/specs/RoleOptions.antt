-- What is kept of the options that declare roles. It serves private functions alone.
use Rattle.std.specs.Prelude.{◌≡◌, ℕ, List, [], ◌++◌, Bool, true, false, Option, Some, None, Vec, if◌then◌else◌}
use Rattle.std.specs.BTreeMap.{BTreeMap, get_by}
use Rattle.std.specs.Ordering.{nat_cmp}
use Rattle.std.specs.Cmp.Lexicographic.{slice_cmp}
use Rattle.std.specs.Str.{bytes_eq}
use Rattle.conf_groups.specs.Groups.{holds}
use Rattle.rule_compile.specs.Index.{OptionWord, option_words, words_of_line}
use Rattle.rule_compile.specs.OptionWords.{IsOption}
use Rattle.rule_compile.specs.Roles.{is_mentioned, is_role_name, role_key}
use Rattle.rule_compile.specs.declared.option_words.OptionWords.{OptionWords}
use Rattle.rule_compile.specs.declared.role_options.RoleOptions.{RoleOptions}
use Rattle.rule_compile.specs.declared.rule.OptionLine.{OptionLine}

-- what a table has at a word
abbrev pub kept_at : {A : Type 0} → BTreeMap (Vec ℕ A) OptionWords → List ℕ → Option OptionWords
kept_at table word = get_by (λ name. slice_cmp nat_cmp word name.items) table

-- what the lines say of a role's name, word by word
abbrev pub role_words : List OptionLine → List ℕ → List OptionWord
role_words lines word = if is_role_name word then option_words (role_key word) lines else []

-- what is kept of a word is what the lines say; a word of which nothing is kept isn't mentioned
abbrev pub IsKept : Option OptionWords → List OptionWord → Bool → Type 0
IsKept None words mentioned = (words ≡ []) × (mentioned ≡ false)
IsKept (Some kept) words mentioned = IsOption kept words × (mentioned ≡ true)

pub record AreRoles (roles : RoleOptions) (lines : List OptionLine) : Type 0 where
  pub kept : (word : List ℕ) → IsKept (kept_at roles.table word) (role_words lines word) (is_mentioned lines word)
  pub names : (word : List ℕ) → holds roles.names word ≡ is_mentioned lines word

-- the table has at one word what was kept of it, with the words of a line behind, and at each other word what
-- it had
pub record PutsAt (old new : RoleOptions) (at : List ℕ) (words : List OptionWord) (line : OptionLine) : Type 0 where
  pub more : OptionWords
  pub option : IsOption more (words ++ words_of_line line)
  pub names : new.names ≡ old.names
  pub kept : (word : List ℕ) → kept_at new.table word ≡ (if bytes_eq at word then Some more else kept_at old.table word)
