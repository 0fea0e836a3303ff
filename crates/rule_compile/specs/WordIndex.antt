-- What an index holds, and where one that goes through its numbers has come. It serves private functions
-- alone.
use Rattle.std.specs.Prelude.{ℕ, suc, ◌≡◌, List, [], ◌∷◌, map, drop, Option, Some, None}
use Rattle.rule_compile.specs.Covering.{is_all_word, is_pattern_word, is_plain_word, may_cover}
use Rattle.rule_compile.specs.Index.{numbers, numbers_at, numbers_from, pattern_text}
use Rattle.rule_compile.specs.declared.rule.RepoWord.{RepoWord}
use Rattle.rule_compile.specs.declared.cursor.Cursor.{Cursor}
use Rattle.rule_compile.specs.declared.word_index.WordIndex.{WordIndex}

-- the index is that of the words
pub record Indexes (index : WordIndex) (words : List RepoWord) : Type 0 where
  pub plain : (name : List ℕ) → numbers_at index.plain name ≡ numbers (is_plain_word name) words
  pub all : index.all ≡ numbers is_all_word words
  pub pattern_numbers : index.pattern_numbers ≡ numbers is_pattern_word words
  pub patterns : index.patterns ≡ map pattern_text words

-- the cursor has gone through the first so many of the words, for a name
pub record IsAt (cursor : Cursor) (words : List RepoWord) (name : List ℕ) (place : ℕ) : Type 0 where
  pub plain : cursor.plain.now ≡ numbers_from (is_plain_word name) (suc place) (drop place words)
  pub all : cursor.all.now ≡ numbers_from is_all_word (suc place) (drop place words)
  pub patterns : cursor.patterns.now ≡ numbers_from is_pattern_word (suc place) (drop place words)

-- the numbers that are left
abbrev pub numbers_left : List RepoWord → List ℕ → ℕ → List ℕ
numbers_left words name place = numbers_from (may_cover name) (suc place) (drop place words)

-- the next number, if there is one, is the first that is left, and the cursor has come to it; without one it
-- stays
abbrev pub GoesOn : Cursor → List RepoWord → List ℕ → ℕ → Option ℕ → Type 0
GoesOn new words name place None = (numbers_left words name place ≡ []) × IsAt new words name place
GoesOn new words name place (Some n) = (numbers_left words name place ≡ n ∷ numbers_left words name n) × IsAt new words name n
