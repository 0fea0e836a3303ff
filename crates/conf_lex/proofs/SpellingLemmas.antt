-- Statements are read from their canonical lines.
use Rattle.std.proofs.Common.{◌≡◌, ◌≤◌, ◌+◌, ◌-◌, ◌==◌, ℕ, List, [], ◌∷◌, ◌++◌, length, take, drop, Bool, true, false, arith, refl, sym, ap, subst, ◌∙◌, inl, inr, take-append-drop, length-append, nat_eq}
use Rattle.std.specs.Prelude.{codes, Option, Some, None, Ok, Err, if◌then◌else◌, ◌&&◌, ◌||◌, ◌⊎◌, not, nat_lt}
use Rattle.std.specs.List.{ends_with}
use Rattle.std.specs.Str.{bytes_eq}
use Rattle.std.proofs.lemmas.List.{append-nil}
use Rattle.std.proofs.Math.Seq.{drop-append_seam, take-append_seam}
use Rattle.std.proofs.lemmas.Bool.{eqb-true}
use Rattle.std.proofs.lemmas.Bool.Decides.{nat_tests}
use Rattle.conf_lex.specs.Cleaning.{before_comment, is_white}
use Rattle.conf_lex.specs.Permissions.{letters, perm_of, perm_text, writes}
use Rattle.conf_lex.specs.Words.{before_equals, after_equals, begins_with_at, first_bad, has_equals, is_bad, is_equals}
use Rattle.conf_lex.specs.Statements.{Answer, by_table, by_words, group_line, is_no_group, is_without_effect, nth, repo_line, rule_line, statement, unless_bad, unquoted}
use Rattle.conf_lex.specs.Spelling.{between, has_no_comment, spelled_pattern, spelled_words}
use Rattle.conf_lex.specs.declared.perm.Perm.{Perm}
use Rattle.conf_lex.specs.declared.words.Use.TheVariants.{Anything}
use Rattle.conf_lex.specs.declared.fault.LexFault.TheVariants.{BadPermission, BadWord}
use Rattle.conf_lex.specs.declared.statement.Statement.{Statement}
use Rattle.conf_lex.specs.declared.statement.Statement.TheVariants.{Blank, Group, Include, Opt, Repo, Rule, Subconf, NoEffect}
use Rattle.conf_lex.specs.Laws.{SpellingsAreRead}
use Rattle.conf_lex.proofs.ByteLemmas.{same_bytes, same_bytes_test}
use Rattle.conf_lex.proofs.WordLemmas.{IsFree}
use Rattle.conf_lex.proofs.PermLemmas.{by_word_cases, turned_letters}
use Rattle.conf_lex.proofs.CleanLemmas.{AreClean, IsApart, flat, has_mark, is_equals_byte, joined_is_clean, line_words, line_words_are_clean, statement_of_line, statement_of_words, unmarked_before, unmarked_stays}

pub first_true : (a b : Bool) → (a && b) ≡ true → a ≡ true
first_true true b e = refl
first_true false b e = e

second_true : (a b : Bool) → (a && b) ≡ true → b ≡ true
second_true true b e = e
second_true false b e = absurd cc

not_not : (a : Bool) → not a ≡ true → a ≡ false
not_not true e = absurd cc
not_not false e = refl

-- I. Quotes

-- a text and one byte more
last_byte : (text : List ℕ) (c : ℕ) → drop (length (text ++ c ∷ []) - 1) (text ++ c ∷ []) ≡ c ∷ []
last_byte text c = ap (λ n. drop n (text ++ c ∷ [])) (let size = length-append {A = ℕ} text (c ∷ []) in omega (arith, size)) ∙ drop-append_seam text (c ∷ [])

all_but_last : (text : List ℕ) (c : ℕ) → take (length (text ++ c ∷ []) - 1) (text ++ c ∷ []) ≡ text
all_but_last text c = ap (λ n. take n (text ++ c ∷ [])) (let size = length-append {A = ℕ} text (c ∷ []) in omega (arith, size)) ∙ take-append_seam text (c ∷ [])

-- what stands between quotes is read without them
unquoted_between : (quote : ℕ) (text : List ℕ) → ((quote == 34) || (quote == 39)) ≡ true → unquoted (between quote text) ≡ text
unquoted_between quote text e = rw (e, same_bytes_test (quote ∷ []) (drop (length (text ++ quote ∷ []) - 1) (text ++ quote ∷ [])) (sym (last_byte text quote))) (all_but_last text quote)

-- where a pair of quotes is dropped the word is what is left between them
abbrev pub IsQuoted : List ℕ → Type 0
IsQuoted word = (quote : ℕ) × (((quote == 34) || (quote == 39)) ≡ true) × (word ≡ between quote (unquoted word))

quoted_case : (a b : Bool) (q : ℕ) (rest : List ℕ) → ((q == 34) || (q == 39)) ≡ a → ends_with nat_eq rest (q ∷ []) ≡ b
    → (unquoted (q ∷ rest) ≡ q ∷ rest) ⊎ IsQuoted (q ∷ rest)
quoted_case true true q rest e f =
    let dropped : unquoted (q ∷ rest) ≡ take (length rest - 1) rest = rw (e, f) refl in
    let last : q ∷ [] ≡ drop (length rest - 1) rest = same_bytes (q ∷ []) (drop (length rest - 1) rest) f in
    inr (q, e, ap (λ l. q ∷ l) (sym (take-append-drop (length rest - 1) rest) ∙ ap (λ l. take (length rest - 1) rest ++ l) (sym last) ∙ ap (λ l. l ++ q ∷ []) (sym dropped)))
quoted_case true false q rest e f = inl (rw (e, f) refl)
quoted_case false b q rest e f = inl (rw e refl)

bare_or_quoted : (word : List ℕ) → (unquoted word ≡ word) ⊎ IsQuoted word
bare_or_quoted [] = inl refl
bare_or_quoted (q ∷ rest) = quoted_case _ _ q rest refl refl

-- II. Patterns of `include` and `subconf`

-- A word that may be the second of two.
pub record IsSecond (word : List ℕ) : Type 0 where
  pub free : IsFree is_white word
  pub full : (length word == 0) ≡ false
  pub apart : (word ≡ 61 ∷ []) ⊎ IsFree is_equals_byte word
  pub unmarked : has_mark false word ≡ false
  pub short : length word ≤ 1024

free_front : (test : ℕ → Bool) (a b : List ℕ) → IsFree test (a ++ b) → IsFree test a
free_front test [] b free = tt
free_front test (x ∷ a) b free = (free.0, free_front test a b free.1)

free_append : (test : ℕ → Bool) (a b : List ℕ) → IsFree test a → IsFree test b → IsFree test (a ++ b)
free_append test [] b fa fb = fb
free_append test (x ∷ a) b fa fb = (fa.0, free_append test a b fa.1 fb)

-- a quote at the end begins no comment
or_cases : (a : Bool) → (a || false) ≡ a
or_cases true = refl
or_cases false = refl

mark_append : (quoted : Bool) (text : List ℕ) (c : ℕ) → (c == 35) ≡ false → has_mark quoted (text ++ c ∷ []) ≡ has_mark quoted text
mark_append quoted [] c e = rw e refl
mark_append quoted (b ∷ bs) c e = ap (λ m. (b == 35 && not quoted) || m) (mark_append (if b == 34 then not quoted else quoted) bs c e)

free_between : (test : ℕ → Bool) (quote : ℕ) (text : List ℕ) → test quote ≡ false → IsFree test text → IsFree test (between quote text)
free_between test quote text e free = (e, free_append test text (quote ∷ []) free (e, tt))

length_between : (quote : ℕ) (text : List ℕ) → length (between quote text) ≡ length text + 2
length_between quote text = omega (arith, length-append {A = ℕ} text (quote ∷ []))

-- the two quotes
abbrev pub IsQuote : ℕ → Type 0
IsQuote quote = (quote ≡ 34) ⊎ (quote ≡ 39)

quote_of_case : (a b : Bool) (quote : ℕ) → (quote == 34) ≡ a → (quote == 39) ≡ b → (a || b) ≡ true → IsQuote quote
quote_of_case true b quote e f h = inl (eqb-true quote 34 e)
quote_of_case false true quote e f h = inr (eqb-true quote 39 f)
quote_of_case false false quote e f h = absurd cc

quote_of : (quote : ℕ) → ((quote == 34) || (quote == 39)) ≡ true → IsQuote quote
quote_of quote h = quote_of_case _ _ quote refl refl h

is_no_equals : (quote : ℕ) (text : List ℕ) → IsQuote quote → between quote text ≡ 61 ∷ [] → ⊥
is_no_equals quote text (inl q) e = let same : quote ≡ 61 = cc in absurd (omega arith)
is_no_equals quote text (inr q) e = let same : quote ≡ 61 = cc in absurd (omega arith)

equals_free : (quote : ℕ) (text : List ℕ) → IsQuote quote → (between quote text ≡ 61 ∷ []) ⊎ IsFree is_equals_byte (between quote text) → IsFree is_equals_byte text
equals_free quote text q (inl e) = absurd (is_no_equals quote text q e)
equals_free quote text q (inr free) = free_front is_equals_byte text (quote ∷ []) free.1

no_comment : (text : List ℕ) → has_no_comment text ≡ true → has_mark false text ≡ false
no_comment text e = sym (ap (has_mark false) (same_bytes (before_comment false text) text e)) ∙ unmarked_before false text

comment_none : (text : List ℕ) → has_mark false text ≡ false → has_no_comment text ≡ true
comment_none text e = same_bytes_test (before_comment false text) text (unmarked_stays false text e)

-- what a pattern's spelling is: the word is good, and read as the pattern
abbrev pub IsSpelledBy : List ℕ → List ℕ → Type 0
IsSpelledBy pattern word = IsSecond word × (unquoted word ≡ pattern)

has_some : (b : ℕ) (bs : List ℕ) → (length (b ∷ bs) == 0) ≡ false
has_some b bs = grind (arith, nat_tests)

-- between single quotes, where no comment begins in the pattern
single : (text : List ℕ) → IsFree is_white text → IsFree is_equals_byte text → length text + 2 ≤ 1024 → has_mark false text ≡ false → IsSpelledBy text (between 39 text)
single text white equals short unmarked = (
  record {
    free = free_between is_white 39 text refl white;
    full = has_some 39 (text ++ 39 ∷ []);
    apart = inr (free_between is_equals_byte 39 text refl equals);
    unmarked = mark_append false text 39 refl ∙ unmarked;
    short = omega (arith, length_between 39 text);
  },
  unquoted_between 39 text refl,
)

-- bare
bare : (text : List ℕ) → IsFree is_white text → IsFree is_equals_byte text → length text + 2 ≤ 1024 → (has_no_comment text && not (length text == 0) && bytes_eq (unquoted text) text) ≡ true → IsSpelledBy text text
bare text white equals short e =
    let plain : (has_no_comment text && not (length text == 0)) ≡ true = first_true (has_no_comment text && not (length text == 0)) _ e in (
      record {
        free = white;
        full = not_not (length text == 0) (second_true (has_no_comment text) _ plain);
        apart = inr equals;
        unmarked = no_comment text (first_true (has_no_comment text) _ plain);
        short = omega arith;
      },
      same_bytes (unquoted text) text (second_true (has_no_comment text && not (length text == 0)) _ e),
    )

-- a pattern that stood between quotes
spelled_case : (a b : Bool) (quote : ℕ) (text : List ℕ) → IsQuote quote → IsSecond (between quote text)
    → (has_no_comment text && not (length text == 0) && bytes_eq (unquoted text) text) ≡ a → has_no_comment text ≡ b
    → IsSpelledBy text (if a then text else if b then between 39 text else between 34 text)
spelled_case true b quote text q word e f =
    bare text (free_front is_white text (quote ∷ []) word.free.1) (equals_free quote text q word.apart) (let size = length_between quote text in let short = word.short in omega (arith, size, short)) e
spelled_case false true quote text q word e f =
    single text (free_front is_white text (quote ∷ []) word.free.1) (equals_free quote text q word.apart) (let size = length_between quote text in let short = word.short in omega (arith, size, short)) (no_comment text f)
spelled_case false false quote text (inl q) word e f = (subst (λ n. IsSecond (between n text)) q word, unquoted_between 34 text refl)
spelled_case false false quote text (inr q) word e f =
    let unmarked : has_mark false text ≡ false = sym (mark_append false text 39 refl) ∙ (rw q at word.unmarked) in
    let none : has_no_comment text ≡ true = comment_none text unmarked in
    absurd cc

spelled_quoted : (quote : ℕ) (text : List ℕ) → IsQuote quote → IsSecond (between quote text) → IsSpelledBy text (spelled_pattern text)
spelled_quoted quote text q word = spelled_case _ _ quote text q word refl refl

bare_case : (word : List ℕ) → IsSecond word → (unquoted word ≡ word) ⊎ IsQuoted word → IsSpelledBy (unquoted word) (spelled_pattern (unquoted word))
bare_case word second (inl same) =
    let spelled : spelled_pattern word ≡ word = rw (comment_none word second.unmarked, second.full, same_bytes_test (unquoted word) word same) refl in
    rw same (rw spelled (second, same))
bare_case word second (inr (quote, e, f)) = spelled_quoted quote (unquoted word) (quote_of quote e) (subst IsSecond f second)

-- the pattern of a word that may be the second of two is spelled by such a word
pattern_is_spelled : (word : List ℕ) → IsSecond word → IsSpelledBy (unquoted word) (spelled_pattern (unquoted word))
pattern_is_spelled word second = bare_case word second (bare_or_quoted word)

-- III. Rows

-- A statement whose canonical words are clean and say it.
abbrev pub IsSpelled : Statement → Type 0
IsSpelled s = AreClean (spelled_words s) × (by_words (spelled_words s) ≡ Ok s)

-- the answer is this statement
abbrev pub Says : Answer → Statement → Type 0
Says answer s = answer ≡ Ok s

pub same_statement : (a b : Statement) → Says (Ok a) b → b ≡ a
same_statement a b e = cc

-- a statement that is spelled by the words that it was read from
as_it_was : (ws : List (List ℕ)) (s : Statement) → AreClean ws → by_words ws ≡ Ok s → spelled_words s ≡ ws → IsSpelled s
as_it_was ws s clean says same = (subst AreClean (sym same) clean, ap by_words same ∙ says)

pub row : (c : Bool) (says others : Answer) (s : Statement) (P : Type 0) → (c ≡ true → says ≡ Ok s → P) → (others ≡ Ok s → P) → (if c then says else others) ≡ Ok s → P
row true says others s P here later e = here refl e
row false says others s P here later e = later e

pub unless_ok : (o : Option ℕ) (answer : Answer) (s : Statement) → unless_bad o answer ≡ Ok s → (o ≡ None) × (answer ≡ Ok s)
unless_ok None answer s e = (refl, e)
unless_ok (Some at) answer s e = absurd cc

pub sound_case : (c : Bool) (at : ℕ) (rest : Option ℕ) → (if c then Some at else rest) ≡ None → (c ≡ false) × (rest ≡ None)
sound_case true at rest e = absurd cc
sound_case false at rest e = (refl, e)

-- the second of two words isn't too long
second_is_short : (w q : List ℕ) → first_bad Anything 0 (w ∷ q ∷ []) ≡ None → length q ≤ 1024
second_is_short w q sound =
    let rest = (sound_case (is_bad Anything w) 0 _ sound).1 in
    let short : nat_lt 1024 (length q) ≡ false = (sound_case (is_bad Anything q) _ None rest).0 in
    grind (arith, nat_tests)

second_apart : (w q : List ℕ) → (w ≡ 61 ∷ [] → ⊥) → IsApart (w ∷ q ∷ []) → (q ≡ 61 ∷ []) ⊎ IsFree is_equals_byte q
second_apart w q no_equals (inl e) = absurd (no_equals e)
second_apart w q no_equals (inr (f, inl e)) = inl e
second_apart w q no_equals (inr (f, inr (g, u))) = inr g

second_of : (w q : List ℕ) → (w ≡ 61 ∷ [] → ⊥) → ((x : List ℕ) → has_mark false (w ++ x) ≡ has_mark false x) → AreClean (w ∷ q ∷ []) → first_bad Anything 0 (w ∷ q ∷ []) ≡ None → IsSecond q
second_of w q no_equals plain clean sound = record {
  free = clean.free.1.0;
  full = clean.full.1.0;
  apart = second_apart w q no_equals clean.apart;
  unmarked = sym (plain (q ++ []) ∙ ap (has_mark false) (append-nil q)) ∙ clean.unmarked;
  short = second_is_short w q sound;
}

-- no byte passes, by a test that computes
abbrev pub frees : (ℕ → Bool) → List ℕ → Bool
frees test [] = true
frees test (b ∷ bs) = not (test b) && frees test bs

free_by : (test : ℕ → Bool) (bs : List ℕ) → frees test bs ≡ true → IsFree test bs
free_by test [] e = tt
free_by test (b ∷ bs) e = (not_not (test b) (first_true (not (test b)) _ e), free_by test bs (second_true (not (test b)) _ e))

apart_second : (q : List ℕ) → (q ≡ 61 ∷ []) ⊎ IsFree is_equals_byte q → IsApart (q ∷ [])
apart_second q (inl e) = inl e
apart_second q (inr free) = inr (free, tt)

two_clean : (w q : List ℕ) → IsFree is_white w → (length w == 0) ≡ false → IsFree is_equals_byte w → ((x : List ℕ) → has_mark false (w ++ x) ≡ has_mark false x) → IsSecond q → AreClean (w ∷ q ∷ [])
two_clean w q white some equals plain second = record {
  free = (white, (second.free, tt));
  full = (some, (second.full, tt));
  apart = inr (equals, apart_second q second.apart);
  unmarked = plain (q ++ []) ∙ ap (has_mark false) (append-nil q) ∙ second.unmarked;
}

is_short : (n : ℕ) → n ≤ 1024 → nat_lt 1024 n ≡ false
is_short n small = grind (arith, nat_tests)

include_is_spelled : (q : List ℕ) → AreClean (codes "include" ∷ q ∷ []) → first_bad Anything 0 (codes "include" ∷ q ∷ []) ≡ None → IsSpelled (Include (unquoted q))
include_is_spelled q clean sound =
    let spelled : IsSpelledBy (unquoted q) (spelled_pattern (unquoted q)) = pattern_is_spelled q (second_of (codes "include") q (λ e. cc) (λ x. refl) clean sound) in (
      two_clean (codes "include") _ (free_by is_white (codes "include") refl) refl (free_by is_equals_byte (codes "include") refl) (λ x. refl) spelled.0,
      rw (is_short _ spelled.0.short, spelled.1) refl,
    )

subconf_is_spelled : (q : List ℕ) → AreClean (codes "subconf" ∷ q ∷ []) → first_bad Anything 0 (codes "subconf" ∷ q ∷ []) ≡ None → IsSpelled (Subconf (unquoted q))
subconf_is_spelled q clean sound =
    let spelled : IsSpelledBy (unquoted q) (spelled_pattern (unquoted q)) = pattern_is_spelled q (second_of (codes "subconf") q (λ e. cc) (λ x. refl) clean sound) in (
      two_clean (codes "subconf") _ (free_by is_white (codes "subconf") refl) refl (free_by is_equals_byte (codes "subconf") refl) (λ x. refl) spelled.0,
      rw (is_short _ spelled.0.short, spelled.1) refl,
    )

no_effect_is_spelled : IsSpelled NoEffect
no_effect_is_spelled = (
  record {
    free = (free_by is_white (codes "desc") refl, (free_by is_white (codes "=") refl, tt));
    full = (refl, (refl, tt));
    apart = inr (free_by is_equals_byte (codes "desc") refl, inl refl);
    unmarked = refl;
  },
  refl,
)

-- what stands around the first `=`, put together
around_case : (c : Bool) (w : List ℕ) (ws : List (List ℕ)) → is_equals w ≡ c → (c || has_equals ws) ≡ true → (has_equals ws ≡ true → before_equals ws ++ codes "=" ∷ after_equals ws ≡ ws)
    → (if c then [] else w ∷ before_equals ws) ++ codes "=" ∷ (if c then ws else after_equals ws) ≡ w ∷ ws
around_case true w ws e has later = ap (λ v. v ∷ ws) (sym (same_bytes w (codes "=") e))
around_case false w ws e has later = ap (λ l. w ∷ l) (later has)

around : (ws : List (List ℕ)) → has_equals ws ≡ true → before_equals ws ++ codes "=" ∷ after_equals ws ≡ ws
around [] has = absurd cc
around (w ∷ ws) has = around_case (is_equals w) w ws refl has (λ h. around ws h)

equals_first : (ws : List (List ℕ)) → is_equals (nth ws 0) ≡ true → codes "=" ∷ after_equals ws ≡ ws
equals_first [] e = absurd cc
equals_first (w ∷ ws) e = rw e (ap (λ v. v ∷ ws) (sym (same_bytes w (codes "=") e)))

repo_spelled : (w : List ℕ) (ws : List (List ℕ)) (s : Statement) → w ≡ codes "repo" → repo_line ws ≡ Ok s → spelled_words s ≡ w ∷ ws
repo_spelled w [] s e f = absurd cc
repo_spelled w (v ∷ vs) s e f =
    ap spelled_words (same_statement (Repo (v ∷ vs)) s (unless_ok _ _ s f).1) ∙ ap (λ x. x ∷ v ∷ vs) (sym e)

group_case : (c : Bool) (w : List ℕ) (members : List (List ℕ)) (o : Option ℕ) (s : Statement) → (if c then Err (BadWord 0) else unless_bad o (Ok (Group w members))) ≡ Ok s → s ≡ Group w members
group_case true w members o s e = absurd cc
group_case false w members o s e = same_statement (Group w members) s (unless_ok o _ s e).1

group_spelled : (w : List ℕ) (ws : List (List ℕ)) (s : Statement) → is_equals (nth ws 0) ≡ true → group_line w (after_equals ws) ≡ Ok s → spelled_words s ≡ w ∷ ws
group_spelled w ws s e f = ap spelled_words (group_case (is_no_group w) w (after_equals ws) _ s f) ∙ ap (λ l. w ∷ l) (equals_first ws e)

option_spelled : (w : List ℕ) (ws : List (List ℕ)) (s : Statement) → w ≡ codes "option" → (length ws == 3) ≡ true → is_equals (nth ws 1) ≡ true → Says (Ok (Opt (nth ws 0) (nth ws 2))) s → spelled_words s ≡ w ∷ ws
option_spelled w [] s e n f g = absurd cc
option_spelled w (a ∷ []) s e n f g = absurd cc
option_spelled w (a ∷ b ∷ []) s e n f g = absurd cc
option_spelled w (a ∷ b ∷ c ∷ []) s e n f g =
    ap spelled_words (same_statement (Opt a c) s g) ∙ ap (λ v. v ∷ a ∷ codes "=" ∷ c ∷ []) (sym e) ∙ ap (λ v. w ∷ a ∷ v ∷ c ∷ []) (sym (same_bytes b (codes "=") f))
option_spelled w (a ∷ b ∷ c ∷ d ∷ ws) s e n f g = absurd (grind (arith, nat_tests))

rest_apart : (w : List ℕ) (ws : List (List ℕ)) → (w ≡ 61 ∷ [] → ⊥) → IsApart (w ∷ ws) → IsApart ws
rest_apart w ws no_equals (inl e) = absurd (no_equals e)
rest_apart w ws no_equals (inr apart) = apart.1

-- a word without white space, `=`, quote or `#` in place of such a word
clean_with : (w v : List ℕ) (ws : List (List ℕ)) → frees is_white v ≡ true → (length v == 0) ≡ false → frees is_equals_byte v ≡ true
    → (w ≡ 61 ∷ [] → ⊥) → ((x : List ℕ) → has_mark false (w ++ x) ≡ has_mark false (v ++ x)) → AreClean (w ∷ ws) → AreClean (v ∷ ws)
clean_with w v ws white some equals no_equals marks clean = record {
  free = (free_by is_white v white, clean.free.1);
  full = (some, clean.full.1);
  apart = inr (free_by is_equals_byte v equals, rest_apart w ws no_equals clean.apart);
  unmarked = sym (marks (flat ws)) ∙ clean.unmarked;
}

-- Words that stay clean and say the same with another first word.
abbrev StaysWith : List ℕ → List (List ℕ) → Statement → Type 0
StaysWith w ws s = AreClean (w ∷ ws) × (by_words (w ∷ ws) ≡ Ok s)

-- `DC` turned to `CD`: the word stays as long as it is, and is read as the same permission
turned_stays : (a d : Bool) (ws : List (List ℕ)) (s : Statement) → StaysWith (codes "RW" ++ turned_letters a d) ws s → StaysWith (perm_text (writes a true true d)) ws s
turned_stays true true ws s (clean, says) = (clean_with (codes "RW+DCM") (codes "RW+CDM") ws refl refl refl (λ e. cc) (λ x. refl) clean, says)
turned_stays true false ws s (clean, says) = (clean_with (codes "RW+DC") (codes "RW+CD") ws refl refl refl (λ e. cc) (λ x. refl) clean, says)
turned_stays false true ws s (clean, says) = (clean_with (codes "RWDCM") (codes "RWCDM") ws refl refl refl (λ e. cc) (λ x. refl) clean, says)
turned_stays false false ws s (clean, says) = (clean_with (codes "RWDC") (codes "RWCD") ws refl refl refl (λ e. cc) (λ x. refl) clean, says)

-- a permission's text in place of the word that it was read from
text_stays : (w : List ℕ) (ws : List (List ℕ)) (s : Statement) (perm : Perm) → StaysWith w ws s → perm_of w ≡ Some perm → StaysWith (perm_text perm) ws s
text_stays w ws s perm stays e =
    let put : (v : List ℕ) → w ≡ v → StaysWith v ws s = λ v same. subst (λ v. StaysWith v ws s) same stays in
    by_word_cases w perm (λ p. StaysWith (perm_text p) ws s) (put (codes "-")) (put (codes "R")) (put (codes "C"))
    (λ a b c d same. put (codes "RW" ++ letters (writes a b c d)) same) (λ a d same. turned_stays a d ws s (put (codes "RW" ++ turned_letters a d) same)) e

-- a rule is spelled by the words that it was read from, with its permission's text in place of the first
rule_spelled : (w : List ℕ) (ws : List (List ℕ)) (s : Statement) (perm : Perm) → has_equals ws ≡ true → rule_line w (before_equals ws) (after_equals ws) (Some perm) ≡ Ok s → spelled_words s ≡ perm_text perm ∷ ws
rule_spelled w ws s perm has f =
    ap spelled_words (same_statement (Rule perm (before_equals ws) (after_equals ws)) s (unless_ok _ _ s f).1) ∙ ap (λ l. perm_text perm ∷ l) (around ws has)

rule_is_spelled : (w : List ℕ) (ws : List (List ℕ)) (s : Statement) (perm : Option Perm) → StaysWith w ws s → perm_of w ≡ perm → has_equals ws ≡ true → rule_line w (before_equals ws) (after_equals ws) perm ≡ Ok s → IsSpelled s
rule_is_spelled w ws s None stays e has f = absurd cc
rule_is_spelled w ws s (Some perm) stays e has f =
    let text : StaysWith (perm_text perm) ws s = text_stays w ws s perm stays e in
    as_it_was (perm_text perm ∷ ws) s text.0 text.1 (rule_spelled w ws s perm has f)

-- a first word `=` is no permission
rule_row : (c : Bool) (w : List ℕ) (ws : List (List ℕ)) (s : Statement) → StaysWith w ws s → is_equals w ≡ c → (c || has_equals ws) ≡ true → rule_line w (before_equals ws) (after_equals ws) (perm_of w) ≡ Ok s → IsSpelled s
rule_row true w ws s stays e has f =
    let none : perm_of w ≡ None = rw (same_bytes w (codes "=") e) refl in
    let refused : Says (Err BadPermission) s = subst (λ o. Says (rule_line w (before_equals ws) (after_equals ws) o) s) none f in
    absurd cc
rule_row false w ws s stays e has f = rule_is_spelled w ws s (perm_of w) stays refl has f

include_row : (w : List ℕ) (ws : List (List ℕ)) (s : Statement) → AreClean (w ∷ ws) → first_bad Anything 0 (w ∷ ws) ≡ None → w ≡ codes "include" → (length ws == 1) ≡ true → Says (Ok (Include (unquoted (nth ws 0)))) s → IsSpelled s
include_row w [] s clean sound e n f = absurd cc
include_row w (q ∷ []) s clean sound e n f =
    subst IsSpelled (sym (same_statement (Include (unquoted q)) s f)) (include_is_spelled q (subst (λ v. AreClean (v ∷ q ∷ [])) e clean) (subst (λ v. first_bad Anything 0 (v ∷ q ∷ []) ≡ None) e sound))
include_row w (q ∷ r ∷ ws) s clean sound e n f = absurd (grind (arith, nat_tests))

subconf_row : (w : List ℕ) (ws : List (List ℕ)) (s : Statement) → AreClean (w ∷ ws) → first_bad Anything 0 (w ∷ ws) ≡ None → w ≡ codes "subconf" → (length ws == 1) ≡ true → Says (Ok (Subconf (unquoted (nth ws 0)))) s → IsSpelled s
subconf_row w [] s clean sound e n f = absurd cc
subconf_row w (q ∷ []) s clean sound e n f =
    subst IsSpelled (sym (same_statement (Subconf (unquoted q)) s f)) (subconf_is_spelled q (subst (λ v. AreClean (v ∷ q ∷ [])) e clean) (subst (λ v. first_bad Anything 0 (v ∷ q ∷ []) ≡ None) e sound))
subconf_row w (q ∷ r ∷ ws) s clean sound e n f = absurd (grind (arith, nat_tests))

-- IV. The table

table_is_spelled : (w : List ℕ) (ws : List (List ℕ)) (s : Statement) → AreClean (w ∷ ws) → first_bad Anything 0 (w ∷ ws) ≡ None → by_words (w ∷ ws) ≡ Ok s → by_table (w ∷ ws) ≡ Ok s → IsSpelled s
table_is_spelled w ws s clean sound says e =
    row (bytes_eq w (codes "repo")) _ _ s (IsSpelled s) (λ c f. as_it_was (w ∷ ws) s clean says (repo_spelled w ws s (same_bytes w (codes "repo") c) f))
    (λ e1. row (bytes_eq w (codes "include") && (length ws == 1)) _ _ s (IsSpelled s)
    (λ c f. include_row w ws s clean sound (same_bytes w (codes "include") (first_true (bytes_eq w (codes "include")) _ c)) (second_true (bytes_eq w (codes "include")) _ c) f)
    (λ e2. row (bytes_eq w (codes "subconf") && (length ws == 1)) _ _ s (IsSpelled s)
    (λ c f. subconf_row w ws s clean sound (same_bytes w (codes "subconf") (first_true (bytes_eq w (codes "subconf")) _ c)) (second_true (bytes_eq w (codes "subconf")) _ c) f)
    (λ e3. row (begins_with_at w && is_equals (nth ws 0)) _ _ s (IsSpelled s)
    (λ c f. as_it_was (w ∷ ws) s clean says (group_spelled w ws s (second_true (begins_with_at w) _ c) f))
    (λ e4. row (bytes_eq w (codes "option") && (length ws == 3) && is_equals (nth ws 1)) _ _ s (IsSpelled s)
    (λ c f. let both : (bytes_eq w (codes "option") && (length ws == 3)) ≡ true = first_true (bytes_eq w (codes "option") && (length ws == 3)) _ c in
    as_it_was (w ∷ ws) s clean says (option_spelled w ws s (same_bytes w (codes "option") (first_true (bytes_eq w (codes "option")) _ both)) (second_true (bytes_eq w (codes "option")) _ both) (second_true (bytes_eq w (codes "option") && (length ws == 3)) _ c) f))
    (λ e5. row (is_without_effect w && has_equals ws) _ _ s (IsSpelled s) (λ c f. subst IsSpelled (sym (same_statement NoEffect s f)) no_effect_is_spelled)
    (λ e6. row (has_equals (w ∷ ws)) _ _ s (IsSpelled s) (λ c f. rule_row (is_equals w) w ws s (clean, says) refl c f)
    (λ e7. absurd cc) e6) e5) e4) e3) e2) e1) e

words_are_spelled : (ws : List (List ℕ)) (s : Statement) → AreClean ws → by_words ws ≡ Ok s → IsSpelled s
words_are_spelled [] s clean says = subst IsSpelled (sym (same_statement Blank s says)) (clean, refl)
words_are_spelled (w ∷ ws) s clean says =
    let parts = unless_ok (first_bad Anything 0 (w ∷ ws)) (by_table (w ∷ ws)) s says in
    table_is_spelled w ws s clean parts.0 says parts.1

is_spelled : (line : List ℕ) (s : Statement) → statement line ≡ Ok s → IsSpelled s
is_spelled line s e = words_are_spelled (line_words line) s (line_words_are_clean line) (sym (statement_of_line line) ∙ e)

pub spellings_are_read : SpellingsAreRead
spellings_are_read = record {
  read_back = λ line s e. let spelled : IsSpelled s = is_spelled line s e in statement_of_words (spelled_words s) spelled.0 ∙ spelled.1;
  clean = λ line s e. let spelled : IsSpelled s = is_spelled line s e in joined_is_clean (spelled_words s) spelled.0;
}
