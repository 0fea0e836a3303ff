-- The texts of permissions.
use Rattle.std.proofs.Common.{◌≡◌, ◌==◌, ℕ, List, [], ◌∷◌, ◌++◌, take, drop, length, Bool, true, false, arith, refl, sym, ap, subst, ◌∙◌, inl, inr, nat_eq, take-append-drop}
use Rattle.std.specs.Prelude.{codes, Option, Some, None, if◌then◌else◌}
use Rattle.std.specs.List.{starts_with}
use Rattle.std.specs.Str.{bytes_eq}
use Rattle.std.proofs.lemmas.Bool.{eqb-true}
use Rattle.std.proofs.lemmas.Bool.Decides.{nat_tests}
use Rattle.std.proofs.lemmas.List.{append-nil}
use Rattle.conf_lex.specs.declared.perm.Perm.{Perm}
use Rattle.conf_lex.specs.Permissions.{after_letter, creates, denies, has_letter, letter, letters, perm_of, perm_text, reads, writes}
use Rattle.conf_lex.specs.Laws.{IsTurned, IsWordOf, PermTextsAreRead}
use Rattle.conf_lex.proofs.ByteLemmas.{same_bytes}

row : (c : Bool) (q p : Perm) (other : Option Perm) (P : Perm → Type 0) → (c ≡ true → P q) → (other ≡ Some p → P p) → (if c then Some q else other) ≡ Some p → P p
row true q p other P here later e = let same : p ≡ q = cc in subst P (sym same) (here refl)
row false q p other P here later e = later e

guarded : (c : Bool) (p : Perm) (some : Option Perm) (P : Perm → Type 0) → (c ≡ true → some ≡ Some p → P p) → (if c then some else None) ≡ Some p → P p
guarded true p some P here e = here refl e
guarded false p some P here e = absurd cc

letter_case : (c : Bool) (x b : ℕ) (bs : List ℕ) → (b == x) ≡ c → letter c x ++ (if c then bs else b ∷ bs) ≡ b ∷ bs
letter_case true x b bs e = ap (λ n. n ∷ bs) (sym (eqb-true b x e))
letter_case false x b bs e = refl

-- a letter, if it is at the front, and what follows it
letter_back : (x : ℕ) (bs : List ℕ) → letter (has_letter x bs) x ++ after_letter x bs ≡ bs
letter_back x [] = refl
letter_back x (b ∷ bs) = letter_case (b == x) x b bs refl

no_byte : (bs : List ℕ) → (length bs == 0) ≡ true → bs ≡ []
no_byte [] e = refl
no_byte (b ∷ bs) e = absurd (grind (arith, nat_tests))

-- the last letter, where nothing follows it
last_back : (m : List ℕ) → (length (after_letter 77 m) == 0) ≡ true → m ≡ letter (has_letter 77 m) 77
last_back m e = sym (letter_back 77 m) ∙ ap (λ l. letter (has_letter 77 m) 77 ++ l) (no_byte (after_letter 77 m) e) ∙ append-nil (letter (has_letter 77 m) 77)

-- the letters from `C` on, where nothing follows the last
letters_from_c : (c : List ℕ) → (length (after_letter 77 (after_letter 68 (after_letter 67 c))) == 0) ≡ true
    → c ≡ letter (has_letter 67 c) 67 ++ (letter (has_letter 68 (after_letter 67 c)) 68 ++ letter (has_letter 77 (after_letter 68 (after_letter 67 c))) 77)
letters_from_c c e =
    let d : List ℕ = after_letter 67 c in
    let m : List ℕ = after_letter 68 d in
    sym (letter_back 67 c)
    ∙ ap (λ l. letter (has_letter 67 c) 67 ++ l) (sym (letter_back 68 d))
    ∙ ap (λ l. letter (has_letter 67 c) 67 ++ (letter (has_letter 68 d) 68 ++ l)) (last_back m e)

-- the permission by the letters after `RW`, and by those from `C` on
abbrev writes_from : List ℕ → List ℕ → Option Perm
writes_from plus c =
    let d = after_letter 67 c in
    let m = after_letter 68 d in
    if length (after_letter 77 m) == 0
    then Some (writes (has_letter 43 plus) (has_letter 67 c) (has_letter 68 d) (has_letter 77 m))
    else None

-- `DC` between `+` and `M`
abbrev pub turned_letters : Bool → Bool → List ℕ
turned_letters plus m = letter plus 43 ++ (codes "DC" ++ letter m 77)

-- by whether `DC` is there
order_case : (t : Bool) (plus : List ℕ) (p : Perm) (P : Perm → Type 0) → starts_with nat_eq (after_letter 43 plus) (codes "DC") ≡ t
    → ((a b c d : Bool) → plus ≡ letters (writes a b c d) → P (writes a b c d))
    → ((a d : Bool) → plus ≡ turned_letters a d → P (writes a true true d))
    → writes_from plus (if t then codes "CD" ++ drop 2 (after_letter 43 plus) else after_letter 43 plus) ≡ Some p → P p
order_case true plus p P front straight turned e =
    let rest : List ℕ = after_letter 43 plus in
    let m : List ℕ = drop 2 rest in
    row (length (after_letter 77 m) == 0) _ p None P
    (λ h. turned (has_letter 43 plus) (has_letter 77 m)
    (sym (letter_back 43 plus) ∙ ap (λ l. letter (has_letter 43 plus) 43 ++ l)
    (sym (take-append-drop 2 rest) ∙ ap (λ l. l ++ m) (sym (same_bytes (codes "DC") (take 2 rest) front)) ∙ ap (λ l. codes "DC" ++ l) (last_back m h))))
    (λ none. absurd cc) e
order_case false plus p P front straight turned e =
    let c : List ℕ = after_letter 43 plus in
    row (length (after_letter 77 (after_letter 68 (after_letter 67 c))) == 0) _ p None P
    (λ h. straight (has_letter 43 plus) (has_letter 67 c) (has_letter 68 (after_letter 67 c)) (has_letter 77 (after_letter 68 (after_letter 67 c)))
    (sym (letter_back 43 plus) ∙ ap (λ l. letter (has_letter 43 plus) 43 ++ l) (letters_from_c c h)))
    (λ none. absurd cc) e

-- What holds of each permission where the word is its text, or its text with `DC`, holds of what the word is
-- read as.
pub by_word_cases : (word : List ℕ) (p : Perm) (P : Perm → Type 0)
    → (word ≡ codes "-" → P denies) → (word ≡ codes "R" → P reads) → (word ≡ codes "C" → P creates)
    → ((a b c d : Bool) → word ≡ codes "RW" ++ letters (writes a b c d) → P (writes a b c d))
    → ((a d : Bool) → word ≡ codes "RW" ++ turned_letters a d → P (writes a true true d))
    → perm_of word ≡ Some p → P p
by_word_cases word p P dash r c straight turned e =
    row (bytes_eq word (codes "-")) denies p _ P (λ h. dash (same_bytes word (codes "-") h))
    (λ e2. row (bytes_eq word (codes "R")) reads p _ P (λ h. r (same_bytes word (codes "R") h))
    (λ e3. row (bytes_eq word (codes "C")) creates p _ P (λ h. c (same_bytes word (codes "C") h))
    (λ e4. guarded (starts_with nat_eq word (codes "RW")) p _ P
    (λ h f. let whole : codes "RW" ++ drop 2 word ≡ word = ap (λ l. l ++ drop 2 word) (same_bytes (codes "RW") (take 2 word) h) ∙ take-append-drop 2 word in
    order_case _ (drop 2 word) p P refl
    (λ a b c d l. straight a b c d (sym whole ∙ ap (λ ls. codes "RW" ++ ls) l))
    (λ a d l. turned a d (sym whole ∙ ap (λ ls. codes "RW" ++ ls) l)) f)
    e4) e3) e2) e

writing : (plus c d m : Bool) → perm_of (perm_text (writes plus c d m)) ≡ Some (writes plus c d m)
writing true true true true = refl
writing true true true false = refl
writing true true false true = refl
writing true true false false = refl
writing true false true true = refl
writing true false true false = refl
writing true false false true = refl
writing true false false false = refl
writing false true true true = refl
writing false true true false = refl
writing false true false true = refl
writing false true false false = refl
writing false false true true = refl
writing false false true false = refl
writing false false false true = refl
writing false false false false = refl

read_back : (word : List ℕ) (p : Perm) → perm_of word ≡ Some p → perm_of (perm_text p) ≡ Some p
read_back word p e = by_word_cases word p (λ q. perm_of (perm_text q) ≡ Some q) (λ w. refl) (λ w. refl) (λ w. refl) (λ a b c d w. writing a b c d) (λ a d w. writing a true true d) e

turned_text : (a d : Bool) → IsTurned (perm_text (writes a true true d)) (codes "RW" ++ turned_letters a d)
turned_text true d = record { before = codes "RW+"; after = letter d 77; canonical = refl; turned = refl }
turned_text false d = record { before = codes "RW"; after = letter d 77; canonical = refl; turned = refl }

only_its_words : (word : List ℕ) (p : Perm) → perm_of word ≡ Some p → IsWordOf p word
only_its_words word p e =
    by_word_cases word p (λ q. IsWordOf q word) (λ w. inl w) (λ w. inl w) (λ w. inl w) (λ a b c d w. inl w)
    (λ a d w. inr (subst (λ v. IsTurned (perm_text (writes a true true d)) v) (sym w) (turned_text a d))) e

abbrev IfTrue : Bool → Type 0 → Type 0
IfTrue true P = P
IfTrue false P = Unit {0}

-- each word that comes of the text by turning one `CD` of it
abbrev AllTurns : (List ℕ → Type 0) → List ℕ → Type 0
AllTurns P [] = Unit {0}
AllTurns P (b ∷ bs) = IfTrue (starts_with nat_eq (b ∷ bs) (codes "CD")) (P (codes "DC" ++ drop 1 bs)) × AllTurns (λ w. P (b ∷ w)) bs

one_turn : (P : List ℕ → Type 0) (before after : List ℕ) → AllTurns P (before ++ (codes "CD" ++ after)) → P (before ++ (codes "DC" ++ after))
one_turn P [] after all = all.0
one_turn P (b ∷ bs) after all = one_turn (λ w. P (b ∷ w)) bs after all.1

abbrev AllTurnsAreRead : Perm → Type 0
AllTurnsAreRead p = AllTurns (λ w. perm_of w ≡ Some p) (perm_text p)

writes_turned : (a b c d : Bool) → AllTurnsAreRead (writes a b c d)
writes_turned true true true true = (tt, (tt, (tt, (refl, (tt, (tt, tt))))))
writes_turned true true true false = (tt, (tt, (tt, (refl, (tt, tt)))))
writes_turned true true false true = (tt, (tt, (tt, (tt, (tt, tt)))))
writes_turned true true false false = (tt, (tt, (tt, (tt, tt))))
writes_turned true false true true = (tt, (tt, (tt, (tt, (tt, tt)))))
writes_turned true false true false = (tt, (tt, (tt, (tt, tt))))
writes_turned true false false true = (tt, (tt, (tt, (tt, tt))))
writes_turned true false false false = (tt, (tt, (tt, tt)))
writes_turned false true true true = (tt, (tt, (refl, (tt, (tt, tt)))))
writes_turned false true true false = (tt, (tt, (refl, (tt, tt))))
writes_turned false true false true = (tt, (tt, (tt, (tt, tt))))
writes_turned false true false false = (tt, (tt, (tt, tt)))
writes_turned false false true true = (tt, (tt, (tt, (tt, tt))))
writes_turned false false true false = (tt, (tt, (tt, tt)))
writes_turned false false false true = (tt, (tt, (tt, tt)))
writes_turned false false false false = (tt, (tt, tt))

all_turns_are_read : (p : Perm) → perm_of (perm_text p) ≡ Some p → AllTurnsAreRead p
all_turns_are_read p e = by_word_cases (perm_text p) p AllTurnsAreRead (λ w. (tt, tt)) (λ w. (tt, tt)) (λ w. (tt, tt)) (λ a b c d w. writes_turned a b c d) (λ a d w. writes_turned a true true d) e

all_its_words : (word : List ℕ) (p : Perm) → perm_of (perm_text p) ≡ Some p → IsWordOf p word → perm_of word ≡ Some p
all_its_words word p e (inl same) = ap perm_of same ∙ e
all_its_words word p e (inr turns) =
    ap perm_of turns.turned ∙ one_turn (λ w. perm_of w ≡ Some p) turns.before turns.after (subst (AllTurns (λ w. perm_of w ≡ Some p)) turns.canonical (all_turns_are_read p e))

pub perm_texts_are_read : PermTextsAreRead
perm_texts_are_read = record { read_back = read_back; only_its_words = only_its_words; all_its_words = all_its_words; denial = refl; reading = refl; creation = refl; writing = writing }
