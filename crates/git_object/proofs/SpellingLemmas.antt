-- What is read is spelled so, and what is spelled so is read: words, ids, lines, and one value after another.
use Rattle.std.proofs.Common.{◌≡◌, ◌≢◌, ℕ, zero, suc, inl, inr, nat_lt, nat_le, is_some, ◌+◌, ◌*◌, ◌/◌, ◌%◌, ◌<◌, ◌==◌, Bool, true, false, cond, ◌&&◌, ◌||◌, not, List, [], ◌∷◌, ◌++◌, length, take, drop, slice_index, Option, Some, None, Result, Ok, Err, unwrap_or, refl, sym, ◌∙◌, ap, ap₂, arith, append_assoc, take-append-drop}
use Rattle.hex.specs.declared.error.FromHexError.{FromHexError}
use Rattle.hex.specs.declared.error.FromHexError.TheVariants.{InvalidStringLength, OddLength}
use Rattle.hex.proofs.Pairs.{decode_pairs-ok_pair, cons_byte}
use Rattle.std.specs.List.{flat_map, list_all, AllByRecursion}
use Rattle.std.specs.Option.{option_map, option_map_or}
use Rattle.std.specs.Result.{result_ok}
use Rattle.std.proofs.lemmas.Bool.{agree_below_at, and_parts, eqb-true, leb-true, ltb-true, or_cases, not_from_true}
use Rattle.std.proofs.lemmas.List.{take_at, drop_at}
use Rattle.std.proofs.lemmas.Slice.Eq.{bytes_eq-Decides}
use Rattle.hex.specs.Hex.{decode_sized, decode_pairs, encode_with, lower_digits, hex_digit_value, pair_value}
use Rattle.hex.proofs.HexLemmas.{decode_pairs-ok, length-encode_with}
use Rattle.git_object.specs.Reader.{◌>>=◌, literal, items_within, behind_within, items, behind}
use Rattle.git_object.specs.ObjectId.{id_from, is_lower_digit, id_of_hex, hex_of, hex_id, id_line}
use Rattle.git_object.specs.Spelling.{IsId, spelled_line}
use Rattle.git_object.specs.declared.object_id.ObjectId.{ObjectId}
use Rattle.git_object.proofs.ReaderLemmas.{bind_some, some_is, literal_takes, Shrinks, items-some, items-none, behind-some, behind-none}
use Rattle.git_object.proofs.IdLemmas.{id_of_hex-encode_lower}

-- ---- words

pub literal_again : (word rest : List ℕ) → literal word (word ++ rest) ≡ Some rest
unfolding literal
literal_again word rest = rw (take_at word rest (length word) refl, drop_at word rest (length word) refl, (bytes_eq-Decides word word).1 refl) refl

-- a word that is not at the front
pub literal_not : (word bytes : List ℕ) → ((more : List ℕ) → bytes ≢ word ++ more) → literal word bytes ≡ None
literal_not word bytes not_there =
    elim (literal word bytes) as (λ o. literal word bytes ≡ o → o ≡ None) [
      | None ↦ λ e. refl
      | Some rest ↦ λ e. absurd (not_there rest (literal_takes word bytes rest e))
    ] refl

pub literal_absent : (word bytes more : List ℕ) → literal word bytes ≡ None → bytes ≢ word ++ more
literal_absent word bytes more none e = let some = ap (literal word) e ∙ literal_again word more in cc

-- ---- ids

digit_value_of : ℕ → ℕ
digit_value_of c = unwrap_or (hex_digit_value c) 99

-- what each lower-case digit has: a value below sixteen, which the table of digits leads back to it
abbrev reads_back : ℕ → Bool
reads_back c = is_some (hex_digit_value c) && (nat_lt (unwrap_or (hex_digit_value c) 99) 16 && (slice_index lower_digits (unwrap_or (hex_digit_value c) 99) == c))

lower_below : (c : ℕ) → is_lower_digit c ≡ true → c < 103
lower_below c lower =
    elim (or_cases (nat_le 48 c && nat_le c 57) (nat_le 97 c && nat_le c 102) lower) [
      | inl d ↦ let le = leb-true c 57 (and_parts (nat_le 48 c) (nat_le c 57) d).1 in omega arith
      | inr d ↦ let le = leb-true c 102 (and_parts (nat_le 97 c) (nat_le c 102) d).1 in omega arith
    ]

digit_reads_back : (c : ℕ) → is_lower_digit c ≡ true → reads_back c ≡ true
digit_reads_back c lower =
    elim (or_cases (not (is_lower_digit c)) (reads_back c) (agree_below_at (λ c. not (is_lower_digit c) || reads_back c) (λ _. true) 103 c refl (lower_below c lower))) [
      | inl n ↦ absurd (let f = not_from_true (is_lower_digit c) lower in cc)
      | inr x ↦ x
    ]

some_value : (o : Option ℕ) → is_some o ≡ true → o ≡ Some (unwrap_or o 99)
some_value (Some v) h = refl
some_value None h = absurd cc

-- a digit's value, that it is below sixteen, and the digit again
pub record ReadsBack (c : ℕ) : Type 0 where
  pub v : ℕ
  pub value : hex_digit_value c ≡ Some v
  pub small : v < 16
  pub again : slice_index lower_digits v ≡ c

digit_facts : (c : ℕ) → is_lower_digit c ≡ true → ReadsBack c
digit_facts c lower =
    let a = and_parts _ _ (digit_reads_back c lower) in
    let b = and_parts _ _ a.1 in
    record { v = unwrap_or (hex_digit_value c) 99; value = some_value (hex_digit_value c) a.0; small = ltb-true _ 16 b.0; again = eqb-true _ c b.1 }

-- a byte of two values
byte_parts : (a b : ℕ) → a < 16 → b < 16 → ((a * 16 + b) / 16 ≡ a) × ((a * 16 + b) % 16 ≡ b)
byte_parts a b p q = (omega arith, omega arith)

-- lower-case digits that are decoded are the encoding of what they were decoded to
encode-decode_pairs : (i : ℕ) (text bytes : List ℕ) → decode_pairs i text ≡ Ok bytes → list_all is_lower_digit text ≡ true → encode_with lower_digits bytes ≡ text
unfolding decode_pairs encode_with
encode-decode_pairs i [] bytes e lower =
    let nil : [] ≡ bytes = cc in
    rw (← nil) refl
encode-decode_pairs i (a ∷ []) bytes e lower = absurd cc
encode-decode_pairs i (a ∷ b ∷ rest) bytes e lower =
    let la = and_parts (is_lower_digit a) (is_lower_digit b && list_all is_lower_digit rest) lower in
    let lb = and_parts (is_lower_digit b) (list_all is_lower_digit rest) la.1 in
    let fa = digit_facts a la.0 in
    let fb = digit_facts b lb.0 in
    let pair : pair_value a b i ≡ Ok (fa.v * 16 + fb.v) = rw (fa.value, fb.value) refl in
    let step = sym (decode_pairs-ok_pair i a b (fa.v * 16 + fb.v) rest pair) ∙ e in
    elim (decode_pairs (i + 2) rest) as (λ r. decode_pairs (i + 2) rest ≡ r → cons_byte (fa.v * 16 + fb.v) r ≡ Ok bytes → encode_with lower_digits bytes ≡ a ∷ b ∷ rest) [
      | Err d ↦ λ is h. absurd cc
      | Ok others ↦ λ is h.
          let all : (fa.v * 16 + fb.v) ∷ others ≡ bytes = cc in
          let ih = encode-decode_pairs (i + 2) rest others is lb.1 in
          let parts = byte_parts fa.v fb.v fa.small fb.small in
          rw (← all) (ap₂ ◌∷◌ (ap (slice_index lower_digits) parts.0 ∙ fa.again) (ap₂ ◌∷◌ (ap (slice_index lower_digits) parts.1 ∙ fb.again) ih))
    ] refl step

-- ---- tests that led to a value

cond_opt : {A : Type 0} (b : Bool) (o : Option A) (y : A) → cond b o None ≡ Some y → (b ≡ true) × (o ≡ Some y)
cond_opt true o y e = (refl, e)
cond_opt false o y e = absurd cc

decoded : (r : Result (List ℕ) FromHexError) (id : ObjectId) → option_map id_from (result_ok r) ≡ Some id → r ≡ Ok id.bytes
decoded (Ok bytes) id e = let same : id_from bytes ≡ id = cc in ap (λ (k : ObjectId). Ok k.bytes) same
decoded (Err d) id e = absurd cc

sized_pairs : (text bytes : List ℕ) → decode_sized text 20 ≡ Ok bytes → (decode_pairs 0 text ≡ Ok bytes) × (length text / 2 ≡ 20)
sized_pairs text bytes e =
    elim (length text % 2 == 1) as (λ b. cond b (Err OddLength) (cond (length text / 2 == 20) (decode_pairs 0 text) (Err InvalidStringLength)) ≡ Ok bytes → (decode_pairs 0 text ≡ Ok bytes) × (length text / 2 ≡ 20)) [
      | true ↦ λ h. absurd cc
      | false ↦ elim (length text / 2 == 20) as (λ b. (length text / 2 == 20) ≡ b → cond b (decode_pairs 0 text) (Err InvalidStringLength) ≡ Ok bytes → (decode_pairs 0 text ≡ Ok bytes) × (length text / 2 ≡ 20)) [
        | true ↦ λ is h. (h, eqb-true (length text / 2) 20 is)
        | false ↦ λ is h. absurd cc
      ] refl
    ] e

-- a text that is read as an id is its digits
pub id_of_hex_takes : (text : List ℕ) (id : ObjectId) → id_of_hex text ≡ Some id → (text ≡ hex_of id) × IsId id
unfolding id_of_hex
id_of_hex_takes text id e =
    let a = cond_opt (list_all is_lower_digit text) (option_map id_from (result_ok (decode_sized text 20))) id e in
    let pairs = sized_pairs text id.bytes (decoded (decode_sized text 20) id a.1) in
    let ok = decode_pairs-ok 0 text id.bytes pairs.0 in
    let twice : length text ≡ 2 * length id.bytes = ok.1 in
    let half : length text / 2 ≡ 20 = pairs.1 in
    (sym (encode-decode_pairs 0 text id.bytes pairs.0 a.0), record { twenty = omega arith; bytes = ok.2 })

-- ---- lines

line_parts : (word digits rest : List ℕ) → word ++ (digits ++ 10 ∷ rest) ≡ (word ++ (digits ++ 10 ∷ [])) ++ rest
line_parts word digits rest = ap (λ (t : List ℕ). word ++ t) (sym (append_assoc digits (10 ∷ []) rest)) ∙ sym (append_assoc word (digits ++ 10 ∷ []) rest)

pub hex_id_spelled : (bytes rest : List ℕ) (id : ObjectId) → hex_id bytes ≡ Some (id, rest) → (bytes ≡ hex_of id ++ rest) × IsId id
unfolding hex_id
hex_id_spelled bytes rest id e =
    let b = bind_some (id_of_hex (take 40 bytes)) (λ found. Some (found, drop 40 bytes)) (id, rest) e in
    let parts = some_is (b.0, drop 40 bytes) (id, rest) b.2 in
    let same : b.0 ≡ id = ap (λ (p : ObjectId × List ℕ). p.0) parts in
    let behind : drop 40 bytes ≡ rest = ap (λ (p : ObjectId × List ℕ). p.1) parts in
    let takes = id_of_hex_takes (take 40 bytes) id (b.1 ∙ ap (λ (k : ObjectId). Some k) same) in
    (sym (take-append-drop 40 bytes) ∙ ap₂ ◌++◌ takes.0 behind, takes.1)

-- a line that is read is spelled so
pub id_line_spelled : (word bytes rest : List ℕ) (id : ObjectId) → id_line word bytes ≡ Some (id, rest) → (bytes ≡ spelled_line word id ++ rest) × IsId id
unfolding id_line
id_line_spelled word bytes rest id e =
    let a = bind_some (literal word bytes) (λ digits. hex_id digits >>= λ id. literal (10 ∷ []) id.1 >>= λ rest. Some (id.0, rest)) (id, rest) e in
    let b = bind_some (hex_id a.0) (λ id. literal (10 ∷ []) id.1 >>= λ rest. Some (id.0, rest)) (id, rest) a.2 in
    let c = bind_some (literal (10 ∷ []) b.0.1) (λ rest. Some (b.0.0, rest)) (id, rest) b.2 in
    let parts = some_is (b.0.0, c.0) (id, rest) c.2 in
    let same : b.0.0 ≡ id = ap (λ (p : ObjectId × List ℕ). p.0) parts in
    let last : c.0 ≡ rest = ap (λ (p : ObjectId × List ℕ). p.1) parts in
    let digits = hex_id_spelled a.0 b.0.1 id (b.1 ∙ ap (λ (k : ObjectId). Some (k, b.0.1)) same) in
    let end : b.0.1 ≡ 10 ∷ rest = literal_takes (10 ∷ []) b.0.1 c.0 c.1 ∙ ap (λ (t : List ℕ). 10 ∷ t) last in
    (literal_takes word bytes a.0 a.1 ∙ ap (λ (t : List ℕ). word ++ t) (digits.0 ∙ ap (λ (t : List ℕ). hex_of id ++ t) end) ∙ line_parts word (hex_of id) rest, digits.1)

hex_id_again : (id : ObjectId) (rest : List ℕ) → IsId id → hex_id (hex_of id ++ rest) ≡ Some (id, rest)
unfolding hex_id
hex_id_again id rest is =
    let len : length (hex_of id) ≡ 40 = length-encode_with lower_digits id.bytes ∙ ap (λ n. 2 * n) is.twenty in
    let read : id_of_hex (hex_of id) ≡ Some id = id_of_hex-encode_lower id.bytes is.twenty is.bytes in
    rw (take_at (hex_of id) rest 40 len, drop_at (hex_of id) rest 40 len, read) refl

-- a line that is spelled is read
pub id_line_again : (word : List ℕ) (id : ObjectId) (rest : List ℕ) → IsId id → id_line word (spelled_line word id ++ rest) ≡ Some (id, rest)
unfolding id_line
id_line_again word id rest is =
    ap (λ (t : List ℕ). literal word t >>= λ digits. hex_id digits >>= λ id. literal (10 ∷ []) id.1 >>= λ rest. Some (id.0, rest)) (sym (line_parts word (hex_of id) rest))
    ∙ rw (literal_again word (hex_of id ++ 10 ∷ rest), hex_id_again id (10 ∷ rest) is) (rw (literal_again (10 ∷ []) rest) refl)

-- ---- one value after another

module _ {A : Type 0} (read : List ℕ → Option (A × List ℕ)) (spell : A → List ℕ) (Good : A → Type 0) where
  -- what is read is spelled so, and good
  pub record Takes : Type 0 where
    pub takes : (bytes rest : List ℕ) (x : A) → read bytes ≡ Some (x, rest) → (bytes ≡ spell x ++ rest) × Good x

  -- what is spelled so and good is read
  pub record Reads : Type 0 where
    pub again : (x : A) (rest : List ℕ) → Good x → read (spell x ++ rest) ≡ Some (x, rest)

  spelled_within : Takes → (n : ℕ) (bytes : List ℕ) → (bytes ≡ flat_map spell (items_within read n bytes) ++ behind_within read n bytes) × AllByRecursion Good (items_within read n bytes)
  unfolding items_within behind_within
  spelled_within t zero bytes = (refl, tt)
  spelled_within t (suc n) bytes =
      elim (read bytes) as (λ o. read bytes ≡ o → (bytes ≡ flat_map spell (option_map_or (λ x. x.0 ∷ items_within read n x.1) o []) ++ option_map_or (λ x. behind_within read n x.1) o bytes)
      × AllByRecursion Good (option_map_or (λ x. x.0 ∷ items_within read n x.1) o [])) [
        | None ↦ λ e. (refl, tt)
        | Some x ↦ λ e.
            let first = t.takes bytes x.1 x.0 e in
            let others = spelled_within t n x.1 in
            (first.0 ∙ ap (λ (r : List ℕ). spell x.0 ++ r) others.0 ∙ sym (append_assoc (spell x.0) (flat_map spell (items_within read n x.1)) (behind_within read n x.1)), (first.1, others.1))
      ] refl

  -- the bytes are the spelling of the values and of what follows them
  pub items_spelled : Takes → (bytes : List ℕ) → (bytes ≡ flat_map spell (items read bytes) ++ behind read bytes) × AllByRecursion Good (items read bytes)
  items_spelled t bytes = spelled_within t (length bytes) bytes

  -- values that are spelled are read, as are those behind them
  pub items_again : Shrinks read → Reads → (xs : List A) (rest : List ℕ) → AllByRecursion Good xs → read rest ≡ None
      → (items read (flat_map spell xs ++ rest) ≡ xs) × (behind read (flat_map spell xs ++ rest) ≡ rest)
  items_again s r [] rest good none = (items-none read rest none, behind-none read rest none)
  items_again s r (x ∷ xs) rest good none =
      let parts = append_assoc (spell x) (flat_map spell xs) rest in
      let read_first : read (spell x ++ flat_map spell xs ++ rest) ≡ Some (x, flat_map spell xs ++ rest) = ap read parts ∙ r.again x (flat_map spell xs ++ rest) good.0 in
      let others = items_again s r xs rest good.1 none in (
        items-some read s (spell x ++ flat_map spell xs ++ rest) (flat_map spell xs ++ rest) x read_first ∙ ap (λ (t : List A). x ∷ t) others.0,
        behind-some read s (spell x ++ flat_map spell xs ++ rest) (flat_map spell xs ++ rest) x read_first ∙ others.1,
      )

pub line_takes : (word : List ℕ) → Takes (id_line word) (spelled_line word) IsId
line_takes word = record { takes = λ bytes rest id e. id_line_spelled word bytes rest id e }

pub line_reads : (word : List ℕ) → Reads (id_line word) (spelled_line word) IsId
line_reads word = record { again = λ id rest good. id_line_again word id rest good }
