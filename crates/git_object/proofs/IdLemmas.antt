-- Ids as text.
use Rattle.std.proofs.Common.{◌≡◌, ℕ, suc, ◌*◌, ◌/◌, ◌%◌, ◌==◌, ◌<◌, true, false, cond, List, [], ◌∷◌, length, take, drop, slice_index, Some, None, Err, refl, sym, ◌∙◌, ap, arith, length-append, length-drop}
use Rattle.std.specs.List.{list_all}
use Rattle.std.specs.Option.{option_map}
use Rattle.std.specs.Result.{result_ok}
use Rattle.std.proofs.lemmas.Bool.{agree_below_at, and_from, ne_eqb}
use Rattle.hex.specs.declared.error.FromHexError.TheVariants.{InvalidStringLength, OddLength}
use Rattle.hex.specs.Hex.{IsBytes, decode_pairs, decode_sized, encode_with, encode_lower, lower_digits}
use Rattle.hex.proofs.HexLemmas.{decode_of-encode_lower, decode_sized-twice, length-encode_with}
use Rattle.git_object.specs.ObjectId.{id_from, is_lower_digit, id_of_hex, hex_id, id_line}
use Rattle.git_object.specs.Reader.{◌>>=◌, literal}
use Rattle.git_object.specs.declared.object_id.ObjectId.{ObjectId}
use Rattle.git_object.proofs.ReaderLemmas.{bind_some, some_is, literal_takes, Shrinks}

-- each digit of the table is a lower-case digit
digit_at : (d : ℕ) → d < 16 → is_lower_digit (slice_index lower_digits d) ≡ true
digit_at d lt = agree_below_at (λ d. is_lower_digit (slice_index lower_digits d)) (λ _. true) 16 d refl lt

lower_encoding : (bytes : List ℕ) → IsBytes bytes → list_all is_lower_digit (encode_with lower_digits bytes) ≡ true
unfolding encode_with
lower_encoding [] h = refl
lower_encoding (b ∷ rest) h =
    let low : b < 256 = h 0 in
    and_from _ _ (digit_at (b / 16) (omega arith)) (and_from _ _ (digit_at (b % 16) (omega arith)) (lower_encoding rest (λ k. h (suc k))))

-- the digits of an id are read back as that id
pub id_of_hex-encode_lower : (bytes : List ℕ) → length bytes ≡ 20 → IsBytes bytes → id_of_hex (encode_lower bytes) ≡ Some (id_from bytes)
unfolding id_of_hex
id_of_hex-encode_lower bytes len h =
    let lower = lower_encoding bytes h in
    let twice : length (encode_lower bytes) ≡ 2 * 20 = length-encode_with lower_digits bytes ∙ ap (λ n. 2 * n) len in
    let decoded = decode_sized-twice (encode_lower bytes) 20 twice ∙ decode_of-encode_lower bytes h in
    rw (lower, decoded) refl

-- a text of another length has no twenty bytes
decode_sized-short : (text : List ℕ) → length text < 40 → result_ok (decode_sized text 20) ≡ None
decode_sized-short text lt =
    let half : (length text / 2 == 20) ≡ false = ne_eqb (length text / 2) 20 (λ e. omega arith) in
    elim (length text % 2 == 1) as (λ b. result_ok (cond b (Err OddLength) (cond (length text / 2 == 20) (decode_pairs 0 text) (Err InvalidStringLength))) ≡ None) [
      | true ↦ refl
      | false ↦ rw half refl
    ]

-- a text of another length is no id's
pub id_of_hex-short : (text : List ℕ) → length text < 40 → id_of_hex text ≡ None
unfolding id_of_hex
id_of_hex-short text lt =
    elim (list_all is_lower_digit text) as (λ b. cond b (option_map id_from (result_ok (decode_sized text 20))) None ≡ None) [
      | false ↦ refl
      | true ↦ rw (decode_sized-short text lt) refl
    ]

pub hex_id_takes : (bytes rest : List ℕ) (id : ObjectId) → hex_id bytes ≡ Some (id, rest) → rest ≡ drop 40 bytes
unfolding hex_id
hex_id_takes bytes rest id e =
    let b = bind_some (id_of_hex (take 40 bytes)) (λ found. Some (found, drop 40 bytes)) (id, rest) e in
    sym (ap (λ (p : ObjectId × List ℕ). p.1) (some_is _ _ b.2))

-- a line takes a byte at least: its line feed
pub id_line-Shrinks : (word : List ℕ) → Shrinks (id_line word)
unfolding id_line
id_line-Shrinks word = record {
  less = λ bytes rest id e.
      let a = bind_some (literal word bytes) (λ digits. hex_id digits >>= λ id. literal (10 ∷ []) id.1 >>= λ rest. Some (id.0, rest)) (id, rest) e in
      let b = bind_some (hex_id a.0) (λ id. literal (10 ∷ []) id.1 >>= λ rest. Some (id.0, rest)) (id, rest) a.2 in
      let c = bind_some (literal (10 ∷ []) b.0.1) (λ rest. Some (b.0.0, rest)) (id, rest) b.2 in
      let last : c.0 ≡ rest = ap (λ (p : ObjectId × List ℕ). p.1) (some_is _ _ c.2) in
      let word_len = ap length (literal_takes word bytes a.0 a.1) ∙ length-append word a.0 in
      let hex_len = ap length (hex_id_takes a.0 b.0.1 b.0.0 b.1) ∙ length-drop 40 a.0 in
      let end_len = ap length (literal_takes (10 ∷ []) b.0.1 c.0 c.1) in
      omega (arith, ap length last);
}
