-- Files of records: what is at the front decides, and one record more.
use Rattle.std.proofs.Common.{◌≡◌, ◌≢◌, ℕ, ◌+◌, ◌<◌, ◌^◌, List, [], ◌∷◌, ◌++◌, length, take, drop, refl, sym, ◌∙◌, ap, length-append, append_assoc, arith}
use Rattle.std.proofs.lemmas.List.{append-nil, map-append, take_at, drop_at}
use Rattle.std.proofs.lemmas.List.Concat.{flat_map-append}
use Rattle.std.proofs.lemmas.List.Elements.{All-append}
use Rattle.std.specs.List.{flat_map}
use Rattle.std.specs.Int.{w64, to_be_bytes, from_be_bytes}
use Rattle.std.proofs.lemmas.Nat.{from_be_bytes-to_be_bytes_8}
use Rattle.record_file.specs.Records.{framed, record_bytes, IsRecord, Begins}
use Rattle.record_file.proofs.CrashLemmas.{all_one}

pub length-framed : (body : List ℕ) → length (framed body) ≡ 8 + length body
length-framed body = length-append (to_be_bytes w64 (length body)) body

-- the same records, before another rest
pub begins_same : (head : List ℕ) (bodies : List (List ℕ)) (file other rest more : List ℕ) (b : Begins head bodies file rest) → other ≡ (head ++ flat_map record_bytes b.gated) ++ more → Begins head bodies other more
begins_same head bodies file other rest more b is = record { gated = b.gated; records = b.records; same = b.same; spells = is }

-- one record more
pub begins_more : (head : List ℕ) (bodies : List (List ℕ)) (file body rest : List ℕ) (gate : ℕ) → gate ≢ 0 → length body < 2 ^ 64 → Begins head bodies file (gate ∷ (framed body ++ rest)) → Begins head (bodies ++ body ∷ []) file rest
begins_more head bodies file body rest gate opened fits b = record {
  gated = b.gated ++ (gate, body) ∷ [];
  records = All-append IsRecord b.gated ((gate, body) ∷ []) b.records (all_one IsRecord (gate, body) (opened, fits));
  same = map-append (λ (r : ℕ × List ℕ). r.1) b.gated ((gate, body) ∷ []) ∙ ap (λ (l : List (List ℕ)). l ++ body ∷ []) b.same;
  spells = b.spells ∙ sym (
      ap (λ (l : List ℕ). (head ++ l) ++ rest) (flat_map-append record_bytes b.gated ((gate, body) ∷ []) ∙ ap (λ (l : List ℕ). flat_map record_bytes b.gated ++ l) (append-nil (record_bytes (gate, body))))
      ∙ ap (λ (l : List ℕ). l ++ rest) (sym (append_assoc head (flat_map record_bytes b.gated) (record_bytes (gate, body))))
      ∙ append_assoc (head ++ flat_map record_bytes b.gated) (record_bytes (gate, body)) rest);
}

-- eight bytes say the length
be_same : (a b : ℕ) → a < 2 ^ 64 → b < 2 ^ 64 → to_be_bytes w64 a ≡ to_be_bytes w64 b → a ≡ b
be_same a b fa fb e = sym (from_be_bytes-to_be_bytes_8 a fa) ∙ ap (λ (l : List ℕ). from_be_bytes w64 l) e ∙ from_be_bytes-to_be_bytes_8 b fb

-- one reading of a frame
pub framed_same : (a b r s : List ℕ) → length a < 2 ^ 64 → length b < 2 ^ 64 → framed a ++ r ≡ framed b ++ s → (a ≡ b) × (r ≡ s)
framed_same a b r s fa fb e =
    let open_a : framed a ++ r ≡ to_be_bytes w64 (length a) ++ (a ++ r) = append_assoc (to_be_bytes w64 (length a)) a r in
    let open_b : framed b ++ s ≡ to_be_bytes w64 (length b) ++ (b ++ s) = append_assoc (to_be_bytes w64 (length b)) b s in
    let whole : to_be_bytes w64 (length a) ++ (a ++ r) ≡ to_be_bytes w64 (length b) ++ (b ++ s) = sym open_a ∙ e ∙ open_b in
    let digits : to_be_bytes w64 (length a) ≡ to_be_bytes w64 (length b) = ap (λ (l : List ℕ). take 8 l) whole in
    let long : length a ≡ length b = be_same (length a) (length b) fa fb digits in
    let behind : a ++ r ≡ b ++ s = ap (λ (l : List ℕ). drop 8 l) whole in
    let body : a ≡ b = sym (take_at a r (length a) refl) ∙ ap (λ (l : List ℕ). take (length a) l) behind ∙ take_at b s (length a) (sym long) in
    let rest : r ≡ s = sym (drop_at a r (length a) refl) ∙ ap (λ (l : List ℕ). drop (length a) l) behind ∙ drop_at b s (length a) (sym long) in
    (body, rest)

-- a head, and no record so far
pub begins_none : (head bytes rest : List ℕ) → bytes ≡ head ++ rest → Begins head [] bytes rest
begins_none head bytes rest is = record {
  gated = [];
  records = λ k d lt. absurd (omega (arith, lt));
  same = refl;
  spells = is ∙ ap (λ (l : List ℕ). l ++ rest) (sym (append-nil head));
}
