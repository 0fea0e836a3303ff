-- What stands at the front of bytes that begin with four digits.
use Rattle.std.proofs.Common.{◌≡◌, ℕ, ◌+◌, ◌-◌, ◌<◌, ◌≤◌, List, ◌++◌, length, take, drop, Option, Some, None, refl, sym, ◌∙◌, ap, subst, inl, inr, arith, append_assoc, length-append, take-append-drop}
use Rattle.std.proofs.lemmas.Bool.{lt-ltb, le-ltb, ne_eqb, cases_lt, cases_eq}
use Rattle.std.proofs.lemmas.List.{take_at, drop_at, length-take-le}
use Rattle.base_types.specs.Fronts.{Front, Whole, Broken, Partial}
use Rattle.pktline_core.specs.Packets.{Packet, Line, Flush, number_of, front_by_length, packet_front}
use Rattle.pktline_core.specs.Heads.{IsNoLength}
use Rattle.pktline_core.specs.declared.packets.PktFault.{PktFault}
use Rattle.pktline_core.specs.declared.packets.PktFault.TheVariants.{Truncated, BadLength}

pub front-short : (bytes : List ℕ) → length bytes < 4 → packet_front bytes ≡ Partial Truncated
unfolding packet_front
front-short bytes h = rw (lt-ltb (length bytes) 4 h)

module _ (digits rest : List ℕ) (four : length digits ≡ 4) where
  by_number : (number : Option ℕ) → number_of digits ≡ number → packet_front (digits ++ rest) ≡ front_by_length (digits ++ rest) number
  unfolding packet_front
  by_number number e =
      let long : 4 ≤ length (digits ++ rest) = omega (arith, length-append digits rest, four) in
      rw (le-ltb (length (digits ++ rest)) 4 long, take_at digits rest 4 four, e)

  pub front-flush : number_of digits ≡ Some 0 → packet_front (digits ++ rest) ≡ Whole 4 Flush
  front-flush e = by_number (Some 0) e

  no_length : (number : Option ℕ) → IsNoLength number → front_by_length (digits ++ rest) number ≡ Broken 4 BadLength
  no_length None h = refl
  no_length (Some n) (inl h) = rw (ne_eqb n 0 (omega arith), lt-ltb n 4 h.1)
  no_length (Some n) (inr h) = rw (ne_eqb n 0 (omega arith), le-ltb n 4 (omega arith), lt-ltb 65520 n h)

  pub front-no_length : IsNoLength (number_of digits) → packet_front (digits ++ rest) ≡ Broken 4 BadLength
  front-no_length h = by_number (number_of digits) refl ∙ no_length (number_of digits) h

  pub front-part : (n : ℕ) → number_of digits ≡ Some n → 4 ≤ n → n ≤ 65520 → length rest + 4 < n → packet_front (digits ++ rest) ≡ Partial Truncated
  front-part n e low high part =
      let less : length (digits ++ rest) < n = omega (arith, length-append digits rest, four) in
      by_number (Some n) e ∙ rw (ne_eqb n 0 (omega arith), le-ltb n 4 low, le-ltb 65520 n high, lt-ltb (length (digits ++ rest)) n less)

pub front-line : (digits payload more : List ℕ) → length digits ≡ 4 → number_of digits ≡ Some (length payload + 4) → length payload ≤ 65516 → packet_front (digits ++ (payload ++ more)) ≡ Whole (length payload + 4) (Line payload)
front-line digits payload more four e high =
    let n : ℕ = length payload + 4 in
    let enough : n ≤ length (digits ++ (payload ++ more)) = omega (arith, length-append digits (payload ++ more), length-append payload more, four) in
    let taken : take n (digits ++ (payload ++ more)) ≡ digits ++ payload = ap (take n) (sym (append_assoc digits payload more)) ∙ take_at (digits ++ payload) more n (omega (arith, length-append digits payload, four)) in
    let left : drop 4 (take n (digits ++ (payload ++ more))) ≡ payload = ap (drop 4) taken ∙ drop_at digits payload 4 four in
    by_number digits (payload ++ more) four (Some n) e
    ∙ rw (ne_eqb n 0 (omega arith), le-ltb n 4 (omega arith), le-ltb 65520 n (omega arith), le-ltb (length (digits ++ (payload ++ more))) n enough) (ap (λ (l : List ℕ). Whole n (Line l)) left)

-- the five ways in which bytes can begin
pub data Shape (bytes : List ℕ) (front : Front Packet PktFault) : Type 0 where
  IsShort : length bytes < 4 → front ≡ Partial Truncated → Shape bytes front
  HasNoLength : (digits more : List ℕ) → bytes ≡ digits ++ more → length digits ≡ 4 → IsNoLength (number_of digits) → front ≡ Broken 4 BadLength → Shape bytes front
  HasFlush : (digits more : List ℕ) → bytes ≡ digits ++ more → length digits ≡ 4 → number_of digits ≡ Some 0 → front ≡ Whole 4 Flush → Shape bytes front
  HasPart : front ≡ Partial Truncated → Shape bytes front
  HasLine : (digits payload more : List ℕ) → bytes ≡ digits ++ (payload ++ more) → length digits ≡ 4 → number_of digits ≡ Some (length payload + 4) → length payload ≤ 65516 → front ≡ Whole (length payload + 4) (Line payload) → Shape bytes front

shape_by : (digits rest : List ℕ) → length digits ≡ 4 → (number : Option ℕ) → number_of digits ≡ number → Shape (digits ++ rest) (packet_front (digits ++ rest))
shape_by digits rest four None e = HasNoLength digits rest refl four (rw e tt) (front-no_length digits rest four (rw e tt))
shape_by digits rest four (Some n) e =
    elim (cases_eq n 0) [
      | inl zero ↦ HasFlush digits rest refl four (e ∙ ap (λ (m : ℕ). Some m) zero) (front-flush digits rest four (e ∙ ap (λ (m : ℕ). Some m) zero))
      | inr some ↦
          elim (cases_lt n 4) [
            | inl low ↦ let bad : IsNoLength (number_of digits) = rw e (inl (omega (arith, some), low)) in HasNoLength digits rest refl four bad (front-no_length digits rest four bad)
            | inr low ↦
                elim (cases_lt 65520 n) [
                  | inl high ↦ let bad : IsNoLength (number_of digits) = rw e (inr high) in HasNoLength digits rest refl four bad (front-no_length digits rest four bad)
                  | inr high ↦
                      elim (cases_lt (length rest + 4) n) [
                        | inl part ↦ HasPart (front-part digits rest four n e low high part)
                        | inr whole ↦
                            let payload : List ℕ = take (n - 4) rest in
                            let more : List ℕ = drop (n - 4) rest in
                            let len : length payload ≡ n - 4 = length-take-le (n - 4) rest (omega arith) in
                            let cut : digits ++ rest ≡ digits ++ (payload ++ more) = ap (λ (l : List ℕ). digits ++ l) (sym (take-append-drop (n - 4) rest)) in
                            let number : number_of digits ≡ Some (length payload + 4) = e ∙ ap (λ (m : ℕ). Some m) (omega (arith, len)) in
                            HasLine digits payload more cut four number (omega (arith, len)) (ap packet_front cut ∙ front-line digits payload more four number (omega (arith, len)))
                      ]
                ]
          ]
    ]

pub shape_of : (bytes : List ℕ) → Shape bytes (packet_front bytes)
shape_of bytes =
    elim (cases_lt (length bytes) 4) [
      | inl short ↦ IsShort short (front-short bytes short)
      | inr long ↦ subst (λ (l : List ℕ). Shape l (packet_front l)) (take-append-drop 4 bytes) (shape_by (take 4 bytes) (drop 4 bytes) (length-take-le 4 bytes long) (number_of (take 4 bytes)) refl)
    ]
