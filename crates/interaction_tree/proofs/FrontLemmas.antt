-- What a reading decides stays so, whatever follows it.
use Rattle.std.proofs.Common.{◌≡◌, ℕ, zero, suc, ◌<◌, ◌≤◌, nat_le, true, false, List, [], ◌∷◌, ◌++◌, length, take, drop, if◌then◌else◌, Result, Ok, Err, refl, sym, ◌∙◌, ap, inl, inr, arith, length-append, length-take}
use Rattle.std.proofs.lemmas.Bool.{cases_lt, le-leb, lt-leb}
use Rattle.std.proofs.lemmas.List.{take_at, drop_at, length-drop, take-append-le}
use Rattle.base_types.specs.Fronts.{Front, Whole, Broken, Partial}
use Rattle.pktline_core.specs.Packets.{packet_front}
use Rattle.pktline_core.specs.declared.packets.PktFault.{PktFault}
use Rattle.pktline_core.specs.declared.packets.PktFault.TheVariants as packet
use Rattle.pktline_core.proofs.FrontLemmas.{Shape, IsShort, HasNoLength, HasFlush, HasPart, HasLine, shape_of}
use Rattle.pktline_core.proofs.LawLemmas.{front_packet, whole_stays, broken_stays}
use Rattle.raw_pack.specs.Formats.{Format, gives, fails, wants, bytes, front, ◌>>=◌, behind, and_then}
use Rattle.raw_pack.specs.Packs.{pack_front, signed_part, header, signature}
use Rattle.raw_pack.specs.declared.fault.PackFault.TheVariants as pack
use Rattle.raw_pack.proofs.FormatLemmas.{front-wants_short, front-wants_long, decided_behind, broken_behind, whole_within}
use Rattle.raw_pack.proofs.PackLemmas.{pack_whole_stays, pack_broken_stays}
use Rattle.request_head.specs.Heads.{head_front, head_length}
use Rattle.request_head.specs.declared.head.HeadFault.{HeadFault}
use Rattle.request_head.specs.declared.head.HeadFault.TheVariants as head
use Rattle.request_head.proofs.LawLemmas as heads
use Rattle.interaction_tree.specs.Wanted.{Wanted, Packet, Pack, Head, Within, of_part, Value, Fault, front_of, Reply, shown, by_front}
use Rattle.interaction_tree.specs.Requests.{OwnEntry}
use Rattle.interaction_tree.specs.Interaction.{CutOff, Interaction, reads}
use Rattle.interaction_tree.specs.Turns.{Extent, Turn, cut_off, after_reading, turn_over}

-- the first bytes of more bytes are the same ones, or these and some more
first_of_more : (most : ℕ) (input more : List ℕ) → (extra : List ℕ) × (take most (input ++ more) ≡ take most input ++ extra)
first_of_more zero input more = ([], refl)
first_of_more (suc most) [] more = (take (suc most) more, refl)
first_of_more (suc most) (x ∷ input) more = let rest = first_of_more most input more in (rest.0, ap (λ (l : List ℕ). x ∷ l) rest.1)

not_partial : {V F : Type 0} (fault : F) (n : ℕ) (found : Result V F) → Partial fault ≡ shown n found → ⊥
not_partial fault n (Ok value) is = absurd cc
not_partial fault n (Err other) is = absurd cc

-- of a part, by what stands at the front of it
module _ (most : ℕ) (wanted : Wanted) (input more : List ℕ) (n : ℕ) (found : Result (Result (Value wanted) (Fault wanted)) (Fault wanted))
    (stays : (at : List ℕ) (extra : List ℕ) (m : ℕ) (it : Result (Value wanted) (Fault wanted)) → front_of wanted at ≡ shown m it → front_of wanted (at ++ extra) ≡ shown m it) where
  part_stays : (at : Front (Value wanted) (Fault wanted)) → front_of wanted (take most input) ≡ at → of_part most input at ≡ shown n found → of_part most (input ++ more) (front_of wanted (take most (input ++ more))) ≡ shown n found
  part_stays (Whole used value) is shows =
      let extra = first_of_more most input more in
      ap (of_part most (input ++ more)) (ap (front_of wanted) extra.1 ∙ stays (take most input) extra.0 used (Ok value) is) ∙ shows
  part_stays (Broken used fault) is shows =
      let extra = first_of_more most input more in
      ap (of_part most (input ++ more)) (ap (front_of wanted) extra.1 ∙ stays (take most input) extra.0 used (Err fault) is) ∙ shows
  part_stays (Partial fault) is shows = elim (cases_lt (length input) most) [
    | inl short ↦ absurd (not_partial fault n found (rw (lt-leb most (length input) short) at shows))
    | inr long ↦
        let longer : most ≤ length (input ++ more) = omega (arith, long, length-append input more) in
        let whole : Whole most (Err fault) ≡ shown n found = rw (le-leb most (length input) long) at shows in
        ap (λ (l : List ℕ). of_part most (input ++ more) (front_of wanted l)) (take-append-le most input more long)
        ∙ ap (of_part most (input ++ more)) is ∙ rw (le-leb most (length (input ++ more)) longer) whole
  ]

pub shown_stays : (wanted : Wanted) (input more : List ℕ) (n : ℕ) (found : Result (Value wanted) (Fault wanted)) → front_of wanted input ≡ shown n found → front_of wanted (input ++ more) ≡ shown n found
unfolding front_of
shown_stays Packet input more n (Ok value) is = whole_stays input more n value is
shown_stays Packet input more n (Err fault) is = broken_stays input more n fault is
shown_stays Pack input more n (Ok value) is = pack_whole_stays input more n value is
shown_stays Pack input more n (Err fault) is = pack_broken_stays input more n fault is
shown_stays Head input more n (Ok value) is = heads.whole_stays input more n value is
shown_stays Head input more n (Err fault) is = heads.broken_stays input more n fault is
shown_stays (Within most wanted) input more n found is =
    part_stays (suc most) wanted input more n found (λ at extra m it shows. shown_stays wanted at extra m it shows) (front_of wanted (take (suc most) input)) refl is

-- the first so many bytes that show it lie within the input

shape_broken : (input : List ℕ) (n : ℕ) (fault : PktFault) → Shape input (packet_front input) → packet_front input ≡ Broken n fault → n ≤ length input
shape_broken input n fault (IsShort short is) e = absurd cc
shape_broken input n fault (HasNoLength digits more cut four number is) e = let same : n ≡ 4 = cc in omega (arith, same, ap length cut, length-append digits more, four)
shape_broken input n fault (HasFlush digits more cut four number is) e = absurd cc
shape_broken input n fault (HasPart is) e = absurd cc
shape_broken input n fault (HasLine digits payload more cut four number high is) e = absurd cc

broken_within : {V F : Type 0} (f : Format V F) (input : List ℕ) (n : ℕ) (fault : F) → front f input ≡ Broken n fault → n ≤ length input
unfolding front
broken_within (gives w) input n fault is = absurd cc
broken_within (fails e) input n fault is = let none : n ≡ 0 = cc in omega arith
broken_within (wants k e g) input n fault is =
    elim (cases_lt (length input) k) [
      | inl short ↦ absurd (let cut : front (wants k e g) input ≡ Partial e = front-wants_short k e g input short in cc)
      | inr long ↦
          let here : behind k (front (g (take k input)) (drop k input)) ≡ Broken n fault = sym (front-wants_long k e g input long) ∙ is in
          let inner = broken_behind k n fault (front (g (take k input)) (drop k input)) here in
          let rest : inner.0 ≤ length (drop k input) = broken_within (g (take k input)) (drop k input) inner.0 fault inner.1 in
          omega (arith, rest, inner.2, length-drop k input)
    ]

-- one format and then another
module _ {V W F : Type 0} (first : Format V F) (input : List ℕ) (second : ℕ → V → Format W F) where
  both : Front V F → Front W F
  both at = and_then at (λ n value. front (second n value) (drop n input))

  both_within : (at : Front V F) → front first input ≡ at → (n : ℕ) (found : Result W F) → both at ≡ shown n found → n ≤ length input
  unfolding both
  both_within (Whole m value) is n (Ok found) shows =
      let inner = decided_behind m n found (front (second m value) (drop m input)) shows in
      omega (arith, inner.2, whole_within first input m value is, whole_within (second m value) (drop m input) inner.0 found inner.1, length-drop m input)
  both_within (Whole m value) is n (Err fault) shows =
      let inner = broken_behind m n fault (front (second m value) (drop m input)) shows in
      omega (arith, inner.2, whole_within first input m value is, broken_within (second m value) (drop m input) inner.0 fault inner.1, length-drop m input)
  both_within (Broken m fault) is n (Ok found) shows = absurd cc
  both_within (Broken m fault) is n (Err other) shows = let same : m ≡ n = cc in omega (arith, same, broken_within first input m fault is)
  both_within (Partial fault) is n (Ok found) shows = absurd cc
  both_within (Partial fault) is n (Err other) shows = absurd cc

-- of a part
module _ {V F : Type 0} (most : ℕ) (input : List ℕ) (n : ℕ) (found : Result (Result V F) F) where
  all_within : (fault : F) → Whole most (Err fault) ≡ shown n found → most ≤ length input → n ≤ length input
  all_within fault is long = whole_at n found is
    where
      whole_at : (k : ℕ) (it : Result (Result V F) F) → ◌≡◌ {A = Front (Result V F) F} (Whole most (Err fault)) (shown k it) → k ≤ length input
      whole_at k (Ok value) shows = let same : most ≡ k = cc in omega (arith, same, long)
      whole_at k (Err other) shows = absurd cc

  part_within : (at : Front V F) → ((m : ℕ) (it : Result V F) → at ≡ shown m it → m ≤ length input) → of_part most input at ≡ shown n found → n ≤ length input
  part_within (Whole used value) within shows = let same : used ≡ n = used_is n found shows in omega (arith, same, within used (Ok value) refl)
    where
      used_is : (k : ℕ) (it : Result (Result V F) F) → ◌≡◌ {A = Front (Result V F) F} (Whole used (Ok value)) (shown k it) → used ≡ k
      used_is k (Ok other) is = cc
      used_is k (Err fault) is = absurd cc
  part_within (Broken used fault) within shows = let same : used ≡ n = used_is n found shows in omega (arith, same, within used (Err fault) refl)
    where
      used_is : (k : ℕ) (it : Result (Result V F) F) → ◌≡◌ {A = Front (Result V F) F} (Broken used fault) (shown k it) → used ≡ k
      used_is k (Ok other) is = absurd cc
      used_is k (Err other) is = cc
  part_within (Partial fault) within shows = elim (cases_lt (length input) most) [
    | inl short ↦ absurd (not_partial fault n found (rw (lt-leb most (length input) short) at shows))
    | inr long ↦ all_within fault (rw (le-leb most (length input) long) at shows) long
  ]

head_within : (input : List ℕ) (n : ℕ) (found : Result (List ℕ) HeadFault) → head_front input ≡ shown n found → n ≤ length input
head_within input n (Ok value) is = (heads.whole_within input n value is)
head_within input n (Err fault) is = (heads.broken_within input n fault is)

pub shown_within : (wanted : Wanted) (input : List ℕ) (n : ℕ) (found : Result (Value wanted) (Fault wanted)) → front_of wanted input ≡ shown n found → n ≤ length input
unfolding front_of pack_front both
shown_within Packet input n (Ok value) is = (front_packet input n value is).0
shown_within Packet input n (Err fault) is = shape_broken input n fault (shape_of input) is
shown_within Pack input n found is = both_within signed_part input _ (front signed_part input) refl n found is
shown_within Head input n found is = head_within input n found is
shown_within (Within most wanted) input n found is =
    part_within (suc most) input n found (front_of wanted (take (suc most) input))
    (λ m it shows. let few = shown_within wanted (take (suc most) input) m it shows in omega (arith, few, length-take (suc most) input)) is

-- where there is nothing, nothing is decided
pub nothing_there : (wanted : Wanted) → (fault : Fault wanted) × (front_of wanted [] ≡ Partial fault)
unfolding front_of packet_front pack_front signed_part header signature bytes front ◌>>=◌ head_front head_length
nothing_there Packet = (packet.Truncated, refl)
nothing_there Pack = (pack.Truncated 0, refl)
nothing_there Head = (head.Truncated, refl)
nothing_there (Within most wanted) = let none = nothing_there wanted in (none.0, ap (of_part (suc most) []) none.1 ∙ rw (lt-leb (suc most) zero (omega arith)) refl)

pub by_shown : {V F X : Type 0} (used : ℕ) (found : Result V F) (cut : F → X) (go : ℕ → Result V F → X) → by_front (shown used found) cut go ≡ go used found
by_shown used (Ok value) cut go = refl
by_shown used (Err fault) cut go = refl

module _ {E A : Type 0} (extent : Extent) (wanted : Wanted) (cut : Fault wanted → CutOff E) (f : Reply wanted → Interaction E A) where
  -- the turn where the input ends inside what is wanted
  pub turn_cut : (input : List ℕ) (own : List OwnEntry) (fault : Fault wanted) → front_of wanted input ≡ Partial fault → turn_over extent (reads wanted cut f) input own ≡ cut_off extent input (cut fault)
  unfolding turn_over
  turn_cut input own fault is =
      ap (λ (at : Front (Value wanted) (Fault wanted)). by_front at (λ fault. cut_off {A = A} extent input (cut fault))
      (λ used found. after_reading (take used input) (turn_over extent (f (record { used = used; found = found })) (drop used input) own))) is

  -- the turn where a reading is decided
  pub turn_decided : (input : List ℕ) (own : List OwnEntry) (used : ℕ) (found : Result (Value wanted) (Fault wanted)) → front_of wanted input ≡ shown used found
      → turn_over extent (reads wanted cut f) input own ≡ after_reading (take used input) (turn_over extent (f (record { used = used; found = found })) (drop used input) own)
  unfolding turn_over
  turn_decided input own used found is =
      let go : ℕ → Result (Value wanted) (Fault wanted) → Turn E A = λ used found. after_reading (take used input) (turn_over extent (f (record { used = used; found = found })) (drop used input) own) in
      let cut_here : Fault wanted → Turn E A = λ fault. cut_off extent input (cut fault) in
      ap (λ (at : Front (Value wanted) (Fault wanted)). by_front at cut_here go) is ∙ by_shown used found cut_here go

  -- the turn behind a reading
  pub turn_read : (first rest : List ℕ) (own : List OwnEntry) (found : Result (Value wanted) (Fault wanted)) → front_of wanted first ≡ shown (length first) found
      → turn_over extent (reads wanted cut f) (first ++ rest) own ≡ after_reading first (turn_over extent (f (record { used = length first; found = found })) rest own)
  turn_read first rest own found is =
      turn_decided (first ++ rest) own (length first) found (shown_stays wanted first rest (length first) found is)
      ∙ (λ i. after_reading (take_at first rest (length first) refl i) (turn_over extent (f (record { used = length first; found = found })) (drop_at first rest (length first) refl i) own))
