-- The laws of the format, from the shapes of bytes.
use Rattle.std.proofs.Common.{◌≡◌, ℕ, ◌+◌, ◌/◌, ◌%◌, ◌<◌, ◌≤◌, List, [], ◌∷◌, ◌++◌, length, take, drop, Option, Some, None, Result, Ok, Err, refl, sym, ◌∙◌, ap, subst, inl, inr, arith, append_assoc, length-append, take-append-drop}
use Rattle.std.proofs.lemmas.Bool.{lt-ltb, le-ltb, cases_lt}
use Rattle.std.proofs.lemmas.Bool.Decides.{nat_tests}
use Rattle.std.proofs.lemmas.List.{take_at, drop_at, length-take-le, append-nil}
use Rattle.std.specs.Io.KnownBytes.{Consumes, IsAtEnd}
use Rattle.base_types.specs.Fronts.{Front, Whole, Broken}
use Rattle.pktline_core.specs.LinkState.{LinkState}
use Rattle.pktline_core.specs.Packets.{Packet, Line, Flush, IsPacket, number_of, digit_value, hex_digit, four_digits, packet_front, spelling}
use Rattle.pktline_core.specs.Reading.{ReadsPacket, AnswersLeft}
use Rattle.pktline_core.specs.Laws.{PacketLaws, IsWritable}
use Rattle.pktline_core.specs.declared.packets.PktFault.{PktFault}
use Rattle.pktline_core.specs.declared.packets.PktFault.TheVariants.{Truncated, BadLength, ReadFault}
use Rattle.pktline_core.proofs.FrontLemmas.{front-flush, front-no_length, front-line, Shape, IsShort, HasNoLength, HasFlush, HasPart, HasLine, shape_of}

-- a spelling of a number has four digits
four_of_number : (digits : List ℕ) (n : ℕ) → number_of digits ≡ Some n → length digits ≡ 4
four_of_number [] n e = cc
four_of_number (a ∷ []) n e = cc
four_of_number (a ∷ b ∷ []) n e = cc
four_of_number (a ∷ b ∷ c ∷ []) n e = cc
four_of_number (a ∷ b ∷ c ∷ d ∷ []) n e = refl
four_of_number (a ∷ b ∷ c ∷ d ∷ x ∷ more) n e = cc

-- a packet stands at the front of its spelling and whatever follows
pub packet_whole : (bytes more : List ℕ) (packet : Packet) → IsPacket bytes packet → packet_front (bytes ++ more) ≡ Whole (length bytes) packet
packet_whole bytes more (Line payload) (digits, is, number, high) =
    let four : length digits ≡ 4 = four_of_number digits _ number in
    let len : length payload + 4 ≡ length bytes = omega (arith, ap length is, length-append digits payload, four) in
    ap (λ (l : List ℕ). packet_front (l ++ more)) is ∙ ap packet_front (append_assoc digits payload more) ∙ front-line digits payload more four number high ∙ ap (λ (n : ℕ). Whole n (Line payload)) len
packet_whole bytes more Flush number =
    let four : length bytes ≡ 4 = four_of_number bytes 0 number in
    front-flush bytes more four number ∙ ap (λ (n : ℕ). Whole n Flush) (sym four)

whole_is : (n m : ℕ) (p q : Packet) → ◌≡◌ {A = Front Packet PktFault} (Whole n p) (Whole m q) → (n ≡ m) × (p ≡ q)
whole_is n m p q e = (cc, cc)

module _ (bytes : List ℕ) where
  shape_packet : (n : ℕ) (packet : Packet) → Shape bytes (packet_front bytes) → packet_front bytes ≡ Whole n packet → (n ≤ length bytes) × IsPacket (take n bytes) packet
  shape_packet n packet (IsShort short is) e = absurd (cc)
  shape_packet n packet (HasNoLength digits more cut four number is) e = absurd (cc)
  shape_packet n packet (HasFlush digits more cut four number is) e =
      let same = whole_is n 4 packet Flush (sym e ∙ is) in
      let taken : take n bytes ≡ digits = ap (take n) cut ∙ take_at digits more n (four ∙ sym same.0) in
      (omega (arith, ap length cut, length-append digits more, four, same.0), subst (IsPacket (take n bytes)) (sym same.1) (ap number_of taken ∙ number))
  shape_packet n packet (HasPart is) e = absurd (cc)
  shape_packet n packet (HasLine digits payload more cut four number high is) e =
      let same = whole_is n (length payload + 4) packet (Line payload) (sym e ∙ is) in
      let taken : take n bytes ≡ digits ++ payload = ap (take n) (cut ∙ sym (append_assoc digits payload more)) ∙ take_at (digits ++ payload) more n (omega (arith, length-append digits payload, four, same.0)) in
      (omega (arith, ap length cut, length-append digits (payload ++ more), length-append payload more, four, same.0), subst (IsPacket (take n bytes)) (sym same.1) (digits, taken, number, high))

  pub front_packet : (n : ℕ) (packet : Packet) → packet_front bytes ≡ Whole n packet → (n ≤ length bytes) × IsPacket (take n bytes) packet
  front_packet n packet e = shape_packet n packet (shape_of bytes) e

  pub packet_front_of : (n : ℕ) (packet : Packet) → (n ≤ length bytes) × IsPacket (take n bytes) packet → packet_front bytes ≡ Whole n packet
  packet_front_of n packet (within, is) =
      ap packet_front (sym (take-append-drop n bytes)) ∙ packet_whole (take n bytes) (drop n bytes) packet is ∙ ap (λ (m : ℕ). Whole m packet) (length-take-le n bytes within)

  pub whole_stays : (more : List ℕ) (n : ℕ) (packet : Packet) → packet_front bytes ≡ Whole n packet → packet_front (bytes ++ more) ≡ Whole n packet
  whole_stays more n packet e =
      let p = front_packet n packet e in
      let cut : bytes ++ more ≡ take n bytes ++ (drop n bytes ++ more) = ap (λ (l : List ℕ). l ++ more) (sym (take-append-drop n bytes)) ∙ append_assoc (take n bytes) (drop n bytes) more in
      ap packet_front cut ∙ packet_whole (take n bytes) (drop n bytes ++ more) packet p.1 ∙ ap (λ (m : ℕ). Whole m packet) (length-take-le n bytes p.0)

  shape_broken : (more : List ℕ) (n : ℕ) (fault : PktFault) → Shape bytes (packet_front bytes) → packet_front bytes ≡ Broken n fault → (n ≡ 4) × (fault ≡ BadLength) × (packet_front (bytes ++ more) ≡ Broken 4 BadLength)
  shape_broken more n fault (IsShort short is) e = absurd (cc)
  shape_broken more n fault (HasNoLength digits rest cut four number is) e =
      (cc, cc, ap (λ (l : List ℕ). packet_front (l ++ more)) cut ∙ ap packet_front (append_assoc digits rest more) ∙ front-no_length digits (rest ++ more) four number)
  shape_broken more n fault (HasFlush digits rest cut four number is) e = absurd (cc)
  shape_broken more n fault (HasPart is) e = absurd (cc)
  shape_broken more n fault (HasLine digits payload rest cut four number high is) e = absurd (cc)

  pub broken_is : (more : List ℕ) (n : ℕ) (fault : PktFault) → packet_front bytes ≡ Broken n fault → (n ≡ 4) × (fault ≡ BadLength) × (packet_front (bytes ++ more) ≡ Broken 4 BadLength)
  broken_is more n fault e = shape_broken more n fault (shape_of bytes) e

pub broken_stays : (bytes more : List ℕ) (n : ℕ) (fault : PktFault) → packet_front bytes ≡ Broken n fault → packet_front (bytes ++ more) ≡ Broken n fault
broken_stays bytes more n fault e =
    let b = broken_is bytes more n fault e in
    let four = b.0 in
    let same = b.1 in
    let is = b.2 in
    cc

digit_back : (d : ℕ) → d < 16 → digit_value (hex_digit d) ≡ Some d
digit_back d h = elim (cases_lt d 10) [ inl low ↦ rw (lt-ltb d 10 low) (grind (arith, nat_tests)) | inr high ↦ rw (le-ltb d 10 high) (grind (arith, nat_tests)) ]

-- the digits of a number below 65,536 spell it
pub number-four_digits : (n : ℕ) → n < 65536 → number_of (four_digits n) ≡ Some n
number-four_digits n h =
    rw (digit_back (n / 4096 % 16) (omega arith), digit_back (n / 256 % 16) (omega arith), digit_back (n / 16 % 16) (omega arith), digit_back (n % 16) (omega arith)) (ap (λ (m : ℕ). Some m) (omega arith))

spelled : (packet : Packet) → IsWritable packet → IsPacket (spelling packet) packet
unfolding spelling
spelled (Line payload) high = (four_digits (length payload + 4), refl, number-four_digits (length payload + 4) (omega (arith, high)), high)
spelled Flush high = refl

no_more : (xs more : List ℕ) → length xs ≡ length (xs ++ more) → more ≡ []
no_more xs [] e = refl
no_more xs (y ∷ ys) e = absurd (omega (arith, length-append xs (y ∷ ys)))

begins_no_other : (bytes more : List ℕ) (one other : Packet) → IsPacket bytes one → IsPacket (bytes ++ more) other → more ≡ []
begins_no_other bytes more one other p q =
    let whole : packet_front (bytes ++ more) ≡ Whole (length (bytes ++ more)) other = ap packet_front (sym (append-nil (bytes ++ more))) ∙ packet_whole (bytes ++ more) [] other q in
    no_more bytes more ((whole_is _ _ one other (sym (packet_whole bytes more one p) ∙ whole)).0)

pub packet_laws : PacketLaws
packet_laws = record {
  grammar = λ bytes n packet. (front_packet bytes n packet, packet_front_of bytes n packet);
  whole_stays = whole_stays;
  broken_stays = broken_stays;
  written_is_read = λ packet more writable. packet_whole (spelling packet) more packet (spelled packet writable);
  begins_no_other = begins_no_other;
}

module _ (old new : LinkState) (input : List ℕ) where
  told_by : (left : Option (List ℕ)) (answer : Result Packet PktFault) → (reads : ReadsPacket old new answer) → new.left ≡ left → Consumes (Some input) left reads.taken → AnswersLeft (Some input) left answer
  unfolding AnswersLeft
  told_by None answer reads is consumed = absurd consumed
  told_by (Some rest) (Ok packet) reads is consumed =
      (length reads.taken, ap packet_front consumed ∙ whole_stays reads.taken rest (length reads.taken) packet reads.decided, ap (λ (l : List ℕ). Some l) (sym (drop_at reads.taken rest (length reads.taken) refl) ∙ ap (drop (length reads.taken)) (sym consumed)))
  told_by (Some rest) (Err BadLength) reads is consumed =
      let b = broken_is reads.taken rest (length reads.taken) BadLength reads.decided in
      (ap packet_front consumed ∙ b.2, ap (λ (l : List ℕ). Some l) (sym (drop_at reads.taken rest 4 b.0) ∙ ap (drop 4) (sym consumed)))
  told_by (Some rest) (Err Truncated) reads is consumed =
      let end : rest ≡ [] = subst IsAtEnd is reads.decided.1 in
      (ap packet_front (consumed ∙ ap (λ (l : List ℕ). reads.taken ++ l) end ∙ append-nil reads.taken) ∙ reads.decided.0, ap (λ (l : List ℕ). Some l) end)
  told_by (Some rest) (Err ReadFault) reads is consumed =
      (length reads.taken, ap packet_front (ap (take (length reads.taken)) consumed ∙ take_at reads.taken rest (length reads.taken) refl) ∙ reads.decided.0, ap (λ (l : List ℕ). Some l) (sym (drop_at reads.taken rest (length reads.taken) refl) ∙ ap (drop (length reads.taken)) (sym consumed)))

told_of : (old new : LinkState) (answer : Result Packet PktFault) (left : Option (List ℕ)) → old.left ≡ left → (reads : ReadsPacket old new answer) → AnswersLeft left new.left answer
unfolding AnswersLeft
told_of old new answer None is reads = tt
told_of old new answer (Some input) is reads = told_by old new input new.left answer reads refl (subst (λ (l : Option (List ℕ)). Consumes l new.left reads.taken) is reads.consumed)

pub told : (old new : LinkState) (answer : Result Packet PktFault) → ReadsPacket old new answer → AnswersLeft old.left new.left answer
told old new answer reads = told_of old new answer old.left refl reads
