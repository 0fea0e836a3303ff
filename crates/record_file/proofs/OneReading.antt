-- A file has one reading.
use Rattle.std.proofs.Common.{◌≡◌, ◌≢◌, inl, inr, ℕ, ◌+◌, ◌≤◌, ◌<◌, ◌^◌, List, [], ◌∷◌, ◌++◌, length, map, get_or, drop, refl, sym, ◌∙◌, ap, arith, length-append, length-drop, append_assoc}
use Rattle.std.proofs.lemmas.List.{append_cancel_left, drop-drop, drop_at}
use Rattle.std.specs.List.{All, flat_map}
use Rattle.record_file.specs.Records.{framed, record_bytes, IsRecord, Holds, IsFramed, IsBadAt}
use Rattle.record_file.specs.Reading.{GoesOnWith, HasNoRecord, IsBadGate, IsClosedAt, IsReadTo, IsRecordAt}
use Rattle.record_file.proofs.CrashLemmas.{all_first, all_rest}
use Rattle.record_file.proofs.ReadLemmas.{reads_more}
use Rattle.record_file.proofs.RecordLemmas.{framed_same, length-framed}

first_of : List ℕ → ℕ
first_of l = get_or l 0 0

-- the bytes of records, one of them off
off_one : (x : ℕ × List ℕ) (g : List (ℕ × List ℕ)) (r : List ℕ) → flat_map record_bytes (x ∷ g) ++ r ≡ x.0 ∷ (framed x.1 ++ (flat_map record_bytes g ++ r))
off_one x g r = append_assoc (record_bytes x) (flat_map record_bytes g) r

no_gate : (x : ℕ × List ℕ) (g : List (ℕ × List ℕ)) (r free : List ℕ) → IsRecord x → 0 ∷ free ≡ flat_map record_bytes (x ∷ g) ++ r → ⊥
no_gate x g r free is e = is.0 (sym (ap (λ (l : List ℕ). get_or l 0 0) (e ∙ off_one x g r)))

pub same_gated : (g h : List (ℕ × List ℕ)) (r s : List ℕ) → All IsRecord g → All IsRecord h → flat_map record_bytes g ++ 0 ∷ r ≡ flat_map record_bytes h ++ 0 ∷ s → map (λ (x : ℕ × List ℕ). x.1) g ≡ map (λ (x : ℕ × List ℕ). x.1) h
same_gated [] [] r s ga ha e = refl
same_gated [] (y ∷ h) r s ga ha e = absurd (no_gate y h (0 ∷ s) r (all_first IsRecord y h ha) e)
same_gated (x ∷ g) [] r s ga ha e = absurd (no_gate x g (0 ∷ r) s (all_first IsRecord x g ga) (sym e))
same_gated (x ∷ g) (y ∷ h) r s ga ha e =
    let behind : framed x.1 ++ (flat_map record_bytes g ++ 0 ∷ r) ≡ framed y.1 ++ (flat_map record_bytes h ++ 0 ∷ s) = ap (λ (l : List ℕ). drop 1 l) (sym (off_one x g (0 ∷ r)) ∙ e ∙ off_one y h (0 ∷ s)) in
    let both = framed_same x.1 y.1 (flat_map record_bytes g ++ 0 ∷ r) (flat_map record_bytes h ++ 0 ∷ s) (all_first IsRecord x g ga).1 (all_first IsRecord y h ha).1 behind in
    let more = same_gated g h r s (all_rest IsRecord x g ga) (all_rest IsRecord y h ha) both.1 in
    λ i. both.0 i ∷ more i

behind_head : (head file a b x y : List ℕ) → file ≡ (head ++ a) ++ x → file ≡ (head ++ b) ++ y → a ++ x ≡ b ++ y
behind_head head file a b x y p q = append_cancel_left head (a ++ x) (b ++ y) (sym (append_assoc head a x) ∙ sym p ∙ q ∙ append_assoc head b y)

pub one_reading : (head : List ℕ) (bodies others : List (List ℕ)) (file : List ℕ) → Holds head bodies file → Holds head others file → bodies ≡ others
one_reading head bodies others file h k =
    let b = h.begins in
    let c = k.begins in
    sym b.same ∙ same_gated b.gated c.gated h.free k.free b.records c.records (behind_head head file (flat_map record_bytes b.gated) (flat_map record_bytes c.gated) (0 ∷ h.free) (0 ∷ k.free) b.spells c.spells) ∙ c.same

-- no whole record stands behind a gate that isn't zero
never_bad : (g h : List (ℕ × List ℕ)) (r rest : List ℕ) (gate : ℕ) → All IsRecord g → All IsRecord h → gate ≢ 0 → ((body more : List ℕ) → IsFramed rest body more → ⊥)
    → flat_map record_bytes g ++ 0 ∷ r ≡ flat_map record_bytes h ++ gate ∷ rest → ⊥
never_bad [] [] r rest gate ga ha opened none e = opened (sym (ap (λ (l : List ℕ). get_or l 0 0) e))
never_bad [] (y ∷ h) r rest gate ga ha opened none e = no_gate y h (gate ∷ rest) r (all_first IsRecord y h ha) e
never_bad (x ∷ g) [] r rest gate ga ha opened none e =
    let behind : framed x.1 ++ (flat_map record_bytes g ++ 0 ∷ r) ≡ rest = ap (λ (l : List ℕ). drop 1 l) (sym (off_one x g (0 ∷ r)) ∙ e) in
    none x.1 (flat_map record_bytes g ++ 0 ∷ r) (record {
      fits = (all_first IsRecord x g ga).1;
      spells = sym behind;
      goes_on = omega (arith, length-append (flat_map record_bytes g) (0 ∷ r));
    })
never_bad (x ∷ g) (y ∷ h) r rest gate ga ha opened none e =
    let behind : framed x.1 ++ (flat_map record_bytes g ++ 0 ∷ r) ≡ framed y.1 ++ (flat_map record_bytes h ++ gate ∷ rest) = ap (λ (l : List ℕ). drop 1 l) (sym (off_one x g (0 ∷ r)) ∙ e ∙ off_one y h (gate ∷ rest)) in
    let both = framed_same x.1 y.1 (flat_map record_bytes g ++ 0 ∷ r) (flat_map record_bytes h ++ gate ∷ rest) (all_first IsRecord x g ga).1 (all_first IsRecord y h ha).1 behind in
    never_bad g h r rest gate (all_rest IsRecord x g ga) (all_rest IsRecord y h ha) opened none both.1

pub not_both : (head : List ℕ) (bodies : List (List ℕ)) (file : List ℕ) (place : ℕ) → Holds head bodies file → IsBadAt head file place → ⊥
not_both head bodies file place h bad =
    let b = h.begins in
    let c = bad.begins in
    never_bad b.gated c.gated h.free bad.rest bad.gate b.records c.records bad.opened bad.no_record
    (behind_head head file (flat_map record_bytes b.gated) (flat_map record_bytes c.gated) (0 ∷ h.free) (bad.gate ∷ bad.rest) b.spells c.spells)

-- a file that is too short for a record has none
short_none : (head : List ℕ) (bodies : List (List ℕ)) (file : List ℕ) (gated : List (ℕ × List ℕ)) (free : List ℕ) → map (λ (r : ℕ × List ℕ). r.1) gated ≡ bodies → file ≡ (head ++ flat_map record_bytes gated) ++ 0 ∷ free → length file ≤ length head + 1 → bodies ≡ []
short_none head bodies file [] free same is le = sym same
short_none head bodies file (x ∷ gated) free same is le = absurd (omega (arith, le, ap length is, length-append (head ++ flat_map record_bytes (x ∷ gated)) (0 ∷ free), length-append head (flat_map record_bytes (x ∷ gated)), length-append (record_bytes x) (flat_map record_bytes gated), length-framed x.1))

pub too_short : (head : List ℕ) (bodies : List (List ℕ)) (file : List ℕ) → length file ≤ length head + 1 → Holds head bodies file → bodies ≡ []
too_short head bodies file le h = short_none head bodies file h.begins.gated h.free h.begins.same h.begins.spells le

-- no whole record with a byte behind it is at the front of these bytes
abbrev NoneInFront : List ℕ → Type 0
NoneInFront bytes = (gate : ℕ) (body rest : List ℕ) → bytes ≡ gate ∷ (framed body ++ rest) → gate ≢ 0 → length body < 2 ^ 64 → 0 < length rest → ⊥

none_closed : (file : List ℕ) (end : ℕ) → IsClosedAt file end → NoneInFront (drop end file)
none_closed file end closed gate body rest is opened fits more = opened (sym (ap (λ (l : List ℕ). get_or l 0 0) (sym closed ∙ is)))

none_bad : (file : List ℕ) (end : ℕ) → IsBadGate file end → NoneInFront (drop end file)
none_bad file end bad gate body rest is opened fits more =
    bad.no_record body rest (record { fits = fits; spells = sym (drop-drop 1 end file) ∙ ap (λ (l : List ℕ). drop 1 l) is; goes_on = more })

none_there : (file : List ℕ) (end : ℕ) → HasNoRecord file end → NoneInFront (drop end file)
none_there file end (inl closed) = none_closed file end closed
none_there file end (inr bad) = none_bad file end bad

abbrev bodies_in : List (ℕ × List ℕ) → List (List ℕ)
bodies_in gated = map (λ (r : ℕ × List ℕ). r.1) gated

record BeginsWith (all some : List (List ℕ)) : Type 0 where
  more : List (List ℕ)
  all_is : all ≡ some ++ more

-- where no record follows the first ones, the others are no more than they
all_before : (g h : List (ℕ × List ℕ)) (r s : List ℕ) → All IsRecord g → All IsRecord h → NoneInFront r → 0 < length s → flat_map record_bytes g ++ r ≡ flat_map record_bytes h ++ s → BeginsWith (bodies_in g) (bodies_in h)
all_before g [] r s ga ha none more e = record { more = bodies_in g; all_is = refl }
all_before [] (y ∷ h) r s ga ha none more e =
    let its = all_first IsRecord y h ha in
    absurd (none y.0 y.1 (flat_map record_bytes h ++ s) (e ∙ off_one y h s) its.0 its.1 (omega (arith, more, length-append (flat_map record_bytes h) s)))
all_before (x ∷ g) (y ∷ h) r s ga ha none more e =
    let behind : framed x.1 ++ (flat_map record_bytes g ++ r) ≡ framed y.1 ++ (flat_map record_bytes h ++ s) = ap (λ (l : List ℕ). drop 1 l) (sym (off_one x g r) ∙ e ∙ off_one y h s) in
    let both = framed_same x.1 y.1 (flat_map record_bytes g ++ r) (flat_map record_bytes h ++ s) (all_first IsRecord x g ga).1 (all_first IsRecord y h ha).1 behind in
    let rest = all_before g h r s (all_rest IsRecord x g ga) (all_rest IsRecord y h ha) none more both.1 in
    record { more = rest.more; all_is = λ i. both.0 i ∷ rest.all_is i }

pub goes_on : (head file : List ℕ) (all some : List (List ℕ)) (end offset next : ℕ) (body : List ℕ) → IsReadTo head all file end → HasNoRecord file end → IsReadTo head some file offset → IsRecordAt file offset body next → GoesOnWith all some body
goes_on head file all some end offset next body whole none part at =
    let further : IsReadTo head (some ++ body ∷ []) file next = reads_more head some file body offset next part at in
    let b = whole.begins in
    let c = further.begins in
    let found = all_before b.gated c.gated (drop end file) (drop next file) b.records c.records (none_there file end none) (omega (arith, at.within, length-drop next file))
    (behind_head head file (flat_map record_bytes b.gated) (flat_map record_bytes c.gated) (drop end file) (drop next file) b.spells c.spells) in
    record {
      more = found.more;
      all_is = sym b.same ∙ found.all_is ∙ ap (λ (l : List (List ℕ)). l ++ found.more) c.same ∙ append_assoc some (body ∷ []) found.more;
    }

-- a file that holds records was read to its zero gate
pub record IsReadWhole (head : List ℕ) (bodies : List (List ℕ)) (file : List ℕ) : Type 0 where
  pub end : ℕ
  pub read : IsReadTo head bodies file end
  pub closed : IsClosedAt file end

pub read_whole : (head : List ℕ) (bodies : List (List ℕ)) (file : List ℕ) → Holds head bodies file → IsReadWhole head bodies file
read_whole head bodies file h =
    let b = h.begins in
    let pre : List ℕ = head ++ flat_map record_bytes b.gated in
    let end : ℕ = length pre in
    let here : drop end file ≡ 0 ∷ h.free = ap (λ (l : List ℕ). drop end l) b.spells ∙ drop_at pre (0 ∷ h.free) end refl in
    let behind : drop (end + 1) file ≡ h.free = sym (drop-drop 1 end file) ∙ ap (λ (l : List ℕ). drop 1 l) here in
    record {
      end = end;
      read = record {
        begins = record { gated = b.gated; records = b.records; same = b.same; spells = b.spells ∙ ap (λ (l : List ℕ). pre ++ l) (sym here) };
        within = omega (arith, ap length b.spells, length-append pre (0 ∷ h.free));
      };
      closed = here ∙ ap (λ (l : List ℕ). 0 ∷ l) (sym behind);
    }
