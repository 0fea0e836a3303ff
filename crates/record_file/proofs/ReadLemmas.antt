-- Reading a head and the records behind it.
use Rattle.std.proofs.Common.{◌≡◌, ◌≢◌, ◌⊎◌, inl, inr, ℕ, zero, suc, ◌+◌, ◌-◌, ◌≤◌, ◌<◌, ◌^◌, min, Bool, true, false, not, List, [], ◌∷◌, ◌++◌, length, get_or, take, drop, refl, sym, ◌∙◌, ap, subst, arith, length-append, length-drop, append_assoc, take-append-drop, Fits, w8}
use Rattle.std.proofs.lemmas.List.{length-take-le, take-take, take_at, drop-drop, drop_more, take_all, get_or-take, get_or-drop, get_or_at}
use Rattle.std.proofs.lemmas.Nat.{be_bytes_8, from_be_bytes-to_be_bytes_8}
use Rattle.std.specs.Int.{w64, to_be_bytes, from_be_bytes}
use Rattle.std.specs.Prelude.{nat_eq, Result, Ok, Err, Option, Some, None}
use Rattle.std.specs.Cmp.Lexicographic.{pointwise, bytes_decides}
use Rattle.record_file.specs.Crashes.{FileState}
use Rattle.record_file.specs.Records.{head_of, framed, record_size, Begins, IsFramed, IsNoRecordFile, HasAnotherName, IsBadAt}
use Rattle.record_file.specs.Reading.{ReaderState, IsAtGate, ReadsHead, ReadsNext, IsBadRecord, IsReadTo, IsClosedAt, IsRecordAt, IsBadGate, IsFrontAt, ReadsFront, IsBehind, Moves, MovesBehind}
use Rattle.record_file.specs.Opening.{ChecksHead}
use Rattle.record_file.specs.declared.stored_record.StoredRecord.{StoredRecord}
use Rattle.record_file.specs.declared.open_fault.OpenFault.{OpenFault}
use Rattle.record_file.specs.declared.open_fault.OpenFault.TheVariants.{NotARecordFile, NameDiffers, BadRecord, DiskFault, NoMemory}
use Rattle.record_file.specs.Gates.{IsOpenGate, IsNoGate}
use Rattle.record_file.proofs.RecordLemmas.{begins_none, begins_more, length-framed}

small : (bytes : List ℕ) → ((i : ℕ) → Fits w8 (get_or bytes i 0)) → (n i : ℕ) → get_or (take n bytes) i 0 < 256
small bytes fits zero i = omega arith
small [] fits (suc n) i = omega arith
small (b ∷ bytes) fits (suc n) zero = omega (arith, fits 0)
small (b ∷ bytes) fits (suc n) (suc i) = small bytes (λ k. fits (suc k)) n i

pub either_le : (a b : ℕ) → (a ≤ b) ⊎ (b ≤ a)
either_le zero b = inl (omega arith)
either_le (suc a) zero = inr (omega arith)
either_le (suc a) (suc b) = elim (either_le a b) [
  | inl le ↦ inl (omega (arith, le))
  | inr le ↦ inr (omega (arith, le))
]

-- the front of what follows a gate
tail_front : (rest : List ℕ) → 9 ≤ length rest → take 8 (drop 1 (take 9 rest)) ≡ take 8 (drop 1 rest)
tail_front [] long = absurd (omega (arith, long))
tail_front (x ∷ rest) long = take-take 8 8 rest (omega arith)

tail_split : (rest : List ℕ) → 9 ≤ length rest → drop 1 rest ≡ take 8 (drop 1 rest) ++ drop 9 rest
tail_split [] long = absurd (omega (arith, long))
tail_split (x ∷ rest) long = sym (take-append-drop 8 rest)

module _ (rest bytes digits : List ℕ) (size behind : ℕ) (long : length rest ≡ behind + 9) (front : bytes ≡ take 9 rest) (first : digits ≡ take 8 (drop 1 bytes)) (fits : (i : ℕ) → Fits w8 (get_or bytes i 0)) (says : size ≡ from_be_bytes w64 digits) where
  digits_are : digits ≡ take 8 (drop 1 rest)
  digits_are = first ∙ ap (λ (l : List ℕ). take 8 (drop 1 l)) front ∙ tail_front rest (omega (arith, long))

  digits_long : length digits ≡ 8
  digits_long = ap length digits_are ∙ length-take-le 8 (drop 1 rest) (omega (arith, length-drop 1 rest, long))

  digits_small : (i : ℕ) → get_or digits i 0 < 256
  digits_small i = subst (λ (l : List ℕ). get_or l i 0 < 256) (sym first) (small (drop 1 bytes) (λ k. subst (λ (n : ℕ). Fits w8 n) (sym (get_or-drop 1 bytes k 0)) (fits (1 + k))) 8 i)

  pub opened_gate : (get_or bytes 0 0 ≡ 0 → ⊥) → size < 2 ^ 64 → size < behind → IsOpenGate rest size
  opened_gate opened below within = record {
    opened = λ e. opened (ap (λ (l : List ℕ). get_or l 0 0) front ∙ get_or-take 9 rest 0 0 (omega arith) ∙ e);
    fits = below;
    digits =
        tail_split rest (omega (arith, long)) ∙ ap (λ (l : List ℕ). l ++ drop 9 rest) (sym digits_are ∙ sym (be_bytes_8 digits size digits_long digits_small says));
    long = omega (arith, within, long);
  }

  pub no_record_fits : behind ≤ size → (body more : List ℕ) → IsFramed (drop 1 rest) body more → ⊥
  no_record_fits past body more f =
      let spelled : digits ≡ to_be_bytes w64 (length body) =
      digits_are ∙ ap (λ (l : List ℕ). take 8 l) (f.spells ∙ append_assoc (to_be_bytes w64 (length body)) body more) ∙ take_at (to_be_bytes w64 (length body)) (body ++ more) 8 refl in
      let same : size ≡ length body = says ∙ ap (λ (l : List ℕ). from_be_bytes w64 l) spelled ∙ from_be_bytes-to_be_bytes_8 (length body) f.fits in
      omega (arith, past, same, long, ap length f.spells, length-append (framed body) more, length-framed body, length-drop 1 rest, f.goes_on)

  pub bad_gate : (get_or bytes 0 0 ≡ 0 → ⊥) → behind ≤ size → IsNoGate rest
  bad_gate opened past = record {
    opened = λ e. opened (ap (λ (l : List ℕ). get_or l 0 0) front ∙ get_or-take 9 rest 0 0 (omega arith) ∙ e);
    no_record = no_record_fits past;
  }

pub closed_gate : (rest bytes : List ℕ) → bytes ≡ take 9 rest → get_or bytes 0 0 ≡ 0 → get_or rest 0 0 ≡ 0
closed_gate rest bytes front shut = sym (get_or-take 9 rest 0 0 (omega arith)) ∙ ap (λ (l : List ℕ). get_or l 0 0) (sym front) ∙ shut

pub last_closed : (rest bytes : List ℕ) → bytes ≡ take 1 rest → get_or bytes 0 0 ≡ 0 → get_or rest 0 0 ≡ 0
last_closed rest bytes front shut = sym (get_or-take 1 rest 0 0 (omega arith)) ∙ ap (λ (l : List ℕ). get_or l 0 0) (sym front) ∙ shut

pub last_bad : (rest bytes : List ℕ) → length rest < 9 → bytes ≡ take 1 rest → (get_or bytes 0 0 ≡ 0 → ⊥) → IsNoGate rest
last_bad rest bytes short front opened = record {
  opened = λ e. opened (ap (λ (l : List ℕ). get_or l 0 0) front ∙ get_or-take 1 rest 0 0 (omega arith) ∙ e);
  no_record = λ body more f. omega (arith, short, ap length f.spells, length-append (framed body) more, length-framed body, length-drop 1 rest, f.goes_on);
}

gate_there : (file : List ℕ) (offset : ℕ) → get_or (drop offset file) 0 0 ≡ get_or file offset 0
gate_there file offset = get_or-drop offset file 0 0 ∙ ap (λ (i : ℕ). get_or file i 0) (let same : offset + 0 ≡ offset = omega arith in same)

pub gate_front : (file : List ℕ) (offset : ℕ) → offset < length file → drop offset file ≡ get_or (drop offset file) 0 0 ∷ drop (offset + 1) file
gate_front file offset lt = drop_more file offset 0 lt ∙ ap (λ (n : ℕ). n ∷ drop (offset + 1) file) (sym (gate_there file offset))

-- what the reader finds at its gate
pub closed_at : (file : List ℕ) (offset : ℕ) → offset < length file → get_or (drop offset file) 0 0 ≡ 0 → IsClosedAt file offset
closed_at file offset lt shut = gate_front file offset lt ∙ ap (λ (n : ℕ). n ∷ drop (offset + 1) file) shut

pub bad_at : (file : List ℕ) (offset : ℕ) → IsNoGate (drop offset file) → IsBadGate file offset
bad_at file offset g = record {
  opened = λ e. g.opened (gate_there file offset ∙ e);
  no_record = λ body more f. g.no_record body more (subst (λ (l : List ℕ). IsFramed l body more) (sym (drop-drop 1 offset file)) f);
}

pub record_at : (file body : List ℕ) (offset size : ℕ) → offset < length file → IsOpenGate (drop offset file) size → length body ≡ size → body ≡ take size (drop (offset + 9) file) → IsRecordAt file offset body (offset + record_size body)
record_at file body offset size lt g long is =
    let next : offset + 9 + size ≡ offset + record_size body = omega (arith, long) in
    let digits : to_be_bytes w64 size ≡ to_be_bytes w64 (length body) = ap (λ (n : ℕ). to_be_bytes w64 n) (sym long) in
    let behind : drop 9 (drop offset file) ≡ body ++ drop (offset + record_size body) file =
    drop-drop 9 offset file ∙ sym (take-append-drop size (drop (offset + 9) file)) ∙ ap (λ (l : List ℕ). l ++ drop size (drop (offset + 9) file)) (sym is)
    ∙ ap (λ (l : List ℕ). body ++ l) (drop-drop size (offset + 9) file ∙ ap (λ (n : ℕ). drop n file) next) in
    record {
      gate = get_or (drop offset file) 0 0;
      opened = g.opened;
      fits = omega (arith, long, g.fits);
      spells =
          gate_front file offset lt ∙ ap (λ (l : List ℕ). get_or (drop offset file) 0 0 ∷ l)
          (sym (drop-drop 1 offset file) ∙ g.digits ∙ ap (λ (l : List ℕ). l ++ drop 9 (drop offset file)) digits ∙ ap (λ (l : List ℕ). to_be_bytes w64 (length body) ++ l) behind
          ∙ sym (append_assoc (to_be_bytes w64 (length body)) body (drop (offset + record_size body) file)));
      within = omega (arith, g.long, length-drop offset file, long);
    }

front_read_at : (file front : List ℕ) (offset size count most : ℕ) → offset < length file → IsOpenGate (drop offset file) size → count ≡ min size most → front ≡ take count (drop (offset + 9) file) → IsFrontAt most file offset front (offset + (9 + size))
front_read_at file front offset size count most lt g few is =
    let body : List ℕ = take size (drop (offset + 9) file) in
    let long : length body ≡ size = length-take-le size (drop (offset + 9) file) (omega (arith, g.long, length-drop offset file, length-drop (offset + 9) file)) in
    let next : offset + record_size body ≡ offset + (9 + size) = omega (arith, long) in
    record {
      body = body;
      there = subst (λ (n : ℕ). IsRecordAt file offset body n) next (record_at file body offset size lt g long refl);
      front_is = is ∙ elim (either_le size most) [
        | inl small ↦ ap (λ (n : ℕ). take n (drop (offset + 9) file)) (let all : count ≡ size = omega (arith, few, small) in all) ∙ sym (take_all most body (omega (arith, long, small)))
        | inr large ↦ ap (λ (n : ℕ). take n (drop (offset + 9) file)) (let all : count ≡ most = omega (arith, few, large) in all) ∙ sym (take-take most size (drop (offset + 9) file) large)
      ];
    }

pub front_read : (a b : FileState) (bytes front : List ℕ) (inside reader : ReaderState) (size count most disk_size : ℕ) → b ≡ a → inside ≡ reader → length a.content ≡ disk_size → IsAtGate reader disk_size → IsOpenGate (drop inside.offset a.content) size
    → count ≡ min size most → bytes ≡ take count (drop (inside.offset + 9) b.content) → front ≡ bytes → IsFrontAt most a.content reader.offset front (inside.offset + (9 + size))
front_read a b bytes front inside reader size count most disk_size same view told at gate few is from =
    let offset : inside.offset ≡ reader.offset = ap (λ (r : ReaderState). r.offset) view in
    subst (λ (n : ℕ). IsFrontAt most a.content n front (inside.offset + (9 + size))) offset
    (front_read_at a.content front inside.offset size count most (omega (arith, offset, told, at.within)) gate few (from ∙ is ∙ ap (λ (f : FileState). take count (drop (inside.offset + 9) f.content)) same))

-- of a whole body all is its front
whole_front : (file : List ℕ) (offset next : ℕ) (front : List ℕ) → IsFrontAt (2 ^ 64 - 1) file offset front next → IsRecordAt file offset front next
whole_front file offset next front f =
    subst (λ (l : List ℕ). IsRecordAt file offset l next) (sym (f.front_is ∙ take_all (2 ^ 64 - 1) f.body (omega (arith, f.there.fits)))) f.there

pub reads_whole : (file : List ℕ) (offset next : ℕ) (result : Result (Option StoredRecord) OpenFault) → ReadsFront (2 ^ 64 - 1) file offset next result → ReadsNext file offset next result
reads_whole file offset next (Ok (Some r)) is = whole_front file offset next r.body is
reads_whole file offset next (Ok None) is = is
reads_whole file offset next (Err fault) is = is

behind_whole : (front : List ℕ) (old new : ReaderState) → IsBehind (2 ^ 64 - 1) front old new → new ≡ record old { offset = old.offset + record_size front }
behind_whole front old new is =
    let same : old.offset + (9 + is.size) ≡ old.offset + record_size front = omega (arith, is.long, is.fits) in
    is.place ∙ ap (λ (n : ℕ). record old { offset = n }) same

pub moves_whole : (result : Result (Option StoredRecord) OpenFault) (old new : ReaderState) → MovesBehind (2 ^ 64 - 1) result old new → Moves result old new
moves_whole (Ok (Some r)) old new is = (is.0, behind_whole r.body old new is.1)
moves_whole (Ok None) old new is = is
moves_whole (Err fault) old new is = is

-- one record more is read
pub reads_more : (head : List ℕ) (bodies : List (List ℕ)) (file body : List ℕ) (offset next : ℕ) → IsReadTo head bodies file offset → IsRecordAt file offset body next → IsReadTo head (bodies ++ body ∷ []) file next
reads_more head bodies file body offset next r at = record {
  begins = begins_more head bodies file body (drop next file) at.gate at.opened at.fits (subst (λ (l : List ℕ). Begins head bodies file l) at.spells r.begins);
  within = at.within;
}

pub reads_bad : (head : List ℕ) (bodies : List (List ℕ)) (file : List ℕ) (offset : ℕ) → IsReadTo head bodies file offset → IsBadGate file offset → IsBadAt head file offset
reads_bad head bodies file offset r bad = record {
  bodies = bodies;
  gate = get_or file offset 0;
  rest = drop (offset + 1) file;
  begins = subst (λ (l : List ℕ). Begins head bodies file l) (drop_more file offset 0 r.within) r.begins;
  at = omega (arith, length-drop (offset + 1) file, r.within);
  opened = bad.opened;
  no_record = bad.no_record;
}

-- the head of a file, by its first bytes
module _ (magic name bytes file : List ℕ) (count : ℕ) (front : bytes ≡ take count file) (within : count ≤ length file) where
  bytes_long : length bytes ≡ count
  bytes_long = ap length front ∙ length-take-le count file within

  pub head_found : (rest : List ℕ) → bytes ≡ head_of magic name ++ rest → 0 < length rest → IsReadTo (head_of magic name) [] file (length (head_of magic name))
  head_found rest is some =
      let below : length (head_of magic name) < count = omega (arith, ap length is, length-append (head_of magic name) rest, bytes_long, some) in
      let first : take (length (head_of magic name)) file ≡ head_of magic name =
      sym (take-take (length (head_of magic name)) count file (omega (arith, below))) ∙ ap (λ (l : List ℕ). take (length (head_of magic name)) l) (sym front ∙ is) ∙ take_at (head_of magic name) rest (length (head_of magic name)) refl in
      record {
        begins = begins_none (head_of magic name) file (drop (length (head_of magic name)) file) (sym (take-append-drop (length (head_of magic name)) file) ∙ ap (λ (l : List ℕ). l ++ drop (length (head_of magic name)) file) first);
        within = omega (arith, below, within);
      }

  whole_file : file ≡ bytes ++ drop count file
  whole_file = sym (take-append-drop count file) ∙ ap (λ (l : List ℕ). l ++ drop count file) (sym front)

  pub head_other : HasAnotherName magic name bytes → HasAnotherName magic name file
  head_other h = record {
    its = h.its;
    rest = h.rest ++ drop count file;
    begins = whole_file ∙ ap (λ (l : List ℕ). l ++ drop count file) h.begins ∙ append_assoc (head_of magic h.its) h.rest (drop count file);
    goes_on = omega (arith, h.goes_on, length-append h.rest (drop count file));
    other = h.other;
  }

  -- a head that begins the file begins the bytes
  module _ (fits : (i : ℕ) → get_or bytes i 0 < 256) (enough : (count ≡ length file) ⊎ (length magic + 257 ≤ count)) (its rest : List ℕ) (is : file ≡ head_of magic its ++ rest) (goes_on : 0 < length rest) where
    head_long : length (head_of magic its) ≡ length magic + 1 + length its
    head_long = omega (arith, length-append magic (length its ∷ its))

    name_short : length magic < count → length its < 256
    name_short lt =
        let there : get_or file (length magic) 0 ≡ length its =
        ap (λ (l : List ℕ). get_or l (length magic) 0) (is ∙ append_assoc magic (length its ∷ its) rest) ∙ get_or_at magic (length its) (its ++ rest) 0 (length magic) refl in
        let here : get_or bytes (length magic) 0 ≡ length its = ap (λ (l : List ℕ). get_or l (length magic) 0) front ∙ get_or-take count file (length magic) 0 lt ∙ there in
        omega (arith, fits (length magic), here)

    head_below : (count ≡ length file) ⊎ (length magic + 257 ≤ count) → length (head_of magic its) < count
    head_below (inl all) = omega (arith, all, ap length is, length-append (head_of magic its) rest, goes_on)
    head_below (inr many) = omega (arith, many, head_long, name_short (omega (arith, many)))

    pub head_in_bytes : IsNoRecordFile magic bytes → ⊥
    head_in_bytes none =
        let n : ℕ = length (head_of magic its) in
        let below : n < count = head_below enough in
        let first : take n bytes ≡ head_of magic its =
        ap (λ (l : List ℕ). take n l) front ∙ take-take n count file (omega (arith, below)) ∙ ap (λ (l : List ℕ). take n l) is ∙ take_at (head_of magic its) rest n refl in
        none.no_head its (drop n bytes) (sym (take-append-drop n bytes) ∙ ap (λ (l : List ℕ). l ++ drop n bytes) first) (omega (arith, length-drop n bytes, bytes_long, below))

  pub head_none : 0 < length file → ((i : ℕ) → get_or bytes i 0 < 256) → (count ≡ length file) ⊎ (length magic + 257 ≤ count) → IsNoRecordFile magic bytes → IsNoRecordFile magic file
  head_none some fits enough none = record {
    some = some;
    no_head = λ its rest is goes_on. head_in_bytes fits enough its rest is goes_on none;
  }

pub head_here : (bytes magic behind its rest : List ℕ) (count : ℕ) → bytes ≡ magic ++ count ∷ behind → behind ≡ its ++ rest → length its ≡ count → bytes ≡ head_of magic its ++ rest
head_here bytes magic behind its rest count is split long =
    is ∙ ap (λ (n : ℕ). magic ++ n ∷ behind) (sym long) ∙ ap (λ (l : List ℕ). magic ++ length its ∷ l) split ∙ sym (append_assoc magic (length its ∷ its) rest)

pub no_magic : (bytes magic : List ℕ) → 0 < length bytes → ((rest : List ℕ) → bytes ≢ magic ++ rest) → IsNoRecordFile magic bytes
no_magic bytes magic some none = record {
  some = some;
  no_head = λ name rest is goes_on. none (length name ∷ (name ++ rest)) (is ∙ append_assoc magic (length name ∷ name) rest);
}

ne_false : (q r : Bool) → r ≡ not q → r ≡ false → q ≡ true
ne_false true r e f = refl
ne_false false r e f = cc (e, f)

ne_true : (q r : Bool) → r ≡ not q → r ≡ true → q ≡ false
ne_true true r e f = cc (e, f)
ne_true false r e f = refl

pub equal_bytes : (xs ys : List ℕ) (r : Bool) → r ≡ not (pointwise nat_eq xs ys) → r ≡ false → xs ≡ ys
equal_bytes xs ys r e f = (bytes_decides xs ys).0 (ne_false (pointwise nat_eq xs ys) r e f)

pub other_bytes : (xs ys : List ℕ) (r : Bool) → r ≡ not (pointwise nat_eq xs ys) → r ≡ true → xs ≢ ys
other_bytes xs ys r e f same = let t : true ≡ false = sym ((bytes_decides xs ys).1 same) ∙ ne_true (pointwise nat_eq xs ys) r e f in cc t

pub at_most : (count sum size : ℕ) → count ≡ min sum size → count ≤ size
at_most count sum size is = omega (arith, is)

pub either_enough : (m sum count size disk_size file_size : ℕ) → sum ≡ min (m + 257) (2 ^ 64 - 1) → count ≡ min sum size → size ≡ disk_size → disk_size < 2 ^ 63 → file_size ≡ disk_size → (count ≡ file_size) ⊎ (m + 257 ≤ count)
either_enough m sum count size disk_size file_size saturated is same below told = elim (either_le sum size) [
  | inl le ↦ inr (omega (arith, le, saturated, is, same, below))
  | inr le ↦ inl (omega (arith, le, is, same, told))
]

-- what the first bytes say of the head, they say of the file's
pub head_fault : (magic name bytes file : List ℕ) (count : ℕ) (fault : OpenFault) → bytes ≡ take count file → count ≤ length file → 0 < length file → ((i : ℕ) → get_or bytes i 0 < 256)
    → (count ≡ length file) ⊎ (length magic + 257 ≤ count) → ReadsHead magic name bytes (Err fault) → ChecksHead magic name file (Err fault)
head_fault magic name bytes file count NotARecordFile front within some fits enough none = head_none magic name bytes file count front within some fits enough none
head_fault magic name bytes file count NameDiffers front within some fits enough other = head_other magic name bytes file count front within other
head_fault magic name bytes file count (BadRecord offset) front within some fits enough never = absurd never
head_fault magic name bytes file count DiskFault front within some fits enough never = absurd never
head_fault magic name bytes file count NoMemory front within some fits enough never = absurd never

-- why no next record is read
pub next_refused : (head : List ℕ) (bodies : List (List ℕ)) (file : List ℕ) (offset next : ℕ) (fault : OpenFault) → IsReadTo head bodies file offset → ReadsNext file offset next (Err fault) → IsBadRecord head file fault
next_refused head bodies file offset next NotARecordFile r never = absurd never
next_refused head bodies file offset next NameDiffers r never = absurd never
next_refused head bodies file offset next (BadRecord place) r bad = subst (λ (n : ℕ). IsBadAt head file n) (sym bad.0) (reads_bad head bodies file offset r bad.1)
next_refused head bodies file offset next DiskFault r done = tt
next_refused head bodies file offset next NoMemory r done = tt
