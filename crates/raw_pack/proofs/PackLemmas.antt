-- The trailer, and a pack as its parts.
use Rattle.std.proofs.Common.{◌≡◌, ℕ, ◌<◌, ◌≤◌, List, [], ◌++◌, length, take, drop, true, false, Result, Ok, Err, if◌then◌else◌, refl, sym, ◌∙◌, ap, subst, inl, inr, arith, length-append}
use Rattle.std.proofs.lemmas.List.{take_at, drop_at, take_all, length-take-le, append-nil, take-append-le, drop-append-le}
use Rattle.std.specs.Str.{bytes_eq}
use Rattle.sha1.specs.Sha1.{Holds, sha1}
use Rattle.sha1.specs.declared.Sha1.{Sha1}
use Rattle.base_types.specs.Fronts.{Front, Whole, Broken, Partial}
use Rattle.git_object.specs.Content.{Content}
use Rattle.pktline_core.specs.LinkState.{LinkState}
use Rattle.pktline_core.specs.Links.{IsLater, TakesAll}
use Rattle.pktline_core.specs.declared.links.TakeFault.TheVariants.{Ended, Failed}
use Rattle.pktline_core.proofs.LinkLemmas.{consumes_more}
use Rattle.raw_pack.specs.Formats.{gives, fails, bytes, ◌>>=◌, front, behind, and_then}
use Rattle.raw_pack.specs.Packs.{header, pack_entries, signed_part, trailer, pack_end, pack_front}
use Rattle.raw_pack.specs.Reading.{DecidesFault, Decides, Reads, ReadsFront}
use Rattle.raw_pack.specs.declared.fault.PackFault.{PackFault}
use Rattle.raw_pack.specs.declared.fault.PackFault.TheVariants.{Truncated, TrailerDiffers, ReadFault}
use Rattle.raw_pack.proofs.FormatLemmas.{front-bind, front-wants, front-wants_short, whole_stays, broken_stays, whole_within, decided_behind, broken_behind}
use Rattle.raw_pack.proofs.ReadLemmas.{fault_first, decides_behind, given_here, failed_here, reads_first, reads_then}

module _ (computed : List ℕ) (count : ℕ) (old new : LinkState) (room : List ℕ) (len : length room ≡ 20) where
  trailer_short : (k : ℕ) → k < 20 → k ≤ length room → front (trailer computed count) (take k room) ≡ Partial (Truncated count)
  unfolding trailer bytes ◌>>=◌
  trailer_short k less within =
      front-wants_short 20 (Truncated count) (λ read. if bytes_eq read computed then gives tt else fails (TrailerDiffers read computed)) (take k room) (omega (arith, length-take-le k room within))

  -- a trailer that the input's end cut short
  pub trailer_ended : TakesAll old new room (Err Ended) → ReadsFront (front (trailer computed count)) old new (Err (Truncated count))
  trailer_ended takes = record {
    taken = take takes.n room;
    consumed = takes.consumed;
    counted = omega (arith, takes.counted, length-take-le takes.n room takes.within);
    decided = inr (trailer_short takes.n (omega (arith, takes.ended.0, len)) takes.within, takes.ended.1);
  }

  -- a trailer that a failing read cut short
  pub trailer_failed : TakesAll old new room (Err Failed) → ReadsFront (front (trailer computed count)) old new (Err ReadFault)
  trailer_failed takes = record {
    taken = take takes.n room;
    consumed = takes.consumed;
    counted = omega (arith, takes.counted, length-take-le takes.n room takes.within);
    decided = ((Truncated count, trailer_short takes.n (omega (arith, takes.ended.0, len)) takes.within), takes.ended.1, takes.ended.2);
  }

  trailer_read : front (trailer computed count) room ≡ behind 20 (front (if bytes_eq room computed then gives tt else fails (TrailerDiffers room computed)) [])
  unfolding trailer bytes ◌>>=◌
  trailer_read =
      ap (front (trailer computed count)) (sym (append-nil room))
      ∙ front-wants 20 (Truncated count) (λ read. if bytes_eq read computed then gives tt else fails (TrailerDiffers read computed)) room [] len

  pub trailer_same : bytes_eq room computed ≡ true → TakesAll old new room (Ok tt) → ReadsFront (front (trailer computed count)) old new (Ok tt)
  trailer_same same takes = record {
    taken = room;
    consumed = rw (take_all takes.n room (omega (arith, takes.ended))) at takes.consumed;
    counted = omega (arith, takes.counted, takes.ended);
    decided = trailer_read ∙ rw same (given_here 20 tt [] ∙ ap (λ (n : ℕ). Whole n tt) (sym len));
  }

  pub trailer_other : bytes_eq room computed ≡ false → TakesAll old new room (Ok tt) → ReadsFront (front (trailer computed count)) old new (Err (TrailerDiffers room computed))
  trailer_other other takes = record {
    taken = room;
    consumed = rw (take_all takes.n room (omega (arith, takes.ended))) at takes.consumed;
    counted = omega (arith, takes.counted, takes.ended);
    decided = inl (trailer_read ∙ rw other (failed_here 20 (TrailerDiffers room computed) [] ∙ ap (λ (n : ℕ). Broken n (TrailerDiffers room computed)) (sym len)));
  }

-- a fault of the signed part is the pack's
pub pack_cut : (old new : LinkState) (before after : Sha1) (fault : PackFault) → Reads signed_part old new before after (Err fault) → ReadsFront pack_front old new (Err fault)
unfolding pack_front
pack_cut old new before after fault r = record {
  taken = r.taken;
  consumed = r.consumed;
  counted = r.counted;
  decided = fault_first (length r.taken) old new (front signed_part r.taken) (λ n contents. front (pack_end (sha1 (take n r.taken)) contents) (drop n r.taken)) fault r.decided;
}

pub pack_cut_in_header : (old new : LinkState) (before after : Sha1) (fault : PackFault) → Reads header old new before after (Err fault) → ReadsFront pack_front old new (Err fault)
unfolding signed_part
pack_cut_in_header old new before after fault r = pack_cut old new before after fault (reads_first header (λ count. pack_entries count 0 0 []) old new before after after fault r)

pub signed_both : (old mid new : LinkState) (before between after : Sha1) (count : ℕ) (answer : Result (List Content) PackFault) → Reads header old mid before between (Ok count) → IsLater old mid
    → Reads (pack_entries count 0 0 []) mid new between after answer → Reads signed_part old new before after answer
unfolding signed_part
signed_both old mid new before between after count answer p later q = reads_then header (λ count. pack_entries count 0 0 []) old mid new before between after count answer p later q

-- a trailer behind a signed part that is whole
pub front-pack : (xs ys : List ℕ) (contents : List Content) → front signed_part xs ≡ Whole (length xs) contents → pack_front (xs ++ ys) ≡ behind (length xs) (front (pack_end (sha1 xs) contents) ys)
unfolding pack_front
front-pack xs ys contents is =
    ap (λ at. and_then at (λ n found. front (pack_end (sha1 (take n (xs ++ ys))) found) (drop n (xs ++ ys)))) (whole_stays signed_part xs ys (length xs) contents is)
    ∙ ap (λ (l : List ℕ). behind (length xs) (front (pack_end (sha1 l) contents) (drop (length xs) (xs ++ ys)))) (take_at xs ys (length xs) refl)
    ∙ ap (λ (l : List ℕ). behind (length xs) (front (pack_end (sha1 xs) contents) l)) (drop_at xs ys (length xs) refl)

-- the answer of a pack whose trailer was read
abbrev pub ended : List Content → Result (Unit {0}) PackFault → Result (List Content) PackFault
ended contents (Ok unit) = Ok contents
ended contents (Err fault) = Err fault

end_decides : (computed : List ℕ) (contents : List Content) (ys : List ℕ) (old new : LinkState) (answer : Result (Unit {0}) PackFault) → Decides (front (trailer computed (length contents)) ys) (length ys) old new answer
    → Decides (front (pack_end computed contents) ys) (length ys) old new (ended contents answer)
unfolding pack_end
end_decides computed contents ys old new (Ok unit) d =
    front-bind (λ checked. gives contents) (trailer computed (length contents)) ys
    ∙ ap (λ at. and_then at (λ n checked. front (gives contents) (drop n ys))) d
    ∙ given_here (length ys) contents (drop (length ys) ys)
end_decides computed contents ys old new (Err fault) d =
    subst (λ at. DecidesFault at (length ys) old new fault) (sym (front-bind (λ checked. gives contents) (trailer computed (length contents)) ys))
    (fault_first (length ys) old new (front (trailer computed (length contents)) ys) (λ n checked. front (gives contents) (drop n ys)) fault d)

pub pack_both : (old mid new : LinkState) (before after : Sha1) (contents : List Content) (computed : List ℕ) (count : ℕ) (answer : Result (Unit {0}) PackFault)
    → Reads signed_part old mid before after (Ok contents) → IsLater old mid → Holds before [] → ((m : List ℕ) → Holds after m → computed ≡ sha1 m) → length contents ≡ count
    → ReadsFront (front (trailer computed count)) mid new answer → ReadsFront pack_front old new (ended contents answer)
pack_both old mid new before after contents computed count answer p later empty finalized len q =
    let signed : computed ≡ sha1 p.taken = finalized p.taken (p.hashed [] empty) in
    let decided : Decides (front (trailer (sha1 p.taken) (length contents)) q.taken) (length q.taken) mid new answer = rw (← signed, len) q.decided in
    record {
      taken = p.taken ++ q.taken;
      consumed = consumes_more old.left mid.left new.left p.taken q.taken p.consumed q.consumed;
      counted = omega (arith, p.counted, q.counted, length-append p.taken q.taken);
      decided = subst (λ at. Decides at (length (p.taken ++ q.taken)) old new (ended contents answer)) (sym (front-pack p.taken q.taken contents p.decided))
          (subst (λ (n : ℕ). Decides (behind (length p.taken) (front (pack_end (sha1 p.taken) contents) q.taken)) n old new (ended contents answer)) (sym (length-append p.taken q.taken))
          (decides_behind (length p.taken) (length q.taken) old mid new (front (pack_end (sha1 p.taken) contents) q.taken) (ended contents answer) later
          (end_decides (sha1 p.taken) contents q.taken mid new answer decided)));
    }

-- what is decided stays so, whatever follows
module _ (xs ys : List ℕ) where
  after_signed : (n : ℕ) (contents : List Content) → front signed_part xs ≡ Whole n contents
      → (pack_front xs ≡ behind n (front (pack_end (sha1 (take n xs)) contents) (drop n xs))) × (pack_front (xs ++ ys) ≡ behind n (front (pack_end (sha1 (take n xs)) contents) (drop n xs ++ ys)))
  unfolding pack_front
  after_signed n contents is =
      let within : n ≤ length xs = whole_within signed_part xs n contents is in (
        ap (λ at. and_then at (λ n found. front (pack_end (sha1 (take n xs)) found) (drop n xs))) is,
        ap (λ at. and_then at (λ n found. front (pack_end (sha1 (take n (xs ++ ys))) found) (drop n (xs ++ ys)))) (whole_stays signed_part xs ys n contents is)
            ∙ rw (take-append-le, drop-append-le),
      )

  whole_by : (at : Front (List Content) PackFault) → front signed_part xs ≡ at → (n : ℕ) (found : List Content) → pack_front xs ≡ Whole n found → pack_front (xs ++ ys) ≡ Whole n found
  unfolding pack_front
  whole_by (Whole m contents) is n found whole =
      let both = after_signed m contents is in
      let inner = decided_behind m n found (front (pack_end (sha1 (take m xs)) contents) (drop m xs)) (sym both.0 ∙ whole) in
      both.1 ∙ ap (behind m) (whole_stays (pack_end (sha1 (take m xs)) contents) (drop m xs) ys inner.0 found inner.1) ∙ ap (λ (k : ℕ). Whole k found) (sym inner.2)
  whole_by (Broken m fault) is n found whole = absurd (let at : pack_front xs ≡ Broken m fault = ap (λ at. and_then at (λ n found. front (pack_end (sha1 (take n xs)) found) (drop n xs))) is in cc)
  whole_by (Partial fault) is n found whole = absurd (let at : pack_front xs ≡ Partial fault = ap (λ at. and_then at (λ n found. front (pack_end (sha1 (take n xs)) found) (drop n xs))) is in cc)

  broken_by : (at : Front (List Content) PackFault) → front signed_part xs ≡ at → (n : ℕ) (found : PackFault) → pack_front xs ≡ Broken n found → pack_front (xs ++ ys) ≡ Broken n found
  unfolding pack_front
  broken_by (Whole m contents) is n found broken =
      let both = after_signed m contents is in
      let inner = broken_behind m n found (front (pack_end (sha1 (take m xs)) contents) (drop m xs)) (sym both.0 ∙ broken) in
      both.1 ∙ ap (behind m) (broken_stays (pack_end (sha1 (take m xs)) contents) (drop m xs) ys inner.0 found inner.1) ∙ ap (λ (k : ℕ). Broken k found) (sym inner.2)
  broken_by (Broken m fault) is n found broken =
      let at : pack_front xs ≡ Broken m fault = ap (λ at. and_then at (λ n found. front (pack_end (sha1 (take n xs)) found) (drop n xs))) is in
      let more : pack_front (xs ++ ys) ≡ Broken m fault = ap (λ at. and_then at (λ n found. front (pack_end (sha1 (take n (xs ++ ys))) found) (drop n (xs ++ ys)))) (broken_stays signed_part xs ys m fault is) in
      more ∙ sym at ∙ broken
  broken_by (Partial fault) is n found broken = absurd (let at : pack_front xs ≡ Partial fault = ap (λ at. and_then at (λ n found. front (pack_end (sha1 (take n xs)) found) (drop n xs))) is in cc)

pub pack_whole_stays : (xs ys : List ℕ) (n : ℕ) (contents : List Content) → pack_front xs ≡ Whole n contents → pack_front (xs ++ ys) ≡ Whole n contents
pack_whole_stays xs ys n contents is = whole_by xs ys (front signed_part xs) refl n contents is

pub pack_broken_stays : (xs ys : List ℕ) (n : ℕ) (fault : PackFault) → pack_front xs ≡ Broken n fault → pack_front (xs ++ ys) ≡ Broken n fault
pack_broken_stays xs ys n fault is = broken_by xs ys (front signed_part xs) refl n fault is
