-- The reader of entries, step by step.
use Rattle.std.proofs.Common.{◌≡◌, ℕ, ◌+◌, ◌-◌, ◌<◌, ◌≤◌, List, [], ◌∷◌, ◌++◌, length, Option, Some, None, Result, Ok, Err, refl, sym, ◌∙◌, ap, subst, arith, length-append}
use Rattle.sha1.specs.Sha1.{Holds, sha1}
use Rattle.sha1.specs.declared.Sha1.{Sha1}
use Rattle.git_object.specs.Content.{Content}
use Rattle.pktline_core.specs.LinkState.{LinkState}
use Rattle.pktline_core.specs.Links.{IsLater}
use Rattle.pktline_core.proofs.LinkLemmas.{later_more}
use Rattle.raw_pack.specs.Formats.{front}
use Rattle.raw_pack.specs.Packs.{header, pack_entry, pack_entries, pack_front, signed_part, trailer}
use Rattle.raw_pack.specs.Reading.{Reads, ReadsFront}
use Rattle.raw_pack.specs.Readers.{GoesOn, ReaderState, Repeats, Stands, end_answer}
use Rattle.raw_pack.specs.declared.fault.PackFault.{PackFault}
use Rattle.raw_pack.proofs.ReadLemmas.{leaves_whole, leaves_then}
use Rattle.raw_pack.proofs.EntryLemmas.{entries_end, entries_cut, entries_more}
use Rattle.raw_pack.proofs.PackLemmas.{ended, pack_cut, pack_both}

pub stands_first : (old new : LinkState) (before after : Sha1) (count : ℕ) (last : Option Content) → Holds before [] → Reads header old new before after (Ok count) → IsLater old new
    → Stands old new (record { hasher = after; count = count; read = 0; sum = 0; last = last; end = None }) []
unfolding signed_part
stands_first old new before after count last empty r later =
    let all : count - 0 ≡ count = omega arith in
    record {
      first = before;
      empty = empty;
      leaves = rw all (leaves_then signed_part header (λ number. pack_entries number 0 0 []) old old new before before after count (leaves_whole signed_part old before) r);
      later = later;
      all = refl;
      goes = refl;
    }

module _ (start old : LinkState) (reader : ReaderState) (contents : List Content) (stands : Stands start old reader contents) where
  pub stands_cut : (new : LinkState) (after : Sha1) (fault : PackFault) → reader.read < reader.count → Reads (pack_entry reader.read reader.sum) old new reader.hasher after (Err fault)
      → ReadsFront pack_front start new (Err fault)
  stands_cut new after fault more r =
      pack_cut start new stands.first after fault
      (entries_cut signed_part reader.read reader.sum contents start old stands.first reader.hasher (reader.count - reader.read) stands.leaves (reader.count - (reader.read + 1)) (omega (arith, more)) new after fault
      stands.later r)

  pub stands_more : (new : LinkState) (after : Sha1) (content : Content) (last : Option Content) → reader.read < reader.count → Reads (pack_entry reader.read reader.sum) old new reader.hasher after (Ok content)
      → IsLater old new → Stands start new (record { hasher = after; count = reader.count; read = reader.read + 1; sum = reader.sum + length content.body; last = last; end = None }) (contents ++ content ∷ [])
  stands_more new after content last more r later = record {
    first = stands.first;
    empty = stands.empty;
    leaves = entries_more signed_part reader.read reader.sum contents start old stands.first reader.hasher (reader.count - reader.read) stands.leaves (reader.count - (reader.read + 1)) (omega (arith, more)) new after content r;
    later = later_more start old new stands.later later;
    all = omega (arith, length-append contents (content ∷ []), stands.all);
    goes = refl;
  }

  pub stands_end : (new : LinkState) (computed : List ℕ) (answer : Result (Unit {0}) PackFault) → reader.read ≡ reader.count → ((m : List ℕ) → Holds reader.hasher m → computed ≡ sha1 m)
      → ReadsFront (front (trailer computed reader.count)) old new answer → ReadsFront pack_front start new (ended contents answer)
  stands_end new computed answer all finalized r =
      pack_both start old new stands.first reader.hasher contents computed reader.count answer
      (entries_end signed_part reader.read reader.sum contents start old stands.first reader.hasher (reader.count - reader.read) stands.leaves (omega (arith, all)) stands.later) stands.later stands.empty finalized
      (stands.all ∙ all) r

module _ (old new : LinkState) (before r : ReaderState) (is : before ≡ r) where
  pub goes_more : (after : Sha1) (content : Content) (size : ℕ) → before.read < before.count → before.end ≡ None → size ≡ length content.body → Reads (pack_entry r.read r.sum) old new r.hasher after (Ok content)
      → IsLater old new → GoesOn old new before (record { hasher = after; count = r.count; read = r.read + 1; sum = r.sum + size; last = Some content; end = r.end }) (Ok (Some content))
  unfolding GoesOn
  goes_more after content size more goes same read later =
      let none : r.end ≡ None = ap (λ (s : ReaderState). s.end) (sym is) ∙ goes in
      let below : r.read < r.count = subst (λ (s : ReaderState). s.read < s.count) is more in
      λ start contents stands.
      rw (none, same) (stands_more start old r contents (subst (λ (s : ReaderState). Stands start old s contents) is stands) new after content (Some content) below read later)

  pub goes_cut : (after : Sha1) (fault : PackFault) → before.read < before.count → Reads (pack_entry r.read r.sum) old new r.hasher after (Err fault)
      → GoesOn old new before (record { hasher = after; count = r.count; read = r.read; sum = r.sum; last = r.last; end = Some (Err fault) }) (Err fault)
  unfolding GoesOn
  goes_cut after fault more read =
      let below : r.read < r.count = subst (λ (s : ReaderState). s.read < s.count) is more in
      λ start contents stands. (stands_cut start old r contents (subst (λ (s : ReaderState). Stands start old s contents) is stands) new after fault below read, refl)

  module _ (computed : List ℕ) (after : Sha1) (within : r.read ≤ r.count) (all : before.count ≤ before.read) (finalized : (m : List ℕ) → Holds r.hasher m → computed ≡ sha1 m) where
    pub goes_end : ReadsFront (front (trailer computed r.count)) old new (Ok tt)
        → GoesOn old new before (record { hasher = after; count = r.count; read = r.read; sum = r.sum; last = r.last; end = Some (Ok tt) }) (Ok None)
    unfolding GoesOn
    goes_end read =
        let reached : r.count ≤ r.read = subst (λ (s : ReaderState). s.count ≤ s.read) is all in
        let whole : r.read ≡ r.count = omega arith in
        λ start contents stands. (stands_end start old r contents (subst (λ (s : ReaderState). Stands start old s contents) is stands) new computed (Ok tt) whole finalized read, refl)

    pub goes_broken : (fault : PackFault) → ReadsFront (front (trailer computed r.count)) old new (Err fault)
        → GoesOn old new before (record { hasher = after; count = r.count; read = r.read; sum = r.sum; last = r.last; end = Some (Err fault) }) (Err fault)
    unfolding GoesOn
    goes_broken fault read =
        let reached : r.count ≤ r.read = subst (λ (s : ReaderState). s.count ≤ s.read) is all in
        let whole : r.read ≡ r.count = omega arith in
        λ start contents stands. (stands_end start old r contents (subst (λ (s : ReaderState). Stands start old s contents) is stands) new computed (Err fault) whole finalized read, refl)

-- a reader that has ended
pub ended_goes : (old new : LinkState) (before after : ReaderState) (answer : Result (Option Content) PackFault) (end : Result (Unit {0}) PackFault) → before.end ≡ Some end → GoesOn old new before after answer
unfolding GoesOn
ended_goes old new before after answer end is = λ start contents stands. absurd (let goes : before.end ≡ None = stands.goes in cc)

pub ended_repeats : {S : Type 0} (source : S) (before : ReaderState) (end : Result (Unit {0}) PackFault) → before.end ≡ Some end → Repeats source source before before (end_answer end)
unfolding Repeats
ended_repeats source before end is = λ other same. let one : end ≡ other = cc in (ap end_answer one, refl, refl)

pub open_repeats : {S : Type 0} (source source' : S) (before after : ReaderState) (answer : Result (Option Content) PackFault) → before.end ≡ None → Repeats source source' before after answer
unfolding Repeats
open_repeats source source' before after answer goes = λ other same. absurd (cc)
