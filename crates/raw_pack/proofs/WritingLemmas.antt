-- Steps of writing a pack, one after the other.
use Rattle.std.proofs.Common.{◌≡◌, ℕ, suc, ◌+◌, ◌<◌, List, [], ◌∷◌, ◌++◌, length, take, drop, get_or, codes, Option, None, Some, Result, Ok, Err, refl, sym, ◌∙◌, ap, subst, append_assoc, take-append-drop}
use Rattle.std.proofs.lemmas.List.{append-nil, take_more}
use Rattle.std.proofs.lemmas.List.Elements.{All-head, All-rest, All-push, filter_map-append}
use Rattle.std.proofs.lemmas.Grind.{flat_map-append}
use Rattle.std.proofs.lemmas.Option.{slice_get-get_or}
use Rattle.std.specs.Prelude.{All, flat_map, filter_map, slice_get}
use Rattle.std.specs.List.{cons_option}
use Rattle.std.specs.Int.{w32, to_be_bytes}
use Rattle.std.specs.Io.KnownBytes.{Appends}
use Rattle.sha1.specs.Sha1.{Holds, sha1}
use Rattle.sha1.specs.declared.Sha1.{Sha1}
use Rattle.git_object.specs.Content.{Content}
use Rattle.git_object.specs.declared.kind.Kind.TheVariants.{Blob}
use Rattle.pktline_core.specs.LinkState.{LinkState}
use Rattle.pktline_core.specs.Links.{IsLater, Writes}
use Rattle.pktline_core.specs.declared.links.WriteFault.{WriteFault}
use Rattle.pktline_core.proofs.LinkLemmas.{writes_first, writes_second}
use Rattle.git_object.specs.Object.{IsPackable}
use Rattle.raw_pack.specs.Grammar.{spelled_entry, before_trailer, spelled_pack}
use Rattle.raw_pack.specs.Writing.{WritesHashed, objects_at}

-- what broke in the first part broke in both
pub hashed_first : (old new : LinkState) (before between after : Sha1) (xs ys : List ℕ) (fault : WriteFault) → WritesHashed old new before between xs (Err fault) → WritesHashed old new before after (xs ++ ys) (Err fault)
hashed_first old new before between after xs ys fault w = record { writes = writes_first old new xs ys fault w.writes; hashed = tt }

-- the first part whole, and then the second
pub hashed_second : (old mid new : LinkState) (before between after : Sha1) (xs ys : List ℕ) (result : Result (Unit {0}) WriteFault)
    → WritesHashed old mid before between xs (Ok tt) → IsLater old mid → WritesHashed mid new between after ys result → WritesHashed old new before after (xs ++ ys) result
hashed_second old mid new before between after xs ys (Ok unit) w later v = record {
  writes = writes_second old mid new xs ys (Ok unit) w.writes later v.writes;
  hashed = λ m holds. subst (λ (l : List ℕ). Holds after l) (append_assoc m xs ys) (v.hashed (m ++ xs) (w.hashed m holds));
}
hashed_second old mid new before between after xs ys (Err fault) w later v = record { writes = writes_second old mid new xs ys (Err fault) w.writes later v.writes; hashed = tt }

nothing_appended : (written : Option (List ℕ)) → Appends written written []
nothing_appended None = tt
nothing_appended (Some xs) = sym (append-nil xs)

pub nothing_written : (now : LinkState) (hasher : Sha1) → WritesHashed now now hasher hasher [] (Ok tt)
nothing_written now hasher = record {
  writes = record { done = []; rest = []; split = refl; appended = nothing_appended now.written; ended = refl };
  hashed = λ m holds. subst (λ (l : List ℕ). Holds hasher l) (sym (append-nil m)) holds;
}

-- as many objects as places
pub length-objects_at : (objects : List Content) (places : List ℕ) → All (λ place. place < length objects) places → length (objects_at objects places) ≡ length places
length-objects_at objects [] within = refl
length-objects_at objects (place ∷ places) within =
    let none : Content = record { kind = Blob; body = [] } in
    let found : slice_get objects place ≡ Some (get_or objects place none) = slice_get-get_or objects place none (All-head (λ place. place < length objects) place places within) in
    rw found (ap (λ (n : ℕ). suc n) (length-objects_at objects places (All-rest (λ place. place < length objects) place places (place ∷ places) refl within)))

-- one place more
module _ (objects : List Content) (places : List ℕ) (i : ℕ) (content : Content) (within : i < length places) (is : slice_get objects (get_or places i 0) ≡ Some content) where
  pub objects_at_more : objects_at objects (take (i + 1) places) ≡ objects_at objects (take i places) ++ content ∷ []
  objects_at_more =
      ap (filter_map (slice_get objects)) (take_more places i 0 within)
      ∙ filter_map-append (slice_get objects) (take i places) (get_or places i 0 ∷ [])
      ∙ ap (λ (found : Option Content). objects_at objects (take i places) ++ cons_option found []) is

  entries_more : flat_map spelled_entry (objects_at objects (take (i + 1) places)) ≡ flat_map spelled_entry (objects_at objects (take i places)) ++ spelled_entry content
  entries_more =
      ap (flat_map spelled_entry) objects_at_more
      ∙ flat_map-append spelled_entry (objects_at objects (take i places)) (content ∷ [])
      ∙ ap (λ (l : List ℕ). flat_map spelled_entry (objects_at objects (take i places)) ++ l) (append-nil (spelled_entry content))

  entries_split : flat_map spelled_entry (objects_at objects (take i places)) ++ (spelled_entry content ++ flat_map spelled_entry (objects_at objects (drop (i + 1) places))) ≡ flat_map spelled_entry (objects_at objects places)
  entries_split =
      sym (append_assoc (flat_map spelled_entry (objects_at objects (take i places))) (spelled_entry content) (flat_map spelled_entry (objects_at objects (drop (i + 1) places))))
      ∙ ap (λ (l : List ℕ). l ++ flat_map spelled_entry (objects_at objects (drop (i + 1) places))) (sym entries_more)
      ∙ sym (flat_map-append spelled_entry (objects_at objects (take (i + 1) places)) (objects_at objects (drop (i + 1) places)))
      ∙ ap (flat_map spelled_entry) (sym (filter_map-append (slice_get objects) (take (i + 1) places) (drop (i + 1) places)) ∙ ap (filter_map (slice_get objects)) (take-append-drop (i + 1) places))

  module _ (old mid new : LinkState) (before between after : Sha1) (w : WritesHashed old mid before between (flat_map spelled_entry (objects_at objects (take i places))) (Ok tt)) (later : IsLater old mid) where
    pub entries_go_on : WritesHashed mid new between after (spelled_entry content) (Ok tt) → WritesHashed old new before after (flat_map spelled_entry (objects_at objects (take (i + 1) places))) (Ok tt)
    entries_go_on v =
        subst (λ (l : List ℕ). WritesHashed old new before after l (Ok tt)) (sym entries_more)
        (hashed_second old mid new before between after (flat_map spelled_entry (objects_at objects (take i places))) (spelled_entry content) (Ok tt) w later v)

    pub entries_broken : (fault : WriteFault) → WritesHashed mid new between after (spelled_entry content) (Err fault) → WritesHashed old new before after (flat_map spelled_entry (objects_at objects places)) (Err fault)
    entries_broken fault v =
        let rest = flat_map spelled_entry (objects_at objects (drop (i + 1) places)) in
        subst (λ (l : List ℕ). WritesHashed old new before after l (Err fault)) entries_split
        (hashed_second old mid new before between after (flat_map spelled_entry (objects_at objects (take i places))) (spelled_entry content ++ rest) (Err fault) w later
        (hashed_first mid new between after after (spelled_entry content) rest fault v))

-- the parts of a pack of so many objects
module _ (contents : List Content) (count : ℕ) (is : count ≡ length contents) where
  pack_parts : (codes "PACK" ++ to_be_bytes w32 2 ++ to_be_bytes w32 count) ++ (flat_map spelled_entry contents ++ sha1 (before_trailer contents)) ≡ spelled_pack contents
  unfolding before_trailer spelled_pack
  pack_parts = rw is refl

  signed_parts : (codes "PACK" ++ to_be_bytes w32 2 ++ to_be_bytes w32 count) ++ flat_map spelled_entry contents ≡ before_trailer contents
  unfolding before_trailer
  signed_parts = rw is refl

  module _ (old new : LinkState) (before : Sha1) where
    pub pack_cut_in_header : (after : Sha1) (fault : WriteFault) → WritesHashed old new before after (codes "PACK" ++ to_be_bytes w32 2 ++ to_be_bytes w32 count) (Err fault) → Writes old new (spelled_pack contents) (Err fault)
    pack_cut_in_header after fault w =
        subst (λ (l : List ℕ). Writes old new l (Err fault)) pack_parts
        (writes_first old new (codes "PACK" ++ to_be_bytes w32 2 ++ to_be_bytes w32 count) (flat_map spelled_entry contents ++ sha1 (before_trailer contents)) fault w.writes)

    module _ (mid : LinkState) (between : Sha1) (w : WritesHashed old mid before between (codes "PACK" ++ to_be_bytes w32 2 ++ to_be_bytes w32 count) (Ok tt)) (later : IsLater old mid) where
      pub pack_cut_in_entries : (after : Sha1) (fault : WriteFault) → WritesHashed mid new between after (flat_map spelled_entry contents) (Err fault) → Writes old new (spelled_pack contents) (Err fault)
      pack_cut_in_entries after fault v =
          subst (λ (l : List ℕ). Writes old new l (Err fault)) pack_parts
          (writes_second old mid new (codes "PACK" ++ to_be_bytes w32 2 ++ to_be_bytes w32 count) (flat_map spelled_entry contents ++ sha1 (before_trailer contents)) (Err fault) w.writes later
          (writes_first mid new (flat_map spelled_entry contents) (sha1 (before_trailer contents)) fault v.writes))

      pub pack_ended : (behind : LinkState) (after : Sha1) (computed : List ℕ) (result : Result (Unit {0}) WriteFault) → Holds before [] → WritesHashed mid behind between after (flat_map spelled_entry contents) (Ok tt) → IsLater mid behind
          → ((m : List ℕ) → Holds after m → computed ≡ sha1 m) → Writes behind new computed result → Writes old new (spelled_pack contents) result
      pack_ended behind after computed result empty v then_later digest u =
          let held : Holds after (before_trailer contents) = subst (λ (l : List ℕ). Holds after l) signed_parts (v.hashed (codes "PACK" ++ to_be_bytes w32 2 ++ to_be_bytes w32 count) (w.hashed [] empty)) in
          let trailer : computed ≡ sha1 (before_trailer contents) = digest (before_trailer contents) held in
          subst (λ (l : List ℕ). Writes old new l result) pack_parts
          (writes_second old mid new (codes "PACK" ++ to_be_bytes w32 2 ++ to_be_bytes w32 count) (flat_map spelled_entry contents ++ sha1 (before_trailer contents)) result w.writes later
          (writes_second mid behind new (flat_map spelled_entry contents) (sha1 (before_trailer contents)) result v.writes then_later
          (subst (λ (l : List ℕ). Writes behind new l result) trailer u)))

-- one object more that can be an entry
pub packable_more : (objects : List Content) (places : List ℕ) (i : ℕ) (content : Content) → i < length places → slice_get objects (get_or places i 0) ≡ Some content
    → All IsPackable (objects_at objects (take i places)) → IsPackable content → All IsPackable (objects_at objects (take (i + 1) places))
packable_more objects places i content within is all good =
    subst (All IsPackable) (sym (objects_at_more objects places i content within is)) (All-push IsPackable (objects_at objects (take i places)) content all good)
