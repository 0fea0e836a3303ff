-- Entries of trees and the lines of tags: what is read is spelled so, and what is spelled so is read.
use Rattle.std.proofs.Common.{◌≡◌, ◌≢◌, ℕ, zero, suc, inl, inr, ◌+◌, ◌<◌, ◌≤◌, ◌==◌, nat_lt, nat_le, Bool, true, false, ◌⊎◌, cond, ◌&&◌, ◌||◌, not, List, [], ◌∷◌, ◌++◌, length, take, drop, get_or, Option, Some, None, refl, sym, subst, ◌∙◌, ap, ap₂, arith, append_assoc, take-append-drop, length-append, length-take}
use Rattle.std.specs.Prelude.{codes, position}
use Rattle.std.specs.List.{list_all, AllByRecursion, position_or_len}
use Rattle.std.specs.Str.{bytes_eq}
use Rattle.std.proofs.lemmas.Bool.{and_parts, and_from, eqb-true, eqb-false, eq-eqb, ne_eqb, lt-ltb, le-leb, leb-true, or_cases, cond-true, not-true}
use Rattle.std.proofs.lemmas.List.{take_at, drop_at, drop_more}
use Rattle.std.proofs.lemmas.List.Quantifiers.{position-Some}
use Rattle.std.proofs.lemmas.Option.{cond_some}
use Rattle.std.proofs.lemmas.Slice.Eq.{bytes_eq-Decides}
use Rattle.git_object.specs.Reader.{◌>>=◌, literal, up_to}
use Rattle.git_object.specs.ObjectId.{id_from}
use Rattle.git_object.specs.Kind.{kind_word, kind_of_word}
use Rattle.git_object.specs.Tag.{type_line}
use Rattle.git_object.specs.Tree.{Entry, tree_entry, is_mode, is_entry_name, id_at}
use Rattle.git_object.specs.Spelling.{IsEntry, spelled_entry}
use Rattle.git_object.specs.declared.object_id.ObjectId.{ObjectId}
use Rattle.git_object.specs.declared.kind.Kind.{Kind}
use Rattle.git_object.specs.declared.kind.Kind.TheVariants.{Commit, Tree, Blob, Tag}
use Rattle.git_object.proofs.ReaderLemmas.{bind_some, some_is, literal_takes}
use Rattle.git_object.proofs.SpellingLemmas.{Takes, Reads, literal_again}

-- ---- bytes before an end

-- no byte of these is that one
abbrev pub Without : ℕ → List ℕ → Type 0
Without end bytes = AllByRecursion (λ c. c ≢ end) bytes

without_from_places : (end : ℕ) (bytes : List ℕ) (n : ℕ) → ((k : ℕ) → k < n → (get_or bytes k 0 == end) ≡ false) → Without end (take n bytes)
without_from_places end bytes zero h = tt
without_from_places end [] (suc n) h = tt
without_from_places end (b ∷ bytes) (suc n) h = (eqb-false b end (h 0 (omega arith)), without_from_places end bytes n (λ k lt. h (suc k) (omega arith)))

pub without_from_test : (end : ℕ) (bytes : List ℕ) → list_all (λ c. not (c == end)) bytes ≡ true → Without end bytes
without_from_test end [] h = tt
without_from_test end (b ∷ bytes) h =
    let parts = and_parts (not (b == end)) (list_all (λ c. not (c == end)) bytes) h in
    (eqb-false b end (not-true (b == end) parts.0), without_from_test end bytes parts.1)

pub up_to_spelled : (end : ℕ) (bytes piece rest : List ℕ) → up_to end bytes ≡ Some (piece, rest) → (bytes ≡ piece ++ end ∷ rest) × Without end piece
unfolding up_to
up_to_spelled end bytes piece rest e =
    let b = bind_some (position (λ b. b == end) bytes) (λ at. Some (take at bytes, drop (at + 1) bytes)) (piece, rest) e in
    let p = position-Some (λ b. b == end) bytes b.0 0 b.1 in
    let parts = some_is (take b.0 bytes, drop (b.0 + 1) bytes) (piece, rest) b.2 in
    let front : take b.0 bytes ≡ piece = ap (λ (p : List ℕ × List ℕ). p.0) parts in
    let back : drop (b.0 + 1) bytes ≡ rest = ap (λ (p : List ℕ × List ℕ). p.1) parts in
    let there : get_or bytes b.0 0 ≡ end = eqb-true _ end p.1 in (
      sym (take-append-drop b.0 bytes) ∙ ap₂ ◌++◌ front (drop_more bytes b.0 0 p.0 ∙ ap₂ ◌∷◌ there back),
      rw (← front) (without_from_places end bytes b.0 p.2),
    )

first_end : (end : ℕ) (piece rest : List ℕ) → Without end piece → position_or_len (λ b. b == end) (piece ++ end ∷ rest) ≡ length piece
first_end end [] rest w = rw (eq-eqb end end refl) refl
first_end end (c ∷ piece) rest w = let ih = first_end end piece rest w.1 in rw (ne_eqb c end w.0) (omega (arith, ih))

pub up_to_again : (end : ℕ) (piece rest : List ℕ) → Without end piece → up_to end (piece ++ end ∷ rest) ≡ Some (piece, rest)
unfolding up_to
up_to_again end piece rest w =
    let at = first_end end piece rest w in
    let within : nat_lt (position_or_len (λ b. b == end) (piece ++ end ∷ rest)) (length (piece ++ end ∷ rest)) ≡ true = lt-ltb _ _ (omega (arith, at, length-append piece (end ∷ rest))) in
    let found : position (λ b. b == end) (piece ++ end ∷ rest) ≡ Some (length piece) = cond-true _ (Some (position_or_len (λ b. b == end) (piece ++ end ∷ rest))) None within ∙ ap (λ (n : ℕ). Some n) at in
    let behind : drop (length piece + 1) (piece ++ end ∷ rest) ≡ rest =
    ap (drop (length piece + 1)) (sym (append_assoc piece (end ∷ []) rest)) ∙ drop_at (piece ++ end ∷ []) rest (length piece + 1) (length-append piece (end ∷ [])) in
    ap (λ o. o >>= λ at. Some (take at (piece ++ end ∷ rest), drop (at + 1) (piece ++ end ∷ rest))) found
    ∙ ap₂ (λ (p q : List ℕ). Some (p, q)) (take_at piece (end ∷ rest) (length piece) refl) behind

-- ---- entries

id_at_spelled : (bytes rest : List ℕ) (id : ObjectId) → id_at bytes ≡ Some (id, rest) → (bytes ≡ id.bytes ++ rest) × (length id.bytes ≡ 20)
id_at_spelled bytes rest id e =
    let g = cond_some (nat_le 20 (length bytes)) (id_from (take 20 bytes), drop 20 bytes) (id, rest) e in
    let long : 20 ≤ length bytes = leb-true 20 (length bytes) g.0 in
    let front : take 20 bytes ≡ id.bytes = ap (λ (p : ObjectId × List ℕ). p.0.bytes) g.1 in
    let back : drop 20 bytes ≡ rest = ap (λ (p : ObjectId × List ℕ). p.1) g.1 in
    (sym (take-append-drop 20 bytes) ∙ ap₂ ◌++◌ front back, omega (arith, ap length front, length-take 20 bytes))

id_at_again : (id : ObjectId) (rest : List ℕ) → length id.bytes ≡ 20 → id_at (id.bytes ++ rest) ≡ Some (id, rest)
id_at_again id rest len =
    rw (le-leb 20 (length (id.bytes ++ rest)) (omega (arith, length-append id.bytes rest)), take_at id.bytes rest 20 len, drop_at id.bytes rest 20 len) refl

mode_without_space : (mode : List ℕ) → is_mode mode ≡ true → list_all (λ c. not (c == 32)) mode ≡ true
mode_without_space mode h =
    let is = λ (text : List ℕ) (b : bytes_eq mode text ≡ true). ap (list_all (λ c. not (c == 32))) ((bytes_eq-Decides mode text).0 b) in
    let one = bytes_eq mode (codes "40000") in
    let two = bytes_eq mode (codes "100644") in
    let three = bytes_eq mode (codes "100664") in
    let four = bytes_eq mode (codes "100755") in
    let five = bytes_eq mode (codes "120000") in
    let six = bytes_eq mode (codes "160000") in
    elim (or_cases (one || two || three || four || five) six h) [
      | inr b ↦ is (codes "160000") b
      | inl h5 ↦ elim (or_cases (one || two || three || four) five h5) [
        | inr b ↦ is (codes "120000") b
        | inl h4 ↦ elim (or_cases (one || two || three) four h4) [
          | inr b ↦ is (codes "100755") b
          | inl h3 ↦ elim (or_cases (one || two) three h3) [
            | inr b ↦ is (codes "100664") b
            | inl h2 ↦ elim (or_cases one two h2) [ inr b ↦ is (codes "100644") b | inl b ↦ is (codes "40000") b ]
          ]
        ]
      ]
    ]

entry_parts : (mode name id rest : List ℕ) → mode ++ 32 ∷ (name ++ 0 ∷ (id ++ rest)) ≡ (mode ++ 32 ∷ (name ++ 0 ∷ id)) ++ rest
entry_parts mode name id rest =
    ap (λ (t : List ℕ). mode ++ 32 ∷ t) (sym (append_assoc name (0 ∷ id) rest)) ∙ sym (append_assoc mode (32 ∷ (name ++ 0 ∷ id)) rest)

-- an entry that is read is spelled so
pub tree_entry_spelled : (bytes rest : List ℕ) (entry : Entry) → tree_entry bytes ≡ Some (entry, rest) → (bytes ≡ spelled_entry entry ++ rest) × IsEntry entry
unfolding tree_entry
tree_entry_spelled bytes rest entry e =
    let made : (List ℕ × List ℕ) → (List ℕ × List ℕ) → (ObjectId × List ℕ) → Option (Entry × List ℕ) =
    λ mode name id. cond (is_mode mode.0 && is_entry_name name.0) (Some (record { mode = mode.0; name = name.0; id = id.0 }, id.1)) None in
    let a = bind_some (up_to 32 bytes) (λ mode. up_to 0 mode.1 >>= λ name. id_at name.1 >>= λ id. made mode name id) (entry, rest) e in
    let b = bind_some (up_to 0 a.0.1) (λ name. id_at name.1 >>= λ id. made a.0 name id) (entry, rest) a.2 in
    let d = bind_some (id_at b.0.1) (λ id. made a.0 b.0 id) (entry, rest) b.2 in
    let read : Entry = record { mode = a.0.0; name = b.0.0; id = d.0.0 } in
    let g = cond_some (is_mode a.0.0 && is_entry_name b.0.0) (record { mode = a.0.0; name = b.0.0; id = d.0.0 }, d.0.1) (entry, rest) d.2 in
    let tests = and_parts (is_mode a.0.0) (is_entry_name b.0.0) g.0 in
    let mode = up_to_spelled 32 bytes a.0.0 a.0.1 a.1 in
    let name = up_to_spelled 0 a.0.1 b.0.0 b.0.1 b.1 in
    let id = id_at_spelled b.0.1 d.0.1 d.0.0 d.1 in
    let whole : (bytes ≡ (a.0.0 ++ 32 ∷ (b.0.0 ++ 0 ∷ d.0.0.bytes)) ++ d.0.1) =
    mode.0 ∙ ap (λ (t : List ℕ). a.0.0 ++ 32 ∷ t) (name.0 ∙ ap (λ (t : List ℕ). b.0.0 ++ 0 ∷ t) id.0) ∙ entry_parts a.0.0 b.0.0 d.0.0.bytes d.0.1 in
    let good : IsEntry (record { mode = a.0.0; name = b.0.0; id = d.0.0 }) = record { mode = tests.0; name = tests.1; no_zero = name.1; id = id.1 } in
    subst (λ (p : Entry × List ℕ). (bytes ≡ spelled_entry p.0 ++ p.1) × IsEntry p.0) g.1 (whole, good)

-- an entry that is spelled is read
pub tree_entry_again : (entry : Entry) (rest : List ℕ) → IsEntry entry → tree_entry (spelled_entry entry ++ rest) ≡ Some (entry, rest)
unfolding tree_entry
tree_entry_again entry rest is =
    let mode = up_to_again 32 entry.mode (entry.name ++ 0 ∷ (entry.id.bytes ++ rest)) (without_from_test 32 entry.mode (mode_without_space entry.mode is.mode)) in
    let name = up_to_again 0 entry.name (entry.id.bytes ++ rest) is.no_zero in
    let id = id_at_again entry.id rest is.id in
    ap tree_entry (sym (entry_parts entry.mode entry.name entry.id.bytes rest))
    ∙ rw mode (rw name (rw id (rw (and_from (is_mode entry.mode) (is_entry_name entry.name) is.mode is.name) refl)))

pub entry_takes : Takes tree_entry spelled_entry IsEntry
entry_takes = record { takes = λ bytes rest entry e. tree_entry_spelled bytes rest entry e }

pub entry_reads : Reads tree_entry spelled_entry IsEntry
entry_reads = record { again = λ entry rest is. tree_entry_again entry rest is }

-- ---- the line of a kind

chosen : {A : Type 0} (b : Bool) (x y : A) (o : Option A) → cond b (Some x) o ≡ Some y → ((b ≡ true) × (x ≡ y)) ⊎ (o ≡ Some y)
chosen true x y o e = inl (refl, some_is x y e)
chosen false x y o e = inr e

word_spelled : (word : List ℕ) (kind : Kind) → kind_of_word word ≡ Some kind → word ≡ kind_word kind
unfolding kind_of_word
word_spelled word kind e =
    let is = λ (k : Kind) (b : bytes_eq word (kind_word k) ≡ true) (same : k ≡ kind). (bytes_eq-Decides word (kind_word k)).0 b ∙ ap kind_word same in
    elim (chosen (bytes_eq word (codes "commit")) Commit kind _ e) [
      | inl p ↦ is Commit p.0 p.1
      | inr h ↦ elim (chosen (bytes_eq word (codes "tree")) Tree kind _ h) [
        | inl p ↦ is Tree p.0 p.1
        | inr h ↦ elim (chosen (bytes_eq word (codes "blob")) Blob kind _ h) [
          | inl p ↦ is Blob p.0 p.1
          | inr h ↦ elim (chosen (bytes_eq word (codes "tag")) Tag kind _ h) [ inl p ↦ is Tag p.0 p.1 | inr h ↦ absurd cc ]
        ]
      ]
    ]

word_again : (kind : Kind) → kind_of_word (kind_word kind) ≡ Some kind
unfolding kind_of_word
word_again Commit = refl
word_again Tree = refl
word_again Blob = refl
word_again Tag = refl

word_without_end : (kind : Kind) → list_all (λ c. not (c == 10)) (kind_word kind) ≡ true
word_without_end Commit = refl
word_without_end Tree = refl
word_without_end Blob = refl
word_without_end Tag = refl

pub type_line_spelled : (bytes rest : List ℕ) (kind : Kind) → type_line bytes ≡ Some (kind, rest) → bytes ≡ codes "type " ++ (kind_word kind ++ 10 ∷ rest)
unfolding type_line
type_line_spelled bytes rest kind e =
    let a = bind_some (literal (codes "type ") bytes) (λ after. up_to 10 after >>= λ word. kind_of_word word.0 >>= λ kind. Some (kind, word.1)) (kind, rest) e in
    let b = bind_some (up_to 10 a.0) (λ word. kind_of_word word.0 >>= λ kind. Some (kind, word.1)) (kind, rest) a.2 in
    let d = bind_some (kind_of_word b.0.0) (λ kind. Some (kind, b.0.1)) (kind, rest) b.2 in
    let parts = some_is (d.0, b.0.1) (kind, rest) d.2 in
    let same : d.0 ≡ kind = ap (λ (p : Kind × List ℕ). p.0) parts in
    let behind : b.0.1 ≡ rest = ap (λ (p : Kind × List ℕ). p.1) parts in
    let word = word_spelled b.0.0 d.0 d.1 ∙ ap kind_word same in
    literal_takes (codes "type ") bytes a.0 a.1
    ∙ ap (λ (t : List ℕ). codes "type " ++ t) ((up_to_spelled 10 a.0 b.0.0 b.0.1 b.1).0 ∙ ap₂ (λ (p q : List ℕ). p ++ 10 ∷ q) word behind)

pub type_line_again : (kind : Kind) (rest : List ℕ) → type_line (codes "type " ++ (kind_word kind ++ 10 ∷ rest)) ≡ Some (kind, rest)
unfolding type_line
type_line_again kind rest =
    let end = up_to_again 10 (kind_word kind) rest (without_from_test 10 (kind_word kind) (word_without_end kind)) in
    ap (λ o. o >>= λ after. up_to 10 after >>= λ word. kind_of_word word.0 >>= λ kind. Some (kind, word.1)) (literal_again (codes "type ") (kind_word kind ++ 10 ∷ rest))
    ∙ rw end (rw (word_again kind) refl)
