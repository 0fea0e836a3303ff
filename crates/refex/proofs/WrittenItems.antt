-- Items are read as they are written.
use Rattle.std.proofs.Common.{◌≡◌, ℕ, ◌==◌, not, if◌then◌else◌, List, [], ◌∷◌, ◌++◌, Bool, true, false, None, Some, Option, Ok, Err, IfSome, length, drop, refl, sym, ◌∙◌, ap, subst, arith}
use Rattle.std.proofs.lemmas.Bool.Decides.{nat_tests}
use Rattle.refex.specs.Pattern.{Bytes}
use Rattle.refex.specs.Text.{Item, Atom, Open, Close, Bar, Repetition, Bad, range, every_other, is_alphanumeric, kind, begins_with, bytes_of, escaped_as, escape_made, escape_item, count, count_made, count_item, open_item, class, item}
use Rattle.refex.specs.Text as text
use Rattle.refex.specs.Written.{is_special, IsItem, itself, escaped, kind_of, dot, a_class, end, open_group, open_marked, close_group, bar, star, plus, optional, counted}
use Rattle.refex.specs.declared.faults.Offence.TheVariants as offences
use Rattle.refex.proofs.Conditions.{if_true, if_false, either_way}
use Rattle.refex.proofs.CountLemmas.{Begins, count_read, count_written}
use Rattle.refex.proofs.ClassLemmas.{ClassAs, class_there, class_written, not_alphanumeric}

-- ---- what is written is read

no_special : (b c : ℕ) → is_special b ≡ false → is_special c ≡ true → (b == c) ≡ false
no_special b c e f = one (b == c) refl
  where
    one : (t : Bool) → (b == c) ≡ t → t ≡ false
    one true h = let same : b ≡ c = grind (arith, nat_tests) in absurd (let g : true ≡ false = sym f ∙ ap is_special (sym same) ∙ e in cc)
    one false h = refl

pub item_written : {rest : List ℕ} {x : Item} {word : List ℕ} → IsItem rest x word → (at : ℕ) → item at (word ++ rest) ≡ (x, length word)
unfolding item escape_item text.escaped count_item open_item
item_written {rest = rest} (itself {b = b} h) at =
    if_false (b == 92) _ _ (no_special b 92 h refl)
    ∙ if_false (b == 46) _ _ (no_special b 46 h refl)
    ∙ if_false (b == 91) _ _ (no_special b 91 h refl)
    ∙ if_false (b == 36) _ _ (no_special b 36 h refl)
    ∙ if_false (b == 40) _ _ (no_special b 40 h refl)
    ∙ if_false (b == 41) _ _ (no_special b 41 h refl)
    ∙ if_false (b == 124) _ _ (no_special b 124 h refl)
    ∙ if_false (b == 42) _ _ (no_special b 42 h refl)
    ∙ if_false (b == 43) _ _ (no_special b 43 h refl)
    ∙ if_false (b == 63) _ _ (no_special b 63 h refl)
    ∙ if_false (b == 123) _ _ (no_special b 123 h refl)
    ∙ if_false (b == 94) _ _ (no_special b 94 h refl)
item_written (escaped {b = b} h) at =
    ap (λ k. escape_made (escaped_as k at b)) (not_alphanumeric b h) ∙ ap escape_made (if_false (is_alphanumeric b) _ _ h)
item_written (kind_of {b = b} h) at = ap (λ k. escape_made (escaped_as k at b)) h
item_written dot at = refl
item_written {rest = rest} (a_class is) at = class_written is at rest
item_written end at = refl
item_written {rest = rest} (open_group free) at = if_true (not (begins_with 63 rest)) _ _ (ap not free)
item_written open_marked at = refl
item_written close_group at = refl
item_written bar at = refl
item_written star at = refl
item_written plus at = refl
item_written optional at = refl
item_written {rest = rest} (counted {least = least} {most = most} {word = word} is) at =
    ap (count_made at) (count_written is rest) ∙ ap (λ n. (Repetition least most false, n)) (omega arith)

-- ---- what is read is written

-- an item that is no fault by itself
abbrev pub is_sound : Item → Bool
is_sound (Bad _) = false
is_sound (Open false) = false
is_sound _ = true

-- the bytes begin with the item, if it is no fault
abbrev pub ItemAt : List ℕ → Item × ℕ → Type 0
ItemAt bytes x = is_sound x.0 ≡ true → (word rest : List ℕ) × (bytes ≡ word ++ rest) × (x.1 ≡ length word) × IsItem rest x.0 word

no_fault : {A : Type 0} → false ≡ true → A
no_fault e = absurd (let f : false ≡ true = e in cc)

class_at : (bytes : List ℕ) (x : Item) (n : ℕ) → ClassAs bytes x n → ItemAt bytes (x, n)
class_at bytes (Atom (Bytes set)) n (word, rest, is, long, w) e = (word, rest, is, long, a_class w)
class_at bytes (Bad f) n h e = no_fault e
class_at bytes _ n h e = absurd h

escape_as : (at c : ℕ) (bytes : List ℕ) (k : Option (ℕ → Bool)) → kind c ≡ k → ItemAt (92 ∷ c ∷ bytes) (escape_made (escaped_as k at c))
escape_as at c bytes (Some f) e = λ _. (92 ∷ c ∷ [], bytes, refl, refl, kind_of e)
escape_as at c bytes None e = one (is_alphanumeric c) refl
  where
    one : (t : Bool) → is_alphanumeric c ≡ t → ItemAt (92 ∷ c ∷ bytes) (escape_made (if t then Err (offences.Unsupported at) else Ok (text.Byte c)))
    one true g s = no_fault s
    one false g s = (92 ∷ c ∷ [], bytes, refl, refl, escaped g)

escape_at : (at : ℕ) (bytes : List ℕ) → ItemAt (92 ∷ bytes) (escape_item at bytes)
unfolding escape_item text.escaped
escape_at at [] = λ s. no_fault s
escape_at at (c ∷ bytes) = escape_as at c bytes (kind c) refl

count_as : (at : ℕ) (bytes : List ℕ) (o : Option (ℕ × Option ℕ × ℕ)) → IfSome o (Begins bytes) → ItemAt (123 ∷ bytes) (count_made at o)
count_as at bytes None h s = no_fault s
count_as at bytes (Some x) (word, rest, is, long, w) s = (123 ∷ word, rest, ap (λ w. 123 ∷ w) is, omega (arith, long), counted w)

count_at : (at : ℕ) (bytes : List ℕ) → ItemAt (123 ∷ bytes) (count_item at bytes)
unfolding count_item
count_at at bytes = count_as at bytes (count bytes) (count_read bytes)

begun : (c : ℕ) (bytes : List ℕ) → begins_with c bytes ≡ true → bytes ≡ c ∷ drop 1 bytes
begun c [] e = no_fault e
begun c (b ∷ bytes) e = let same : b ≡ c = grind (arith, nat_tests) in ap (λ b. b ∷ bytes) same

not_false : (t : Bool) → not t ≡ true → t ≡ false
not_false false e = refl
not_false true e = no_fault e

not_true : (t : Bool) → not t ≡ false → t ≡ true
not_true true e = refl
not_true false e = no_fault (sym e)

open_at : (bytes : List ℕ) → ItemAt (40 ∷ bytes) (open_item bytes)
unfolding open_item
open_at bytes = either_way (ItemAt (40 ∷ bytes)) (not (begins_with 63 bytes)) (Open true, 1) (if begins_with 58 (drop 1 bytes) then (Open true, 3) else (Open false, 2))
    (λ e s. (40 ∷ [], bytes, refl, refl, open_group (not_false (begins_with 63 bytes) e)))
    (λ e. either_way (ItemAt (40 ∷ bytes)) (begins_with 58 (drop 1 bytes)) (Open true, 3) (Open false, 2)
    (λ f s. (
      40 ∷ 63 ∷ 58 ∷ [],
      drop 1 (drop 1 bytes),
      ap (λ w. 40 ∷ w) (begun 63 bytes (not_true (begins_with 63 bytes) e) ∙ ap (λ w. 63 ∷ w) (begun 58 (drop 1 bytes) f)),
      refl,
      open_marked,
    ))
    (λ f s. no_fault s))

-- the item of one byte
one_byte : (b c : ℕ) (bytes : List ℕ) (x : Item) → IsItem bytes x (c ∷ []) → (b == c) ≡ true → ItemAt (b ∷ bytes) (x, 1)
one_byte b c bytes x i e s = let same : b ≡ c = grind (arith, nat_tests) in (c ∷ [], bytes, ap (λ b. b ∷ bytes) same, refl, i)

from_byte : (b c : ℕ) (bytes : List ℕ) (x : ℕ → Item × ℕ) → ItemAt (c ∷ bytes) (x c) → (b == c) ≡ true → ItemAt (b ∷ bytes) (x b)
from_byte b c bytes x h e = let same : c ≡ b = grind (arith, nat_tests) in subst (λ b. ItemAt (b ∷ bytes) (x b)) same h

class_item_at : (at : ℕ) (bytes : List ℕ)
    → ItemAt (91 ∷ bytes) (if begins_with 94 bytes then class at true 2 (91 ∷ bytes) else class at false 1 (91 ∷ bytes))
unfolding item
class_item_at at bytes = class_at (91 ∷ bytes) (item at (91 ∷ bytes)).0 (item at (91 ∷ bytes)).1 (class_there at bytes)

pub item_is : (at b : ℕ) (bytes : List ℕ) → ItemAt (b ∷ bytes) (item at (b ∷ bytes))
unfolding item
item_is at b bytes =
    let P : Item × ℕ → Type 0 = ItemAt (b ∷ bytes) in
    either_way P (b == 92) _ _ (from_byte b 92 bytes (λ _. escape_item at bytes) (escape_at at bytes)) (λ e1.
    either_way P (b == 46) _ _ (one_byte b 46 bytes _ dot) (λ e2.
    either_way P (b == 91) _ _ (from_byte b 91 bytes (λ b. if begins_with 94 bytes then class at true 2 (b ∷ bytes) else class at false 1 (b ∷ bytes)) (class_item_at at bytes)) (λ e3.
    either_way P (b == 36) _ _ (one_byte b 36 bytes _ end) (λ e4.
    either_way P (b == 40) _ _ (from_byte b 40 bytes (λ _. open_item bytes) (open_at bytes)) (λ e5.
    either_way P (b == 41) _ _ (one_byte b 41 bytes _ close_group) (λ e6.
    either_way P (b == 124) _ _ (one_byte b 124 bytes _ bar) (λ e7.
    either_way P (b == 42) _ _ (one_byte b 42 bytes _ star) (λ e8.
    either_way P (b == 43) _ _ (one_byte b 43 bytes _ plus) (λ e9.
    either_way P (b == 63) _ _ (one_byte b 63 bytes _ optional) (λ e10.
    either_way P (b == 123) _ _ (from_byte b 123 bytes (λ _. count_item at bytes) (count_at at bytes)) (λ e11.
    either_way P (b == 94) _ _ (λ _ s. no_fault s) (λ e12 s. (b ∷ [], bytes, refl, refl, itself (grind (arith, nat_tests)))))))))))))))
