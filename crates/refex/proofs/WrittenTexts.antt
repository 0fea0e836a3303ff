-- Texts are read as they are written.
use Rattle.std.proofs.Common.{◌≡◌, ◌⊎◌, ℕ, zero, suc, ◌+◌, ◌-◌, ◌≤◌, ◌==◌, ◌&&◌, cond, nat_eq, List, [], ◌∷◌, ◌++◌, Bool, true, false, None, Some, Option, length, take, drop, take-append-drop, inl, inr, refl, sym, ◌∙◌, ap, subst, arith}
use Rattle.std.proofs.lemmas.Bool.Decides.{nat_tests}
use Rattle.std.proofs.lemmas.List.{length-append}
use Rattle.std.proofs.Math.Seq.{drop-append_seam}
use Rattle.std.specs.Cmp.Lexicographic.{pointwise}
use Rattle.refex.specs.Text.{Item, Atom, Open, Close, Bar, Repetition, Bad, Placed, placed, begins_with, is_at, hole_items, spelling, item, items_from, items}
use Rattle.refex.specs.Faults.{closes, first_fault, first_of, item_fault, last_after, depth_after}
use Rattle.refex.specs.Classes.{these, others}
use Rattle.refex.specs.Grammar.{Reads, alternation}
use Rattle.refex.specs.Refex.{forms}
use Rattle.refex.specs.Written.{IsItem, itself, escaped, kind_of, dot, a_class, end, open_group, open_marked, close_group, bar, star, plus, optional, counted, HoleAt, AreItems, none, more, user, creator, PatternsAreRead}
use Rattle.refex.specs.declared.items.Last.{Last}
use Rattle.refex.specs.declared.items.Last.TheVariants as last
use Rattle.refex.specs.declared.faults.Hole.{Hole}
use Rattle.refex.specs.declared.faults.Hole.TheVariants as holes
use Rattle.refex.specs.declared.faults.Offence.{Offence}
use Rattle.refex.specs.declared.faults.Offence.TheVariants as offences
use Rattle.refex.proofs.Cutting.{item_step, hole_step, begun_behind, begun_there}
use Rattle.refex.proofs.NoOffence.{no_offence}
use Rattle.refex.proofs.WrittenItems.{is_sound, item_written, item_is}

-- ---- the hole

same_by : (xs ys : List ℕ) → pointwise nat_eq xs ys ≡ true → xs ≡ ys
same_by [] [] e = refl
same_by [] (y ∷ ys) e = absurd (let f : false ≡ true = e in cc)
same_by (x ∷ xs) [] e = absurd (let f : false ≡ true = e in cc)
same_by (x ∷ xs) (y ∷ ys) e = one (nat_eq x y) refl e (same_by xs ys)
  where
    one : (t : Bool) → nat_eq x y ≡ t → t && pointwise nat_eq xs ys ≡ true → (pointwise nat_eq xs ys ≡ true → xs ≡ ys) → x ∷ xs ≡ y ∷ ys
    one true f e tail = let same : x ≡ y = grind (arith, nat_tests) in ap (λ x. x ∷ xs) same ∙ ap (λ xs. y ∷ xs) (tail e)
    one false f e tail = absurd (let f : false ≡ true = e in cc)

front_is : (n : ℕ) (front bytes : List ℕ) → pointwise nat_eq front (take n bytes) ≡ true → (behind : List ℕ) × (bytes ≡ front ++ behind)
front_is n front bytes e = (drop n bytes, sym (take-append-drop n bytes) ∙ ap (λ w. w ++ drop n bytes) (sym (same_by front (take n bytes) e)))

hole_is : (hole : Hole) (bytes : List ℕ) → is_at hole bytes ≡ true → HoleAt hole bytes
hole_is holes.Nothing bytes e = absurd (let f : false ≡ true = e in cc)
hole_is holes.User bytes e = front_is 6 (spelling holes.User) bytes e
hole_is holes.Creator bytes e = front_is 7 (spelling holes.Creator) bytes e

no_hole : (hole : Hole) (bytes : List ℕ) → (HoleAt hole bytes → ⊥) → is_at hole bytes ≡ false
no_hole hole bytes h = one (is_at hole bytes) refl
  where
    one : (t : Bool) → is_at hole bytes ≡ t → t ≡ false
    one true e = absurd (h (hole_is hole bytes e))
    one false e = refl

not_here : (hole : Hole) (bytes : List ℕ) → is_at hole bytes ≡ false → HoleAt hole bytes → ⊥
not_here holes.Nothing bytes e h = h
not_here holes.User bytes e (behind, is) = let f : true ≡ false = sym (ap (is_at holes.User) is) ∙ e in absurd (let g = f in cc)
not_here holes.Creator bytes e (behind, is) = let f : true ≡ false = sym (ap (is_at holes.Creator) is) ∙ e in absurd (let g = f in cc)

-- ---- what is written is read

item_some : {rest : List ℕ} {x : Item} {word : List ℕ} → IsItem rest x word → (b : ℕ) × (bytes : List ℕ) × (word ≡ b ∷ bytes) × ((b == 94) ≡ false)
item_some (itself {b = b} h) = (b, [], refl, grind (arith, nat_tests))
item_some (escaped {b = b} h) = (92, b ∷ [], refl, refl)
item_some (kind_of {b = b} h) = (92, b ∷ [], refl, refl)
item_some dot = (46, [], refl, refl)
item_some (a_class (these {word = word} is plain)) = (91, word ++ 93 ∷ [], refl, refl)
item_some (a_class (others {word = word} is)) = (91, 94 ∷ word ++ 93 ∷ [], refl, refl)
item_some end = (36, [], refl, refl)
item_some (open_group free) = (40, [], refl, refl)
item_some open_marked = (40, 63 ∷ 58 ∷ [], refl, refl)
item_some close_group = (41, [], refl, refl)
item_some bar = (124, [], refl, refl)
item_some star = (42, [], refl, refl)
item_some plus = (43, [], refl, refl)
item_some optional = (63, [], refl, refl)
item_some (counted {word = word} is) = (123, word, refl, refl)

-- an item at the front, and then the rest
step_read : (hole : Hole) (at : ℕ) (x : Item) (word rest : List ℕ) (b : ℕ) (bytes : List ℕ) → word ≡ b ∷ bytes → is_at hole (word ++ rest) ≡ false → item at (word ++ rest) ≡ (x, length word)
    → forms (items_from hole at 0 (word ++ rest)) ≡ x ∷ forms (items_from hole (at + length word) 0 rest)
step_read hole at x word rest b bytes is no_one e =
    let long : length word ≡ suc (length bytes) = ap length is in
    let front : word ++ rest ≡ b ∷ (bytes ++ rest) = ap (λ w. w ++ rest) is in
    let s = item_step hole at b (bytes ++ rest) x (length bytes) (ap (is_at hole) (sym front) ∙ no_one) (ap (item at) (sym front) ∙ e ∙ ap (λ n. (x, n)) long) in
    ap (λ w. forms (items_from hole at 0 w)) front ∙ ap forms s
    ∙ ap (λ w. x ∷ forms (items_from hole (at + suc (length bytes)) 0 w)) (drop-append_seam bytes rest)
    ∙ ap (λ n. x ∷ forms (items_from hole (at + n) 0 rest)) (sym long)

items_read : {hole : Hole} {xs : List Item} {text : List ℕ} → AreItems hole xs text → (at : ℕ) → forms (items_from hole at 0 text) ≡ xs
unfolding items_from
items_read none at = refl
items_read {hole = hole} (more {x = x} {word = word} {rest = rest} no_one i is) at =
    let s = item_some i in
    step_read hole at x word rest s.0 s.1 s.2 (no_hole hole (word ++ rest) no_one) (item_written i at) ∙ ap (λ xs. x ∷ xs) (items_read is (at + length word))
items_read (user {rest = rest} is) at =
    ap forms (hole_step holes.User at 47 (85 ∷ 83 ∷ 69 ∷ 82 ∷ 47 ∷ rest) 5 refl refl)
    ∙ ap (λ xs. forms (hole_items holes.User at) ++ xs) (items_read is (at + suc 5))
items_read (creator {rest = rest} is) at =
    ap forms (hole_step holes.Creator at 67 (82 ∷ 69 ∷ 65 ∷ 84 ∷ 79 ∷ 82 ∷ rest) 6 refl refl)
    ∙ ap (λ xs. forms (hole_items holes.Creator at) ++ xs) (items_read is (at + suc 6))

-- ---- what is read is written

abbrev AllSound : List Placed → Type 0
AllSound [] = Unit {0}
AllSound (x ∷ xs) = (is_sound x.item ≡ true) × AllSound xs

none_first : (a b : Option Offence) → first_of a b ≡ None → (a ≡ None) × (b ≡ None)
none_first None b e = (refl, e)
none_first (Some f) b e = absurd (let g : Some f ≡ None = e in cc)

sound_item : (before : Last) (depth : ℕ) (x : Item) (at later : ℕ) → item_fault before depth x at later ≡ None → is_sound x ≡ true
sound_item before depth (Bad f) at later e = absurd (let g : Some f ≡ None = e in cc)
sound_item before depth (Open false) at later e = absurd (let g : Some (offences.Unsupported at) ≡ None = e in cc)
sound_item before depth (Open true) at later e = refl
sound_item before depth (Atom p) at later e = refl
sound_item before depth Close at later e = refl
sound_item before depth Bar at later e = refl
sound_item before depth (Repetition least most suffix) at later e = refl

sound_all : (all : List Placed) (before : Last) (depth : ℕ) → first_fault before depth all ≡ None → AllSound all
unfolding first_fault
sound_all [] before depth e = tt
sound_all (x ∷ all) before depth e =
    let s = none_first (item_fault before depth x.item x.at (closes all)) (first_fault (last_after x.item) (depth_after depth x.item) all) e in
    (sound_item before depth x.item x.at (closes all) s.0, sound_all all (last_after x.item) (depth_after depth x.item) s.1)

-- whatever is read of so few bytes
abbrev AllAre : ℕ → Type 0
AllAre n = (hole : Hole) (at : ℕ) (bytes : List ℕ) → length bytes ≤ n → AllSound (items_from hole at 0 bytes) → AreItems hole (forms (items_from hole at 0 bytes)) bytes

hole_are : (n : ℕ) → AllAre n → (hole : Hole) (at b : ℕ) (bytes : List ℕ) → length (b ∷ bytes) ≤ suc n → is_at hole (b ∷ bytes) ≡ true → HoleAt hole (b ∷ bytes)
    → AllSound (items_from hole at 0 (b ∷ bytes)) → AreItems hole (forms (items_from hole at 0 (b ∷ bytes))) (b ∷ bytes)
hole_are n all holes.Nothing at b bytes few here h sound = absurd h
hole_are n all holes.User at b bytes few here (behind, is) sound =
    let s = hole_step holes.User at b bytes 5 here refl in
    let later : drop 5 bytes ≡ behind = ap (drop 6) is in
    let fewer : length (drop 5 bytes) ≤ n = omega (arith, few, ap length is, ap length later) in
    let t = (subst AllSound s sound).1.1.1 in
    subst (λ xs. AreItems holes.User (forms xs) (b ∷ bytes)) (sym s)
    (subst (λ w. AreItems holes.User (forms (hole_items holes.User at ++ items_from holes.Nothing (at + suc 5) 0 (drop 5 bytes))) w) (ap (λ w. spelling holes.User ++ w) later ∙ sym is)
    (user (all holes.Nothing (at + suc 5) (drop 5 bytes) fewer t)))
hole_are n all holes.Creator at b bytes few here (behind, is) sound =
    let s = hole_step holes.Creator at b bytes 6 here refl in
    let later : drop 6 bytes ≡ behind = ap (drop 7) is in
    let fewer : length (drop 6 bytes) ≤ n = omega (arith, few, ap length is, ap length later) in
    let t = (subst AllSound s sound).1 in
    subst (λ xs. AreItems holes.Creator (forms xs) (b ∷ bytes)) (sym s)
    (subst (λ w. AreItems holes.Creator (forms (hole_items holes.Creator at ++ items_from holes.Nothing (at + suc 6) 0 (drop 6 bytes))) w) (ap (λ w. spelling holes.Creator ++ w) later ∙ sym is)
    (creator (all holes.Nothing (at + suc 6) (drop 6 bytes) fewer t)))

first_sound : (hole : Hole) (at b : ℕ) (bytes : List ℕ) → is_at hole (b ∷ bytes) ≡ false → AllSound (items_from hole at 0 (b ∷ bytes)) → is_sound (item at (b ∷ bytes)).0 ≡ true
unfolding items_from
first_sound hole at b bytes no_one sound =
    (subst (λ t. AllSound (cond t (hole_items hole at ++ items_from holes.Nothing (suc at) (length (spelling hole) - 1) bytes)
    (placed at (item at (b ∷ bytes)).0 ∷ items_from hole (suc at) ((item at (b ∷ bytes)).1 - 1) bytes))) no_one sound).0

item_are : (n : ℕ) → AllAre n → (hole : Hole) (at b : ℕ) (bytes : List ℕ) → length (b ∷ bytes) ≤ suc n → is_at hole (b ∷ bytes) ≡ false → (x : Item × ℕ) → item at (b ∷ bytes) ≡ x
    → (is_sound x.0 ≡ true → (word rest : List ℕ) × (b ∷ bytes ≡ word ++ rest) × (x.1 ≡ length word) × IsItem rest x.0 word)
    → AllSound (items_from hole at 0 (b ∷ bytes)) → AreItems hole (forms (items_from hole at 0 (b ∷ bytes))) (b ∷ bytes)
item_are n all hole at b bytes few no_one (x, zero) e h sound =
    let w = h (sym (ap (λ (r : Item × ℕ). is_sound r.0) e) ∙ first_sound hole at b bytes no_one sound) in
    let s = item_some w.4 in
    absurd (let f : 0 ≡ length (s.0 ∷ s.1) = w.3 ∙ ap length s.2 in omega arith)
item_are n all hole at b bytes few no_one (x, suc k) e h sound =
    let s = item_step hole at b bytes x k no_one e in
    let t = subst AllSound s sound in
    let w = h t.0 in
    let later : drop k bytes ≡ w.1 = ap (drop (suc k)) w.2 ∙ ap (λ n. drop n (w.0 ++ w.1)) w.3 ∙ drop-append_seam w.0 w.1 in
    let fewer : length (drop k bytes) ≤ n = omega (arith, few, ap length w.2, ap length later, length-append w.0 w.1, w.3) in
    let r = all hole (at + suc k) (drop k bytes) fewer t.1 in
    subst (λ xs. AreItems hole (forms xs) (b ∷ bytes)) (sym s)
    (subst (λ w. AreItems hole (x ∷ forms (items_from hole (at + suc k) 0 (drop k bytes))) w) (sym w.2)
    (more (λ d. not_here hole (b ∷ bytes) no_one (subst (HoleAt hole) (sym w.2) d)) w.4 (subst (AreItems hole (forms (items_from hole (at + suc k) 0 (drop k bytes)))) later r)))

items_are : (n : ℕ) → AllAre n
unfolding items_from
items_are n hole at [] few sound = none
items_are zero hole at (b ∷ bytes) few sound = absurd (let f : length (b ∷ bytes) ≤ 0 = few in omega arith)
items_are (suc n) hole at (b ∷ bytes) few sound = one (items_are n) (is_at hole (b ∷ bytes)) refl
  where
    one : AllAre n → (t : Bool) → is_at hole (b ∷ bytes) ≡ t → AreItems hole (forms (items_from hole at 0 (b ∷ bytes))) (b ∷ bytes)
    one all true e = hole_are n all hole at b bytes few e (hole_is hole (b ∷ bytes) e) sound
    one all false e = item_are n all hole at b bytes few e (item at (b ∷ bytes)) refl (item_is at b bytes) sound

-- ---- the whole text

no_caret : {hole : Hole} {xs : List Item} {text : List ℕ} → AreItems hole xs text → begins_with 94 text ≡ false
no_caret none = refl
no_caret (more {word = word} {rest = rest} no_one i is) = let s = item_some i in ap (λ w. begins_with 94 (w ++ rest)) s.2 ∙ s.3
no_caret (user is) = refl
no_caret (creator is) = refl

text_read : (hole : Hole) (text : List ℕ) (xs : List Item) → AreItems hole xs text ⊎ ((rest : List ℕ) × (text ≡ 94 ∷ rest) × AreItems hole xs rest) → forms (items hole text) ≡ xs
text_read hole text xs (inl is) = ap forms (begun_there hole text (no_caret is)) ∙ items_read is 0
text_read hole text xs (inr (rest, front, is)) =
    ap forms (begun_behind hole text (ap (begins_with 94) front)).1 ∙ ap (λ w. forms (items_from hole 1 0 (drop 1 w))) front ∙ items_read is 1

text_is : (hole : Hole) (text : List ℕ) → AllSound (items hole text)
    → AreItems hole (forms (items hole text)) text ⊎ ((rest : List ℕ) × (text ≡ 94 ∷ rest) × AreItems hole (forms (items hole text)) rest)
text_is hole text sound = one (begins_with 94 text) refl
  where
    caret : (text : List ℕ) → begins_with 94 text ≡ true → text ≡ 94 ∷ drop 1 text
    caret [] e = absurd (let f : false ≡ true = e in cc)
    caret (b ∷ bytes) e = let same : b ≡ 94 = grind (arith, nat_tests) in ap (λ b. b ∷ bytes) same

    all_are : (hole : Hole) (at : ℕ) (bytes : List ℕ) → AllSound (items_from hole at 0 bytes) → AreItems hole (forms (items_from hole at 0 bytes)) bytes
    all_are hole at bytes sound = let all : AllAre (length bytes) = items_are (length bytes) in all hole at bytes (omega arith) sound

    one : (t : Bool) → begins_with 94 text ≡ t
        → AreItems hole (forms (items hole text)) text ⊎ ((rest : List ℕ) × (text ≡ 94 ∷ rest) × AreItems hole (forms (items hole text)) rest)
    one true e =
        let is = (begun_behind hole text e).1 in
        inr (drop 1 text, caret text e, subst (λ xs. AreItems hole (forms xs) (drop 1 text)) (sym is) (all_are hole 1 (drop 1 text) (subst AllSound is sound)))
    one false e =
        let is = begun_there hole text e in
        inl (subst (λ xs. AreItems hole (forms xs) text) (sym is) (all_are hole 0 text (subst AllSound is sound)))

pub patterns_are_read : PatternsAreRead
patterns_are_read hole text p = (
  λ s. (forms (items hole text), text_is hole text (sound_all (items hole text) last.Nothing 0 s.sound), s.reads),
  λ (xs, is, reads).
      let r = subst (λ xs. Reads alternation xs p) (sym (text_read hole text xs is)) reads in
      record { sound = no_offence (items hole text) p r; reads = r },
)
