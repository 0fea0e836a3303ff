-- The first offence has the least place.
use Rattle.std.proofs.Common.{◌≡◌, ℕ, zero, suc, ◌+◌, ◌-◌, ◌<◌, ◌≤◌, ◌==◌, ◌&&◌, not, cond, Bool, true, false, List, [], ◌∷◌, ◌++◌, Option, None, Some, Result, Ok, Err, refl, sym, ◌∙◌, ap, subst, arith, length, take, drop, length-drop}
use Rattle.std.proofs.lemmas.List.{length-take}
use Rattle.refex.specs.Text.{Item, Atom, Open, Close, Bar, Repetition, Bad, Placed, Member, Byte, Kind, ◌>>=◌, kind, escaped, escaped_as, escape_member, member, span, is_dash, range_from, ranged, class_item, class_items, class_length, class_made, class_of, class, escape_made, escape_item, count, count_made, count_item, open_item, item, begins_with, is_alphanumeric, is_at, hole_items, spelling, items_from, items}
use Rattle.refex.specs.Faults.{closes, fault_at, item_fault, first_of, first_fault, last_after, depth_after}
use Rattle.refex.specs.Least.{place_of, HasOffence, here, unclosed, later, OffencesAreLeftmost}
use Rattle.refex.specs.declared.items.Last.{Last}
use Rattle.refex.specs.declared.items.Last.TheVariants as last
use Rattle.refex.specs.declared.faults.Hole.{Hole}
use Rattle.refex.specs.declared.faults.Hole.TheVariants as holes
use Rattle.refex.specs.declared.faults.Offence.{Offence}
use Rattle.refex.specs.declared.faults.Offence.TheVariants.{Syntax, Unsupported}
use Rattle.refex.proofs.Conditions.{either_way}
use Rattle.refex.proofs.FirstFault.{stop_item}

-- ---- an item's own offence is at one of its bytes

abbrev Inside : ℕ → ℕ → Item → Type 0
Inside from to (Bad f) = (from ≤ place_of f) × (place_of f < to)
Inside from to _ = Unit {0}

abbrev ErrInside : {A : Type 0} → ℕ → ℕ → Result A Offence → Type 0
ErrInside from to (Ok x) = Unit {0}
ErrInside from to (Err f) = (from ≤ place_of f) × (place_of f < to)

wider : {A : Type 0} (from to from' to' : ℕ) (r : Result A Offence) → from' ≤ from → to ≤ to' → ErrInside from to r → ErrInside from' to' r
wider from to from' to' (Ok x) le ge h = tt
wider from to from' to' (Err f) le ge h = (omega arith, omega arith)

then_inside : {A B : Type 0} (from to : ℕ) (r : Result A Offence) (k : A → Result B Offence) → ErrInside from to r → ((x : A) → ErrInside from to (k x))
    → ErrInside from to (r >>= k)
then_inside from to (Ok x) k h each = each x
then_inside from to (Err f) k h each = h

escaped_inside : (at c : ℕ) → ErrInside at (suc at) (escaped at c)
unfolding escaped
escaped_inside at c = go (kind c)
  where
    go : (k : Option (ℕ → Bool)) → ErrInside at (suc at) (escaped_as k at c)
    go (Some f) = tt
    go None = either_way (ErrInside at (suc at)) (is_alphanumeric c) (Err (Unsupported at)) (Ok (Byte c)) (λ _. (omega arith, omega arith)) (λ _. tt)

member_inside : (at : ℕ) (bytes : List ℕ) → ErrInside at (suc at) (member at bytes)
unfolding member
member_inside at [] = (omega arith, omega arith)
member_inside at (b ∷ bytes) =
    either_way (ErrInside at (suc at)) (b == 92) (escape_member at bytes) _ (λ _. go bytes)
    (λ _. either_way (ErrInside at (suc at)) ((b == 91) && begins_with 58 bytes) (Err (Unsupported at)) (Ok (Byte b, 1)) (λ _. (omega arith, omega arith)) (λ _. tt))
  where
    go : (bytes : List ℕ) → ErrInside at (suc at) (escape_member at bytes)
    go [] = (omega arith, omega arith)
    go (c ∷ bytes) = then_inside at (suc at) (escaped at c) (λ m. Ok (m, 2)) (escaped_inside at c) (λ _. tt)

span_inside : (at a : ℕ) (m : Member) → ErrInside at (suc at) (span at a m)
unfolding span
span_inside at a (Byte b) = either_way (ErrInside at (suc at)) _ (Ok _) (Err (Syntax at)) (λ _. tt) (λ _. (omega arith, omega arith))
span_inside at a (Kind f) = (omega arith, omega arith)

dash_has_more : (rest : List ℕ) → is_dash rest ≡ true → 2 ≤ length rest
dash_has_more [] e = absurd (let bad : false ≡ true = e in cc)
dash_has_more (b ∷ []) e = absurd (let bad : false ≡ true = e in cc)
dash_has_more (b ∷ c ∷ rest) e = omega arith

ranged_inside : (at : ℕ) (a : Member) (n : ℕ) (rest : List ℕ) (to : ℕ) → (2 ≤ length rest → at + n + 2 ≤ to) → ErrInside at to (ranged at a n rest)
unfolding ranged range_from
ranged_inside at a n rest to room = either_way (ErrInside at to) (is_dash rest) (range_from at a n rest) (Ok _) (λ dash. go a (room (dash_has_more rest dash))) (λ _. tt)
  where
    go : (a : Member) → at + n + 2 ≤ to → ErrInside at to (range_from at a n rest)
    go (Kind f) long = (omega arith, omega arith)
    go (Byte a) long = then_inside at to (member (at + n + 1) (drop 1 rest)) _
        (wider (at + n + 1) (suc (at + n + 1)) at to (member (at + n + 1) (drop 1 rest)) (omega arith) (omega arith) (member_inside (at + n + 1) (drop 1 rest)))
        (λ b. then_inside at to (span at a b.0) _ (wider at (suc at) at to (span at a b.0) (omega arith) (omega arith) (span_inside at a b.0)) (λ _. tt))

class_item_inside : (at : ℕ) (first : Bool) (bytes : List ℕ) → 1 ≤ length bytes → ErrInside at (at + length bytes) (class_item at first bytes)
unfolding class_item
class_item_inside at first bytes some = either_way (ErrInside at (at + length bytes)) (not first && is_dash bytes) (Err (Syntax at)) _
    (λ _. (omega arith, omega arith))
    (λ _. then_inside at (at + length bytes) (member at bytes) _
    (wider at (suc at) at (at + length bytes) (member at bytes) (omega arith) (omega arith) (member_inside at bytes))
    (λ a. ranged_inside at a.0 a.1 (drop a.1 bytes) (at + length bytes) (λ two. omega (arith, length-drop a.1 bytes))))

class_items_inside : (at : ℕ) (first : Bool) (skip : ℕ) (bytes : List ℕ) → ErrInside at (at + length bytes) (class_items at first skip bytes)
unfolding class_items
class_items_inside at first skip [] = tt
class_items_inside at first (suc skip) (b ∷ bytes) =
    wider (suc at) (suc at + length bytes) at (at + suc (length bytes)) (class_items (suc at) false skip bytes) (omega arith) (omega arith) (class_items_inside (suc at) false skip bytes)
class_items_inside at first zero (b ∷ bytes) =
    then_inside at (at + suc (length bytes)) (class_item at first (b ∷ bytes)) _ (class_item_inside at first (b ∷ bytes) (omega arith))
    (λ x. then_inside at (at + suc (length bytes)) (class_items (suc at) false (x.1 - 1) bytes) _
    (wider (suc at) (suc at + length bytes) at (at + suc (length bytes)) (class_items (suc at) false (x.1 - 1) bytes) (omega arith) (omega arith)
    (class_items_inside (suc at) false (x.1 - 1) bytes))
    (λ _. tt))

-- an item with how many bytes it takes
abbrev TakenInside : ℕ → Item × ℕ → Type 0
TakenInside at x = Inside at (suc at + (x.1 - 1)) x.0

made_inside : (at from n : ℕ) (others : Bool) (r : Result (ℕ → Bool) Offence) → at ≤ from → from ≤ at + n → ErrInside from (at + n) r
    → TakenInside at (class_made others r, n)
made_inside at from n others (Ok f) le some h = tt
made_inside at from n others (Err f) le some h = (omega arith, omega arith)

class_inside : (at : ℕ) (others : Bool) (skip : ℕ) (bytes : List ℕ) → 1 ≤ length bytes → TakenInside at (class at others skip bytes)
unfolding class
class_inside at others skip bytes some = go (class_length true false (drop skip bytes))
  where
    go : (n : Option ℕ) → TakenInside at (class_of at others skip bytes n)
    go None = (omega arith, omega arith)
    go (Some n) =
        let inner : List ℕ = take n (drop skip bytes) in
        made_inside at (at + skip) (skip + n + 1) others (class_items (at + skip) true 0 inner) (omega arith) (omega arith)
        (wider (at + skip) (at + skip + length inner) (at + skip) (at + (skip + n + 1)) (class_items (at + skip) true 0 inner) (omega arith)
        (omega (arith, length-take n (drop skip bytes))) (class_items_inside (at + skip) true 0 inner))

escape_inside : (at : ℕ) (bytes : List ℕ) → TakenInside at (escape_item at bytes)
unfolding escape_item
escape_inside at [] = (omega arith, omega arith)
escape_inside at (c ∷ bytes) = go (escaped at c) (escaped_inside at c)
  where
    go : (r : Result Member Offence) → ErrInside at (suc at) r → TakenInside at (escape_made r)
    go (Ok m) h = tt
    go (Err f) h = (omega arith, omega arith)

count_inside : (at : ℕ) (bytes : List ℕ) → TakenInside at (count_item at bytes)
unfolding count_item
count_inside at bytes = go (count bytes)
  where
    go : (r : Option (ℕ × Option ℕ × ℕ)) → TakenInside at (count_made at r)
    go None = (omega arith, omega arith)
    go (Some x) = tt

open_inside : (at : ℕ) (bytes : List ℕ) → TakenInside at (open_item bytes)
unfolding open_item
open_inside at bytes = either_way (TakenInside at) (not (begins_with 63 bytes)) (Open true, 1) _ (λ _. tt)
    (λ _. either_way (TakenInside at) (begins_with 58 (drop 1 bytes)) (Open true, 3) (Open false, 2) (λ _. tt) (λ _. tt))

item_inside : (at b : ℕ) (bytes : List ℕ) → TakenInside at (item at (b ∷ bytes))
unfolding item
item_inside at b bytes =
    either_way (TakenInside at) (b == 92) _ _ (λ _. escape_inside at bytes)
    (λ _. either_way (TakenInside at) (b == 46) _ _ (λ _. tt)
    (λ _. either_way (TakenInside at) (b == 91) _ _
    (λ _. either_way (TakenInside at) (begins_with 94 bytes) _ _ (λ _. class_inside at true 2 (b ∷ bytes) (omega arith)) (λ _. class_inside at false 1 (b ∷ bytes) (omega arith)))
    (λ _. either_way (TakenInside at) (b == 36) _ _ (λ _. tt)
    (λ _. either_way (TakenInside at) (b == 40) _ _ (λ _. open_inside at bytes)
    (λ _. either_way (TakenInside at) (b == 41) _ _ (λ _. tt)
    (λ _. either_way (TakenInside at) (b == 124) _ _ (λ _. tt)
    (λ _. either_way (TakenInside at) (b == 42) _ _ (λ _. tt)
    (λ _. either_way (TakenInside at) (b == 43) _ _ (λ _. tt)
    (λ _. either_way (TakenInside at) (b == 63) _ _ (λ _. tt)
    (λ _. either_way (TakenInside at) (b == 123) _ _ (λ _. count_inside at bytes)
    (λ _. either_way (TakenInside at) (b == 94) _ _ (λ _. (omega arith, omega arith)) (λ _. tt))))))))))))

-- ---- items come one behind another

abbrev Ordered : ℕ → List Placed → Type 0
Ordered from [] = Unit {0}
Ordered from (x ∷ xs) = (to : ℕ) × (from ≤ x.at) × (x.at < to) × Inside x.at to x.item × Ordered to xs

ordered_from : (from from' : ℕ) (xs : List Placed) → from' ≤ from → Ordered from xs → Ordered from' xs
ordered_from from from' [] le h = tt
ordered_from from from' (x ∷ xs) le (to, low, high, inside, rest) = (to, omega arith, high, inside, rest)

items_ordered : (hole : Hole) (at skip : ℕ) (bytes : List ℕ) → Ordered (at + skip) (items_from hole at skip bytes)
unfolding items_from
items_ordered hole at skip [] = tt
items_ordered hole at (suc skip) (b ∷ bytes) = ordered_from (suc at + skip) (at + suc skip) (items_from hole (suc at) skip bytes) (omega arith) (items_ordered hole (suc at) skip bytes)
items_ordered hole at zero (b ∷ bytes) = ordered_from at (at + 0) _ (omega arith)
    (either_way (Ordered at) (is_at hole (b ∷ bytes)) _ _ (λ _. go hole (λ n. items_ordered holes.Nothing (suc at) n bytes))
    (λ _. (suc at + ((item at (b ∷ bytes)).1 - 1), omega arith, omega arith, item_inside at b bytes, items_ordered hole (suc at) ((item at (b ∷ bytes)).1 - 1) bytes)))
  where
    go : (hole : Hole) → ((n : ℕ) → Ordered (suc at + n) (items_from holes.Nothing (suc at) n bytes))
        → Ordered at (hole_items hole at ++ items_from holes.Nothing (suc at) (length (spelling hole) - 1) bytes)
    go holes.Nothing rest = ordered_from (suc at + 0) at (items_from holes.Nothing (suc at) 0 bytes) (omega arith) (rest 0)
    go holes.User rest = (at + 1, omega arith, omega arith, tt, (at + 5, omega arith, omega arith, tt, (suc at + 5, omega arith, omega arith, tt, rest 5)))
    go holes.Creator rest = (suc at + 6, omega arith, omega arith, tt, rest 6)

-- ---- the first offence

at_item : (at to : ℕ) (k f : Offence) → at < to → place_of k ≡ at → Some k ≡ Some f → (at ≤ place_of f) × (place_of f < to)
at_item at to k f some is e = let same : k ≡ f = cc in subst (λ f. (at ≤ place_of f) × (place_of f < to)) same (omega arith, omega arith)

-- an item's offence is at one of its bytes, whatever makes it one
fault_inside : (before : Last) (depth at to closed : ℕ) (x : Item) (f : Offence) → at < to → Inside at to x → item_fault before depth x at closed ≡ Some f
    → (at ≤ place_of f) × (place_of f < to)
fault_inside before depth at to closed (Bad g) f some h e = let same : g ≡ f = cc in subst (λ f. (at ≤ place_of f) × (place_of f < to)) same h
fault_inside before depth at to closed (Open false) f some h e = at_item at to (Unsupported at) f some refl e
fault_inside before depth at to closed (Open true) f some h e = go (closed == 0) e
  where
    go : (t : Bool) → cond t (Some (Syntax at)) None ≡ Some f → (at ≤ place_of f) × (place_of f < to)
    go true e = at_item at to (Syntax at) f some refl e
    go false e = absurd (let bad : None ≡ Some f = e in cc)
fault_inside before depth at to closed Close f some h e = go (depth == 0) e
  where
    go : (t : Bool) → cond t (Some (Syntax at)) None ≡ Some f → (at ≤ place_of f) × (place_of f < to)
    go true e = at_item at to (Syntax at) f some refl e
    go false e = absurd (let bad : None ≡ Some f = e in cc)
fault_inside last.Atom depth at to closed (Repetition least most suffix) f some h e = absurd (let bad : None ≡ Some f = e in cc)
fault_inside last.Nothing depth at to closed (Repetition least most suffix) f some h e = at_item at to (Syntax at) f some refl e
fault_inside last.Counted depth at to closed (Repetition least most true) f some h e = at_item at to (Unsupported at) f some refl e
fault_inside last.Counted depth at to closed (Repetition least most false) f some h e = at_item at to (Syntax at) f some refl e
fault_inside before depth at to closed (Atom p) f some h e = absurd (let bad : None ≡ Some f = e in cc)
fault_inside before depth at to closed Bar f some h e = absurd (let bad : None ≡ Some f = e in cc)

offence_from : (before : Last) (depth from : ℕ) (xs : List Placed) (g : Offence) → Ordered from xs → HasOffence before depth xs g → from ≤ place_of g
offence_from before depth from [] g o h = elim h [ ]
offence_from before depth from (x ∷ xs) g (to, low, high, inside, rest) (here e) =
    let at = fault_inside before depth x.at to 1 x.item g high inside e in let first = at.0 in omega arith
offence_from before depth from (x ∷ xs) g (to, low, high, inside, rest) (unclosed is none at) = subst (λ f. from ≤ place_of f) (sym at) low
offence_from before depth from (x ∷ xs) g (to, low, high, inside, rest) (later h) =
    let more = offence_from (last_after x.item) (depth_after depth x.item) to xs g rest h in omega arith

unclosed_fault : (before : Last) (depth : ℕ) (x : Placed) (xs : List Placed) → x.item ≡ Open true → closes xs ≡ 0 → fault_at before depth x (closes xs) ≡ Some (Syntax x.at)
unclosed_fault before depth x xs is none =
    ap (λ i. item_fault before depth i x.at (closes xs)) is ∙ ap (λ n. cond (n == 0) (Some (Syntax x.at)) None) none

least : (before : Last) (depth from : ℕ) (xs : List Placed) (f g : Offence) → Ordered from xs → first_fault before depth xs ≡ Some f → HasOffence before depth xs g
    → place_of f ≤ place_of g
unfolding first_fault
least before depth from [] f g o e h = elim h [ ]
least before depth from (x ∷ xs) f g (to, low, high, inside, rest) e h =
    go (fault_at before depth x (closes xs)) refl (least (last_after x.item) (depth_after depth x.item) to xs f g rest) e h
  where
    -- an offence at this item is the one that is found here
    own : (g : Offence) → fault_at before depth x (closes xs) ≡ Some g → first_of (fault_at before depth x (closes xs)) (first_fault (last_after x.item) (depth_after depth x.item) xs) ≡ Some f
        → place_of f ≤ place_of g
    own g is e =
        let found : Some g ≡ Some f = sym (ap (λ o. first_of o (first_fault (last_after x.item) (depth_after depth x.item) xs)) is) ∙ e in
        let same : g ≡ f = cc in
        subst (λ f. place_of f ≤ place_of g) same (omega arith)

    go : (o : Option Offence) → fault_at before depth x (closes xs) ≡ o
        → (first_fault (last_after x.item) (depth_after depth x.item) xs ≡ Some f → HasOffence (last_after x.item) (depth_after depth x.item) xs g → place_of f ≤ place_of g)
        → first_of (fault_at before depth x (closes xs)) (first_fault (last_after x.item) (depth_after depth x.item) xs) ≡ Some f
        → HasOffence before depth (x ∷ xs) g → place_of f ≤ place_of g
    go o is more_of e (here local) = own g (stop_item before depth x.at (closes xs) x.item g local) e
    go o is more_of e (unclosed opens none at) = own g (unclosed_fault before depth x xs opens none ∙ ap Some (sym at)) e
    go (Some k) is more_of e (later h) =
        let found : Some k ≡ Some f = sym (ap (λ o. first_of o (first_fault (last_after x.item) (depth_after depth x.item) xs)) is) ∙ e in
        let at = fault_inside before depth x.at to (closes xs) x.item f high inside (is ∙ found) in
        let last_byte = at.1 in
        let more = offence_from (last_after x.item) (depth_after depth x.item) to xs g rest h in
        omega arith
    go None is more_of e (later h) = more_of (sym (ap (λ o. first_of o (first_fault (last_after x.item) (depth_after depth x.item) xs)) is) ∙ e) h

pub leftmost : OffencesAreLeftmost
unfolding items
leftmost hole text f g e h = either_way Least (begins_with 94 text) (items_from hole 1 0 (drop 1 text)) (items_from hole 0 0 text)
    (λ _. λ e h. least last.Nothing 0 1 (items_from hole 1 0 (drop 1 text)) f g (items_ordered hole 1 0 (drop 1 text)) e h)
    (λ _. λ e h. least last.Nothing 0 0 (items_from hole 0 0 text) f g (items_ordered hole 0 0 text) e h) e h
  where
    Least : List Placed → Type 0
    Least xs = first_fault last.Nothing 0 xs ≡ Some f → HasOffence last.Nothing 0 xs g → place_of f ≤ place_of g
