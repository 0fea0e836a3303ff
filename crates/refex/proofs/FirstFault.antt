-- The first offence, met from the left.
use Rattle.std.proofs.Common.{◌≡◌, ℕ, zero, suc, ◌+◌, ◌-◌, ◌<◌, ◌≤◌, ◌==◌, Bool, inl, inr, List, [], ◌∷◌, true, false, nat_lt, if◌then◌else◌, cond, Option, Some, None, refl, sym, ◌∙◌, ap, arith, drop, length, map, get_or, add-one}
use Rattle.std.proofs.Math.Seq.{drop-cons}
use Rattle.std.proofs.Math.ListN.{drop_of_length-le}
use Rattle.std.proofs.lemmas.List.{drop-map, length-map}
use Rattle.refex.specs.Items.{item_of, placed_of}
use Rattle.refex.specs.declared.items.Token.{Token}
use Rattle.std.proofs.lemmas.Bool.Decides.{nat_tests}
use Rattle.std.proofs.lemmas.Bool.{cases_lt}
use Rattle.refex.specs.Text.{Item, Atom, Open, Close, Bar, Repetition, Bad, Placed}
use Rattle.refex.specs.Faults.{closes, closes_before, last_after, depth_after, outermost_after, outermost_by, repetition_fault, item_fault, fault_at, first_of, first_fault}
use Rattle.refex.specs.Parsing.{MayStand}
use Rattle.refex.specs.declared.items.Last.{Last}
use Rattle.refex.specs.declared.items.Last.TheVariants as last
use Rattle.refex.specs.declared.faults.Offence.{Offence}
use Rattle.refex.specs.declared.faults.Offence.TheVariants.{Syntax, Unsupported}

-- the first offence, where groups are open and no offence stands before: if one of them isn't closed, the
-- outermost comes first
unfoldable pub pending : ℕ → ℕ → Last → List Placed → Option Offence
pending depth outermost before xs = if nat_lt (closes xs) depth then Some (Syntax outermost) else first_fault before depth xs

none_first : (a b : Option Offence) → a ≡ None → first_of a b ≡ b
none_first a b e = ap (λ x. first_of x b) e

some_first : (a b : Option Offence) (f : Offence) → a ≡ Some f → first_of a b ≡ Some f
some_first a b f e = ap (λ x. first_of x b) e

step_item : (before : Last) (depth outermost at : ℕ) (x : Item) (xs : List Placed) → item_fault before depth x at 1 ≡ None
    → pending depth outermost before (record { at = at; item = x } ∷ xs) ≡ pending (depth_after depth x) (outermost_by depth outermost at x) (last_after x) xs
unfolding pending first_fault
step_item before depth outermost at (Atom p) xs e = refl
step_item before depth outermost at Bar xs e = refl
step_item before depth outermost at (Bad f) xs e = absurd (let g : Some f ≡ None = e in cc)
step_item before depth outermost at (Open false) xs e = absurd (let g : Some (Unsupported at) ≡ None = e in cc)
step_item before depth outermost at (Open true) xs e = grind (arith, nat_tests)
step_item before depth outermost at Close xs e = grind (arith, nat_tests)
step_item before depth outermost at (Repetition least most suffix) xs e =
    ap (λ x. cond (nat_lt (closes xs) depth) (Some (Syntax outermost)) x) (none_first (repetition_fault before suffix at) _ e)

pub step_on : (whole : Option Offence) (before : Last) (depth outermost : ℕ) (x : Placed) (xs : List Placed) → fault_at before depth x 1 ≡ None
    → whole ≡ pending depth outermost before (x ∷ xs) → whole ≡ pending (depth_after depth x.item) (outermost_after depth outermost x) (last_after x.item) xs
step_on whole before depth outermost x xs none e = e ∙ step_item before depth outermost x.at x.item xs none

pub stop_item : (before : Last) (depth at later : ℕ) (x : Item) (f : Offence) → item_fault before depth x at 1 ≡ Some f → item_fault before depth x at later ≡ Some f
stop_item before depth at later (Atom p) f e = e
stop_item before depth at later Bar f e = e
stop_item before depth at later (Bad g) f e = e
stop_item before depth at later (Open false) f e = e
stop_item before depth at later (Open true) f e = absurd (let g : None ≡ Some f = e in cc)
stop_item before depth at later Close f e = e
stop_item before depth at later (Repetition least most suffix) f e = e

pub stop_outer : (whole : Option Offence) (before : Last) (depth outermost : ℕ) (xs : List Placed) → closes xs < depth
    → whole ≡ pending depth outermost before xs → Some (Syntax outermost) ≡ whole
unfolding pending
stop_outer whole before depth outermost xs open_ e = let t : nat_lt (closes xs) depth ≡ true = grind (arith, nat_tests) in
    sym (e ∙ ap (λ b. cond b (Some (Syntax outermost)) (first_fault before depth xs)) t)

pub stop_here : (whole : Option Offence) (before : Last) (depth outermost : ℕ) (x : Placed) (xs : List Placed) (f : Offence) → fault_at before depth x 1 ≡ Some f
    → depth ≤ closes (x ∷ xs) → whole ≡ pending depth outermost before (x ∷ xs) → Some f ≡ whole
unfolding pending first_fault
stop_here whole before depth outermost x xs f is closed e =
    let t : nat_lt (closes (x ∷ xs)) depth ≡ false = grind (arith, nat_tests) in
    sym (e ∙ ap (λ b. cond b (Some (Syntax outermost)) (first_fault before depth (x ∷ xs))) t
    ∙ some_first (fault_at before depth x (closes xs)) (first_fault (last_after x.item) (depth_after depth x.item) xs) f (stop_item before depth x.at (closes xs) x.item f is))

pub stop_none : (whole : Option Offence) (before : Last) (outermost : ℕ) → whole ≡ pending 0 outermost before [] → None ≡ whole
unfolding pending first_fault
stop_none whole before outermost e = sym e

pub begun : (xs : List Placed) (before : Last) (outermost : ℕ) → first_fault before 0 xs ≡ pending 0 outermost before xs
unfolding pending
begun xs before outermost = let t : nat_lt (closes xs) 0 ≡ false = grind (arith, nat_tests) in sym (ap (λ b. cond b (Some (Syntax outermost)) (first_fault before 0 xs)) t)

-- ---- over the items that are kept

rest_at : (tokens : List Token) (i : ℕ) (t : Token) → t ≡ get_or tokens i t → i < length tokens → drop i (map placed_of tokens) ≡ placed_of t ∷ drop (i + 1) (map placed_of tokens)
rest_at tokens i t is within =
    drop-map placed_of i tokens ∙ ap (map placed_of) (drop-cons tokens i t within ∙ ap (λ x. x ∷ drop (suc i) tokens) (sym is))
    ∙ ap (λ xs. placed_of t ∷ xs) (sym (drop-map placed_of (suc i) tokens) ∙ ap (λ n. drop n (map placed_of tokens)) (sym (add-one i)))

over_at : (tokens : List Token) (i : ℕ) → length tokens ≤ i → drop i (map placed_of tokens) ≡ []
over_at tokens i over = drop_of_length-le (map placed_of tokens) (rw length-map over)

pub closes_more : (tokens : List Token) (i : ℕ) (t : Token) (count count' : ℕ) → t ≡ get_or tokens (i - 1) t → 1 ≤ i → i ≤ length tokens
    → count' ≡ closes_before (item_of t.item) count → count ≡ closes (drop i (map placed_of tokens))
    → count' ≡ closes (drop (i - 1) (map placed_of tokens))
closes_more tokens i t count count' at some within is rest =
    let next : i ≡ i - 1 + 1 = omega arith in
    is ∙ ap (closes_before (item_of t.item)) (rest ∙ ap (λ n. closes (drop n (map placed_of tokens))) next)
    ∙ sym (ap closes (rest_at tokens (i - 1) t at (omega arith)))

pub closes_none : (tokens : List Token) → 0 ≡ closes (drop (length tokens) (map placed_of tokens))
closes_none tokens = sym (ap closes (over_at tokens (length tokens) (omega arith)))

pub stop_at : (tokens : List Token) (i : ℕ) (t : Token) (whole : Option Offence) (before : Last) (depth outermost : ℕ) (f : Offence) → t ≡ get_or tokens i t → i < length tokens
    → fault_at before depth (placed_of t) 1 ≡ Some f → depth ≤ closes (drop i (map placed_of tokens))
    → whole ≡ pending depth outermost before (drop i (map placed_of tokens)) → Some f ≡ whole
stop_at tokens i t whole before depth outermost f at within is closed e =
    let r = rest_at tokens i t at within in
    stop_here whole before depth outermost (placed_of t) (drop (i + 1) (map placed_of tokens)) f is (rw r at closed) (e ∙ ap (pending depth outermost before) r)

pub on_at : (tokens : List Token) (i : ℕ) (t : Token) (whole : Option Offence) (before before' : Last) (depth depth' outermost outermost' : ℕ) → t ≡ get_or tokens i t → i < length tokens
    → fault_at before depth (placed_of t) 1 ≡ None
    → before' ≡ last_after (item_of t.item) → depth' ≡ depth_after depth (item_of t.item)
    → outermost' ≡ outermost_after depth outermost (placed_of t)
    → whole ≡ pending depth outermost before (drop i (map placed_of tokens)) → whole ≡ pending depth' outermost' before' (drop (i + 1) (map placed_of tokens))
on_at tokens i t whole before before' depth depth' outermost outermost' at within none e1 e2 e3 e =
    let x = placed_of t in
    let xs = drop (i + 1) (map placed_of tokens) in
    step_on whole before depth outermost x xs none (e ∙ ap (pending depth outermost before) (rest_at tokens i t at within))
    ∙ ap (λ n. pending n (outermost_after depth outermost x) (last_after x.item) xs) (sym e2)
    ∙ ap (λ n. pending depth' n (last_after x.item) xs) (sym e3)
    ∙ ap (λ l. pending depth' outermost' l xs) (sym e1)

pub end_outer : (tokens : List Token) (i : ℕ) (whole : Option Offence) (before : Last) (depth outermost : ℕ) → length tokens ≤ i → 0 < depth
    → whole ≡ pending depth outermost before (drop i (map placed_of tokens)) → Some (Syntax outermost) ≡ whole
end_outer tokens i whole before depth outermost over some e = stop_outer whole before depth outermost [] some (e ∙ ap (pending depth outermost before) (over_at tokens i over))

pub end_none : (tokens : List Token) (i : ℕ) (whole : Option Offence) (before : Last) (depth outermost : ℕ) → length tokens ≤ i → depth ≡ 0
    → whole ≡ pending depth outermost before (drop i (map placed_of tokens)) → None ≡ whole
end_none tokens i whole before depth outermost over none e =
    stop_none whole before outermost (e ∙ ap (pending depth outermost before) (over_at tokens i over) ∙ ap (λ n. pending n outermost before []) none)

pub depth_bound : (depth depth' : ℕ) (x : Item) → depth' ≡ depth_after depth x → depth' ≤ depth + 1
depth_bound depth depth' (Atom p) e = omega arith
depth_bound depth depth' (Open b) e = omega arith
depth_bound depth depth' Close e = omega arith
depth_bound depth depth' Bar e = omega arith
depth_bound depth depth' (Repetition n m b) e = omega arith
depth_bound depth depth' (Bad f) e = omega arith

-- ---- where there is no fault

-- an item without a fault may stand
may_stand : (before : Last) (depth at : ℕ) (x : Item) → item_fault before depth x at 1 ≡ None → MayStand depth before x
may_stand before depth at (Bad f) e = absurd (let g : Some f ≡ None = e in cc)
may_stand before depth at (Open false) e = absurd (let g : Some (Unsupported at) ≡ None = e in cc)
may_stand before depth at (Open true) e = tt
may_stand before depth at (Atom p) e = tt
may_stand before depth at Bar e = tt
may_stand before depth at Close e = one (depth == 0) refl e
  where
    one : (t : Bool) → (depth == 0) ≡ t → cond t (Some (Syntax at)) None ≡ None → 1 ≤ depth
    one true f e = absurd (let g : Some (Syntax at) ≡ None = e in cc)
    one false f e = grind (arith, nat_tests)
may_stand last.Atom depth at (Repetition least most suffix) e = refl
may_stand last.Nothing depth at (Repetition least most suffix) e = absurd (let g : Some (Syntax at) ≡ None = e in cc)
may_stand last.Counted depth at (Repetition least most true) e = absurd (let g : Some (Unsupported at) ≡ None = e in cc)
may_stand last.Counted depth at (Repetition least most false) e = absurd (let g : Some (Syntax at) ≡ None = e in cc)

-- no fault comes from the place on
abbrev pub NoneFrom : List Token → ℕ → ℕ → Last → Type 0
NoneFrom tokens i depth before = (outermost : ℕ) × (None ≡ pending depth outermost before (drop i (map placed_of tokens)))

pub none_begun : (tokens : List Token) → first_fault last.Nothing 0 (map placed_of tokens) ≡ None → NoneFrom tokens 0 0 last.Nothing
none_begun tokens e = (0, sym e ∙ begun (map placed_of tokens) last.Nothing 0)

none_at : (tokens : List Token) (i : ℕ) (t : Token) (before : Last) (depth : ℕ) → t ≡ get_or tokens i t → i < length tokens → NoneFrom tokens i depth before
    → fault_at before depth (placed_of t) 1 ≡ None
none_at tokens i t before depth at within (outermost, e) = one (fault_at before depth (placed_of t) 1) refl
  where
    rest : List Placed
    rest = drop i (map placed_of tokens)

    closed : depth ≤ closes rest
    closed = elim (cases_lt (closes rest) depth) [
      | inl h ↦ absurd (let g : Some (Syntax outermost) ≡ None = stop_outer None before depth outermost rest h e in cc)
      | inr h ↦ h
    ]

    one : (o : Option Offence) → fault_at before depth (placed_of t) 1 ≡ o → o ≡ None
    one None f = refl
    one (Some x) f = absurd (let g : Some x ≡ None = stop_at tokens i t None before depth outermost x at within f closed e in cc)

pub stands_at : (tokens : List Token) (i : ℕ) (t : Token) (before : Last) (depth : ℕ) → t ≡ get_or tokens i t → i < length tokens → NoneFrom tokens i depth before
    → MayStand depth before (item_of t.item)
stands_at tokens i t before depth at within h =
    may_stand before depth t.at (item_of t.item) (none_at tokens i t before depth at within h)

pub none_on : (tokens : List Token) (i : ℕ) (t : Token) (before before' : Last) (depth depth' : ℕ) → t ≡ get_or tokens i t → i < length tokens
    → before' ≡ last_after (item_of t.item) → depth' ≡ depth_after depth (item_of t.item)
    → NoneFrom tokens i depth before → NoneFrom tokens (i + 1) depth' before'
none_on tokens i t before before' depth depth' at within e f (outermost, h) = (
  outermost_after depth outermost (placed_of t),
  on_at tokens i t None before before' depth depth' outermost (outermost_after depth outermost (placed_of t)) at within
      (none_at tokens i t before depth at within (outermost, h)) e f refl h,
)

pub none_open : (tokens : List Token) (i : ℕ) (before : Last) (depth : ℕ) → length tokens ≤ i → NoneFrom tokens i depth before → depth ≡ 0
none_open tokens i before zero over h = refl
none_open tokens i before (suc n) over (outermost, e) =
    absurd (let g : Some (Syntax outermost) ≡ None = end_outer tokens i None before (suc n) outermost over (omega arith) e in cc)
