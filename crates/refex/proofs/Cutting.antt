-- Loops that go over a text, an item at a time.
use Rattle.std.proofs.Common.{◌≡◌, ℕ, zero, suc, ◌+◌, ◌-◌, ◌<◌, ◌≤◌, List, [], ◌∷◌, ◌++◌, Bool, true, false, ◌||◌, ◌&&◌, not, ◌==◌, cond, refl, sym, ◌∙◌, ap, arith, drop, length, Option, Some, None, Result, Ok, Err, add-zero, add-one, append-nil, append_assoc, get_or}
use Rattle.std.proofs.Math.Seq.{drop-cons, drop-drop}
use Rattle.std.proofs.Math.ListN.{drop_of_length-le}
use Rattle.std.proofs.lemmas.Bool.{ne_eqb}
use Rattle.std.proofs.Math.Path.{fun_ext}
use Rattle.std.specs.Option.{option_map}
use Rattle.refex.specs.Text.{class_item, class_items, class_length, either_of, ◌>>=◌, item, items_from, is_at, hole_items, spelling, placed, Placed, Item, begins_with, items}
use Rattle.refex.specs.Items.{on_ok}
use Rattle.refex.specs.declared.faults.Offence.{Offence}
use Rattle.refex.specs.declared.faults.Hole.{Hole}
use Rattle.refex.specs.declared.faults.Hole.TheVariants as holes

bind_ok : {A B E : Type 0} (f : A → B) (r : Result A E) → (r >>= (λ x. Ok (f x))) ≡ on_ok f r
bind_ok f (Ok x) = refl
bind_ok f (Err e) = refl

or_assoc : (a b c : Bool) → (a || b) || c ≡ a || (b || c)
or_assoc true b c = refl
or_assoc false b c = refl

or_false : (a : Bool) → (a || false) ≡ a
or_false true = refl
or_false false = refl

-- ---- a class

pub items_skipped : (k at : ℕ) (bytes : List ℕ) → class_items at false k bytes ≡ class_items (at + k) false 0 (drop k bytes)
unfolding class_items
items_skipped zero at bytes = ap (λ n. class_items n false 0 bytes) (sym (add-zero at))
items_skipped (suc k) at [] = refl
items_skipped (suc k) at (b ∷ bytes) =
    let e : suc at + k ≡ at + suc k = omega arith in
    items_skipped k (suc at) bytes ∙ ap (λ n. class_items n false 0 (drop k bytes)) e

pub items_step : (at : ℕ) (first : Bool) (b : ℕ) (bytes : List ℕ) (f : ℕ → Bool) (n : ℕ) → class_item at first (b ∷ bytes) ≡ Ok (f, suc n)
    → class_items at first 0 (b ∷ bytes) ≡ on_ok (either_of f) (class_items (at + suc n) false 0 (drop n bytes))
unfolding class_items
items_step at first b bytes f n e =
    let less : suc n - 1 ≡ n = omega arith in
    let on : suc at + n ≡ at + suc n = omega arith in
    ap (λ r. r >>= (λ x. (class_items (suc at) false (x.1 - 1) bytes >>= (λ g. Ok (either_of x.0 g))))) e
    ∙ bind_ok (either_of f) (class_items (suc at) false (suc n - 1) bytes)
    ∙ ap (λ m. on_ok (either_of f) (class_items (suc at) false m bytes)) less
    ∙ ap (on_ok (either_of f)) (items_skipped n (suc at) bytes ∙ ap (λ m. class_items m false 0 (drop n bytes)) on)

pub items_fault : (at : ℕ) (first : Bool) (b : ℕ) (bytes : List ℕ) (e : Offence) → class_item at first (b ∷ bytes) ≡ Err e
    → class_items at first 0 (b ∷ bytes) ≡ Err e
unfolding class_items
items_fault at first b bytes e is = ap (λ r. r >>= (λ x. (class_items (suc at) false (x.1 - 1) bytes >>= (λ g. Ok (either_of x.0 g))))) is

joined_none : (f : ℕ → Bool) (r : Result (ℕ → Bool) Offence) → f ≡ (λ _. false) → r ≡ on_ok (either_of f) r
joined_none f (Ok g) e = sym (ap (λ f. Ok (either_of f g)) e)
joined_none f (Err x) e = refl

joined_twice : (f g h : ℕ → Bool) (r : Result (ℕ → Bool) Offence) → h ≡ either_of f g → on_ok (either_of f) (on_ok (either_of g) r) ≡ on_ok (either_of h) r
joined_twice f g h (Ok k) e = ap Ok (fun_ext (λ c. sym (or_assoc (f c) (g c) (k c)))) ∙ sym (ap (λ f. Ok (either_of f k)) e)
joined_twice f g h (Err x) e = refl

pub class_begun : (at : ℕ) (bytes : List ℕ) (f : ℕ → Bool) → f ≡ (λ _. false)
    → class_items at true 0 bytes ≡ on_ok (either_of f) (class_items (at + 0) true 0 bytes)
class_begun at bytes f e = joined_none f (class_items at true 0 bytes) e ∙ ap (λ n. on_ok (either_of f) (class_items n true 0 bytes)) (sym (add-zero at))

pub class_more : (whole : Result (ℕ → Bool) Offence) (at i : ℕ) (bytes : List ℕ) (f g h : ℕ → Bool) (n : ℕ)
    → whole ≡ on_ok (either_of f) (class_items (at + i) (i == 0) 0 (drop i bytes)) → i < length bytes
    → class_item (at + i) (i == 0) (drop i bytes) ≡ Ok (g, n) → 1 ≤ n → h ≡ either_of f g
    → whole ≡ on_ok (either_of h) (class_items (at + (i + n)) (i + n == 0) 0 (drop (i + n) bytes))
class_more whole at i bytes f g h zero e within is some joined = absurd (omega arith)
class_more whole at i bytes f g h (suc n) e within is some joined =
    let rest = drop-cons bytes i 0 within in
    let is' = rw rest at is in
    let step = items_step (at + i) (i == 0) (get_or bytes i 0) (drop (suc i) bytes) g n is' in
    let place : at + i + suc n ≡ at + (i + suc n) = omega arith in
    let later : (i + suc n == 0) ≡ false = ne_eqb (i + suc n) 0 (λ z. omega arith) in
    let next : suc i + n ≡ i + suc n = omega arith in
    e ∙ ap (λ xs. on_ok (either_of f) (class_items (at + i) (i == 0) 0 xs)) rest
    ∙ ap (on_ok (either_of f)) step
    ∙ joined_twice f g h (class_items (at + i + suc n) false 0 (drop n (drop (suc i) bytes))) joined
    ∙ ap (λ m. on_ok (either_of h) (class_items m false 0 (drop n (drop (suc i) bytes)))) place
    ∙ ap (λ xs. on_ok (either_of h) (class_items (at + (i + suc n)) false 0 xs)) (drop-drop n (suc i) bytes ∙ ap (λ m. drop m bytes) next)
    ∙ ap (λ b. on_ok (either_of h) (class_items (at + (i + suc n)) b 0 (drop (i + suc n) bytes))) (sym later)

pub class_fault : (whole : Result (ℕ → Bool) Offence) (at i : ℕ) (bytes : List ℕ) (f : ℕ → Bool) (x : Offence)
    → whole ≡ on_ok (either_of f) (class_items (at + i) (i == 0) 0 (drop i bytes)) → i < length bytes
    → class_item (at + i) (i == 0) (drop i bytes) ≡ Err x → Err x ≡ whole
class_fault whole at i bytes f x e within is =
    let rest = drop-cons bytes i 0 within in
    let is' = rw rest at is in
    sym (e ∙ ap (λ xs. on_ok (either_of f) (class_items (at + i) (i == 0) 0 xs)) rest
    ∙ ap (on_ok (either_of f)) (items_fault (at + i) (i == 0) (get_or bytes i 0) (drop (suc i) bytes) x is'))

pub class_over : (whole : Result (ℕ → Bool) Offence) (at i : ℕ) (bytes : List ℕ) (f : ℕ → Bool)
    → whole ≡ on_ok (either_of f) (class_items (at + i) (i == 0) 0 (drop i bytes)) → length bytes ≤ i → Ok f ≡ whole
unfolding class_items
class_over whole at i bytes f e over =
    sym (e ∙ ap (λ xs. on_ok (either_of f) (class_items (at + i) (i == 0) 0 xs)) (drop_of_length-le bytes over)
    ∙ ap Ok (fun_ext (λ c. or_false (f c))))

-- ---- where a class ends

pub length_here : (first behind : Bool) (b : ℕ) (bytes : List ℕ) → ((b == 93) && (not first && not behind)) ≡ true → class_length first behind (b ∷ bytes) ≡ Some 0
unfolding class_length
length_here first behind b bytes e = rw e refl

pub length_more : (first behind : Bool) (b : ℕ) (bytes : List ℕ) → ((b == 93) && (not first && not behind)) ≡ false
    → class_length first behind (b ∷ bytes) ≡ option_map suc (class_length false ((b == 92) && not behind) bytes)
unfolding class_length
length_more first behind b bytes e = rw e refl

shifted : (i : ℕ) (r : Option ℕ) → option_map (λ n. i + n) (option_map suc r) ≡ option_map (λ n. i + 1 + n) r
shifted i None = refl
shifted i (Some n) = ap Some (omega arith)

shifted_none : (r : Option ℕ) → r ≡ option_map (λ n. 0 + n) r
shifted_none None = refl
shifted_none (Some n) = ap Some (omega arith)

pub length_begun : (bytes : List ℕ) → class_length true false bytes ≡ option_map (λ n. 0 + n) (class_length true false bytes)
length_begun bytes = shifted_none (class_length true false bytes)

pub length_found : (whole : Option ℕ) (i : ℕ) (behind : Bool) (bytes : List ℕ) → whole ≡ option_map (λ n. i + n) (class_length (i == 0) behind (drop i bytes))
    → i < length bytes → ((get_or bytes i 0 == 93) && (not (i == 0) && not behind)) ≡ true → Some i ≡ whole
length_found whole i behind bytes e within here =
    sym (e ∙ ap (λ xs. option_map (λ n. i + n) (class_length (i == 0) behind xs)) (drop-cons bytes i 0 within)
    ∙ ap (option_map (λ n. i + n)) (length_here (i == 0) behind (get_or bytes i 0) (drop (suc i) bytes) here) ∙ ap Some (add-zero i))

pub length_on : (whole : Option ℕ) (i : ℕ) (behind behind' : Bool) (bytes : List ℕ) → whole ≡ option_map (λ n. i + n) (class_length (i == 0) behind (drop i bytes))
    → i < length bytes → ((get_or bytes i 0 == 93) && (not (i == 0) && not behind)) ≡ false → behind' ≡ ((get_or bytes i 0 == 92) && not behind)
    → whole ≡ option_map (λ n. i + 1 + n) (class_length (i + 1 == 0) behind' (drop (i + 1) bytes))
length_on whole i behind behind' bytes e within here next =
    let later : (i + 1 == 0) ≡ false = ne_eqb (i + 1) 0 (λ z. omega arith) in
    e ∙ ap (λ xs. option_map (λ n. i + n) (class_length (i == 0) behind xs)) (drop-cons bytes i 0 within)
    ∙ ap (option_map (λ n. i + n)) (length_more (i == 0) behind (get_or bytes i 0) (drop (suc i) bytes) here)
    ∙ shifted i (class_length false ((get_or bytes i 0 == 92) && not behind) (drop (suc i) bytes))
    ∙ ap (λ b. option_map (λ n. i + 1 + n) (class_length false b (drop (suc i) bytes))) (sym next)
    ∙ ap (λ b. option_map (λ n. i + 1 + n) (class_length b behind' (drop (suc i) bytes))) (sym later)
    ∙ ap (λ m. option_map (λ n. i + 1 + n) (class_length (i + 1 == 0) behind' (drop m bytes))) (sym (add-one i))

pub length_never : (whole : Option ℕ) (i : ℕ) (behind : Bool) (bytes : List ℕ) → whole ≡ option_map (λ n. i + n) (class_length (i == 0) behind (drop i bytes))
    → length bytes ≤ i → None ≡ whole
unfolding class_length
length_never whole i behind bytes e over =
    sym (e ∙ ap (λ xs. option_map (λ n. i + n) (class_length (i == 0) behind xs)) (drop_of_length-le bytes over))

-- ---- the items of a text

item_skipped : (hole : Hole) (k at : ℕ) (bytes : List ℕ) → items_from hole at k bytes ≡ items_from hole (at + k) 0 (drop k bytes)
unfolding items_from
item_skipped hole zero at bytes = ap (λ n. items_from hole n 0 bytes) (sym (add-zero at))
item_skipped hole (suc k) at [] = refl
item_skipped hole (suc k) at (b ∷ bytes) =
    let e : suc at + k ≡ at + suc k = omega arith in
    item_skipped hole k (suc at) bytes ∙ ap (λ n. items_from hole n 0 (drop k bytes)) e

pub item_step : (hole : Hole) (at b : ℕ) (bytes : List ℕ) (x : Item) (n : ℕ) → is_at hole (b ∷ bytes) ≡ false → item at (b ∷ bytes) ≡ (x, suc n)
    → items_from hole at 0 (b ∷ bytes) ≡ placed at x ∷ items_from hole (at + suc n) 0 (drop n bytes)
unfolding items_from
item_step hole at b bytes x n none is =
    let less : suc n - 1 ≡ n = omega arith in
    let on : suc at + n ≡ at + suc n = omega arith in
    ap (λ t. cond t (hole_items hole at ++ items_from holes.Nothing (suc at) (length (spelling hole) - 1) bytes)
    (placed at (item at (b ∷ bytes)).0 ∷ items_from hole (suc at) ((item at (b ∷ bytes)).1 - 1) bytes)) none
    ∙ ap (λ (r : Item × ℕ). placed at r.0 ∷ items_from hole (suc at) (r.1 - 1) bytes) is
    ∙ ap (λ m. placed at x ∷ items_from hole (suc at) m bytes) less
    ∙ ap (λ xs. placed at x ∷ xs) (item_skipped hole n (suc at) bytes ∙ ap (λ m. items_from hole m 0 (drop n bytes)) on)

pub hole_step : (hole : Hole) (at b : ℕ) (bytes : List ℕ) (n : ℕ) → is_at hole (b ∷ bytes) ≡ true → length (spelling hole) ≡ suc n
    → items_from hole at 0 (b ∷ bytes) ≡ hole_items hole at ++ items_from holes.Nothing (at + suc n) 0 (drop n bytes)
unfolding items_from
hole_step hole at b bytes n here long =
    let less : suc n - 1 ≡ n = omega arith in
    let on : suc at + n ≡ at + suc n = omega arith in
    ap (λ t. cond t (hole_items hole at ++ items_from holes.Nothing (suc at) (length (spelling hole) - 1) bytes)
    (placed at (item at (b ∷ bytes)).0 ∷ items_from hole (suc at) ((item at (b ∷ bytes)).1 - 1) bytes)) here
    ∙ ap (λ m. hole_items hole at ++ items_from holes.Nothing (suc at) (m - 1) bytes) long
    ∙ ap (λ m. hole_items hole at ++ items_from holes.Nothing (suc at) m bytes) less
    ∙ ap (λ xs. hole_items hole at ++ xs) (item_skipped holes.Nothing n (suc at) bytes ∙ ap (λ m. items_from holes.Nothing m 0 (drop n bytes)) on)

pub item_on : (whole done : List Placed) (hole : Hole) (i : ℕ) (text : List ℕ) (x : Item) (n : ℕ)
    → whole ≡ done ++ items_from hole i 0 (drop i text) → i < length text → is_at hole (drop i text) ≡ false → (x, n) ≡ item i (drop i text) → 1 ≤ n
    → whole ≡ (done ++ placed i x ∷ []) ++ items_from hole (i + n) 0 (drop (i + n) text)
item_on whole done hole i text x zero e within none is some = absurd (omega arith)
item_on whole done hole i text x (suc n) e within none is some =
    let rest = drop-cons text i 0 within in
    let none' = rw rest at none in
    let is' = rw rest at is in
    let next : suc i + n ≡ i + suc n = omega arith in
    e ∙ ap (λ xs. done ++ items_from hole i 0 xs) rest
    ∙ ap (λ xs. done ++ xs) (item_step hole i (get_or text i 0) (drop (suc i) text) x n none' (sym is'))
    ∙ ap (λ xs. done ++ placed i x ∷ items_from hole (i + suc n) 0 xs) (drop-drop n (suc i) text ∙ ap (λ m. drop m text) next)
    ∙ sym (append_assoc done (placed i x ∷ []) (items_from hole (i + suc n) 0 (drop (i + suc n) text)))

pub hole_on : (whole done done' : List Placed) (hole : Hole) (i : ℕ) (text : List ℕ) (n : ℕ)
    → whole ≡ done ++ items_from hole i 0 (drop i text) → i < length text → is_at hole (drop i text) ≡ true → n ≡ length (spelling hole) → 1 ≤ n
    → done' ≡ done ++ hole_items hole i → whole ≡ done' ++ items_from holes.Nothing (i + n) 0 (drop (i + n) text)
hole_on whole done done' hole i text zero e within here long some is = absurd (omega arith)
hole_on whole done done' hole i text (suc n) e within here long some is =
    let rest = drop-cons text i 0 within in
    let here' = rw rest at here in
    let next : suc i + n ≡ i + suc n = omega arith in
    e ∙ ap (λ xs. done ++ items_from hole i 0 xs) rest
    ∙ ap (λ xs. done ++ xs) (hole_step hole i (get_or text i 0) (drop (suc i) text) n here' (sym long))
    ∙ ap (λ xs. done ++ (hole_items hole i ++ items_from holes.Nothing (i + suc n) 0 xs)) (drop-drop n (suc i) text ∙ ap (λ m. drop m text) next)
    ∙ sym (append_assoc done (hole_items hole i) (items_from holes.Nothing (i + suc n) 0 (drop (i + suc n) text)))
    ∙ ap (λ xs. xs ++ items_from holes.Nothing (i + suc n) 0 (drop (i + suc n) text)) (sym is)

pub items_over : (whole done : List Placed) (hole : Hole) (i : ℕ) (text : List ℕ) → whole ≡ done ++ items_from hole i 0 (drop i text) → length text ≤ i → done ≡ whole
unfolding items_from
items_over whole done hole i text e over =
    sym (e ∙ ap (λ xs. done ++ items_from hole i 0 xs) (drop_of_length-le text over) ∙ append-nil done)

pub begun_behind : (hole : Hole) (text : List ℕ) → begins_with 94 text ≡ true → (1 ≤ length text) × (items hole text ≡ items_from hole 1 0 (drop 1 text))
unfolding items
begun_behind hole [] e = absurd (let f : false ≡ true = e in cc)
begun_behind hole (b ∷ bytes) e = (omega arith, rw e refl)

pub begun_there : (hole : Hole) (text : List ℕ) → begins_with 94 text ≡ false → items hole text ≡ items_from hole 0 0 text
unfolding items
begun_there hole text e = rw e refl
