-- What the grammar reads has no offence.
use Rattle.std.proofs.Common.{◌≡◌, ℕ, suc, ◌-◌, ◌==◌, cond, List, [], ◌∷◌, ◌++◌, true, false, None, Some, refl, sym, ◌∙◌, ap, arith, append_assoc, append-nil}
use Rattle.std.proofs.lemmas.Bool.{ne_eqb}
use Rattle.refex.specs.Pattern.{Pattern}
use Rattle.refex.specs.Text.{Item, Atom, Open, Close, Bar, Repetition, Placed}
use Rattle.refex.specs.Grammar.{Level, atom, piece, sequence, alternation, Reads, simple, group, plain, repeated, empty, joined, one, either}
use Rattle.refex.specs.Faults.{closes, closes_before, first_fault, first_of, item_fault, last_after, depth_after}
use Rattle.refex.specs.Refex.{forms}
use Rattle.refex.specs.declared.items.Last.{Last}
use Rattle.refex.specs.declared.items.Last.TheVariants as last
use Rattle.refex.specs.declared.faults.Offence.TheVariants as offences

-- placed items are split where their forms are
record Split (xs ys : List Item) (all : List Placed) : Type 0 where
  front : List Placed
  back : List Placed
  is : all ≡ front ++ back
  front_is : forms front ≡ xs
  back_is : forms back ≡ ys

split : (xs ys : List Item) (all : List Placed) → forms all ≡ xs ++ ys → Split xs ys all
split [] ys all e = record { front = []; back = all; is = refl; front_is = refl; back_is = e }
split (x ∷ xs) ys [] e = absurd (let f : [] ≡ x ∷ (xs ++ ys) = e in cc)
split (x ∷ xs) ys (a ∷ all) e =
    let f : a.item ∷ forms all ≡ x ∷ (xs ++ ys) = e in
    let head : a.item ≡ x = cc in
    let tail : forms all ≡ xs ++ ys = cc in
    let s = split xs ys all tail in
    record {
      front = a ∷ s.front;
      back = s.back;
      is = ap (λ ps. a ∷ ps) s.is;
      front_is = ap (λ i. i ∷ forms s.front) head ∙ ap (λ is. x ∷ is) s.front_is;
      back_is = s.back_is;
    }

-- one placed item
single : (x : Item) (all : List Placed) → forms all ≡ x ∷ [] → (a : Placed) × (all ≡ a ∷ []) × (a.item ≡ x)
single x [] e = absurd (let f : [] ≡ x ∷ [] = e in cc)
single x (a ∷ []) e = let f : a.item ∷ [] ≡ x ∷ [] = e in (a, refl, cc)
single x (a ∷ b ∷ all) e = absurd (let f : a.item ∷ b.item ∷ forms all ≡ x ∷ [] = e in cc)

-- what the first offence becomes behind items that are a pattern, whatever follows
abbrev Passes : Level → List Item → Type 0
Passes atom xs = (all : List Placed) → forms all ≡ xs → (before : Last) (depth : ℕ) (more : List Placed)
    → (closes (all ++ more) ≡ closes more) × (first_fault before depth (all ++ more) ≡ first_fault last.Atom depth more)
Passes piece xs = (all : List Placed) → forms all ≡ xs → (before : Last) (depth : ℕ) (more : List Placed)
    → (closes (all ++ more) ≡ closes more) × (l : Last) × (first_fault before depth (all ++ more) ≡ first_fault l depth more)
Passes sequence xs = (all : List Placed) → forms all ≡ xs → (depth : ℕ) (more : List Placed)
    → (closes (all ++ more) ≡ closes more) × (l : Last) × (first_fault last.Nothing depth (all ++ more) ≡ first_fault l depth more)
Passes alternation xs = (all : List Placed) → forms all ≡ xs → (depth : ℕ) (more : List Placed)
    → (closes (all ++ more) ≡ closes more) × (l : Last) × (first_fault last.Nothing depth (all ++ more) ≡ first_fault l depth more)

-- an item without an offence is passed
pass : (before : Last) (depth : ℕ) (x : Placed) (i : Item) (xs : List Placed) → x.item ≡ i → item_fault before depth i x.at (closes xs) ≡ None
    → first_fault before depth (x ∷ xs) ≡ first_fault (last_after i) (depth_after depth i) xs
unfolding first_fault
pass before depth x i xs e none =
    ap (λ j. first_of (item_fault before depth j x.at (closes xs)) (first_fault (last_after j) (depth_after depth j) xs)) e
    ∙ ap (λ f. first_of f (first_fault (last_after i) (depth_after depth i) xs)) none

closes_one : (x : Placed) (i : Item) (xs : List Placed) → x.item ≡ i → closes (x ∷ xs) ≡ closes_before i (closes xs)
closes_one x i xs e = ap (λ j. closes_before j (closes xs)) e

passes : {l : Level} {xs : List Item} {p : Pattern} → Reads l xs p → Passes l xs
passes (simple {p = p}) = λ all e before depth more.
    let a = single (Atom p) all e in (
      ap (λ ps. closes (ps ++ more)) a.1 ∙ closes_one a.0 (Atom p) more a.2,
      ap (λ ps. first_fault before depth (ps ++ more)) a.1 ∙ pass before depth a.0 (Atom p) more a.2 refl,
    )
passes (group {xs = xs} {p = p} r) = λ all e before depth more.
    let s = split (Open true ∷ xs) (Close ∷ []) all e in
    let t = split (Open true ∷ []) xs s.front s.front_is in
    let o = single (Open true) t.front t.front_is in
    let c = single Close s.back s.back_is in
    let inside = t.back ++ (c.0 ∷ more) in
    let whole : all ++ more ≡ o.0 ∷ inside =
    ap (λ ps. ps ++ more) (s.is ∙ (λ i. t.is i ++ c.1 i) ∙ ap (λ ps. (ps ++ t.back) ++ (c.0 ∷ [])) o.1) ∙ ap (λ ps. o.0 ∷ ps) (append_assoc t.back (c.0 ∷ []) more) in
    let n = passes r t.back t.back_is (suc depth) (c.0 ∷ more) in
    let later : closes inside ≡ suc (closes more) = n.0 ∙ closes_one c.0 Close more c.2 in
    let some : (closes inside == 0) ≡ false = ne_eqb (closes inside) 0 (λ z. omega arith) in
    let deep : (suc depth == 0) ≡ false = ne_eqb (suc depth) 0 (λ z. omega arith) in
    let less : suc depth - 1 ≡ depth = omega arith in (
      ap closes whole ∙ closes_one o.0 (Open true) inside o.2 ∙ (let m : closes inside - 1 ≡ closes more = omega arith in m),
      ap (first_fault before depth) whole
          ∙ pass before depth o.0 (Open true) inside o.2 (ap (λ b. cond b (Some (offences.Syntax o.0.at)) None) some)
          ∙ n.2
          ∙ pass n.1 (suc depth) c.0 Close more c.2 (ap (λ b. cond b (Some (offences.Syntax c.0.at)) None) deep)
          ∙ ap (λ d. first_fault last.Atom d more) less,
    )
passes (plain r) = λ all e before depth more. let n = passes r all e before depth more in (n.0, last.Atom, n.1)
passes (repeated {xs = xs} {p = p} {least = least} {most = most} suffix r) = λ all e before depth more.
    let s = split xs (Repetition least most suffix ∷ []) all e in
    let c = single (Repetition least most suffix) s.back s.back_is in
    let whole : all ++ more ≡ s.front ++ (c.0 ∷ more) = ap (λ ps. ps ++ more) (s.is ∙ ap (λ ps. s.front ++ ps) c.1) ∙ append_assoc s.front (c.0 ∷ []) more in
    let n = passes r s.front s.front_is before depth (c.0 ∷ more) in (
      ap closes whole ∙ n.0 ∙ closes_one c.0 (Repetition least most suffix) more c.2,
      last.Counted,
      ap (first_fault before depth) whole ∙ n.1 ∙ pass last.Atom depth c.0 (Repetition least most suffix) more c.2 refl,
    )
passes empty = λ all e depth more.
    let none : all ≡ [] = no_forms all e in
    (ap (λ ps. closes (ps ++ more)) none, last.Nothing, ap (λ ps. first_fault last.Nothing depth (ps ++ more)) none)
  where
    no_forms : (all : List Placed) → forms all ≡ [] → all ≡ []
    no_forms [] e = refl
    no_forms (a ∷ all) e = absurd (let f : a.item ∷ forms all ≡ [] = e in cc)
passes (joined {xs = xs} {ys = ys} r t) = λ all e depth more.
    let s = split xs ys all e in
    let whole : all ++ more ≡ s.front ++ (s.back ++ more) = ap (λ ps. ps ++ more) s.is ∙ append_assoc s.front s.back more in
    let n = passes r s.front s.front_is depth (s.back ++ more) in
    let m = passes t s.back s.back_is n.1 depth more in
    (ap closes whole ∙ n.0 ∙ m.0, m.1, ap (first_fault last.Nothing depth) whole ∙ n.2 ∙ m.2)
passes (one r) = λ all e depth more. passes r all e depth more
passes (either {xs = xs} {ys = ys} r t) = λ all e depth more.
    let s = split xs (Bar ∷ ys) all e in
    let b = split (Bar ∷ []) ys s.back s.back_is in
    let c = single Bar b.front b.front_is in
    let whole : all ++ more ≡ s.front ++ (c.0 ∷ (b.back ++ more)) =
    ap (λ ps. ps ++ more) (s.is ∙ ap (λ ps. s.front ++ ps) (b.is ∙ ap (λ ps. ps ++ b.back) c.1)) ∙ append_assoc s.front (c.0 ∷ b.back) more in
    let n = passes r s.front s.front_is depth (c.0 ∷ (b.back ++ more)) in
    let m = passes t b.back b.back_is depth more in (
      ap closes whole ∙ n.0 ∙ closes_one c.0 Bar (b.back ++ more) c.2 ∙ m.0,
      m.1,
      ap (first_fault last.Nothing depth) whole ∙ n.2 ∙ pass n.1 depth c.0 Bar (b.back ++ more) c.2 refl ∙ m.2,
    )

pub no_offence : (all : List Placed) (p : Pattern) → Reads alternation (forms all) p → first_fault last.Nothing 0 all ≡ None
unfolding first_fault
no_offence all p r = let n = passes r all refl 0 [] in ap (first_fault last.Nothing 0) (sym (append-nil all)) ∙ n.2
