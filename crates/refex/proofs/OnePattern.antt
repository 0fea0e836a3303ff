-- Items are one pattern at most: what they are read as is what a run over them from the left builds.
use Rattle.std.proofs.Common.{◌≡◌, ℕ, List, [], ◌∷◌, ◌++◌, Option, None, Some, refl, sym, ◌∙◌, ap, append_assoc, append-nil}
use Rattle.refex.specs.Pattern.{Pattern, Nothing, Then, Either, Repeat}
use Rattle.refex.specs.Text.{Item, Atom, Open, Close, Bar, Repetition, Bad}
use Rattle.refex.specs.Grammar.{Level, atom, piece, sequence, alternation, Reads, simple, group, plain, repeated, empty, joined, one, either}

-- a group that is open: the branches before the one that goes on, what is joined in it, and the piece behind
-- that
data Frame : Type 0 where
  frame : Option Pattern → Pattern → Option Pattern → Frame

abbrev fresh : Option Pattern → Frame
fresh before = frame before Nothing None

abbrev settled : Frame → Pattern
settled (frame before done None) = done
settled (frame before done (Some p)) = Then done p

abbrev branches : Option Pattern → Pattern → Pattern
branches None p = p
branches (Some q) p = Either q p

abbrev before_of : Frame → Option Pattern
before_of (frame before done last) = before

abbrev finished : Frame → Pattern
finished f = branches (before_of f) (settled f)

abbrev pushed : Frame → Pattern → Frame
pushed f p = frame (before_of f) (settled f) (Some p)

abbrev repeated_last : Frame → ℕ → Option ℕ → Frame
repeated_last (frame before done None) least most = frame before done None
repeated_last (frame before done (Some p)) least most = frame before done (Some (Repeat p least most))

abbrev closed : Frame → List Frame → Frame
closed f [] = f
closed f (g ∷ gs) = pushed g (finished f)

abbrev rest : List Frame → List Frame
rest [] = []
rest (g ∷ gs) = gs

-- what the innermost group is after the items
abbrev run : Frame → List Frame → List Item → Frame
run f fs [] = f
run f fs (Atom p ∷ xs) = run (pushed f p) fs xs
run f fs (Open b ∷ xs) = run (fresh None) (f ∷ fs) xs
run f fs (Close ∷ xs) = run (closed f fs) (rest fs) xs
run f fs (Bar ∷ xs) = run (fresh (Some (finished f))) fs xs
run f fs (Repetition least most suffix ∷ xs) = run (repeated_last f least most) fs xs
run f fs (Bad x ∷ xs) = run f fs xs

-- what a run makes of items that are a pattern, whatever follows
abbrev Runs : Level → List Item → Pattern → Type 0
Runs atom xs p = (f : Frame) (fs : List Frame) (more : List Item) → run f fs (xs ++ more) ≡ run (pushed f p) fs more
Runs piece xs p = (f : Frame) (fs : List Frame) (more : List Item) → run f fs (xs ++ more) ≡ run (pushed f p) fs more
Runs sequence xs p = (before : Option Pattern) (fs : List Frame) (more : List Item)
    → (g : Frame) × (before_of g ≡ before) × (settled g ≡ p) × (run (fresh before) fs (xs ++ more) ≡ run g fs more)
Runs alternation xs p = (fs : List Frame) (more : List Item) → (g : Frame) × (finished g ≡ p) × (run (fresh None) fs (xs ++ more) ≡ run g fs more)

joined_frame : (f : Frame) (before : Option Pattern) (p q : Pattern) → before_of f ≡ before → settled f ≡ p
    → (before_of (pushed f q) ≡ before) × (settled (pushed f q) ≡ Then p q)
joined_frame f before p q e s = (e, ap (λ p. Then p q) s)

runs : {l : Level} {xs : List Item} {p : Pattern} → Reads l xs p → Runs l xs p
runs simple = λ f fs more. refl
runs (group {xs = xs} {p = p} r) = λ f fs more.
    let g = runs r (f ∷ fs) (Close ∷ more) in
    ap (run (fresh None) (f ∷ fs)) (append_assoc xs (Close ∷ []) more) ∙ g.2 ∙ ap (λ q. run (pushed f q) fs more) g.1
runs (plain r) = λ f fs more. runs r f fs more
runs (repeated {xs = xs} {p = p} {least = least} {most = most} suffix r) = λ f fs more.
    ap (run f fs) (append_assoc xs (Repetition least most suffix ∷ []) more) ∙ runs r f fs (Repetition least most suffix ∷ more)
runs empty = λ before fs more. (fresh before, refl, refl, refl)
runs (joined {xs = xs} {ys = ys} {p = p} {q = q} r s) = λ before fs more.
    let g = runs r before fs (ys ++ more) in
    let h = joined_frame g.0 before p q g.1 g.2 in
    (pushed g.0 q, h.0, h.1, ap (run (fresh before) fs) (append_assoc xs ys more) ∙ g.3 ∙ runs s g.0 fs more)
runs (one r) = λ fs more.
    let g = runs r None fs more in
    (g.0, ap (λ b. branches b (settled g.0)) g.1 ∙ g.2, g.3)
runs (either {xs = xs} {ys = ys} {p = p} {q = q} r s) = λ fs more.
    let g = runs r fs (Bar ∷ ys ++ more) in
    let h = runs s (Some p) fs more in (
      h.0,
      ap (λ b. branches b (settled h.0)) h.1 ∙ ap (Either p) h.2,
      ap (run (fresh None) fs) (append_assoc xs (Bar ∷ ys) more) ∙ g.2 ∙ ap (λ q. run (fresh (Some q)) fs (ys ++ more)) g.1 ∙ h.3,
    )

read_as : (xs : List Item) (p : Pattern) → Reads alternation xs p → finished (run (fresh None) [] xs) ≡ p
read_as xs p r =
    let g = runs r [] [] in
    ap finished (ap (run (fresh None) []) (sym (append-nil xs)) ∙ g.2) ∙ g.1

pub one_pattern : (xs : List Item) (p q : Pattern) → Reads alternation xs p → Reads alternation xs q → p ≡ q
one_pattern xs p q r s = sym (read_as xs p r) ∙ read_as xs q s
