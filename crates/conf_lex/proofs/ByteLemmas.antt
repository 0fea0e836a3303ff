-- Bytes: texts that a test finds equal, parts of a text, the first `=`.
use Rattle.std.proofs.Common.{◌≡◌, ◌<◌, ◌≤◌, ◌+◌, ◌==◌, ℕ, zero, suc, List, [], ◌∷◌, ◌++◌, Bool, true, false, take, drop, length, arith, refl, sym, ap, ◌∙◌, length-take}
use Rattle.std.specs.Prelude.{nat_eq, slice_index, ◌||◌}
use Rattle.std.specs.List.{starts_with}
use Rattle.std.specs.Str.{bytes_eq}
use Rattle.std.proofs.lemmas.Slice.Eq.{bytes_eq-Decides}
use Rattle.std.proofs.Common.{get_or, ext_get_or, length-take-le, length-drop, get_or-take, get_or-drop}
use Rattle.bstr.specs.Find.{OccursAt}
use Rattle.conf_lex.specs.Names.{occurs}
use Rattle.conf_lex.specs.Cleaning.{spaced}

pub same_bytes : (a b : List ℕ) → bytes_eq a b ≡ true → a ≡ b
same_bytes a b e = (bytes_eq-Decides a b).0 e

pub same_bytes_test : (a b : List ℕ) → a ≡ b → bytes_eq a b ≡ true
same_bytes_test a b e = (bytes_eq-Decides a b).1 e

or_first : (a b : Bool) → a ≡ true → (a || b) ≡ true
or_first a b e = rw e refl

or_second : (a b : Bool) → b ≡ true → (a || b) ≡ true
or_second true b e = refl
or_second false b e = e

-- a part that stands somewhere is found
pub occurs_found : (part text : List ℕ) (k : ℕ) → 0 < length part → k + length part ≤ length text → take (length part) (drop k text) ≡ part → occurs part text ≡ true
occurs_found part [] k some fits reads = absurd (omega arith)
occurs_found part (c ∷ rest) zero some fits reads = or_first _ (occurs part rest) (same_bytes_test part (take (length part) (c ∷ rest)) (sym reads))
occurs_found part (c ∷ rest) (suc k) some fits reads = or_second (starts_with nat_eq (c ∷ rest) part) _ (occurs_found part rest k some (omega arith) reads)

front_fits : (part text : List ℕ) → part ≡ take (length part) text → length part ≤ length text
front_fits part text e = let same : length part ≡ length (take (length part) text) = ap length e in omega (arith, length-take (length part) text)

-- a part that is found stands somewhere
abbrev pub StandsIn : List ℕ → List ℕ → Type 0
StandsIn part text = (k : ℕ) × (k + length part ≤ length text) × (take (length part) (drop k text) ≡ part)

found_case : (b : Bool) (part : List ℕ) (c : ℕ) (rest : List ℕ) → starts_with nat_eq (c ∷ rest) part ≡ b → (b || occurs part rest) ≡ true → (occurs part rest ≡ true → StandsIn part rest) → StandsIn part (c ∷ rest)
found_case true part c rest front found later =
    let reads : part ≡ take (length part) (c ∷ rest) = same_bytes part (take (length part) (c ∷ rest)) front in
    let fits : length part ≤ length (c ∷ rest) = front_fits part (c ∷ rest) reads in
    (0, omega (arith, fits), sym reads)
found_case false part c rest front found later =
    let there : StandsIn part rest = later found in
    let fits : there.0 + length part ≤ length rest = there.1 in
    (suc there.0, omega (arith, fits), there.2)

pub found_occurs : (part text : List ℕ) → occurs part text ≡ true → StandsIn part text
found_occurs part [] found = absurd cc
found_occurs part (c ∷ rest) found = found_case (starts_with nat_eq (c ∷ rest) part) part c rest refl found (λ later. found_occurs part rest later)

-- the same in the words of the search
pub reads_part : (part text : List ℕ) (k : ℕ) → OccursAt text part k → take (length part) (drop k text) ≡ part
reads_part part text k h =
    let fits : k + length part ≤ length text = h.fits in
    let whole : length (take (length part) (drop k text)) ≡ length part = length-take-le (length part) (drop k text) (omega (arith, length-drop k text)) in
    ext_get_or 0 _ part whole (λ j l. get_or-take (length part) _ j 0 (omega arith) ∙ get_or-drop k text j 0 ∙ h.reads j (omega arith))

pub part_reads : (part text : List ℕ) (k : ℕ) → k + length part ≤ length text → take (length part) (drop k text) ≡ part → OccursAt text part k
part_reads part text k fits e = record {
  fits = fits;
  reads = λ j l. sym (get_or-take (length part) _ j 0 (omega arith) ∙ get_or-drop k text j 0) ∙ ap (λ xs. get_or xs j 0) e;
}

untrue : (b : Bool) → ¬ (b ≡ true) → b ≡ false
untrue true h = absurd (h refl)
untrue false h = refl

-- no byte is `=`
pub spaced_none : (line : List ℕ) → ((k : ℕ) → k < length line → ¬ ((slice_index line k == 61) ≡ true)) → spaced line ≡ line
spaced_none [] h = refl
spaced_none (b ∷ bs) h =
    let here : (b == 61) ≡ false = untrue (b == 61) (h 0 (omega arith)) in
    rw (here, spaced_none bs (λ k l. h (suc k) (omega arith))) refl

-- the first `=`
pub spaced_at : (line : List ℕ) (k : ℕ) → k < length line → ((j : ℕ) → j < k → ¬ ((slice_index line j == 61) ≡ true)) → (slice_index line k == 61) ≡ true
    → spaced line ≡ take k line ++ (32 ∷ 61 ∷ 32 ∷ drop (suc k) line)
spaced_at [] k within before at = absurd (omega arith)
spaced_at (b ∷ bs) zero within before at = rw at refl
spaced_at (b ∷ bs) (suc k) within before at =
    let here : (b == 61) ≡ false = untrue (b == 61) (before 0 (omega arith)) in
    rw (here, spaced_at bs k (omega arith) (λ j l. before (suc j) (omega arith)) at) refl
