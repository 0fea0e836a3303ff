-- Items without an offence are a pattern.
use Rattle.std.proofs.Common.{◌≡◌, ℕ, zero, suc, ◌+◌, ◌-◌, ◌≤◌, ◌==◌, cond, List, [], ◌∷◌, ◌++◌, Bool, true, false, None, Some, Option, length, refl, sym, ◌∙◌, ap, subst, arith, append_assoc, append-nil}
use Rattle.std.proofs.lemmas.Bool.{ne_eqb}
use Rattle.std.proofs.lemmas.List.{nil_from_length, length-append}
use Rattle.refex.specs.Pattern.{Pattern, Nothing, Repeat}
use Rattle.refex.specs.Text.{Item, Atom, Open, Close, Bar, Repetition, Bad, Placed}
use Rattle.refex.specs.Grammar.{Reads, alternation, empty}
use Rattle.refex.specs.Parsing.{IsOpen, outermost}
use Rattle.refex.specs.Faults.{closes, closes_before, first_fault, first_of, item_fault, last_after, depth_after}
use Rattle.refex.specs.Refex.{forms}
use Rattle.refex.specs.declared.items.Last.{Last}
use Rattle.refex.specs.declared.items.Last.TheVariants as last
use Rattle.refex.specs.declared.faults.Offence.{Offence}
use Rattle.refex.specs.declared.faults.Offence.TheVariants as offences
use Rattle.refex.proofs.Reading.{open_atom, open_count, open_bar, open_group, open_close, all_of}

-- whatever has been read, the items go on from there to a pattern if they have no offence and close what is
-- open
abbrev GoesOn : List Placed → Type 0
GoesOn all = (groups : List Bool) (b : Bool) (l : Last) (xs : List Item) (stack : List Pattern) → IsOpen groups b l xs stack
    → first_fault l (length groups) all ≡ None → length groups ≤ closes all → (p : Pattern) × Reads alternation (xs ++ forms all) p

moved : (xs : List Item) (i : Item) (ys : List Item) → (p : Pattern) × Reads alternation ((xs ++ i ∷ []) ++ ys) p → (p : Pattern) × Reads alternation (xs ++ i ∷ ys) p
moved xs i ys (p, r) = (p, subst (λ zs. Reads alternation zs p) (append_assoc xs (i ∷ []) ys) r)

no_fault : (f : Offence) (other : Option Offence) → first_of (Some f) other ≡ None → ⊥
no_fault f other e = let g : Some f ≡ None = e in cc

-- a list is empty, or ends with an item
last_group : (g : Bool) (gs : List Bool) → (front : List Bool) × (h : Bool) × (g ∷ gs ≡ front ++ h ∷ [])
last_group g [] = ([], g, refl)
last_group g (h ∷ gs) = let r = last_group h gs in (g ∷ r.0, r.1, ap (λ hs. g ∷ hs) r.2)

on_open : (all : List Placed) → GoesOn all → (later at : ℕ) (groups : List Bool) (b : Bool) (l : Last) (xs : List Item) (stack : List Pattern) → later ≡ closes all
    → IsOpen groups b l xs stack → first_of (cond (later == 0) (Some (offences.Syntax at)) None) (first_fault last.Nothing (suc (length groups)) all) ≡ None
    → length groups ≤ later - 1 → (p : Pattern) × Reads alternation (xs ++ Open true ∷ forms all) p
on_open all go zero at groups b l xs stack is o e d = absurd (no_fault (offences.Syntax at) (first_fault last.Nothing (suc (length groups)) all) e)
on_open all go (suc n) at groups b l xs stack is o e d =
    let some : (suc n == 0) ≡ false = ne_eqb (suc n) 0 (λ z. omega arith) in
    let deep : length (groups ++ b ∷ []) ≡ suc (length groups) = length-append groups (b ∷ []) ∙ omega arith in
    let r = open_group groups b l xs stack o in
    moved xs (Open true) (forms all) (go (groups ++ b ∷ []) false last.Nothing (xs ++ Open true ∷ []) (Nothing ∷ r.0) r.2
    (ap (λ n. first_fault last.Nothing n all) deep ∙ sym (ap (λ t. first_of (cond t (Some (offences.Syntax at)) None) (first_fault last.Nothing (suc (length groups)) all)) some) ∙ e)
    (omega (arith, deep, is)))

on_close : (all : List Placed) → GoesOn all → (at : ℕ) (groups : List Bool) (b : Bool) (l : Last) (xs : List Item) (stack : List Pattern)
    → IsOpen groups b l xs stack → first_of (cond (length groups == 0) (Some (offences.Syntax at)) None) (first_fault last.Atom (length groups - 1) all) ≡ None
    → length groups ≤ suc (closes all) → (p : Pattern) × Reads alternation (xs ++ Close ∷ forms all) p
on_close all go at [] b l xs stack o e d = absurd (no_fault (offences.Syntax at) (first_fault last.Atom (0 - 1) all) e)
on_close all go at (g ∷ gs) b l xs stack o e d =
    let n = last_group g gs in
    let some : (length (g ∷ gs) == 0) ≡ false = ne_eqb (length (g ∷ gs)) 0 (λ z. omega arith) in
    let deep : length n.0 + 1 ≡ length (g ∷ gs) = sym (ap length n.2 ∙ length-append n.0 (n.1 ∷ [])) in
    let less : length n.0 ≡ length (g ∷ gs) - 1 = omega (arith, deep) in
    let r = open_close (g ∷ gs) n.0 n.1 b l xs stack n.2 o in
    moved xs Close (forms all) (go n.0 n.1 last.Atom (xs ++ Close ∷ []) (r.0 ∷ r.1) r.3
    (ap (λ n. first_fault last.Atom n all) less ∙ sym (ap (λ t. first_of (cond t (Some (offences.Syntax at)) None) (first_fault last.Atom (length (g ∷ gs) - 1) all)) some) ∙ e)
    (omega (arith, deep)))

on_count : (all : List Placed) → GoesOn all → (at least : ℕ) (most : Option ℕ) (suffix : Bool) (groups : List Bool) (b : Bool) (l : Last) (xs : List Item) (stack : List Pattern)
    → IsOpen groups b l xs stack → first_of (item_fault l (length groups) (Repetition least most suffix) at (closes all)) (first_fault last.Counted (length groups) all) ≡ None
    → length groups ≤ closes all → (p : Pattern) × Reads alternation (xs ++ Repetition least most suffix ∷ forms all) p
on_count all go at least most suffix groups b last.Atom xs stack o e d =
    let r = open_count groups b xs stack least most suffix o in
    moved xs (Repetition least most suffix) (forms all) (go groups b last.Counted (xs ++ Repetition least most suffix ∷ []) (Repeat r.0 least most ∷ r.1) r.3 e d)
on_count all go at least most suffix groups b last.Nothing xs stack o e d = absurd (no_fault (offences.Syntax at) (first_fault last.Counted (length groups) all) e)
on_count all go at least most true groups b last.Counted xs stack o e d = absurd (no_fault (offences.Unsupported at) (first_fault last.Counted (length groups) all) e)
on_count all go at least most false groups b last.Counted xs stack o e d = absurd (no_fault (offences.Syntax at) (first_fault last.Counted (length groups) all) e)

on_item : (all : List Placed) → GoesOn all → (i : Item) (at : ℕ) (groups : List Bool) (b : Bool) (l : Last) (xs : List Item) (stack : List Pattern) → IsOpen groups b l xs stack
    → first_of (item_fault l (length groups) i at (closes all)) (first_fault (last_after i) (depth_after (length groups) i) all) ≡ None
    → length groups ≤ closes_before i (closes all) → (p : Pattern) × Reads alternation (xs ++ i ∷ forms all) p
on_item all go (Atom q) at groups b l xs stack o e d =
    let r = open_atom groups b l xs stack q o in
    moved xs (Atom q) (forms all) (go groups b last.Atom (xs ++ Atom q ∷ []) (q ∷ r.0) r.2 e d)
on_item all go (Open true) at groups b l xs stack o e d = on_open all go (closes all) at groups b l xs stack refl o e d
on_item all go (Open false) at groups b l xs stack o e d = absurd (no_fault (offences.Unsupported at) (first_fault last.Nothing (suc (length groups)) all) e)
on_item all go Close at groups b l xs stack o e d = on_close all go at groups b l xs stack o e d
on_item all go Bar at groups b l xs stack o e d =
    let r = open_bar groups b l xs stack o in
    moved xs Bar (forms all) (go groups true last.Nothing (xs ++ Bar ∷ []) (Nothing ∷ r.0 ∷ r.1) r.3 e d)
on_item all go (Repetition least most suffix) at groups b l xs stack o e d = on_count all go at least most suffix groups b l xs stack o e d
on_item all go (Bad f) at groups b l xs stack o e d = absurd (no_fault f (first_fault last.Nothing (length groups) all) e)

goes_on : (all : List Placed) → GoesOn all
unfolding first_fault
goes_on [] groups b l xs stack o e d =
    let none : groups ≡ [] = nil_from_length groups (omega arith) in
    let r = all_of groups b l xs stack none o in
    (r.0, subst (λ zs. Reads alternation zs r.0) (sym (append-nil xs)) r.2)
goes_on (x ∷ all) groups b l xs stack o e d = on_item all (goes_on all) x.item x.at groups b l xs stack o e d

pub sound_is_read : (all : List Placed) → first_fault last.Nothing 0 all ≡ None → (p : Pattern) × Reads alternation (forms all) p
sound_is_read all e = goes_on all [] false last.Nothing [] (Nothing ∷ []) (outermost false last.Nothing [] (Nothing ∷ []) (Nothing, empty, refl)) e (omega arith)
