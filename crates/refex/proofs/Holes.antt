-- Whether steps put the hole on the stack.
use Rattle.std.proofs.Common.{◌≡◌, List, [], ◌∷◌, Bool, true, false, ◌||◌, refl, sym, ◌∙◌, ap}
use Rattle.std.specs.List.{list_any}
use Rattle.refex.specs.Pattern.{Pattern, Nothing, Then, Either, Repeat}
use Rattle.refex.specs.Items.{atom_pattern}
use Rattle.refex.specs.Program.{Runs, is_name_step}
use Rattle.refex.specs.Refex.{has_name}
use Rattle.refex.specs.declared.items.Atom as kept_atom
use Rattle.refex.specs.declared.items.Atom.TheVariants as atoms
use Rattle.refex.specs.declared.items.Step.{Step}
use Rattle.refex.specs.declared.items.Step.TheVariants as step

or_assoc : (a b c : Bool) → (a || b) || c ≡ a || (b || c)
or_assoc true b c = refl
or_assoc false b c = refl

or_false : (a : Bool) → (a || false) ≡ a
or_false true = refl
or_false false = refl

-- what joins two patterns on the stack keeps whether one of them has the hole
swapped : (x p q r : Bool) → x || ((p || q) || r) ≡ x || (q || (p || r))
swapped true p q r = refl
swapped false true true r = refl
swapped false true false r = refl
swapped false false true r = refl
swapped false false false r = refl

put : (x p r : Bool) → x || (p || r) ≡ (p || x) || r
put true true r = refl
put true false r = refl
put false true r = refl
put false false r = refl

abbrev any_name : List Pattern → Bool
any_name ps = list_any has_name ps

atom_named : (a : kept_atom.Atom) → has_name (atom_pattern a) ≡ is_name_step (step.Atom a)
atom_named (atoms.Bytes set) = refl
atom_named atoms.End = refl
atom_named atoms.Name = refl

named_by : (steps : List Step) (old new : List Pattern) → Runs steps old new → any_name new ≡ list_any is_name_step steps || any_name old
named_by [] old new e = ap any_name e
named_by (step.Start ∷ steps) old new x = named_by steps (Nothing ∷ old) new x
named_by (step.Atom a ∷ steps) old new x =
    named_by steps (atom_pattern a ∷ old) new x ∙ put (list_any is_name_step steps) (has_name (atom_pattern a)) (any_name old)
    ∙ ap (λ b. (b || list_any is_name_step steps) || any_name old) (atom_named a)
named_by (step.Join ∷ steps) old new (p, q, rest, e, x) =
    named_by steps (Then p q ∷ rest) new x ∙ swapped (list_any is_name_step steps) (has_name p) (has_name q) (any_name rest)
    ∙ ap (λ s. list_any is_name_step steps || any_name s) (sym e)
named_by (step.Choose ∷ steps) old new (p, q, rest, e, x) =
    named_by steps (Either p q ∷ rest) new x ∙ swapped (list_any is_name_step steps) (has_name p) (has_name q) (any_name rest)
    ∙ ap (λ s. list_any is_name_step steps || any_name s) (sym e)
named_by (step.Repeat bounds ∷ steps) old new (p, rest, e, x) =
    named_by steps (Repeat p bounds.least bounds.most ∷ rest) new x ∙ ap (λ s. list_any is_name_step steps || any_name s) (sym e)

pub pattern_named : (steps : List Step) (p : Pattern) → Runs steps [] (p ∷ []) → list_any is_name_step steps ≡ has_name p
pattern_named steps p r = sym (sym (or_false (has_name p)) ∙ named_by steps [] (p ∷ []) r ∙ or_false (list_any is_name_step steps))
