-- The steps that build a pattern on a stack of patterns.
use Rattle.std.specs.Prelude.{◌≡◌, Bool, true, false, List, [], ◌∷◌}
use Rattle.refex.specs.Pattern.{Pattern, Nothing, Then, Either, Repeat}
use Rattle.refex.specs.Items.{atom_pattern}
use Rattle.refex.specs.declared.items.Atom.TheVariants as atoms
use Rattle.refex.specs.declared.items.Step.{Step}
use Rattle.refex.specs.declared.items.Step.TheVariants as step

-- the steps turn the first stack into the second
abbrev pub Runs : List Step → List Pattern → List Pattern → Type 0
Runs [] old new = new ≡ old
Runs (step.Start ∷ steps) old new = Runs steps (Nothing ∷ old) new
Runs (step.Atom a ∷ steps) old new = Runs steps (atom_pattern a ∷ old) new
Runs (step.Join ∷ steps) old new = (p q : Pattern) × (rest : List Pattern) × (old ≡ q ∷ p ∷ rest) × Runs steps (Then p q ∷ rest) new
Runs (step.Choose ∷ steps) old new = (p q : Pattern) × (rest : List Pattern) × (old ≡ q ∷ p ∷ rest) × Runs steps (Either p q ∷ rest) new
Runs (step.Repeat bounds ∷ steps) old new = (p : Pattern) × (rest : List Pattern) × (old ≡ p ∷ rest) × Runs steps (Repeat p bounds.least bounds.most ∷ rest) new

-- the stack that they leave, where each step finds what it needs
abbrev pub stack_after : List Step → List Pattern → List Pattern
stack_after [] old = old
stack_after (step.Start ∷ steps) old = stack_after steps (Nothing ∷ old)
stack_after (step.Atom a ∷ steps) old = stack_after steps (atom_pattern a ∷ old)
stack_after (step.Join ∷ steps) (q ∷ p ∷ old) = stack_after steps (Then p q ∷ old)
stack_after (step.Choose ∷ steps) (q ∷ p ∷ old) = stack_after steps (Either p q ∷ old)
stack_after (step.Repeat bounds ∷ steps) (p ∷ old) = stack_after steps (Repeat p bounds.least bounds.most ∷ old)
stack_after (_ ∷ steps) old = stack_after steps old

abbrev pub top : List Pattern → Pattern
top [] = Nothing
top (p ∷ _) = p

-- the pattern that the steps build
unfoldable pub pattern_of : List Step → Pattern
pattern_of steps = top (stack_after steps [])

abbrev pub is_name_step : Step → Bool
is_name_step (step.Atom atoms.Name) = true
is_name_step _ = false
