-- Lists that are read along.
use Rattle.std.proofs.Common.{◌≡◌, List, [], ◌∷◌, length, ◌==◌, true, refl, arith}
use Rattle.std.proofs.lemmas.Bool.Decides.{nat_tests}
use Rattle.git_object.specs.Content.{Content}

-- a pack without objects
pub none_by_test : (pack : List Content) → (length pack == 0) ≡ true → pack ≡ []
none_by_test [] is = refl
none_by_test (o ∷ os) is = let none : length (o ∷ os) ≡ 0 = grind (arith, nat_tests) in absurd (omega (arith, none))
