-- Objects that are there.
use Rattle.std.proofs.Common.{◌≡◌, Option, None, Some, false, true, refl}
use Rattle.std.specs.Prelude.{IsSome}
use Rattle.git_object.specs.Content.{Content}

pub some_of : (o : Option Content) → IsSome o → (c : Content) × (o ≡ Some c)
some_of None is = let bad : false ≡ true = is in cc
some_of (Some c) is = (c, refl)

pub is_some_of : (o : Option Content) (c : Content) → o ≡ Some c → IsSome o
is_some_of None c is = cc
is_some_of (Some d) c is = refl
