-- An object, as contracts see it.
use Rattle.std.specs.Prelude.{ℕ, List}
use Rattle.git_object.specs.declared.kind.Kind.{Kind}

pub record Content : Type 0 where
  pub kind : Kind
  pub body : List ℕ
