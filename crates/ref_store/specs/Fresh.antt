-- What a repository lacks of a pack.
use Rattle.std.specs.Prelude.{List, Option}
use Rattle.git_object.specs.Content.{Content}

-- the objects, and those of the repository for which segments are prepared, if they are
pub record Fresh : Type 0 where
  pub objects : List Content
  pub before : Option (List Content)
