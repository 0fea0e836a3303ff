-- What a pack holds that a repository lacks.
use Rattle.std.specs.Prelude.{◌≡◌, List, ◌++◌}
use Rattle.git_object.specs.Content.{Content}
use Rattle.ref_store.specs.declared.lacking.Lacking.{Lacking}
use Rattle.ref_store.specs.declared.lacking.Lacking.TheVariants.{Fresh, Differs}
use Rattle.ref_store.specs.Objects.{with_pack, HasNoCollision, IsFirstCollision}

abbrev pub TellsOfPack : List Content → List Content → Lacking → Type 0
TellsOfPack objects pack (Fresh fresh) = HasNoCollision (objects ++ pack) × (with_pack objects pack ≡ objects ++ fresh.items)
TellsOfPack objects pack (Differs id kept given) = IsFirstCollision (objects ++ pack) id kept given
