-- What a pack adds to objects, where that is found out before it is known whether they stay.
use Rattle.std.specs.Prelude.{◌≡◌, List, ◌++◌, Option, None, Some, IfSome}
use Rattle.git_object.specs.Content.{Content}
use Rattle.ref_store.specs.Fresh.{Fresh}
use Rattle.ref_store.specs.Objects.{with_pack}
use Rattle.ref_store.specs.Store.{TellsOfComparing}
use Rattle.ref_store.specs.declared.repo.Compared.TheVariants as beside
use Rattle.ancestry.specs.declared.closures.Closures.{Closures}
use Rattle.ancestry.specs.Closures.{AreClosures}

-- what a pack adds to these objects, where that was found out, with segments that are prepared for them if
-- any are: those behind them are the pack's
abbrev pub IsPrepared : List Content → List Content → Option Fresh → Type 0
IsPrepared before objects None = Unit {0}
IsPrepared before objects (Some fresh) = IfSome fresh.before (λ prepared. prepared ≡ before) × ((pack : List Content) → objects ≡ before ++ pack → TellsOfComparing before pack (beside.Fresh fresh))

-- closures among these objects and what a pack adds to them: those behind them are the pack's
abbrev pub AreGrownClosures : List Content → List Content → Closures → Type 0
AreGrownClosures before objects closures = (pack : List Content) → objects ≡ before ++ pack → AreClosures (with_pack before pack) closures

-- the objects of a repository, and the same with a pack's behind them
pub record PackView : Type 0 where
  pub before : List Content
  pub objects : List Content
