-- What a push stands on in its turn.
use Rattle.std.specs.Prelude.{◌≡◌, List, ◌++◌, Option, None, Some}
use Rattle.git_object.specs.Content.{Content}
use Rattle.ref_store.specs.Objects.{with_pack}
use Rattle.ancestry.specs.Closures.{Begins}
use Rattle.ancestry.specs.Known.{Extends}
use Rattle.hub_history.specs.State.{Repository}
use Rattle.hub_state.specs.Prepared.{PackView}
use Rattle.push_settling.specs.declared.basis.Basis.{Basis}
use Rattle.push_settling.specs.declared.basis.Standing.{Standing}
use Rattle.push_settling.specs.declared.basis.Standing.TheVariants.{Unmoved, Moved}
use Rattle.push_settling.specs.declared.settling.Left.{Left}
use Rattle.push_settling.specs.declared.settling.Left.TheVariants.{Changed, Same}

-- objects as they were at an opening, and as they are now
abbrev pub StandsAs : List Content → List Content → Standing → Type 0
StandsAs before now Unmoved = before ≡ now
StandsAs before now Moved = Begins before now

-- these objects are those of the opening, or those and others behind them
abbrev pub StandsOn : List Content → Basis → Type 0
StandsOn now basis = StandsAs basis.prepared.before now basis.standing

-- where no objects came, these are those of the opening and what the pack added to them
abbrev pub AreAsPrepared : List Content → PackView → Standing → Type 0
AreAsPrepared left prepared Unmoved = (pack : List Content) → prepared.objects ≡ prepared.before ++ pack → left ≡ with_pack prepared.before pack
AreAsPrepared left prepared Moved = Unit {0}

-- the objects that a push leaves: those just before it, and those of its pack that weren't there
pub record AreLeft (now : List Content) (basis : Basis) (left : List Content) : Type 0 where
  pub behind_now : Begins now left
  pub behind_opening : Begins basis.prepared.before left
  pub pack_behind : Begins basis.prepared.before basis.prepared.objects
  pub has_pack : Extends basis.prepared.objects left
  pub as_prepared : AreAsPrepared left basis.prepared basis.standing

-- the repository that is put in place, if one is, and the one that stays, where more is known of it
abbrev pub changed_to : Left → Option Repository
changed_to (Changed next) = Some next
changed_to (Same same) = None

abbrev pub same_in : Left → Option Repository
same_in (Changed next) = None
same_in (Same same) = same
