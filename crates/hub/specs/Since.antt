-- Since which entries of a log the conf in force, and each repository's creator and roles, are what they are.
use Rattle.std.specs.Prelude.{◌≡◌, ◌<◌, ◌≤◌, ℕ, Bool, ◌&&◌, nat_le, List, length, take, Option, None, Some, if◌then◌else◌}
use Rattle.std.specs.Option.{unwrap_or}
use Rattle.std.specs.FinMap.{get, insert}
use Rattle.base_types.specs.Names.{ByName}
use Rattle.ref_store.specs.Refs.{Name}
use Rattle.hub_history.specs.declared.entry.EnterKept.{EnterKept}
use Rattle.hub_history.specs.declared.entry.EnterKept.TheVariants as opened
use Rattle.hub_history.specs.declared.entry.Entry.{Entry}
use Rattle.hub_history.specs.declared.entry.Event.{Event}
use Rattle.hub_history.specs.declared.entry.Event.TheVariants.{Entered, Looked, Permitted, Pushed}
use Rattle.hub_history.specs.declared.entry.PermsKept.{PermsKept}
use Rattle.hub_history.specs.declared.entry.PermsKept.TheVariants as permitted
use Rattle.hub_history.specs.History.{replay}
use Rattle.hub_history.specs.State.{repository_at, wild_of}

-- conf: behind the entry at this place the conf has been in force
-- wilds: by its name, behind which entry a repository has had its creator and its roles; of a name that isn't
--   there it is the first
pub record SinceView : Type 0 where
  pub conf : ℕ
  pub wilds : ByName ℕ

abbrev pub since_of : SinceView → Name → ℕ
since_of since name = unwrap_or (get since.wilds name) 0

abbrev pub made_at : Name → EnterKept → Option Name
made_at repo opened.Granted = None
made_at repo opened.Created = Some repo
made_at repo (opened.Denied verdict) = None
made_at repo opened.NoRepo = None

abbrev pub given_at : Name → PermsKept → Option Name
given_at repo permitted.Changed = Some repo
given_at repo permitted.AlreadySo = None
given_at repo permitted.NotWild = None
given_at repo permitted.NotCreator = None
given_at repo permitted.NoSuchRole = None
given_at repo permitted.Listed = None

-- the repository whose creator or roles an event changes, if it does
abbrev pub changed_wild : Event → Option Name
changed_wild (Entered user repo want answer) = made_at repo answer
changed_wild (Pushed place pack commands atomic outcomes made) = None
changed_wild (Permitted user repo asked answer) = given_at repo answer
changed_wild (Looked user) = None

abbrev pub wilds_noted : ByName ℕ → Option Name → ℕ → ByName ℕ
wilds_noted wilds None place = wilds
wilds_noted wilds (Some name) place = insert wilds name place

-- what is known behind an event at this place, which puts a conf in force or doesn't
abbrev pub noted : SinceView → Event → Bool → ℕ → SinceView
noted since event puts place = record { conf = if puts then place else since.conf; wilds = wilds_noted since.wilds (changed_wild event) place }

-- what was in force for a repository behind the entry at this place still is
abbrev pub has_stayed : SinceView → Name → ℕ → Bool
has_stayed since name place = nat_le since.conf place && nat_le (since_of since name) place

-- this is so of a log
pub record IsSince (since : SinceView) (admin : Name) (log : List Entry) : Type 0 where
  pub conf : (n : ℕ) → since.conf < n → n ≤ length log → (replay admin (take n log)).conf ≡ (replay admin log).conf
  pub wilds : (name : Name) (n : ℕ) → since_of since name < n → n ≤ length log → wild_of (repository_at (replay admin (take n log)) name) ≡ wild_of (repository_at (replay admin log) name)
