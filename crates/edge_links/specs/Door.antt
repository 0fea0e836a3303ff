-- Doors: what one is to contracts, and what its calls do.
use Rattle.std.specs.Prelude.{◌≡◌, ℕ, ◌≤◌, Bool, true, List, [], ◌∷◌, ◌++◌, ⊤}
use Rattle.std.specs.declared.option.Option.{Option}
use Rattle.std.specs.declared.option.Option.TheVariants.{None, Some}
use Rattle.base_types.specs.Counts.{HasRisen}
use Rattle.edge_links.specs.declared.door.Next.{Next}
use Rattle.edge_links.specs.declared.door.Next.TheVariants as next

pub record DoorState (L : Type 0) : Type 0 where
  -- the links that are left, where the door tells them
  pub left : Option (List L)
  -- the links that were served, where the door tells them
  pub served : Option (List L)
  -- how often `next` has failed
  pub faults : ℕ
  -- whether it has answered that it is closed
  pub closed : Bool
  -- whether a link that it gave is out
  pub out : Bool

-- a told list is as it was
abbrev pub KeepsList : {L : Type 0} → Option (List L) → Option (List L) → Type 0
KeepsList None new = ⊤
KeepsList (Some xs) None = ⊥
KeepsList (Some xs) (Some ys) = ys ≡ xs

-- a told list began with this link, and lost it
abbrev pub LosesFirst : {L : Type 0} → Option (List L) → Option (List L) → L → Type 0
LosesFirst None new link = ⊤
LosesFirst (Some xs) None link = ⊥
LosesFirst (Some xs) (Some ys) link = xs ≡ link ∷ ys

-- this link was put at the end of a told list
abbrev pub GainsLast : {L : Type 0} → Option (List L) → Option (List L) → L → Type 0
GainsLast None new link = ⊤
GainsLast (Some xs) None link = ⊥
GainsLast (Some xs) (Some ys) link = ys ≡ xs ++ link ∷ []

-- a told list has nothing in it
abbrev pub IsEmptyList : {L : Type 0} → Option (List L) → Type 0
IsEmptyList None = ⊤
IsEmptyList (Some xs) = xs ≡ []

-- `Link` is the first of the links left, and is out from then on; `Closed` comes only where none is left, and
-- alone makes it true that the door has closed; the count rose where `Failed` came, and nowhere else.
abbrev pub Gives : {L : Type 0} → DoorState L → DoorState L → Next L → Type 0
Gives old new (next.Link link) = LosesFirst old.left new.left link × (new.closed ≡ old.closed) × (new.out ≡ true) × (new.faults ≡ old.faults)
Gives old new next.Closed = IsEmptyList old.left × KeepsList old.left new.left × (new.closed ≡ true) × (new.out ≡ old.out) × (new.faults ≡ old.faults)
Gives old new next.Failed = HasRisen old.faults new.faults × KeepsList old.left new.left × (new.closed ≡ old.closed) × (new.out ≡ old.out)

-- What one call of `next` did.
pub record Answers {L : Type 0} (old new : DoorState L) (result : Next L) : Type 0 where
  pub given : Gives old new result
  pub served : KeepsList old.served new.served
  pub faults : old.faults ≤ new.faults

-- What one call of `done` did: the link is the last of those served. Nothing is said of whether a link is
-- out.
pub record TakesBack {L : Type 0} (old new : DoorState L) (link : L) : Type 0 where
  pub served : GainsLast old.served new.served link
  pub left : KeepsList old.left new.left
  pub faults : new.faults ≡ old.faults
  pub closed : new.closed ≡ old.closed
