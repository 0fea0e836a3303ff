-- Doors over memory, call by call.
use Rattle.std.specs.Prelude.{ℕ, ◌==◌, ◌+◌, ◌-◌, Bool, true, false, not, if◌then◌else◌, List, [], ◌∷◌, ◌++◌}
use Rattle.std.specs.declared.option.Option.TheVariants.{Some}
use Rattle.base_types.specs.Counts.{one_more}
use Rattle.pktline_core.specs.MemoryLinks.{is_listed}
use Rattle.edge_links.specs.Door.{DoorState}
use Rattle.edge_links.specs.declared.door.Next.{Next}
use Rattle.edge_links.specs.declared.door.Next.TheVariants as next

pub record MemoryDoorState (L : Type 0) : Type 0 where
  pub left : List L
  pub served : List L
  -- how many links are out
  pub out : ℕ
  -- how many calls of `next` were made, and the numbers, from 0, of those that fail
  pub calls : ℕ
  pub failing : List ℕ
  pub faults : ℕ
  pub closed : Bool

-- a new door
abbrev pub new_door : {L : Type 0} → List L → List ℕ → MemoryDoorState L
new_door links failing = record {
  left = links;
  served = [];
  out = 0;
  calls = 0;
  failing = failing;
  faults = 0;
  closed = false;
}

-- a memory door tells everything
abbrev pub door_state : {L : Type 0} → MemoryDoorState L → DoorState L
door_state m = record {
  left = Some m.left;
  served = Some m.served;
  faults = m.faults;
  closed = m.closed;
  out = not (m.out == 0);
}

-- what is given where the links left are these
abbrev pub first_link : {L : Type 0} → List L → Next L
first_link [] = next.Closed
first_link (link ∷ rest) = next.Link link

-- the answer of a call of `next`
abbrev pub next_answer : {L : Type 0} → MemoryDoorState L → Next L
next_answer m = if is_listed m.failing m.calls then next.Failed else first_link m.left

-- the links after the first
abbrev pub later_links : {L : Type 0} → List L → List L
later_links [] = []
later_links (link ∷ rest) = rest

-- the door after that answer
abbrev pub after_next : {L : Type 0} → MemoryDoorState L → Next L → MemoryDoorState L
after_next m (next.Link link) = record m { left = later_links m.left; out = m.out + 1; calls = one_more m.calls }
after_next m next.Closed = record m { closed = true; calls = one_more m.calls }
after_next m next.Failed = record m { faults = one_more m.faults; calls = one_more m.calls }

-- the door after a link was served
abbrev pub after_done : {L : Type 0} → MemoryDoorState L → L → MemoryDoorState L
after_done m link = record m { served = m.served ++ link ∷ []; out = m.out - 1 }
