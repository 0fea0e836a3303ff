-- A door over memory, seen as what it has left and what it has done.
use Rattle.edge_links.specs.MemoryDoors.{MemoryDoorState}
use Rattle.edge_links.specs.declared.memory_door.MemoryDoor.{MemoryDoor}

abbrev pub door_of : {L : Type 0} → MemoryDoor L → MemoryDoorState L
door_of m = record {
  left = m.waiting.items;
  served = m.served.items;
  out = m.out;
  calls = m.calls;
  failing = m.failing.items;
  faults = m.faults;
  closed = m.closed;
}
