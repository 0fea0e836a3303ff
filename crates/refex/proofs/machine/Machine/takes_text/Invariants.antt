use Rattle.std.proofs.Common.{take}
use Rattle.refex.specs.Machine.{IsAfter, letters, follows}
use Rattle.refex.proofs.machine.Machine.takes_text.Given as goal

abbrev pub invariant-loop-byte : goal.invariant-loop-byte
invariant-loop-byte l =
    IsAfter (letters l.self.masks.items l.self.holes) (follows l.self.follow.items) l.name l.self.holes l.self.after l.self.first (take l.byte-index l.text) l.state.set l.state.parts
