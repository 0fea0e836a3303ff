-- The texts of faults of a frame.
use Rattle.std.specs.Prelude.{ℕ, List, codes}
use Rattle.script_frames.specs.declared.frames.FrameFault.{FrameFault}
use Rattle.script_frames.specs.declared.frames.FrameFault.TheVariants.{Bad, ReadFault, NoMemory}

abbrev pub fault_text : FrameFault → List ℕ
fault_text Bad = codes "bad frame"
fault_text ReadFault = codes "read failed"
fault_text NoMemory = codes "out of memory"
