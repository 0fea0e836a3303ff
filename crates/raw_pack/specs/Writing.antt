-- What a step of writing a pack does.
use Rattle.std.specs.Prelude.{ℕ, List, ◌++◌, OnOk, Result, filter_map, slice_get}
use Rattle.sha1.specs.Sha1.{Holds}
use Rattle.sha1.specs.declared.Sha1.{Sha1}
use Rattle.git_object.specs.Content.{Content}
use Rattle.pktline_core.specs.LinkState.{LinkState}
use Rattle.pktline_core.specs.Links.{Writes}
use Rattle.pktline_core.specs.declared.links.WriteFault.{WriteFault}

-- the objects at these places, in the order of the places
abbrev pub objects_at : List Content → List ℕ → List Content
objects_at objects places = filter_map (slice_get objects) places

-- These bytes were written, or a beginning of them; on Ok they were hashed too.
pub record WritesHashed (old new : LinkState) (before after : Sha1) (bytes : List ℕ) (result : Result (Unit {0}) WriteFault) : Type 0 where
  pub writes : Writes old new bytes result
  pub hashed : OnOk result ((m : List ℕ) → Holds before m → Holds after (m ++ bytes))
