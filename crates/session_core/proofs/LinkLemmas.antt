-- What was read of a link stays as it was.
use Rattle.std.proofs.Common.{refl, ◌∙◌}
use Rattle.pktline_core.specs.LinkState.{LinkState}
use Rattle.pktline_core.specs.Links.{KeepsReading}

pub keeps_same : (a : LinkState) → KeepsReading a a
keeps_same a = record { left = refl; given = refl; read_faults = refl }

pub keeps_more : (a b c : LinkState) → KeepsReading a b → KeepsReading b c → KeepsReading a c
keeps_more a b c p q = record { left = q.left ∙ p.left; given = q.given ∙ p.given; read_faults = q.read_faults ∙ p.read_faults }
