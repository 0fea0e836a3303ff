-- The first packet, as an interaction.
use Rattle.std.specs.Prelude.{ℕ, codes}
use Rattle.pktline_core.specs.Packets as packets
use Rattle.interaction_tree.specs.Interaction.{Interaction, gives, ◌>>=◌}
use Rattle.session_core.specs.declared.end.SessionEnd.{SessionEnd}
use Rattle.session_core.specs.declared.end.SessionEnd.TheVariants as end
use Rattle.session_core.specs.declared.first_packet.Asked.{Asked}
use Rattle.session_core.specs.declared.first_packet.FirstLine.{FirstLine}
use Rattle.session_core.specs.declared.first_packet.FirstLine.TheVariants.{Asks, BadCommand, BadUser}
use Rattle.session_core.specs.FirstPacket.{first_line, without_feed}
use Rattle.session_core.specs.Packets.{next_packet, refuse}

unfoldable pub bad_command : Interaction SessionEnd Asked
bad_command = refuse (codes "ERR bad command") end.BadCommand

abbrev pub asked_in_line : FirstLine → Interaction SessionEnd Asked
asked_in_line (Asks asked) = gives asked
asked_in_line BadCommand = bad_command
asked_in_line BadUser = refuse (codes "ERR bad user") end.BadUser

abbrev pub asked_in : packets.Packet → Interaction SessionEnd Asked
asked_in (packets.Line payload) = asked_in_line (first_line (without_feed payload))
asked_in packets.Flush = bad_command

-- who asks for what, and the offset behind the first packet
unfoldable pub asking : ℕ → Interaction SessionEnd (Asked × ℕ)
asking offset = do
  next ← next_packet offset
  asked ← asked_in next.0
  gives (asked, next.1)
