-- No entry is made between what is written and what is read next.
use Rattle.std.proofs.Common.{◌≡◌, ℕ, Bool, false, length, Result, Ok, Err, refl}
use Rattle.pktline_core.specs.Packets as packets
use Rattle.pktline_core.specs.declared.packets.PktFault.{PktFault}
use Rattle.access_check.specs.declared.verdicts.Want.{Want}
use Rattle.ref_store.specs.Refs.{Name}
use Rattle.interaction_tree.specs.Interaction.{◌>>=◌, write, read, ask}
use Rattle.interaction_tree.specs.Order.{EntriesFirst}
use Rattle.interaction_tree.proofs.OrderLemmas.{order_then}
use Rattle.session_core.specs.declared.first_packet.FirstLine.{FirstLine}
use Rattle.session_core.specs.declared.first_packet.FirstLine.TheVariants.{Asks, BadCommand, BadUser}
use Rattle.session_core.specs.FirstPacket.{first_line, without_feed}
use Rattle.session_core.specs.Asking.{asked_in, asked_in_line, asking, bad_command}
use Rattle.session_core.specs.Opening.{Opened, LetIn, Refused, Absent, entering, opened_by, opening, opening_behind, recorded_answer, unless_refused}
use Rattle.session_core.specs.Rulebook.{Rulebook}
use Rattle.session_core.specs.Packets.{malformed, next_packet, packet_in, refuse}

-- it read last
unfoldable pub ReadLast : {A : Type 0} → Bool → A → Type 0
ReadLast wrote a = wrote ≡ false

order_packet_in : (offset used : ℕ) (found : Result packets.Packet PktFault) → EntriesFirst false (packet_in offset used found) ReadLast
unfolding EntriesFirst ◌>>=◌ write refuse malformed ReadLast
order_packet_in offset used (Ok packet) = refl
order_packet_in offset used (Err fault) = tt

-- whatever was written before
pub order_next : (wrote : Bool) (offset : ℕ) → EntriesFirst wrote (next_packet offset) ReadLast
unfolding EntriesFirst ◌>>=◌ read next_packet
order_next wrote offset = λ reply. order_packet_in offset reply.used reply.found

order_line : (line : FirstLine) → EntriesFirst false (asked_in_line line) ReadLast
unfolding EntriesFirst ◌>>=◌ write refuse bad_command ReadLast
order_line (Asks asked) = refl
order_line BadCommand = tt
order_line BadUser = tt

order_asked_in : (packet : packets.Packet) → EntriesFirst false (asked_in packet) ReadLast
unfolding EntriesFirst ◌>>=◌ write refuse bad_command
order_asked_in (packets.Line payload) = order_line (first_line (without_feed payload))
order_asked_in packets.Flush = tt

pub order_asking : (offset : ℕ) → EntriesFirst false (asking offset) ReadLast
unfolding asking ReadLast EntriesFirst
order_asking offset =
    order_then false (next_packet offset) _ ReadLast ReadLast (order_next false offset)
    (λ w next last. rw last (order_then false (asked_in next.0) _ ReadLast ReadLast (order_asked_in next.0) (λ w' asked last'. last')))

order_unless_refused : (user repo : Name) (want : Want) (opened : Opened) → EntriesFirst false (unless_refused user repo want opened) ReadLast
unfolding EntriesFirst ◌>>=◌ write refuse ReadLast
order_unless_refused user repo want (LetIn opening) = refl
order_unless_refused user repo want (Refused rule) = tt
order_unless_refused user repo want Absent = tt

pub order_entering : (book : Rulebook) (admin user repo : Name) (want : Want) → EntriesFirst false (entering book admin user repo want) ReadLast
unfolding EntriesFirst ◌>>=◌ ask entering opening
order_entering book admin user repo want =
    (refl, λ own. order_unless_refused user repo want (opened_by (book.rules (length own.before)).rules (recorded_answer own.entry.event) (opening_behind admin own user repo want)))
