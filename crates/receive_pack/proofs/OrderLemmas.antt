-- No entry is made between what is written and what is read next.
use Rattle.std.proofs.Common.{ℕ, zero, suc, Bool, true, false, List, Option, None, Some, Result, Ok, Err, refl}
use Rattle.std.specs.Bool.{⊤}
use Rattle.pktline_core.specs.Packets as packets
use Rattle.raw_pack.specs.declared.fault.PackFault.{PackFault}
use Rattle.git_object.specs.Content.{Content}
use Rattle.ref_store.specs.declared.command.Command.{Command}
use Rattle.hub_history.specs.Opening.{Opening}
use Rattle.interaction_tree.specs.Interaction.{Interaction, ◌>>=◌, write, read, ask}
use Rattle.interaction_tree.specs.Order.{EntriesFirst}
use Rattle.interaction_tree.proofs.OrderLemmas.{order_then}
use Rattle.session_core.specs.declared.end.SessionEnd.{SessionEnd}
use Rattle.session_core.specs.FirstPacket.{without_feed}
use Rattle.session_core.specs.Packets.{malformed, next_packet, or_malformed, refuse}
use Rattle.session_core.specs.Rulebook.{Rulebook}
use Rattle.session_core.proofs.OrderLemmas.{ReadLast, order_next}
use Rattle.receive_pack.specs.declared.changes.Capabilities.{Capabilities}
use Rattle.receive_pack.specs.Changes.{all_delete, change, first_capabilities, first_command}
use Rattle.receive_pack.specs.Receiving.{commanded, commanding, further_in, no_more, pack_in, pack_unless, pushing, reading_pack, receiving, refusing_pack, taking_commands, taking_further, taking_pack, taking_push, taking_rest, up_to_flush}

order_or_malformed : {A : Type 0} (offset : ℕ) (a : Option A) → EntriesFirst false (or_malformed offset a) ReadLast
unfolding EntriesFirst ◌>>=◌ write refuse malformed ReadLast
order_or_malformed offset None = tt
order_or_malformed offset (Some a) = refl

order_further_in : (offset : ℕ) (packet : packets.Packet) → EntriesFirst false (further_in offset packet) ReadLast
unfolding EntriesFirst ReadLast
order_further_in offset packets.Flush = refl
order_further_in offset (packets.Line payload) = order_then false (or_malformed offset (change (without_feed payload))) _ ReadLast ReadLast (order_or_malformed offset (change (without_feed payload))) (λ w command last. last)

order_further : (offset : ℕ) → EntriesFirst false (taking_further offset) ReadLast
unfolding taking_further ReadLast EntriesFirst
order_further offset =
    order_then false (next_packet offset) _ ReadLast ReadLast (order_next false offset)
    (λ w next last. rw last (order_then false (further_in offset next.0) _ ReadLast ReadLast (order_further_in offset next.0) (λ w' command last'. last')))

order_no_more : (next : Option Command) → EntriesFirst false (no_more next) ReadLast
unfolding EntriesFirst ◌>>=◌ write refuse ReadLast
order_no_more None = refl
order_no_more (Some command) = tt

order_up_to_flush : (rest : Interaction SessionEnd (List Command)) → EntriesFirst false rest ReadLast → (next : Option Command) → EntriesFirst false (up_to_flush rest next) ReadLast
unfolding EntriesFirst ReadLast
order_up_to_flush rest ordered None = refl
order_up_to_flush rest ordered (Some command) = order_then false rest _ ReadLast ReadLast ordered (λ w commands last. last)

order_rest : (left offset : ℕ) → EntriesFirst false (taking_rest left offset) ReadLast
unfolding taking_rest ReadLast
order_rest zero offset = order_then false (taking_further offset) _ ReadLast ReadLast (order_further offset) (λ w next last. rw last (order_no_more next.0))
order_rest (suc left) offset =
    order_then false (taking_further offset) _ ReadLast ReadLast (order_further offset) (λ w next last. rw last (order_up_to_flush (taking_rest left next.1) (order_rest left next.1) next.0))

order_commands : (first : Command) (offset : ℕ) → EntriesFirst false (taking_commands first offset) ReadLast
unfolding EntriesFirst taking_commands ReadLast
order_commands first offset = order_then false (taking_rest 9999 offset) _ ReadLast ReadLast (order_rest 9999 offset) (λ w rest last. last)

order_pack_in : (caps : Capabilities) (commands : List Command) (found : Result (List Content) PackFault) → EntriesFirst false (pack_in caps commands found) ReadLast
unfolding EntriesFirst ◌>>=◌ write refusing_pack ReadLast
order_pack_in caps commands (Ok objects) = refl
order_pack_in caps commands (Err fault) = tt

order_reading : (caps : Capabilities) (commands : List Command) → EntriesFirst false (reading_pack caps commands) ReadLast
unfolding EntriesFirst ◌>>=◌ read reading_pack
order_reading caps commands = λ reply. order_pack_in caps commands reply.found

order_unless : (none : Bool) (caps : Capabilities) (commands : List Command) → EntriesFirst false (pack_unless none caps commands) ReadLast
unfolding EntriesFirst ReadLast
order_unless true caps commands = refl
order_unless false caps commands = order_reading caps commands

order_pack : (caps : Capabilities) (commands : List Command) → EntriesFirst false (taking_pack caps commands) ReadLast
unfolding taking_pack
order_pack caps commands = order_unless (all_delete commands) caps commands

order_pushing : (book : Rulebook) (opening : Opening) (caps : Capabilities) (commands : List Command) (pack : List Content) → EntriesFirst false (pushing book opening caps commands pack) (λ w a. ⊤)
unfolding EntriesFirst ◌>>=◌ ask write pushing
order_pushing book opening caps commands pack = (refl, λ own. tt)

order_push : (book : Rulebook) (opening : Opening) (caps : Capabilities) (first : Command) (offset : ℕ) → EntriesFirst false (taking_push book opening caps first offset) (λ w a. ⊤)
unfolding taking_push ReadLast
order_push book opening caps first offset =
    order_then false (taking_commands first offset) _ ReadLast _ (order_commands first offset)
    (λ w commands last. rw last (order_then false (taking_pack caps commands) _ ReadLast _ (order_pack caps commands) (λ w' pack last'. rw last' (order_pushing book opening caps commands pack))))

order_commanded : (book : Rulebook) (opening : Opening) (offset : ℕ) (packet : packets.Packet) (behind : ℕ) → EntriesFirst false (commanded book opening offset packet behind) (λ w a. ⊤)
unfolding EntriesFirst ReadLast
order_commanded book opening offset packets.Flush behind = tt
order_commanded book opening offset (packets.Line payload) behind =
    let line = without_feed payload in
    let first : Option Command = first_command line in
    order_then false (or_malformed offset first) _ ReadLast _ (order_or_malformed offset first) (λ w c last. rw last (order_push book opening (first_capabilities line) c behind))

pub order_commanding : (book : Rulebook) (wrote : Bool) (opening : Opening) (offset : ℕ) → EntriesFirst wrote (commanding book opening offset) (λ w a. ⊤)
unfolding commanding ReadLast
order_commanding book wrote opening offset = order_then wrote (next_packet offset) _ ReadLast _ (order_next wrote offset) (λ w next last. rw last (order_commanded book opening offset next.0 next.1))

pub order_receiving : (book : Rulebook) (opening : Opening) (offset : ℕ) → EntriesFirst false (receiving book opening offset) (λ w a. ⊤)
unfolding EntriesFirst ◌>>=◌ write receiving
order_receiving book opening offset = order_commanding book true opening offset
