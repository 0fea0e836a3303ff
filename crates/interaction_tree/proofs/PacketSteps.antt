-- A call of the reader of packets, by its answers, and the rest of an interaction.
use Rattle.std.proofs.Common.{◌≡◌, ℕ, ◌+◌, [], length, Result, Ok, Err, ◌∙◌, ap, subst}
use Rattle.pktline_core.specs.LinkState.{LinkState}
use Rattle.pktline_core.specs.Links.{IsLater, KeepsWriting}
use Rattle.pktline_core.specs.Packets as packets
use Rattle.pktline_core.specs.Reading.{ReadsPacket, packet_of, answer_of}
use Rattle.pktline_core.specs.declared.packets.Pkt.{Pkt}
use Rattle.pktline_core.specs.declared.packets.PktFault.{PktFault}
use Rattle.pktline_core.specs.declared.packets.PktFault.TheVariants.{Truncated, BadLength, ReadFault}
use Rattle.hub.specs.Desk.{DeskView}
use Rattle.interaction_tree.specs.Wanted.{Packet, Reply}
use Rattle.interaction_tree.specs.Interaction.{CutOff, Interaction, ◌>>=◌, read}
use Rattle.interaction_tree.specs.Traces.{Reading, Halt, Ended, Failed}
use Rattle.interaction_tree.specs.Runs.{Runs}
use Rattle.interaction_tree.specs.Steps.{packet_as}
use Rattle.interaction_tree.proofs.RunLemmas.{runs_bind, runs_halts}
use Rattle.interaction_tree.proofs.StepLemmas.{runs_packet}

module _ {E B : Type 0} (a b : LinkState) (d : DeskView) (cut : PktFault → CutOff E) (k : Reply Packet → Interaction E B) (result : Result Pkt PktFault)
    (r : ReadsPacket a b (answer_of result)) (keeps : KeepsWriting a b) (later : IsLater a b) (none : (cut Truncated).bytes ≡ []) where
  answered_as : (answer : Result packets.Packet PktFault) → answer_of result ≡ answer → (used : ℕ) → b.given ≡ a.given + used → Runs a b d d (read Packet cut) (packet_as cut used answer)
  answered_as answer is used count = runs_packet a b d keeps later cut used answer (subst (ReadsPacket a b) is r) count none

  -- the input ended inside it
  pub packet_cut : (fault : PktFault) → result ≡ Err fault → fault ≡ Truncated → Runs a b d d (read Packet cut >>= k) (Err (Ended (cut Truncated).end))
  packet_cut fault is which = runs_halts a b d d (read Packet cut) k (Ended (cut Truncated).end) (answered_as (Err Truncated) (ap answer_of (is ∙ ap (λ (f : PktFault). Err f) which)) (length r.taken) r.counted)

  -- a read failed inside it
  pub packet_failed : (fault : PktFault) → result ≡ Err fault → fault ≡ ReadFault → Runs a b d d (read Packet cut >>= k) (Err (Failed Reading))
  packet_failed fault is which = runs_halts a b d d (read Packet cut) k (Failed Reading) (answered_as (Err ReadFault) (ap answer_of (is ∙ ap (λ (f : PktFault). Err f) which)) (length r.taken) r.counted)

  module _ (c : LinkState) (e : DeskView) (out : Result B (Halt E)) (used : ℕ) (count : b.given ≡ a.given + used) where
    -- four bytes that are no length, and the rest
    pub packet_broken : (fault : PktFault) → result ≡ Err fault → fault ≡ BadLength → Runs b c d e (k (record { used = used; found = Err BadLength })) out → Runs a c d e (read Packet cut >>= k) out
    packet_broken fault is which rest =
        runs_bind a b c d d e (read Packet cut) (record { used = used; found = Err BadLength }) k out (answered_as (Err BadLength) (ap answer_of (is ∙ ap (λ (f : PktFault). Err f) which)) used count) rest

    -- a packet, and the rest
    pub packet_read : (pkt : Pkt) (packet : packets.Packet) → result ≡ Ok pkt → packet_of pkt ≡ packet → Runs b c d e (k (record { used = used; found = Ok packet })) out → Runs a c d e (read Packet cut >>= k) out
    packet_read pkt packet is which rest =
        runs_bind a b c d d e (read Packet cut) (record { used = used; found = Ok packet }) k out (answered_as (Ok packet) (ap answer_of is ∙ ap (λ (p : packets.Packet). Ok p) which) used count) rest
