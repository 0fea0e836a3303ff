-- A packet read in two parts: its digits, and its payload.
use Rattle.std.proofs.Common.{◌≡◌, ℕ, ◌+◌, ◌<◌, List, [], ◌++◌, length, take, Some, Ok, Err, sym, ◌∙◌, ap, arith, length-append}
use Rattle.std.proofs.lemmas.List.{take_all, length-take-le, append-nil}
use Rattle.base_types.specs.Fronts.{Whole, Broken, Partial}
use Rattle.pktline_core.specs.LinkState.{LinkState}
use Rattle.pktline_core.specs.Links.{IsLater, TakesAll}
use Rattle.pktline_core.specs.Packets.{Packet, number_of, packet_front}
use Rattle.pktline_core.specs.Packets as packet
use Rattle.pktline_core.specs.Reading.{Decides, ReadsPacket}
use Rattle.pktline_core.specs.Faults.{fault_of_take}
use Rattle.pktline_core.specs.Heads.{ReadsHead}
use Rattle.pktline_core.specs.declared.reading.Head.TheVariants.{Line, Flush}
use Rattle.pktline_core.specs.declared.links.TakeFault.{TakeFault}
use Rattle.pktline_core.specs.declared.links.TakeFault.TheVariants.{Ended, Failed}
use Rattle.pktline_core.specs.declared.packets.PktFault.{PktFault}
use Rattle.pktline_core.specs.declared.packets.PktFault.TheVariants.{Truncated, BadLength, ReadFault}
use Rattle.pktline_core.proofs.LinkLemmas.{consumes_more, risen_later}
use Rattle.pktline_core.proofs.FrontLemmas.{front-short, front-flush, front-no_length, front-part, front-line}

-- digits that say no line decide alone
head_decides : (old new : LinkState) (taken : List ℕ) (fault : PktFault) → (head : ReadsHead old new (Err fault)) → Decides head.taken old new (Err fault)
head_decides old new taken Truncated head = (front-short head.taken head.says.0, head.says.1)
head_decides old new taken BadLength head =
    ap packet_front (sym (append-nil head.taken)) ∙ front-no_length head.taken [] head.says.0 head.says.1 ∙ ap (λ (n : ℕ). Broken n BadLength) (sym head.says.0)
head_decides old new taken ReadFault head = (front-short head.taken head.says.0, head.says.1, head.says.2)

pub fault_read : (old new : LinkState) (fault : PktFault) → ReadsHead old new (Err fault) → ReadsPacket old new (Err fault)
fault_read old new fault head = record { taken = head.taken; consumed = head.consumed; counted = head.counted; decided = head_decides old new head.taken fault head }

pub flush_read : (old new : LinkState) → ReadsHead old new (Ok Flush) → ReadsPacket old new (Ok packet.Flush)
flush_read old new head = record {
  taken = head.taken;
  consumed = head.consumed;
  counted = head.counted;
  decided = ap packet_front (sym (append-nil head.taken)) ∙ front-flush head.taken [] head.says.0 head.says.1 ∙ ap (λ (n : ℕ). Whole n packet.Flush) (sym head.says.0);
}

module _ (old mid new : LinkState) (size : ℕ) (room : List ℕ) (head : ReadsHead old mid (Ok (Line size))) (later : IsLater old mid) (sized : length room ≡ size) where
  pub line_read : (payload : List ℕ) → TakesAll mid new room (Ok tt) → payload ≡ room → ReadsPacket old new (Ok (packet.Line payload))
  line_read payload fill is =
      let whole : take fill.n room ≡ payload = take_all fill.n room (omega (arith, fill.ended)) ∙ sym is in
      let len : length payload ≡ size = ap length is ∙ sized in
      let total : length (head.taken ++ payload) ≡ length payload + 4 = omega (arith, length-append head.taken payload, head.says.0) in
      record {
        taken = head.taken ++ payload;
        consumed = rw whole at (consumes_more old.left mid.left new.left head.taken (take fill.n room) head.consumed fill.consumed);
        counted = omega (arith, head.counted, fill.counted, fill.ended, length-append head.taken payload, len, sized);
        decided =
            ap (λ (l : List ℕ). packet_front (head.taken ++ l)) (sym (append-nil payload))
            ∙ front-line head.taken payload [] head.says.0 (head.says.1 ∙ ap (λ (n : ℕ). Some (n + 4)) (sym len)) (omega (arith, head.says.2, len))
            ∙ ap (λ (n : ℕ). Whole n (packet.Line payload)) (sym total);
      }

  cut : (n : ℕ) → n < length room → length (take n room) ≡ n → packet_front (head.taken ++ take n room) ≡ Partial Truncated
  cut n less len = front-part head.taken (take n room) head.says.0 (size + 4) head.says.1 (omega arith) (omega (arith, head.says.2)) (omega (arith, len, sized, less))

  cut_taken : (cause : TakeFault) (fault : PktFault) → (fill : TakesAll mid new room (Err cause)) → Decides (head.taken ++ take fill.n room) old new (Err fault) → ReadsPacket old new (Err fault)
  cut_taken cause fault fill decided = record {
    taken = head.taken ++ take fill.n room;
    consumed = consumes_more old.left mid.left new.left head.taken (take fill.n room) head.consumed fill.consumed;
    counted = omega (arith, head.counted, fill.counted, length-append head.taken (take fill.n room), length-take-le fill.n room fill.within);
    decided = decided;
  }

  pub line_cut : (cause : TakeFault) → TakesAll mid new room (Err cause) → ReadsPacket old new (Err (fault_of_take cause))
  line_cut Ended fill = cut_taken Ended Truncated fill (cut fill.n fill.ended.0 (length-take-le fill.n room fill.within), fill.ended.1)
  line_cut Failed fill = cut_taken Failed ReadFault fill
      (cut fill.n fill.ended.0 (length-take-le fill.n room fill.within), risen_later old.read_faults mid.read_faults new.read_faults later.read_faults fill.ended.1, rw later.may_fail at fill.ended.2)
