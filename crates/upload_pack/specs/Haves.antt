-- What a client has of what the server has, as an interaction.
use Rattle.std.specs.Prelude.{ℕ, zero, suc, List, [], ◌∷◌, ◌++◌, Option, Some, None, codes, if◌then◌else◌}
use Rattle.pktline_core.specs.Packets as packets
use Rattle.git_object.specs.Content.{Content}
use Rattle.git_object.specs.ObjectId.{hex_of}
use Rattle.git_object.specs.declared.object_id.ObjectId.{ObjectId}
use Rattle.ref_store.specs.Objects.{has_object}
use Rattle.interaction_tree.specs.Interaction.{Interaction, gives, ◌>>=◌, write}
use Rattle.session_core.specs.declared.end.SessionEnd.{SessionEnd}
use Rattle.session_core.specs.declared.end.SessionEnd.TheVariants as end
use Rattle.session_core.specs.FirstPacket.{without_feed}
use Rattle.session_core.specs.Packets.{next_packet, or_malformed, packet, refuse}
use Rattle.upload_pack.specs.declared.haves.Inquiry.{Inquiry}
use Rattle.upload_pack.specs.declared.haves.Inquiry.TheVariants.{Have, Flush}
use Rattle.upload_pack.specs.Lines.{have, is_done}

-- I. What the client asks

-- a have, or none at `done`, in the line at this offset
abbrev pub inquiry_in_line : ℕ → List ℕ → Interaction SessionEnd (Option Inquiry)
inquiry_in_line offset line = if is_done line then gives None else do
  id ← or_malformed offset (have line)
  gives (Some (Have id))

abbrev pub inquiry_in : ℕ → packets.Packet → Interaction SessionEnd (Option Inquiry)
inquiry_in offset packets.Flush = gives (Some Flush)
inquiry_in offset (packets.Line payload) = inquiry_in_line offset (without_feed payload)

-- a have or a flush, or none at `done`, and the offset behind it
unfoldable pub taking_inquiry : ℕ → Interaction SessionEnd (Option Inquiry × ℕ)
taking_inquiry offset = do
  next ← next_packet offset
  inquiry ← inquiry_in offset next.0
  gives (inquiry, next.1)

-- II. What is replied

abbrev pub ack : ObjectId → List ℕ
ack id = codes "ACK " ++ hex_of id ++ 10 ∷ []

-- of a common object, where these were common before: the first is acknowledged, and no other
abbrev pub acknowledgement : List ObjectId → ObjectId → List ℕ
acknowledgement [] id = packet (ack id)
acknowledgement (one ∷ common) id = []

-- that nothing is common, while it is so
abbrev pub no_acknowledgement : List ObjectId → List ℕ
no_acknowledgement [] = packet (codes "NAK\n")
no_acknowledgement (one ∷ common) = []

-- a have is common where the repository has the object
abbrev pub reply : List Content → List ObjectId → Inquiry → List ℕ
reply objects common (Have id) = if has_object objects id then acknowledgement common id else []
reply objects common Flush = no_acknowledgement common

-- what is common then
abbrev pub common_after : List Content → List ObjectId → Inquiry → List ObjectId
common_after objects common (Have id) = if has_object objects id then common ++ id ∷ [] else common
common_after objects common Flush = common

-- III. All of them

-- behind `done`
unfoldable pub ending_haves : List ObjectId → Interaction SessionEnd (List ObjectId)
ending_haves common = do
  said ← write (no_acknowledgement common)
  gives common

-- a reply, and then what follows where these are common
unfoldable pub replying : (List ObjectId → Interaction SessionEnd (List ObjectId)) → List Content → List ObjectId → Inquiry → Interaction SessionEnd (List ObjectId)
replying more objects common inquiry = do
  said ← write (reply objects common inquiry)
  more (common_after objects common inquiry)

abbrev pub unless_done : (Inquiry → Interaction SessionEnd (List ObjectId)) → List ObjectId → Option Inquiry → Interaction SessionEnd (List ObjectId)
unless_done more common None = ending_haves common
unless_done more common (Some inquiry) = more inquiry

-- behind 100,000 haves and flushes there may be no other, and nothing is replied to it
unfoldable pub too_many_haves : {A : Type 0} → Interaction SessionEnd A
too_many_haves = refuse (codes "ERR too long") (end.TooLong 100001)

-- Where these are common so many haves and flushes may still come, up to `done`. It gives all that is common.
unfoldable pub taking_haves : List Content → ℕ → List ObjectId → ℕ → Interaction SessionEnd (List ObjectId)
taking_haves objects zero common offset = do
  next ← taking_inquiry offset
  unless_done (λ inquiry. too_many_haves) common next.0
taking_haves objects (suc left) common offset = do
  next ← taking_inquiry offset
  unless_done (replying (λ all. taking_haves objects left all next.1) objects common) common next.0
