-- A fetch, as an interaction: what follows an opening for reading.
use Rattle.std.specs.Prelude.{ℕ, List, [], ◌∷◌, Option, None, Some}
use Rattle.pktline_core.specs.Packets as packets
use Rattle.git_object.specs.declared.object_id.ObjectId.{ObjectId}
use Rattle.ref_store.specs.Store.{Store}
use Rattle.hub_history.specs.Opening.{Opening}
use Rattle.hub_history.specs.State.{store_of}
use Rattle.interaction_tree.specs.Interaction.{Interaction, gives, ◌>>=◌, write}
use Rattle.session_core.specs.declared.end.SessionEnd.{SessionEnd}
use Rattle.session_core.specs.declared.end.SessionEnd.TheVariants as end
use Rattle.session_core.specs.FirstPacket.{without_feed}
use Rattle.session_core.specs.Packets.{next_packet, or_malformed, packet}
use Rattle.upload_pack.specs.declared.uploading.FetchEnd.{FetchEnd}
use Rattle.upload_pack.specs.declared.uploading.FetchEnd.TheVariants.{Served, NotOurRef}
use Rattle.upload_pack.specs.Advertising.{advertisement}
use Rattle.upload_pack.specs.Lines.{first_want}
use Rattle.upload_pack.specs.Wants.{not_our_ref, not_ours, taking_wants}
use Rattle.upload_pack.specs.Haves.{taking_haves}
use Rattle.upload_pack.specs.Sending.{pack_bytes}

-- the haves from this offset on, and the pack of what is wanted and isn't reached from what is common
unfoldable pub serving : Store → List ObjectId → ℕ → Interaction SessionEnd FetchEnd
serving store wants offset = do
  common ← taking_haves store.objects 100000 [] offset
  said ← write (pack_bytes store.objects wants common)
  gives Served

-- a last packet
unfoldable pub refusing_want : ObjectId → Interaction SessionEnd FetchEnd
refusing_want id = do
  said ← write (packet (not_our_ref id))
  gives (NotOurRef id)

-- where each want is advertised it is served
abbrev pub unless_foreign : Interaction SessionEnd FetchEnd → Option ObjectId → Interaction SessionEnd FetchEnd
unless_foreign served None = served
unless_foreign served (Some id) = refusing_want id

-- the wants behind the first, and what follows the flush that ends them
unfoldable pub fetching : Store → ObjectId → ℕ → Interaction SessionEnd FetchEnd
fetching store first offset = do
  wants ← taking_wants 9999 (first ∷ []) offset
  unless_foreign (serving store wants.0 wants.1) (not_ours store wants.0)

-- the packet behind the advertisement, at this offset, and the offset behind it: a flush in place of wants
-- ends the session
abbrev pub wanted : Store → ℕ → packets.Packet → ℕ → Interaction SessionEnd FetchEnd
wanted store offset packets.Flush behind = gives Served
wanted store offset (packets.Line payload) behind = do
  first ← or_malformed offset (first_want (without_feed payload))
  fetching store first behind

unfoldable pub wanting : Store → ℕ → Interaction SessionEnd FetchEnd
wanting store offset = do
  next ← next_packet offset
  wanted store offset next.0 next.1

-- what follows an opening at this offset: the advertisement of what it pinned, and then the wants
unfoldable pub uploading : Opening → ℕ → Interaction SessionEnd FetchEnd
uploading opening offset = do
  advertised ← write (advertisement (store_of opening.pinned.repository))
  wanting (store_of opening.pinned.repository) offset

-- how a fetch ends its session
abbrev pub fetched_end : FetchEnd → SessionEnd
fetched_end Served = end.Served
fetched_end (NotOurRef id) = end.NotOurRef id
