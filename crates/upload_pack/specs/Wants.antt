-- What a client wants, as an interaction.
use Rattle.std.specs.Prelude.{ℕ, zero, suc, not, List, [], ◌∷◌, ◌++◌, find, Option, Some, None, codes}
use Rattle.std.specs.List.{list_any}
use Rattle.pktline_core.specs.Packets as packets
use Rattle.git_object.specs.ObjectId.{hex_of}
use Rattle.git_object.specs.declared.object_id.ObjectId.{ObjectId}
use Rattle.ref_store.specs.Objects.{same_id}
use Rattle.ref_store.specs.Store.{Store}
use Rattle.interaction_tree.specs.Interaction.{Interaction, gives, ◌>>=◌}
use Rattle.session_core.specs.declared.end.SessionEnd.{SessionEnd}
use Rattle.session_core.specs.declared.end.SessionEnd.TheVariants as end
use Rattle.session_core.specs.FirstPacket.{without_feed}
use Rattle.session_core.specs.Packets.{next_packet, or_malformed, refuse}
use Rattle.upload_pack.specs.Advertising.{advertised_ids}
use Rattle.upload_pack.specs.Lines.{want}

-- a want behind the first, in the packet at this offset; a flush gives none
abbrev pub want_in : ℕ → packets.Packet → Interaction SessionEnd (Option ObjectId)
want_in offset packets.Flush = gives None
want_in offset (packets.Line payload) = do
  id ← or_malformed offset (want (without_feed payload))
  gives (Some id)

-- one want more, or the flush that ends them, and the offset behind it
unfoldable pub taking_want : ℕ → Interaction SessionEnd (Option ObjectId × ℕ)
taking_want offset = do
  next ← next_packet offset
  id ← want_in offset next.0
  gives (id, next.1)

-- Behind these wants there is one more, or there are no more.
abbrev pub by_want : (List ObjectId → ℕ → Interaction SessionEnd (List ObjectId × ℕ)) → List ObjectId → Option ObjectId × ℕ → Interaction SessionEnd (List ObjectId × ℕ)
by_want more wants (None, behind) = gives (wants, behind)
by_want more wants (Some id, behind) = more (wants ++ id ∷ []) behind

-- behind 10,000 wants there may be no other
unfoldable pub too_many_wants : {A : Type 0} → Interaction SessionEnd A
too_many_wants = refuse (codes "ERR too long") (end.TooLong 10001)

-- Behind these wants so many may still come, up to the flush that ends them. It gives all of them, and the
-- offset behind the flush.
unfoldable pub taking_wants : ℕ → List ObjectId → ℕ → Interaction SessionEnd (List ObjectId × ℕ)
taking_wants zero wants offset = do
  next ← taking_want offset
  by_want (λ all behind. too_many_wants) wants next
taking_wants (suc left) wants offset = do
  next ← taking_want offset
  by_want (taking_wants left) wants next

-- the first want that is no id of the advertisement
abbrev pub first_foreign : List ObjectId → List ObjectId → Option ObjectId
first_foreign ours wants = find (λ id. not (list_any (same_id id) ours)) wants

abbrev pub not_ours : Store → List ObjectId → Option ObjectId
not_ours store wants = first_foreign (advertised_ids store) wants

abbrev pub not_our_ref : ObjectId → List ℕ
not_our_ref id = codes "ERR upload-pack: not our ref " ++ hex_of id
