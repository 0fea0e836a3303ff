-- A fetch makes no entry, and so none between what is written and what is read next.
use Rattle.std.proofs.Common.{ℕ, zero, suc, Bool, true, false, cond, List, [], ◌∷◌, ◌++◌, Option, None, Some}
use Rattle.std.specs.Bool.{⊤}
use Rattle.pktline_core.specs.Packets as packets
use Rattle.git_object.specs.Content.{Content}
use Rattle.git_object.specs.declared.object_id.ObjectId.{ObjectId}
use Rattle.ref_store.specs.Store.{Store}
use Rattle.hub_history.specs.Opening.{Opening}
use Rattle.hub_history.specs.State.{store_of}
use Rattle.interaction_tree.specs.Interaction.{Interaction, gives, ◌>>=◌, write}
use Rattle.interaction_tree.specs.Order.{EntriesFirst, IsOrdered}
use Rattle.interaction_tree.proofs.OrderLemmas.{order_then}
use Rattle.session_core.specs.declared.end.SessionEnd.{SessionEnd}
use Rattle.session_core.specs.FirstPacket.{without_feed}
use Rattle.session_core.specs.Packets.{malformed, next_packet, or_malformed, refuse}
use Rattle.session_core.proofs.OrderLemmas.{order_next}
use Rattle.upload_pack.specs.declared.haves.Inquiry.{Inquiry}
use Rattle.upload_pack.specs.declared.haves.Inquiry.TheVariants.{Have}
use Rattle.upload_pack.specs.declared.uploading.FetchEnd.{FetchEnd}
use Rattle.upload_pack.specs.Lines.{first_want, have, is_done, want}
use Rattle.upload_pack.specs.Wants.{by_want, not_ours, taking_want, taking_wants, too_many_wants, want_in}
use Rattle.upload_pack.specs.Haves.{common_after, ending_haves, inquiry_in, inquiry_in_line, replying, taking_haves, taking_inquiry, too_many_haves, unless_done}
use Rattle.upload_pack.specs.Uploading.{fetching, refusing_want, serving, unless_foreign, uploading, wanted, wanting}

-- whatever was written, and whatever is given
unfoldable pub Always : {A : Type 0} → Bool → A → Type 0
Always wrote a = ⊤

order_or_malformed : {A : Type 0} (wrote : Bool) (offset : ℕ) (a : Option A) → EntriesFirst wrote (or_malformed offset a) Always
unfolding EntriesFirst ◌>>=◌ write refuse malformed Always
order_or_malformed wrote offset None = tt
order_or_malformed wrote offset (Some a) = tt

order_want_in : (wrote : Bool) (offset : ℕ) (packet : packets.Packet) → EntriesFirst wrote (want_in offset packet) Always
unfolding EntriesFirst Always
order_want_in wrote offset packets.Flush = tt
order_want_in wrote offset (packets.Line payload) = order_then wrote (or_malformed offset (want (without_feed payload))) _ Always Always (order_or_malformed wrote offset (want (without_feed payload))) (λ w id kept. tt)

order_want : (wrote : Bool) (offset : ℕ) → EntriesFirst wrote (taking_want offset) Always
unfolding taking_want EntriesFirst Always
order_want wrote offset = order_then wrote (next_packet offset) _ _ Always (order_next wrote offset) (λ w next last. order_then w (want_in offset next.0) _ Always Always (order_want_in w offset next.0) (λ w' id kept. tt))

order_by_want : (wrote : Bool) (more : List ObjectId → ℕ → Interaction SessionEnd (List ObjectId × ℕ)) (wants : List ObjectId) (next : Option ObjectId × ℕ)
    → ((all : List ObjectId) (behind : ℕ) → EntriesFirst wrote (more all behind) Always) → EntriesFirst wrote (by_want more wants next) Always
unfolding EntriesFirst Always
order_by_want wrote more wants (None, behind) ordered = tt
order_by_want wrote more wants (Some id, behind) ordered = ordered (wants ++ id ∷ []) behind

order_too_many_wants : (wrote : Bool) → EntriesFirst {A = List ObjectId × ℕ} wrote too_many_wants Always
unfolding EntriesFirst ◌>>=◌ write refuse too_many_wants
order_too_many_wants wrote = tt

order_wants : (wrote : Bool) (left : ℕ) (wants : List ObjectId) (offset : ℕ) → EntriesFirst wrote (taking_wants left wants offset) Always
unfolding taking_wants
order_wants wrote zero wants offset = order_then wrote (taking_want offset) _ Always Always (order_want wrote offset) (λ w next kept. order_by_want w (λ all behind. too_many_wants) wants next (λ all behind. order_too_many_wants w))
order_wants wrote (suc left) wants offset = order_then wrote (taking_want offset) _ Always Always (order_want wrote offset) (λ w next kept. order_by_want w (taking_wants left) wants next (λ all behind. order_wants w left all behind))

order_inquiry_line : (wrote : Bool) (offset : ℕ) (line : List ℕ) → EntriesFirst wrote (inquiry_in_line offset line) Always
unfolding EntriesFirst Always
order_inquiry_line wrote offset line = by_test (is_done line)
  where
    by_test : (b : Bool) → EntriesFirst wrote (cond b (gives None) (or_malformed offset (have line) >>= λ id. gives (Some (Have id)))) Always
    by_test true = tt
    by_test false = order_then wrote (or_malformed offset (have line)) _ Always Always (order_or_malformed wrote offset (have line)) (λ w id kept. tt)

order_inquiry_in : (wrote : Bool) (offset : ℕ) (packet : packets.Packet) → EntriesFirst wrote (inquiry_in offset packet) Always
unfolding EntriesFirst Always
order_inquiry_in wrote offset packets.Flush = tt
order_inquiry_in wrote offset (packets.Line payload) = order_inquiry_line wrote offset (without_feed payload)

order_inquiry : (wrote : Bool) (offset : ℕ) → EntriesFirst wrote (taking_inquiry offset) Always
unfolding taking_inquiry EntriesFirst Always
order_inquiry wrote offset = order_then wrote (next_packet offset) _ _ Always (order_next wrote offset) (λ w next last. order_then w (inquiry_in offset next.0) _ Always Always (order_inquiry_in w offset next.0) (λ w' inquiry kept. tt))

order_unless_done : (wrote : Bool) (more : Inquiry → Interaction SessionEnd (List ObjectId)) (common : List ObjectId) (next : Option Inquiry) → ((inquiry : Inquiry) → EntriesFirst wrote (more inquiry) Always) → EntriesFirst wrote (unless_done more common next) Always
unfolding EntriesFirst ◌>>=◌ write ending_haves Always
order_unless_done wrote more common None ordered = tt
order_unless_done wrote more common (Some inquiry) ordered = ordered inquiry

order_replying : (wrote : Bool) (more : List ObjectId → Interaction SessionEnd (List ObjectId)) (objects : List Content) (common : List ObjectId) (inquiry : Inquiry)
    → ((w : Bool) (all : List ObjectId) → EntriesFirst w (more all) Always) → EntriesFirst wrote (replying more objects common inquiry) Always
unfolding EntriesFirst ◌>>=◌ write replying
order_replying wrote more objects common inquiry ordered = ordered true (common_after objects common inquiry)

order_too_many_haves : (wrote : Bool) → EntriesFirst {A = List ObjectId} wrote too_many_haves Always
unfolding EntriesFirst ◌>>=◌ write refuse too_many_haves
order_too_many_haves wrote = tt

order_haves : (wrote : Bool) (objects : List Content) (left : ℕ) (common : List ObjectId) (offset : ℕ) → EntriesFirst wrote (taking_haves objects left common offset) Always
unfolding taking_haves
order_haves wrote objects zero common offset =
    order_then wrote (taking_inquiry offset) _ Always Always (order_inquiry wrote offset) (λ w next kept. order_unless_done w (λ inquiry. too_many_haves) common next.0 (λ inquiry. order_too_many_haves w))
order_haves wrote objects (suc left) common offset =
    order_then wrote (taking_inquiry offset) _ Always Always (order_inquiry wrote offset)
    (λ w next kept. order_unless_done w (replying (λ all. taking_haves objects left all next.1) objects common) common next.0
    (λ inquiry. order_replying w (λ all. taking_haves objects left all next.1) objects common inquiry (λ w' all. order_haves w' objects left all next.1)))

order_serving : (wrote : Bool) (store : Store) (wants : List ObjectId) (offset : ℕ) → EntriesFirst wrote (serving store wants offset) Always
unfolding EntriesFirst ◌>>=◌ write serving Always
order_serving wrote store wants offset = order_then wrote (taking_haves store.objects 100000 [] offset) _ Always Always (order_haves wrote store.objects 100000 [] offset) (λ w common kept. tt)

order_unless_foreign : (wrote : Bool) (served : Interaction SessionEnd FetchEnd) (foreign : Option ObjectId) → EntriesFirst wrote served Always → EntriesFirst wrote (unless_foreign served foreign) Always
unfolding EntriesFirst ◌>>=◌ write refusing_want Always
order_unless_foreign wrote served None ordered = ordered
order_unless_foreign wrote served (Some id) ordered = tt

order_fetching : (wrote : Bool) (store : Store) (first : ObjectId) (offset : ℕ) → EntriesFirst wrote (fetching store first offset) Always
unfolding fetching
order_fetching wrote store first offset =
    order_then wrote (taking_wants 9999 (first ∷ []) offset) _ Always Always (order_wants wrote 9999 (first ∷ []) offset)
    (λ w wants kept. order_unless_foreign w (serving store wants.0 wants.1) (not_ours store wants.0) (order_serving w store wants.0 wants.1))

order_wanted : (wrote : Bool) (store : Store) (offset : ℕ) (packet : packets.Packet) (behind : ℕ) → EntriesFirst wrote (wanted store offset packet behind) Always
unfolding EntriesFirst Always
order_wanted wrote store offset packets.Flush behind = tt
order_wanted wrote store offset (packets.Line payload) behind = order_then wrote (or_malformed offset (first_want (without_feed payload))) _ Always Always (order_or_malformed wrote offset (first_want (without_feed payload))) (λ w first kept. order_fetching w store first behind)

pub order_wanting : (wrote : Bool) (store : Store) (offset : ℕ) → EntriesFirst wrote (wanting store offset) Always
unfolding wanting
order_wanting wrote store offset = order_then wrote (next_packet offset) _ _ Always (order_next wrote offset) (λ w next last. order_wanted w store offset next.0 next.1)

pub order_uploading : (opening : Opening) (offset : ℕ) → EntriesFirst false (uploading opening offset) (λ w a. ⊤)
unfolding EntriesFirst ◌>>=◌ write uploading Always
order_uploading opening offset = order_wanting true (store_of opening.pinned.repository) offset

pub wanting_ordered : (store : Store) (offset : ℕ) → IsOrdered (wanting store offset)
unfolding Always
wanting_ordered store offset = order_wanting false store offset
