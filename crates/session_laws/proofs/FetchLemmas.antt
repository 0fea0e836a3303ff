-- A fetch, from its first packet to its pack.
use Rattle.std.proofs.Common.{◌≡◌, ℕ, zero, suc, ◌+◌, ◌<◌, ◌≤◌, Bool, true, false, not, ◌==◌, if◌then◌else◌, List, [], ◌∷◌, ◌++◌, length, filter, Some, None, codes, refl, sym, ◌∙◌, ap, arith, append_assoc, append-nil, length-append}
use Rattle.std.specs.List.{flat_map, AllByRecursion}
use Rattle.git_object.specs.Content.{Content}
use Rattle.git_object.specs.ObjectId.{hex_of}
use Rattle.git_object.specs.Spelling.{IsId}
use Rattle.git_object.specs.declared.object_id.ObjectId.{ObjectId}
use Rattle.git_object.proofs.SpellingLemmas.{literal_again}
use Rattle.pktline_core.specs.Packets.{Line, spelling}
use Rattle.pktline_core.specs.Packets as packets
use Rattle.ref_store.specs.Objects.{has_object}
use Rattle.ref_store.specs.Refs.{Name}
use Rattle.ref_store.specs.Store.{Store}
use Rattle.access_check.specs.declared.verdicts.Want.TheVariants as want
use Rattle.hub_history.specs.Opening.{Opening}
use Rattle.hub_history.specs.Requests.{Enter}
use Rattle.hub_history.specs.State.{store_of}
use Rattle.interaction_tree.specs.Interaction.{Interaction, write}
use Rattle.interaction_tree.specs.Requests.{OwnEntry}
use Rattle.interaction_tree.specs.Turns.{Gave, Ended}
use Rattle.session_core.specs.declared.end.SessionEnd.{SessionEnd}
use Rattle.session_core.specs.declared.end.SessionEnd.TheVariants as end
use Rattle.session_core.specs.declared.first_packet.Service.TheVariants.{Upload}
use Rattle.session_core.specs.FirstPacket.{without_feed}
use Rattle.session_core.specs.Opening.{entering, opening_behind}
use Rattle.session_core.specs.Packets.{next_packet, or_malformed, packet}
use Rattle.session_core.specs.Rulebook.{Rulebook}
use Rattle.upload_pack.specs.Advertising.{advertisement}
use Rattle.upload_pack.specs.Haves.{ack, common_after, ending_haves, inquiry_in, no_acknowledgement, replying, reply, taking_haves, taking_inquiry}
use Rattle.upload_pack.specs.Lines.{first_want, have, id_behind, want as want_in_line}
use Rattle.upload_pack.specs.Sending.{pack_bytes}
use Rattle.upload_pack.specs.Uploading.{fetching, serving, uploading, wanted, wanting}
use Rattle.upload_pack.specs.Wants.{not_ours, taking_want, taking_wants, want_in}
use Rattle.upload_pack.specs.declared.haves.Inquiry.{Inquiry}
use Rattle.upload_pack.specs.declared.haves.Inquiry.TheVariants.{Have, Flush}
use Rattle.upload_pack.specs.declared.uploading.FetchEnd.TheVariants as fetch_end
use Rattle.git_session.specs.Session.{fetching_from, session}
use Rattle.session_laws.specs.Sending.{Asking, IsAsking, listing_text, Lacks, Fetching, IsFetching, IsInquiry, asking_for, fetch_text, first_want_text, inquiry_text, line, want_text, wants_of}
use Rattle.session_laws.specs.Laws.{IsLetIn, opened_at, haves_of, replies, fetched_pack, nothing_common, FetchesAreServed, FirstIsAcknowledged, NothingIsCommon, RefsAreListed}
use Rattle.session_laws.proofs.LineLemmas.{both_pass, feed_is_nothing}
use Rattle.session_laws.proofs.FirstLemmas.{fetch_asked, fits_line}
use Rattle.session_laws.proofs.CommandLemmas.{hex_id_again, hex_lacks, hex_length, spaced_lacks}
use Rattle.session_laws.proofs.PushLemmas.{entering_goes, listing_goes, session_goes}
use Rattle.session_laws.proofs.TurnLemmas.{Goes, gives_goes, goes_as, packet_goes, said_goes, then_gives, then_goes, write_goes}

-- ---- what is common

-- behind these haves and flushes
abbrev common_behind : List Content → List ObjectId → List Inquiry → List ObjectId
common_behind objects common [] = common
common_behind objects common (one ∷ inquiries) = common_behind objects (common_after objects common one) inquiries

common_is : (objects : List Content) (common : List ObjectId) (inquiries : List Inquiry) → common_behind objects common inquiries ≡ common ++ filter (has_object objects) (haves_of inquiries)
common_is objects common [] = sym (append-nil common)
common_is objects common (Flush ∷ inquiries) = common_is objects common inquiries
common_is objects common (Have id ∷ inquiries) =
    let more : List ObjectId = filter (has_object objects) (haves_of inquiries) in
    elim (has_object objects id) as (λ b. common_behind objects (if b then common ++ id ∷ [] else common) inquiries ≡ common ++ (if b then id ∷ more else more)) [
      | true ↦ common_is objects (common ++ id ∷ []) inquiries ∙ append_assoc common (id ∷ []) more
      | false ↦ common_is objects common inquiries
    ]

-- ---- lines of an id

id_again : (word : List ℕ) (id : ObjectId) (rest : List ℕ) → IsId id → id_behind word (word ++ (hex_of id ++ rest)) ≡ Some (id, rest)
unfolding id_behind
id_again word id rest is = rw (literal_again word (hex_of id ++ rest)) (hex_id_again id rest is)

alone : (word : List ℕ) (id : ObjectId) → IsId id → id_behind word (word ++ hex_of id) ≡ Some (id, [])
alone word id is = ap (λ (l : List ℕ). id_behind word (word ++ l)) (sym (append-nil (hex_of id))) ∙ id_again word id [] is

want_again : (id : ObjectId) → IsId id → want_in_line (want_text id) ≡ Some id
want_again id is = rw (alone (codes "want ") id is) refl

have_again : (id : ObjectId) → IsId id → have (codes "have " ++ hex_of id) ≡ Some id
have_again id is = rw (alone (codes "have ") id is) refl

first_again : (id : ObjectId) (words : List (List ℕ)) → IsId id → first_want (first_want_text id words) ≡ Some id
first_again id [] is =
    ap first_want (append-nil (want_text id)) ∙ rw (alone (codes "want ") id is) refl
first_again id (w ∷ words) is =
    let rest : List ℕ = w ++ flat_map (λ word. 32 ∷ word) words in
    ap first_want (append_assoc (codes "want ") (hex_of id) (32 ∷ rest)) ∙ rw (id_again (codes "want ") id (32 ∷ rest) is, literal_again (codes " ") rest) refl

id_lacks : (word : List ℕ) (id : ObjectId) → Lacks 10 word → IsId id → Lacks 10 (word ++ hex_of id)
id_lacks word id lacks is = both_pass (λ b. not (b == 10)) word (hex_of id) lacks (hex_lacks id 10 is refl)

id_fits : (word : List ℕ) (id : ObjectId) → length word ≤ 100 → IsId id → length (word ++ hex_of id) < 65516
id_fits word id few is = omega (arith, few, length-append word (hex_of id), hex_length id is)

-- ---- wants

wanted_goes : (offset : ℕ) (payload text : List ℕ) (id : ObjectId) → without_feed payload ≡ text → want_in_line text ≡ Some id → Goes (want_in offset (Line payload)) [] [] [] [] (Gave (Some id))
wanted_goes offset payload text id fed is =
    then_gives (or_malformed offset (want_in_line (without_feed payload))) _ [] [] [] [] id _ (said_goes offset (want_in_line (without_feed payload)) id (ap want_in_line fed ∙ is)) (gives_goes (Some id))

want_goes : (feed : Bool) (offset : ℕ) (id : ObjectId) → IsId id → Goes (taking_want offset) (line feed (want_text id)) [] [] [] (Gave (Some id, offset + length (line feed (want_text id))))
unfolding taking_want
want_goes feed offset id is =
    let payload : List ℕ = want_text id ++ (if feed then 10 ∷ [] else []) in
    let behind : ℕ = offset + length (line feed (want_text id)) in
    then_gives (next_packet offset) _ (line feed (want_text id)) [] [] [] (Line payload, behind) _ (packet_goes offset (Line payload) (fits_line feed (want_text id) (id_fits (codes "want ") id (omega arith) is)))
    (then_gives (want_in offset (Line payload)) _ [] [] [] [] (Some id) _ (wanted_goes offset payload (want_text id) id (feed_is_nothing feed (want_text id) (id_lacks (codes "want ") id refl is)) (want_again id is)) (gives_goes (Some id, behind)))

no_want_goes : (offset : ℕ) → Goes (taking_want offset) (spelling packets.Flush) [] [] [] (Gave (None, offset + length (spelling packets.Flush)))
unfolding taking_want
no_want_goes offset =
    then_gives (next_packet offset) _ (spelling packets.Flush) [] [] [] (packets.Flush, offset + length (spelling packets.Flush)) _ (packet_goes offset packets.Flush tt)
    (then_gives (want_in offset packets.Flush) _ [] [] [] [] None _ (gives_goes None) (gives_goes (None, offset + length (spelling packets.Flush))))

-- all wants, and some offset behind them
abbrev WantsGo : Bool → List ObjectId → List ObjectId → Interaction SessionEnd (List ObjectId × ℕ) → Type 0
WantsGo feed before ids t = (behind : ℕ) × Goes t (flat_map (λ id. line feed (want_text id)) ids ++ spelling packets.Flush) [] [] [] (Gave (before ++ ids, behind))

wants_go : (feed : Bool) (ids before : List ObjectId) (left offset : ℕ) → length ids ≤ left → AllByRecursion IsId ids → WantsGo feed before ids (taking_wants left before offset)
unfolding taking_wants
wants_go feed [] before zero offset few each =
    let behind : ℕ = offset + length (spelling packets.Flush) in
    (behind, then_gives (taking_want offset) _ (spelling packets.Flush) [] [] [] (None, behind) _ (no_want_goes offset) (rw (append-nil before) (gives_goes (before, behind))))
wants_go feed [] before (suc left) offset few each =
    let behind : ℕ = offset + length (spelling packets.Flush) in
    (behind, then_gives (taking_want offset) _ (spelling packets.Flush) [] [] [] (None, behind) _ (no_want_goes offset) (rw (append-nil before) (gives_goes (before, behind))))
wants_go feed (id ∷ ids) before zero offset few each = absurd (omega (arith, few))
wants_go feed (id ∷ ids) before (suc left) offset few each =
    let first : List ℕ = line feed (want_text id) in
    let more : List ℕ = flat_map (λ id. line feed (want_text id)) ids in
    let behind : ℕ = offset + length first in
    let ih = wants_go feed ids (before ++ id ∷ []) left behind (omega (arith, few)) each.1 in (
      ih.0,
      goes_as _ (first ++ (more ++ spelling packets.Flush)) ((first ++ more) ++ spelling packets.Flush) [] [] [] [] _ (sym (append_assoc first more (spelling packets.Flush))) refl
          (then_goes (taking_want offset) _ first (more ++ spelling packets.Flush) [] [] [] [] [] [] (Some id, behind) _ (want_goes feed offset id each.0)
          (rw (← append_assoc before (id ∷ []) ids) ih.1)),
    )

-- ---- haves

line_asks_goes : (offset : ℕ) (payload : List ℕ) (id : ObjectId) → without_feed payload ≡ codes "have " ++ hex_of id → IsId id → Goes (inquiry_in offset (Line payload)) [] [] [] [] (Gave (Some (Have id)))
line_asks_goes offset payload id fed is =
    rw fed
    (then_gives (or_malformed offset (have (codes "have " ++ hex_of id))) _ [] [] [] [] id _ (said_goes offset (have (codes "have " ++ hex_of id)) id (have_again id is)) (gives_goes (Some (Have id))))

inquiry_goes : (feed : Bool) (offset : ℕ) (one : Inquiry) → IsInquiry one → Goes (taking_inquiry offset) (inquiry_text feed one) [] [] [] (Gave (Some one, offset + length (inquiry_text feed one)))
unfolding taking_inquiry
inquiry_goes feed offset (Have id) is =
    let text : List ℕ = codes "have " ++ hex_of id in
    let payload : List ℕ = text ++ (if feed then 10 ∷ [] else []) in
    let behind : ℕ = offset + length (line feed text) in
    then_gives (next_packet offset) _ (line feed text) [] [] [] (Line payload, behind) _ (packet_goes offset (Line payload) (fits_line feed text (id_fits (codes "have ") id (omega arith) is)))
    (then_gives (inquiry_in offset (Line payload)) _ [] [] [] [] (Some (Have id)) _ (line_asks_goes offset payload id (feed_is_nothing feed text (id_lacks (codes "have ") id refl is)) is) (gives_goes (Some (Have id), behind)))
inquiry_goes feed offset Flush is =
    then_gives (next_packet offset) _ (spelling packets.Flush) [] [] [] (packets.Flush, offset + length (spelling packets.Flush)) _ (packet_goes offset packets.Flush tt)
    (then_gives (inquiry_in offset packets.Flush) _ [] [] [] [] (Some Flush) _ (gives_goes (Some Flush)) (gives_goes (Some Flush, offset + length (spelling packets.Flush))))

done_in_goes : (offset : ℕ) (payload : List ℕ) → without_feed payload ≡ codes "done" → Goes (inquiry_in offset (Line payload)) [] [] [] [] (Gave None)
done_in_goes offset payload fed = rw fed (gives_goes None)

done_goes : (feed : Bool) (offset : ℕ) → Goes (taking_inquiry offset) (line feed (codes "done")) [] [] [] (Gave (None, offset + length (line feed (codes "done"))))
unfolding taking_inquiry
done_goes feed offset =
    let payload : List ℕ = codes "done" ++ (if feed then 10 ∷ [] else []) in
    let behind : ℕ = offset + length (line feed (codes "done")) in
    then_gives (next_packet offset) _ (line feed (codes "done")) [] [] [] (Line payload, behind) _ (packet_goes offset (Line payload) (fits_line feed (codes "done") (omega arith)))
    (then_gives (inquiry_in offset (Line payload)) _ [] [] [] [] None _ (done_in_goes offset payload (feed_is_nothing feed (codes "done") refl)) (gives_goes (None, behind)))

ending_goes : (common : List ObjectId) → Goes (ending_haves common) [] [] [] (no_acknowledgement common) (Gave common)
unfolding ending_haves
ending_goes common = then_gives (write (no_acknowledgement common)) _ [] [] [] (no_acknowledgement common) tt _ (write_goes (no_acknowledgement common)) (gives_goes common)

haves_go : (feed : Bool) (objects : List Content) (inquiries : List Inquiry) (common : List ObjectId) (left offset : ℕ) → length inquiries ≤ left → AllByRecursion IsInquiry inquiries
    → Goes (taking_haves objects left common offset) (flat_map (inquiry_text feed) inquiries ++ line feed (codes "done")) [] [] (replies objects common inquiries) (Gave (common_behind objects common inquiries))
unfolding taking_haves replying
haves_go feed objects [] common zero offset few each =
    goes_as _ (line feed (codes "done") ++ []) (line feed (codes "done")) [] [] _ _ _ (append-nil (line feed (codes "done"))) refl
    (then_goes (taking_inquiry offset) _ (line feed (codes "done")) [] [] [] [] [] [] (no_acknowledgement common) (None, offset + length (line feed (codes "done"))) _ (done_goes feed offset) (ending_goes common))
haves_go feed objects [] common (suc left) offset few each =
    goes_as _ (line feed (codes "done") ++ []) (line feed (codes "done")) [] [] _ _ _ (append-nil (line feed (codes "done"))) refl
    (then_goes (taking_inquiry offset) _ (line feed (codes "done")) [] [] [] [] [] [] (no_acknowledgement common) (None, offset + length (line feed (codes "done"))) _ (done_goes feed offset) (ending_goes common))
haves_go feed objects (one ∷ inquiries) common zero offset few each = absurd (omega (arith, few))
haves_go feed objects (one ∷ inquiries) common (suc left) offset few each =
    let first : List ℕ = inquiry_text feed one in
    let more : List ℕ = flat_map (inquiry_text feed) inquiries in
    let last : List ℕ = line feed (codes "done") in
    let behind : ℕ = offset + length first in
    let next : List ObjectId = common_after objects common one in
    goes_as _ (first ++ (more ++ last)) ((first ++ more) ++ last) [] [] _ _ _ (sym (append_assoc first more last)) refl
    (then_goes (taking_inquiry offset) _ first (more ++ last) [] [] [] [] [] (reply objects common one ++ replies objects next inquiries) (Some one, behind) _ (inquiry_goes feed offset one each.0)
    (then_goes (write (reply objects common one)) _ [] (more ++ last) [] [] [] [] (reply objects common one) (replies objects next inquiries) tt _ (write_goes (reply objects common one))
    (haves_go feed objects inquiries next left behind (omega (arith, few)) each.1)))

-- ---- the fetch

module _ (fetch : Fetching) (is : IsFetching fetch) (store : Store) (ours : not_ours store (wants_of fetch) ≡ None) where
  said : List ℕ
  said = replies store.objects [] fetch.inquiries ++ pack_bytes store.objects (wants_of fetch) (common_behind store.objects [] fetch.inquiries)

  asked_haves : List ℕ
  asked_haves = flat_map (inquiry_text fetch.feed) fetch.inquiries ++ line fetch.feed (codes "done")

  further : List ℕ
  further = flat_map (λ id. line fetch.feed (want_text id)) fetch.others

  serving_goes : (offset : ℕ) → Goes (serving store (wants_of fetch) offset) asked_haves [] [] said (Gave fetch_end.Served)
  unfolding serving said asked_haves
  serving_goes offset =
      let common : List ObjectId = common_behind store.objects [] fetch.inquiries in
      let pack : List ℕ = pack_bytes store.objects (wants_of fetch) common in
      goes_as _ (asked_haves ++ []) asked_haves [] [] said said _ (append-nil asked_haves) refl
      (then_goes (taking_haves store.objects 100000 [] offset) _ asked_haves [] [] [] [] [] (replies store.objects [] fetch.inquiries) pack common _ (haves_go fetch.feed store.objects fetch.inquiries [] 100000 offset is.some is.inquiries)
      (then_gives (write pack) _ [] [] [] pack tt _ (write_goes pack) (gives_goes fetch_end.Served)))

  fetching_goes : (offset : ℕ) → Goes (fetching store fetch.first offset) ((further ++ spelling packets.Flush) ++ asked_haves) [] [] said (Gave fetch_end.Served)
  unfolding fetching further
  fetching_goes offset =
      let wants = wants_go fetch.feed fetch.others (fetch.first ∷ []) 9999 offset is.few is.others in
      then_goes (taking_wants 9999 (fetch.first ∷ []) offset) _ (further ++ spelling packets.Flush) asked_haves [] [] [] [] [] said (wants_of fetch, wants.0) _ wants.1
      (rw ours (serving_goes wants.0))

  asked_goes : (offset behind : ℕ) (payload : List ℕ) → without_feed payload ≡ first_want_text fetch.first fetch.words → Goes (wanted store offset (Line payload) behind) ((further ++ spelling packets.Flush) ++ asked_haves) [] [] said (Gave fetch_end.Served)
  asked_goes offset behind payload fed =
      then_goes (or_malformed offset (first_want (without_feed payload))) _ [] ((further ++ spelling packets.Flush) ++ asked_haves) [] [] [] [] [] said fetch.first _
      (said_goes offset (first_want (without_feed payload)) fetch.first (ap first_want fed ∙ first_again fetch.first fetch.words is.first)) (fetching_goes behind)

  first_lacks : Lacks 10 (first_want_text fetch.first fetch.words)
  first_lacks = both_pass (λ b. not (b == 10)) (want_text fetch.first) (flat_map (λ word. 32 ∷ word) fetch.words) (id_lacks (codes "want ") fetch.first refl is.first) (spaced_lacks fetch.words is.words)

  wanting_goes : (offset : ℕ) → Goes (wanting store offset) (line fetch.feed (first_want_text fetch.first fetch.words) ++ ((further ++ spelling packets.Flush) ++ asked_haves)) [] [] said (Gave fetch_end.Served)
  unfolding wanting
  wanting_goes offset =
      let text : List ℕ = first_want_text fetch.first fetch.words in
      let payload : List ℕ = text ++ (if fetch.feed then 10 ∷ [] else []) in
      let behind : ℕ = offset + length (line fetch.feed text) in
      then_goes (next_packet offset) _ (line fetch.feed text) ((further ++ spelling packets.Flush) ++ asked_haves) [] [] [] [] [] said (Line payload, behind) _ (packet_goes offset (Line payload) (fits_line fetch.feed text is.fits))
      (asked_goes offset behind payload (feed_is_nothing fetch.feed text first_lacks))

uploading_goes : (fetch : Fetching) (is : IsFetching fetch) (opening : Opening) (ours : not_ours (store_of opening.pinned.repository) (wants_of fetch) ≡ None) (offset : ℕ)
    → Goes (uploading opening offset) (line fetch.feed (first_want_text fetch.first fetch.words) ++ ((further fetch is (store_of opening.pinned.repository) ours ++ spelling packets.Flush) ++ asked_haves fetch is (store_of opening.pinned.repository) ours)) [] []
    (advertisement (store_of opening.pinned.repository) ++ said fetch is (store_of opening.pinned.repository) ours) (Gave fetch_end.Served)
unfolding uploading
uploading_goes fetch is opening ours offset =
    then_goes (write (advertisement (store_of opening.pinned.repository))) _ [] _ [] [] [] [] (advertisement (store_of opening.pinned.repository)) _ tt _ (write_goes (advertisement (store_of opening.pinned.repository)))
    (wanting_goes fetch is (store_of opening.pinned.repository) ours offset)

fetch_goes : (book : Rulebook) (admin : Name) (fetch : Fetching) (opened : OwnEntry) → IsFetching fetch → IsLetIn opened → not_ours (store_of (opened_at admin opened fetch.asking.repo)) (wants_of fetch) ≡ None
    → Goes (session book admin) (fetch_text fetch) (opened ∷ []) (Enter fetch.asking.user fetch.asking.repo want.Read ∷ [])
    (advertisement (store_of (opened_at admin opened fetch.asking.repo)) ++ (replies (opened_at admin opened fetch.asking.repo).objects [] fetch.inquiries ++ fetched_pack (opened_at admin opened fetch.asking.repo).objects fetch)) (Ended end.Served)
unfolding fetch_text fetching_from said asked_haves further
fetch_goes book admin fetch opened is let_in ours =
    let user : Name = fetch.asking.user in
    let repo : Name = fetch.asking.repo in
    let text : List ℕ = asking_for (codes "git-upload-pack") fetch.asking in
    let opening : Opening = opening_behind admin opened user repo want.Read in
    let store : Store = store_of opening.pinned.repository in
    let asks : List ℕ = line fetch.feed (first_want_text fetch.first fetch.words) in
    let wants : List ℕ = further fetch is store ours in
    let haves : List ℕ = asked_haves fetch is store ours in
    let start : List ℕ = line fetch.asking.feed text in
    goes_as _ (start ++ (asks ++ ((wants ++ spelling packets.Flush) ++ haves))) (fetch_text fetch) (opened ∷ []) _ _ _ _ (ap (λ (l : List ℕ). start ++ (asks ++ l)) (append_assoc wants (spelling packets.Flush) haves))
    (ap (λ (l : List ObjectId). advertisement store ++ (replies store.objects [] fetch.inquiries ++ pack_bytes store.objects (wants_of fetch) l)) (common_is store.objects [] fetch.inquiries))
    (session_goes book admin fetch.asking.feed text (record { user = user; service = Upload repo }) (asks ++ ((wants ++ spelling packets.Flush) ++ haves)) (opened ∷ []) _ _ (fetch_asked fetch.asking is.asking)
    (then_goes (entering book admin user repo want.Read) _ [] (asks ++ ((wants ++ spelling packets.Flush) ++ haves)) (opened ∷ []) [] (Enter user repo want.Read ∷ []) [] [] _ opening (Gave tt) (entering_goes book admin user repo want.Read opened let_in)
    (then_gives (uploading opening (0 + length start)) _ (asks ++ ((wants ++ spelling packets.Flush) ++ haves)) [] [] _ fetch_end.Served (Gave tt) (uploading_goes fetch is opening ours (0 + length start)) (gives_goes tt))))

pub fetches : FetchesAreServed
fetches book admin fetch opened is let_in ours extent more = (fetch_goes book admin fetch opened is let_in ours).goes extent more []

-- ---- a flush in place of wants

no_wants_go : (opening : Opening) (offset : ℕ) → Goes (uploading opening offset) (spelling packets.Flush) [] [] (advertisement (store_of opening.pinned.repository)) (Gave fetch_end.Served)
unfolding uploading wanting
no_wants_go opening offset =
    let refs : List ℕ = advertisement (store_of opening.pinned.repository) in
    goes_as _ (spelling packets.Flush) (spelling packets.Flush) [] [] (refs ++ []) refs (Gave fetch_end.Served) refl (append-nil refs)
    (then_goes (write refs) _ [] (spelling packets.Flush) [] [] [] [] refs [] tt (Gave fetch_end.Served) (write_goes refs)
    (then_gives (next_packet offset) _ (spelling packets.Flush) [] [] [] (packets.Flush, offset + length (spelling packets.Flush)) (Gave fetch_end.Served) (packet_goes offset packets.Flush tt) (gives_goes fetch_end.Served)))

listing_fetch : (book : Rulebook) (admin : Name) (asking : Asking) (opened : OwnEntry) → IsAsking asking → IsLetIn opened
    → Goes (session book admin) (listing_text (codes "git-upload-pack") asking) (opened ∷ []) (Enter asking.user asking.repo want.Read ∷ []) (advertisement (store_of (opened_at admin opened asking.repo))) (Ended end.Served)
unfolding fetching_from
listing_fetch book admin asking opened is let_in =
    let text : List ℕ = asking_for (codes "git-upload-pack") asking in
    let opening : Opening = opening_behind admin opened asking.user asking.repo want.Read in
    session_goes book admin asking.feed text (record { user = asking.user; service = Upload asking.repo }) (spelling packets.Flush) (opened ∷ []) _ _ (fetch_asked asking is)
    (then_goes (entering book admin asking.user asking.repo want.Read) _ [] (spelling packets.Flush) (opened ∷ []) [] (Enter asking.user asking.repo want.Read ∷ []) [] [] _ opening (Gave tt) (entering_goes book admin asking.user asking.repo want.Read opened let_in)
    (then_gives (uploading opening (0 + length (line asking.feed text))) _ (spelling packets.Flush) [] [] _ fetch_end.Served (Gave tt) (no_wants_go opening (0 + length (line asking.feed text))) (gives_goes tt)))

pub listed : RefsAreListed
listed = record {
  to_fetch = λ book admin asking opened is let_in extent more. (listing_fetch book admin asking opened is let_in).goes extent more [];
  to_push = λ book admin asking opened is let_in extent more. (listing_goes book admin asking opened is let_in).goes extent more [];
}

-- ---- acknowledgements

nothing_more : (objects : List Content) (id : ObjectId) (common : List ObjectId) (inquiries : List Inquiry) → replies objects (id ∷ common) inquiries ≡ []
nothing_more objects id common [] = refl
nothing_more objects id common (Flush ∷ inquiries) = nothing_more objects id common inquiries
nothing_more objects id common (Have other ∷ inquiries) =
    elim (has_object objects other) as (λ b. (if b then [] else []) ++ replies objects (if b then id ∷ (common ++ other ∷ []) else id ∷ common) inquiries ≡ []) [
      | true ↦ nothing_more objects id (common ++ other ∷ []) inquiries
      | false ↦ nothing_more objects id common inquiries
    ]

pub first_acknowledged : FirstIsAcknowledged
first_acknowledged objects [] inquiries id none there = rw there (ap (λ (l : List ℕ). packet (ack id) ++ l) (nothing_more objects id [] inquiries) ∙ append-nil (packet (ack id)))
first_acknowledged objects (Have other ∷ before) inquiries id none there = rw none.0 (first_acknowledged objects before inquiries id none.1 there)
first_acknowledged objects (Flush ∷ before) inquiries id none there =
    ap (λ (l : List ℕ). packet (codes "NAK\n") ++ l) (first_acknowledged objects before inquiries id none.1 there) ∙ sym (append_assoc (packet (codes "NAK\n")) (nothing_common before) (packet (ack id)))

pub none_common : NothingIsCommon
none_common objects [] none = refl
none_common objects (Have other ∷ inquiries) none = rw none.0 (none_common objects inquiries none.1)
none_common objects (Flush ∷ inquiries) none =
    ap (λ (l : List ℕ). packet (codes "NAK\n") ++ l) (none_common objects inquiries none.1) ∙ sym (append_assoc (packet (codes "NAK\n")) (nothing_common inquiries) (packet (codes "NAK\n")))
