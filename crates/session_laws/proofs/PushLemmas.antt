-- A push, from its first packet to its report.
use Rattle.std.proofs.Common.{◌≡◌, ◌⊎◌, inl, inr, ℕ, ◌+◌, Bool, if◌then◌else◌, List, [], ◌∷◌, ◌++◌, length, codes, refl, ◌∙◌, ap, append_assoc, append-nil}
use Rattle.std.specs.List.{flat_map}
use Rattle.git_object.specs.Content.{Content}
use Rattle.pktline_core.specs.Packets.{Line, Flush, spelling}
use Rattle.ref_store.specs.Refs.{Name}
use Rattle.ref_store.specs.declared.command.Command.{Command}
use Rattle.access_check.specs.declared.verdicts.Want.{Want}
use Rattle.access_check.specs.declared.verdicts.Want.TheVariants as want
use Rattle.hub_history.specs.Opening.{Opening}
use Rattle.hub_history.specs.Requests.{Request, Enter, Push}
use Rattle.hub_history.specs.declared.entry.EnterKept.{EnterKept}
use Rattle.hub_history.specs.declared.entry.EnterKept.TheVariants.{Granted, Created}
use Rattle.rule_compile.specs.declared.rule.Rule.{Rule}
use Rattle.interaction_tree.specs.Interaction.{◌>>=◌, write, ask}
use Rattle.interaction_tree.specs.Requests.{OwnEntry}
use Rattle.interaction_tree.specs.Turns.{Gave, Ended}
use Rattle.session_core.specs.declared.end.SessionEnd.TheVariants as end
use Rattle.session_core.specs.declared.first_packet.Asked.{Asked}
use Rattle.session_core.specs.declared.first_packet.Service.TheVariants.{Receive}
use Rattle.session_core.specs.Asking.{asking}
use Rattle.session_core.specs.FirstPacket.{without_feed}
use Rattle.session_core.specs.Opening.{entering, opening, opening_behind, recorded_answer}
use Rattle.session_core.proofs.OpeningLemmas.{by_answer}
use Rattle.session_core.specs.Packets.{next_packet, or_malformed}
use Rattle.session_core.specs.Rulebook.{Rulebook}
use Rattle.receive_pack.specs.Changes.{first_command}
use Rattle.receive_pack.specs.Receiving.{commanded, commanding, pushing, receiving, recorded_outcomes, reported, taking_commands, taking_pack, taking_push}
use Rattle.receive_pack.specs.Texts.{advertisement, report}
use Rattle.receive_pack.specs.declared.changes.Capabilities.{Capabilities}
use Rattle.git_session.specs.Session.{pushing_into, served, serving, session}
use Rattle.session_laws.specs.Sending.{Asking, IsAsking, listing_text, Pushing, IsPushing, asking_for, command_text, commands_of, first_text, line, pack_of, pack_text, push_text}
use Rattle.session_laws.specs.Laws.{IsLetIn, opened_at, report_of, PushesAreServed}
use Rattle.session_laws.proofs.LineLemmas.{feed_is_nothing}
use Rattle.session_laws.proofs.FirstLemmas.{fits_line, push_asked}
use Rattle.session_laws.proofs.CommandLemmas.{asked_for, capabilities_again, commands_go, first_again, first_lacks}
use Rattle.session_laws.proofs.TurnLemmas.{Goes, ask_goes, ends_goes, gives_goes, goes_as, pack_goes, packet_goes, said_goes, then_gives, then_goes, write_goes}

-- ---- an opening

answered_goes : (rules : List Rule) (user repo : Name) (want : Want) (kept : EnterKept) (opening : Opening) → (kept ≡ Granted) ⊎ (kept ≡ Created) → Goes (by_answer rules user repo want kept opening) [] [] [] [] (Gave opening)
answered_goes rules user repo want kept opening (inl is) = rw is (gives_goes opening)
answered_goes rules user repo want kept opening (inr is) = rw is (gives_goes opening)

pub entering_goes : (book : Rulebook) (admin user repo : Name) (want : Want) (own : OwnEntry) → IsLetIn own
    → Goes (entering book admin user repo want) [] (own ∷ []) (Enter user repo want ∷ []) [] (Gave (opening_behind admin own user repo want))
unfolding entering opening ask ◌>>=◌
entering_goes book admin user repo want own let_in =
    then_gives (ask (Enter user repo want)) _ [] (own ∷ []) (Enter user repo want ∷ []) [] own _ (ask_goes (Enter user repo want) own)
    (answered_goes (book.rules (length own.before)).rules user repo want (recorded_answer own.entry.event) (opening_behind admin own user repo want) let_in)

-- a session around what it was asked for
pub session_goes : (book : Rulebook) (admin : Name) (feed : Bool) (text : List ℕ) (asked : Asked) (input : List ℕ) (own : List OwnEntry) (requests : List Request) (bytes : List ℕ)
    → Goes (asking 0) (line feed text) [] [] [] (Gave (asked, 0 + length (line feed text)))
    → Goes (serving book admin asked.user asked.service (0 + length (line feed text))) input own requests bytes (Gave tt)
    → Goes (session book admin) (line feed text ++ input) own requests bytes (Ended end.Served)
unfolding session served
session_goes book admin feed text asked input own requests bytes first behind =
    then_gives (served book admin 0) _ (line feed text ++ input) own requests bytes tt _
    (then_goes (asking 0) _ (line feed text) input [] own [] requests [] bytes (asked, 0 + length (line feed text)) _ first behind) (ends_goes end.Served)

-- ---- the push

pushing_goes : (book : Rulebook) (opening : Opening) (caps : Capabilities) (commands : List Command) (pack : List Content) (pushed : OwnEntry)
    → Goes (pushing book opening caps commands pack) [] (pushed ∷ []) (Push opening.place pack commands caps.atomic ∷ [])
    (reported caps (report (book.rules (opening.place + 1)).rules (book.rules (length pushed.before)).rules (record { user = opening.pinned.user; repo = opening.pinned.repo; commands = commands }) (recorded_outcomes pushed.entry.event))) (Gave tt)
unfolding pushing
pushing_goes book opening caps commands pack pushed =
    then_goes (ask (Push opening.place pack commands caps.atomic)) _ [] [] (pushed ∷ []) [] (Push opening.place pack commands caps.atomic ∷ []) [] [] _ pushed (Gave tt) (ask_goes (Push opening.place pack commands caps.atomic) pushed) (write_goes _)

module _ (book : Rulebook) (push : Pushing) (is : IsPushing push) (opening : Opening) (pushed : OwnEntry) where
  said : List ℕ
  said = reported (asked_for push.words) (report (book.rules (opening.place + 1)).rules (book.rules (length pushed.before)).rules (record { user = opening.pinned.user; repo = opening.pinned.repo; commands = commands_of push }) (recorded_outcomes pushed.entry.event))

  request : Request
  request = Push opening.place (pack_of push) (commands_of push) (asked_for push.words).atomic

  further : List ℕ
  further = flat_map (λ command. line push.feed (command_text command)) push.others

  taking_goes : (offset : ℕ) → Goes (taking_push book opening (asked_for push.words) push.first offset) (further ++ (spelling Flush ++ pack_text push)) (pushed ∷ []) (request ∷ []) said (Gave tt)
  unfolding taking_push said request further
  taking_goes offset =
      goes_as _ ((further ++ spelling Flush) ++ (pack_text push ++ [])) (further ++ (spelling Flush ++ pack_text push)) (pushed ∷ []) (request ∷ []) said said (Gave tt)
      (append_assoc further (spelling Flush) (pack_text push ++ []) ∙ ap (λ (l : List ℕ). further ++ (spelling Flush ++ l)) (append-nil (pack_text push))) refl
      (then_goes (taking_commands push.first offset) _ (further ++ spelling Flush) (pack_text push ++ []) [] (pushed ∷ []) [] (request ∷ []) [] said (commands_of push) (Gave tt) (commands_go push.feed push.first push.others offset is.few is.others)
      (then_goes (taking_pack (asked_for push.words) (commands_of push)) _ (pack_text push) [] [] (pushed ∷ []) [] (request ∷ []) [] said (pack_of push) (Gave tt) (pack_goes (asked_for push.words) (commands_of push) push.objects is.objects)
      (pushing_goes book opening (asked_for push.words) (commands_of push) (pack_of push) pushed)))

  commanded_goes : (offset behind : ℕ) (payload : List ℕ) → without_feed payload ≡ first_text push.first push.words
      → Goes (commanded book opening offset (Line payload) behind) (further ++ (spelling Flush ++ pack_text push)) (pushed ∷ []) (request ∷ []) said (Gave tt)
  commanded_goes offset behind payload fed =
      rw (fed, capabilities_again push.first push.words is.first is.words)
      (then_goes (or_malformed offset (first_command (first_text push.first push.words))) _ [] (further ++ (spelling Flush ++ pack_text push)) [] (pushed ∷ []) [] (request ∷ []) [] said push.first (Gave tt)
      (said_goes offset (first_command (first_text push.first push.words)) push.first (first_again push.first push.words is.first)) (taking_goes behind))

  receiving_goes : (offset : ℕ)
      → Goes (receiving book opening offset) (line push.feed (first_text push.first push.words) ++ (further ++ (spelling Flush ++ pack_text push))) (pushed ∷ []) (request ∷ []) (advertisement opening.pinned.repository.refs ++ said) (Gave tt)
  unfolding receiving commanding
  receiving_goes offset =
      let text : List ℕ = first_text push.first push.words in
      let payload : List ℕ = text ++ (if push.feed then 10 ∷ [] else []) in
      let rest : List ℕ = further ++ (spelling Flush ++ pack_text push) in
      let behind : ℕ = offset + length (line push.feed text) in
      then_goes (write (advertisement opening.pinned.repository.refs)) _ [] (line push.feed text ++ rest) [] (pushed ∷ []) [] (request ∷ []) (advertisement opening.pinned.repository.refs) said tt (Gave tt) (write_goes (advertisement opening.pinned.repository.refs))
      (then_goes (next_packet offset) _ (line push.feed text) rest [] (pushed ∷ []) [] (request ∷ []) [] said (Line payload, behind) (Gave tt) (packet_goes offset (Line payload) (fits_line push.feed text is.fits))
      (commanded_goes offset behind payload (feed_is_nothing push.feed text (first_lacks push.first push.words is.first is.words))))

-- ---- the session

push_goes : (book : Rulebook) (admin : Name) (push : Pushing) (opened pushed : OwnEntry) → IsPushing push → IsLetIn opened
    → Goes (session book admin) (push_text push) (opened ∷ pushed ∷ []) (Enter push.asking.user push.asking.repo want.Write ∷ Push (length opened.before) (pack_of push) (commands_of push) (asked_for push.words).atomic ∷ [])
    (advertisement (opened_at admin opened push.asking.repo).refs ++ (if (asked_for push.words).report_status then report_of book push opened pushed else [])) (Ended end.Served)
unfolding push_text pushing_into said request further
push_goes book admin push opened pushed is let_in =
    let user : Name = push.asking.user in
    let repo : Name = push.asking.repo in
    let text : List ℕ = asking_for (codes "git-receive-pack") push.asking in
    let opening : Opening = opening_behind admin opened user repo want.Write in
    let rest : List ℕ = line push.feed (first_text push.first push.words) ++ (further book push is opening pushed ++ (spelling Flush ++ pack_text push)) in
    session_goes book admin push.asking.feed text (record { user = user; service = Receive repo }) rest (opened ∷ pushed ∷ []) _ _ (push_asked push.asking is.asking)
    (then_goes (entering book admin user repo want.Write) _ [] rest (opened ∷ []) (pushed ∷ []) (Enter user repo want.Write ∷ []) (request book push is opening pushed ∷ []) [] _ opening (Gave tt) (entering_goes book admin user repo want.Write opened let_in)
    (receiving_goes book push is opening pushed (0 + length (line push.asking.feed text))))

pub pushes : PushesAreServed
pushes book admin push opened pushed is let_in extent more = (push_goes book admin push opened pushed is let_in).goes extent more []

-- ---- a flush in place of commands

no_commands_go : (book : Rulebook) (opening : Opening) (offset : ℕ) → Goes (receiving book opening offset) (spelling Flush) [] [] (advertisement opening.pinned.repository.refs) (Gave tt)
unfolding receiving commanding
no_commands_go book opening offset =
    let refs : List ℕ = advertisement opening.pinned.repository.refs in
    goes_as _ (spelling Flush) (spelling Flush) [] [] (refs ++ []) refs (Gave tt) refl (append-nil refs)
    (then_goes (write refs) _ [] (spelling Flush) [] [] [] [] refs [] tt (Gave tt) (write_goes refs)
    (then_gives (next_packet offset) _ (spelling Flush) [] [] [] (Flush, offset + length (spelling Flush)) (Gave tt) (packet_goes offset Flush tt) (gives_goes tt)))

pub listing_goes : (book : Rulebook) (admin : Name) (asking : Asking) (opened : OwnEntry) → IsAsking asking → IsLetIn opened
    → Goes (session book admin) (listing_text (codes "git-receive-pack") asking) (opened ∷ []) (Enter asking.user asking.repo want.Write ∷ []) (advertisement (opened_at admin opened asking.repo).refs) (Ended end.Served)
unfolding pushing_into
listing_goes book admin asking opened is let_in =
    let text : List ℕ = asking_for (codes "git-receive-pack") asking in
    let opening : Opening = opening_behind admin opened asking.user asking.repo want.Write in
    session_goes book admin asking.feed text (record { user = asking.user; service = Receive asking.repo }) (spelling Flush) (opened ∷ []) _ _ (push_asked asking is)
    (then_goes (entering book admin asking.user asking.repo want.Write) _ [] (spelling Flush) (opened ∷ []) [] (Enter asking.user asking.repo want.Write ∷ []) [] [] _ opening (Gave tt) (entering_goes book admin asking.user asking.repo want.Write opened let_in)
    (no_commands_go book opening (0 + length (line asking.feed text))))
