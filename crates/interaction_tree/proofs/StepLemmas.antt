-- Calls of the crates below, as steps of an interaction.
use Rattle.std.proofs.Common.{◌≡◌, inl, inr, ℕ, ◌+◌, Bool, List, [], length, Some, Result, Ok, Err, refl, sym, ◌∙◌, subst, arith}
use Rattle.std.proofs.lemmas.List.{append-nil}
use Rattle.std.specs.Io.KnownBytes.{IsAtEnd}
use Rattle.git_object.specs.Content.{Content}
use Rattle.pktline_core.specs.LinkState.{LinkState}
use Rattle.pktline_core.specs.Links.{IsLater, KeepsReading, KeepsWriting}
use Rattle.pktline_core.specs.Packets as packets
use Rattle.pktline_core.specs.Reading.{ReadsPacket}
use Rattle.pktline_core.specs.declared.packets.PktFault.{PktFault}
use Rattle.pktline_core.specs.declared.packets.PktFault.TheVariants as packet
use Rattle.raw_pack.specs.Packs.{pack_front}
use Rattle.raw_pack.specs.Reading.{ReadsFront, DecidesFault, ShowsFault}
use Rattle.raw_pack.specs.declared.fault.PackFault.{PackFault}
use Rattle.raw_pack.specs.declared.fault.PackFault.TheVariants as pack
use Rattle.ref_store.specs.declared.command.Command.{Command}
use Rattle.hub_history.specs.declared.outcome.Outcome.{Outcome}
use Rattle.access_check.specs.declared.verdicts.Want.{Want}
use Rattle.hub_history.specs.declared.entry.Entry.{Entry}
use Rattle.hub_history.specs.declared.entry.EnterKept.{EnterKept}
use Rattle.hub_history.specs.declared.entry.Event.TheVariants.{Entered, Pushed, Permitted, Looked}
use Rattle.hub_history.specs.declared.entry.PermChange.{PermChange}
use Rattle.hub_history.specs.declared.entry.PermsKept.{PermsKept}
use Rattle.hub_history.specs.Roles.{kept_of}
use Rattle.wild_perms.specs.declared.answer.PermsAnswer.{PermsAnswer}
use Rattle.repo_listing.specs.declared.lines.LookLine.{LookLine}
use Rattle.hub.specs.declared.answer.Looked.TheVariants.{Lines}
use Rattle.hub.specs.declared.answer.Entered as hub_entered
use Rattle.hub_history.specs.State.{Conf}
use Rattle.hub.specs.declared.answer.Pushed.TheVariants.{Settled}
use Rattle.ref_store.specs.Refs.{Name}
use Rattle.hub_history.specs.Opening.{Opening}
use Rattle.hub.specs.Answer.{kept}
use Rattle.hub.specs.Desk.{DeskView, MakesEntry, Enters, Looks, Permits, Pushes}
use Rattle.interaction_tree.specs.Wanted.{Packet, Pack, front_of, Reply}
use Rattle.hub_history.specs.Requests.{Enter, Push, Permit, Look, request_of}
use Rattle.interaction_tree.specs.Interaction.{CutOff, Interaction, gives, ends, writes, ◌>>=◌, read, ask}
use Rattle.interaction_tree.specs.Traces.{Reading, Memory, Halt, Ended, Failed}
use Rattle.interaction_tree.specs.Runs.{Runs, TakesOnly}
use Rattle.interaction_tree.specs.Steps.{packet_as, IsOfPack}
use Rattle.interaction_tree.proofs.RunLemmas.{runs_still, runs_ask, runs_bind, runs_read, runs_failed, runs_lacked, runs_cut}

-- ---- the reader of packets

module _ (a b : LinkState) (keeps : KeepsWriting a b) (later : IsLater a b) where
  packet_takes : (answer : Result packets.Packet PktFault) → (r : ReadsPacket a b answer) → TakesOnly a b r.taken
  packet_takes answer r = record { consumed = r.consumed; counted = r.counted; keeps = keeps; later = later }

  pack_takes : (answer : Result (List Content) PackFault) → (r : ReadsFront pack_front a b answer) → TakesOnly a b r.taken
  pack_takes answer r = record { consumed = r.consumed; counted = r.counted; keeps = keeps; later = later }

-- nothing is due before an end
ends_here : {E A : Type 0} (a : LinkState) (d : DeskView) (bytes : List ℕ) (e : E) → bytes ≡ [] → Runs {A = A} a a d d (writes bytes (ends e)) (Err (Ended e))
ends_here a d bytes e none = runs_still a d (writes bytes (ends e)) (Err (Ended e)) tt (inr ([], sym (append-nil bytes ∙ none), ((refl, refl, refl), refl)))

module _ {E : Type 0} (a b : LinkState) (d : DeskView) (keeps : KeepsWriting a b) (later : IsLater a b) where
  pub runs_packet : (cut : PktFault → CutOff E) (used : ℕ) (answer : Result packets.Packet PktFault) → ReadsPacket a b answer → b.given ≡ a.given + used → (cut packet.Truncated).bytes ≡ []
      → Runs a b d d (read Packet cut) (packet_as cut used answer)
  unfolding read front_of
  runs_packet cut used (Ok value) r count none =
      let same : length r.taken ≡ used = omega (arith, count, r.counted) in
      subst (λ (n : ℕ). Runs a b d d (read Packet cut) (Ok (record { used = n; found = Ok value }))) same (runs_read a b d r.taken (packet_takes a b keeps later (Ok value) r) Packet cut (Ok value) r.decided)
  runs_packet cut used (Err packet.BadLength) r count none =
      let same : length r.taken ≡ used = omega (arith, count, r.counted) in
      subst (λ (n : ℕ). Runs a b d d (read Packet cut) (Ok (record { used = n; found = Err packet.BadLength }))) same (runs_read a b d r.taken (packet_takes a b keeps later (Err packet.BadLength) r) Packet cut (Err packet.BadLength) r.decided)
  runs_packet cut used (Err packet.Truncated) r count none =
      runs_cut a b d r.taken (packet_takes a b keeps later (Err packet.Truncated) r) Packet cut (λ reply. gives reply) b d packet.Truncated (Err (Ended (cut packet.Truncated).end)) r.decided.0 r.decided.1
      (ends_here b d (cut packet.Truncated).bytes (cut packet.Truncated).end none)
  runs_packet cut used (Err packet.ReadFault) r count none = runs_failed a b d r.taken (packet_takes a b keeps later (Err packet.ReadFault) r) Packet cut (λ reply. gives reply) packet.Truncated r.decided.0 (r.decided.1, r.decided.2)

-- ---- the reader of packs

pack_shows : (n : ℕ) (old new : LinkState) (taken : List ℕ) (fault : PackFault) → IsOfPack fault → DecidesFault (pack_front taken) n old new fault → ShowsFault (pack_front taken) n new fault
pack_shows n old new taken pack.ReadFault of p = absurd of
pack_shows n old new taken pack.NoMemory of p = absurd of
pack_shows n old new taken fault of p = p

module _ {E : Type 0} (a b : LinkState) (d : DeskView) (keeps : KeepsWriting a b) (later : IsLater a b) where
  module _ (cut : PackFault → CutOff E) where
    pub runs_pack : (used : ℕ) (contents : List Content) → ReadsFront pack_front a b (Ok contents) → b.given ≡ a.given + used → Runs a b d d (read Pack cut) (Ok (record { used = used; found = Ok contents }))
    unfolding front_of
    runs_pack used contents r count =
        let same : length r.taken ≡ used = omega (arith, count, r.counted) in
        subst (λ (n : ℕ). Runs a b d d (read Pack cut) (Ok (record { used = n; found = Ok contents }))) same (runs_read a b d r.taken (pack_takes a b keeps later (Ok contents) r) Pack cut (Ok contents) r.decided)

    pub runs_pack_failed : ReadsFront pack_front a b (Err pack.ReadFault) → Runs a b d d (read Pack cut) (Err (Failed Reading))
    unfolding read front_of
    runs_pack_failed r = runs_failed a b d r.taken (pack_takes a b keeps later (Err pack.ReadFault) r) Pack cut (λ reply. gives reply) r.decided.0.0 r.decided.0.1 (r.decided.1, r.decided.2)

    pub runs_pack_lacked : ReadsFront pack_front a b (Err pack.NoMemory) → Runs a b d d (read Pack cut) (Err (Failed Memory))
    unfolding read front_of
    runs_pack_lacked r = runs_lacked a b d r.taken (pack_takes a b keeps later (Err pack.NoMemory) r) Pack cut (λ reply. gives reply) r.decided

    -- a refused pack, where the same is due whether its fault was read or the input ended inside it
    pub runs_pack_refused : {A : Type 0} (f : Reply Pack → Interaction E A) (c : LinkState) (e : DeskView) (fault : PackFault) (out : Result A (Halt E)) → IsOfPack fault → ReadsFront pack_front a b (Err fault) → KeepsReading b c
        → ((used : ℕ) → f (record { used = used; found = Err fault }) ≡ writes (cut fault).bytes (ends (cut fault).end))
        → Runs b c d e (writes (cut fault).bytes (ends (cut fault).end)) out → Runs a c d e (read Pack cut >>= f) out
    unfolding read ◌>>=◌ front_of
    runs_pack_refused f c e fault out of r still same p =
        elim (pack_shows (length r.taken) a b r.taken fault of r.decided) [
          | inl broken ↦ runs_bind a b c d d e (read Pack cut) (record { used = length r.taken; found = Err fault }) f out (runs_read a b d r.taken (pack_takes a b keeps later (Err fault) r) Pack cut (Err fault) broken) (subst (λ (t : Interaction E _). Runs b c d e t out) (sym (same (length r.taken))) p)
          | inr ended ↦ runs_cut a b d r.taken (pack_takes a b keeps later (Err fault) r) Pack cut f c e fault out ended.0 (subst IsAtEnd (sym still.left) ended.1) p
        ]

-- ---- the desk

-- an entry was made
pub runs_made : {E : Type 0} (a : LinkState) (d e : DeskView) (before : List Entry) (entry : Entry) → MakesEntry d e before entry → Runs {E = E} a a d e (ask (request_of entry.event)) (Ok (record { before = before; entry = entry }))
runs_made a d e before entry makes = runs_ask a d e (record { before = before; entry = entry }) makes

-- a repository was opened, or not
pub runs_entered : {E : Type 0} (a : LinkState) (d e : DeskView) (user repo : Name) (want : Want) (result : hub_entered.Entered) (answer : EnterKept) → kept result ≡ Some answer → (enters : Enters d e user repo want result)
    → Runs {E = E} a a d e (ask (Enter user repo want)) (Ok (record { before = enters.0; entry = record { caller = d.caller; event = Entered user repo want answer } }))
runs_entered a d e user repo want result answer is enters = runs_made a d e enters.0 (record { caller = d.caller; event = Entered user repo want answer }) (rw is at enters.1)

-- a push was settled
pub runs_pushed : {E : Type 0} (a : LinkState) (d e : DeskView) (pin : Opening) (contents : List Content) (commands : List Command) (atomic : Bool) (outcomes : List Outcome) (made : List Name) (conf : Conf)
    → (pushes : Pushes d e pin contents commands atomic (Settled outcomes made conf))
    → Runs {E = E} a a d e (ask (Push pin.place contents commands atomic)) (Ok (record { before = pushes.0; entry = record { caller = d.caller; event = Pushed pin.place contents commands atomic outcomes made } }))
runs_pushed a d e pin contents commands atomic outcomes made conf pushes = runs_made a d e pushes.0 (record { caller = d.caller; event = Pushed pin.place contents commands atomic outcomes made }) pushes.1

-- roles were changed or listed, or not
pub runs_permitted : {E : Type 0} (a : LinkState) (d e : DeskView) (user repo : Name) (change : PermChange) (result : PermsAnswer) (answer : PermsKept) → kept_of result ≡ Some answer → (permits : Permits d e user repo change result)
    → Runs {E = E} a a d e (ask (Permit user repo change)) (Ok (record { before = permits.0; entry = record { caller = d.caller; event = Permitted user repo change answer } }))
runs_permitted a d e user repo change result answer is permits = runs_made a d e permits.0 (record { caller = d.caller; event = Permitted user repo change answer }) (rw is at permits.1)

-- what there is to see was listed
pub runs_looked : {E : Type 0} (a : LinkState) (d e : DeskView) (user : Name) (lines : List LookLine) → (looks : Looks d e user (Lines lines))
    → Runs {E = E} a a d e (ask (Look user)) (Ok (record { before = looks.0; entry = record { caller = d.caller; event = Looked user } }))
runs_looked a d e user lines looks = runs_made a d e looks.0 (record { caller = d.caller; event = Looked user }) looks.1
