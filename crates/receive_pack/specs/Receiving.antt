-- A push, as an interaction: what follows an opening for writing.
use Rattle.std.specs.Prelude.{ℕ, zero, suc, ◌+◌, Bool, List, [], ◌∷◌, length, Option, Some, None, Result, Ok, Err, codes, if◌then◌else◌}
use Rattle.pktline_core.specs.Packets as packets
use Rattle.raw_pack.specs.declared.fault.PackFault.{PackFault}
use Rattle.git_object.specs.Content.{Content}
use Rattle.ref_store.specs.declared.command.Command.{Command}
use Rattle.hub_history.specs.declared.entry.Event.{Event}
use Rattle.hub_history.specs.declared.entry.Event.TheVariants.{Entered, Pushed, Permitted, Looked}
use Rattle.hub_history.specs.declared.outcome.Outcome.{Outcome}
use Rattle.hub_history.specs.Opening.{Opening}
use Rattle.interaction_tree.specs.Wanted.{Pack}
use Rattle.hub_history.specs.Requests.{Push}
use Rattle.interaction_tree.specs.Interaction.{CutOff, Interaction, gives, ends, ◌>>=◌, write, read, ask}
use Rattle.session_core.specs.declared.end.SessionEnd.{SessionEnd}
use Rattle.session_core.specs.declared.end.SessionEnd.TheVariants as end
use Rattle.session_core.specs.FirstPacket.{without_feed}
use Rattle.session_core.specs.Rulebook.{Rulebook}
use Rattle.session_core.specs.Packets.{next_packet, or_malformed, refuse}
use Rattle.receive_pack.specs.declared.changes.Capabilities.{Capabilities}
use Rattle.receive_pack.specs.declared.reports.ReportedPush.{ReportedPush}
use Rattle.receive_pack.specs.Changes.{all_delete, change, first_capabilities, first_command}
use Rattle.receive_pack.specs.Texts.{advertisement, bad_report, report}

-- I. The commands

-- a command behind the first, in the packet at this offset; a flush gives none
abbrev pub further_in : ℕ → packets.Packet → Interaction SessionEnd (Option Command)
further_in offset packets.Flush = gives None
further_in offset (packets.Line payload) = do
  command ← or_malformed offset (change (without_feed payload))
  gives (Some command)

-- one command more, or the flush that ends them, and the offset behind it
unfoldable pub taking_further : ℕ → Interaction SessionEnd (Option Command × ℕ)
taking_further offset = do
  next ← next_packet offset
  command ← further_in offset next.0
  gives (command, next.1)

-- behind 10,000 commands there may be no other
abbrev pub no_more : Option Command → Interaction SessionEnd (List Command)
no_more None = gives []
no_more (Some command) = refuse (codes "ERR too long") (end.TooLong 10001)

-- what a function answers that finds no further command
abbrev pub no_commands : Result (Unit {0}) SessionEnd → Result (List Command) SessionEnd
no_commands (Ok done) = Ok []
no_commands (Err end) = Err end

-- a command, and those behind it
abbrev pub up_to_flush : Interaction SessionEnd (List Command) → Option Command → Interaction SessionEnd (List Command)
up_to_flush rest None = gives []
up_to_flush rest (Some command) = do
  commands ← rest
  gives (command ∷ commands)

-- the commands up to the flush that ends them, of which so many may still come
unfoldable pub taking_rest : ℕ → ℕ → Interaction SessionEnd (List Command)
taking_rest zero offset = do
  next ← taking_further offset
  no_more next.0
taking_rest (suc left) offset = do
  next ← taking_further offset
  up_to_flush (taking_rest left next.1) next.0

-- the commands of a push from its first on, 10,000 at most
unfoldable pub taking_commands : Command → ℕ → Interaction SessionEnd (List Command)
taking_commands first offset = do
  rest ← taking_rest 9999 offset
  gives (first ∷ rest)

-- II. The pack

-- a report, where the client asked for one
abbrev pub reported : Capabilities → List ℕ → List ℕ
reported capabilities text = if capabilities.report_status then text else []

-- what is due where the input ends inside the pack, and the end
abbrev pub refused_pack : Capabilities → List Command → PackFault → CutOff SessionEnd
refused_pack capabilities commands fault = record { bytes = reported capabilities (bad_report commands fault); end = end.BadPack fault }

unfoldable pub refusing_pack : Capabilities → List Command → PackFault → Interaction SessionEnd (List Content)
refusing_pack capabilities commands fault = do
  said ← write (reported capabilities (bad_report commands fault))
  ends (end.BadPack fault)

abbrev pub pack_in : Capabilities → List Command → Result (List Content) PackFault → Interaction SessionEnd (List Content)
pack_in capabilities commands (Ok objects) = gives objects
pack_in capabilities commands (Err fault) = refusing_pack capabilities commands fault

-- the pack behind these commands
unfoldable pub reading_pack : Capabilities → List Command → Interaction SessionEnd (List Content)
reading_pack capabilities commands = do
  reply ← read Pack (refused_pack capabilities commands)
  pack_in capabilities commands reply.found

-- there is none where each command deletes its ref
abbrev pub pack_unless : Bool → Capabilities → List Command → Interaction SessionEnd (List Content)
pack_unless none capabilities commands = if none then gives [] else reading_pack capabilities commands

unfoldable pub taking_pack : Capabilities → List Command → Interaction SessionEnd (List Content)
taking_pack capabilities commands = pack_unless (all_delete commands) capabilities commands

-- III. The push

-- The outcomes that a push's entry records. Another entry, which a request to push never makes, has none.
abbrev pub recorded_outcomes : Event → List Outcome
recorded_outcomes (Entered user repo want kept) = []
recorded_outcomes (Pushed place pack commands atomic outcomes made) = outcomes
recorded_outcomes (Permitted user repo change kept) = []
recorded_outcomes (Looked user) = []

-- what is pushed by whom where, as the report names it
abbrev pub reported_push : Opening → List Command → ReportedPush
reported_push opening commands = record { user = opening.pinned.user; repo = opening.pinned.repo; commands = commands }

-- the push, and the report of the outcomes that its entry records, by the rules that were in force at the
-- opening, and by those just before the entry
unfoldable pub pushing : Rulebook → Opening → Capabilities → List Command → List Content → Interaction SessionEnd (Unit {0})
pushing book opening capabilities commands pack = do
  own ← ask (Push opening.place pack commands capabilities.atomic)
  write (reported capabilities (report (book.rules (opening.place + 1)).rules (book.rules (length own.before)).rules (reported_push opening commands) (recorded_outcomes own.entry.event)))

-- the commands behind the first, the pack, and the push
unfoldable pub taking_push : Rulebook → Opening → Capabilities → Command → ℕ → Interaction SessionEnd (Unit {0})
taking_push book opening capabilities first offset = do
  commands ← taking_commands first offset
  pack ← taking_pack capabilities commands
  pushing book opening capabilities commands pack

-- IV. The whole of it

-- the packet behind the advertisement, at this offset, and the offset behind it: a flush in place of commands
-- ends the session
abbrev pub commanded : Rulebook → Opening → ℕ → packets.Packet → ℕ → Interaction SessionEnd (Unit {0})
commanded book opening offset packets.Flush behind = gives tt
commanded book opening offset (packets.Line payload) behind = do
  first ← or_malformed offset (first_command (without_feed payload))
  taking_push book opening (first_capabilities (without_feed payload)) first behind

unfoldable pub commanding : Rulebook → Opening → ℕ → Interaction SessionEnd (Unit {0})
commanding book opening offset = do
  next ← next_packet offset
  commanded book opening offset next.0 next.1

-- what follows an opening at this offset: the advertisement, and then the commands
unfoldable pub receiving : Rulebook → Opening → ℕ → Interaction SessionEnd (Unit {0})
receiving book opening offset = do
  advertised ← write (advertisement opening.pinned.repository.refs)
  commanding book opening offset

-- a push that is done ends its session so
abbrev pub pushed_end : Unit {0} → SessionEnd
pushed_end done = end.Served
