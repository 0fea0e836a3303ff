-- Laws of interactions, which hold of every protocol.
use Rattle.std.specs.Prelude.{◌≡◌, ◌⊎◌, ◌≤◌, ⊤, ℕ, ◌+◌, Bool, IsTrue, List, [], ◌++◌, length, take, drop, map, Option, Result, Ok, Err}
use Rattle.std.specs.Option.{option_map}
use Rattle.std.specs.List.{AllByRecursion}
use Rattle.std.specs.Io.KnownBytes.{IsAtEnd}
use Rattle.base_types.specs.Counts.{HasRisen}
use Rattle.base_types.specs.Fronts.{Partial}
use Rattle.git_object.specs.Content.{Content}
use Rattle.pktline_core.specs.LinkState.{LinkState}
use Rattle.pktline_core.specs.Links.{IsLater, KeepsReading, KeepsWriting}
use Rattle.pktline_core.specs.Packets as packets
use Rattle.pktline_core.specs.Reading.{ReadsPacket}
use Rattle.pktline_core.specs.declared.links.WriteFault.{WriteFault}
use Rattle.pktline_core.specs.declared.packets.PktFault.{PktFault}
use Rattle.pktline_core.specs.declared.packets.PktFault.TheVariants.{Truncated}
use Rattle.raw_pack.specs.Packs.{pack_front}
use Rattle.raw_pack.specs.Reading.{ReadsFront}
use Rattle.raw_pack.specs.declared.fault.PackFault.{PackFault}
use Rattle.hub_history.specs.declared.entry.Entry.{Entry}
use Rattle.hub.specs.Desk.{DeskView, IsOfAnother, IsSound, MakesEntry}
use Rattle.interaction_tree.specs.Wanted.{Wanted, Packet, Pack, Value, Fault, front_of, Reply, shown}
use Rattle.hub_history.specs.Requests.{Request, request_of}
use Rattle.interaction_tree.specs.Requests.{Answers, Agrees, AsLogged, OwnEntry, asked, own_in}
use Rattle.interaction_tree.specs.Interaction.{CutOff, Interaction, gives, ends, writes, reads, ◌>>=◌, write, read, ask, ending_as, limits}
use Rattle.interaction_tree.specs.Turns.{Extent, Closed, Ended, turn_over, turn, and_then, turn_as}
use Rattle.interaction_tree.specs.Alone.{turn_alone, IsAlone}
use Rattle.interaction_tree.specs.Traces.{Reading, Memory, Halt, Failed, IsTrace, outcome_as}
use Rattle.interaction_tree.specs.Runs.{MakesAll, Runs, TakesOnly, WritesOnly}
use Rattle.interaction_tree.specs.Steps.{written_as, packet_as, IsOfPack}
use Rattle.interaction_tree.specs.Order.{EntriesFirst, IsOrdered}
use Rattle.interaction_tree.specs.Endings.{TakesTurn, used_of}
use Rattle.interaction_tree.specs.Growth.{GrowsBy, own_since}

-- I. What follows of code that ran an interaction

-- Code that ran an interaction without a value took its turn, whichever of the four ends it came to.
abbrev pub RunsTakeTurns : Type 0 → Type 0 → Type 0
RunsTakeTurns E A = (link link' : LinkState) (desk desk' : DeskView) (t : Interaction E A) (halt : Halt E) → IsOrdered t → Runs link link' desk desk' t (Err halt) → TakesTurn link link' (own_since desk desk') t halt

-- and what the turn uses of the input is what was read
abbrev pub TurnsUseTheRead : Type 0 → Type 0 → Type 0
TurnsUseTheRead E A =
    (link link' : LinkState) (desk desk' : DeskView) (t : Interaction E A) (halt : Halt E) → IsOrdered t → (ran : Runs link link' desk desk' t (Err halt))
    → (turn : TakesTurn link link' (own_since desk desk') t halt) × (used_of link link' (own_since desk desk') t halt turn ≡ ran.read)

-- Over a link whose counts don't rise it ends as the interaction does, or memory lacks.
abbrev pub EndsOrLacks : Type 0 → Type 0 → Type 0
EndsOrLacks E A =
    (link link' : LinkState) (own : List OwnEntry) (t : Interaction E A) (halt : Halt E)
    → (HasRisen link.read_faults link'.read_faults → ⊥) → (HasRisen link.write_faults link'.write_faults → ⊥)
    → TakesTurn link link' own t halt → ((end : E) × (halt ≡ Halt.Ended end)) ⊎ (halt ≡ Failed Memory)

-- what own entries leave of a desk: they are the ones that its view has since, and it stays sound
abbrev pub EntriesGrow : Type 0
EntriesGrow = (old new : DeskView) (own : List OwnEntry) → IsSound old → MakesAll old new own → IsSound new × GrowsBy old new own

-- entries of other numbers that are appended are no entries of a caller
abbrev pub OthersAreNotOwn : Type 0
OthersAreNotOwn = (caller place : ℕ) (log others : List Entry) → place ≤ length log → AllByRecursion (IsOfAnother caller) others → own_in caller place (log ++ others) ≡ own_in caller place log

-- For every log there are answers that agree with it, and are for what is asked.
abbrev pub LogsHaveAnswers : Type 0
LogsHaveAnswers = (log : List Entry) → (answers : Answers) × Agrees answers log × ((before : List Entry) (request : Request) → request_of (answers before request) ≡ request)

-- Answers that agree with a log agree with each beginning of it.
abbrev pub BeginningsAgree : Type 0
BeginningsAgree = (answers : Answers) (log more : List Entry) → Agrees answers (log ++ more) → Agrees answers log

-- At the desk of a hub's only caller each entry stands right behind the one before, by whatever answers agree
-- with what was seen.
abbrev pub OnlyCallersAreAlone : Type 0
OnlyCallersAreAlone = (old new : DeskView) (own : List OwnEntry) → IsTrue old.alone → MakesAll old new own → AsLogged new.seen (λ answers. IsAlone answers old.seen own new.seen)

-- Where a session is its hub's only caller, its turn is the one that the log at the start and the answers
-- give, and the log afterwards is that one's.
abbrev pub AloneAsLogged : Type 0 → Type 0 → Type 0
AloneAsLogged E A =
    (answers : Answers) (end : E) (t : Interaction E A) (input : List ℕ) (own : List OwnEntry) (log log' : List Entry) → IsAlone answers log own log'
    → map asked own ≡ (turn t input own).requests → (turn t input own).stop ≡ Ended end
    → turn_alone answers t input log ≡ record { bytes = (turn t input own).bytes; stop = Ended end; log = log' }

-- II. How code runs an interaction

-- one, and then another that its value decides
abbrev pub RunsCompose : Type 0 → Type 0 → Type 0 → Type 0
RunsCompose E A B =
    (a b c : LinkState) (d e f : DeskView) (t : Interaction E A) (value : A) (k : A → Interaction E B) (out : Result B (Halt E))
    → Runs a b d e t (Ok value) → Runs b c e f (k value) out → Runs a c d f (t >>= k) out

-- one that is left without a value, and with it all that would have followed
abbrev pub HaltsCompose : Type 0 → Type 0 → Type 0 → Type 0
HaltsCompose E A B = (a b : LinkState) (d e : DeskView) (t : Interaction E A) (k : A → Interaction E B) (halt : Halt E) → Runs a b d e t (Err halt) → Runs a b d e (t >>= k) (Err halt)

-- nothing at all, where it gives its value, where it ends, or where memory lacks
abbrev pub NothingRuns : Type 0 → Type 0 → Type 0
NothingRuns E A =
    (link : LinkState) (desk : DeskView) → ((value : A) → Runs {E = E} link link desk desk (gives value) (Ok value))
    × ((end : E) → Runs {A = A} link link desk desk (ends end) (Err (Halt.Ended end)))
    × ((t : Interaction E A) → Runs link link desk desk t (Err (Failed Memory)))

-- bytes that are written
abbrev pub WritesRun : Type 0 → Type 0
WritesRun E =
    (old new : LinkState) (desk : DeskView) (bytes : List ℕ) (result : Result (Unit {0}) WriteFault) → WritesOnly old new bytes result → Runs old new desk desk (write bytes) (written_as {E = E} result)

-- what is read, and decided by what was taken
abbrev pub ReadingsRun : Type 0 → Type 0
ReadingsRun E =
    (old new : LinkState) (desk : DeskView) (taken : List ℕ) (wanted : Wanted) (cut : Fault wanted → CutOff E) (found : Result (Value wanted) (Fault wanted))
    → TakesOnly old new taken → front_of wanted taken ≡ shown (length taken) found → Runs old new desk desk (read wanted cut) (Ok (record { used = length taken; found = found }))

-- an input that ends inside what is wanted, and then what is due
abbrev pub CutOffsRun : Type 0 → Type 0 → Type 0
CutOffsRun E A =
    (a b c : LinkState) (d e : DeskView) (taken : List ℕ) (wanted : Wanted) (cut : Fault wanted → CutOff E) (f : Reply wanted → Interaction E A) (fault : Fault wanted) (out : Result A (Halt E))
    → TakesOnly a b taken → front_of wanted taken ≡ Partial fault → IsAtEnd c.left → Runs b c d e (writes (cut fault).bytes (ends (cut fault).end)) out → Runs a c d e (reads wanted cut f) out

-- an entry that is made
abbrev pub EntriesRun : Type 0 → Type 0
EntriesRun E =
    (link : LinkState) (old new : DeskView) (before : List Entry) (entry : Entry) → MakesEntry old new before entry → Runs {E = E} link link old new (ask (request_of entry.event)) (Ok (record { before = before; entry = entry }))

-- the reader of packets, where nothing is due when the input ends
abbrev pub PacketsRun : Type 0 → Type 0
PacketsRun E =
    (old new : LinkState) (desk : DeskView) (cut : PktFault → CutOff E) (used : ℕ) (answer : Result packets.Packet PktFault)
    → ReadsPacket old new answer → KeepsWriting old new → IsLater old new → new.given ≡ old.given + used → (cut Truncated).bytes ≡ [] → Runs old new desk desk (read Packet cut) (packet_as cut used answer)

-- the reader of packs, that gives a pack
abbrev pub PacksRun : Type 0 → Type 0
PacksRun E =
    (old new : LinkState) (desk : DeskView) (cut : PackFault → CutOff E) (used : ℕ) (contents : List Content)
    → ReadsFront pack_front old new (Ok contents) → KeepsWriting old new → IsLater old new → new.given ≡ old.given + used → Runs old new desk desk (read Pack cut) (Ok (record { used = used; found = Ok contents }))

-- the reader of packs, that refuses one: where the same is due whether the fault was read or the input ended
-- inside the pack
abbrev pub RefusedPacksRun : Type 0 → Type 0 → Type 0
RefusedPacksRun E A =
    (a b c : LinkState) (d e : DeskView) (cut : PackFault → CutOff E) (f : Reply Pack → Interaction E A) (fault : PackFault) (out : Result A (Halt E))
    → ReadsFront pack_front a b (Err fault) → IsOfPack fault → KeepsWriting a b → IsLater a b → KeepsReading b c
    → ((used : ℕ) → f (record { used = used; found = Err fault }) ≡ writes (cut fault).bytes (ends (cut fault).end))
    → Runs b c d e (writes (cut fault).bytes (ends (cut fault).end)) out → Runs a c d e (read Pack cut >>= f) out

-- III. The order of entries and bytes

-- One interaction and then another keep the order where the second keeps it from where the first leaves it.
abbrev pub OrdersCompose : Type 0 → Type 0 → Type 0 → Type 0
OrdersCompose E A B =
    (wrote : Bool) (t : Interaction E A) (k : A → Interaction E B) → EntriesFirst wrote t (λ w value. EntriesFirst w (k value) (λ w' value'. ⊤)) → EntriesFirst wrote (t >>= k) (λ w value. ⊤)

-- IV. Turns

-- The turn of one interaction and then another is the turn of the first and, where that gave its value, then
-- the turn of the second over what the first left of the input and of the entries.
abbrev pub TurnsCompose : Type 0 → Type 0 → Type 0 → Type 0
TurnsCompose E A B =
    (extent : Extent) (t : Interaction E A) (k : A → Interaction E B) (input : List ℕ) (own : List OwnEntry)
    → turn_over extent (t >>= k) input own ≡ and_then (turn_over extent t input own) (λ value used requests. turn_over extent (k value) (drop (length used) input) (drop (length requests) own))

-- V. Other ends

-- With other ends its turns are the same but for the end.
abbrev pub TurnsEndAs : Type 0 → Type 0 → Type 0 → Type 0
TurnsEndAs E F A =
    (end_as : E → F) (extent : Extent) (t : Interaction E A) (input : List ℕ) (own : List OwnEntry) → turn_over extent (ending_as end_as t) input own ≡ turn_as end_as (turn_over extent t input own)

-- Code that runs it runs it with other ends.
abbrev pub RunsEndAs : Type 0 → Type 0 → Type 0 → Type 0
RunsEndAs E F A =
    (end_as : E → F) (link link' : LinkState) (desk desk' : DeskView) (t : Interaction E A) (out : Result A (Halt E)) → Runs link link' desk desk' t out → Runs link link' desk desk' (ending_as end_as t) (outcome_as end_as out)

-- It keeps the order.
abbrev pub OrdersEndAs : Type 0 → Type 0 → Type 0 → Type 0
OrdersEndAs E F A = (end_as : E → F) (t : Interaction E A) → IsOrdered t → IsOrdered (ending_as end_as t)

-- One and then another have other ends where each has.
abbrev pub BothEndAs : Type 0 → Type 0 → Type 0 → Type 0 → Type 0
BothEndAs E F A B = (end_as : E → F) (t : Interaction E A) (k : A → Interaction E B) → ending_as end_as (t >>= k) ≡ ending_as end_as t >>= λ a. ending_as end_as (k a)

-- VI. A part of an input

-- Over an input that has all of its part, the turn is that over the part alone.
abbrev pub TurnsOfParts : Type 0 → Type 0 → Type 0
TurnsOfParts E A =
    (extent : Extent) (t : Interaction E A) (most : ℕ) (input : List ℕ) (own : List OwnEntry) → most ≤ length input → turn_over extent (limits most t) input own ≡ turn_over Closed t (take most input) own

-- Code that went along an interaction over the part of the input that is left (`rest` bytes behind what it
-- read) went along the limited one, but where a read failed behind the last of them.
abbrev pub TracesOfParts : Type 0 → Type 0 → Type 0
TracesOfParts E A =
    (left : Option (List ℕ)) (out : Result A (Halt E)) (t : Interaction E A) (rest most : ℕ) (read written : List ℕ) (own : List OwnEntry)
    → length read + rest ≡ most → (rest ≡ 0 → out ≡ Err (Failed Reading) → ⊥) → IsTrace (option_map (take rest) left) out t read written own → IsTrace left out (limits most t) read written own

-- It keeps the order.
abbrev pub OrdersOfParts : Type 0 → Type 0 → Type 0
OrdersOfParts E A = (most : ℕ) (t : Interaction E A) → IsOrdered t → IsOrdered (limits most t)
