-- What is found in a file that a crash may have left of a journal.
use Rattle.std.specs.Prelude.{◌≡◌, ◌⊎◌, ℕ, ◌≤◌, List, length, take}
use Rattle.ref_store.specs.Refs.{Name}
use Rattle.hub_history.specs.declared.entry.Entry.{Entry}
use Rattle.hub_history.specs.History.{IsLegal, replay}
use Rattle.hub_journal.specs.Events.{AreStorableEntries, HoldsEvents, HoldsSome, bodies_in}
use Rattle.hub_journal.specs.Recovery.{AreEventsOf, IsNoJournal}
use Rattle.hub_journal.specs.declared.open_fault.OpenFault.{OpenFault}
use Rattle.hub_journal.specs.declared.open_fault.OpenFault.TheVariants.{DiskFault, NoMemory}
use Rattle.lasting_events.specs.Lasting.{lasting}

-- a log as a journal's hub makes it: it is legal, and a body can be made of each event
abbrev pub IsJournalLog : Name → List Entry → Type 0
IsJournalLog admin log = IsLegal admin log × AreStorableEntries log

-- the first so many entries of a log, at least this many
pub record IsBeginning (log : List Entry) (least : ℕ) (found : List Entry) : Type 0 where
  pub count : ℕ
  pub enough : least ≤ count
  pub there : count ≤ length log
  pub found_is : found ≡ take count log

-- Two logs whose events have the same bodies are one.
abbrev pub BodiesTellTheLog : Type 0
BodiesTellTheLog = (admin : Name) (one other : List Entry) → IsJournalLog admin one → IsJournalLog admin other → bodies_in one ≡ bodies_in other → one ≡ other

-- Of a file that holds the first events of a log, at least so many, a hub is made again with a beginning of
-- that log, with at least so many entries: answers and all.
abbrev pub FoundIsBeginning : Type 0
FoundIsBeginning =
    (admin : Name) (log found : List Entry) (least : ℕ) (file : List ℕ)
    → IsJournalLog admin log → IsJournalLog admin found → HoldsSome admin log least file → AreEventsOf admin found file → IsBeginning log least found

-- Such a file isn't refused: it is opened, unless a call of the disk fails or memory lacks.
abbrev pub OwnIsNotRefused : Type 0
OwnIsNotRefused =
    (admin : Name) (log : List Entry) (least : ℕ) (file : List ℕ) (fault : OpenFault)
    → IsJournalLog admin log → HoldsSome admin log least file → IsNoJournal admin file fault → (fault ≡ DiskFault) ⊎ (fault ≡ NoMemory)

-- ---- where only the entries that last are stored

-- A file holds the lasting entries of the first so many of a legal log, and a body can be made of each that
-- lasts.
pub record HoldsThoseThatLast (admin : Name) (log : List Entry) (start count : ℕ) (file : List ℕ) : Type 0 where
  pub legal : IsLegal admin log
  pub storable : AreStorableEntries (lasting start log)
  pub first : start ≤ count
  pub there : count ≤ length log
  pub holds : HoldsEvents admin (lasting start (take count log)) file

-- Of such a file a hub is made again with exactly these entries, and in the state of that beginning of the
-- log: nothing that it changed is lost.
abbrev pub LastingAreFound : Type 0
LastingAreFound =
    (admin : Name) (log found : List Entry) (start count : ℕ) (file : List ℕ) → HoldsThoseThatLast admin log start count file → IsJournalLog admin found → AreEventsOf admin found file
    → (found ≡ lasting start (take count log)) × (replay admin found ≡ replay admin (take count log))

-- Nor is such a file refused.
abbrev pub LastingAreNotRefused : Type 0
LastingAreNotRefused =
    (admin : Name) (log : List Entry) (start count : ℕ) (file : List ℕ) (fault : OpenFault)
    → HoldsThoseThatLast admin log start count file → IsNoJournal admin file fault → (fault ≡ DiskFault) ⊎ (fault ≡ NoMemory)
