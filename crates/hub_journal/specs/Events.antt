-- The events of a log as a file keeps them: who asked, and what. Answers aren't kept.
use Rattle.std.specs.Prelude.{ℕ, ◌≤◌, List, codes, length, map, take}
use Rattle.std.specs.List.{AllByRecursion}
use Rattle.ref_store.specs.Refs.{Name}
use Rattle.hub_history.specs.declared.entry.Entry.{Entry}
use Rattle.hub_history.specs.Requests.{Request, request_of}
use Rattle.record_file.specs.Records.{Holds, head_of}
use Rattle.event_record.specs.Bodies.{body_of, IsStorable}

-- who asked, and what
abbrev pub asked_in : Entry → ℕ × Request
asked_in e = (e.caller, request_of e.event)

-- the bodies of a log's events
abbrev pub body_in : Entry → List ℕ
body_in e = body_of e.caller (request_of e.event)

abbrev pub bodies_in : List Entry → List (List ℕ)
bodies_in log = map body_in log

-- a body can be made of an event, and of each
abbrev pub IsStorableEntry : Entry → Type 0
IsStorableEntry e = IsStorable e.caller (request_of e.event)

abbrev pub AreStorableEntries : List Entry → Type 0
AreStorableEntries log = AllByRecursion IsStorableEntry log

-- the first bytes of a journal
abbrev pub magic : List ℕ
magic = codes "GITOLOG1"

-- the head of an admin's journal
abbrev pub head_for : Name → List ℕ
head_for admin = head_of magic admin

-- The file is the journal of an admin's hub, and holds the events of this log.
abbrev pub HoldsEvents : Name → List Entry → List ℕ → Type 0
HoldsEvents admin log file = Holds (head_for admin) (bodies_in log) file

-- The file holds the first so many events of a log, at least this many.
pub record HoldsSome (admin : Name) (log : List Entry) (least : ℕ) (file : List ℕ) : Type 0 where
  pub count : ℕ
  pub enough : least ≤ count
  pub there : count ≤ length log
  pub holds : HoldsEvents admin (take count log) file
