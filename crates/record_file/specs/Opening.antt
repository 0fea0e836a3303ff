-- What opening a file of records answers.
use Rattle.std.specs.Prelude.{◌≡◌, ⊤, ℕ, ◌+◌, ◌≤◌, ◌<◌, List, [], ◌∷◌, length, map, Result, Ok, Err}
use Rattle.base_types.specs.Counts.{HasRisen}
use Rattle.record_file.specs.Crashes.{FileState, settled}
use Rattle.record_file.specs.Disks.{DiskState}
use Rattle.record_file.specs.Records.{head_of, record_size, Holds, IsNoRecordFile, HasAnotherName}
use Rattle.record_file.specs.Reading.{IsReadTo}
use Rattle.record_file.specs.declared.open_fault.OpenFault.{OpenFault}
use Rattle.record_file.specs.declared.open_fault.OpenFault.TheVariants.{NotARecordFile, NameDiffers, BadRecord, DiskFault}
use Rattle.record_file.specs.declared.stored_record.StoredRecord.{StoredRecord}

-- `DiskFault` comes exactly where the count of failed calls rose.
abbrev pub ReportsFaults : {T : Type 0} → Result T OpenFault → DiskState → DiskState → Type 0
ReportsFaults (Err DiskFault) old new = HasRisen old.disk_faults new.disk_faults × (old.disk_faults ≤ new.disk_faults)
ReportsFaults answer old new = new.disk_faults ≡ old.disk_faults

-- what the head of a file that isn't empty answers
abbrev pub ChecksHead : List ℕ → List ℕ → List ℕ → Result ℕ OpenFault → Type 0
ChecksHead magic name file (Ok offset) = IsReadTo (head_of magic name) [] file (length (head_of magic name))
ChecksHead magic name file (Err NotARecordFile) = IsNoRecordFile magic file
ChecksHead magic name file (Err NameDiffers) = HasAnotherName magic name file
ChecksHead magic name file (Err (BadRecord offset)) = ⊥
ChecksHead magic name file (Err fault) = ⊤

-- A file that was opened is read up to its first gate, and nothing is pending.
pub record IsStarted (head : List ℕ) (file : FileState) : Type 0 where
  pub read : IsReadTo head [] file.content (length head)
  pub settled : file.pending ≡ settled file.content

-- The file is too short for a record behind this head.
abbrev pub IsTooShort : List ℕ → List ℕ → Type 0
IsTooShort head file = length file ≤ length head + 1

abbrev pub bodies_of : List StoredRecord → List (List ℕ)
bodies_of records = map (λ r. r.body) records

-- These are the records of the file; an empty file has none.
abbrev pub AreRecordsOf : List ℕ → List StoredRecord → List ℕ → Type 0
AreRecordsOf head records file = (length file ≡ 0 → records ≡ []) × (0 < length file → Holds head (bodies_of records) file)

-- records with these bodies, each with the offset of its gate; the first is at this one
abbrev pub with_offsets : ℕ → List (List ℕ) → List StoredRecord
with_offsets offset [] = []
with_offsets offset (body ∷ bodies) = record { offset = offset; body = body } ∷ with_offsets (offset + record_size body) bodies
