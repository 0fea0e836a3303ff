-- After which openings the file of a journal has pushes.
use Rattle.std.specs.Prelude.{◌≡◌, ℕ, ◌<◌, List, length, take, Option, None, Some, if◌then◌else◌}
use Rattle.std.specs.Ordering.{nat_cmp, is_eq}
use Rattle.record_file.specs.Reading.{HasNoRecord, IsFrontAt, IsReadTo, IsRecordAt, ReaderState}
use Rattle.record_file.specs.declared.stored_record.StoredRecord.{StoredRecord}
use Rattle.event_record.specs.Fronts.{place_at}
use Rattle.hub_journal.specs.Replay.{IsAwaited}

-- Of each push among the records of a file it is known that its opening has a push at that record's place in
-- the log or a later one.
abbrev pub TellsPushes : List ℕ → List ℕ → (ℕ → Option ℕ) → Type 0
TellsPushes head file last_pushes =
    (bodies : List (List ℕ)) (body : List ℕ) (offset next opening : ℕ)
    → IsReadTo head bodies file offset → IsRecordAt file offset body next → place_at (take 17 body) ≡ Some opening → IsAwaited last_pushes (length bodies) opening

-- what is known of last pushes once this one, if it is one, was met at a place of the log
abbrev pub noted : Option ℕ → ℕ → (ℕ → Option ℕ) → ℕ → Option ℕ
noted None place known = known
noted (Some opening) place known = λ q. if is_eq (nat_cmp opening q) then Some place else known q

-- the front of the next record, where there is one
abbrev pub FindsFront : List ℕ → ℕ → ℕ → Option StoredRecord → Type 0
FindsFront file offset next (Some r) = IsFrontAt 17 file offset r.body next
FindsFront file offset next None = HasNoRecord file offset

-- The reader is behind the record that was found, if there was one.
abbrev pub MovesOn : Option StoredRecord → ReaderState → ReaderState → Type 0
MovesOn (Some r) old new = (new.size ≡ old.size) × (old.offset < new.offset)
MovesOn None old new = new ≡ old
