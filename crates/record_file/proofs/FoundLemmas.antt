-- What was found in a file, and what the file was before it was opened.
use Rattle.std.proofs.Common.{◌≡◌, ◌⊎◌, inl, inr, ℕ, ◌<◌, List, [], ◌∷◌, ◌++◌, length, refl, ap, subst, arith}
use Rattle.record_file.specs.Records.{head_of, Holds, IsBadAt}
use Rattle.record_file.specs.Reading.{IsRefused, IsBadRecord}
use Rattle.std.specs.Prelude.{Err}
use Rattle.record_file.specs.Opening.{bodies_of, AreRecordsOf, ChecksHead}
use Rattle.record_file.specs.declared.stored_record.StoredRecord.{StoredRecord}
use Rattle.record_file.specs.declared.open_fault.OpenFault.{OpenFault}
use Rattle.record_file.specs.declared.open_fault.OpenFault.TheVariants.{NotARecordFile, NameDiffers, BadRecord, DiskFault, NoMemory}
use Rattle.record_file.proofs.RecordLemmas.{begins_none}
use Rattle.record_file.proofs.OneReading.{one_reading, not_both}

empty_or_not : (file : List ℕ) → (length file ≡ 0) ⊎ (0 < length file)
empty_or_not [] = inl refl
empty_or_not (x ∷ file) = inr (omega arith)

pub holds_none : (head file : List ℕ) → file ≡ head ++ 0 ∷ [] → Holds head [] file
holds_none head file is = record { free = []; begins = begins_none head file (0 ∷ []) is }

no_records : (records : List StoredRecord) → bodies_of records ≡ [] → records ≡ []
no_records [] none = refl
no_records (r ∷ records) none = absurd (omega (arith, ap length none))

-- the file before, and the file once it was begun to be read
module _ (head old new : List ℕ) (same : 0 < length old → new ≡ old) (begun : length old ≡ 0 → new ≡ head ++ 0 ∷ []) where
  pub found_there : (records : List StoredRecord) → Holds head (bodies_of records) new → AreRecordsOf head records old
  found_there records holds = (
    λ none. no_records records (one_reading head (bodies_of records) [] new holds (holds_none head new (begun none))),
    λ some. subst (λ (l : List ℕ). Holds head (bodies_of records) l) (same some) holds,
  )

  bad_there : (offset : ℕ) → IsBadAt head new offset → IsBadAt head old offset
  bad_there offset bad = elim (empty_or_not old) [
    | inl none ↦ absurd (not_both head [] new offset (holds_none head new (begun none)) bad)
    | inr some ↦ subst (λ (l : List ℕ). IsBadAt head l offset) (same some) bad
  ]

pub refused_there : (magic name old new : List ℕ) (fault : OpenFault) → (0 < length old → new ≡ old) → (length old ≡ 0 → new ≡ head_of magic name ++ 0 ∷ []) → IsBadRecord (head_of magic name) new fault → IsRefused magic name old fault
refused_there magic name old new NotARecordFile same begun never = absurd never
refused_there magic name old new NameDiffers same begun never = absurd never
refused_there magic name old new (BadRecord offset) same begun bad = bad_there (head_of magic name) old new same begun offset bad
refused_there magic name old new DiskFault same begun done = tt
refused_there magic name old new NoMemory same begun done = tt

-- a file that is refused by its head
pub head_refused : (magic name file : List ℕ) (fault : OpenFault) → ChecksHead magic name file (Err fault) → IsRefused magic name file fault
head_refused magic name file NotARecordFile is = is
head_refused magic name file NameDiffers is = is
head_refused magic name file (BadRecord offset) never = absurd never
head_refused magic name file DiskFault done = tt
head_refused magic name file NoMemory done = tt
