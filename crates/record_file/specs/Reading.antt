-- What reading a file of records answers.
use Rattle.std.specs.Prelude.{◌≡◌, ◌≢◌, ◌⊎◌, ⊤, ℕ, ◌+◌, ◌<◌, ◌^◌, List, ◌∷◌, ◌++◌, length, take, drop, min, slice_index, Result, Ok, Err, Option, Some, None}
use Rattle.std.specs.Borrow.{Bor}
use Rattle.record_file.specs.Records.{head_of, framed, record_size, Begins, IsFramed, IsNoRecordFile, HasAnotherName, IsBadAt}
use Rattle.record_file.specs.declared.open_fault.OpenFault.{OpenFault}
use Rattle.record_file.specs.declared.open_fault.OpenFault.TheVariants.{NotARecordFile, NameDiffers, BadRecord, DiskFault, NoMemory}
use Rattle.record_file.specs.declared.stored_record.StoredRecord.{StoredRecord}

-- why a file isn't one of records, each fault by its word; the other faults say nothing of the file
abbrev pub IsRefused : List ℕ → List ℕ → List ℕ → OpenFault → Type 0
IsRefused magic name file NotARecordFile = IsNoRecordFile magic file
IsRefused magic name file NameDiffers = HasAnotherName magic name file
IsRefused magic name file (BadRecord offset) = IsBadAt (head_of magic name) file offset
IsRefused magic name file DiskFault = ⊤
IsRefused magic name file NoMemory = ⊤

-- why the records of a file aren't read whole
abbrev pub IsBadRecord : List ℕ → List ℕ → OpenFault → Type 0
IsBadRecord head file (BadRecord offset) = IsBadAt head file offset
IsBadRecord head file DiskFault = ⊤
IsBadRecord head file NoMemory = ⊤
IsBadRecord head file fault = ⊥

-- what the first bytes of a file say of its head
abbrev pub ReadsHead : List ℕ → List ℕ → List ℕ → Result (Bor (List ℕ)) OpenFault → Type 0
ReadsHead magic name bytes (Ok rest) = (bytes ≡ head_of magic name ++ rest.now) × (0 < length rest.now)
ReadsHead magic name bytes (Err NotARecordFile) = IsNoRecordFile magic bytes
ReadsHead magic name bytes (Err NameDiffers) = HasAnotherName magic name bytes
ReadsHead magic name bytes (Err fault) = ⊥

-- The file begins with this head and these records, and goes on with a gate at this offset.
pub record IsReadTo (head : List ℕ) (bodies : List (List ℕ)) (file : List ℕ) (offset : ℕ) : Type 0 where
  pub begins : Begins head bodies file (drop offset file)
  pub within : offset < length file

-- The gate at this offset is zero.
abbrev pub IsClosedAt : List ℕ → ℕ → Type 0
IsClosedAt file offset = drop offset file ≡ 0 ∷ drop (offset + 1) file

-- A whole record with this body is at this offset, and the next gate at the other.
pub record IsRecordAt (file : List ℕ) (offset : ℕ) (body : List ℕ) (next : ℕ) : Type 0 where
  pub gate : ℕ
  pub opened : gate ≢ 0
  pub fits : length body < 2 ^ 64
  pub spells : drop offset file ≡ gate ∷ (framed body ++ drop next file)
  pub within : next < length file

-- The gate at this offset isn't zero, and no whole record with a byte behind it follows.
pub record IsBadGate (file : List ℕ) (offset : ℕ) : Type 0 where
  pub opened : slice_index file offset ≢ 0
  pub no_record : (body more : List ℕ) → IsFramed (drop (offset + 1) file) body more → ⊥

-- a reader: the offset of the gate that it reads next, and the length of the file
pub record ReaderState : Type 0 where
  pub offset : ℕ
  pub size : ℕ

-- The reader knows the length of the disk's file, and its gate is in it.
pub record IsAtGate (reader : ReaderState) (size : ℕ) : Type 0 where
  pub same : reader.size ≡ size
  pub within : reader.offset < size

-- what the next record's answer says of the file
abbrev pub ReadsNext : List ℕ → ℕ → ℕ → Result (Option StoredRecord) OpenFault → Type 0
ReadsNext file offset next (Ok (Some r)) = IsRecordAt file offset r.body next
ReadsNext file offset next (Ok None) = IsClosedAt file offset
ReadsNext file offset next (Err (BadRecord place)) = (place ≡ offset) × IsBadGate file offset
ReadsNext file offset next (Err DiskFault) = ⊤
ReadsNext file offset next (Err NoMemory) = ⊤
ReadsNext file offset next (Err fault) = ⊥

-- where the reader is then: behind a record that was read, else where it was
abbrev pub Moves : Result (Option StoredRecord) OpenFault → ReaderState → ReaderState → Type 0
Moves (Ok (Some r)) old new = (r.offset ≡ old.offset) × (new ≡ record old { offset = old.offset + record_size r.body })
Moves answer old new = new ≡ old

-- No whole record is at this offset: its gate is zero, or isn't and nothing whole follows.
abbrev pub HasNoRecord : List ℕ → ℕ → Type 0
HasNoRecord file offset = IsClosedAt file offset ⊎ IsBadGate file offset

-- A whole record is at this offset, and these are the first bytes of its body, at most so many.
pub record IsFrontAt (most : ℕ) (file : List ℕ) (offset : ℕ) (front : List ℕ) (next : ℕ) : Type 0 where
  pub body : List ℕ
  pub there : IsRecordAt file offset body next
  pub front_is : front ≡ take most body

-- what the answer with the front of the next record says of the file
abbrev pub ReadsFront : ℕ → List ℕ → ℕ → ℕ → Result (Option StoredRecord) OpenFault → Type 0
ReadsFront most file offset next (Ok (Some r)) = IsFrontAt most file offset r.body next
ReadsFront most file offset next answer = ReadsNext file offset next answer

-- The reader is behind a record whose body begins with this front, at most so many bytes of it.
pub record IsBehind (most : ℕ) (front : List ℕ) (old new : ReaderState) : Type 0 where
  pub size : ℕ
  pub fits : size < 2 ^ 64
  pub long : length front ≡ min size most
  pub place : new ≡ record old { offset = old.offset + (9 + size) }

-- where the reader is then: behind a record of which the front was read, else where it was
abbrev pub MovesBehind : ℕ → Result (Option StoredRecord) OpenFault → ReaderState → ReaderState → Type 0
MovesBehind most (Ok (Some r)) old new = (r.offset ≡ old.offset) × IsBehind most r.body old new
MovesBehind most answer old new = Moves answer old new

-- The first of these bodies are those, and this one follows.
pub record GoesOnWith (all some : List (List ℕ)) (body : List ℕ) : Type 0 where
  pub more : List (List ℕ)
  pub all_is : all ≡ some ++ body ∷ more
