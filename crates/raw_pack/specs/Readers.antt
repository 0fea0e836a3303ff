-- What a reader of a pack's entries does.
use Rattle.std.specs.Prelude.{◌≡◌, ◌⊎◌, ⊤, IsTrue, ℕ, ◌-◌, List, [], ◌∷◌, ◌++◌, length, Option, Some, None, Result, Ok, Err}
use Rattle.std.specs.Prelude.{Bool, if◌then◌else◌}
use Rattle.std.specs.Option.{option_map}
use Rattle.sha1.specs.Sha1.{Holds}
use Rattle.sha1.specs.declared.Sha1.{Sha1}
use Rattle.git_object.specs.Content.{Content}
use Rattle.base_types.specs.Counts.{HasRisen}
use Rattle.pktline_core.specs.LinkState.{LinkState}
use Rattle.pktline_core.specs.Links.{IsLater}
use Rattle.raw_pack.specs.Packs.{signed_part, pack_entries, pack_front}
use Rattle.raw_pack.specs.Reading.{Leaves, ReadsFront}
use Rattle.raw_pack.specs.declared.entry.PackEntry.{PackEntry}
use Rattle.raw_pack.specs.declared.fault.PackFault.{PackFault}
use Rattle.raw_pack.specs.declared.fault.PackFault.TheVariants.{ReadFault}

pub record ReaderState : Type 0 where
  -- the SHA-1 of what was read, so far
  pub hasher : Sha1
  -- how many entries the pack has, how many were read, and how many bytes their bodies have
  pub count : ℕ
  pub read : ℕ
  pub sum : ℕ
  -- the last one
  pub last : Option Content
  -- how the pack ended: its trailer agreed, or a fault
  pub end : Option (Result (Unit {0}) PackFault)

-- an entry that is lent, seen as its value
abbrev pub content_of : PackEntry → Content
content_of entry = record { kind = entry.kind; body = entry.body.now }

abbrev pub entry_answer : Result (Option PackEntry) PackFault → Result (Option Content) PackFault
entry_answer (Ok entry) = Ok (option_map content_of entry)
entry_answer (Err fault) = Err fault

-- the answer of a step that kept its object, or read the trailer
abbrev pub kept_answer : ReaderState → Result Bool PackFault → Result (Option Content) PackFault
kept_answer reader (Ok kept) = Ok (if kept then reader.last else None)
kept_answer reader (Err fault) = Err fault

-- the answer that an ended reader repeats
abbrev pub end_answer : Result (Unit {0}) PackFault → Result (Option Content) PackFault
end_answer (Ok unit) = Ok None
end_answer (Err fault) = Err fault

-- The reader stands behind these objects of a pack that began at this state of the source.
pub record Stands (start now : LinkState) (reader : ReaderState) (contents : List Content) : Type 0 where
  pub first : Sha1
  pub empty : Holds first []
  pub leaves : Leaves signed_part (pack_entries (reader.count - reader.read) reader.read reader.sum contents) start now first reader.hasher
  pub later : IsLater start now
  pub all : length contents ≡ reader.read
  pub goes : reader.end ≡ None

-- After the header the reader stands before the first entry; a fault is the pack's.
abbrev pub Begins : LinkState → LinkState → Result ReaderState PackFault → Type 0
Begins old new (Ok reader) = Stands old new reader []
Begins old new (Err fault) = ReadsFront pack_front old new (Err fault)

-- What stands at the front of the source as it was at the beginning: one object more, or the whole pack, or a
-- fault.
abbrev pub Advances : LinkState → LinkState → ReaderState → List Content → Result (Option Content) PackFault → Type 0
Advances start now reader contents (Ok (Some content)) = Stands start now reader (contents ++ content ∷ [])
Advances start now reader contents (Ok None) = ReadsFront pack_front start now (Ok contents) × (reader.end ≡ Some (Ok tt))
Advances start now reader contents (Err fault) = ReadsFront pack_front start now (Err fault) × (reader.end ≡ Some (Err fault))

-- how a reader at these states goes on, wherever its pack began
unfoldable pub GoesOn : LinkState → LinkState → ReaderState → ReaderState → Result (Option Content) PackFault → Type 0
GoesOn old new before after answer = (start : LinkState) (contents : List Content) → Stands start old before contents → Advances start new after contents answer

-- a reader that has ended answers the same again, and takes nothing
unfoldable pub Repeats : {S : Type 0} → S → S → ReaderState → ReaderState → Result (Option Content) PackFault → Type 0
Repeats old new before after answer = (end : Result (Unit {0}) PackFault) → before.end ≡ Some end → (answer ≡ end_answer end) × (new ≡ old) × (after ≡ before)

-- A failed read is told only where one failed in this call and the source may fail, or by a reader that ended
-- with one.
abbrev pub HasCause : {V : Type 0} → LinkState → LinkState → ReaderState → Result V PackFault → Type 0
HasCause old new before (Err ReadFault) = (HasRisen old.read_faults new.read_faults × IsTrue old.may_fail) ⊎ (before.end ≡ Some (Err ReadFault))
HasCause old new before answer = ⊤

-- a reader goes on, and one that has ended repeats its answer
pub record NextEntry {S : Type 0} (source source' : S) (old new : LinkState) (before after : ReaderState) (answer : Result (Option Content) PackFault) : Type 0 where
  pub goes_on : GoesOn old new before after answer
  pub repeats : Repeats source source' before after answer
