-- What a step of reading a pack does.
use Rattle.std.specs.Prelude.{◌≡◌, ◌⊎◌, ⊤, ℕ, ◌+◌, ◌≤◌, List, [], ◌++◌, length, take, drop, IsTrue, IfOk, Option, Some, None, Result, Ok, Err}
use Rattle.std.specs.Io.KnownBytes.{Consumes, IsAtEnd}
use Rattle.sha1.specs.Sha1.{Holds}
use Rattle.sha1.specs.declared.Sha1.{Sha1}
use Rattle.base_types.specs.Counts.{HasRisen}
use Rattle.base_types.specs.Fronts.{Front, Whole, Broken, Partial}
use Rattle.pktline_core.specs.LinkState.{LinkState}
use Rattle.raw_pack.specs.Formats.{Format, behind, front}
use Rattle.raw_pack.specs.declared.fault.PackFault.{PackFault}
use Rattle.raw_pack.specs.declared.fault.PackFault.TheVariants.{BadObject, ReadFault, NoMemory}
use Rattle.git_object.specs.declared.fault.ObjFault.{ObjFault}

-- the bytes end before anything is decided
abbrev pub IsPartial : {V : Type 0} → Front V PackFault → Type 0
IsPartial at = (fault : PackFault) × (at ≡ Partial fault)

-- This fault stands at the front of what was taken, and what was taken shows it; or the input ended before
-- more was known.
abbrev pub ShowsFault : {V : Type 0} → Front V PackFault → ℕ → LinkState → PackFault → Type 0
ShowsFault at taken new fault = (at ≡ Broken taken fault) ⊎ ((at ≡ Partial fault) × IsAtEnd new.left)

-- so many bytes are no more than decide what stands at the front; where nothing is decided yet, any number is
abbrev pub IsNoMore : {V F : Type 0} → Front V F → ℕ → Type 0
IsNoMore (Whole n v) taken = taken ≤ n
IsNoMore (Broken n fault) taken = taken ≤ n
IsNoMore (Partial fault) taken = ⊤

-- What was taken decides the answer. Where memory lacks, no more was taken than decides what stands at the
-- front.
abbrev pub DecidesFault : {V : Type 0} → Front V PackFault → ℕ → LinkState → LinkState → PackFault → Type 0
DecidesFault at taken old new ReadFault = IsPartial at × HasRisen old.read_faults new.read_faults × IsTrue old.may_fail
DecidesFault at taken old new NoMemory = IsNoMore at taken
DecidesFault at taken old new fault = ShowsFault at taken new fault

abbrev pub Decides : {V : Type 0} → Front V PackFault → ℕ → LinkState → LinkState → Result V PackFault → Type 0
Decides at taken old new (Ok v) = at ≡ Whole taken v
Decides at taken old new (Err fault) = DecidesFault at taken old new fault

-- no failed read is hidden
abbrev pub TellsFault : {V : Type 0} → LinkState → LinkState → Result V PackFault → Type 0
TellsFault old new (Err ReadFault) = ⊤
TellsFault old new answer = new.read_faults ≡ old.read_faults

-- So many bytes were taken as decide the answer, and no more.
pub record ReadsFront {V : Type 0} (at : List ℕ → Front V PackFault) (old new : LinkState) (answer : Result V PackFault) : Type 0 where
  pub taken : List ℕ
  pub consumed : Consumes old.left new.left taken
  pub counted : new.given ≡ old.given + length taken
  pub decided : Decides (at taken) (length taken) old new answer

-- The same by a format, and on Ok what was taken was hashed.
pub record Reads {V : Type 0} (format : Format V PackFault) (old new : LinkState) (before after : Sha1) (answer : Result V PackFault) : Type 0 where
  pub taken : List ℕ
  pub consumed : Consumes old.left new.left taken
  pub counted : new.given ≡ old.given + length taken
  pub hashed : IfOk answer (λ v. (m : List ℕ) → Holds before m → Holds after (m ++ taken))
  pub decided : Decides (front format taken) (length taken) old new answer

-- So much of a format was read, and this is left of it.
pub record Leaves {V : Type 0} (whole rest : Format V PackFault) (old new : LinkState) (before after : Sha1) : Type 0 where
  pub taken : List ℕ
  pub consumed : Consumes old.left new.left taken
  pub counted : new.given ≡ old.given + length taken
  pub hashed : (m : List ℕ) → Holds before m → Holds after (m ++ taken)
  pub goes_on : (input : List ℕ) → front whole (taken ++ input) ≡ behind (length taken) (front rest input)

-- the answer of filling a room, with what lies in it
abbrev pub filled : List ℕ → Result (Unit {0}) PackFault → Result (List ℕ) PackFault
filled room (Ok unit) = Ok room
filled room (Err fault) = Err fault

-- the fault of an entry whose body isn't of its form
abbrev pub fault_at : ℕ → ObjFault → PackFault
fault_at entry ObjFault.NoMemory = NoMemory
fault_at entry fault = BadObject entry

-- Over an input that is told the answer is what stands at its front, in whatever pieces the source gives it.
abbrev pub AnswersInput : {V : Type 0} → (List ℕ → Front V PackFault) → List ℕ → Option (List ℕ) → Result V PackFault → Type 0
AnswersInput at input left (Ok v) = (n : ℕ) × (at input ≡ Whole n v) × (left ≡ Some (drop n input))
AnswersInput at input left (Err ReadFault) = (n : ℕ) × IsPartial (at (take n input)) × (left ≡ Some (drop n input))
AnswersInput at input left (Err NoMemory) = (n : ℕ) × IsNoMore (at (take n input)) n × (left ≡ Some (drop n input))
AnswersInput at input left (Err fault) = ((n : ℕ) × (at input ≡ Broken n fault) × (left ≡ Some (drop n input))) ⊎ ((at input ≡ Partial fault) × (left ≡ Some []))

-- the same of what a source has left, before and after, where it tells it
unfoldable pub AnswersLeft : {V : Type 0} → (List ℕ → Front V PackFault) → Option (List ℕ) → Option (List ℕ) → Result V PackFault → Type 0
AnswersLeft at None left answer = ⊤
AnswersLeft at (Some input) left answer = AnswersInput at input left answer
