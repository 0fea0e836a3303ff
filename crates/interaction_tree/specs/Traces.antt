-- How code goes along an interaction.
use Rattle.std.specs.Prelude.{◌≡◌, ◌⊎◌, ℕ, ◌<◌, List, [], ◌∷◌, ◌++◌, length, Option, Result, Ok, Err}
use Rattle.std.specs.Io.KnownBytes.{IsAtEnd}
use Rattle.base_types.specs.Fronts.{Partial}
use Rattle.raw_pack.specs.Reading.{IsNoMore}
use Rattle.interaction_tree.specs.Wanted.{Wanted, Value, Fault, front_of, shown}
use Rattle.interaction_tree.specs.Requests.{OwnEntry, asked}
use Rattle.interaction_tree.specs.Interaction.{Interaction, gives, ends, writes, reads, asks}

-- what may stop code anywhere, whatever the interaction says
pub data Failure : Type 0 where
  -- a read failed
  Reading : Failure
  -- a write failed
  Writing : Failure
  -- memory lacked
  Memory : Failure

-- how an interaction was left without a value
pub data Halt (E : Type 0) : Type 0 where
  Ended : E → Halt E
  Failed : Failure → Halt E

-- the same with another end
abbrev pub halt_as : {E F : Type 0} → (E → F) → Halt E → Halt F
halt_as end_as (Ended e) = Ended (end_as e)
halt_as end_as (Failed failure) = Failed failure

abbrev pub outcome_as : {E F A : Type 0} → (E → F) → Result A (Halt E) → Result A (Halt F)
outcome_as end_as (Ok a) = Ok a
outcome_as end_as (Err halt) = Err (halt_as end_as halt)

-- a list begins another
abbrev pub Begins : {X : Type 0} → List X → List X → Type 0
Begins {X} front whole = (rest : List X) × (whole ≡ front ++ rest)

-- a list begins another, and isn't all of it
abbrev pub FallsShort : {X : Type 0} → List X → List X → Type 0
FallsShort {X} front whole = (rest : List X) × (whole ≡ front ++ rest) × (0 < length rest)

-- the input ended inside what is wanted, by this fault
abbrev pub IsCutOff : Option (List ℕ) → (wanted : Wanted) → List ℕ → Fault wanted → Type 0
IsCutOff left wanted read fault = (front_of wanted read ≡ Partial fault) × IsAtEnd left

-- Code stands still at this step with this outcome, having read and written so much of the step; `left` is
-- what is left of the input.
abbrev pub StandsStill : {E A : Type 0} → Option (List ℕ) → Result A (Halt E) → Interaction E A → List ℕ → List ℕ → Type 0
StandsStill left (Ok a) (gives b) read written = (a ≡ b) × (read ≡ []) × (written ≡ [])
StandsStill left (Err (Ended e)) (ends e') read written = (e ≡ e') × (read ≡ []) × (written ≡ [])
StandsStill left (Err (Ended e)) (reads wanted cut f) read written =
    (fault : Fault wanted) × IsCutOff left wanted read fault × (e ≡ (cut fault).end) × (written ≡ (cut fault).bytes)
-- a read failed inside what is wanted
StandsStill left (Err (Failed Reading)) (reads wanted cut f) read written = (fault : Fault wanted) × (front_of wanted read ≡ Partial fault) × (written ≡ [])
-- a write failed before the last byte
StandsStill left (Err (Failed Writing)) (writes bytes t) read written = (read ≡ []) × FallsShort written bytes
StandsStill left (Err (Failed Writing)) (reads wanted cut f) read written = (fault : Fault wanted) × IsCutOff left wanted read fault × FallsShort written (cut fault).bytes
-- memory may lack anywhere, also after a part of what is wanted was read, or all of it, but no more
StandsStill left (Err (Failed Memory)) (gives a) read written = (read ≡ []) × (written ≡ [])
StandsStill left (Err (Failed Memory)) (ends e) read written = (read ≡ []) × (written ≡ [])
StandsStill left (Err (Failed Memory)) (writes bytes t) read written = (read ≡ []) × Begins written bytes
StandsStill left (Err (Failed Memory)) (reads wanted cut f) read written =
    ((written ≡ []) × IsNoMore (front_of wanted read) (length read)) ⊎ ((fault : Fault wanted) × IsCutOff left wanted read fault × Begins written (cut fault).bytes)
StandsStill left (Err (Failed Memory)) (asks request f) read written = (read ≡ []) × (written ≡ [])
StandsStill left _ _ read written = ⊥

-- Code went along the interaction up to where it stands still with this outcome, and on the way read and
-- wrote these bytes and made these entries.
abbrev pub IsTrace : {E A : Type 0} → Option (List ℕ) → Result A (Halt E) → Interaction E A → List ℕ → List ℕ → List OwnEntry → Type 0
IsTrace left out (gives a) read written own = StandsStill left out (gives a) read written × (own ≡ [])
IsTrace left out (ends e) read written own = StandsStill left out (ends e) read written × (own ≡ [])
IsTrace left out (writes bytes t) read written own =
    (StandsStill left out (writes bytes t) read written × (own ≡ []))
    ⊎ ((more : List ℕ) × (written ≡ bytes ++ more) × IsTrace left out t read more own)
IsTrace left out (reads wanted cut f) read written own =
    (StandsStill left out (reads wanted cut f) read written × (own ≡ []))
    ⊎ ((first : List ℕ) × (more : List ℕ) × (found : Result (Value wanted) (Fault wanted))
    × (read ≡ first ++ more) × (front_of wanted first ≡ shown (length first) found)
    × IsTrace left out (f (record { used = length first; found = found })) more written own)
IsTrace left out (asks request f) read written own =
    (StandsStill left out (asks request f) read written × (own ≡ []))
    ⊎ ((one : OwnEntry) × (more : List OwnEntry) × (own ≡ one ∷ more) × (asked one ≡ request) × IsTrace left out (f one) read written more)
