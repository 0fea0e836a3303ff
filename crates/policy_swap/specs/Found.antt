-- The files that were found, by their names. It serves private functions alone.
use Rattle.std.specs.Prelude.{◌≡◌, ◌⊎◌, ℕ, true, false, List, map, Option, None, Some, IsSome, Result, Ok, Err}
use Rattle.std.specs.List.{Contains}
use Rattle.std.specs.FinMap as named
use Rattle.git_object.specs.Content.{Content}
use Rattle.git_object.specs.declared.object_id.ObjectId.{ObjectId}
use Rattle.vref.specs.Rows.{Path}
use Rattle.conf_groups.specs.Files.{Files}
use Rattle.conf_groups.specs.Splicing.{is_too_large, main_name}
use Rattle.conf_groups.specs.declared.conf_file.ConfFile.{ConfFile}
use Rattle.conf_groups.specs.declared.fault.ConfFault.{ConfFault}
use Rattle.conf_groups.specs.declared.fault.ConfKind.{ConfKind}
use Rattle.conf_groups.specs.declared.fault.ConfKind.TheVariants as kind
use Rattle.policy_swap.specs.Conf.{HasNoPlace, HasTooManyRows, IsBeforeAll, file_at}
use Rattle.policy_swap.specs.declared.rows.Row.{Row}
use Rattle.policy_swap.specs.declared.rows.Row.TheVariants.{File}

-- a file of this name and these bytes is among the rows
abbrev pub HasFile : List Row → Path → List ℕ → Type 0
HasFile rows path text = Contains rows (File (record { path = path; body = text }))

-- a name is found exactly where some row is a file of it, and with the bytes of one
pub record AreGathered (rows : List Row) (files : Files) : Type 0 where
  pub sound : (path : Path) (text : List ℕ) → named.get files path ≡ Some text → HasFile rows path text
  pub all : (path : Path) (text : List ℕ) → HasFile rows path text → ¬ (named.get files path ≡ None)

-- the files below a tree, which hasn't too many rows
abbrev pub FindsFiles : List Content → Option ObjectId → Files → Type 0
FindsFiles objects tree files = ¬ HasTooManyRows objects tree × ((name : Path) → named.get files name ≡ file_at objects tree name)

-- files in a list
abbrev pub conf_file : List ℕ × List ℕ → ConfFile
conf_file e = record { name = e.0; text = e.1 }

abbrev pub listed : List (List ℕ × List ℕ) → List ConfFile
listed es = map conf_file es

-- the fault of a kind, or out of memory
abbrev pub IsFault : ConfKind → ConfFault → Type 0
IsFault k e = ((e.kind ≡ k) × IsBeforeAll e) ⊎ ((e.kind ≡ kind.NoMemory) × HasNoPlace e)

-- what is returned of files by name
abbrev pub TellsFaultOfFiles : Files → ConfKind → ConfFault → Type 0
TellsFaultOfFiles files kind.TooLong e = (is_too_large files ≡ true) × IsBeforeAll e
TellsFaultOfFiles files (kind.NoFile name) e = (is_too_large files ≡ false) × (named.get files main_name ≡ None) × (name ≡ main_name) × IsBeforeAll e
TellsFaultOfFiles files kind.NoMemory e = HasNoPlace e
TellsFaultOfFiles files (kind.Lex fault) e = ⊥
TellsFaultOfFiles files kind.SubconfInSubconf e = ⊥

abbrev pub TellsOfFiles : Files → Result (List ConfFile) ConfFault → Type 0
TellsOfFiles files (Ok list) = (is_too_large files ≡ false) × IsSome (named.get files main_name) × (list ≡ listed (named.entries files))
TellsOfFiles files (Err e) = TellsFaultOfFiles files e.kind e
