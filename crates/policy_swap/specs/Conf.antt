-- The conf at a commit: which files it has, and what is returned of it.
use Rattle.std.specs.Prelude.{◌≡◌, ◌⊎◌, ◌↔◌, ◌<◌, ◌&&◌, ◌||◌, ℕ, Bool, true, nat_le, if◌then◌else◌, List, [], ◌∷◌, map, length, codes, Option, None, Some, Result, Ok, Err}
use Rattle.std.specs.List.{All, Contains}
use Rattle.std.specs.Str.{bytes_eq}
use Rattle.git_object.specs.Content.{Content}
use Rattle.git_object.specs.Tree.{Entry}
use Rattle.git_object.specs.declared.kind.Kind.{Kind}
use Rattle.git_object.specs.declared.kind.Kind.TheVariants.{Commit, Tree, Blob, Tag}
use Rattle.git_object.specs.declared.object_id.ObjectId.{ObjectId}
use Rattle.ref_store.specs.Objects.{first_named}
use Rattle.vref.specs.Root.{root_of}
use Rattle.vref.specs.Rows.{Name, Path, entry_at, tree_below, row}
use Rattle.vref.specs.Paths.{Ascend}
use Rattle.conf_groups.specs.Files.{by_name}
use Rattle.conf_groups.specs.Splicing.{is_too_large, main_name}
use Rattle.conf_groups.specs.declared.conf_file.ConfFile.{ConfFile}
use Rattle.conf_groups.specs.declared.conf_file.TheConstants.{MAX_FILE_NAME}
use Rattle.conf_groups.specs.declared.fault.ConfFault.{ConfFault}
use Rattle.conf_groups.specs.declared.fault.ConfKind.{ConfKind}
use Rattle.conf_groups.specs.declared.fault.ConfKind.TheVariants as kind
use Rattle.policy_swap.specs.declared.rows.TheConstants.{MAX_ROWS}

-- the folder of the conf
abbrev pub conf_name : Name
conf_name = codes "conf"

-- the tree of the directory `conf` of a commit; where none is, the empty tree
abbrev pub conf_tree : List Content → ObjectId → Option ObjectId
conf_tree objects commit = tree_below (entry_at objects (root_of objects commit) conf_name)

-- a file, one that can be run, one that its group may write
abbrev pub is_conf_mode : List ℕ → Bool
is_conf_mode mode = bytes_eq mode (codes "100644") || bytes_eq mode (codes "100755") || bytes_eq mode (codes "100664")

-- the bytes of a blob; another object has none
abbrev pub blob_text : Kind → List ℕ → Option (List ℕ)
blob_text Commit body = None
blob_text Tree body = None
blob_text Blob body = Some body
blob_text Tag body = None

abbrev pub text_in : Option Content → Option (List ℕ)
text_in None = None
text_in (Some o) = blob_text o.kind o.body

-- the file of a name, by what is there: the bytes of a blob, where the mode is a file's and the name isn't
-- too long
abbrev pub file_of : List Content → Path → Option Entry → Option (List ℕ)
file_of objects name None = None
file_of objects name (Some e) = if is_conf_mode e.mode && nat_le (length name) MAX_FILE_NAME then text_in (first_named objects e.id) else None

-- a fault in the main file, before its first line
abbrev pub IsBeforeAll : ConfFault → Type 0
IsBeforeAll e = (e.file ≡ main_name) × (e.line ≡ 0)

-- out of memory has no file
abbrev pub HasNoPlace : ConfFault → Type 0
HasNoPlace e = (e.file ≡ []) × (e.line ≡ 0)

-- no path is in the list twice
abbrev pub AreOnce : List Path → Type 0
AreOnce [] = Unit {0}
AreOnce (p ∷ ps) = ¬ Contains ps p × AreOnce ps

module _ (objects : List Content) (tree : Option ObjectId) where
  -- something is there at a path: a file, a directory or anything else
  abbrev pub HasRow : Path → Type 0
  HasRow path = ¬ (row objects tree path ≡ None)

  -- more than 10,000 rows, as a list of more paths shows, none of which is in it twice
  abbrev pub HasTooManyRows : Type 0
  HasTooManyRows = (paths : List Path) × AreOnce paths × All HasRow paths × (MAX_ROWS < length paths)

  -- the file of a name
  abbrev pub file_at : Path → Option (List ℕ)
  file_at name = file_of objects name (row objects tree name)

  -- the files, in the byte order of their names, each once
  pub record AreFiles (files : List ConfFile) : Type 0 where
    pub ascend : Ascend (map (λ f. f.name) files)
    pub are_those : (f : ConfFile) → Contains files f ↔ (file_at f.name ≡ Some f.text)

  -- there are more than 1,000 files, or more than 67,108,864 bytes in all of them
  abbrev pub HasTooLargeFiles : Type 0
  HasTooLargeFiles = (files : List ConfFile) × AreFiles files × (is_too_large (by_name files) ≡ true)

  abbrev pub IsTooLong : Type 0
  IsTooLong = HasTooManyRows ⊎ HasTooLargeFiles

  -- the main file isn't there
  abbrev pub LacksMain : Type 0
  LacksMain = file_at main_name ≡ None

  -- which fault is returned, and when
  abbrev pub TellsFault : ConfKind → ConfFault → Type 0
  TellsFault kind.TooLong e = IsTooLong × IsBeforeAll e
  TellsFault (kind.NoFile name) e = ¬ IsTooLong × LacksMain × (name ≡ main_name) × IsBeforeAll e
  TellsFault kind.NoMemory e = HasNoPlace e
  TellsFault (kind.Lex fault) e = ⊥
  TellsFault kind.SubconfInSubconf e = ⊥

  -- what is returned of a conf: its files, or the first of these faults
  abbrev pub TellsOfConf : Result (List ConfFile) ConfFault → Type 0
  TellsOfConf (Ok files) = ¬ IsTooLong × ¬ LacksMain × AreFiles files
  TellsOfConf (Err e) = TellsFault e.kind e
