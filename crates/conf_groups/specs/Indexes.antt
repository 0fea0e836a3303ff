-- Files by name as the code keeps them, a map to files that are lent, and as the definitions see them, a map
-- to bytes.
use Rattle.std.specs.Prelude.{ℕ, List, [], ◌∷◌, ◌+◌, ◌≡◌, ◌≤◌, map, length, Some}
use Rattle.std.specs.Borrow.{Bor}
use Rattle.std.specs.FinMap as named
use Rattle.base_types.specs.Names.{ByName}
use Rattle.conf_groups.specs.Files.{Files}
use Rattle.conf_groups.specs.declared.conf_file.ConfFile.{ConfFile}
use Rattle.conf_groups.specs.declared.limits.TheConstants.{MAX_FILE_BYTES}

-- the files of an index, by name
abbrev pub content_at : List ℕ × Bor ConfFile → List ℕ × List ℕ
content_at e = (e.0, e.1.now.text)

abbrev pub files_at : ByName (Bor ConfFile) → Files
files_at index = named.from_entries (map content_at (named.entries index))

-- each file is at its own name
abbrev pub HaveTheirNames : ByName (Bor ConfFile) → Type 0
HaveTheirNames index = (name : List ℕ) (file : Bor ConfFile) → named.get index name ≡ Some file → file.now.name ≡ name

-- no file has more bytes than all of them may have together
abbrev pub AreSmall : ByName (Bor ConfFile) → Type 0
AreSmall index = (name : List ℕ) (file : Bor ConfFile) → named.get index name ≡ Some file → length file.now.text ≤ MAX_FILE_BYTES

-- the names of files, and how many bytes they have together
abbrev pub names_of : List (List ℕ × Bor ConfFile) → List (List ℕ)
names_of es = map (λ e. e.1.now.name) es

abbrev pub bytes_in : List (List ℕ × Bor ConfFile) → ℕ
bytes_in [] = 0
bytes_in (e ∷ es) = length e.1.now.text + bytes_in es

-- the names that are lent
abbrev pub bytes_of : List (Bor (List ℕ)) → List (List ℕ)
bytes_of names = map (λ n. n.now) names
