-- The files of confs, and how the body of a frame gives one: `first`, or `second` where it is of the second
-- conf, a space, the file's name, a line feed, and its text.
use Rattle.std.specs.Prelude.{◌≡◌, ℕ, Bool, true, false, List, [], ◌∷◌, ◌++◌, codes, Option, Some, None}
use Rattle.std.specs.Option.{option_map, unwrap_or}
use Rattle.conf_groups.specs.declared.conf_file.ConfFile.{ConfFile}
use Rattle.git_object.specs.Reader.{◌>>=◌, literal, up_to}
use Rattle.access_report.specs.Reading.{after}
use Rattle.report_input.specs.declared.confs.Confs.{Confs}

-- `NAME`, a line feed, and the text
abbrev pub file_of : List ℕ × List ℕ → ConfFile
file_of parts = record { name = parts.0; text = parts.1 }

abbrev pub file_in : List ℕ → Option ConfFile
file_in bytes = option_map file_of (up_to 10 bytes)

abbrev pub no_files : Confs
no_files = record { first = []; second = None }

-- with one file more
abbrev pub with_first : Confs → ConfFile → Confs
with_first confs file = record { first = confs.first ++ file ∷ []; second = confs.second }

abbrev pub with_second : Confs → ConfFile → Confs
with_second confs file = record { first = confs.first; second = Some (unwrap_or confs.second [] ++ file ∷ []) }

-- with the file of one body more; nothing where it gives none
unfoldable pub with_body : Confs → List ℕ → Option Confs
with_body confs body =
    after (literal (codes "first ") body) (λ rest. option_map (with_first confs) (file_in rest))
    (after (literal (codes "second ") body) (λ rest. option_map (with_second confs) (file_in rest)) None)

-- What bodies give, in order: of two files of one name the first counts.
abbrev pub with_bodies : Confs → List (List ℕ) → Option Confs
with_bodies confs [] = Some confs
with_bodies confs (body ∷ bodies) = with_body confs body >>= λ (more : Confs). with_bodies more bodies

-- What an answer says of a body: what it leads to, or that it gives no file.
abbrev pub SaysOf : Option Confs → Confs → Bool → Type 0
SaysOf found new true = found ≡ Some new
SaysOf found new false = found ≡ None
