-- The lines of a client that fetches, as Git's pack-protocol has them under "Packfile Negotiation": what it
-- wants, what it has, and that it is done.
use Rattle.std.specs.Prelude.{ℕ, Bool, ◌||◌, List, [], is_some, Option, Some, None, codes, if◌then◌else◌}
use Rattle.std.specs.Str.{bytes_eq}
use Rattle.git_object.specs.Reader.{◌>>=◌, literal}
use Rattle.git_object.specs.ObjectId.{hex_id}
use Rattle.git_object.specs.declared.object_id.ObjectId.{ObjectId}

-- an id behind this word, and what follows it
unfoldable pub id_behind : List ℕ → List ℕ → Option (ObjectId × List ℕ)
id_behind word line = do
  digits ← literal word line
  hex_id digits

-- the id, where what follows it passes a test
abbrev pub id_where : (List ℕ → Bool) → Option (ObjectId × List ℕ) → Option ObjectId
id_where test None = None
id_where test (Some found) = if test found.1 then Some found.0 else None

abbrev pub is_nothing : List ℕ → Bool
is_nothing text = bytes_eq text []

-- nothing, or a space and any words: in the first want they say what the client can do, which has no effect
-- here
abbrev pub are_words : List ℕ → Bool
are_words text = is_nothing text || is_some (literal (codes " ") text)

-- `want HEX`, perhaps with words
abbrev pub first_want : List ℕ → Option ObjectId
first_want line = id_where are_words (id_behind (codes "want ") line)

-- `want HEX`
abbrev pub want : List ℕ → Option ObjectId
want line = id_where is_nothing (id_behind (codes "want ") line)

-- `have HEX`
abbrev pub have : List ℕ → Option ObjectId
have line = id_where is_nothing (id_behind (codes "have ") line)

-- `done`
abbrev pub is_done : List ℕ → Bool
is_done line = bytes_eq line (codes "done")
