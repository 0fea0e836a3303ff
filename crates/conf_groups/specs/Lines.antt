-- The lines of a file.
use Rattle.std.specs.Prelude.{ℕ, List, [], ◌∷◌, ◌++◌, ◌==◌, if◌then◌else◌}

-- the lines of what is left of a file, of whose first line some bytes were read
abbrev pub lines_from : List ℕ → List ℕ → List (List ℕ)
lines_from [] [] = []
lines_from (b ∷ line) [] = (b ∷ line) ∷ []
lines_from line (b ∷ bytes) = if b == 10 then line ∷ lines_from [] bytes else lines_from (line ++ b ∷ []) bytes

-- A file is cut at line feeds. A last piece without line feed is a line, unless it is empty.
abbrev pub lines_of : List ℕ → List (List ℕ)
lines_of bytes = lines_from [] bytes
