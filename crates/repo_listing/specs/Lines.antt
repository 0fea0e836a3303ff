-- The text of a line.
use Rattle.std.specs.Prelude.{ℕ, List, ◌++◌, true, false, codes}
use Rattle.repo_listing.specs.declared.lines.LookLine.{LookLine}
use Rattle.repo_listing.specs.declared.lines.LookLine.TheVariants.{Repo, Pattern}

-- what the user may do, and a tab
abbrev pub rights_text : LookLine → List ℕ
rights_text (Repo name true) = codes "R W\t"
rights_text (Repo name false) = codes "R\t"
rights_text (Pattern text) = codes "C\t"

-- the name or the pattern
abbrev pub subject : LookLine → List ℕ
subject (Repo name write) = name
subject (Pattern text) = text

-- `R W`, `R` or `C`, a tab, the name or the pattern, and a line feed
abbrev pub line_text : LookLine → List ℕ
line_text line = rights_text line ++ (subject line ++ codes "\n")
