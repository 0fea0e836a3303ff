-- The canonical line of a statement.
use Rattle.std.specs.Prelude.{ℕ, Bool, false, ◌&&◌, ◌==◌, not, List, [], ◌∷◌, ◌++◌, length, codes, if◌then◌else◌}
use Rattle.std.specs.Str.{bytes_eq}
use Rattle.conf_lex.specs.Cleaning.{before_comment, joined}
use Rattle.conf_lex.specs.Permissions.{perm_text}
use Rattle.conf_lex.specs.Statements.{unquoted}
use Rattle.conf_lex.specs.declared.statement.Statement.{Statement}
use Rattle.conf_lex.specs.declared.statement.Statement.TheVariants.{Blank, Repo, Rule, Group, Include, Subconf, Opt, NoEffect}

-- no comment begins in it
abbrev pub has_no_comment : List ℕ → Bool
has_no_comment text = bytes_eq (before_comment false text) text

-- between two bytes
abbrev pub between : ℕ → List ℕ → List ℕ
between quote text = quote ∷ (text ++ quote ∷ [])

-- A pattern of `include` or `subconf` is spelled bare, where no comment begins in it and reading it drops
-- nothing; between single quotes, where no comment begins in it; else between double quotes.
abbrev pub spelled_pattern : List ℕ → List ℕ
spelled_pattern pattern =
    if has_no_comment pattern && not (length pattern == 0) && bytes_eq (unquoted pattern) pattern then pattern
    else if has_no_comment pattern then between 39 pattern
    else between 34 pattern

abbrev pub spelled_words : Statement → List (List ℕ)
spelled_words Blank = []
spelled_words (Repo words) = codes "repo" ∷ words
spelled_words (Rule perm refexes users) = perm_text perm ∷ (refexes ++ codes "=" ∷ users)
spelled_words (Group name members) = name ∷ codes "=" ∷ members
spelled_words (Include pattern) = codes "include" ∷ spelled_pattern pattern ∷ []
spelled_words (Subconf pattern) = codes "subconf" ∷ spelled_pattern pattern ∷ []
spelled_words (Opt key value) = codes "option" ∷ key ∷ codes "=" ∷ value ∷ []
spelled_words NoEffect = codes "desc" ∷ codes "=" ∷ []

-- the canonical line
abbrev pub spelling : Statement → List ℕ
spelling s = joined (spelled_words s)
