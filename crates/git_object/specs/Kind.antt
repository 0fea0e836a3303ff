-- The four kinds of objects and their words.
use Rattle.std.specs.Prelude.{ℕ, if◌then◌else◌, List, Option, Some, None, codes}
use Rattle.std.specs.Str.{bytes_eq}
use Rattle.git_object.specs.declared.kind.Kind.{Kind}
use Rattle.git_object.specs.declared.kind.Kind.TheVariants.{Commit, Tree, Blob, Tag}

abbrev pub kind_word : Kind → List ℕ
kind_word Commit = codes "commit"
kind_word Tree = codes "tree"
kind_word Blob = codes "blob"
kind_word Tag = codes "tag"

-- the kind whose word it is
unfoldable pub kind_of_word : List ℕ → Option Kind
kind_of_word word =
    if bytes_eq word (codes "commit") then Some Commit
    else if bytes_eq word (codes "tree") then Some Tree
    else if bytes_eq word (codes "blob") then Some Blob
    else if bytes_eq word (codes "tag") then Some Tag
    else None
