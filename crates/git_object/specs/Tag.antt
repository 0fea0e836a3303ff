-- The form of an annotated tag, after Git's documentation of tag objects: the line of the object, the line of
-- its kind, and then any bytes.
use Rattle.std.specs.Prelude.{ℕ, List, Option, Some, None, is_some, codes, if◌then◌else◌}
use Rattle.std.specs.Option.{option_map_or}
use Rattle.git_object.specs.Reader.{◌>>=◌, literal, up_to}
use Rattle.git_object.specs.ObjectId.{id_line}
use Rattle.git_object.specs.Kind.{kind_of_word}
use Rattle.git_object.specs.declared.object_id.ObjectId.{ObjectId}
use Rattle.git_object.specs.declared.kind.Kind.{Kind}

-- `object`, a space, an id, a line feed
abbrev pub object_line : List ℕ → Option (ObjectId × List ℕ)
object_line = id_line (codes "object ")

-- `type`, a space, the word of a kind, a line feed
unfoldable pub type_line : List ℕ → Option (Kind × List ℕ)
type_line bytes = do
  after ← literal (codes "type ") bytes
  word ← up_to 10 after
  kind ← kind_of_word word.0
  Some (kind, word.1)

-- the object that a tag names, and its kind
abbrev pub target_of : List ℕ → Option (ObjectId × Kind)
target_of body = do
  object ← object_line body
  type ← type_line object.1
  Some (object.0, type.0)

-- where the first line that breaks the form begins: the object's line has 48 bytes
abbrev pub tag_break : List ℕ → Option ℕ
tag_break body = option_map_or (λ object. if is_some (type_line object.1) then None else Some 48) (object_line body) (Some 0)
