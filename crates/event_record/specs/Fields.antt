-- The fields of which bodies are made: numbers, the highest byte first, texts, ids and kinds.
use Rattle.std.specs.Prelude.{ℕ, ◌≡◌, List, ◌∷◌, ◌++◌, length}
use Rattle.std.specs.List.{flat_map}
use Rattle.std.specs.Int.{w16, w32, to_be_bytes}
use Rattle.git_object.specs.Content.{Content}
use Rattle.git_object.specs.declared.object_id.ObjectId.{ObjectId}
use Rattle.git_object.specs.declared.kind.Kind.{Kind}
use Rattle.git_object.specs.declared.kind.Kind.TheVariants.{Commit, Tree, Blob, Tag}
use Rattle.ref_store.specs.declared.command.Command.{Command}

-- a text: its length in two bytes, and its bytes
abbrev pub text_bytes : List ℕ → List ℕ
text_bytes text = to_be_bytes w16 (length text) ++ text

-- the byte that stands for a kind
abbrev pub kind_byte : Kind → ℕ
kind_byte Commit = 1
kind_byte Tree = 2
kind_byte Blob = 3
kind_byte Tag = 4

-- a command of a push: the old id and the new one, and the text of the ref
abbrev pub command_bytes : Command → List ℕ
command_bytes command = command.old.bytes ++ (command.new.bytes ++ text_bytes command.name)

-- the commands of a push: how many in four bytes, and each
abbrev pub commands_bytes : List Command → List ℕ
commands_bytes commands = to_be_bytes w32 (length commands) ++ flat_map command_bytes commands

-- an object: its kind in a byte, the length of its body in four, and the body
abbrev pub object_bytes : Content → List ℕ
object_bytes object = kind_byte object.kind ∷ (to_be_bytes w32 (length object.body) ++ object.body)

-- the objects of a pack: how many in four bytes, and each
abbrev pub pack_bytes : List Content → List ℕ
pack_bytes pack = to_be_bytes w32 (length pack) ++ flat_map object_bytes pack

-- an id has twenty bytes
abbrev pub IsId : ObjectId → Type 0
IsId id = length id.bytes ≡ 20

-- the ids of a command are ids
pub record HasIds (command : Command) : Type 0 where
  pub old : IsId command.old
  pub new : IsId command.new
