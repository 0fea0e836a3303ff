-- Reading fields from the left: what is at the front and what follows it, or nothing where none is.
use Rattle.std.specs.Prelude.{◌≡◌, ℕ, zero, suc, ◌-◌, List, [], ◌∷◌, length, take, drop, Option, Some, None, is_none, Result, Ok, Err, nat_lt, ◌==◌, if◌then◌else◌}
use Rattle.std.specs.Int.{Width, w16, w32, byte_len, from_be_bytes}
use Rattle.conf_lex.specs.Names.{is_repo_name, is_user_name}
use Rattle.git_object.specs.Content.{Content}
use Rattle.git_object.specs.Object.{fault_of}
use Rattle.git_object.specs.ObjectId.{id_from}
use Rattle.git_object.specs.declared.object_id.ObjectId.{ObjectId}
use Rattle.git_object.specs.declared.kind.Kind.{Kind}
use Rattle.git_object.specs.declared.kind.Kind.TheVariants.{Commit, Tree, Blob, Tag}
use Rattle.ref_store.specs.declared.command.Command.{Command}
use Rattle.event_record.specs.declared.body_fault.BodyFault.{BodyFault}
use Rattle.event_record.specs.declared.body_fault.BodyFault.TheVariants.{BadBody, NoMemory}

infixl 10 ◌>>=◌
abbrev pub ◌>>=◌ : {A B : Type 0} → Option A → (A → Option B) → Option B
None >>= f = None
(Some x) >>= f = f x

-- What a function returned, seen by a view, is what reading gives, unless memory ran out.
abbrev pub Fails : {Y : Type 0} → BodyFault → Option Y → Type 0
Fails NoMemory read = Unit {0}
Fails BadBody read = read ≡ None

abbrev pub Gives : {X Y : Type 0} → (X → Y) → Result X BodyFault → Option Y → Type 0
Gives view (Ok x) read = read ≡ Some (view x)
Gives view (Err e) read = Fails e read

-- so many bytes
abbrev pub bytes_at : ℕ → List ℕ → Option (List ℕ × List ℕ)
bytes_at count bytes = if nat_lt (length bytes) count then None else Some (take count bytes, drop count bytes)

abbrev pub number_at : Width → List ℕ → Option (ℕ × List ℕ)
number_at w bytes = if nat_lt (length bytes) (byte_len w) then None else Some (from_be_bytes w (take (byte_len w) bytes), drop (byte_len w) bytes)

-- a text of at most so many bytes
unfoldable pub text_at : ℕ → List ℕ → Option (List ℕ × List ℕ)
text_at most bytes = do
  size ← number_at w16 bytes
  if nat_lt most size.0 then None else bytes_at size.0 size.1

unfoldable pub user_at : List ℕ → Option (List ℕ × List ℕ)
user_at bytes = do
  text ← text_at 65535 bytes
  if is_user_name text.0 then Some text else None

unfoldable pub repo_at : List ℕ → Option (List ℕ × List ℕ)
repo_at bytes = do
  text ← text_at 65535 bytes
  if is_repo_name text.0 then Some text else None

unfoldable pub id_at : List ℕ → Option (ObjectId × List ℕ)
id_at bytes = if nat_lt (length bytes) 20 then None else Some (id_from (take 20 bytes), drop 20 bytes)

-- the kind that a byte stands for
abbrev pub kind_of_byte : ℕ → Option Kind
kind_of_byte byte =
    if byte == 1 then Some Commit
    else if byte == 2 then Some Tree
    else if byte == 3 then Some Blob
    else if byte == 4 then Some Tag
    else None

unfoldable pub kind_at : List ℕ → Option (Kind × List ℕ)
kind_at [] = None
kind_at (byte ∷ rest) = do
  kind ← kind_of_byte byte
  Some (kind, rest)

unfoldable pub command_at : List ℕ → Option (Command × List ℕ)
command_at bytes = do
  old ← id_at bytes
  new ← id_at old.1
  name ← text_at 1024 new.1
  Some (record { old = old.0; new = new.0; name = name.0 }, name.1)

-- an object whose body has at most so many bytes
unfoldable pub object_at : ℕ → List ℕ → Option (Content × List ℕ)
object_at most bytes = do
  kind ← kind_at bytes
  size ← number_at w32 kind.1
  if nat_lt most size.0 then None else if nat_lt 16777216 size.0 then None else do
    body ← bytes_at size.0 size.1
    if is_none (fault_of kind.0 body.0) then Some (record { kind = kind.0; body = body.0 }, body.1) else None

-- so many items, each of which takes its part of what is left
unfoldable pub items_at : {X : Type 0} → (ℕ → List ℕ → Option (X × List ℕ)) → (X → ℕ) → ℕ → ℕ → List ℕ → Option (List X × List ℕ)
items_at read cost zero left bytes = Some ([], bytes)
items_at read cost (suc count) left bytes = do
  first ← read left bytes
  others ← items_at read cost count (left - cost first.0) first.1
  Some (first.0 ∷ others.0, others.1)

abbrev pub command_within : ℕ → List ℕ → Option (Command × List ℕ)
command_within left bytes = command_at bytes

abbrev pub no_cost : Command → ℕ
no_cost command = 0

abbrev pub body_size : Content → ℕ
body_size object = length object.body

-- at most 10,000 commands
unfoldable pub commands_at : List ℕ → Option (List Command × List ℕ)
commands_at bytes = do
  count ← number_at w32 bytes
  if nat_lt 10000 count.0 then None else items_at command_within no_cost count.0 0 count.1

-- at most 100,000 objects, whose bodies have at most 268,435,456 bytes together
unfoldable pub pack_at : List ℕ → Option (List Content × List ℕ)
pack_at bytes = do
  count ← number_at w32 bytes
  if nat_lt 100000 count.0 then None else items_at object_at body_size count.0 268435456 count.1
