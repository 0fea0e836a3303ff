-- The names of objects, as bytes and as text.
use Rattle.std.specs.Prelude.{ℕ, ◌&&◌, ◌||◌, nat_le, Bool, if◌then◌else◌, List, ◌∷◌, [], take, drop, Option, Some, None}
use Rattle.std.specs.Option.{option_map}
use Rattle.std.specs.Result.{result_ok}
use Rattle.std.specs.List.{list_all}
use Rattle.hex.specs.Hex.{encode_lower, decode_sized}
use Rattle.git_object.specs.Reader.{◌>>=◌, literal}
use Rattle.git_object.specs.declared.object_id.ObjectId.{ObjectId}

-- `0` to `9` and `a` to `f`
abbrev pub is_lower_digit : ℕ → Bool
is_lower_digit c = (nat_le 48 c && nat_le c 57) || (nat_le 97 c && nat_le c 102)

-- the forty digits of an id
abbrev pub hex_of : ObjectId → List ℕ
hex_of id = encode_lower id.bytes

-- the id of these bytes
abbrev pub id_from : List ℕ → ObjectId
id_from bytes = record { bytes = bytes }

-- the id that a text of forty lower-case digits stands for, two digits for a byte; no other text stands for
-- one
unfoldable pub id_of_hex : List ℕ → Option ObjectId
id_of_hex text =
    if list_all is_lower_digit text
    then option_map id_from (result_ok (decode_sized text 20))
    else None

-- an id at the front: forty digits
unfoldable pub hex_id : List ℕ → Option (ObjectId × List ℕ)
hex_id bytes = do
  id ← id_of_hex (take 40 bytes)
  Some (id, drop 40 bytes)

-- a line of Git's header lines: a word, an id, a line feed
unfoldable pub id_line : List ℕ → List ℕ → Option (ObjectId × List ℕ)
id_line word bytes = do
  digits ← literal word bytes
  id ← hex_id digits
  rest ← literal (10 ∷ []) id.1
  Some (id.0, rest)
