-- The grammar of raw packs: how the pack of a list of objects is spelled.
use Rattle.std.specs.Prelude.{◌≡◌, ℕ, ◌+◌, ◌*◌, ◌/◌, ◌%◌, ◌<◌, nat_lt, if◌then◌else◌, List, [], ◌∷◌, ◌++◌, length, flat_map, All, codes}
use Rattle.std.specs.Int.{w32, to_be_bytes}
use Rattle.sha1.specs.Sha1.{sha1}
use Rattle.git_object.specs.Content.{Content}
use Rattle.git_object.specs.Object.{IsPackable}
use Rattle.git_object.specs.declared.kind.Kind.{Kind}
use Rattle.git_object.specs.declared.kind.Kind.TheVariants.{Commit, Tree, Blob, Tag}

-- how many bytes a body has at most
abbrev pub largest_body : ℕ
largest_body = 16777216

-- the number that names a kind in a head
abbrev pub kind_bits : Kind → ℕ
kind_bits Commit = 1
kind_bits Tree = 2
kind_bits Blob = 3
kind_bits Tag = 4

-- A head's first byte without its bit 7: the kind in bits 6 to 4, and the lowest four bits of the size.
abbrev pub kind_and_low : Kind → ℕ → ℕ
kind_and_low kind size = 16 * kind_bits kind + size % 16

-- The head of a kind and a size, as short as it can be: each byte behind the first has seven bits more of the
-- size, the lowest first, and bit 7 of a byte says that another follows.
unfoldable pub spelled_head : Kind → ℕ → List ℕ
spelled_head kind size =
    if nat_lt size 16 then kind_and_low kind size ∷ []
    else if nat_lt size 2048 then (128 + kind_and_low kind size) ∷ size / 16 ∷ []
    else if nat_lt size 262144 then (128 + kind_and_low kind size) ∷ (128 + size / 16 % 128) ∷ size / 2048 ∷ []
    else (128 + kind_and_low kind size) ∷ (128 + size / 16 % 128) ∷ (128 + size / 2048 % 128) ∷ size / 262144 ∷ []

-- an object's entry: its head, and its body as it is
abbrev pub spelled_entry : Content → List ℕ
spelled_entry content = spelled_head content.kind (length content.body) ++ content.body

-- what comes before the trailer: `PACK`, the version, how many objects there are, and their entries
unfoldable pub before_trailer : List Content → List ℕ
before_trailer contents = codes "PACK" ++ to_be_bytes w32 2 ++ to_be_bytes w32 (length contents) ++ flat_map spelled_entry contents

-- the pack of these objects; the trailer is the SHA-1 of all before it
unfoldable pub spelled_pack : List Content → List ℕ
spelled_pack contents = before_trailer contents ++ sha1 (before_trailer contents)

-- objects that a pack can have, which four bytes can count
pub record ArePackable (contents : List Content) : Type 0 where
  pub few : length contents < 4294967296
  pub each : All IsPackable contents

-- these bytes, all of them, are the pack of these objects
abbrev pub IsPack : List ℕ → List Content → Type 0
IsPack bytes contents = ArePackable contents × (bytes ≡ spelled_pack contents)
