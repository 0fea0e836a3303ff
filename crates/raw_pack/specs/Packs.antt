-- Raw packs, and the first fault in the order of the bytes: Git's pack-format, version 2, with each body as
-- it is where that format has a zlib stream, and without deltas.
use Rattle.std.specs.Prelude.{ℕ, zero, suc, ◌+◌, ◌*◌, ◌/◌, ◌%◌, ◌==◌, nat_lt, ◌||◌, if◌then◌else◌, List, [], ◌∷◌, ◌++◌, length, take, drop, Option, None, Some, codes, slice_index, Bool}
use Rattle.std.specs.Int.{w32, from_be_bytes}
use Rattle.std.specs.Str.{bytes_eq}
use Rattle.sha1.specs.Sha1.{sha1}
use Rattle.base_types.specs.Fronts.{Front}
use Rattle.git_object.specs.Content.{Content}
use Rattle.git_object.specs.Object.{fault_of}
use Rattle.git_object.specs.declared.kind.Kind.{Kind}
use Rattle.git_object.specs.declared.kind.Kind.TheVariants.{Commit, Tree, Blob, Tag}
use Rattle.git_object.specs.declared.fault.ObjFault.{ObjFault}
use Rattle.raw_pack.specs.Formats.{Format, gives, fails, ◌>>=◌, bytes, front, and_then}
use Rattle.raw_pack.specs.Grammar.{largest_body}
use Rattle.raw_pack.specs.declared.head.Head.{Head}
use Rattle.raw_pack.specs.declared.fault.PackFault.{PackFault}
use Rattle.raw_pack.specs.declared.fault.PackFault.TheVariants.{NotAPack, Version, Delta, BadHead, BadObject, Truncated, TrailerDiffers, TooLarge, TooMany}

-- the reader's own limits: entries of a pack, and bytes of all bodies together
abbrev pub most_entries : ℕ
most_entries = 100000

abbrev pub largest_sum : ℕ
largest_sum = 268435456

-- four bytes as a number, the highest first
unfoldable pub word : Format ℕ PackFault
word = do
  four ← bytes 4 (Truncated 0)
  gives (from_be_bytes w32 four)

-- `PACK`
unfoldable pub signature : Format (Unit {0}) PackFault
signature = do
  four ← bytes 4 (Truncated 0)
  if bytes_eq four (codes "PACK") then gives tt else fails NotAPack

-- the version 2
unfoldable pub version : Format (Unit {0}) PackFault
version = do
  number ← word
  if number == 2 then gives tt else fails (Version number)

-- the number of entries
unfoldable pub entry_count : Format ℕ PackFault
entry_count = do
  number ← word
  if nat_lt most_entries number then fails (TooMany number) else gives number

unfoldable pub header : Format ℕ PackFault
header = do
  packed ← signature
  known ← version
  entry_count

-- one byte
unfoldable pub byte : ℕ → Format ℕ PackFault
byte entry = do
  one ← bytes 1 (Truncated entry)
  gives (slice_index one 0)

-- whether a body of this size is longer than a pack has, or, behind bodies of so many bytes, more than the
-- reader takes
abbrev pub is_too_large : ℕ → ℕ → Bool
is_too_large sum size = nat_lt largest_body size || nat_lt largest_sum (sum + size)

-- a head whose last byte was read: entry number, bytes of the bodies before, kind, size
abbrev pub sized : ℕ → ℕ → Kind → ℕ → Format Head PackFault
sized entry sum kind size = if is_too_large sum size then fails (TooLarge entry) else gives (record { kind = kind; size = size })

-- The bytes of a head behind its first: seven bits each, the lowest first, and a set bit 7 where another
-- follows, at most so many. The size so far, and what the next byte is worth.
unfoldable pub more_size : ℕ → ℕ → ℕ → Kind → ℕ → ℕ → Format Head PackFault
more_size zero entry sum kind size unit = fails (TooLarge entry)
more_size (suc left) entry sum kind size unit = do
  next ← byte entry
  if nat_lt 127 next
      then more_size left entry sum kind (size + unit * (next % 128)) (unit * 128)
      else (if next == 0 then fails (BadHead entry) else sized entry sum kind (size + unit * next))

-- the kind that three bits name: 1 to 4; 6 and 7 are deltas
abbrev pub kind_of_bits : ℕ → Option Kind
kind_of_bits bits =
    if bits == 1 then Some Commit
    else if bits == 2 then Some Tree
    else if bits == 3 then Some Blob
    else if bits == 4 then Some Tag
    else None

-- A head's first byte: bit 7 where another byte follows, three bits of kind, and the four lowest bits of the
-- size.
abbrev pub head_by_kind : ℕ → ℕ → ℕ → Option Kind → Format Head PackFault
head_by_kind entry sum first None = if nat_lt 5 (first / 16 % 8) then fails (Delta entry) else fails (BadHead entry)
head_by_kind entry sum first (Some kind) =
    if nat_lt first 128 then sized entry sum kind (first % 16) else more_size 4 entry sum kind (first % 16) 16

unfoldable pub entry_head : ℕ → ℕ → Format Head PackFault
entry_head entry sum = do
  first ← byte entry
  head_by_kind entry sum first (kind_of_bits (first / 16 % 8))

-- a body of the form of its kind
abbrev pub formed : ℕ → Content → Option ObjFault → Format Content PackFault
formed entry content None = gives content
formed entry content (Some fault) = fails (BadObject entry)

-- an entry: a head and a body of its size
unfoldable pub pack_entry : ℕ → ℕ → Format Content PackFault
pack_entry entry sum = do
  head ← entry_head entry sum
  body ← bytes head.size (Truncated entry)
  formed entry (record { kind = head.kind; body = body }) (fault_of head.kind body)

-- so many entries more, behind those that were read
unfoldable pub pack_entries : ℕ → ℕ → ℕ → List Content → Format (List Content) PackFault
pack_entries zero entry sum read = gives read
pack_entries (suc left) entry sum read = do
  content ← pack_entry entry sum
  pack_entries left (entry + 1) (sum + length content.body) (read ++ content ∷ [])

-- what comes before the trailer
unfoldable pub signed_part : Format (List Content) PackFault
signed_part = do
  count ← header
  pack_entries count 0 0 []

-- the SHA-1 of all before, which is computed here; and the number of entries
unfoldable pub trailer : List ℕ → ℕ → Format (Unit {0}) PackFault
trailer computed count = do
  read ← bytes 20 (Truncated count)
  if bytes_eq read computed then gives tt else fails (TrailerDiffers read computed)

-- the trailer behind these objects, and then they
unfoldable pub pack_end : List ℕ → List Content → Format (List Content) PackFault
pack_end computed contents = do
  checked ← trailer computed (length contents)
  gives contents

-- what stands at the front of an input where a pack is wanted
unfoldable pub pack_front : List ℕ → Front (List Content) PackFault
pack_front input = and_then (front signed_part input) (λ n contents. front (pack_end (sha1 (take n input)) contents) (drop n input))
