-- The commands of a push, as Git's pack-protocol has them under "Reference Update Request": `OLD NEW REF`,
-- and behind the first one a zero byte and words for what the client can do and asks for.
use Rattle.std.specs.Prelude.{ℕ, ◌≤◌, nat_le, length, Bool, not, ◌&&◌, ◌==◌, List, [], Option, Some, codes}
use Rattle.std.specs.Option.{option_map, unwrap_or}
use Rattle.std.specs.List.{list_all, list_any, slice_split, AllByRecursion}
use Rattle.std.specs.Str.{bytes_eq}
use Rattle.git_object.specs.Reader.{◌>>=◌, literal, up_to}
use Rattle.git_object.specs.ObjectId.{hex_id}
use Rattle.git_object.specs.declared.object_id.ObjectId.{ObjectId}
use Rattle.ref_store.specs.declared.command.Command.{Command}
use Rattle.ref_store.specs.Objects.{same_id}
use Rattle.ref_store.specs.Refs.{zero_id}
use Rattle.session_core.specs.FirstPacket.{checked}
use Rattle.receive_pack.specs.declared.changes.Capabilities.{Capabilities}

-- 1 to 1,024 bytes, none of them zero: a ref's text, whether or not a ref may have that name
abbrev pub is_ref_text : List ℕ → Bool
is_ref_text text = nat_le 1 (length text) && (nat_le (length text) 1024 && list_all (λ b. not (b == 0)) text)

-- `OLD NEW TEXT`: two ids, and what follows them
unfoldable pub parts : List ℕ → Option (ObjectId × ObjectId × List ℕ)
parts line = do
  old ← hex_id line
  digits ← literal (codes " ") old.1
  new ← hex_id digits
  text ← literal (codes " ") new.1
  Some (old.0, new.0, text)

-- `OLD NEW REF`
unfoldable pub change : List ℕ → Option Command
change line = do
  found ← parts line
  ref ← checked is_ref_text found.2
  Some (record { old = found.0; new = found.1; name = ref })

-- ---- the first one

-- the bytes before the first zero byte, or all where there is none; and those behind it
abbrev pub before_zero : List ℕ → List ℕ
before_zero line = unwrap_or (option_map (λ p. p.0) (up_to 0 line)) line

abbrev pub behind_zero : List ℕ → List ℕ
behind_zero line = unwrap_or (option_map (λ p. p.1) (up_to 0 line)) []

-- it is among the words, between which any number of spaces may stand
abbrev pub has_word : List ℕ → List ℕ → Bool
has_word word text = list_any (λ w. bytes_eq w word) (slice_split (λ b. b == 32) text)

abbrev pub capabilities : List ℕ → Capabilities
capabilities text = record { report_status = has_word (codes "report-status") text; atomic = has_word (codes "atomic") text }

abbrev pub first_command : List ℕ → Option Command
first_command line = change (before_zero line)

abbrev pub first_capabilities : List ℕ → Capabilities
first_capabilities line = capabilities (behind_zero line)

-- ---- all of them

-- each deletes its ref, so that no pack follows
abbrev pub deletes : Command → Bool
deletes command = same_id command.new zero_id

abbrev pub all_delete : List Command → Bool
all_delete commands = list_all deletes commands

-- a ref's text has at most 1,024 bytes
abbrev pub HasShortName : Command → Type 0
HasShortName command = length command.name ≤ 1024

abbrev pub HaveShortNames : List Command → Type 0
HaveShortNames commands = AllByRecursion HasShortName commands
