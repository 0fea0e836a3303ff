-- What a client sends that pushes.
use Rattle.std.specs.Prelude.{ℕ, List, ◌∷◌, ◌++◌, codes}
use Rattle.pktline_core.specs.Packets.{spelling, Line, Flush}
use Rattle.git_object.specs.Content.{Content}
use Rattle.git_object.specs.ObjectId.{hex_of}
use Rattle.git_object.specs.declared.object_id.ObjectId.{ObjectId}
use Rattle.raw_pack.specs.Grammar.{spelled_pack}
use Rattle.installation.specs.declared.sending.Packed.{Packed}
use Rattle.installation.specs.declared.sending.Change as declared

-- which ref is to have which value in place of which
pub record Update : Type 0 where
  pub old : ObjectId
  pub new : ObjectId
  pub name : List ℕ

abbrev pub change_of : declared.Change → Update
change_of change = record { old = change.old; new = change.new; name = change.name.now }

abbrev pub content_of : Packed → Content
content_of packed = record { kind = packed.kind; body = packed.body.now }

-- the first packet's line
abbrev pub asking_to_push : List ℕ → List ℕ → List ℕ
asking_to_push user repo = user ++ codes " git-receive-pack '" ++ repo ++ codes "'"

-- the one command's line, by which a report is asked for
abbrev pub command_line : Update → List ℕ
command_line change = hex_of change.old ++ 32 ∷ hex_of change.new ++ 32 ∷ change.name ++ 0 ∷ codes "report-status"

-- a push of one command and the pack of these objects
unfoldable pub pushing : List ℕ → List ℕ → Update → List Content → List ℕ
pushing user repo change contents = spelling (Line (asking_to_push user repo)) ++ spelling (Line (command_line change)) ++ spelling Flush ++ spelled_pack contents
