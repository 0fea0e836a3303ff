-- The advertisement of a fetch, as Git's pack-protocol has it under "Reference Discovery": the refs with
-- their values and, behind each ref at an annotated tag, what that tag stands for.
use Rattle.std.specs.Prelude.{ℕ, Bool, true, false, List, [], ◌∷◌, ◌++◌, map, codes, Option, None, Some, if◌then◌else◌}
use Rattle.std.specs.List.{flat_map}
use Rattle.std.specs.Option.{option_map_or, option_to_list}
use Rattle.std.specs.FinMap.{entries, get}
use Rattle.git_object.specs.Content.{Content}
use Rattle.git_object.specs.ObjectId.{hex_of}
use Rattle.git_object.specs.declared.kind.Kind.TheVariants.{Tag}
use Rattle.git_object.specs.declared.object_id.ObjectId.{ObjectId}
use Rattle.ref_store.specs.Objects.{first_named}
use Rattle.ref_store.specs.Refs.{Name, zero_id}
use Rattle.ref_store.specs.Store.{Store}
use Rattle.ancestry.specs.Tags.{peel}
use Rattle.ancestry.specs.Walk.{same_kind}
use Rattle.pktline_core.specs.Packets.{spelling, Flush}
use Rattle.session_core.specs.Packets.{packet}

-- I. What is advertised

-- the branch that a clone checks out
abbrev pub head_branch : Name
head_branch = codes "refs/heads/master"

-- the object of this name is an annotated tag
abbrev pub is_tag : List Content → ObjectId → Bool
is_tag objects id = option_map_or (λ o. same_kind o.kind Tag) (first_named objects id) false

-- what a tag stands for: the end of the tags that name one another
abbrev pub peeled : List Content → ObjectId → Option ObjectId
peeled objects id = if is_tag objects id then Some (peel objects id) else None

-- of a ref's name, and of what its tag stands for
abbrev pub peeled_ref : Name → Option ObjectId → List (Name × ObjectId)
peeled_ref name None = []
peeled_ref name (Some id) = (name ++ codes "^{}", id) ∷ []

-- a ref and, where it is at a tag, what the tag stands for
abbrev pub with_peeled : List Content → Name × ObjectId → List (Name × ObjectId)
with_peeled objects ref = ref ∷ peeled_ref ref.0 (peeled objects ref.1)

-- `HEAD` at the value of its branch, where that is there
abbrev pub head : Option ObjectId → List (Name × ObjectId)
head None = []
head (Some id) = (codes "HEAD", id) ∷ []

-- `HEAD`, and then the refs in the byte order of their names
abbrev pub advertised : Store → List (Name × ObjectId)
advertised store = head (get store.refs head_branch) ++ flat_map (with_peeled store.objects) (entries store.refs)

-- the ids that a client may want
abbrev pub advertised_ids : Store → List ObjectId
advertised_ids store = map (λ ref. ref.1) (advertised store)

-- II. Its lines

-- an id, a space, a name, and what ends the line
abbrev pub ref_line : Name × ObjectId → List ℕ → List ℕ
ref_line ref ending = hex_of ref.1 ++ 32 ∷ ref.0 ++ ending

-- the first line bears, behind a zero byte, what the server can do
abbrev pub first_line : List ℕ → Name × ObjectId → List ℕ
first_line words ref = ref_line ref (0 ∷ words ++ 10 ∷ [])

abbrev pub more_line : Name × ObjectId → List ℕ
more_line ref = ref_line ref (10 ∷ [])

-- where nothing is advertised a line without a ref bears the words
abbrev pub lines : List ℕ → List (Name × ObjectId) → List (List ℕ)
lines words [] = first_line words (codes "capabilities^{}", zero_id) ∷ []
lines words (ref ∷ refs) = first_line words ref ∷ map more_line refs

-- where `HEAD` is listed the words say which branch it is
abbrev pub words_by : Option ObjectId → List ℕ
words_by None = []
words_by (Some id) = codes "symref=HEAD:refs/heads/master"

-- the lines, and a flush
unfoldable pub advertisement : Store → List ℕ
advertisement store = flat_map packet (lines (words_by (get store.refs head_branch)) (advertised store)) ++ spelling Flush

-- steps on the way, which private functions cite

-- the lines of what is advertised, where nothing was before it, and where something was
abbrev pub lines_behind : Bool → List (Name × ObjectId) → List (List ℕ)
lines_behind true refs = lines [] refs
lines_behind false refs = map more_line refs

-- the line of `HEAD`, where it is listed
abbrev pub head_lines : Option ObjectId → List (List ℕ)
head_lines None = []
head_lines (Some id) = first_line (words_by (Some id)) (codes "HEAD", id) ∷ []

-- what is written behind `HEAD`
abbrev pub refs_text : Bool → Store → List ℕ
refs_text none store = flat_map packet (lines_behind none (flat_map (with_peeled store.objects) (entries store.refs))) ++ spelling Flush

-- the ids that are advertised of a ref at this one
abbrev pub ids_of : List Content → ObjectId → List ObjectId
ids_of objects id = id ∷ option_to_list (peeled objects id)
