-- Steps of a plain walk: what is kept of what was met.
use Rattle.std.specs.Prelude.{◌≡◌, true, List, ◌++◌, Option}
use Rattle.std.specs.List.{Contains}
use Rattle.git_object.specs.Content.{Content}
use Rattle.git_object.specs.declared.object_id.ObjectId.{ObjectId}
use Rattle.git_object.specs.declared.kind.Kind.{Kind}
use Rattle.ancestry.specs.declared.seen.Seen.{Seen}
use Rattle.ancestry.specs.Walk.{Want}
use Rattle.ancestry.specs.Wholeness.{is_missing, is_wrong}
use Rattle.ancestry.specs.Verdict.{Tells}

-- the id is wanted by one of these, and no object has the name
abbrev pub IsMissingAmong : List Content → List Want → ObjectId → Type 0
IsMissingAmong objects wants id = (wanted : Option Kind) × Contains wants (id, wanted) × (is_missing objects (id, wanted) ≡ true)

-- the id is wanted by one of these, and the object isn't of the kind wanted
abbrev pub IsWrongAmong : List Content → List Want → ObjectId → Type 0
IsWrongAmong objects wants id = (wanted : Option Kind) × Contains wants (id, wanted) × (is_wrong objects (id, wanted) ≡ true)

-- what is kept where these were met: their ids, and what is told of them alone
pub record IsKeptOf (objects : List Content) (wants : List Want) (seen : Seen) : Type 0 where
  pub there : (want : Want) → Contains wants want → Contains seen.known.keys want.0
  pub only : (id : ObjectId) → Contains seen.known.keys id → (wanted : Option Kind) × Contains wants (id, wanted)
  pub tells : Tells (IsMissingAmong objects wants) (IsWrongAmong objects wants) seen.verdict

-- what noting these does: what was known stays first
pub record Notes (objects : List Content) (old new : Seen) (wants : List Want) : Type 0 where
  pub adds : (more : List ObjectId) × (new.known.keys ≡ old.known.keys ++ more)
  pub keeps : (before : List Want) → IsKeptOf objects before old → IsKeptOf objects (before ++ wants) new
