-- Verdicts, and what they tell of.
use Rattle.std.specs.Prelude.{if◌then◌else◌, List, Option, None, Some}
use Rattle.std.specs.List.{Contains}
use Rattle.git_object.specs.Content.{Content}
use Rattle.git_object.specs.declared.object_id.ObjectId.{ObjectId}
use Rattle.git_object.specs.declared.kind.Kind.{Kind}
use Rattle.ancestry.specs.declared.verdict.Verdict.{Verdict}
use Rattle.ancestry.specs.declared.verdict.Verdict.TheVariants.{Whole, Missing, WrongKind}
use Rattle.ancestry.specs.Order.{lesser, IsLeast}
use Rattle.ancestry.specs.Walk.{Want, suits}
use Rattle.ancestry.specs.Laws.{IsMissing, IsWrong}

-- what is wanted alone, where this is the object of its name
abbrev pub alone : Option Content → Want → Verdict
alone None want = Missing want.0
alone (Some o) want = if suits want.1 o.kind then Whole else WrongKind want.0

-- one that is missing before one of a wrong kind, and the lesser of two
abbrev pub worse : Verdict → Verdict → Verdict
worse Whole other = other
worse (Missing id) Whole = Missing id
worse (Missing id) (Missing with) = Missing (lesser id with)
worse (Missing id) (WrongKind with) = Missing id
worse (WrongKind id) Whole = WrongKind id
worse (WrongKind id) (Missing with) = Missing with
worse (WrongKind id) (WrongKind with) = WrongKind (lesser id with)

-- it tells the least of those that are missing, or else of those of a wrong kind, or else that there are none
abbrev pub Tells : (ObjectId → Type 0) → (ObjectId → Type 0) → Verdict → Type 0
Tells IsLost IsOdd Whole = IsLeast IsLost None × IsLeast IsOdd None
Tells IsLost IsOdd (Missing id) = IsLeast IsLost (Some id)
Tells IsLost IsOdd (WrongKind id) = IsLeast IsLost None × IsLeast IsOdd (Some id)

-- it tells of all that is met from a root; of the root itself this kind is wanted, or any
abbrev pub IsToldOf : List Content → ObjectId → Option Kind → Verdict → Type 0
IsToldOf objects root kind verdict = Tells (IsMissing objects root kind) (IsWrong objects root kind) verdict

-- some walk from one of these meets the id, and no object has the name
abbrev pub IsMissingFrom : List Content → List Want → ObjectId → Type 0
IsMissingFrom objects roots id = (root : Want) × Contains roots root × IsMissing objects root.0 root.1 id

-- some walk from one of these meets the id, and the object isn't of the kind wanted of it there
abbrev pub IsWrongFrom : List Content → List Want → ObjectId → Type 0
IsWrongFrom objects roots id = (root : Want) × Contains roots root × IsWrong objects root.0 root.1 id

-- it tells of all that is met from these
abbrev pub IsToldOfAll : List Content → List Want → Verdict → Type 0
IsToldOfAll objects roots verdict = Tells (IsMissingFrom objects roots) (IsWrongFrom objects roots) verdict
