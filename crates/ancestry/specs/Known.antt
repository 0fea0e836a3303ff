-- What walkers find out, and what is known of some objects by earlier walks.
use Rattle.std.specs.Prelude.{◌≡◌, ℕ, List, Some, IsSome}
use Rattle.git_object.specs.Content.{Content}
use Rattle.git_object.specs.declared.object_id.ObjectId.{ObjectId}
use Rattle.ref_store.specs.Objects.{first_named}
use Rattle.ancestry.specs.declared.known.Findings.{Findings}
use Rattle.ancestry.specs.declared.known.Known.{Known}
use Rattle.ancestry.specs.declared.known.Notes.{Notes}
use Rattle.ancestry.specs.declared.verdict.Verdict.{Verdict}
use Rattle.ancestry.specs.declared.verdict.Verdict.TheVariants.{Whole}
use Rattle.ancestry.specs.Generations.{HasGeneration}
use Rattle.ancestry.specs.Tables.{Entries, Has, HasOne}
use Rattle.ancestry.specs.Verdict.{IsToldOfAll}
use Rattle.ancestry.specs.Walk.{links_at}

-- the object is there, and this is told of all that its links lead to
abbrev pub IsRight : List Content → ObjectId → Verdict → Type 0
IsRight objects id verdict = IsSome (first_named objects id) × IsToldOfAll objects (links_at objects id) verdict

-- all is whole that the object's links lead to, and this is its generation
abbrev pub IsWhole : List Content → ObjectId → ℕ → Type 0
IsWhole objects id generation = IsRight objects id Whole × HasGeneration objects id generation

-- what tables tell of these objects is right: one of generations, of objects behind which all is whole, and
-- one of verdicts
pub record AreRight (objects : List Content) (generations : Entries ℕ) (verdicts : Entries Verdict) : Type 0 where
  pub whole : (id : ObjectId) (generation : ℕ) → Has generations id generation → IsWhole objects id generation
  pub amiss : (id : ObjectId) (verdict : Verdict) → Has verdicts id verdict → IsRight objects id verdict

-- what a walker has found out so far, and what it found out, among these objects
abbrev pub AreNoted : List Content → Notes → Type 0
AreNoted objects notes = AreRight objects notes.whole notes.amiss

abbrev pub AreFound : List Content → Findings → Type 0
AreFound objects findings = AreRight objects findings.whole findings.amiss

-- what is known of these objects
pub record AreKnown (objects : List Content) (known : Known) : Type 0 where
  pub whole : (id : ObjectId) (generation : ℕ) → HasOne known.whole id generation → IsWhole objects id generation
  pub amiss : (id : ObjectId) (verdict : Verdict) → HasOne known.amiss id verdict → IsRight objects id verdict

-- what the fewer objects have first of a name, the more have first of it
abbrev pub Extends : List Content → List Content → Type 0
Extends fewer more = (id : ObjectId) (object : Content) → first_named fewer id ≡ Some object → first_named more id ≡ Some object
