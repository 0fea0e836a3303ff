-- What changes and listings of roles are answered, and what they leave.
use Rattle.std.specs.Prelude.{◌≡◌, ℕ, Bool, not, List, Option, Some, None, if◌then◌else◌}
use Rattle.std.specs.List.{Contains}
use Rattle.std.specs.Str.{bytes_eq}
use Rattle.wild_perms.specs.Roles.{WildView, with_entry, without_entry}
use Rattle.wild_perms.specs.declared.role.RoleEntry.{RoleEntry}
use Rattle.wild_perms.specs.declared.answer.PermsAnswer.{PermsAnswer}
use Rattle.wild_perms.specs.declared.answer.PermsAnswer.TheVariants.{Changed, AlreadySo, NotWild, NotCreator, NoSuchRole, Listed, NoMemory}

abbrev pub answer_number : PermsAnswer → ℕ
answer_number Changed = 1
answer_number AlreadySo = 2
answer_number NotWild = 3
answer_number NotCreator = 4
answer_number NoSuchRole = 5
answer_number (Listed roles) = 6
answer_number NoMemory = 7

-- what refuses an asker, if anything does: nobody created the repository, or somebody else did
abbrev pub refused_by : Option (List ℕ) → List ℕ → Option PermsAnswer
refused_by None asker = Some NotWild
refused_by (Some creator) asker = if bytes_eq creator asker then None else Some NotCreator

-- what refuses a change of a role, if anything does: the word isn't declared as a role for the repository, or
-- the asker may not change its roles
abbrev pub refusal : WildView → List ℕ → Bool → Option PermsAnswer
refusal wild asker declared = if not declared then Some NoSuchRole else refused_by wild.creator asker

-- Where nothing refuses it, a role that the user doesn't hold is given, unless memory runs out.
abbrev pub Grants : WildView → WildView → List ℕ → RoleEntry → Bool → PermsAnswer → Type 0
Grants old new asker entry declared Changed = (refusal old asker declared ≡ None) × ¬ Contains old.roles entry × (new ≡ record old { roles = with_entry old.roles entry })
Grants old new asker entry declared AlreadySo = (refusal old asker declared ≡ None) × Contains old.roles entry × (new ≡ old)
Grants old new asker entry declared NoMemory = (refusal old asker declared ≡ None) × ¬ Contains old.roles entry × (new ≡ old)
Grants old new asker entry declared answer = (refusal old asker declared ≡ Some answer) × (new ≡ old)

-- Where nothing refuses it, a role that the user holds is taken. That takes no memory.
abbrev pub Revokes : WildView → WildView → List ℕ → RoleEntry → Bool → PermsAnswer → Type 0
Revokes old new asker entry declared Changed = (refusal old asker declared ≡ None) × Contains old.roles entry × (new ≡ record old { roles = without_entry old.roles entry })
Revokes old new asker entry declared AlreadySo = (refusal old asker declared ≡ None) × ¬ Contains old.roles entry × (new ≡ old)
Revokes old new asker entry declared answer = (refusal old asker declared ≡ Some answer) × (new ≡ old)

-- The creator is told all roles.
abbrev pub Lists : WildView → List ℕ → PermsAnswer → Type 0
Lists wild asker (Listed roles) = (refused_by wild.creator asker ≡ None) × (roles ≡ wild.roles)
Lists wild asker NoMemory = refused_by wild.creator asker ≡ None
Lists wild asker answer = refused_by wild.creator asker ≡ Some answer
