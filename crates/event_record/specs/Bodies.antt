-- An event as the body of a record: the caller in eight bytes, a byte that says what was asked, and what it
-- was asked with.
use Rattle.std.specs.Prelude.{◌≡◌, ℕ, ◌≤◌, ◌<◌, ◌^◌, Bool, true, false, List, [], ◌∷◌, ◌++◌, length}
use Rattle.std.specs.List.{AllByRecursion}
use Rattle.std.specs.Int.{w64, to_be_bytes}
use Rattle.conf_lex.specs.Names.{is_user_name}
use Rattle.git_object.specs.Object.{FitOnePack}
use Rattle.ref_store.specs.declared.command.Command.{Command}
use Rattle.access_check.specs.declared.verdicts.Want.{Want}
use Rattle.access_check.specs.declared.verdicts.Want.TheVariants.{Read, Write}
use Rattle.hub_history.specs.declared.entry.PermChange.{PermChange}
use Rattle.hub_history.specs.declared.entry.PermChange.TheVariants as change
use Rattle.hub_history.specs.History.{AreNames, HasShortRole, IsOfUser}
use Rattle.hub_history.specs.Requests.{Request, Enter, Push, Permit, Look}
use Rattle.event_record.specs.Fields.{text_bytes, commands_bytes, pack_bytes, HasIds}

abbrev pub want_byte : Want → ℕ
want_byte Read = 0
want_byte Write = 1

abbrev pub flag_byte : Bool → ℕ
flag_byte false = 0
flag_byte true = 1

-- a change of roles: a byte that says which, and the role and the user where one is given or taken
abbrev pub change_bytes : PermChange → List ℕ
change_bytes (change.Grant role user) = 0 ∷ (text_bytes role ++ text_bytes user)
change_bytes (change.Revoke role user) = 1 ∷ (text_bytes role ++ text_bytes user)
change_bytes change.List = 2 ∷ []

abbrev pub request_bytes : Request → List ℕ
request_bytes (Enter user repo want) = 1 ∷ (text_bytes user ++ (text_bytes repo ++ want_byte want ∷ []))
request_bytes (Push place pack commands atomic) = 2 ∷ (to_be_bytes w64 place ++ flag_byte atomic ∷ (commands_bytes commands ++ pack_bytes pack))
request_bytes (Permit user repo asked) = 3 ∷ (text_bytes user ++ (text_bytes repo ++ change_bytes asked))
request_bytes (Look user) = 4 ∷ text_bytes user

abbrev pub body_of : ℕ → Request → List ℕ
body_of caller request = to_be_bytes w64 caller ++ request_bytes request

-- the commands of a push as the hub takes them, of which there may be none: at most 10,000, each with a text
-- of at most 1,024 bytes for its ref
pub record AreStorable (commands : List Command) : Type 0 where
  pub few : length commands ≤ 10000
  pub short : AllByRecursion (λ (c : Command). length c.name ≤ 1024) commands
  pub ids : AllByRecursion HasIds commands

-- What is asked is within what the hub takes, but that a push may have no command and any place.
abbrev pub IsWithinLimits : Request → Type 0
IsWithinLimits (Enter user repo want) = AreNames user repo
IsWithinLimits (Push place pack commands atomic) = (place < 2 ^ 64) × AreStorable commands × FitOnePack pack
IsWithinLimits (Permit user repo asked) = AreNames user repo × IsOfUser asked × HasShortRole asked
IsWithinLimits (Look user) = is_user_name user ≡ true

-- A caller has this request, and a body can be made of it.
abbrev pub IsStorable : ℕ → Request → Type 0
IsStorable caller request = (caller < 2 ^ 64) × IsWithinLimits request
