-- Reading a whole body.
use Rattle.std.specs.Prelude.{ℕ, Bool, true, false, List, [], ◌∷◌, length, Option, Some, None, ◌==◌, if◌then◌else◌}
use Rattle.std.specs.Int.{w64}
use Rattle.access_check.specs.declared.verdicts.Want.{Want}
use Rattle.access_check.specs.declared.verdicts.Want.TheVariants.{Read, Write}
use Rattle.hub_history.specs.declared.entry.PermChange.{PermChange}
use Rattle.hub_history.specs.declared.entry.PermChange.TheVariants as change
use Rattle.hub_history.specs.Requests.{Request, Enter, Push, Permit, Look}
use Rattle.event_record.specs.Reading.{◌>>=◌, number_at, text_at, user_at, repo_at, commands_at, pack_at}

-- a byte that is 0 or 1
unfoldable pub flag_at : List ℕ → Option (Bool × List ℕ)
flag_at [] = None
flag_at (byte ∷ rest) = if byte == 0 then Some (false, rest) else if byte == 1 then Some (true, rest) else None

abbrev pub want_of : Bool → Want
want_of false = Read
want_of true = Write

unfoldable pub enter_at : List ℕ → Option (Request × List ℕ)
enter_at bytes = do
  user ← user_at bytes
  repo ← repo_at user.1
  flag ← flag_at repo.1
  Some (Enter user.0 repo.0 (want_of flag.0), flag.1)

unfoldable pub push_at : List ℕ → Option (Request × List ℕ)
push_at bytes = do
  place ← number_at w64 bytes
  atomic ← flag_at place.1
  commands ← commands_at atomic.1
  pack ← pack_at commands.1
  Some (Push place.0 pack.0 commands.0 atomic.0, pack.1)

-- a role and a user
unfoldable pub holder_at : List ℕ → Option ((List ℕ × List ℕ) × List ℕ)
holder_at bytes = do
  role ← text_at 65516 bytes
  user ← user_at role.1
  Some ((role.0, user.0), user.1)

abbrev pub grant : (List ℕ × List ℕ) × List ℕ → Option (PermChange × List ℕ)
grant holder = Some (change.Grant holder.0.0 holder.0.1, holder.1)

abbrev pub revoke : (List ℕ × List ℕ) × List ℕ → Option (PermChange × List ℕ)
revoke holder = Some (change.Revoke holder.0.0 holder.0.1, holder.1)

unfoldable pub change_at : List ℕ → Option (PermChange × List ℕ)
change_at [] = None
change_at (byte ∷ rest) =
    if byte == 0 then holder_at rest >>= grant
    else if byte == 1 then holder_at rest >>= revoke
    else if byte == 2 then Some (change.List, rest)
    else None

unfoldable pub permit_at : List ℕ → Option (Request × List ℕ)
permit_at bytes = do
  user ← user_at bytes
  repo ← repo_at user.1
  asked ← change_at repo.1
  Some (Permit user.0 repo.0 asked.0, asked.1)

unfoldable pub look_at : List ℕ → Option (Request × List ℕ)
look_at bytes = do
  user ← user_at bytes
  Some (Look user.0, user.1)

unfoldable pub request_at : List ℕ → Option (Request × List ℕ)
request_at [] = None
request_at (byte ∷ rest) =
    if byte == 1 then enter_at rest
    else if byte == 2 then push_at rest
    else if byte == 3 then permit_at rest
    else if byte == 4 then look_at rest
    else None

-- all of the bytes
unfoldable pub body_at : List ℕ → Option (ℕ × Request)
body_at bytes = do
  caller ← number_at w64 bytes
  request ← request_at caller.1
  if length request.1 == 0 then Some (caller.0, request.0) else None
