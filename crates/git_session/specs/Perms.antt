-- A change or a listing of roles, as an interaction.
use Rattle.std.specs.Prelude.{ℕ, List, [], ◌∷◌, ◌++◌, map, codes}
use Rattle.std.specs.List.{flat_map}
use Rattle.pktline_core.specs.Packets.{spelling, Flush}
use Rattle.ref_store.specs.Refs.{Name}
use Rattle.wild_perms.specs.declared.role.RoleEntry.{RoleEntry}
use Rattle.hub_history.specs.declared.entry.Event.{Event}
use Rattle.hub_history.specs.declared.entry.Event.TheVariants.{Entered, Pushed, Permitted, Looked}
use Rattle.hub_history.specs.declared.entry.PermChange.{PermChange}
use Rattle.hub_history.specs.declared.entry.PermsKept.{PermsKept}
use Rattle.hub_history.specs.declared.entry.PermsKept.TheVariants as answer
use Rattle.hub_history.specs.History.{replay}
use Rattle.hub_history.specs.State.{repository_at}
use Rattle.hub_history.specs.Requests.{Permit}
use Rattle.interaction_tree.specs.Interaction.{Interaction, ◌>>=◌, write, ask}
use Rattle.session_core.specs.declared.end.SessionEnd.{SessionEnd}
use Rattle.session_core.specs.Denials.{shown}
use Rattle.session_core.specs.Packets.{packet}

-- `ROLE USER`, and a line feed
abbrev pub role_line : RoleEntry → List ℕ
role_line entry = shown entry.role ++ 32 ∷ shown entry.user ++ 10 ∷ []

-- what an asker is told who isn't the creator, whether or not there is one
abbrev pub not_yours : List ℕ
not_yours = codes "perms: not a wild repository of yours\n"

-- the lines of an answer, of a repository with these roles
abbrev pub answer_lines : List RoleEntry → PermsKept → List (List ℕ)
answer_lines roles answer.Changed = codes "perms: changed\n" ∷ []
answer_lines roles answer.AlreadySo = codes "perms: already so\n" ∷ []
answer_lines roles answer.NotWild = not_yours ∷ []
answer_lines roles answer.NotCreator = not_yours ∷ []
answer_lines roles answer.NoSuchRole = codes "perms: no such role\n" ∷ []
answer_lines roles answer.Listed = map role_line roles

-- a packet for each line, and a flush
unfoldable pub perms_reply : List RoleEntry → PermsKept → List ℕ
perms_reply roles kept = flat_map packet (answer_lines roles kept) ++ spelling Flush

-- The answer that an entry records for roles. Another entry, which a request for roles never makes, is taken
-- as one of a repository without creator.
abbrev pub recorded_perms : Event → PermsKept
recorded_perms (Entered user repo want kept) = answer.NotWild
recorded_perms (Pushed place pack commands atomic outcomes made) = answer.NotWild
recorded_perms (Permitted user repo change kept) = kept
recorded_perms (Looked user) = answer.NotWild

-- the answer that the entry records, with the roles as they were just before it; the admin is the one from
-- whose setup the log is legal
unfoldable pub permitting : Name → Name → Name → PermChange → Interaction SessionEnd (Unit {0})
permitting admin user repo change = do
  own ← ask (Permit user repo change)
  write (perms_reply (repository_at (replay admin own.before) repo).roles (recorded_perms own.entry.event))
