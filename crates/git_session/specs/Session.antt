-- A session, as an interaction.
use Rattle.std.specs.Prelude.{ℕ, Result, Ok, Err}
use Rattle.ref_store.specs.Refs.{Name}
use Rattle.access_check.specs.declared.verdicts.Want.TheVariants.{Read, Write}
use Rattle.interaction_tree.specs.Traces.{Ended, Halt}
use Rattle.interaction_tree.specs.Interaction.{Interaction, gives, ends, ◌>>=◌}
use Rattle.session_core.specs.declared.end.SessionEnd.{SessionEnd}
use Rattle.session_core.specs.declared.end.SessionEnd.TheVariants as end
use Rattle.session_core.specs.declared.first_packet.Service.{Service}
use Rattle.session_core.specs.declared.first_packet.Service.TheVariants.{Receive, Upload, Permit, Look}
use Rattle.session_core.specs.Asking.{asking}
use Rattle.session_core.specs.Opening.{entering}
use Rattle.session_core.specs.Rulebook.{Rulebook}
use Rattle.receive_pack.specs.Receiving.{receiving}
use Rattle.upload_pack.specs.Uploading.{uploading}
use Rattle.upload_pack.specs.declared.uploading.FetchEnd.{FetchEnd}
use Rattle.upload_pack.specs.declared.uploading.FetchEnd.TheVariants as fetch
use Rattle.git_session.specs.Info.{looking}
use Rattle.git_session.specs.Perms.{permitting}

-- the opening, and the push behind it; the first packet ends at this offset
unfoldable pub pushing_into : Rulebook → Name → Name → Name → ℕ → Interaction SessionEnd (Unit {0})
pushing_into book admin user repo offset = do
  opening ← entering book admin user repo Write
  receiving book opening offset

-- a fetch that was told that a want isn't advertised ends so
abbrev pub fetched : FetchEnd → Interaction SessionEnd (Unit {0})
fetched fetch.Served = gives tt
fetched (fetch.NotOurRef id) = ends (end.NotOurRef id)

-- what a function answers that ends the session so
abbrev pub fetched_outcome : FetchEnd → Result (Unit {0}) (Halt SessionEnd)
fetched_outcome fetch.Served = Ok tt
fetched_outcome (fetch.NotOurRef id) = Err (Ended (end.NotOurRef id))

-- the opening, and the fetch behind it
unfoldable pub fetching_from : Rulebook → Name → Name → Name → ℕ → Interaction SessionEnd (Unit {0})
fetching_from book admin user repo offset = do
  opening ← entering book admin user repo Read
  end ← uploading opening offset
  fetched end

-- what is asked for by this user, in a first packet that ends at this offset
abbrev pub serving : Rulebook → Name → Name → Service → ℕ → Interaction SessionEnd (Unit {0})
serving book admin user (Receive repo) offset = pushing_into book admin user repo offset
serving book admin user (Upload repo) offset = fetching_from book admin user repo offset
serving book admin user (Permit repo change) offset = permitting admin user repo change
serving book admin user Look offset = looking book admin user

-- from this offset on, which is the session's first byte
unfoldable pub served : Rulebook → Name → ℕ → Interaction SessionEnd (Unit {0})
served book admin offset = do
  first ← asking offset
  serving book admin first.0.user first.0.service first.1

-- the session of a hub of this admin's setup, by the rules that are in force along its log
unfoldable pub session : Rulebook → Name → Interaction SessionEnd (Unit {0})
session book admin = do
  done ← served book admin 0
  ends end.Served
