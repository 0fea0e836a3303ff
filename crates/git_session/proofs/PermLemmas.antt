-- An entry for roles, and the rest.
use Rattle.std.proofs.Common.{◌≡◌, Some, Result}
use Rattle.pktline_core.specs.LinkState.{LinkState}
use Rattle.ref_store.specs.Refs.{Name}
use Rattle.wild_perms.specs.declared.answer.PermsAnswer.{PermsAnswer}
use Rattle.hub_history.specs.declared.entry.PermChange.{PermChange}
use Rattle.hub_history.specs.declared.entry.PermsKept.{PermsKept}
use Rattle.hub_history.specs.Roles.{kept_of}
use Rattle.hub_history.specs.History.{replay}
use Rattle.hub_history.specs.State.{repository_at}
use Rattle.hub.specs.Desk.{DeskView, Permits}
use Rattle.hub_history.specs.Requests.{Permit}
use Rattle.interaction_tree.specs.Interaction.{write, ask}
use Rattle.interaction_tree.specs.Traces.{Halt}
use Rattle.interaction_tree.specs.Runs.{Runs}
use Rattle.interaction_tree.proofs.RunLemmas.{runs_bind}
use Rattle.interaction_tree.proofs.StepLemmas.{runs_permitted}
use Rattle.session_core.specs.declared.end.SessionEnd.{SessionEnd}
use Rattle.git_session.specs.Perms.{perms_reply, permitting}

pub permitted_then : (a c : LinkState) (d e : DeskView) (user repo : Name) (change : PermChange) (result : PermsAnswer) (answer : PermsKept) (out : Result (Unit {0}) (Halt SessionEnd)) → kept_of result ≡ Some answer → (permits : Permits d e user repo change result)
    → Runs a c e e (write (perms_reply (repository_at (replay d.admin permits.0) repo).roles answer)) out → Runs a c d e (permitting d.admin user repo change) out
unfolding permitting
permitted_then a c d e user repo change result answer out is permits rest =
    runs_bind a a c d e e (ask (Permit user repo change)) _ _ out (runs_permitted a d e user repo change result answer is permits) rest
