-- How a fetch ends.
use Rattle.std.proofs.Common.{◌≡◌, Result, sym, subst}
use Rattle.pktline_core.specs.LinkState.{LinkState}
use Rattle.hub.specs.Desk.{DeskView}
use Rattle.interaction_tree.specs.Traces.{Halt}
use Rattle.interaction_tree.specs.Runs.{Runs}
use Rattle.interaction_tree.proofs.RunLemmas.{runs_ends, runs_gives}
use Rattle.session_core.specs.declared.end.SessionEnd.{SessionEnd}
use Rattle.session_core.specs.declared.end.SessionEnd.TheVariants as end
use Rattle.session_core.specs.Rulebook.{RunsByRulebook}
use Rattle.session_core.proofs.RulebookLemmas.{runs_always}
use Rattle.upload_pack.specs.declared.uploading.FetchEnd.{FetchEnd}
use Rattle.upload_pack.specs.declared.uploading.FetchEnd.TheVariants as fetch
use Rattle.git_session.specs.Session.{fetched, fetched_outcome}

ends_fetch : (a : LinkState) (d : DeskView) (e : FetchEnd) → Runs a a d d (fetched e) (fetched_outcome e)
ends_fetch a d fetch.Served = runs_gives a d tt
ends_fetch a d (fetch.NotOurRef id) = runs_ends a d (end.NotOurRef id)

pub fetch_ends : (a : LinkState) (d : DeskView) (e : FetchEnd) (out : Result (Unit {0}) (Halt SessionEnd)) → out ≡ fetched_outcome e → RunsByRulebook a a d d (λ book. fetched e) out
fetch_ends a d e out is = runs_always a a d d (fetched e) out (subst (λ (o : Result (Unit {0}) (Halt SessionEnd)). Runs a a d d (fetched e) o) (sym is) (ends_fetch a d e))
