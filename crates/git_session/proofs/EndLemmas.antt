-- What a session that ran its interaction keeps.
use Rattle.std.proofs.Common.{inl, inr, List, Err, refl, sym, subst}
use Rattle.pktline_core.specs.LinkState.{LinkState}
use Rattle.pktline_core.specs.Links.{IsLater}
use Rattle.hub.specs.Desk.{DeskView, IsSound}
use Rattle.ref_store.specs.Refs.{Name}
use Rattle.interaction_tree.specs.Requests.{OwnEntry}
use Rattle.interaction_tree.specs.Runs.{IsCaused}
use Rattle.interaction_tree.specs.Endings.{TakesTurn}
use Rattle.interaction_tree.specs.Growth.{GrowsBy, own_since}
use Rattle.interaction_tree.proofs.EndingLemmas.{runs_turn}
use Rattle.interaction_tree.proofs.DeskLemmas.{made_since, makes_grows}
use Rattle.session_core.specs.declared.end.SessionEnd.{SessionEnd}
use Rattle.session_core.specs.declared.end.SessionEnd.TheVariants.{Served, Denied, NoRepo, BadCommand, BadUser, Malformed, TooLong, Truncated, ReadFault, WriteFault, NoMemory, BadPack, NotOurRef}
use Rattle.session_core.specs.End.{HasCause, IsSure, halt_of}
use Rattle.session_core.specs.Rulebook.{ByRulebook, IsRulebook, RunsByRulebook}
use Rattle.session_core.proofs.RulebookLemmas.{made_on, runs_by}
use Rattle.git_session.specs.Session.{session}
use Rattle.git_session.proofs.OrderLemmas.{is_ordered}

pub has_cause : (a b : LinkState) (end : SessionEnd) → IsCaused {A = Unit {0}} a b (Err (halt_of end)) → HasCause a b end
has_cause a b Served caused = tt
has_cause a b Denied caused = tt
has_cause a b NoRepo caused = tt
has_cause a b (BadPack fault) caused = tt
has_cause a b (NotOurRef id) caused = tt
has_cause a b BadCommand caused = tt
has_cause a b BadUser caused = tt
has_cause a b (Malformed offset) caused = tt
has_cause a b (TooLong count) caused = tt
has_cause a b Truncated caused = tt
has_cause a b ReadFault caused = caused
has_cause a b WriteFault caused = caused
has_cause a b NoMemory caused = tt

pub is_sure : (a b : LinkState) (end : SessionEnd) → HasCause a b end → IsSure a b end
is_sure a b Served caused reads writes = inl refl
is_sure a b Denied caused reads writes = inl refl
is_sure a b NoRepo caused reads writes = inl refl
is_sure a b (BadPack fault) caused reads writes = inl refl
is_sure a b (NotOurRef id) caused reads writes = inl refl
is_sure a b BadCommand caused reads writes = inl refl
is_sure a b BadUser caused reads writes = inl refl
is_sure a b (Malformed offset) caused reads writes = inl refl
is_sure a b (TooLong count) caused reads writes = inl refl
is_sure a b Truncated caused reads writes = inl refl
is_sure a b ReadFault caused reads writes = absurd (reads caused.0)
is_sure a b WriteFault caused reads writes = absurd (writes caused.0)
is_sure a b NoMemory caused reads writes = inr refl

pub record SessionKeeps (a b : LinkState) (d e : DeskView) (admin : Name) (end : SessionEnd) : Type 0 where
  pub turn : ByRulebook d.admin e.seen (λ book. TakesTurn a b (own_since d e) (session book admin) (halt_of end))
  pub grows : GrowsBy d e (own_since d e)
  pub sound : IsSound e
  pub causes : HasCause a b end
  pub sure : IsSure a b end
  pub later : IsLater a b

pub session_keeps : (a b : LinkState) (d e : DeskView) (admin : Name) (end : SessionEnd) → IsSound d → RunsByRulebook a b d e (λ book. session book admin) (Err (halt_of end)) → SessionKeeps a b d e admin end
session_keeps a b d e admin end sound ran =
    let cause = has_cause a b end ran.caused in
    let grown = makes_grows d e ran.own sound ran.made in
    record {
      turn = λ book of.
          runs_turn a b d e (session book admin) (halt_of end) (is_ordered book admin)
          (runs_by a b d e (λ book. session book admin) (Err (halt_of end)) book (subst (λ (n : Name). IsRulebook n e.seen book) (sym (made_on d e ran.own ran.made).0) of) ran);
      grows = subst (λ (own : List OwnEntry). GrowsBy d e own) (made_since d e ran.own ran.made) grown.1;
      sound = grown.0;
      causes = cause;
      sure = is_sure a b end cause;
      later = ran.later;
    }
