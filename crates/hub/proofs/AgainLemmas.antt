-- What a push is told that was judged again outside of its turn.
use Rattle.std.proofs.Common.{List, Option, sym, subst}
use Rattle.std.specs.Option.{IfSome}
use Rattle.git_object.specs.Content.{Content}
use Rattle.ref_store.specs.declared.command.Command.{Command}
use Rattle.wild_perms.specs.Roles.{WildView}
use Rattle.hub_history.specs.declared.outcome.Outcome.{Outcome}
use Rattle.hub_history.specs.Opening.{Pinned}
use Rattle.hub_history.specs.State.{Conf}
use Rattle.push_judging.specs.Again.{TellsAgain}
use Rattle.push_judging.specs.Judged.{AreTold, IsJudgement, JudgedAgain, Judgement}
use Rattle.push_judging.specs.declared.judging.CommandOutcomes.{CommandOutcomes}

pub again_told : (pinned : Pinned) (pack : List Content) (commands : List Command) (j : Judgement) (wild : WildView) (told : CommandOutcomes) → IsJudgement pinned pack commands j → TellsAgain j wild told
    → AreTold (record { conf = pinned.conf; wild = wild }) pinned pack commands told.outcomes.items told.confs.items
again_told pinned pack commands j wild told judged tells =
    let kept = subst (λ (o : Option JudgedAgain). IfSome o (λ a. AreTold (record { conf = pinned.conf; wild = a.wild }) pinned pack commands a.outcomes a.confs)) tells.kept judged.again in
    subst (λ (os : List (Option Outcome)). AreTold (record { conf = pinned.conf; wild = wild }) pinned pack commands os told.confs.items) (sym tells.outcomes_are)
    (subst (λ (cs : List (Option Conf)). AreTold (record { conf = pinned.conf; wild = wild }) pinned pack commands tells.again.outcomes cs) (sym tells.confs_are)
    (subst (λ (w : WildView). AreTold (record { conf = pinned.conf; wild = w }) pinned pack commands tells.again.outcomes tells.again.confs) tells.wild_is kept))
