use Rattle.std.proofs.Common.{refl}
use Rattle.hub_history.specs.declared.entry.EnterKept.TheVariants as kept_as
use Rattle.hub_history.specs.declared.entry.Event.TheVariants.{Entered}
use Rattle.hub_journal.proofs.ReplayLemmas.{none_pinned}
use Rattle.hub_journal.proofs.replay.ask_enter.Goals as goal

pub returns-in-Denied-clause-keeps : goal.returns-in-Denied-clause-keeps
returns-in-Denied-clause-keeps c =
    none_pinned c.args.hub.now c.enter.new.self c.args.caller (Entered c.args.user.now c.args.repo.now c.args.want (kept_as.Denied c.in-Denied.field-0)) c.in-Denied.ensures.logs (λ after. refl)

pub returns-in-NoRepo-clause-keeps : goal.returns-in-NoRepo-clause-keeps
returns-in-NoRepo-clause-keeps c =
    none_pinned c.args.hub.now c.enter.new.self c.args.caller (Entered c.args.user.now c.args.repo.now c.args.want kept_as.NoRepo) c.in-NoRepo.ensures.logs (λ after. refl)
