use Rattle.std.proofs.Common.{◌≡◌, subst, sym}
use Rattle.std.specs.Prelude.{IfErr}
use Rattle.event_record.specs.Asked.{asked}
use Rattle.event_record.specs.declared.request.Request.{Request}
use Rattle.hub_journal.specs.Replay.{IsForeseen, IsImpossible}
use Rattle.hub_journal.specs.declared.replay.ReplayFault.TheVariants as fault
use Rattle.hub_journal.proofs.replay.Replay.next.Goals as goal

pub returns-in-Push-clause-impossible : goal.returns-in-Push-clause-impossible
returns-in-Push-clause-impossible c =
    subst (λ (r : Request). IfErr c.push.result (λ its. its ≡ fault.Impossible → IsForeseen c.args.self (asked r) → IsImpossible c.args.self.hub (asked r))) (sym c.in-Push.is) c.push.ensures.impossible
