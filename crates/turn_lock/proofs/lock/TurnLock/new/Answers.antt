use Rattle.std.proofs.Common.{◌∷◌, [], subst, sym}
use Rattle.atomic_table.specs.Table.{opening}
use Rattle.turn_lock.specs.Rule.{KeepsRule, first_view}
use Rattle.turn_lock.proofs.RuleKept.{opens}
use Rattle.turn_lock.proofs.lock.TurnLock.new.Goals as goal

pub new-requires : goal.new-requires
new-requires g c =
    subst (λ x. KeepsRule g.T.Kept.entries g.T.Kept.caller (opening (0 ∷ []) c.push.new.self.items (first_view (g.T.Kept.entries x)))) (sym c.of-about.ensures)
    (opens g.T.Kept.entries g.T.Kept.caller c.args.held c.push.new.self.items (rw c.new-slots.ensures.items at c.in_ok-push.ensures.items))
