use Rattle.std.proofs.Common.{List, ◌++◌, ◌∷◌, [], subst, sym}
use Rattle.ancestry.specs.declared.runs.Run.{Run}
use Rattle.ancestry.specs.Runs.{AreRuns, HasNoneFrom, is_in}
use Rattle.ancestry.proofs.RunLemmas.{push_joined, push_apart}
use Rattle.ancestry.proofs.runs.Runs.push.Goals as goal

pub invariant_of-self-then-last-from : goal.invariant_of-self-then-last-from
invariant_of-self-then-last-from c =
    subst AreRuns (sym c.in_ok-push-2.ensures.items)
    (push_joined c.self.inside.runs.items c.pop.new.self.items c.in-Some.last c.args.from c.args.to c.self.invariant c.in-Some.ensures.items c.requires.full c.if-last-from.true)

pub invariant_of-self-2 : goal.invariant_of-self-2
invariant_of-self-2 c =
    subst AreRuns (sym c.in_ok-push-4.ensures.items)
    (subst (λ (runs : List Run). AreRuns (runs ++ record { from = c.args.from; to = c.args.to } ∷ [])) (sym c.in_ok-push-3.ensures.items)
    (push_apart c.self.inside.runs.items c.pop.new.self.items c.in-Some.last c.args.from c.args.to c.self.invariant c.in-Some.ensures.items c.requires.full
    (subst (λ (runs : List Run). HasNoneFrom (is_in runs) c.args.from) (sym c.self.view_is) c.requires.behind)))
