use Rattle.std.proofs.Common.{subst}
use Rattle.ancestry.specs.declared.verdict.Verdict.{Verdict}
use Rattle.ancestry.specs.Wholeness.{TellsOfWholeness}
use Rattle.ancestry.proofs.VerdictLemmas.{as_wholeness, told_as_defined}
use Rattle.ancestry.proofs.walks.Walks.whole.Goals as goal

pub returns-in-Whole-clause-told : goal.returns-in-Whole-clause-told
returns-in-Whole-clause-told c =
    let objects = c.args.self.now in
    subst (λ (v : Verdict). TellsOfWholeness objects c.args.id c.args.kind (as_wholeness v)) c.in-Whole.is (told_as_defined objects c.args.id c.args.kind c.in-Ok.verdict c.in-Ok.ensures.told)

pub returns-in-Missing-clause-told : goal.returns-in-Missing-clause-told
returns-in-Missing-clause-told c =
    let objects = c.args.self.now in
    subst (λ (v : Verdict). TellsOfWholeness objects c.args.id c.args.kind (as_wholeness v)) c.in-Missing.is (told_as_defined objects c.args.id c.args.kind c.in-Ok.verdict c.in-Ok.ensures.told)

pub returns-in-WrongKind-clause-told : goal.returns-in-WrongKind-clause-told
returns-in-WrongKind-clause-told c =
    let objects = c.args.self.now in
    subst (λ (v : Verdict). TellsOfWholeness objects c.args.id c.args.kind (as_wholeness v)) c.in-WrongKind.is (told_as_defined objects c.args.id c.args.kind c.in-Ok.verdict c.in-Ok.ensures.told)
