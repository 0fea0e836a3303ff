use Rattle.std.proofs.Common.{List, subst}
use Rattle.git_object.specs.Content.{Content}
use Rattle.ancestry.specs.Verdict.{IsToldOf}
use Rattle.ancestry.proofs.walks.Walks.judge.Goals as goal

pub returns-in-Some-clause-told : goal.returns-in-Some-clause-told
returns-in-Some-clause-told c = subst (λ (objects : List Content). IsToldOf objects c.args.id c.args.kind c.in-Some.verdict) c.in_ok-settle.ensures c.in-Some.ensures
