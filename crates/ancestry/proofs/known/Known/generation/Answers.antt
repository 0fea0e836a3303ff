use Rattle.ancestry.proofs.known.Known.generation.Goals as goal

pub returns-in-Some-clause-right : goal.returns-in-Some-clause-right
returns-in-Some-clause-right c = λ objects known. (known.whole c.args.id c.in-Some.generation c.in-Some.ensures.one).1
