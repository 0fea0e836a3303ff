use Rattle.ancestry.proofs.known.Known.get.Goals as goal

pub returns-in-Some : goal.returns-in-Some
returns-in-Some c = λ objects known. (known.whole c.args.id c.in-Some._generation c.in-Some.ensures.one).0

pub returns-in-Some-get : goal.returns-in-Some-get
returns-in-Some-get c = λ objects known. known.amiss c.args.id c.in-Some-get.verdict c.in-Some-get.ensures.one
