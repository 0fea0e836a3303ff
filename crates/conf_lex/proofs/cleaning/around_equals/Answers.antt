use Rattle.std.proofs.Common.{◌≡◌, ◌+◌, ◌++◌, ◌∷◌, arith, add-one, take, drop}
use Rattle.conf_lex.specs.Cleaning.{spaced}
use Rattle.conf_lex.proofs.ByteLemmas.{spaced_at, spaced_none}
use Rattle.conf_lex.proofs.cleaning.around_equals.Goals as goal

pub returns-in-None : goal.returns-in-None
returns-in-None c = spaced_none c.args.line.now (λ k l p. c.in-None.ensures k (omega arith) l p)

pub returns-in-Some : goal.returns-in-Some
returns-in-Some c =
    let first = c.in-Some.ensures.0 in
    let e : spaced c.args.line.now ≡ take c.in-Some.at c.args.line.now ++ (32 ∷ 61 ∷ 32 ∷ drop (c.in-Some.at + 1) c.args.line.now) =
    rw add-one (spaced_at c.args.line.now c.in-Some.at first.high (λ j l p. first.before j (omega arith) l p) c.in-Some.ensures.1) in
    rw (c.split_at.ensures.front, c.split_at-in-Some.ensures.back) e
