use Rattle.std.proofs.Common.{◌≡◌, ◌∙◌, ℕ, List, Contains, take, sym, subst}
use Rattle.std.proofs.lemmas.List.{take_all}
use Rattle.ancestry.proofs.RunSetLemmas.{read_again, read_one, read_before}
use Rattle.ancestry.proofs.run_sets.runs_of.Goals as goal

pub loop-place-preserved-then-contains : goal.loop-place-preserved-then-contains
loop-place-preserved-then-contains c = read_again c.loop-place.runs c.args.places.now c.loop-place.place-index c.loop-place.invariant c.loop-place-test.true (sym c.contains.ensures ∙ c.if-contains.true)

pub push-requires-clause-behind : goal.push-requires-clause-behind
push-requires-clause-behind c = read_before c.loop-place.runs c.args.places.now c.loop-place.place-index c.loop-place.invariant c.requires.ascend c.loop-place-test.true (sym c.contains.ensures ∙ c.if-contains.false)

pub loop-place-preserved : goal.loop-place-preserved
loop-place-preserved c = read_one c.loop-place.runs c.push.new.self c.args.places.now c.loop-place.place-index c.loop-place.invariant c.loop-place-test.true c.in_ok-push.ensures

pub returns : goal.returns
returns c = λ place.
    let all : take c.loop-place.place-index c.args.places.now ≡ c.args.places.now = take_all c.loop-place.place-index c.args.places.now c.loop-place-test.false in
    let read = c.loop-place.invariant place in
    (λ has. subst (λ (ps : List ℕ). Contains ps place) all (read.0 has), λ there. read.1 (subst (λ (ps : List ℕ). Contains ps place) (sym all) there))
