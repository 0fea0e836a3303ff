use Rattle.std.proofs.Common.{◌≡◌, ◌∙◌, sym, ap, List, ℕ, [], arith}
use Rattle.std.specs.Prelude.{slice_index_or}
use Rattle.update_check.specs.Check.{asked_by}
use Rattle.update_check.specs.Rules.{path_name, said_of_virtual}
use Rattle.update_check.proofs.CheckLemmas.{pass_over, stop_at}
use Rattle.update_check.proofs.check.UpdateCheck.refusal_of_first.Goals as goal

pub returns-in-Some : goal.returns-in-Some
returns-in-Some c = λ ps ok.
    let rules = c.args.self.now.flat.rules in
    let a = asked_by ps c.args.self.now in
    let path : c.in_ok-path.path ≡ slice_index_or c.args.paths.now c.loop-place.place [] = c.in_ok-path.ensures [] in
    let named : c.in_ok-name.name ≡ path_name (slice_index_or c.args.paths.now c.loop-place.place []) = c.in_ok-name.ensures ∙ ap path_name (c.bytes.ensures ∙ path) in
    stop_at ps rules a c.args.letter c.args.paths.now c.loop-place.place [] c.in-Some.refusal (omega (arith, c.loop-place-test.true, c.len-place-end.ensures))
    (sym c.in-Some.is ∙ c.refusal_of_virtual.ensures ps ok ∙ ap (λ (name : List ℕ). said_of_virtual ps rules a c.args.letter name) named) (c.loop-place.invariant ps ok)

pub loop-place-preserved : goal.loop-place-preserved
loop-place-preserved c = λ ps ok.
    let rules = c.args.self.now.flat.rules in
    let a = asked_by ps c.args.self.now in
    let path : c.in_ok-path.path ≡ slice_index_or c.args.paths.now c.loop-place.place [] = c.in_ok-path.ensures [] in
    let named : c.in_ok-name.name ≡ path_name (slice_index_or c.args.paths.now c.loop-place.place []) = c.in_ok-name.ensures ∙ ap path_name (c.bytes.ensures ∙ path) in
    pass_over ps rules a c.args.letter c.args.paths.now c.loop-place.place [] (omega (arith, c.loop-place-test.true, c.len-place-end.ensures))
    (sym (c.refusal_of_virtual.ensures ps ok ∙ ap (λ (name : List ℕ). said_of_virtual ps rules a c.args.letter name) named) ∙ c.in_default.is) (c.loop-place.invariant ps ok)
