use Rattle.std.proofs.Common.{◌≡◌, ◌++◌, ◌∷◌, [], ℕ, List, false, true, rules, ◌∙◌, ap}
use Rattle.std.specs.FinMap as named
use Rattle.std.proofs.lemmas.Result.{on_ok_weaker}
use Rattle.repo_listing.proofs.StepLemmas.{one_appended}
use Rattle.repo_listing.proofs.listing.push_once.Goals as goal
use Rattle.repo_listing.specs.declared.lines.LookLine.TheVariants.{Pattern}

pub returns-clause-ok : goal.returns-clause-ok
returns-clause-ok c =
    let new : named.contains_key c.args.seen.now c.args.text.now ≡ false = search rules in
    on_ok_weaker c.push.result
    (λ is before texts are. one_appended before texts c.args.text.now c.args.list.now c.push.new.self c.args.seen.now c.insert.new.self are new
    (c.in_ok-insert.ensures.ok ∙ ap (λ (t : List ℕ). named.insert c.args.seen.now t true) c.in_ok-clone.ensures.cases)
    (is ∙ ap (λ (t : List ℕ). c.args.list.now ++ Pattern t ∷ []) c.in_ok-clone-2.ensures.cases))
    c.push.ensures.ok
