use Rattle.std.proofs.Common.{◌≡◌, ◌∙◌, sym, ap, subst, Some}
use Rattle.access_check.specs.declared.letters.Letter.{Letter}
use Rattle.update_check.specs.Check.{asked_by}
use Rattle.update_check.specs.Rules.{SaysOfPaths, letter_for, said_of_merge, said_of_ref}
use Rattle.update_check.specs.Table.{Counts, Passes}
use Rattle.update_check.proofs.CheckLemmas.{if_ok, last}
use Rattle.update_check.proofs.check.UpdateCheck.refusal.Goals as goal

pub returns-in-Some-clause-says : goal.returns-in-Some-clause-says
returns-in-Some-clause-says c = λ ps ok.
    let rules = c.args.self.now.flat.rules in
    let a = asked_by ps c.args.self.now in
    let letter : c.letter-letter.result ≡ letter_for ps rules a c.args.facts.now = c.letter-letter.ensures ps ok in (
      c.args.facts.now,
      c.requires,
      Counts c.in-Some.refusal
          (sym c.in-Some.is ∙ c.in_ok-refusal.ensures ps ok ∙ ap (λ (l : Letter). said_of_ref ps rules a l c.args.change.now.name) letter),
    )

pub returns-in-Some-2-clause-says : goal.returns-in-Some-2-clause-says
returns-in-Some-2-clause-says c = λ ps ok.
    let rules = c.args.self.now.flat.rules in
    let a = asked_by ps c.args.self.now in
    let letter : c.letter-letter.result ≡ letter_for ps rules a c.args.facts.now = c.letter-letter.ensures ps ok in (
      c.args.facts.now,
      c.requires,
      Passes (Some c.in-Some-2.refusal)
          (sym c.in_default.is ∙ c.in_ok-refusal.ensures ps ok ∙ ap (λ (l : Letter). said_of_ref ps rules a l c.args.change.now.name) letter)
          (Counts c.in-Some-2.refusal
          (sym c.in-Some-2.is ∙ c.in_ok-refusal-2.ensures ps ok ∙ ap (λ (l : Letter). said_of_merge ps rules a l c.args.facts.now.merge c.args.change.now.name) letter)),
    )

pub returns-clause-says : goal.returns-clause-says
returns-clause-says c =
    if_ok c.refusal_of_paths.result c.refusal_of_paths.ensures.says (λ found says ps ok.
    let rules = c.args.self.now.flat.rules in
    let a = asked_by ps c.args.self.now in
    let letter : c.letter-letter.result ≡ letter_for ps rules a c.args.facts.now = c.letter-letter.ensures ps ok in (
      c.args.facts.now,
      c.requires,
      Passes found
          (sym c.in_default.is ∙ c.in_ok-refusal.ensures ps ok ∙ ap (λ (l : Letter). said_of_ref ps rules a l c.args.change.now.name) letter)
          (Passes found
          (sym c.in_default-2.is ∙ c.in_ok-refusal-2.ensures ps ok ∙ ap (λ (l : Letter). said_of_merge ps rules a l c.args.facts.now.merge c.args.change.now.name) letter)
          (last found (subst (λ (l : Letter). SaysOfPaths ps rules a c.args.self.now.objects l c.args.change.now found) letter (says ps ok)))),
    ))
