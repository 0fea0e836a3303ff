use Rattle.std.proofs.Common.{◌≡◌, ◌≤◌, ◌<◌, List, length, get_or, sym, subst, arith, ◌∙◌}
use Rattle.std.proofs.lemmas.Bool.Decides.{nat_tests}
use Rattle.ancestry.specs.declared.runs.Run.{Run}
use Rattle.ancestry.specs.Runs.{AreRuns}
use Rattle.ancestry.proofs.RunLemmas.{first_of_ended, none_of_ended}
use Rattle.ancestry.proofs.runs.Runs.first_run.Goals as goal

pub returns-in-Some-clause-some : goal.returns-in-Some-clause-some
returns-in-Some-clause-some c =
    let items = c.deref.result.now in
    let same : items ≡ c.args.self.now = c.deref.ensures.value ∙ c.self.view_is in
    let inside : c.ended.result < length items = grind (arith, nat_tests, c.in-Some.ensures.lookup.0) in
    let is : get_or items c.ended.result c.in-Some.run'.now ≡ c.in-Some.run'.now = sym c.in-Some.ensures.lookup.1 in
    first_of_ended c.args.self.now c.args.at c.ended.result c.in-Some.run'.now (subst AreRuns c.self.view_is c.self.invariant) c.ended.ensures.before c.ended.ensures.behind
    (subst (λ (runs : List Run). c.ended.result < length runs) same inside)
    (subst (λ (runs : List Run). get_or runs c.ended.result c.in-Some.run'.now ≡ c.in-Some.run'.now) same is)

pub returns-in-None-clause-none : goal.returns-in-None-clause-none
returns-in-None-clause-none c = λ _.
    let past : length c.deref.result.now ≤ c.ended.result = grind (arith, nat_tests, c.in-None.ensures.lookup.0) in
    none_of_ended c.args.self.now c.args.at c.ended.result c.ended.ensures.before (subst (λ (runs : List Run). length runs ≤ c.ended.result) (c.deref.ensures.value ∙ c.self.view_is) past)
