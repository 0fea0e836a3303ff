use Rattle.std.proofs.Common.{◌≡◌, ◌∷◌, Some, drop, sym, ap, ◌∙◌, length, rules}
use Rattle.std.specs.Option.{option_copied}
use Rattle.rule_compile.specs.Index.{words_of_rules}
use Rattle.rule_compile.specs.declared.rule.Rule.{Rule}
use Rattle.rule_compile.specs.Covering.{rules_for}
use Rattle.rule_compile.proofs.IndexLemmas.{no_rule, rules_done, rules_go}
use Rattle.rule_compile.proofs.rules_for.RulesForIterator.next.Goals as goal

pub overflow_sub-self-inside : goal.overflow_sub-self-inside
overflow_sub-self-inside c =
    let goes = c.in-Some.ensures.goes (words_of_rules c.self.inside.rules.now) c.self.inside.name.now c.self.inside.place c.self.invariant.1 in
    (rules_go c.self.inside.rules.now c.self.inside.name.now c.self.inside.place c.in-Some.number _ goes.0).1

pub unreachable-requires : goal.unreachable-requires
unreachable-requires c =
    let goes = c.in-Some.ensures.goes (words_of_rules c.self.inside.rules.now) c.self.inside.name.now c.self.inside.place c.self.invariant.1 in
    let next = rules_go c.self.inside.rules.now c.self.inside.name.now c.self.inside.place c.in-Some.number _ goes.0 in
    no_rule next.0 (sym (ap option_copied c.in-None-get.is) ∙ c.get.ensures ∙ next.2)

pub invariant_of-self : goal.invariant_of-self
invariant_of-self c =
    let goes = c.in-Some.ensures.goes (words_of_rules c.self.inside.rules.now) c.self.inside.name.now c.self.inside.place c.self.invariant.1 in
    (c.self.invariant.0, goes.1)

pub invariant_of-self-in-None : goal.invariant_of-self-in-None
invariant_of-self-in-None c =
    let none = (rw c.in-None.is at (c.next.ensures.goes (words_of_rules c.self.inside.rules.now) c.self.inside.name.now c.self.inside.place c.self.invariant.1)) in
    (c.self.invariant.0, none.1)

pub returns-in-Some-get-clause-steps : goal.returns-in-Some-get-clause-steps
returns-in-Some-get-clause-steps c =
    let goes = c.in-Some.ensures.goes (words_of_rules c.self.inside.rules.now) c.self.inside.name.now c.self.inside.place c.self.invariant.1 in
    let next = rules_go c.self.inside.rules.now c.self.inside.name.now c.self.inside.place c.in-Some.number _ goes.0 in
    let got : Some c.in-Some-get.rule.now ≡ Some next.0 = sym (ap option_copied c.in-Some-get.is) ∙ c.get.ensures ∙ next.2 in
    let same : next.0 ≡ c.in-Some-get.rule.now = cc in
    sym c.self.view_is ∙ next.3 ∙ ap (λ (r : Rule). r ∷ rules_for (drop c.in-Some.number c.self.inside.rules.now) c.self.inside.name.now) same

pub returns-in-Some-get-clause-goes : goal.returns-in-Some-get-clause-goes
returns-in-Some-get-clause-goes c =
    let steps = returns-in-Some-get-clause-steps c in
    let fewer = ap length steps in
    search rules

pub returns-in-None-clause-steps : goal.returns-in-None-clause-steps
returns-in-None-clause-steps c =
    let none = (rw c.in-None.is at (c.next.ensures.goes (words_of_rules c.self.inside.rules.now) c.self.inside.name.now c.self.inside.place c.self.invariant.1)) in
    let done = rules_done c.self.inside.rules.now c.self.inside.name.now c.self.inside.place none.0 in
    (sym c.self.view_is ∙ done, done)
