use Rattle.std.proofs.Common.{◌≡◌, ◌<◌, ◌≤◌, ◌-◌, ℕ, Some, refl, sym, ap, ◌∙◌, length, arith}
use Rattle.std.specs.Prelude.{slice_get}
use Rattle.std.specs.Option.{option_copied}
use Rattle.rule_compile.specs.Covering.{covers_repo}
use Rattle.rule_compile.specs.Flat.{Flat}
use Rattle.rule_compile.specs.Index.{pattern_text, word_of, words_of_rules}
use Rattle.rule_compile.specs.declared.rule.Rule.{Rule}
use Rattle.rule_compile.proofs.IndexLemmas.{kept_at, no_gap, rule_at}
use Rattle.rule_compile.proofs.policy.Policy.covers_repo.Goals as goal

pub covers_by-requires : goal.covers_by-requires
covers_by-requires c =
    let got : slice_get c.self.inside.rules (c.args.seq - 1) ≡ Some c.in-Some.rule.now = sym c.get.ensures ∙ ap option_copied c.in-Some.is in
    kept_at pattern_text c.self.inside.index.patterns (words_of_rules c.self.inside.rules) (c.args.seq - 1) c.in-Some.rule.now.repo c.self.invariant.2.patterns
    (kept_at word_of (words_of_rules c.self.inside.rules) c.self.inside.rules (c.args.seq - 1) c.in-Some.rule.now refl got)

pub returns : goal.returns
returns c = λ ps ok rule is.
    let here : slice_get c.self.inside.rules (c.args.seq - 1) ≡ Some rule = ap (λ (f : Flat). slice_get f.rules (c.args.seq - 1)) c.self.view_is ∙ rule_at c.args.self.now.rules c.args.seq rule is in
    let got : Some c.in-Some.rule.now ≡ Some rule = sym (ap option_copied c.in-Some.is) ∙ c.get.ensures ∙ here in
    let same : c.in-Some.rule.now ≡ rule = cc in
    c.covers_by.ensures ps ok ∙ ap (λ (r : Rule). covers_repo ps r.repo c.args.repo.now (option_copied c.args.creator)) same

pub unreachable-requires : goal.unreachable-requires
unreachable-requires c =
    no_gap c.self.inside.rules (c.args.seq - 1) (below c.args.seq _ _ (ap (λ (f : Flat). length f.rules) c.self.view_is) c.requires.0 c.requires.1) (sym c.get.ensures ∙ ap option_copied c.in-None.is)
  where
    below : (n m k : ℕ) → m ≡ k → 0 < n → n ≤ k → n - 1 < m
    below n m k e low high = omega (arith, e, low, high)
