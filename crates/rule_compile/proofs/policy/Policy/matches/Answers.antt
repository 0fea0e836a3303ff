use Rattle.std.proofs.Common.{◌≡◌, ◌<◌, ◌≤◌, ◌-◌, ℕ, List, Some, sym, ap, ◌∙◌, length, arith}
use Rattle.std.proofs.lemmas.List.{length-map}
use Rattle.std.specs.Prelude.{slice_get}
use Rattle.std.specs.Option.{option_copied}
use Rattle.rule_compile.specs.Flat.{Flat}
use Rattle.rule_compile.specs.Index.{refex_of}
use Rattle.rule_compile.proofs.IndexLemmas.{kept_at, no_gap, rule_at}
use Rattle.rule_compile.proofs.policy.Policy.matches.Goals as goal

pub returns : goal.returns
returns c = λ ps ok rule is.
    let here : slice_get c.self.inside.rules (c.args.seq - 1) ≡ Some rule = ap (λ (f : Flat). slice_get f.rules (c.args.seq - 1)) c.self.view_is ∙ rule_at c.args.self.now.rules c.args.seq rule is in
    let got : Some c.in-Some.refex.now ≡ Some rule.refex = sym (ap option_copied c.in-Some.is) ∙ c.get.ensures ∙ kept_at refex_of c.self.inside.refexes c.self.inside.rules (c.args.seq - 1) rule c.self.invariant.1 here in
    let same : c.in-Some.refex.now ≡ rule.refex = cc in
    c.starts.ensures ps ok ∙ ap (λ (t : List ℕ). ps.starts t c.args.user.now c.args.name.now) same

pub unreachable-requires : goal.unreachable-requires
unreachable-requires c =
    let counted : length c.self.inside.refexes ≡ length c.args.self.now.rules = ap (λ (ts : List (List ℕ)). length ts) c.self.invariant.1 ∙ length-map c.self.inside.rules refex_of ∙ ap (λ (f : Flat). length f.rules) c.self.view_is in
    no_gap c.self.inside.refexes (c.args.seq - 1) (below c.args.seq _ _ counted c.requires.number.0 c.requires.number.1) (sym c.get.ensures ∙ ap option_copied c.in-None.is)
  where
    below : (n m k : ℕ) → m ≡ k → 0 < n → n ≤ k → n - 1 < m
    below n m k e low high = omega (arith, e, low, high)
