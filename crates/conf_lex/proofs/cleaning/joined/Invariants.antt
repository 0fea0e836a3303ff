use Rattle.std.proofs.Common.{◌≡◌, ◌++◌, ◌∷◌, drop, map}
use Rattle.std.specs.List.{flat_map}
use Rattle.conf_lex.specs.Cleaning.{joined}
use Rattle.conf_lex.proofs.cleaning.joined.Given as goal

abbrev pub invariant-loop-word : goal.invariant-loop-word
invariant-loop-word l = joined (map (λ w. w.now) l.words) ≡ l.line.items ++ flat_map (λ v. 32 ∷ v) (map (λ w. w.now) (drop l.word-index l.others))
