use Rattle.std.proofs.Common.{◌≡◌, drop, map, ◌+◌}
use Rattle.conf_lex.specs.Words.{place_after}
use Rattle.conf_lex.proofs.words.place_after.Given as goal

abbrev pub invariant-loop-word : goal.invariant-loop-word
invariant-loop-word l = l.sum + place_after (map (λ w. w.now) (drop l.word-index l.words)) ≡ place_after (map (λ w. w.now) l.words)
