use Rattle.std.proofs.Common.{◌≡◌, map, take}
use Rattle.conf_lex.proofs.reading.texts.Given as goal

abbrev pub invariant-loop-word : goal.invariant-loop-word
invariant-loop-word l = l.list ≡ map (λ w. w.now) (take l.word-index l.words)
