use Rattle.std.proofs.Common.{◌≡◌, drop, map, ◌+◌, ◌^◌, ◌<◌}
use Rattle.conf_lex.specs.Words.{first_bad, place_after}
use Rattle.conf_lex.proofs.words.first_bad.Given as goal

abbrev pub invariant-loop-word : goal.invariant-loop-word
invariant-loop-word l = record {
  found : first_bad l.purpose l.start (map (λ w. w.now) l.words) ≡ first_bad l.purpose l.at (map (λ w. w.now) (drop l.word-index l.words));
  room : l.at + place_after (map (λ w. w.now) (drop l.word-index l.words)) < 2 ^ 64;
}
