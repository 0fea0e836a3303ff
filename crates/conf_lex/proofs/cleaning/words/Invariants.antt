use Rattle.std.proofs.Common.{◌≡◌, ◌≤◌, ◌-◌, ◌++◌, take, drop, map}
use Rattle.conf_lex.specs.Cleaning.{is_white, pieces}
use Rattle.conf_lex.proofs.WordLemmas.{IsFree}
use Rattle.conf_lex.proofs.cleaning.words.Given as goal

-- the words so far are those of what was passed, and since the last white space there is none
abbrev pub invariant-loop-at : goal.invariant-loop-at
invariant-loop-at l = record {
  order : l.start ≤ l.at;
  free : IsFree is_white (take (l.at - l.start) (drop l.start l.line));
  done : pieces is_white l.line ≡ map (λ w. w.now) l.words.items ++ pieces is_white (drop l.start l.line);
}
