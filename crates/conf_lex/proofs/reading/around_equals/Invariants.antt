use Rattle.std.proofs.Common.{◌≡◌, ◌++◌, drop, take, map}
use Rattle.conf_lex.specs.Words.{before_equals, after_equals, has_equals}
use Rattle.conf_lex.proofs.reading.around_equals.Given as goal

abbrev pub invariant-loop-at : goal.invariant-loop-at
invariant-loop-at l = record {
  none : has_equals (map (λ w. w.now) l.words) ≡ has_equals (map (λ w. w.now) (drop l.at l.words));
  before : before_equals (map (λ w. w.now) l.words) ≡ map (λ w. w.now) (take l.at l.words) ++ before_equals (map (λ w. w.now) (drop l.at l.words));
  after : after_equals (map (λ w. w.now) l.words) ≡ after_equals (map (λ w. w.now) (drop l.at l.words));
}
