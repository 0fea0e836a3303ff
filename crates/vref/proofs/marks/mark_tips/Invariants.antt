use Rattle.std.proofs.Common.{◌≡◌, length}
use Rattle.vref.specs.Marks.{AreTipsOf}
use Rattle.vref.proofs.marks.mark_tips.Given as goal

abbrev pub invariant-loop-k : goal.invariant-loop-k
invariant-loop-k l = record {
  tips : AreTipsOf l.k l.ids.keys l.tips l.words;
  long : length l.words ≡ length l.fn.words;
}
