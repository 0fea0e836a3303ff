use Rattle.std.proofs.Common.{◌≡◌, map, take}
use Rattle.vref.proofs.advances.news_of.Given as goal

abbrev pub invariant-loop-new : goal.invariant-loop-new
invariant-loop-new l = l.news.items ≡ map (λ pair. pair.1) (take l.new-index l.pairs)
