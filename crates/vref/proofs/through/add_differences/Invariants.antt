use Rattle.std.proofs.Common.{List, take}
use Rattle.git_object.specs.Tree.{Entry}
use Rattle.vref.specs.Differences.{AreDifferences}
use Rattle.vref.specs.Rows.{entry_named}
use Rattle.vref.specs.Through.{HasSides}
use Rattle.vref.proofs.ThroughLemmas.{Changing}
use Rattle.vref.proofs.through.add_differences.Given as goal

abbrev pub invariant-loop-found : goal.invariant-loop-found
invariant-loop-found l = (first second last : List Entry) → HasSides (entry_named first) (entry_named second) l.fn.names → AreDifferences second last l.list → Changing first second last (take l.found-index l.list) l.names
