use Rattle.std.proofs.Common.{◌≡◌, length, take}
use Rattle.rule_compile.specs.Patterns.{AreTrue, Patterns}
use Rattle.std.specs.List.{AllZip}
use Rattle.hub_history.specs.Push.{Judges}
use Rattle.push_judging.specs.Judged.{confs_of}
use Rattle.push_judging.proofs.judging.judge_each.Given as goal

abbrev pub invariant-loop-k : goal.invariant-loop-k
invariant-loop-k l = record {
  told : (ps : Patterns) → AreTrue ps → AllZip (Judges ps l.pin.pinned l.pack l.commands) (take l.k l.commands) l.outcomes.items;
  long : length l.outcomes.items ≡ l.k;
  confs : l.confs.items ≡ confs_of l.pin.pinned l.pack (take l.k l.commands) l.outcomes.items;
  walks : l.walks ≡ l.fn.walks;
  check : l.check ≡ l.initial.check;
}
