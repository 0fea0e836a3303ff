use Rattle.std.proofs.Common.{◌≡◌, length, take}
use Rattle.rule_compile.specs.Patterns.{AreTrue, Patterns}
use Rattle.std.specs.List.{AllZip}
use Rattle.hub_history.specs.Push.{JudgesAtPush}
use Rattle.push_judging.specs.Judged.{confs_of}
use Rattle.push_judging.proofs.later.judge_each_again.Given as goal

abbrev pub invariant-loop-k : goal.invariant-loop-k
invariant-loop-k l = record {
  told : (ps : Patterns) → AreTrue ps → AllZip (JudgesAtPush ps (record { conf = l.conf; wild = l.wild }) l.pin.pinned l.pack l.commands) (take l.k l.commands) l.outcomes.items;
  long : length l.outcomes.items ≡ l.k;
  check : l.check ≡ l.fn.check;
  confs : l.confs.items ≡ confs_of l.pin.pinned l.pack (take l.k l.commands) l.outcomes.items;
}
