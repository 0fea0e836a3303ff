use Rattle.std.proofs.Common.{◌≡◌}
use Rattle.push_judging.specs.Judged.{IsJudgement}
use Rattle.shared_hub.proofs.desk.SharedDeskDesk.push.Given as goal

abbrev pub invariant-loop : goal.invariant-loop
invariant-loop g l = record {
  self : l.self ≡ l.fn.self;
  pin : l.asked.pin ≡ l.fn.pin;
  pack : l.asked.request.pack ≡ l.fn.pack;
  commands : l.asked.request.commands ≡ l.fn.commands;
  atomic : l.asked.request.atomic ≡ l.fn.atomic;
  judged : IsJudgement l.asked.pin.pinned l.asked.request.pack l.asked.request.commands l.asked.judged;
}
