use Rattle.std.proofs.Common.{◌≡◌, ◌+◌, ◌-◌, ◌^◌, ◌≤◌, min}
use Rattle.std.specs.List.{sum_by}
use Rattle.std.specs.FinMap.{len}
use Rattle.hub.proofs.hub.Hub.ref_count.Given as goal

abbrev pub invariant-loop-hosted : goal.invariant-loop-hosted
invariant-loop-hosted l = record {
  within : l.count ≤ 2 ^ 64 - 1;
  total : min (l.count + sum_by (λ e. len e.1.refs) l.hosted-iterator) (2 ^ 64 - 1) ≡ min (sum_by (λ e. len e.1.refs) l.initial.hosted-iterator) (2 ^ 64 - 1);
}
