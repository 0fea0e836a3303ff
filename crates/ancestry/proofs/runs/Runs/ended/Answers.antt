use Rattle.std.proofs.Common.{◌≡◌, ◌+◌, ◌-◌, ◌/◌, List, get_or, subst, arith}
use Rattle.ancestry.specs.declared.runs.Run.{Run}
use Rattle.ancestry.specs.Runs.{AreRuns}
use Rattle.ancestry.proofs.RunLemmas.{ended_up_to, behind_from}
use Rattle.ancestry.proofs.runs.Runs.ended.Goals as goal

pub loop-low-preserved-then-index-at : goal.loop-low-preserved-then-index-at
loop-low-preserved-then-index-at c =
    let i = c.loop-low.invariant in
    let middle = c.loop-low.low + (c.loop-low.high - c.loop-low.low) / 2 in
    let run = c.index.result.now in
    let is : run ≡ get_or c.args.self.now middle run = subst (λ (runs : List Run). run ≡ get_or runs middle run) c.self.view_is c.index.ensures in
    record {
      order = omega (arith, c.loop-low-test.true);
      within = i.within;
      before = ended_up_to c.args.self.now middle c.args.at run (subst AreRuns c.self.view_is c.self.invariant) (omega (arith, c.loop-low-test.true, i.within)) is c.if-index-at.true;
      behind = i.behind;
    }

pub loop-low-preserved : goal.loop-low-preserved
loop-low-preserved c =
    let i = c.loop-low.invariant in
    let middle = c.loop-low.low + (c.loop-low.high - c.loop-low.low) / 2 in
    let run = c.index.result.now in
    let is : run ≡ get_or c.args.self.now middle run = subst (λ (runs : List Run). run ≡ get_or runs middle run) c.self.view_is c.index.ensures in
    record {
      order = omega (arith, c.loop-low-test.true);
      within = omega (arith, c.loop-low-test.true, i.within);
      before = i.before;
      behind = behind_from c.args.self.now middle c.args.at run (subst AreRuns c.self.view_is c.self.invariant) (omega (arith, c.loop-low-test.true, i.within)) is c.if-index-at.false;
    }
