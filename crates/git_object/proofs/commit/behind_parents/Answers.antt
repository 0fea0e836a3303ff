use Rattle.std.proofs.Common.{arith, sym, ◌∙◌}
use Rattle.std.specs.Prelude.{codes}
use Rattle.git_object.specs.Commit.{parent_line}
use Rattle.git_object.proofs.ReaderLemmas.{behind-none, behind-some}
use Rattle.git_object.proofs.IdLemmas.{id_line-Shrinks}
use Rattle.git_object.proofs.commit.behind_parents.Goals as goal

pub loop-after-preserved : goal.loop-after-preserved
loop-after-preserved c = record {
  behind = sym (behind-some parent_line (id_line-Shrinks (codes "parent ")) _ _ _ (sym c.in-Some.ensures.line)) ∙ c.loop-after.invariant.behind;
  len = omega (arith, c.in-Some.ensures.shorter);
}

pub returns-clause-behind : goal.returns-clause-behind
returns-clause-behind c = sym (behind-none parent_line _ (sym c.in_default.ensures.line)) ∙ c.loop-after.invariant.behind
