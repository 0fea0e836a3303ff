use Rattle.std.proofs.Common.{sym, ◌∙◌, ltb-false}
use Rattle.std.proofs.lemmas.List.Elements.{All-more}
use Rattle.vref.specs.Walk.{IsShort}
use Rattle.vref.specs.declared.walk.TheConstants.{MAX_PATH}
use Rattle.vref.proofs.WalkLemmas.{rows_more}
use Rattle.vref.proofs.walk.rows_of.Goals as goal

pub loop-found-preserved : goal.loop-found-preserved
loop-found-preserved c = record {
  rows = rows_more c.args.at c.args.list.now c.loop-found.found-index _ c.loop-found.rows.items c.push.new.self.items c.row_of.result c.loop-found-test.true c.loop-found.invariant.rows c.row_of.ensures c.in_ok-push.ensures.items;
  short = All-more (IsShort c.args.at) c.args.list.now c.loop-found.found-index _ c.loop-found-test.true c.loop-found.invariant.short (ltb-false MAX_PATH _ (sym c.is_too_long.ensures ∙ c.if-is_too_long.false));
}
