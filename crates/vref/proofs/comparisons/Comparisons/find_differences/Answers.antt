use Rattle.std.proofs.Common.{List, sym, subst}
use Rattle.std.specs.Option.{option_copied}
use Rattle.vref.specs.Bases.{DifferAt}
use Rattle.vref.specs.declared.differences.Difference.{Difference}
use Rattle.vref.proofs.BaseLemmas.{differ_at}
use Rattle.vref.proofs.comparisons.Comparisons.find_differences.Goals as goal

pub returns-in-Some-clause-list : goal.returns-in-Some-clause-list
returns-in-Some-clause-list c = let found = c.in_ok-found.ensures c.args.lens.now c.requires.bases in rw c.in-Some.is at found

pub returns-in_err-add-clause-sound : goal.returns-in_err-add-clause-sound
returns-in_err-add-clause-sound c = record {
  pairs = c.requires.pairs;
  bases = c.add.ensures c.args.lens.now c.requires.bases
      (subst (λ (list : List Difference). DifferAt c.args.lens.now c.args.pair.old c.args.pair.new list) (sym c.deref.ensures.value)
      (differ_at c.args.lens.now c.args.pair.old c.args.pair.new (option_copied c.get.result) (option_copied c.get-2.result) c.in_ok-list.list.items c.get.ensures c.get-2.ensures c.in_ok-list.ensures));
}

pub returns-clause-sound : goal.returns-clause-sound
returns-clause-sound c = record {
  pairs = c.requires.pairs;
  bases = c.add.ensures c.args.lens.now c.requires.bases
      (subst (λ (list : List Difference). DifferAt c.args.lens.now c.args.pair.old c.args.pair.new list) (sym c.deref.ensures.value)
      (differ_at c.args.lens.now c.args.pair.old c.args.pair.new (option_copied c.get.result) (option_copied c.get-2.result) c.in_ok-list.list.items c.get.ensures c.get-2.ensures c.in_ok-list.ensures));
}
