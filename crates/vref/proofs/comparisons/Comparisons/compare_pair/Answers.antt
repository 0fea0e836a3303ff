use Rattle.std.proofs.Common.{refl, sym, ◌∙◌, ap}
use Rattle.std.specs.Map.{lookup}
use Rattle.vref.specs.Comparisons.{same_pair}
use Rattle.vref.proofs.ComparisonLemmas.{sound_more}
use Rattle.vref.proofs.comparisons.Comparisons.compare_pair.Goals as goal

pub returns-clause-sound : goal.returns-clause-sound
returns-clause-sound c =
    sound_more c.args.lens.now c.find_differences.new.self (record { pairs = c.insert.new.self; bases = c.find_differences.new.self.bases }) c.args.pair c.in_ok-list.list c.in_ok-list.ensures.sound c.in_ok-list.ensures.list
    c.in_ok-insert.ensures.updates.0 refl

pub returns-in_err-insert-clause-sound : goal.returns-in_err-insert-clause-sound
returns-in_err-insert-clause-sound c = record {
  pairs = λ pair list is. c.in_ok-list.ensures.sound.pairs pair list (sym (ap (lookup (same_pair pair)) c.in_err-insert.ensures.err) ∙ is);
  bases = c.in_ok-list.ensures.sound.bases;
}
