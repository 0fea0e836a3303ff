use Rattle.std.proofs.Common.{◌≡◌, Some, rules}
use Rattle.access_report.specs.Reading.{once, ref_named}
use Rattle.access_report.proofs.ReadingLemmas.{ref_read}
use Rattle.access_report.proofs.reading.Reading.read_ref.Goals as goal

pub returns : goal.returns
returns c =
    let named : ref_named c.args.word.now ≡ Some c.in-Some.name = search rules in
    let new : once c.args.self.now c.args.line.now c.args.self.now ≡ Some c.is_new.new.self = search rules in
    ref_read c.args.self.now c.is_new.new.self c.args.line.now c.args.word.now c.in-Some.name c.push.new.self named new (search rules)
