use Rattle.std.proofs.Common.{◌≡◌, Err, rules}
use Rattle.raw_pack.proofs.PackLemmas.{pack_cut_in_header}
use Rattle.raw_pack.proofs.ReaderLemmas.{stands_first}
use Rattle.raw_pack.proofs.reader.PackReader.begin.Goals as goal

pub returns-in_err-count-clause-begins : goal.returns-in_err-count-clause-begins
returns-in_err-count-clause-begins g c =
    let answer : c.from_residual.result ≡ Err c.in_err-count.field-0.0 = search rules in
    rw answer (pack_cut_in_header _ _ _ _ c.in_err-count.field-0.0 c.in_err-count.ensures.reads)

pub returns-clause-begins : goal.returns-clause-begins
returns-clause-begins g c = stands_first _ _ _ _ c.in_ok-count.count _ c.new-hasher.ensures c.in_ok-count.ensures.reads c.read_header.ensures.later
