use Rattle.raw_pack.proofs.GrammarLemmas.{read_is_pack}
use Rattle.raw_pack.proofs.PackLemmas.{pack_whole_stays, pack_broken_stays}
use Rattle.raw_pack.proofs.WrittenLemmas.{pack_is_read, written_is_read}
use Rattle.raw_pack.proofs.UniqueLemmas.{begins_no_other}
use Rattle.raw_pack.proofs.laws.hold_laws.Goals as goal

pub returns : goal.returns
returns c = record {
  grammar = λ bytes n contents are. (read_is_pack bytes n contents are, pack_is_read bytes n contents);
  whole_stays = pack_whole_stays;
  broken_stays = pack_broken_stays;
  written_is_read = written_is_read;
  begins_no_other = begins_no_other;
}
