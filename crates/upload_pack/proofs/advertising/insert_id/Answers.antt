use Rattle.upload_pack.proofs.IdLemmas.{any_inserted}
use Rattle.upload_pack.proofs.advertising.insert_id.Goals as goal

pub returns : goal.returns
returns c = λ other. any_inserted c.args.ids.now.keys c.insert.new.self.keys c.args.id other c.in_ok-insert.ensures.keys
