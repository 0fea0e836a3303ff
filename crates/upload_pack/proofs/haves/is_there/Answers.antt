use Rattle.std.proofs.Common.{◌∙◌}
use Rattle.upload_pack.proofs.HaveLemmas.{placed_there}
use Rattle.upload_pack.proofs.haves.is_there.Goals as goal

pub returns : goal.returns
returns c = c.is_some.ensures ∙ placed_there c.args.repo.now.objects c.args.id c.count.result c.place.result c.count.ensures.count c.place.ensures
