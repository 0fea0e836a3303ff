use Rattle.refex.specs.Pattern.{Nothing}
use Rattle.refex.proofs.building.Builder.add_nothing.Goals as goal

pub returns : goal.returns
returns c = λ ps s. c.in_ok-put.ensures Nothing ps s
    (rw (c.nothing.ensures.place.0, c.nothing.ensures.place.1) (c.nothing.ensures.piece c.args.self.now.tables.masks.items c.args.self.now.tables.follow.items c.args.self.now.tables.holes))
