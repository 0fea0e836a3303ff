use Rattle.std.proofs.Common.{[], sym, append-nil}
use Rattle.ancestry.specs.Closures.{Begins}
use Rattle.store_tests.proofs.closures_tests.both_of.Goals as goal

pub returns : goal.returns
returns c =
    let objects = c.args.repo.now.objects in
    let begins : Begins objects objects = ([], sym (append-nil objects)) in
    c.with.ensures.right objects objects objects begins begins c.requires.earlier c.requires.later
