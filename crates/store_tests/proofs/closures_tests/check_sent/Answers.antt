use Rattle.std.proofs.Common.{List, sym, subst, arith}
use Rattle.std.proofs.lemmas.List.{take_all}
use Rattle.git_object.specs.Content.{Content}
use Rattle.ancestry.specs.Closures.{AreClosures}
use Rattle.store_tests.proofs.closures_tests.check_sent.Goals as goal

pub reach-sent-requires : goal.reach-sent-requires
reach-sent-requires g c = subst (λ (os : List Content). AreClosures os c.args.kept.now) (sym (take_all c.count.result c.args.repo.now.objects (omega (arith, c.count.ensures.count)))) c.requires
