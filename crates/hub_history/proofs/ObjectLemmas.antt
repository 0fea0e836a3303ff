-- Each object has its name once.
use Rattle.std.proofs.Common.{List, [], arith}
use Rattle.ref_store.specs.Objects.{HasNamesOnce}
use Rattle.ref_store.proofs.PackLemmas.{once-with_pack}
use Rattle.rule_compile.specs.Patterns.{AreTrue, Patterns}
use Rattle.hub_history.specs.declared.entry.Entry.{Entry}
use Rattle.ref_store.specs.Refs.{Name}
use Rattle.hub_history.specs.State.{Repository}
use Rattle.hub_history.specs.History.{IsLegal, replay}
use Rattle.hub_history.specs.Laws.{OfEachRepository}
use Rattle.hub_history.proofs.EachRepository.{Each, IsKept, each_pinned, each_replayed}

abbrev IsOnce : Repository → Type 0
IsOnce repository = HasNamesOnce repository.objects

none_there : HasNamesOnce []
none_there i j d lt bound same = absurd (omega (arith, bound))

once-pushed : IsKept IsOnce
once-pushed ps force now pinned pack commands atomic judged within fit judges once done = once-with_pack now.objects pack once

module _ (ps : Patterns) (ok : AreTrue ps) where
  replayed_once : (admin : Name) (log : List Entry) → IsLegal admin log → Each IsOnce (replay admin log).repositories
  replayed_once = each_replayed IsOnce ps ok (λ creator. none_there) (λ repository roles once. once) once-pushed

  pub names_once : OfEachRepository (λ repository. HasNamesOnce repository.objects)
  names_once admin log legal = (replayed_once admin log legal, each_pinned IsOnce replayed_once none_there admin log legal)
