-- Each object is of its kind's form.
use Rattle.std.proofs.Common.{Bool, true, false, List, [], ◌∷◌, ◌++◌}
use Rattle.std.specs.Prelude.{if◌then◌else◌}
use Rattle.std.specs.List.{All, AllByRecursion}
use Rattle.std.proofs.lemmas.List.Elements.{All-nil, All-push, recursion_from_All}
use Rattle.git_object.specs.Content.{Content}
use Rattle.git_object.specs.Object.{IsPackable, object_name}
use Rattle.ref_store.specs.Objects.{has_object, with_pack}
use Rattle.ref_store.specs.Refs.{Name}
use Rattle.rule_compile.specs.Patterns.{AreTrue, Patterns}
use Rattle.hub_history.specs.declared.entry.Entry.{Entry}
use Rattle.hub_history.specs.State.{Repository}
use Rattle.hub_history.specs.History.{IsLegal, replay}
use Rattle.hub_history.specs.Laws.{OfEachRepository}
use Rattle.hub_history.proofs.EachRepository.{Each, IsKept, each_pinned, each_replayed}

abbrev IsFormed : Repository → Type 0
IsFormed repository = All IsPackable repository.objects

-- a pack of such objects leaves such objects
formed-with_pack : (objects pack : List Content) → All IsPackable objects → AllByRecursion IsPackable pack → All IsPackable (with_pack objects pack)
formed-with_pack objects [] formed all = formed
formed-with_pack objects (o ∷ os) formed all = formed-with_pack (if has_object objects (object_name o) then objects else objects ++ o ∷ []) os (by_there (has_object objects (object_name o))) all.1
  where
    by_there : (b : Bool) → All IsPackable (if b then objects else objects ++ o ∷ [])
    by_there true = formed
    by_there false = All-push IsPackable objects o formed all.0

formed-pushed : IsKept IsFormed
formed-pushed ps force now pinned pack commands atomic judged within fit judges formed done = formed-with_pack now.objects pack formed (recursion_from_All IsPackable pack fit.formed)

module _ (ps : Patterns) (ok : AreTrue ps) where
  replayed_formed : (admin : Name) (log : List Entry) → IsLegal admin log → Each IsFormed (replay admin log).repositories
  replayed_formed = each_replayed IsFormed ps ok (λ creator. All-nil IsPackable) (λ repository roles formed. formed) formed-pushed

  pub objects_formed : OfEachRepository IsFormed
  objects_formed admin log legal = (replayed_formed admin log legal, each_pinned IsFormed replayed_formed (All-nil IsPackable) admin log legal)
