-- No ref has the value zero.
use Rattle.std.proofs.Common.{◌≡◌, List, [], ◌∷◌, refl, Bool, true, false}
use Rattle.std.specs.Prelude.{if◌then◌else◌}
use Rattle.std.specs.FinMap.{insert, remove}
use Rattle.git_object.specs.declared.object_id.ObjectId.{ObjectId}
use Rattle.ref_store.specs.Objects.{same_id}
use Rattle.ref_store.specs.Refs.{HasNoZero, Name, Refs, moved, zero_id}
use Rattle.ref_store.specs.declared.command.Command.{Command}
use Rattle.ref_store.proofs.RefLemmas.{no_zero, no_zero_less, no_zero_more}
use Rattle.rule_compile.specs.Patterns.{AreTrue, Patterns}
use Rattle.hub_history.specs.declared.outcome.Outcome.{Outcome}
use Rattle.hub_history.specs.declared.entry.Entry.{Entry}
use Rattle.hub_history.specs.History.{IsLegal, replay}
use Rattle.hub_history.specs.Laws.{OfEachRepository}
use Rattle.hub_history.specs.Push.{is_done, outcomes_in, refs_after, refs_left}
use Rattle.hub_history.specs.State.{Repository, repository_at}
use Rattle.hub_history.proofs.EachRepository.{Each, IsKept, each_at, each_pinned, each_replayed}

nonzero-moved : (refs : Refs) (name : Name) (new : ObjectId) → HasNoZero refs → HasNoZero (moved refs name new)
nonzero-moved refs name new nonzero = by_zero (same_id new zero_id) refl
  where
    by_zero : (b : Bool) → same_id new zero_id ≡ b → HasNoZero (if b then remove refs name else insert refs name new)
    by_zero true is = no_zero_less refs name nonzero
    by_zero false is = no_zero_more refs name new is nonzero

nonzero-after : (refs : Refs) (c : Command) (o : Outcome) → HasNoZero refs → HasNoZero (refs_after refs c o)
nonzero-after refs c o nonzero = by_done (is_done o)
  where
    by_done : (b : Bool) → HasNoZero (if b then moved refs c.name c.new else refs)
    by_done true = nonzero-moved refs c.name c.new nonzero
    by_done false = nonzero

pub nonzero-left : (refs : Refs) (cs : List Command) (os : List Outcome) → HasNoZero refs → HasNoZero (refs_left refs cs os)
nonzero-left refs [] os nonzero = nonzero
nonzero-left refs (c ∷ cs) [] nonzero = nonzero
nonzero-left refs (c ∷ cs) (o ∷ os) nonzero = nonzero-left (refs_after refs c o) cs os (nonzero-after refs c o nonzero)

abbrev IsNonzero : Repository → Type 0
IsNonzero repository = HasNoZero repository.refs

nonzero-pushed : IsKept IsNonzero
nonzero-pushed ps force now pinned pack commands atomic judged within fit judges nonzero done = nonzero-left now.refs commands (outcomes_in now pack commands atomic judged) nonzero

module _ (ps : Patterns) (ok : AreTrue ps) where
  replayed_nonzero : (admin : Name) (log : List Entry) → IsLegal admin log → Each IsNonzero (replay admin log).repositories
  replayed_nonzero = each_replayed IsNonzero ps ok (λ creator. no_zero) (λ repository roles nonzero. nonzero) nonzero-pushed

  pub refs_nonzero : OfEachRepository (λ repository. HasNoZero repository.refs)
  refs_nonzero admin log legal = (replayed_nonzero admin log legal, each_pinned IsNonzero replayed_nonzero no_zero admin log legal)

  -- the same of a repository that may be absent
  pub nonzero_at : (admin : Name) (log : List Entry) → IsLegal admin log → (name : Name) → HasNoZero (repository_at (replay admin log) name).refs
  nonzero_at admin log legal name = each_at IsNonzero (replay admin log) name no_zero (replayed_nonzero admin log legal)
