-- What was compared before the turn.
use Rattle.std.proofs.Common.{◌≡◌, ◌+◌, ◌≤◌, List, ◌++◌, length, Some, IfSome, sym, ◌∙◌, subst}
use Rattle.std.proofs.lemmas.List.{append_cancel_left}
use Rattle.git_object.specs.Content.{Content}
use Rattle.ref_store.specs.Fresh.{Fresh}
use Rattle.ref_store.specs.Objects.{with_pack, HasNamesOnce, HasNoCollision}
use Rattle.ref_store.specs.Store.{TellsOfComparing}
use Rattle.ref_store.specs.declared.repo.Compared.TheVariants as beside
use Rattle.hub_state.specs.Prepared.{IsPrepared}

-- what was compared, as it is or prepared
pub prepared_fresh : (before objects pack : List Content) (fresh made : Fresh) → objects ≡ before ++ pack → TellsOfComparing before pack (beside.Fresh fresh) → made.objects ≡ fresh.objects → IfSome made.before (λ prepared. prepared ≡ before) → IsPrepared before objects (Some made)
prepared_fresh before objects pack fresh made split told is for = (
  for,
  λ other also.
      let same : pack ≡ other = append_cancel_left before pack other (sym split ∙ also) in
      subst (λ (os : List Content). TellsOfComparing before os (beside.Fresh made)) same
      (subst (λ (os : List Content). HasNoCollision (before ++ pack) × (with_pack before pack ≡ before ++ os) × HasNamesOnce (before ++ os) × (length before + length os ≤ 4294967295)) (sym is) told),
)
