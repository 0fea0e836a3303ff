-- What a push leaves, by what it stands on.
use Rattle.std.proofs.Common.{◌≡◌, List, ◌++◌, refl, sym, ◌∙◌, ap, subst, append_assoc}
use Rattle.std.specs.Prelude.{Some}
use Rattle.std.proofs.lemmas.List.{append_cancel_left}
use Rattle.git_object.specs.Content.{Content}
use Rattle.ref_store.specs.Objects.{first_named, with_pack}
use Rattle.ref_store.proofs.ObjectLemmas.{first_kept}
use Rattle.ancestry.specs.Closures.{Begins}
use Rattle.ancestry.specs.Known.{Extends}
use Rattle.hub_state.specs.Prepared.{PackView}
use Rattle.push_settling.specs.declared.basis.Basis.{Basis}
use Rattle.push_settling.specs.declared.basis.Standing.{Standing}
use Rattle.push_settling.specs.declared.basis.Standing.TheVariants.{Unmoved, Moved}
use Rattle.push_settling.specs.Basis.{AreAsPrepared, AreLeft, StandsAs, StandsOn}

pub extends : (fewer more : List Content) → Begins fewer more → Extends fewer more
extends fewer more begins = λ id o is. subst (λ (os : List Content). first_named os id ≡ Some o) (sym begins.1) (first_kept fewer begins.0 id o is)

-- what is behind the objects of now is behind those of the opening
behind : (before now fresh : List Content) (standing : Standing) → StandsAs before now standing → Begins before (now ++ fresh)
behind before now fresh Unmoved stands = (fresh, ap (λ (os : List Content). os ++ fresh) (sym stands))
behind before now fresh Moved stands = (stands.0 ++ fresh, ap (λ (os : List Content). os ++ fresh) stands.1 ∙ append_assoc before stands.0 fresh)

as_prepared : (now pack fresh : List Content) (prepared : PackView) (standing : Standing) → StandsAs prepared.before now standing → prepared.objects ≡ prepared.before ++ pack → with_pack now pack ≡ now ++ fresh
    → AreAsPrepared (now ++ fresh) prepared standing
as_prepared now pack fresh prepared Unmoved stands split told = λ other also.
    sym told ∙ ap (λ (os : List Content). with_pack os pack) (sym stands) ∙ ap (with_pack prepared.before) (append_cancel_left prepared.before pack other (sym split ∙ also))
as_prepared now pack fresh prepared Moved stands split told = tt

pub are_left : (now : List Content) (basis : Basis) (pack fresh : List Content) → StandsOn now basis → basis.prepared.objects ≡ basis.prepared.before ++ pack → with_pack now pack ≡ now ++ fresh
    → Extends basis.prepared.objects (with_pack now pack) → AreLeft now basis (now ++ fresh)
are_left now basis pack fresh stands split told among = record {
  behind_now = (fresh, refl);
  behind_opening = behind basis.prepared.before now fresh basis.standing stands;
  pack_behind = (pack, split);
  has_pack = subst (λ (os : List Content). Extends basis.prepared.objects os) told among;
  as_prepared = as_prepared now pack fresh basis.prepared basis.standing stands split told;
}
