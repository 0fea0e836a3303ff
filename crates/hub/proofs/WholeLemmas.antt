-- What an opening pinned, beside what is there now.
use Rattle.std.proofs.Common.{◌≡◌, List, [], ◌∷◌, ◌++◌, sym, ◌∙◌, ap, subst, length, arith, length-append, append-nil, refl}
use Rattle.std.specs.Prelude.{None}
use Rattle.git_object.specs.Content.{Content}
use Rattle.ref_store.specs.Objects.{with_pack}
use Rattle.ancestry.specs.Known.{Extends}
use Rattle.hub_history.specs.Collision.{collision}
use Rattle.hub_history.proofs.GrownObjects.{extends_beginning}
use Rattle.hub_history.proofs.WholeRefs.{Begins}
use Rattle.push_settling.specs.Basis.{StandsAs}
use Rattle.push_settling.specs.declared.basis.Standing.{Standing}
use Rattle.push_settling.specs.declared.basis.Standing.TheVariants.{Unmoved, Moved}

-- with a pack that doesn't collide they have first what there is then
pub pinned_extends : (old now pack : List Content) → Begins old now → collision now pack ≡ None → Extends (old ++ pack) (with_pack now pack)
pinned_extends old now pack begins apart =
    subst (λ (os : List Content). Extends (old ++ pack) (with_pack os pack)) (sym begins.1) (extends_beginning old begins.0 pack (ap (λ os. collision os pack) (sym begins.1) ∙ apart))

-- where a beginning is as long as the whole it is the whole
pinned_same : (old now : List Content) → Begins old now → length old ≡ length now → old ≡ now
pinned_same old now begins long =
    let nothing : length begins.0 ≡ 0 = omega (arith, long, ap length begins.1, length-append old begins.0) in
    sym (append-nil old) ∙ ap (λ (os : List Content). old ++ os) (sym (no_items begins.0 nothing)) ∙ sym begins.1
  where
    no_items : (os : List Content) → length os ≡ 0 → os ≡ []
    no_items [] is = refl
    no_items (o ∷ os) is = absurd (omega (arith, is))

-- so where there are as many objects as at the opening, these are the same
pub stands_as : (old now : List Content) (standing : Standing) → Begins old now → (standing ≡ Unmoved → length old ≡ length now) → StandsAs old now standing
stands_as old now Unmoved begins long = pinned_same old now begins (long refl)
stands_as old now Moved begins long = begins
