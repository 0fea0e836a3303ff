-- Steps from tags to what they name.
use Rattle.std.proofs.Common.{◌≡◌, ℕ, zero, suc, ◌+◌, ◌-◌, ◌<◌, List, Option, None, Some, refl, ◌∙◌, ap, arith}
use Rattle.std.specs.Option.{unwrap_or}
use Rattle.git_object.specs.Content.{Content}
use Rattle.git_object.specs.declared.object_id.ObjectId.{ObjectId}
use Rattle.ancestry.specs.Tags.{named_by, peel_within}

-- what names nothing stays
pub peel_stays : (objects : List Content) (id : ObjectId) (n : ℕ) → named_by objects id ≡ None → peel_within objects n id ≡ id
peel_stays objects id zero none = refl
peel_stays objects id (suc n) none = ap (λ (o : Option ObjectId). peel_within objects n (unwrap_or o id)) none ∙ peel_stays objects id n none

pub peel_step : (objects : List Content) (id next : ObjectId) (n i : ℕ) → named_by objects id ≡ Some next → i < n → peel_within objects (n - i) id ≡ peel_within objects (n - (i + 1)) next
peel_step objects id next n i some below =
    let one : n - i ≡ suc (n - (i + 1)) = omega arith in
    ap (λ (k : ℕ). peel_within objects k id) one ∙ ap (λ (o : Option ObjectId). peel_within objects (n - (i + 1)) (unwrap_or o id)) some
