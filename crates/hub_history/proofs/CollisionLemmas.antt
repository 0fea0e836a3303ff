-- Objects that are the same.
use Rattle.std.proofs.Common.{◌≡◌, ℕ, Bool, true, false, ◌&&◌, nat_eq, List, refl, ◌∙◌, ap}
use Rattle.git_object.specs.Content.{Content}
use Rattle.git_object.specs.declared.kind.Kind.{Kind}
use Rattle.git_object.specs.declared.kind.Kind.TheVariants.{Commit, Tree, Blob, Tag}
use Rattle.ref_store.proofs.ObjectLemmas.{same_bytes}
use Rattle.hub_history.specs.Collision.{kind_number, same_object}
use Rattle.hub_history.specs.State.{same_name}

kind_is : (a b : Kind) → nat_eq (kind_number a) (kind_number b) ≡ true → a ≡ b
kind_is Commit Commit is = refl
kind_is Tree Tree is = refl
kind_is Blob Blob is = refl
kind_is Tag Tag is = refl
kind_is Commit Tree is = cc
kind_is Commit Blob is = cc
kind_is Commit Tag is = cc
kind_is Tree Commit is = cc
kind_is Tree Blob is = cc
kind_is Tree Tag is = cc
kind_is Blob Commit is = cc
kind_is Blob Tree is = cc
kind_is Blob Tag is = cc
kind_is Tag Commit is = cc
kind_is Tag Tree is = cc
kind_is Tag Blob is = cc

both_true : (a b : Bool) → (a && b) ≡ true → (a ≡ true) × (b ≡ true)
both_true true b is = (refl, is)
both_true false b is = cc

pub object_is : (a b : Content) → same_object a b ≡ true → a ≡ b
object_is a b is =
    let parts = both_true (nat_eq (kind_number a.kind) (kind_number b.kind)) (same_name a.body b.body) is in
    let kinds = kind_is a.kind b.kind parts.0 in
    let bodies = same_bytes a.body b.body parts.1 in
    ap (λ (k : Kind). record { kind = k; body = a.body }) kinds ∙ ap (λ (l : List ℕ). record { kind = b.kind; body = l }) bodies
