-- Groups.
use Rattle.std.proofs.Common.{◌≡◌, ℕ, List, Bool, true, false, Option, Some, None, refl, ap, ◌∙◌, sym, cond}
use Rattle.std.specs.FinMap as named
use Rattle.std.specs.Ordering.{nat_cmp, eq_by_cmp}
use Rattle.std.specs.Cmp.Lexicographic.{slice_cmp, nat_list_cmp_total}
use Rattle.base_types.specs.Names.{ByName}
use Rattle.base_types.proofs.NameMaps.{same_names}
use Rattle.conf_groups.specs.declared.groups.GroupLine.{GroupLine}

cond_none : (b : Bool) (v : List GroupLine) (o : Option (List GroupLine)) → cond b (Some v) (cond b None o) ≡ cond b (Some v) o
cond_none true v o = refl
cond_none false v o = refl

-- a removal before an insertion of the same name changes nothing
pub insert_removed : (m : ByName (List GroupLine)) (k : List ℕ) (v : List GroupLine) → named.insert (named.remove m k) k v ≡ named.insert m k v
insert_removed m k v = same_names (named.insert (named.remove m k) k v) (named.insert m k v) (λ q.
    named.get-insert nat_list_cmp_total (named.remove m k) k v q
    ∙ ap (λ (o : Option (List GroupLine)). cond (eq_by_cmp (slice_cmp nat_cmp) q k) (Some v) o) (named.get-remove nat_list_cmp_total m k q)
    ∙ cond_none (eq_by_cmp (slice_cmp nat_cmp) q k) v (named.get m q)
    ∙ sym (named.get-insert nat_list_cmp_total m k v q))
