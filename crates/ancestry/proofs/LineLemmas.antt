-- Ancestors and lines, and links.
use Rattle.std.proofs.Common.{List, [], ◌∷◌, ◌++◌, map, Option, None, Some, Contains, refl, sym, ap, subst}
use Rattle.std.specs.Option.{option_map_or}
use Rattle.ancestry.proofs.ListLemmas.{contains_here, contains_one, contains_none, contains_map, map_contains}
use Rattle.git_object.specs.Content.{Content}
use Rattle.git_object.specs.declared.object_id.ObjectId.{ObjectId}
use Rattle.git_object.specs.declared.kind.Kind.{Kind}
use Rattle.git_object.specs.Object.{links_of}
use Rattle.ref_store.specs.Objects.{first_named}
use Rattle.ancestry.specs.Reached.{IsReached, Root, Next}
use Rattle.ancestry.specs.Sent.{linked_at}
use Rattle.ancestry.specs.Walk.{Want, IsMet, wanted_by}
use Rattle.ancestry.specs.Walk as walk
use Rattle.ancestry.specs.Ancestors.{parents_at, IsAncestor, IsLine}

module _ (objects : List Content) where
  pub further : (second third first : ObjectId) → IsAncestor objects first second → IsAncestor objects second third → IsAncestor objects first third
  further second third first (Root id root) rest = subst (λ (i : ObjectId). IsAncestor objects i third) (contains_one second id root) rest
  further second third first (Next from to is link) rest = Next from to (further second third from is rest) link

  longer : (from : ObjectId) (line : List ObjectId) (to next : ObjectId) → IsLine objects from line to → Contains (parents_at objects to) next → IsLine objects from (line ++ next ∷ []) next
  longer from [] to next is link = (subst (λ (i : ObjectId). Contains (parents_at objects i) next) (sym is) link, refl)
  longer from (one ∷ line) to next is link = (is.0, longer one line to next is.1 link)

  pub line_of : (id ancestor : ObjectId) → IsAncestor objects ancestor id → (line : List ObjectId) × IsLine objects id line ancestor
  line_of id ancestor (Root root c) = ([], contains_one id root c)
  line_of id ancestor (Next from to is link) = let before = line_of id from is in (before.0 ++ to ∷ [], longer id before.0 from to before.1 link)

  pub of_line : (ancestor id : ObjectId) (line : List ObjectId) → IsLine objects id line ancestor → IsAncestor objects ancestor id
  of_line ancestor id [] is = Root ancestor (subst (λ (i : ObjectId). Contains (id ∷ []) i) is (contains_here id []))
  of_line ancestor id (next ∷ line) is = further next id ancestor (of_line ancestor next line is.1) (Next id next (Root id (contains_here id [])) is.0)

-- ---- links, and walks that want a kind

link_met : (o : Option Content) (to : ObjectId) → Contains (option_map_or (λ o. map (λ link. link.0) (links_of o.kind o.body)) o []) to → (kind : Option Kind) × Contains (option_map_or (λ o. wanted_by (links_of o.kind o.body)) o []) (to, kind)
link_met None to c = absurd (contains_none to c)
link_met (Some o) to c =
    let found = map_contains (λ (link : ObjectId × Kind). link.0) (links_of o.kind o.body) to c in (
      Some found.0.1,
      subst (λ (i : ObjectId). Contains (wanted_by (links_of o.kind o.body)) (i, Some found.0.1)) found.2 (contains_map (λ (link : ObjectId × Kind). (link.0, Some link.1)) (links_of o.kind o.body) found.0 found.1),
    )

met_link : (o : Option Content) (want : Want) → Contains (option_map_or (λ o. wanted_by (links_of o.kind o.body)) o []) want → Contains (option_map_or (λ o. map (λ link. link.0) (links_of o.kind o.body)) o []) want.0
met_link None want c = absurd (contains_none want c)
met_link (Some o) want c =
    let found = map_contains (λ (link : ObjectId × Kind). (link.0, Some link.1)) (links_of o.kind o.body) want c in
    subst (λ (i : ObjectId). Contains (map (λ (link : ObjectId × Kind). link.0) (links_of o.kind o.body)) i) (ap (λ (w : Want). w.0) found.2) (contains_map (λ (link : ObjectId × Kind). link.0) (links_of o.kind o.body) found.0 found.1)

pub met_of_reached : (objects : List Content) (root id : ObjectId) → IsReached (linked_at objects) (root ∷ []) id → (kind : Option Kind) × IsMet objects root None (id, kind)
met_of_reached objects root id (Root root_id c) = (None, subst (λ (i : ObjectId). IsMet objects root None (i, None)) (contains_one root id c) walk.Root)
met_of_reached objects root id (Next from to is link) =
    let before = met_of_reached objects root from is in
    let next = link_met (first_named objects from) id link in
    (next.0, walk.Link (from, before.0) (id, next.0) before.1 next.1)

pub reached_of_met : (objects : List Content) (root : ObjectId) (want : Want) → IsMet objects root None want → IsReached (linked_at objects) (root ∷ []) want.0
reached_of_met objects root want walk.Root = Root root (contains_here root [])
reached_of_met objects root want (walk.Link from to is link) = Next from.0 to.0 (reached_of_met objects root from is) (met_link (first_named objects from.0) to link)
