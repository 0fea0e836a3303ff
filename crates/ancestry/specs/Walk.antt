-- Walks along links, and what they meet.
use Rattle.std.specs.Prelude.{ℕ, zero, suc, Bool, true, false, List, [], ◌∷◌, ◌++◌, length, map, Option, None, Some}
use Rattle.std.specs.Option.{option_map_or}
use Rattle.std.specs.List.{Contains, flat_map}
use Rattle.git_object.specs.Content.{Content}
use Rattle.git_object.specs.Object.{links_of}
use Rattle.git_object.specs.declared.object_id.ObjectId.{ObjectId}
use Rattle.git_object.specs.declared.kind.Kind.{Kind}
use Rattle.git_object.specs.declared.kind.Kind.TheVariants.{Commit, Tree, Blob, Tag}
use Rattle.ref_store.specs.Objects.{first_named}

-- an id, and the kind that is wanted of it; none wants anything
abbrev pub Want : Type 0
Want = ObjectId × Option Kind

-- what links want
abbrev pub wanted_by : List (ObjectId × Kind) → List Want
wanted_by links = map (λ link. (link.0, Some link.1)) links

-- what the links want of the object that stands first under this name, whatever its kind; where there is
-- none, nothing
abbrev pub links_at : List Content → ObjectId → List Want
links_at objects id = option_map_or (λ o. wanted_by (links_of o.kind o.body)) (first_named objects id) []

-- What the walks from a root meet. A walk begins with the root, and each next id is a link of the object of
-- the one before. Of an id is wanted the kind of the link by which it is met, and of the root this kind
pub data IsMet (objects : List Content) (root : ObjectId) (kind : Option Kind) : Want → Type 0 where
  Root : IsMet objects root kind (root, kind)
  Link : (from to : Want) → IsMet objects root kind from → Contains (links_at objects from.0) to → IsMet objects root kind to

-- what is met by walks of at most so many links
abbrev pub met_within : List Content → ObjectId → Option Kind → ℕ → List Want
met_within objects root kind zero = (root, kind) ∷ []
met_within objects root kind (suc n) = met_within objects root kind n ++ flat_map (λ m. links_at objects m.0) (met_within objects root kind n)

-- all that is met: whatever a walk meets is met by one that goes on from no object twice, and so has no more
-- links than there are objects
abbrev pub met : List Content → ObjectId → Option Kind → List Want
met objects root kind = met_within objects root kind (length objects)

-- two kinds are one
abbrev pub same_kind : Kind → Kind → Bool
same_kind Commit Commit = true
same_kind Tree Tree = true
same_kind Blob Blob = true
same_kind Tag Tag = true
same_kind _ _ = false

-- an object of this kind is what is wanted
abbrev pub suits : Option Kind → Kind → Bool
suits None kind = true
suits (Some wanted) kind = same_kind wanted kind
