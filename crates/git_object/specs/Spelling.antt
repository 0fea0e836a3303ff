-- The forms of bodies written out, apart from how they are read: what a body of a form looks like.
use Rattle.std.specs.Prelude.{◌≡◌, ◌≢◌, ◌⊎◌, ℕ, ◌+◌, false, List, [], ◌∷◌, ◌++◌, length, IsTrue, codes}
use Rattle.std.specs.List.{flat_map, AllByRecursion}
use Rattle.hex.specs.Hex.{IsBytes}
use Rattle.git_object.specs.ObjectId.{hex_of}
use Rattle.git_object.specs.Kind.{kind_word}
use Rattle.git_object.specs.Tree.{Entry, is_mode, is_entry_name, may_follow}
use Rattle.git_object.specs.declared.object_id.ObjectId.{ObjectId}
use Rattle.git_object.specs.declared.kind.Kind.{Kind}

-- twenty bytes, as every value of the type has
pub record IsId (id : ObjectId) : Type 0 where
  pub twenty : length id.bytes ≡ 20
  pub bytes : IsBytes id.bytes

-- a word, the forty digits of an id, a line feed
abbrev pub spelled_line : List ℕ → ObjectId → List ℕ
spelled_line word id = word ++ (hex_of id ++ 10 ∷ [])

-- a commit of this tree and these parents, with these bytes behind
abbrev pub spelled_commit : ObjectId → List ObjectId → List ℕ → List ℕ
spelled_commit tree parents rest = spelled_line (codes "tree ") tree ++ (flat_map (spelled_line (codes "parent ")) parents ++ rest)

-- a body is a commit of this tree and these parents: what stands behind them doesn't begin with `parent `
pub record IsCommit (body : List ℕ) (tree : ObjectId) (parents : List ObjectId) (rest : List ℕ) : Type 0 where
  pub spelled : body ≡ spelled_commit tree parents rest
  pub tree_id : IsId tree
  pub parent_ids : AllByRecursion IsId parents
  pub ends : (more : List ℕ) → rest ≢ codes "parent " ++ more

-- no line of this word and an id stands at the front
abbrev pub NoLine : List ℕ → List ℕ → Type 0
NoLine word bytes = (id : ObjectId) (more : List ℕ) → IsId id → bytes ≢ spelled_line word id ++ more

-- behind whole lines of a tree and of parents stands what begins as a parent's line does and isn't one
pub record BreaksAtParent (body : List ℕ) (at : ℕ) : Type 0 where
  pub tree : ObjectId
  pub parents : List ObjectId
  pub rest : List ℕ
  pub spelled : body ≡ spelled_commit tree parents rest
  pub place : at + length rest ≡ length body
  pub tree_id : IsId tree
  pub parent_ids : AllByRecursion IsId parents
  pub begins : (more : List ℕ) × (rest ≡ codes "parent " ++ more)
  pub no_line : NoLine (codes "parent ") rest

-- the first line of a commit that breaks the form begins here
abbrev pub BreaksCommit : List ℕ → ℕ → Type 0
BreaksCommit body at = ((at ≡ 0) × NoLine (codes "tree ") body) ⊎ BreaksAtParent body at

-- a tag of this object, with these bytes behind
abbrev pub spelled_tag : ObjectId → Kind → List ℕ → List ℕ
spelled_tag id kind rest = spelled_line (codes "object ") id ++ (codes "type " ++ (kind_word kind ++ 10 ∷ rest))

-- behind the whole line of an object stands no line of a kind
pub record BreaksAtType (body : List ℕ) (at : ℕ) : Type 0 where
  pub id : ObjectId
  pub rest : List ℕ
  pub spelled : body ≡ spelled_line (codes "object ") id ++ rest
  pub object_id : IsId id
  pub place : at ≡ length (spelled_line (codes "object ") id)
  pub no_line : (kind : Kind) (more : List ℕ) → rest ≢ codes "type " ++ (kind_word kind ++ 10 ∷ more)

-- the first line of a tag that breaks the form begins here
abbrev pub BreaksTag : List ℕ → ℕ → Type 0
BreaksTag body at = ((at ≡ 0) × NoLine (codes "object ") body) ⊎ BreaksAtType body at

-- a mode, a space, a name, a zero byte, the bytes of an id
abbrev pub spelled_entry : Entry → List ℕ
spelled_entry e = e.mode ++ 32 ∷ (e.name ++ 0 ∷ e.id.bytes)

-- what may stand in a tree: a name isn't empty and has neither `/` nor a zero byte
pub record IsEntry (e : Entry) : Type 0 where
  pub mode : IsTrue (is_mode e.mode)
  pub name : IsTrue (is_entry_name e.name)
  pub no_zero : AllByRecursion (λ c. c ≢ 0) e.name
  pub id : length e.id.bytes ≡ 20

-- each entry may stand behind those before it, of which the nearest comes first
abbrev pub InOrder : List Entry → List Entry → Type 0
InOrder before [] = Unit {0}
InOrder before (e ∷ es) = IsTrue (may_follow before e) × InOrder (e ∷ before) es

-- a body is a tree of these entries
pub record IsTree (body : List ℕ) (entries : List Entry) : Type 0 where
  pub spelled : body ≡ flat_map spelled_entry entries
  pub each : AllByRecursion IsEntry entries
  pub order : InOrder [] entries

-- the entries before what follows these, the nearest first
abbrev pub nearest_first : List Entry → List Entry → List Entry
nearest_first before [] = before
nearest_first before (e ∷ es) = nearest_first (e ∷ before) es

-- the first entry of a tree that breaks the form begins here: behind whole entries in order stands something
-- that is no entry which may stand there
pub record BreaksTree (body : List ℕ) (at : ℕ) : Type 0 where
  pub entries : List Entry
  pub rest : List ℕ
  pub spelled : body ≡ flat_map spelled_entry entries ++ rest
  pub each : AllByRecursion IsEntry entries
  pub order : InOrder [] entries
  pub place : at ≡ length (flat_map spelled_entry entries)
  pub more : rest ≢ []
  pub no_entry : (e : Entry) (more : List ℕ) → IsEntry e → rest ≡ spelled_entry e ++ more → may_follow (nearest_first [] entries) e ≡ false
