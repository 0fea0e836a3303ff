-- The forms as they are read and as they are spelled are one.
use Rattle.std.proofs.Common.{◌≡◌, ℕ, ◌+◌, ◌-◌, true, false, cond, List, [], ◌∷◌, ◌++◌, length, Option, Some, None, is_some, refl, sym, ◌∙◌, ap, ap₂, append-nil}
use Rattle.std.specs.Prelude.{codes}
use Rattle.std.specs.List.{flat_map}
use Rattle.std.specs.Option.{option_map, option_map_or}
use Rattle.git_object.specs.Reader.{◌>>=◌, literal, up_to, items, behind}
use Rattle.git_object.specs.ObjectId.{id_line}
use Rattle.git_object.specs.Commit.{tree_line, parent_line, parent_ids, commit_break, broken_parent}
use Rattle.git_object.specs.Kind.{kind_word}
use Rattle.git_object.specs.Tree.{Entry, tree_entry, tree_break, first_break, may_follow, size}
use Rattle.git_object.specs.Tag.{object_line, type_line, target_of, tag_break}
use Rattle.git_object.specs.Object.{parents_of, links_of, commit_links}
use Rattle.git_object.specs.Spelling.{IsId, IsCommit, IsEntry, IsTree, InOrder, spelled_line, spelled_entry, spelled_tag}
use Rattle.git_object.specs.declared.kind.Kind.{Kind}
use Rattle.git_object.specs.declared.kind.Kind.TheVariants.{Commit, Tree}
use Rattle.git_object.specs.declared.object_id.ObjectId.{ObjectId}
use Rattle.git_object.proofs.IdLemmas.{id_line-Shrinks}
use Rattle.git_object.proofs.TreeLemmas.{tree_entry-Shrinks}
use Rattle.git_object.proofs.EntryLemmas.{entry_takes, entry_reads, type_line_spelled, type_line_again}
use Rattle.git_object.proofs.SpellingLemmas.{literal_not, literal_absent, id_line_spelled, id_line_again, items_spelled, items_again, line_takes, line_reads}

-- ---- commits

-- bytes that don't begin with a word have no line of it
no_line : (word bytes : List ℕ) → literal word bytes ≡ None → id_line word bytes ≡ None
unfolding id_line
no_line word bytes none = rw none refl

not_begun : (o : Option (List ℕ)) (at : ℕ) → cond (is_some o) (Some at) None ≡ None → o ≡ None
not_begun None at e = refl
not_begun (Some x) at e = absurd cc

-- a commit that is read is spelled so
pub commit_spelled : (body : List ℕ) → commit_break body ≡ None → (tree : ObjectId) × (rest : List ℕ) × IsCommit body tree (parent_ids body) rest
commit_spelled body good =
    elim (tree_line body) as (λ o. tree_line body ≡ o → option_map_or (λ tree. broken_parent body (behind parent_line tree.1)) o (Some 0) ≡ None
    → (tree : ObjectId) × (rest : List ℕ) × IsCommit body tree (option_map_or (λ tree. items parent_line tree.1) o []) rest) [
      | None ↦ λ e h. absurd cc
      | Some t ↦ λ e h.
          let first = id_line_spelled (codes "tree ") body t.1 t.0 e in
          let others = items_spelled parent_line (spelled_line (codes "parent ")) IsId (line_takes (codes "parent ")) t.1 in
          let none : literal (codes "parent ") (behind parent_line t.1) ≡ None = not_begun (literal (codes "parent ") (behind parent_line t.1)) _ h in (
            t.0,
            behind parent_line t.1,
            record {
              spelled = first.0 ∙ ap (λ (r : List ℕ). spelled_line (codes "tree ") t.0 ++ r) others.0;
              tree_id = first.1;
              parent_ids = others.1;
              ends = λ more. literal_absent (codes "parent ") (behind parent_line t.1) more none;
            },
          )
    ] refl good

-- a commit that is spelled is read
pub commit_again : (body : List ℕ) (tree : ObjectId) (parents : List ObjectId) (rest : List ℕ) → IsCommit body tree parents rest
    → (commit_break body ≡ None) × (parents_of Commit body ≡ parents) × (links_of Commit body ≡ (tree, Tree) ∷ commit_links parents)
commit_again body tree parents rest is =
    let first : tree_line body ≡ Some (tree, flat_map (spelled_line (codes "parent ")) parents ++ rest) =
    ap tree_line is.spelled ∙ id_line_again (codes "tree ") tree (flat_map (spelled_line (codes "parent ")) parents ++ rest) is.tree_id in
    let none : literal (codes "parent ") rest ≡ None = literal_not (codes "parent ") rest is.ends in
    let others = items_again parent_line (spelled_line (codes "parent ")) IsId (id_line-Shrinks (codes "parent ")) (line_reads (codes "parent ")) parents rest is.parent_ids (no_line (codes "parent ") rest none) in
    let ids : parent_ids body ≡ parents = ap (λ o. option_map_or (λ tree. items parent_line tree.1) o []) first ∙ others.0 in (
      ap (λ o. option_map_or (λ tree. broken_parent body (behind parent_line tree.1)) o (Some 0)) first
          ∙ ap (λ r. broken_parent body r) others.1
          ∙ ap (λ o. cond (is_some o) (Some (length body - length rest)) None) none,
      ids,
      ap (λ o. option_map_or (λ tree. (tree.0, Tree) ∷ commit_links (parent_ids body)) o []) first ∙ ap (λ l. (tree, Tree) ∷ commit_links l) ids,
    )

-- ---- trees

-- no break: the entries are in order, and nothing follows them
in_order : (before : List Entry) (at : ℕ) (entries : List Entry) (rest : List ℕ) → first_break before at entries rest ≡ None → InOrder before entries × (rest ≡ [])
in_order before at [] [] e = (tt, refl)
in_order before at [] (b ∷ rest) e = absurd cc
in_order before at (x ∷ entries) rest e =
    elim (may_follow before x) as (λ m. may_follow before x ≡ m → cond m (first_break (x ∷ before) (at + size x) entries rest) (Some at) ≡ None → InOrder before (x ∷ entries) × (rest ≡ [])) [
      | true ↦ λ is h. let others = in_order (x ∷ before) (at + size x) entries rest h in ((is, others.0), others.1)
      | false ↦ λ is h. absurd cc
    ] refl e

no_break : (before : List Entry) (at : ℕ) (entries : List Entry) → InOrder before entries → first_break before at entries [] ≡ None
no_break before at [] order = refl
no_break before at (x ∷ entries) order = rw order.0 (no_break (x ∷ before) (at + size x) entries order.1)

-- a tree that is read is spelled so
pub tree_spelled : (body : List ℕ) → tree_break body ≡ None → IsTree body (items tree_entry body)
tree_spelled body good =
    let spelled = items_spelled tree_entry spelled_entry IsEntry entry_takes body in
    let order = in_order [] 0 (items tree_entry body) (behind tree_entry body) good in
    record {
      spelled = spelled.0 ∙ ap (λ (r : List ℕ). flat_map spelled_entry (items tree_entry body) ++ r) order.1 ∙ append-nil (flat_map spelled_entry (items tree_entry body));
      each = spelled.1;
      order = order.0;
    }

no_entry : tree_entry [] ≡ None
unfolding tree_entry up_to
no_entry = refl

-- a tree that is spelled is read
pub tree_again : (body : List ℕ) (entries : List Entry) → IsTree body entries → (tree_break body ≡ None) × (items tree_entry body ≡ entries)
tree_again body entries is =
    let spelled : body ≡ flat_map spelled_entry entries ++ [] = is.spelled ∙ sym (append-nil (flat_map spelled_entry entries)) in
    let read = items_again tree_entry spelled_entry IsEntry tree_entry-Shrinks entry_reads entries [] is.each no_entry in
    let found : items tree_entry body ≡ entries = ap (items tree_entry) spelled ∙ read.0 in
    let rest : behind tree_entry body ≡ [] = ap (behind tree_entry) spelled ∙ read.1 in
    (ap₂ (first_break [] 0) found rest ∙ no_break [] 0 entries is.order, found)

-- ---- tags

-- a tag that is read is spelled so
pub tag_spelled : (body : List ℕ) → tag_break body ≡ None
    → (id : ObjectId) × (kind : Kind) × (rest : List ℕ) × (body ≡ spelled_tag id kind rest) × IsId id
tag_spelled body good =
    elim (object_line body) as (λ o. object_line body ≡ o → ◌≡◌ {A = Option ℕ} (option_map_or (λ object. cond (is_some (type_line object.1)) None (Some 48)) o (Some 0)) None
    → (id : ObjectId) × (kind : Kind) × (rest : List ℕ) × (body ≡ spelled_tag id kind rest) × IsId id) [
      | None ↦ λ e h. absurd cc
      | Some t ↦ λ e h.
          let first = id_line_spelled (codes "object ") body t.1 t.0 e in
          elim (type_line t.1) as (λ o. type_line t.1 ≡ o → ◌≡◌ {A = Option ℕ} (cond (is_some o) None (Some 48)) None → (id : ObjectId) × (kind : Kind) × (rest : List ℕ) × (body ≡ spelled_tag id kind rest) × IsId id) [
            | None ↦ λ is k. absurd cc
            | Some k ↦ λ is q. (t.0, k.0, k.1, first.0 ∙ ap (λ (r : List ℕ). spelled_line (codes "object ") t.0 ++ r) (type_line_spelled t.1 k.1 k.0 is), first.1)
          ] refl h
    ] refl good

-- a tag that is spelled is read
pub tag_again : (id : ObjectId) (kind : Kind) (rest : List ℕ) → IsId id
    → (tag_break (spelled_tag id kind rest) ≡ None) × (target_of (spelled_tag id kind rest) ≡ Some (id, kind))
tag_again id kind rest is =
    let first : object_line (spelled_tag id kind rest) ≡ Some (id, codes "type " ++ (kind_word kind ++ 10 ∷ rest)) = id_line_again (codes "object ") id (codes "type " ++ (kind_word kind ++ 10 ∷ rest)) is in
    let second = type_line_again kind rest in (
      ap (λ o. option_map_or (λ object. cond (is_some (type_line object.1)) None (Some 48)) o (Some 0)) first ∙ ap (λ o. cond (is_some o) None (Some 48)) second,
      ap (λ o. o >>= λ object. type_line object.1 >>= λ type. Some (object.0, type.0)) first ∙ ap (λ o. o >>= λ type. Some (id, type.0)) second,
    )

-- no fault, no break
pub no_fault : {F : Type 0} (fault : ℕ → F) (o : Option ℕ) → option_map fault o ≡ None → o ≡ None
no_fault fault None e = refl
no_fault fault (Some at) e = absurd cc
