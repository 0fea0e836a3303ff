-- The first break is where the written form breaks.
use Rattle.std.proofs.Common.{◌≡◌, ◌≢◌, inl, inr, ℕ, ◌+◌, ◌-◌, true, false, cond, List, [], ◌∷◌, ◌++◌, length, Option, Some, None, is_some, refl, sym, ◌∙◌, ap, arith, append_assoc, length-append}
use Rattle.std.specs.Prelude.{codes}
use Rattle.std.specs.List.{flat_map, AllByRecursion}
use Rattle.std.specs.Option.{option_map, option_map_or}
use Rattle.hex.specs.Hex.{lower_digits}
use Rattle.hex.proofs.HexLemmas.{length-encode_with}
use Rattle.git_object.specs.Reader.{literal, items, behind}
use Rattle.git_object.specs.ObjectId.{id_line, hex_of}
use Rattle.git_object.specs.Commit.{tree_line, parent_line, commit_break, broken_parent}
use Rattle.git_object.specs.Tree.{Entry, tree_entry, tree_break, first_break, may_follow, size}
use Rattle.git_object.specs.Tag.{object_line, type_line, tag_break}
use Rattle.git_object.specs.Spelling.{IsId, IsEntry, InOrder, NoLine, BreaksCommit, BreaksTag, BreaksTree, nearest_first, spelled_line, spelled_entry}
use Rattle.git_object.specs.declared.object_id.ObjectId.{ObjectId}
use Rattle.git_object.specs.declared.fault.ObjFault.{ObjFault}
use Rattle.git_object.specs.declared.fault.ObjFault.TheVariants.{BadCommit, BadTree, BadTag, NoMemory}
use Rattle.git_object.proofs.ReaderLemmas.{some_is, literal_takes, behind_stops}
use Rattle.git_object.proofs.IdLemmas.{id_line-Shrinks}
use Rattle.git_object.proofs.TreeLemmas.{tree_entry-Shrinks}
use Rattle.git_object.proofs.EntryLemmas.{entry_takes, tree_entry_again, type_line_again}
use Rattle.git_object.proofs.SpellingLemmas.{id_line_spelled, id_line_again, items_spelled, line_takes}

no_line_is : (word bytes : List ℕ) → id_line word bytes ≡ None → NoLine word bytes
no_line_is word bytes none id more is e = let some = ap (id_line word) e ∙ id_line_again word id more is in absurd cc

length-spelled_line : (word : List ℕ) (id : ObjectId) → IsId id → length (spelled_line word id) ≡ length word + 41
length-spelled_line word id is = omega (arith, length-append word (hex_of id ++ 10 ∷ []), length-append (hex_of id) (10 ∷ []), length-encode_with lower_digits id.bytes, is.twenty)

-- ---- commits

begun : (o : Option (List ℕ)) (at p : ℕ) → cond (is_some o) (Some at) None ≡ Some p → (more : List ℕ) × (o ≡ Some more) × (at ≡ p)
begun (Some more) at p e = (more, refl, some_is at p e)
begun None at p e = absurd cc

pub commit_breaks : (body : List ℕ) (at : ℕ) → commit_break body ≡ Some at → BreaksCommit body at
commit_breaks body at broken =
    elim (tree_line body) as (λ o. tree_line body ≡ o → ◌≡◌ {A = Option ℕ} (option_map_or (λ tree. broken_parent body (behind parent_line tree.1)) o (Some 0)) (Some at) → BreaksCommit body at) [
      | None ↦ λ e h. inl (sym (some_is 0 at h), no_line_is (codes "tree ") body e)
      | Some t ↦ λ e h.
          let first = id_line_spelled (codes "tree ") body t.1 t.0 e in
          let others = items_spelled parent_line (spelled_line (codes "parent ")) IsId (line_takes (codes "parent ")) t.1 in
          let rest : List ℕ = behind parent_line t.1 in
          let start = begun (literal (codes "parent ") (behind parent_line t.1)) (length body - length (behind parent_line t.1)) at h in
          let whole = first.0 ∙ ap (λ (r : List ℕ). spelled_line (codes "tree ") t.0 ++ r) others.0 in
          let parts = length-append (spelled_line (codes "tree ") t.0) (flat_map (spelled_line (codes "parent ")) (items parent_line t.1) ++ behind parent_line t.1) in
          let tail = length-append (flat_map (spelled_line (codes "parent ")) (items parent_line t.1)) (behind parent_line t.1) in
          inr (record {
            tree = t.0;
            parents = items parent_line t.1;
            rest = behind parent_line t.1;
            spelled = whole;
            place = omega (arith, start.2, ap length whole, parts, tail);
            tree_id = first.1;
            parent_ids = others.1;
            begins = (start.0, literal_takes (codes "parent ") (behind parent_line t.1) start.0 start.1);
            no_line = no_line_is (codes "parent ") (behind parent_line t.1) (behind_stops parent_line (id_line-Shrinks (codes "parent ")) t.1);
          })
    ] refl broken

-- ---- tags

pub tag_breaks : (body : List ℕ) (at : ℕ) → tag_break body ≡ Some at → BreaksTag body at
tag_breaks body at broken =
    elim (object_line body) as (λ o. object_line body ≡ o → ◌≡◌ {A = Option ℕ} (option_map_or (λ object. cond (is_some (type_line object.1)) None (Some 48)) o (Some 0)) (Some at) → BreaksTag body at) [
      | None ↦ λ e h. inl (sym (some_is 0 at h), no_line_is (codes "object ") body e)
      | Some t ↦ λ e h.
          let first = id_line_spelled (codes "object ") body t.1 t.0 e in
          elim (type_line t.1) as (λ o. type_line t.1 ≡ o → ◌≡◌ {A = Option ℕ} (cond (is_some o) None (Some 48)) (Some at) → BreaksTag body at) [
            | Some k ↦ λ is k. absurd cc
            | None ↦ λ is k. inr (record {
              id = t.0;
              rest = t.1;
              spelled = first.0;
              object_id = first.1;
              place = sym (some_is 48 at k) ∙ sym (length-spelled_line (codes "object ") t.0 first.1);
              no_line = λ kind more e. let some = ap type_line e ∙ type_line_again kind more in absurd cc;
            })
          ] refl h
    ] refl broken

-- ---- trees

length-spelled_entry : (e : Entry) → IsEntry e → length (spelled_entry e) ≡ size e
length-spelled_entry e is = omega (arith, length-append e.mode (32 ∷ (e.name ++ 0 ∷ e.id.bytes)), length-append e.name (0 ∷ e.id.bytes), is.id)

-- where entries that are followed by some bytes break off
pub record Stops (before : List Entry) (at : ℕ) (bytes : List ℕ) (p : ℕ) : Type 0 where
  pub front : List Entry
  pub back : List ℕ
  pub spelled : bytes ≡ flat_map spelled_entry front ++ back
  pub each : AllByRecursion IsEntry front
  pub order : InOrder before front
  pub place : p ≡ at + length (flat_map spelled_entry front)
  pub more : back ≢ []
  pub no_entry : (e : Entry) (more : List ℕ) → IsEntry e → back ≡ spelled_entry e ++ more → may_follow (nearest_first before front) e ≡ false

stops : (before : List Entry) (at : ℕ) (entries : List Entry) (tail : List ℕ) (p : ℕ) → tree_entry tail ≡ None → AllByRecursion IsEntry entries → first_break before at entries tail ≡ Some p
    → Stops before at (flat_map spelled_entry entries ++ tail) p
stops before at [] [] p none good e = absurd cc
stops before at [] (b ∷ tail) p none good e = record {
  front = [];
  back = b ∷ tail;
  spelled = refl;
  each = tt;
  order = tt;
  place = sym (some_is at p e) ∙ omega arith;
  more = λ nil. absurd cc;
  no_entry = λ x more is same. let some = ap tree_entry same ∙ tree_entry_again x more is in absurd cc;
}
stops before at (x ∷ entries) tail p none good e =
    let size_is = length-spelled_entry x good.0 in
    let parts = append_assoc (spelled_entry x) (flat_map spelled_entry entries) tail in
    let here = tree_entry_again x (flat_map spelled_entry entries ++ tail) good.0 in
    elim (may_follow before x) as (λ m. may_follow before x ≡ m → cond m (first_break (x ∷ before) (at + size x) entries tail) (Some at) ≡ Some p → Stops before at ((spelled_entry x ++ flat_map spelled_entry entries) ++ tail) p) [
      | true ↦ λ is h.
          let s = stops (x ∷ before) (at + size x) entries tail p none good.1 h in
          record {
            front = x ∷ s.front;
            back = s.back;
            spelled = parts ∙ ap (λ (r : List ℕ). spelled_entry x ++ r) s.spelled ∙ sym (append_assoc (spelled_entry x) (flat_map spelled_entry s.front) s.back);
            each = (good.0, s.each);
            order = (is, s.order);
            place = omega (arith, s.place, size_is, length-append (spelled_entry x) (flat_map spelled_entry s.front));
            more = s.more;
            no_entry = s.no_entry;
          }
      | false ↦ λ is h. record {
        front = [];
        back = (spelled_entry x ++ flat_map spelled_entry entries) ++ tail;
        spelled = refl;
        each = tt;
        order = tt;
        place = sym (some_is at p h) ∙ omega arith;
        more = λ nil. absurd (omega (arith, ap length nil, size_is, length-append (spelled_entry x ++ flat_map spelled_entry entries) tail, length-append (spelled_entry x) (flat_map spelled_entry entries)));
        no_entry = λ y more good same.
            let both = sym here ∙ ap tree_entry (sym parts ∙ same) ∙ tree_entry_again y more good in
            let one : x ≡ y = ap (λ (q : Entry × List ℕ). q.0) (some_is _ _ both) in
            ap (may_follow before) (sym one) ∙ is;
      }
    ] refl e

pub tree_breaks : (body : List ℕ) (at : ℕ) → tree_break body ≡ Some at → BreaksTree body at
tree_breaks body at broken =
    let spelled = items_spelled tree_entry spelled_entry IsEntry entry_takes body in
    let s = stops [] 0 (items tree_entry body) (behind tree_entry body) at (behind_stops tree_entry tree_entry-Shrinks body) spelled.1 broken in
    record {
      entries = s.front;
      rest = s.back;
      spelled = spelled.0 ∙ s.spelled;
      each = s.each;
      order = s.order;
      place = s.place ∙ omega arith;
      more = s.more;
      no_entry = s.no_entry;
    }

-- where a fault says that the form breaks
abbrev pub place_of : ObjFault → Option ℕ
place_of (BadCommit at) = Some at
place_of (BadTree at) = Some at
place_of (BadTag at) = Some at
place_of NoMemory = None

-- a fault that is told is a break
pub fault_break : (fault : ℕ → ObjFault) → ((n : ℕ) → place_of (fault n) ≡ Some n) → (o : Option ℕ) (at : ℕ) → option_map fault o ≡ Some (fault at) → o ≡ Some at
fault_break fault is None at e = absurd cc
fault_break fault is (Some n) at e = sym (is n) ∙ ap place_of (some_is (fault n) (fault at) e) ∙ is at
