-- Entries of trees.
use Rattle.std.proofs.Common.{◌≡◌, ℕ, ◌+◌, ◌<◌, ◌≤◌, cond, ◌==◌, ◌&&◌, List, length, take, drop, Option, Some, None, ap, arith, length-drop, length-take}
use Rattle.std.specs.Prelude.{position, nat_le}
use Rattle.std.proofs.lemmas.Bool.{leb-true}
use Rattle.std.proofs.lemmas.List.Quantifiers.{position-Some}
use Rattle.std.proofs.lemmas.Option.{cond_some}
use Rattle.git_object.specs.Reader.{◌>>=◌, up_to}
use Rattle.git_object.specs.ObjectId.{id_from}
use Rattle.git_object.specs.Tree.{Entry, tree_entry, is_mode, is_entry_name, id_at, size}
use Rattle.git_object.specs.declared.object_id.ObjectId.{ObjectId}
use Rattle.git_object.proofs.ReaderLemmas.{bind_some, some_is, Shrinks}

-- how long the parts before and behind an end are
pub up_to_len : (end : ℕ) (bytes piece rest : List ℕ) → up_to end bytes ≡ Some (piece, rest) → length bytes ≡ length piece + 1 + length rest
unfolding up_to
up_to_len end bytes piece rest e =
    let b = bind_some (position (λ b. b == end) bytes) (λ at. Some (take at bytes, drop (at + 1) bytes)) (piece, rest) e in
    let p = position-Some (λ b. b == end) bytes b.0 0 b.1 in
    let parts = some_is (take b.0 bytes, drop (b.0 + 1) bytes) (piece, rest) b.2 in
    let front = ap (λ (p : List ℕ × List ℕ). length p.0) parts in
    let back = ap (λ (p : List ℕ × List ℕ). length p.1) parts in
    let within : b.0 < length bytes = p.0 in
    omega (arith, length-take b.0 bytes, length-drop (b.0 + 1) bytes)

pub id_at_len : (bytes rest : List ℕ) (id : ObjectId) → id_at bytes ≡ Some (id, rest) → length bytes ≡ 20 + length rest
id_at_len bytes rest id e =
    let g = cond_some (nat_le 20 (length bytes)) (id_from (take 20 bytes), drop 20 bytes) (id, rest) e in
    let long : 20 ≤ length bytes = leb-true 20 (length bytes) g.0 in
    let back = ap (λ (p : ObjectId × List ℕ). length p.1) g.1 in
    omega (arith, length-drop 20 bytes)

-- what an entry takes of the bytes
pub tree_entry_len : (bytes rest : List ℕ) (entry : Entry) → tree_entry bytes ≡ Some (entry, rest) → length bytes ≡ size entry + length rest
unfolding tree_entry
tree_entry_len bytes rest entry e =
    let made : (List ℕ × List ℕ) → (List ℕ × List ℕ) → (ObjectId × List ℕ) → Option (Entry × List ℕ) =
    λ mode name id. cond (is_mode mode.0 && is_entry_name name.0) (Some (record { mode = mode.0; name = name.0; id = id.0 }, id.1)) None in
    let a = bind_some (up_to 32 bytes) (λ mode. up_to 0 mode.1 >>= λ name. id_at name.1 >>= λ id. made mode name id) (entry, rest) e in
    let b = bind_some (up_to 0 a.0.1) (λ name. id_at name.1 >>= λ id. made a.0 name id) (entry, rest) a.2 in
    let d = bind_some (id_at b.0.1) (λ id. made a.0 b.0 id) (entry, rest) b.2 in
    let g = cond_some (is_mode a.0.0 && is_entry_name b.0.0) (record { mode = a.0.0; name = b.0.0; id = d.0.0 }, d.0.1) (entry, rest) d.2 in
    let sizes = ap (λ (p : Entry × List ℕ). size p.0) g.1 in
    let rests = ap (λ (p : Entry × List ℕ). length p.1) g.1 in
    omega (arith, up_to_len 32 bytes a.0.0 a.0.1 a.1, up_to_len 0 a.0.1 b.0.0 b.0.1 b.1, id_at_len b.0.1 d.0.1 d.0.0 d.1)

pub tree_entry-Shrinks : Shrinks tree_entry
tree_entry-Shrinks = record { less = λ bytes rest entry e. omega (arith, tree_entry_len bytes rest entry e) }
