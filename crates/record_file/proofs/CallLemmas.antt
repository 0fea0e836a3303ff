-- The calls that a disk over memory keeps.
use Rattle.std.proofs.Common.{◌≡◌, inl, inr, ℕ, zero, suc, ◌+◌, ◌≤◌, ◌<◌, List, [], ◌∷◌, ◌++◌, length, map, take, drop, get_or, min, refl, sym, ◌∙◌, ap, arith, length-drop}
use Rattle.std.proofs.lemmas.List.{map-append, length-map, length-take, take-append-le, drop-append-le, take_all, take_more, drop_at, get_or-take}
use Rattle.std.specs.List.{All}
use Rattle.record_file.specs.Crashes.{Pending, FileState}
use Rattle.record_file.specs.MemoryDisks.{Change, Write, HistoryState, changed, file_after}
use Rattle.record_file.specs.CallViews.{change_of, changes_of, IsKept}
use Rattle.record_file.specs.declared.history.Call.{Call}
use Rattle.record_file.specs.declared.history.Call.TheVariants as call
use Rattle.record_file.proofs.CrashLemmas.{all_first, all_rest}
use Rattle.record_file.proofs.ReadLemmas.{either_le}
use Rattle.record_file.proofs.MemoryLemmas.{made_again, file_more}

get_or-map : {X Y : Type 0} (f : X → Y) (xs : List X) (i : ℕ) (d : X) → get_or (map f xs) i (f d) ≡ f (get_or xs i d)
get_or-map f [] i d = refl
get_or-map f (x ∷ xs) zero d = refl
get_or-map f (x ∷ xs) (suc i) d = get_or-map f xs i d

same_change : (written piece : List ℕ) (c : Call) → IsKept (length written) c → change_of (written ++ piece) c ≡ change_of written c
same_change written piece call.Nothing k = refl
same_change written piece (call.Write at from count) k =
    ap (λ (l : List ℕ). Write at l)
    (ap (λ (l : List ℕ). take count l) (drop-append-le from written piece (omega (arith, k.bytes))) ∙ take-append-le count (drop from written) piece (omega (arith, k.bytes, length-drop from written)))
same_change written piece (call.Cut size) k = refl
same_change written piece call.Sync k = refl

same_changes : (written piece : List ℕ) (calls : List Call) → All (IsKept (length written)) calls → changes_of (written ++ piece) calls ≡ changes_of written calls
same_changes written piece [] kept = refl
same_changes written piece (c ∷ calls) kept =
    let first = same_change written piece c (all_first (IsKept (length written)) c calls kept) in
    let more = same_changes written piece calls (all_rest (IsKept (length written)) c calls kept) in
    λ i. first i ∷ more i

abbrev state : List ℕ → List Change → ℕ → ℕ → HistoryState
state initial changes written room = record { initial = initial; changes = changes; written = written; room = room }

-- one call more
pub kept_view : (initial written : List ℕ) (calls after : List Call) (len room : ℕ) (c : Call) (was : HistoryState) → state initial (changes_of written calls) len room ≡ was → after ≡ calls ++ c ∷ [] → change_of written c ≡ change_of [] c
    → state initial (changes_of written after) len room ≡ state was.initial (was.changes ++ change_of [] c ∷ []) was.written was.room
kept_view initial written calls after len room c was view is same =
    ap (λ (l : List Change). state initial l len room)
    (ap (λ (l : List Call). changes_of written l) is ∙ map-append (change_of written) calls (c ∷ []) ∙ ap (λ (d : Change). changes_of written calls ++ d ∷ []) same)
    ∙ ap (λ (w : HistoryState). state w.initial (w.changes ++ change_of [] c ∷ []) w.written w.room) view

-- one write more
pub write_view : (initial written after_written piece : List ℕ) (calls after : List Call) (len after_len room at from : ℕ) (was : HistoryState) → state initial (changes_of written calls) len room ≡ was → All (IsKept (length written)) calls
    → after_written ≡ written ++ piece → after_len ≡ len + length piece → from ≡ length written → after ≡ calls ++ call.Write at from (length piece) ∷ []
    → state initial (changes_of after_written after) after_len room ≡ state was.initial (was.changes ++ Write at piece ∷ []) (was.written + length piece) was.room
write_view initial written after_written piece calls after len after_len room at from was view kept bytes long behind is =
    let here : take (length piece) (drop (length written) (written ++ piece)) ≡ piece =
    ap (λ (l : List ℕ). take (length piece) l) (drop_at written piece (length written) refl) ∙ take_all (length piece) piece (omega arith) in
    let all : changes_of after_written after ≡ changes_of written calls ++ Write at piece ∷ [] =
    ap (λ (l : List ℕ). changes_of l after) bytes ∙ ap (λ (l : List Call). changes_of (written ++ piece) l) (is ∙ ap (λ (n : ℕ). calls ++ call.Write at n (length piece) ∷ []) behind)
    ∙ map-append (change_of (written ++ piece)) calls (call.Write at (length written) (length piece) ∷ [])
    ∙ ap (λ (l : List Change). l ++ Write at (take (length piece) (drop (length written) (written ++ piece))) ∷ []) (same_changes written piece calls kept)
    ∙ ap (λ (l : List ℕ). changes_of written calls ++ Write at l ∷ []) here in
    ap (λ (l : List Change). state initial l after_len room) all ∙ ap (λ (n : ℕ). state initial (changes_of written calls ++ Write at piece ∷ []) n room) long
    ∙ ap (λ (w : HistoryState). state w.initial (w.changes ++ Write at piece ∷ []) (w.written + length piece) w.room) view

-- a call that wrote nothing
pub wrote_nothing : (written : List ℕ) (c : Call) → IsKept 0 c → change_of written c ≡ change_of [] c
wrote_nothing written call.Nothing k = refl
wrote_nothing written (call.Write at from count) k = ap (λ (l : List ℕ). Write at l) (none count (drop from written) (omega (arith, k.bytes)) ∙ sym (none count (drop from []) (omega (arith, k.bytes))))
  where
    none : (n : ℕ) (l : List ℕ) → n ≤ 0 → take n l ≡ []
    none n l le = ap (λ (m : ℕ). take m l) (let zero_it : n ≡ 0 = omega (arith, le) in zero_it)
wrote_nothing written (call.Cut size) k = refl
wrote_nothing written call.Sync k = refl

-- the changes so far, and one more
module _ (initial written : List ℕ) (calls front : List Call) (len room count : ℕ) (was : HistoryState) (view : state initial (changes_of written calls) len room ≡ was) (is : front ≡ take count calls) where
  changes_are : was.changes ≡ changes_of written calls
  changes_are = ap (λ (w : HistoryState). w.changes) (sym view)

  next_change : (i : ℕ) (d : Call) → i < length front → take (i + 1) was.changes ≡ take i was.changes ++ change_of written (get_or front i d) ∷ []
  next_change i d lt =
      let within : i < length calls = omega (arith, lt, ap length is, length-take count calls) in
      let there : i < count = omega (arith, lt, ap length is, length-take count calls) in
      let item : get_or was.changes i (change_of written d) ≡ change_of written (get_or front i d) =
      ap (λ (l : List Change). get_or l i (change_of written d)) changes_are ∙ get_or-map (change_of written) calls i d
      ∙ ap (λ (x : Call). change_of written x) (sym (get_or-take count calls i d there) ∙ ap (λ (l : List Call). get_or l i d) (sym is)) in
      take_more was.changes i (change_of written d) (omega (arith, within, ap length changes_are, length-map calls (change_of written)))
      ∙ ap (λ (x : Change). take i was.changes ++ x ∷ []) item

  pub replayed : (i : ℕ) (d : Call) (content after : List ℕ) (pending after_pending : Pending) → i < length front → content ≡ (file_after was.initial (take i was.changes)).content → pending ≡ (file_after was.initial (take i was.changes)).pending
      → after ≡ (changed (record { content = content; pending = pending; past = [] }) (change_of written (get_or front i d))).content
      → after_pending ≡ (changed (record { content = content; pending = pending; past = [] }) (change_of written (get_or front i d))).pending
      → (after ≡ (file_after was.initial (take (i + 1) was.changes)).content) × (after_pending ≡ (file_after was.initial (take (i + 1) was.changes)).pending)
  replayed i d content after pending after_pending lt c p does asks =
      let change : Change = change_of written (get_or front i d) in
      let both = made_again (file_after was.initial (take i was.changes)) content pending change c p in
      let more : file_after was.initial (take (i + 1) was.changes) ≡ changed (file_after was.initial (take i was.changes)) change =
      ap (λ (l : List Change). file_after was.initial l) (next_change i d lt) ∙ file_more was.initial (take i was.changes) change in
      (does ∙ both.0 ∙ ap (λ (f : FileState). f.content) (sym more), asks ∙ both.1 ∙ ap (λ (f : FileState). f.pending) (sym more))

  pub all_replayed : (most total i : ℕ) → count ≡ min most total → total ≡ length calls → length front ≤ i → i ≤ length front → take i was.changes ≡ take most was.changes
  all_replayed most total i least all ge le =
      let long : length was.changes ≡ length calls = ap length changes_are ∙ length-map calls (change_of written) in
      let front_long : length front ≡ min count (length calls) = ap length is ∙ length-take count calls in
      elim (either_le most total) [
        | inl within ↦ ap (λ (n : ℕ). take n was.changes) (let same : i ≡ most = omega (arith, ge, le, front_long, least, all, within) in same)
        | inr past ↦ take_all i was.changes (omega (arith, ge, front_long, least, all, past, long)) ∙ sym (take_all most was.changes (omega (arith, past, all, long)))
      ]

pub front_of : (calls lent front : List Call) (count : ℕ) → lent ≡ calls → front ≡ take count lent → front ≡ take count calls
front_of calls lent front count same is = is ∙ ap (λ (l : List Call). take count l) same
