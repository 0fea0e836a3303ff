-- Disks over memory.
use Rattle.std.proofs.Common.{◌≡◌, ◌⊎◌, inl, inr, ℕ, zero, suc, ◌+◌, ◌-◌, ◌≤◌, ◌<◌, max, List, [], ◌∷◌, ◌++◌, length, get_or, take, drop, sym, ◌∙◌, ap, subst, arith, length-append, length-drop}
use Rattle.std.proofs.lemmas.List.{length-take-le, length-take, get_or-take, get_or_append_left, get_or-append_right, get_or-drop}
use Rattle.std.proofs.lemmas.List.Sums.{fold_push}
use Rattle.record_file.specs.Crashes.{Pending, settled, with_write, with_cut, MayLeave, FileState}
use Rattle.record_file.specs.Disks.{overwritten}
use Rattle.record_file.specs.MemoryDisks.{Change, Nothing, Write, Cut, Sync, HistoryState, new_file, changed, file_after}

pub file_more : (initial : List ℕ) (changes : List Change) (change : Change) → file_after initial (changes ++ change ∷ []) ≡ changed (file_after initial changes) change
file_more initial changes change = fold_push changed (new_file initial) changes change

length-overwritten : (file piece : List ℕ) (at : ℕ) → at ≤ length file → length (overwritten file at piece) ≡ max (length file) (at + length piece)
length-overwritten file piece at le =
    omega (arith, length-append (take at file ++ piece) (drop (at + length piece) file), length-append (take at file) piece, length-take-le at file le, length-drop (at + length piece) file)

either_lt : (a b : ℕ) → (a < b) ⊎ (b ≤ a)
either_lt a zero = inr (omega arith)
either_lt zero (suc b) = inl (omega arith)
either_lt (suc a) (suc b) = elim (either_lt a b) [
  | inl lt ↦ inl (omega (arith, lt))
  | inr le ↦ inr (omega (arith, le))
]

outside : (place at count : ℕ) → ((at ≤ place) × (place < at + count) → ⊥) → (place < at) ⊎ (at + count ≤ place)
outside place at count out = elim (either_lt place at) [
  | inl lt ↦ inl lt
  | inr le ↦ elim (either_lt place (at + count)) [
    | inl lt ↦ absurd (out (le, lt))
    | inr behind ↦ inr behind
  ]
]

-- a write changes no other place
other_place : (file piece : List ℕ) (at place : ℕ) → at ≤ length file → (place < at) ⊎ (at + length piece ≤ place) → get_or (overwritten file at piece) place 0 ≡ get_or file place 0
other_place file piece at place le (inl lt) =
    let long : length (take at file) ≡ at = length-take-le at file le in
    get_or_append_left (take at file ++ piece) (drop (at + length piece) file) 0 place (omega (arith, length-append (take at file) piece, long, lt))
    ∙ get_or_append_left (take at file) piece 0 place (omega (arith, long, lt)) ∙ get_or-take at file place 0 lt
other_place file piece at place le (inr behind) =
    let long : length (take at file ++ piece) ≡ at + length piece = omega (arith, length-append (take at file) piece, length-take-le at file le) in
    let here : at + length piece + (place - (at + length piece)) ≡ place = omega (arith, behind) in
    get_or-append_right (take at file ++ piece) (drop (at + length piece) file) (at + length piece) place 0 long behind
    ∙ get_or-drop (at + length piece) file (place - (at + length piece)) 0 ∙ ap (λ (n : ℕ). get_or file n 0) here

-- what was written is one of the files that a crash leaves
pub write_stays : (f : FileState) (at : ℕ) (piece : List ℕ) → at ≤ length f.content → MayLeave f.pending f.content → MayLeave (with_write f.pending at (length piece)) (overwritten f.content at piece)
write_stays f at piece le m = record {
  no_shorter = omega (arith, m.no_shorter, length-overwritten f.content piece at le);
  no_longer = omega (arith, m.no_longer, length-overwritten f.content piece at le);
  stays = λ place lt out. other_place f.content piece at place le (outside place at (length piece) (λ here. out (inl here))) ∙ m.stays place lt (λ there. out (inr there));
}

pub cut_stays : (f : FileState) (size : ℕ) → MayLeave f.pending f.content → MayLeave (with_cut f.pending size) (take size f.content)
cut_stays f size m = record {
  no_shorter = omega (arith, m.no_shorter, length-take size f.content);
  no_longer = omega (arith, m.no_longer, length-take size f.content);
  stays = λ place lt out. get_or-take size f.content place 0 (omega (arith, lt)) ∙ m.stays place (omega (arith, lt)) out;
}

-- the file once a write was kept
module _ (old new : HistoryState) (at written : ℕ) (piece : List ℕ) (is : new ≡ record { initial = old.initial; changes = old.changes ++ Write at piece ∷ []; written = written; room = old.room }) where
  kept_write : file_after new.initial new.changes ≡ changed (file_after old.initial old.changes) (Write at piece)
  kept_write = ap (λ (h : HistoryState). file_after h.initial h.changes) is ∙ file_more old.initial old.changes (Write at piece)

  pub write_content : (content after : List ℕ) → content ≡ (file_after old.initial old.changes).content → after ≡ overwritten content at piece → after ≡ (file_after new.initial new.changes).content
  write_content content after was does = does ∙ ap (λ (l : List ℕ). overwritten l at piece) was ∙ sym (ap (λ (f : FileState). f.content) kept_write)

  pub write_may_stay : at ≤ length (file_after old.initial old.changes).content → MayLeave (file_after old.initial old.changes).pending (file_after old.initial old.changes).content
      → MayLeave (file_after new.initial new.changes).pending (file_after new.initial new.changes).content
  write_may_stay there stays = subst (λ (f : FileState). MayLeave f.pending f.content) (sym kept_write) (write_stays (file_after old.initial old.changes) at piece there stays)

  pub write_long : (len : ℕ) (after : List ℕ) → at ≤ length (file_after old.initial old.changes).content → after ≡ (file_after new.initial new.changes).content → len ≡ length after
      → length (file_after old.initial old.changes).content ≤ length old.initial + old.written → written ≡ old.written + length piece → len ≤ length new.initial + new.written
  write_long len after there same long was more =
      omega (
        arith,
        there,
        long,
        was,
        more,
        ap length same,
        ap length (ap (λ (f : FileState). f.content) kept_write),
        length-overwritten (file_after old.initial old.changes).content piece at there,
        ap length (ap (λ (h : HistoryState). h.initial) is),
        ap (λ (h : HistoryState). h.written) is,
      )

-- a call made again changes content and pending data alike, whatever was pending before
pub made_again : (f : FileState) (content : List ℕ) (pending : Pending) (change : Change) → content ≡ f.content → pending ≡ f.pending
    → ((changed (record { content = content; pending = pending; past = [] }) change).content ≡ (changed f change).content) × ((changed (record { content = content; pending = pending; past = [] }) change).pending ≡ (changed f change).pending)
made_again f content pending Nothing c p = (c, p)
made_again f content pending (Write at piece) c p = (ap (λ (l : List ℕ). overwritten l at piece) c, ap (λ (q : Pending). with_write q at (length piece)) p)
made_again f content pending (Cut size) c p = (ap (λ (l : List ℕ). take size l) c, ap (λ (q : Pending). with_cut q size) p)
made_again f content pending Sync c p = (c, ap settled c)
