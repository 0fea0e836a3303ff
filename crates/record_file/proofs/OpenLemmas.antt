-- Opening a file: what a crash leaves while the end of a file is cut off.
use Rattle.std.proofs.Common.{◌≡◌, ◌⊎◌, inl, inr, ℕ, ◌+◌, ◌≤◌, ◌<◌, List, [], ◌∷◌, ◌++◌, length, take, drop, Ok, refl, sym, ◌∙◌, ap, subst, arith, length-append, length-drop, append_assoc, take-append-drop}
use Rattle.std.proofs.lemmas.List.{append-nil, take_at, drop_at, take_all, drop_all, length-take-le}
use Rattle.std.specs.List.{flat_map}
use Rattle.record_file.specs.Crashes.{Pending, settled, with_cut, with_write, MayLeave, FileState, Leaves, LeavesOnly}
use Rattle.record_file.specs.Disks.{Writes, AsksWrite, AsksCut, Cuts, Syncs, overwritten}
use Rattle.record_file.specs.Records.{record_bytes, Holds, HoldsAllOrNone}
use Rattle.record_file.specs.Reading.{IsReadTo, IsClosedAt}
use Rattle.record_file.specs.Files.{IsDurable}
use Rattle.record_file.specs.Opening.{IsStarted, IsTooShort}
use Rattle.record_file.proofs.CrashLemmas.{may_stay, cut_front, starts, one_more, leaves_one, goes_on, weaker, all_first}
use Rattle.record_file.proofs.RecordLemmas.{begins_same, begins_none}
use Rattle.record_file.proofs.OneReading.{one_reading}

-- The file holds these records, and its first zero gate is at this offset.
pub record EndsAt (head : List ℕ) (bodies : List (List ℕ)) (file : List ℕ) (end : ℕ) : Type 0 where
  pub holds : Holds head bodies file
  pub place : length file ≡ end + 1 + length holds.free

pub ends_at : (head : List ℕ) (bodies : List (List ℕ)) (file : List ℕ) (end : ℕ) → IsReadTo head bodies file end → IsClosedAt file end → EndsAt head bodies file end
ends_at head bodies file end r shut =
    let b = r.begins in
    record {
      holds = record { free = drop (end + 1) file; begins = begins_same head bodies file file (drop end file) (0 ∷ drop (end + 1) file) b (b.spells ∙ ap (λ (l : List ℕ). (head ++ flat_map record_bytes b.gated) ++ l) shut) };
      place = omega (arith, length-drop (end + 1) file, r.within);
    }

module _ (head : List ℕ) (bodies : List (List ℕ)) (file : List ℕ) (end : ℕ) (at : EndsAt head bodies file end) where
  abbrev pre : List ℕ
  pre = head ++ flat_map record_bytes at.holds.begins.gated

  size : length pre ≡ end
  size = omega (arith, ap length at.holds.begins.spells, length-append pre (0 ∷ at.holds.free), at.place)

  pub inside : end + 1 ≤ length file
  inside = omega (arith, at.place)

  front : take (end + 1) file ≡ pre ++ 0 ∷ []
  front =
      ap (λ (l : List ℕ). take (end + 1) l) (at.holds.begins.spells ∙ sym (append_assoc pre (0 ∷ []) at.holds.free))
      ∙ take_at (pre ++ 0 ∷ []) at.holds.free (end + 1) (omega (arith, length-append pre (0 ∷ []), size))

  -- what has the file's front holds its records
  pub front_holds : (c : List ℕ) → take (end + 1) c ≡ take (end + 1) file → Holds head bodies c
  front_holds c same = record {
    free = drop (end + 1) c;
    begins = begins_same head bodies file c (0 ∷ at.holds.free) (0 ∷ drop (end + 1) c) at.holds.begins
        (sym (take-append-drop (end + 1) c) ∙ ap (λ (l : List ℕ). l ++ drop (end + 1) c) (same ∙ front) ∙ append_assoc pre (0 ∷ []) (drop (end + 1) c));
  }

  pub cut_leaves : (c : List ℕ) → MayLeave (with_cut (settled file) (end + 1)) c → Holds head bodies c
  cut_leaves c m = front_holds c (cut_front file c (end + 1) inside m)

  pub cut_holds : Holds head bodies (take (end + 1) file)
  cut_holds = front_holds (take (end + 1) file) (take_all (end + 1) (take (end + 1) file) (omega (arith, length-take-le (end + 1) file inside)))

-- the cut and its sync
module _ (head : List ℕ) (bodies : List (List ℕ)) (end : ℕ) (a : FileState) (r : IsReadTo head bodies a.content end) (shut : IsClosedAt a.content end) (still : a.pending ≡ settled a.content) where
  abbrev P : List ℕ → Type 0
  P = Holds head bodies

  at : EndsAt head bodies a.content end
  at = ends_at head bodies a.content end r shut

  pub at_first : LeavesOnly P a a
  at_first = starts P a (subst (λ (p : Pending). Leaves P p) (sym still) (leaves_one P a.content at.holds))

  pub run_cut : (c : FileState) → AsksCut (end + 1) a c → LeavesOnly P a c
  run_cut c k =
      one_more P a a c at_first k.past
      (λ file m. cut_leaves head bodies a.content end at file (subst (λ (p : Pending). MayLeave p file) (k.pending ∙ ap (λ (p : Pending). with_cut p (end + 1)) still) m))

  pub failed_cut : (c : FileState) → (c ≡ a) ⊎ AsksCut (end + 1) a c → LeavesOnly P a c
  failed_cut c (inl nothing) = subst (λ (f : FileState). LeavesOnly P a f) (sym nothing) at_first
  failed_cut c (inr asks) = run_cut c asks

  pub failed_sync : (c d : FileState) → Cuts (end + 1) (Ok tt) a c → d ≡ c → LeavesOnly P a d
  failed_sync c d k s = subst (λ (f : FileState). LeavesOnly P a f) (sym s) (run_cut c k.1)

  pub run_sync : (c d : FileState) → Cuts (end + 1) (Ok tt) a c → Syncs (Ok tt) c d → LeavesOnly P a d
  run_sync c d k s =
      one_more P a c d (run_cut c k.1) (ap (λ (f : FileState). f.past) s)
      (subst (λ (p : Pending). Leaves P p) (sym (ap (λ (f : FileState). f.pending) s)) (leaves_one P c.content (subst P (sym k.0) (cut_holds head bodies a.content end at))))

  -- after the cut and its sync
  pub durable : (c d : FileState) → Cuts (end + 1) (Ok tt) a c → Syncs (Ok tt) c d → IsDurable head bodies end d
  unfolding front_holds
  durable c d k s =
      let kept : d.content ≡ c.content = ap (λ (f : FileState). f.content) s in
      let now : d.content ≡ take (end + 1) a.content = kept ∙ k.0 in
      let long : length d.content ≡ end + 1 = ap length now ∙ length-take-le (end + 1) a.content (inside head bodies a.content end at) in
      record {
        holds = front_holds head bodies a.content end at d.content (take_all (end + 1) d.content (omega (arith, long)) ∙ now);
        nothing_free = drop_all (end + 1) d.content (omega (arith, long));
        ends = long;
        settled = ap (λ (f : FileState). f.pending) s ∙ ap settled (sym kept);
      }

  -- where nothing follows the zero gate
  pub durable_now : length a.content ≡ end + 1 → IsDurable head bodies end a
  unfolding at ends_at
  durable_now long = record {
    holds = at.holds;
    nothing_free = drop_all (end + 1) a.content (omega (arith, long));
    ends = long;
    settled = still;
  }

pub read_from : (head : List ℕ) (f : FileState) (offset : ℕ) → IsStarted head f → offset ≡ length head → IsReadTo head [] f.content offset
read_from head f offset started at = subst (λ (n : ℕ). IsReadTo head [] f.content n) (sym at) started.read

pub no_bytes : (l : List ℕ) → length l ≡ 0 → l ≡ []
no_bytes [] e = refl
no_bytes (x ∷ l) e = absurd (omega (arith, e))

-- an empty file holds no records, not even none
pub never_empty : (head : List ℕ) (bodies : List (List ℕ)) (file : List ℕ) → Holds head bodies file → 0 < length file
never_empty head bodies file h = omega (arith, ap length h.begins.spells, length-append (head ++ flat_map record_bytes h.begins.gated) (0 ∷ h.free))

pub never_empty_group : (head : List ℕ) (bodies more : List (List ℕ)) (file : List ℕ) → HoldsAllOrNone head bodies more file → 0 < length file
never_empty_group head bodies more file (inl h) = never_empty head bodies file h
never_empty_group head bodies more file (inr h) = never_empty head (bodies ++ more) file h

-- the first sync
module _ (P : List ℕ → Type 0) (a b : FileState) (leaves : Leaves P a.pending) where
  pub sync_failed : b ≡ a → LeavesOnly P a b
  sync_failed same = subst (λ (f : FileState). LeavesOnly P a f) (sym same) (starts P a leaves)

  pub sync_done : MayLeave a.pending a.content → Syncs (Ok tt) a b → LeavesOnly P a b
  sync_done stays s =
      one_more P a a b (starts P a leaves) (ap (λ (f : FileState). f.past) s)
      (subst (λ (p : Pending). Leaves P p) (sym (ap (λ (f : FileState). f.pending) s)) (leaves_one P a.content (leaves a.content stays)))

  -- of a file that isn't empty, nothing changes after it
  pub sync_same : (c : FileState) → ((file : List ℕ) → P file → 0 < length file) → MayLeave a.pending a.content → Syncs (Ok tt) a b → (0 < length b.content → c ≡ b) → LeavesOnly P a c
  sync_same c some stays s same =
      let long : 0 < length b.content = omega (arith, some a.content (leaves a.content stays), ap length (ap (λ (f : FileState). f.content) s)) in
      subst (λ (f : FileState). LeavesOnly P a f) (sym (same long)) (sync_done stays s)

pub still_after : (a b : FileState) → Syncs (Ok tt) a b → b.pending ≡ settled b.content
still_after a b s = ap (λ (f : FileState). f.pending) s ∙ ap settled (sym (ap (λ (f : FileState). f.content) s))

pub same_content : (a b : FileState) → Syncs (Ok tt) a b → b.content ≡ a.content
same_content a b s = ap (λ (f : FileState). f.content) s

-- what is so after a call of which a crash leaves only such files, where nothing is pending
pub now_so : (P : List ℕ → Type 0) (a b : FileState) → LeavesOnly P a b → b.pending ≡ settled b.content → P b.content
now_so P a b only still = all_first (Leaves P) b.pending only.between only.each b.content (subst (λ (p : Pending). MayLeave p b.content) (sym still) (may_stay b.content))

-- too short a file
module _ (head : List ℕ) where
  pub short_stays : (a : FileState) → a.pending ≡ settled a.content → IsTooShort head a.content → LeavesOnly (IsTooShort head) a a
  short_stays a still short = starts (IsTooShort head) a (subst (λ (p : Pending). Leaves (IsTooShort head) p) (sym still) (leaves_one (IsTooShort head) a.content short))

  pub begun_content : (bytes : List ℕ) (a b c : FileState) → a.content ≡ [] → bytes ≡ head ++ 0 ∷ [] → Writes 0 bytes (Ok tt) a b → Syncs (Ok tt) b c → c.content ≡ head ++ 0 ∷ []
  begun_content bytes a b c empty is w s =
      ap (λ (f : FileState). f.content) s ∙ w.0 ∙ ap (λ (l : List ℕ). overwritten l 0 bytes) empty ∙ ap (λ (l : List ℕ). bytes ++ l) (drop_all (0 + length bytes) [] (omega arith)) ∙ append-nil bytes ∙ is

  -- an empty file is made one of no records
  module _ (bytes : List ℕ) (is : bytes ≡ head ++ 0 ∷ []) (a : FileState) (empty : a.content ≡ []) (still : a.pending ≡ settled a.content) where
    long : length bytes ≡ length head + 1
    long = ap length is ∙ length-append head (0 ∷ [])

    pub begin_none : LeavesOnly (IsTooShort head) a a
    begin_none = short_stays a still (omega (arith, ap length empty))

    pub begin_asks : (b : FileState) → AsksWrite 0 (length bytes) a b → LeavesOnly (IsTooShort head) a b
    begin_asks b w =
        one_more (IsTooShort head) a a b begin_none w.past
        (λ file m. let n = subst (λ (p : Pending). MayLeave p file) (w.pending ∙ ap (λ (p : Pending). with_write p 0 (length bytes)) (still ∙ ap settled empty)) m in omega (arith, n.no_longer, long))

    pub begin_failed : (b : FileState) → (b ≡ a) ⊎ AsksWrite 0 (length bytes) a b → LeavesOnly (IsTooShort head) a b
    begin_failed b (inl same) = subst (λ (f : FileState). LeavesOnly (IsTooShort head) a f) (sym same) begin_none
    begin_failed b (inr asks) = begin_asks b asks

    pub begin_unsynced : (b c : FileState) → Writes 0 bytes (Ok tt) a b → c ≡ b → LeavesOnly (IsTooShort head) a c
    begin_unsynced b c w same = subst (λ (f : FileState). LeavesOnly (IsTooShort head) a f) (sym same) (begin_asks b w.1)

    pub begin_synced : (b c : FileState) → Writes 0 bytes (Ok tt) a b → Syncs (Ok tt) b c → LeavesOnly (IsTooShort head) a c
    begin_synced b c w s =
        one_more (IsTooShort head) a b c (begin_asks b w.1) (ap (λ (f : FileState). f.past) s)
        (subst (λ (p : Pending). Leaves (IsTooShort head) p) (sym (still_after b c s)) (leaves_one (IsTooShort head) c.content (omega (arith, ap length (begun_content bytes a b c empty is w s), length-append head (0 ∷ [])))))

  pub begun_started : (f : FileState) → f.content ≡ head ++ 0 ∷ [] → f.pending ≡ settled f.content → IsStarted head f
  begun_started f is still = record {
    read = record {
      begins = begins_none head f.content (drop (length head) f.content) (is ∙ ap (λ (l : List ℕ). head ++ l) (sym (ap (λ (l : List ℕ). drop (length head) l) is ∙ drop_at head (0 ∷ []) (length head) refl)));
      within = omega (arith, ap length is, length-append head (0 ∷ []));
    };
    settled = still;
  }

pub short_after : (head : List ℕ) (a b c : FileState) → Leaves (IsTooShort head) a.pending → MayLeave a.pending a.content → Syncs (Ok tt) a b
    → (b.pending ≡ settled b.content → IsTooShort head b.content → LeavesOnly (IsTooShort head) b c) → LeavesOnly (IsTooShort head) a c
short_after head a b c leaves stays s rest =
    goes_on (IsTooShort head) a b c (sync_done (IsTooShort head) a b leaves stays s) (rest (still_after a b s) (subst (IsTooShort head) (sym (same_content a b s)) (leaves a.content stays)))

-- opening: what was so at its start is so at each moment of it
module _ (head : List ℕ) (found : List (List ℕ)) (a b c : FileState) (still : b.pending ≡ settled b.content) (holds : Holds head found b.content) (end : LeavesOnly (Holds head found) b c) where
  pub opens : (bodies : List (List ℕ)) → LeavesOnly (Holds head bodies) a b → LeavesOnly (Holds head bodies) a c
  opens bodies first =
      let same : found ≡ bodies = one_reading head found bodies b.content holds (now_so (Holds head bodies) a b first still) in
      goes_on (Holds head bodies) a b c first (subst (λ (l : List (List ℕ)). LeavesOnly (Holds head l) b c) same end)

  pub opens_group : (bodies more : List (List ℕ)) → LeavesOnly (HoldsAllOrNone head bodies more) a b → LeavesOnly (HoldsAllOrNone head bodies more) a c
  opens_group bodies more first =
      goes_on (HoldsAllOrNone head bodies more) a b c first
      (weaker (Holds head found) (HoldsAllOrNone head bodies more) b c (λ file h. which (now_so (HoldsAllOrNone head bodies more) a b first still) file h) end)
    where
      which : HoldsAllOrNone head bodies more b.content → (file : List ℕ) → Holds head found file → HoldsAllOrNone head bodies more file
      which (inl now) file h = inl (subst (λ (l : List (List ℕ)). Holds head l file) (one_reading head found bodies b.content holds now) h)
      which (inr now) file h = inr (subst (λ (l : List (List ℕ)). Holds head l file) (one_reading head found (bodies ++ more) b.content holds now) h)
