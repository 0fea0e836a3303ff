-- Storing a group: what a crash leaves in each of the two steps.
use Rattle.std.proofs.Common.{◌≡◌, ◌⊎◌, inl, inr, ℕ, ◌+◌, ◌≤◌, List, [], ◌∷◌, ◌++◌, length, get_or, take, drop, Ok, sym, ◌∙◌, ap, subst, arith, length-append, append_assoc, take-append-drop}
use Rattle.std.proofs.lemmas.List.{append-nil, drop_more, take_at, drop_at, take_all, drop_all}
use Rattle.std.proofs.lemmas.Bool.{cases_eq}
use Rattle.std.specs.List.{flat_map}
use Rattle.record_file.specs.Crashes.{Pending, settled, with_write, MayLeave, FileState, Leaves, LeavesOnly}
use Rattle.record_file.specs.Disks.{AsksWrite, Writes, Syncs, overwritten}
use Rattle.record_file.specs.Records.{record_bytes, Begins, Holds, HoldsAllOrNone, group_bytes, IsGroup}
use Rattle.record_file.specs.Files.{IsDurable}
use Rattle.record_file.proofs.CrashLemmas.{write_front, write_length, write_back, starts, one_more, leaves_one}
use Rattle.record_file.proofs.RecordLemmas.{begins_same}
use Rattle.record_file.proofs.GroupLemmas.{opened_group, group_free}

-- what follows a file with a zero gate is free
pub front_holds : (head : List ℕ) (bodies : List (List ℕ)) (file c : List ℕ) → Holds head bodies file → take (length file) c ≡ file → Holds head bodies c
front_holds head bodies file c h front =
    let b = h.begins in
    let pre : List ℕ = head ++ flat_map record_bytes b.gated in
    let back : List ℕ = drop (length file) c in
    let whole : c ≡ pre ++ 0 ∷ (h.free ++ back) =
    sym (take-append-drop (length file) c) ∙ ap (λ (l : List ℕ). l ++ back) (front ∙ b.spells) ∙ append_assoc pre (0 ∷ h.free) back in
    record { free = h.free ++ back; begins = begins_same head bodies file c (0 ∷ h.free) (0 ∷ (h.free ++ back)) b whole }

-- behind the end
pub overwritten_behind : (file piece : List ℕ) (n : ℕ) → length file ≡ n → overwritten file n piece ≡ file ++ piece
overwritten_behind file piece n is =
    ap (λ (l : List ℕ). l ++ piece ++ drop (n + length piece) file) (take_all n file (omega (arith, is)))
    ∙ ap (λ (l : List ℕ). file ++ piece ++ l) (drop_all (n + length piece) file (omega (arith, is)))
    ∙ append-nil (file ++ piece)

module _ (head : List ℕ) (bodies : List (List ℕ)) (end : ℕ) (more : List (List ℕ)) (group : IsGroup more) where
  abbrev piece : List ℕ
  piece = group_bytes more

  abbrev P : List ℕ → Type 0
  P = HoldsAllOrNone head bodies more

  -- the group is on the disk, behind the zero gate
  pub record IsStaged (f : FileState) : Type 0 where
    pub begins : Begins head bodies f.content (0 ∷ piece)
    pub ends : length f.content ≡ end + 1 + length piece
    pub settled : f.pending ≡ settled f.content

  pub stage_leaves : (a b : FileState) → IsDurable head bodies end a → AsksWrite (end + 1) (length piece) a b → Leaves P b.pending
  stage_leaves a b rest w c m =
      let m2 = subst (λ (p : Pending). MayLeave p c) (w.pending ∙ ap (λ (p : Pending). with_write p (end + 1) (length piece)) rest.settled) m in
      let front : take (length a.content) c ≡ a.content =
      write_front a.content c (length a.content) (end + 1) (length piece) (omega (arith, rest.ends)) (omega arith) m2 ∙ take_all (length a.content) a.content (omega arith) in
      inl (front_holds head bodies a.content c rest.holds front)

  pub staged : (a b c : FileState) → IsDurable head bodies end a → Writes (end + 1) piece (Ok tt) a b → Syncs (Ok tt) b c → IsStaged c
  staged a b c rest w s =
      let h = rest.holds in
      let pre : List ℕ = head ++ flat_map record_bytes h.begins.gated in
      let was : a.content ≡ pre ++ 0 ∷ [] = h.begins.spells ∙ ap (λ (l : List ℕ). pre ++ 0 ∷ l) rest.nothing_free in
      let now : c.content ≡ a.content ++ piece = ap (λ (f : FileState). f.content) s ∙ w.0 ∙ overwritten_behind a.content piece (end + 1) rest.ends in
      record {
        begins = begins_same head bodies a.content c.content (0 ∷ h.free) (0 ∷ piece) h.begins (now ∙ ap (λ (l : List ℕ). l ++ piece) was ∙ append_assoc pre (0 ∷ []) piece);
        ends = ap length now ∙ length-append a.content piece ∙ ap (λ (n : ℕ). n + length piece) rest.ends;
        settled = ap (λ (f : FileState). f.pending) s ∙ ap settled (sym (ap (λ (f : FileState). f.content) s));
      }

  -- any gate in front of a staged group
  gate_decides : (file c : List ℕ) (gate : ℕ) (b : Begins head bodies file (0 ∷ piece)) → c ≡ (head ++ flat_map record_bytes b.gated) ++ gate ∷ piece → P c
  gate_decides file c gate b is = elim (cases_eq gate 0) [
    | inl shut ↦ inl (record { free = piece; begins = begins_same head bodies file c (0 ∷ piece) (0 ∷ piece) b (is ∙ ap (λ (x : ℕ). (head ++ flat_map record_bytes b.gated) ++ x ∷ piece) shut) })
    | inr opened ↦ inr (opened_group head c bodies more gate group opened (begins_same head bodies file c (0 ∷ piece) (gate ∷ piece) b is))
  ]

  pub gate_leaves : (a b : FileState) → IsStaged a → AsksWrite end 1 a b → Leaves P b.pending
  gate_leaves a b st w c m =
      let m2 = subst (λ (p : Pending). MayLeave p c) (w.pending ∙ ap (λ (p : Pending). with_write p end 1) st.settled) m in
      let pre : List ℕ = head ++ flat_map record_bytes st.begins.gated in
      let size : length pre ≡ end = omega (arith, ap length st.begins.spells, length-append pre (0 ∷ piece), st.ends) in
      let inside : end + 1 ≤ length a.content = omega (arith, st.ends) in
      let front : take end c ≡ pre =
      write_front a.content c end end 1 (omega arith) (omega (arith, inside)) m2 ∙ ap (λ (l : List ℕ). take end l) st.begins.spells ∙ take_at pre (0 ∷ piece) end size in
      let long : length c ≡ length a.content = write_length a.content c end 1 inside m2 in
      let spelled : a.content ≡ (pre ++ 0 ∷ []) ++ piece = st.begins.spells ∙ sym (append_assoc pre (0 ∷ []) piece) in
      let back : drop (end + 1) c ≡ piece =
      write_back a.content c end 1 inside m2 ∙ ap (λ (l : List ℕ). drop (end + 1) l) spelled ∙ drop_at (pre ++ 0 ∷ []) piece (end + 1) (omega (arith, length-append pre (0 ∷ []), size)) in
      let gate : ℕ = get_or c end 0 in
      let whole : c ≡ pre ++ gate ∷ piece =
      sym (take-append-drop end c) ∙ ap (λ (l : List ℕ). l ++ drop end c) front
      ∙ ap (λ (l : List ℕ). pre ++ l) (drop_more c end 0 (omega (arith, long, inside)) ∙ ap (λ (l : List ℕ). gate ∷ l) back) in
      gate_decides a.content c gate st.begins whole

  pub opened : (a b c : FileState) → IsStaged a → Writes end (1 ∷ []) (Ok tt) a b → Syncs (Ok tt) b c → IsDurable head (bodies ++ more) (end + length piece) c
  opened a b c st w s =
      let pre : List ℕ = head ++ flat_map record_bytes st.begins.gated in
      let size : length pre ≡ end = omega (arith, ap length st.begins.spells, length-append pre (0 ∷ piece), st.ends) in
      let spelled : a.content ≡ (pre ++ 0 ∷ []) ++ piece = st.begins.spells ∙ sym (append_assoc pre (0 ∷ []) piece) in
      let same : c.content ≡ b.content = ap (λ (f : FileState). f.content) s in
      let now : c.content ≡ pre ++ 1 ∷ piece =
      same ∙ w.0 ∙ append_assoc (take end a.content) (1 ∷ []) (drop (end + 1) a.content)
      ∙ ap (λ (l : List ℕ). l ++ 1 ∷ drop (end + 1) a.content) (ap (λ (l : List ℕ). take end l) st.begins.spells ∙ take_at pre (0 ∷ piece) end size)
      ∙ ap (λ (l : List ℕ). pre ++ 1 ∷ l) (ap (λ (l : List ℕ). drop (end + 1) l) spelled ∙ drop_at (pre ++ 0 ∷ []) piece (end + 1) (omega (arith, length-append pre (0 ∷ []), size))) in
      record {
        holds = opened_group head c.content bodies more 1 group (λ e. omega (arith, e)) (begins_same head bodies a.content c.content (0 ∷ piece) (1 ∷ piece) st.begins now);
        nothing_free = group_free head c.content bodies more 1 group (λ e. omega (arith, e)) (begins_same head bodies a.content c.content (0 ∷ piece) (1 ∷ piece) st.begins now);
        ends = omega (arith, ap length now, length-append pre (1 ∷ piece), size);
        settled = ap (λ (f : FileState). f.pending) s ∙ ap settled (sym same);
      }

  -- the four calls, one after the other
  pub run_0 : (a : FileState) → IsDurable head bodies end a → LeavesOnly P a a
  run_0 a rest = starts P a (subst (λ (p : Pending). Leaves P p) (sym rest.settled) (leaves_one P a.content (inl rest.holds)))

  pub run_1 : (a b : FileState) → IsDurable head bodies end a → AsksWrite (end + 1) (length piece) a b → LeavesOnly P a b
  run_1 a b rest w = one_more P a a b (run_0 a rest) w.past (stage_leaves a b rest w)

  pub run_same : (a b c : FileState) → LeavesOnly P a b → c ≡ b → LeavesOnly P a c
  run_same a b c only s = subst (λ (f : FileState). LeavesOnly P a f) (sym s) only

  pub run_2 : (a b c : FileState) → IsDurable head bodies end a → Writes (end + 1) piece (Ok tt) a b → Syncs (Ok tt) b c → LeavesOnly P a c
  run_2 a b c rest w s =
      let st = staged a b c rest w s in
      one_more P a b c (run_1 a b rest w.1) (ap (λ (f : FileState). f.past) s)
      (subst (λ (p : Pending). Leaves P p) (sym st.settled) (leaves_one P c.content (inl (record { free = piece; begins = st.begins }))))

  pub run_3 : (a b c d : FileState) → IsDurable head bodies end a → Writes (end + 1) piece (Ok tt) a b → Syncs (Ok tt) b c → AsksWrite end 1 c d → LeavesOnly P a d
  run_3 a b c d rest w s v = one_more P a c d (run_2 a b c rest w s) v.past (gate_leaves c d (staged a b c rest w s) v)

  pub run_4 : (a b c d e : FileState) → IsDurable head bodies end a → Writes (end + 1) piece (Ok tt) a b → Syncs (Ok tt) b c → Writes end (1 ∷ []) (Ok tt) c d → Syncs (Ok tt) d e → LeavesOnly P a e
  run_4 a b c d e rest w s v t =
      let now = opened c d e (staged a b c rest w s) v t in
      one_more P a d e (run_3 a b c d rest w s v.1) (ap (λ (f : FileState). f.past) t)
      (subst (λ (p : Pending). Leaves P p) (sym now.settled) (leaves_one P e.content (inr now.holds)))

  -- either write failed
  pub failed_1 : (a b : FileState) → IsDurable head bodies end a → (b ≡ a) ⊎ AsksWrite (end + 1) (length piece) a b → LeavesOnly P a b
  failed_1 a b rest (inl same) = run_same a a b (run_0 a rest) same
  failed_1 a b rest (inr asks) = run_1 a b rest asks

  pub failed_3 : (a b c d : FileState) → IsDurable head bodies end a → Writes (end + 1) piece (Ok tt) a b → Syncs (Ok tt) b c → (d ≡ c) ⊎ AsksWrite end 1 c d → LeavesOnly P a d
  failed_3 a b c d rest w s (inl same) = run_same a c d (run_2 a b c rest w s) same
  failed_3 a b c d rest w s (inr asks) = run_3 a b c d rest w s asks
