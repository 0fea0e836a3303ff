-- Groups of records, and the buffers in which they are built.
use Rattle.std.proofs.Common.{◌≡◌, ◌≢◌, ℕ, ◌+◌, ◌-◌, ◌<◌, ◌≤◌, ◌^◌, List, [], ◌∷◌, ◌++◌, length, map, take, drop, get_or, refl, sym, ◌∙◌, ap, subst, arith, length-append, append_assoc, take-append-drop}
use Rattle.std.proofs.lemmas.List.{append-nil, map-append, take_at, drop_at, drop_all, take_more, take-append-le, drop-append-le, get_or_append_left, get_or-append_right}
use Rattle.std.proofs.lemmas.List.Concat.{flat_map-append}
use Rattle.std.proofs.lemmas.List.Elements.{All-append, All-map}
use Rattle.std.specs.List.{All, flat_map}
use Rattle.std.specs.Int.{w64, to_be_bytes}
use Rattle.record_file.specs.Records.{record_bytes, IsRecord, Begins, Holds, open_record, open_records, group_bytes, IsGroup}
use Rattle.record_file.specs.Groups.{BuilderState, bodies_in, IsBuilt, IsFinished}
use Rattle.record_file.specs.Disks.{overwritten}
use Rattle.record_file.proofs.CrashLemmas.{all_one, all_more, all_first, all_rest}
use Rattle.record_file.proofs.RecordLemmas.{length-framed}

bodies_opened : (bodies : List (List ℕ)) → map (λ r. r.1) (map open_record bodies) ≡ bodies
bodies_opened [] = refl
bodies_opened (body ∷ bodies) = ap (λ (l : List (List ℕ)). body ∷ l) (bodies_opened bodies)

-- a group behind an open gate
pub opened_group : (head file : List ℕ) (bodies more : List (List ℕ)) (gate : ℕ) → IsGroup more → gate ≢ 0 → Begins head bodies file (gate ∷ group_bytes more) → Holds head (bodies ++ more) file
opened_group head file bodies [] gate g opened b = absurd (omega (arith, g.some))
opened_group head file bodies (body ∷ more) gate g opened b =
    let front : List ℕ = head ++ flat_map record_bytes b.gated in
    let records : List (ℕ × List ℕ) = (gate, body) ∷ map open_record more in
    record {
      free = [];
      begins = record {
        gated = b.gated ++ records;
        records = All-append IsRecord b.gated records b.records
            (all_more IsRecord (gate, body) (map open_record more) (opened, all_first (λ (l : List ℕ). length l < 2 ^ 64) body more g.fit)
            (All-map IsRecord open_record more (λ k d lt. (λ e. omega (arith, e), all_rest (λ (l : List ℕ). length l < 2 ^ 64) body more g.fit k d lt))));
        same = map-append (λ (r : ℕ × List ℕ). r.1) b.gated records ∙ ap (λ (l : List (List ℕ)). l ++ body ∷ map (λ (r : ℕ × List ℕ). r.1) (map open_record more)) b.same ∙ ap (λ (l : List (List ℕ)). bodies ++ body ∷ l) (bodies_opened more);
        spells =
            b.spells ∙ sym (
            ap (λ (l : List ℕ). (head ++ l) ++ 0 ∷ []) (flat_map-append record_bytes b.gated records)
            ∙ ap (λ (l : List ℕ). l ++ 0 ∷ []) (sym (append_assoc head (flat_map record_bytes b.gated) (flat_map record_bytes records)))
            ∙ append_assoc front (flat_map record_bytes records) (0 ∷ []));
      };
    }

pub group_free : (head file : List ℕ) (bodies more : List (List ℕ)) (gate : ℕ) (g : IsGroup more) (opened : gate ≢ 0) (b : Begins head bodies file (gate ∷ group_bytes more)) → (opened_group head file bodies more gate g opened b).free ≡ []
unfolding opened_group
group_free head file bodies [] gate g opened b = absurd (omega (arith, g.some))
group_free head file bodies (body ∷ more) gate g opened b = refl

-- what is written of a group
pub written_bytes : (bodies : List (List ℕ)) → 0 < length bodies → drop 1 (open_records bodies ++ 0 ∷ []) ≡ group_bytes bodies
written_bytes [] some = absurd (omega (arith, some))
written_bytes (body ∷ bodies) some = refl

abbrev state_of : List (List ℕ) → List ℕ → BuilderState
state_of bodies body = record { bodies = bodies; body = body }

lead_of : List ℕ → List ℕ
lead_of body = 1 ∷ to_be_bytes w64 (length body)

-- the bodies are read back by their lengths
bodies_read : (bodies : List (List ℕ)) (rest : List ℕ) → bodies_in (map (λ (body : List ℕ). length body) bodies) (open_records bodies ++ rest) ≡ bodies
unfolding lead_of
bodies_read [] rest = refl
bodies_read (body ∷ bodies) rest =
    let behind : List ℕ = open_records bodies ++ rest in
    let split : open_records (body ∷ bodies) ++ rest ≡ record_bytes (1, body) ++ behind = append_assoc (record_bytes (1, body)) (open_records bodies) rest in
    let opened : open_records (body ∷ bodies) ++ rest ≡ lead_of body ++ (body ++ behind) = split ∙ append_assoc (lead_of body) body behind in
    let first : take (length body) (drop 9 (open_records (body ∷ bodies) ++ rest)) ≡ body =
    ap (λ (l : List ℕ). take (length body) (drop 9 l)) opened ∙ ap (λ (l : List ℕ). take (length body) l) (drop_at (lead_of body) (body ++ behind) 9 refl) ∙ take_at body behind (length body) refl in
    let others : drop (9 + length body) (open_records (body ∷ bodies) ++ rest) ≡ behind =
    ap (λ (l : List ℕ). drop (9 + length body) l) split ∙ drop_at (record_bytes (1, body)) behind (9 + length body) (omega (arith, length-framed body)) in
    let more : bodies_in (map (λ (b : List ℕ). length b) bodies) (drop (9 + length body) (open_records (body ∷ bodies) ++ rest)) ≡ bodies =
    ap (λ (l : List ℕ). bodies_in (map (λ (b : List ℕ). length b) bodies) l) others ∙ bodies_read bodies rest in
    λ i. first i ∷ more i

pub bodies_are : (bytes sizes : List ℕ) (start : ℕ) (bodies : List (List ℕ)) → take start bytes ≡ open_records bodies → sizes ≡ map (λ (body : List ℕ). length body) bodies → bodies_in sizes bytes ≡ bodies
bodies_are bytes sizes start bodies front same =
    ap (λ (l : List ℕ). bodies_in sizes l) (sym (take-append-drop start bytes) ∙ ap (λ (l : List ℕ). l ++ drop start bytes) front)
    ∙ ap (λ (s : List ℕ). bodies_in s (open_records bodies ++ drop start bytes)) same ∙ bodies_read bodies (drop start bytes)

pub built : (bytes sizes : List ℕ) (start : ℕ) (bodies : List (List ℕ)) → start + 9 ≤ length bytes → take start bytes ≡ open_records bodies → get_or bytes start 0 ≡ 1 → sizes ≡ map (λ (body : List ℕ). length body) bodies
    → All (λ body. length body < 2 ^ 64) bodies → IsBuilt bytes sizes start
built bytes sizes start bodies long front gate same fit =
    let are : bodies ≡ bodies_in sizes bytes = sym (bodies_are bytes sizes start bodies front same) in
    record {
      long = long;
      whole = front ∙ ap open_records are;
      gate = gate;
      same = same ∙ ap (λ (l : List (List ℕ)). map (λ (body : List ℕ). length body) l) are;
      fit = subst (λ (l : List (List ℕ)). All (λ body. length body < 2 ^ 64) l) are fit;
    }

-- more bytes of the last record's body
module _ (bytes sizes piece : List ℕ) (start : ℕ) (b : IsBuilt bytes sizes start) where
  front_stays : take start (bytes ++ piece) ≡ open_records (bodies_in sizes bytes)
  front_stays = take-append-le start bytes piece (omega (arith, b.long)) ∙ b.whole

  pub longer_built : IsBuilt (bytes ++ piece) sizes start
  longer_built =
      built (bytes ++ piece) sizes start (bodies_in sizes bytes) (omega (arith, b.long, length-append bytes piece)) front_stays
      (get_or_append_left bytes piece 0 start (omega (arith, b.long)) ∙ b.gate) b.same b.fit

  pub longer_bodies : bodies_in sizes (bytes ++ piece) ≡ bodies_in sizes bytes
  longer_bodies = bodies_are (bytes ++ piece) sizes start (bodies_in sizes bytes) front_stays b.same

  pub longer_body : drop (start + 9) (bytes ++ piece) ≡ drop (start + 9) bytes ++ piece
  longer_body = drop-append-le (start + 9) bytes piece b.long

pub longer_view : (bytes after sizes piece : List ℕ) (start : ℕ) (was : BuilderState) → IsBuilt bytes sizes start → state_of (bodies_in sizes bytes) (drop (start + 9) bytes) ≡ was → after ≡ bytes ++ piece
    → state_of (bodies_in sizes after) (drop (start + 9) after) ≡ state_of was.bodies (was.body ++ piece)
longer_view bytes after sizes piece start was b view is =
    ap (λ (l : List ℕ). state_of (bodies_in sizes l) (drop (start + 9) l)) is
    ∙ ap (λ (l : List (List ℕ)). state_of l (drop (start + 9) (bytes ++ piece))) (longer_bodies bytes sizes piece start b)
    ∙ ap (λ (l : List ℕ). state_of (bodies_in sizes bytes) l) (longer_body bytes sizes piece start b)
    ∙ ap (λ (w : BuilderState). state_of w.bodies (w.body ++ piece)) view

open_more : (bodies : List (List ℕ)) (body : List ℕ) → open_records (bodies ++ body ∷ []) ≡ open_records bodies ++ record_bytes (1, body)
open_more bodies body =
    ap (λ (l : List (ℕ × List ℕ)). flat_map record_bytes l) (map-append open_record bodies (body ∷ []))
    ∙ flat_map-append record_bytes (map open_record bodies) ((1, body) ∷ []) ∙ ap (λ (l : List ℕ). open_records bodies ++ l) (append-nil (record_bytes (1, body)))

-- the length of the last record's body is written in front of it
pub closed : (bytes sizes : List ℕ) (start : ℕ) → IsBuilt bytes sizes start
    → overwritten bytes (start + 1) (to_be_bytes w64 (length (drop (start + 9) bytes))) ≡ open_records (bodies_in sizes bytes ++ drop (start + 9) bytes ∷ [])
closed bytes sizes start b =
    let body : List ℕ = drop (start + 9) bytes in
    let digits : List ℕ = to_be_bytes w64 (length body) in
    let front : List ℕ = open_records (bodies_in sizes bytes) in
    let before : take (start + 1) bytes ≡ front ++ 1 ∷ [] =
    take_more bytes start 0 (omega (arith, b.long)) ∙ ap (λ (l : List ℕ). l ++ get_or bytes start 0 ∷ []) b.whole ∙ ap (λ (n : ℕ). front ++ n ∷ []) b.gate in
    let place : start + 1 + 8 ≡ start + 9 = omega arith in
    ap (λ (l : List ℕ). l ++ digits ++ drop (start + 1 + 8) bytes) before ∙ ap (λ (n : ℕ). (front ++ 1 ∷ []) ++ digits ++ drop n bytes) place
    ∙ append_assoc (front ++ 1 ∷ []) digits body ∙ append_assoc front (1 ∷ []) (digits ++ body) ∙ sym (open_more (bodies_in sizes bytes) body)

pub fit_more : (bodies : List (List ℕ)) (body : List ℕ) → All (λ b. length b < 2 ^ 64) bodies → length body < 2 ^ 64 → All (λ b. length b < 2 ^ 64) (bodies ++ body ∷ [])
fit_more bodies body all fits = All-append (λ (b : List ℕ). length b < 2 ^ 64) bodies (body ∷ []) all (all_one (λ (b : List ℕ). length b < 2 ^ 64) body fits)

pub group_more : (bodies : List (List ℕ)) (body : List ℕ) → All (λ b. length b < 2 ^ 64) bodies → length body < 2 ^ 64 → IsGroup (bodies ++ body ∷ [])
group_more bodies body all fits = record { some = omega (arith, length-append bodies (body ∷ [])); fit = fit_more bodies body all fits }

pub sizes_more : (sizes after : List ℕ) (bodies : List (List ℕ)) (body : List ℕ) → after ≡ sizes ++ length body ∷ [] → sizes ≡ map (λ (b : List ℕ). length b) bodies → after ≡ map (λ (b : List ℕ). length b) (bodies ++ body ∷ [])
sizes_more sizes after bodies body is same =
    is ∙ ap (λ (l : List ℕ). l ++ length body ∷ []) same ∙ sym (map-append (λ (b : List ℕ). length b) bodies (body ∷ []))

pub ends_so : (bytes next : List ℕ) (bodies : List (List ℕ)) (len : ℕ) → bytes ≡ open_records bodies ++ next → length next ≡ 9 → len ≡ length bytes → (len - 9) + 9 ≡ length bytes
ends_so bytes next bodies len is long all = omega (arith, all, ap length is, length-append (open_records bodies) next, long)

-- the next record, whose body is empty
module _ (bytes sizes next : List ℕ) (bodies : List (List ℕ)) (start : ℕ) (is : bytes ≡ open_records bodies ++ next) (long : length next ≡ 9) (gate : get_or next 0 0 ≡ 1) (end : start + 9 ≡ length bytes)
    (same : sizes ≡ map (λ (body : List ℕ). length body) bodies) (fit : All (λ body. length body < 2 ^ 64) bodies) where
  starts_at : length (open_records bodies) ≡ start
  starts_at = omega (arith, ap length is, length-append (open_records bodies) next, long, end)

  front_is : take start bytes ≡ open_records bodies
  front_is = ap (λ (l : List ℕ). take start l) is ∙ take_at (open_records bodies) next start starts_at

  pub next_built : IsBuilt bytes sizes start
  next_built =
      built bytes sizes start bodies (omega (arith, end)) front_is
      (ap (λ (l : List ℕ). get_or l start 0) is ∙ get_or-append_right (open_records bodies) next start start 0 starts_at (omega arith) ∙ ap (λ (n : ℕ). get_or next n 0) (let none : start - start ≡ 0 = omega arith in none) ∙ gate) same fit

  pub next_bodies : bodies_in sizes bytes ≡ bodies
  next_bodies = bodies_are bytes sizes start bodies front_is same

  pub next_body : drop (start + 9) bytes ≡ []
  next_body = drop_all (start + 9) bytes (omega (arith, end))

  pub next_view : (was : BuilderState) (before : List (List ℕ)) (body : List ℕ) → bodies ≡ before ++ body ∷ [] → state_of before body ≡ was → state_of (bodies_in sizes bytes) (drop (start + 9) bytes) ≡ state_of (was.bodies ++ was.body ∷ []) []
  next_view was before body are is =
      ap (λ (l : List (List ℕ)). state_of l (drop (start + 9) bytes)) (next_bodies ∙ are ∙ ap (λ (w : BuilderState). w.bodies ++ w.body ∷ []) is)
      ∙ ap (λ (l : List ℕ). state_of (was.bodies ++ was.body ∷ []) l) next_body

-- the finished group
module _ (bytes sizes : List ℕ) (bodies : List (List ℕ)) (is : bytes ≡ open_records bodies ++ 0 ∷ []) (same : sizes ≡ map (λ (body : List ℕ). length body) bodies) (group : IsGroup bodies) where
  pub finished_bodies : bodies_in sizes bytes ≡ bodies
  finished_bodies =
      bodies_are bytes sizes (length (open_records bodies)) bodies
      (ap (λ (l : List ℕ). take (length (open_records bodies)) l) is ∙ take_at (open_records bodies) (0 ∷ []) (length (open_records bodies)) refl) same

  pub finished : IsFinished bytes (bodies_in sizes bytes)
  finished = record {
    spells = is ∙ ap (λ (l : List (List ℕ)). open_records l ++ 0 ∷ []) (sym finished_bodies);
    group = subst IsGroup (sym finished_bodies) group;
  }
