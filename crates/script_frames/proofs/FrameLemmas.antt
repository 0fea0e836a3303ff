-- Frames, and bytes that begin none.
use Rattle.std.proofs.Common.{◌≡◌, ℕ, ◌+◌, ◌^◌, ◌%◌, ◌<◌, ◌≤◌, List, [], ◌∷◌, ◌++◌, length, take, drop, refl, sym, ◌∙◌, ap, arith, append_assoc, length-append, take-append-drop, codes}
use Rattle.std.proofs.lemmas.List.{take_at, drop_at, append-nil}
use Rattle.std.proofs.lemmas.Fmt.{decimal_by_steps, length-decimal-le, decimal_injective}
use Rattle.std.specs.Prelude.{decimal}
use Rattle.std.specs.List.{flat_map}
use Rattle.script_frames.specs.Frames.{head_text, frame_text, largest_body, AreBodies, BeginsNoFrame, HasNoFeed, IsWord}
use Rattle.script_frames.specs.ReadingFrames.{IsSizeIn, HasNoSize}

-- I. Line feeds

pub no_feed_more : (xs : List ℕ) (b : ℕ) → HasNoFeed xs → (b ≡ 10 → ⊥) → HasNoFeed (xs ++ b ∷ [])
no_feed_more [] b h other = (other, tt)
no_feed_more (x ∷ xs) b h other = (h.0, no_feed_more xs b h.1 other)

no_feed_both : (xs ys : List ℕ) → HasNoFeed xs → HasNoFeed ys → HasNoFeed (xs ++ ys)
no_feed_both [] ys h k = k
no_feed_both (x ∷ xs) ys h k = (h.0, no_feed_both xs ys h.1 k)

-- the first line feed stands in one place
line_split : (xs ys r s : List ℕ) → HasNoFeed xs → HasNoFeed ys → xs ++ 10 ∷ r ≡ ys ++ 10 ∷ s → (xs ≡ ys) × (r ≡ s)
line_split [] [] r s p q e = (refl, cc)
line_split [] (y ∷ ys) r s p q e = absurd (q.0 cc)
line_split (x ∷ xs) [] r s p q e = absurd (p.0 cc)
line_split (x ∷ xs) (y ∷ ys) r s p q e =
    let first : x ≡ y = cc in
    let more : xs ++ 10 ∷ r ≡ ys ++ 10 ∷ s = cc in
    let rest = line_split xs ys r s p.1 q.1 more in
    let same : xs ≡ ys = rest.0 in
    (cc, rest.1)

no_feed_within : (xs r ys s : List ℕ) → HasNoFeed xs → xs ++ r ≡ ys ++ 10 ∷ s → length xs ≤ length ys
no_feed_within [] r ys s p e = omega arith
no_feed_within (x ∷ xs) r [] s p e = absurd (p.0 cc)
no_feed_within (x ∷ xs) r (y ∷ ys) s p e =
    let more : xs ++ r ≡ ys ++ 10 ∷ s = cc in
    omega (arith, no_feed_within xs r ys s p.1 more)

same_place : (xs ys r s : List ℕ) (b c : ℕ) → length xs ≡ length ys → xs ++ b ∷ r ≡ ys ++ c ∷ s → (xs ≡ ys) × (b ≡ c) × (r ≡ s)
same_place [] [] r s b c len e = (refl, cc, cc)
same_place [] (y ∷ ys) r s b c len e = absurd (omega arith)
same_place (x ∷ xs) [] r s b c len e = absurd (omega arith)
same_place (x ∷ xs) (y ∷ ys) r s b c len e =
    let first : x ≡ y = cc in
    let more : xs ++ b ∷ r ≡ ys ++ c ∷ s = cc in
    let rest = same_place xs ys r s b c (omega arith) more in
    let same : xs ≡ ys = rest.0 in
    (cc, rest.1, rest.2)

-- II. First lines

digits_no_feed : (n : ℕ) → n < 2 ^ 64 → HasNoFeed (decimal n)
digits_no_feed n h = decimal_by_steps (λ n ds. HasNoFeed ds) (λ n less. ((λ e. omega (arith, e)), tt)) (λ n ds some front. no_feed_more ds (48 + n % 10) front (λ e. omega (arith, e))) n h

module _ (word : List ℕ) (is_word : IsWord word) where
  head_no_feed : (n : ℕ) → n ≤ largest_body → HasNoFeed (head_text word n)
  unfolding head_text
  head_no_feed n small = no_feed_both (word) (decimal n) is_word.no_feed (digits_no_feed n (omega (arith, small)))

  head_length : (n : ℕ) → n ≤ largest_body → length (head_text word n) ≤ 17
  unfolding head_text
  head_length n small = omega (arith, length-append (word) (decimal n), length-decimal-le 9 n (omega arith) (omega (arith, small)) (omega (arith, small)))

  pub head_front : (line : List ℕ) (n : ℕ) → IsSizeIn word line n → take (length word) line ≡ word
  unfolding head_text
  head_front line n size = ap (take (length word)) size.head ∙ take_at (word) (decimal n) (length word) refl

  pub head_digits : (line : List ℕ) (n : ℕ) → IsSizeIn word line n → drop (length word) line ≡ decimal n
  unfolding head_text
  head_digits line n size = ap (drop (length word)) size.head ∙ drop_at (word) (decimal n) (length word) refl

  pub head_is : (line : List ℕ) (n : ℕ) → n ≤ largest_body → take (length word) line ≡ word → drop (length word) line ≡ decimal n → IsSizeIn word line n
  unfolding head_text
  head_is line n small front digits = record { head = sym (take-append-drop (length word) line) ∙ rw (front, digits); small = small }

  head_injective : (m n : ℕ) → m ≤ largest_body → n ≤ largest_body → head_text word m ≡ head_text word n → m ≡ n
  unfolding head_text
  head_injective m n p q e =
      decimal_injective m n (omega (arith, p)) (omega (arith, q)) (sym (drop_at (word) (decimal m) (length word) refl) ∙ ap (drop (length word)) e ∙ drop_at (word) (decimal n) (length word) refl)

  -- III. Frames

  frame_split : (body more : List ℕ) → frame_text word body ++ more ≡ head_text word (length body) ++ 10 ∷ (body ++ 10 ∷ more)
  unfolding frame_text
  frame_split body more =
      append_assoc (head_text word (length body)) (10 ∷ (body ++ 10 ∷ [])) more
      ∙ ap (λ (l : List ℕ). head_text word (length body) ++ 10 ∷ l) (append_assoc body (10 ∷ []) more)

  -- one frame stands at the front
  pub frame_same : (a b x y : List ℕ) → length a ≤ largest_body → length b ≤ largest_body → frame_text word a ++ x ≡ frame_text word b ++ y → (a ≡ b) × (x ≡ y)
  frame_same a b x y p q e =
      let lines = line_split (head_text word (length a)) (head_text word (length b)) (a ++ 10 ∷ x) (b ++ 10 ∷ y) (head_no_feed (length a) p) (head_no_feed (length b) q) (sym (frame_split a x) ∙ e ∙ frame_split b y) in
      let bodies = same_place a b x y 10 10 (head_injective (length a) (length b) p q lines.0) lines.1 in
      (bodies.0, bodies.2)

  -- bytes are a script in one way
  pub script_same : (us vs : List (List ℕ)) (x y : List ℕ) → AreBodies us → AreBodies vs → BeginsNoFrame word x → BeginsNoFrame word y → flat_map (frame_text word) us ++ x ≡ flat_map (frame_text word) vs ++ y → (us ≡ vs) × (x ≡ y)
  script_same [] [] x y p q r s e = (refl, e)
  script_same [] (b ∷ vs) x y p q r s e = absurd (r b (flat_map (frame_text word) vs ++ y) q.0 (e ∙ append_assoc (frame_text word b) (flat_map (frame_text word) vs) y))
  script_same (a ∷ us) [] x y p q r s e = absurd (s a (flat_map (frame_text word) us ++ x) p.0 (sym e ∙ append_assoc (frame_text word a) (flat_map (frame_text word) us) x))
  script_same (a ∷ us) (b ∷ vs) x y p q r s e =
      let one = frame_same a b (flat_map (frame_text word) us ++ x) (flat_map (frame_text word) vs ++ y) p.0 q.0 (sym (append_assoc (frame_text word a) (flat_map (frame_text word) us) x) ∙ e ∙ append_assoc (frame_text word b) (flat_map (frame_text word) vs) y) in
      let more = script_same us vs x y p.1 q.1 r s one.1 in
      let first : a ≡ b = one.0 in
      let rest : us ≡ vs = more.0 in
      (cc, more.1)

  -- IV. Bytes that begin no frame

  pub begins_none : BeginsNoFrame word []
  begins_none body more small e = absurd (omega (arith, ap length (e ∙ frame_split body more), length-append (head_text word (length body)) (10 ∷ (body ++ 10 ∷ more))))

  module _ (line rest : List ℕ) (none : HasNoFeed line) where
    pub begins_line : HasNoSize word line → BeginsNoFrame word (line ++ 10 ∷ rest)
    begins_line other body more small e =
        let lines = line_split line (head_text word (length body)) rest (body ++ 10 ∷ more) none (head_no_feed (length body) small) (e ∙ frame_split body more) in
        other (length body) (record { head = lines.0; small = small })

    pub begins_long : 17 < length line → BeginsNoFrame word (line ++ rest)
    begins_long long body more small e =
        omega (arith, no_feed_within line rest (head_text word (length body)) (body ++ 10 ∷ more) none (e ∙ frame_split body more), head_length (length body) small)

  pub begins_cut : (part : List ℕ) → HasNoFeed part → BeginsNoFrame word part
  begins_cut part none body more small e =
      let whole : part ≡ head_text word (length body) ++ 10 ∷ (body ++ 10 ∷ more) = e ∙ frame_split body more in
      omega (arith, no_feed_within part [] (head_text word (length body)) (body ++ 10 ∷ more) none (append-nil part ∙ whole), ap length whole, length-append (head_text word (length body)) (10 ∷ (body ++ 10 ∷ more)))

  module _ (n : ℕ) (fits : n ≤ largest_body) where
    behind_line : (part body more : List ℕ) → length body ≤ largest_body → (head_text word n ++ 10 ∷ []) ++ part ≡ frame_text word body ++ more → (n ≡ length body) × (part ≡ body ++ 10 ∷ more)
    behind_line part body more small e =
        let lines = line_split (head_text word n) (head_text word (length body)) part (body ++ 10 ∷ more) (head_no_feed n fits) (head_no_feed (length body) small) (sym (append_assoc (head_text word n) (10 ∷ []) part) ∙ e ∙ frame_split body more) in
        (head_injective n (length body) fits small lines.0, lines.1)

    pub begins_short : (part : List ℕ) → length part ≤ n → BeginsNoFrame word ((head_text word n ++ 10 ∷ []) ++ part)
    begins_short part short body more small e =
        let lines = behind_line part body more small e in
        omega (arith, lines.0, ap length lines.1, length-append body (10 ∷ more))

    pub begins_open : (part rest : List ℕ) (b : ℕ) → length part ≡ n → (b ≡ 10 → ⊥) → BeginsNoFrame word ((head_text word n ++ 10 ∷ []) ++ (part ++ b ∷ rest))
    begins_open part rest b sized other body more small e =
        let lines = behind_line (part ++ b ∷ rest) body more small e in
        other ((same_place part body rest more b 10 (sized ∙ lines.0) lines.1).1)
