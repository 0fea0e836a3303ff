-- Rules come in the order of lines.
use Rattle.std.proofs.Common.{◌≡◌, ◌++◌, ◌+◌, ◌<◌, ◌≤◌, ℕ, zero, suc, List, [], ◌∷◌, Bool, true, false, cond, length, Contains, Option, Some, None, Result, Ok, Err, ◌⊎◌, inl, inr, refl, sym, ap, ◌∙◌, subst, arith, length-append, le_refl}
use Rattle.std.specs.Prelude.{slice_get}
use Rattle.std.specs.Str.{bytes_eq}
use Rattle.std.specs.FinMap as named
use Rattle.std.specs.Cmp.Lexicographic.{nat_list_eq_equiv}
use Rattle.std.proofs.lemmas.Bool.{cases_eq, cases_lt}
use Rattle.std.proofs.lemmas.List.{append_assoc}
use Rattle.std.proofs.lemmas.List.Elements.{Contains-append_cases}
use Rattle.conf_lex.specs.Statements.{statement}
use Rattle.conf_lex.specs.declared.fault.LexFault.{LexFault}
use Rattle.conf_lex.specs.declared.perm.Perm.{Perm}
use Rattle.conf_lex.specs.declared.statement.Statement.{Statement}
use Rattle.conf_groups.specs.Files.{by_name}
use Rattle.conf_groups.specs.Laws.{ArePlacedOnce, is_of, lines_from_file, numbered, placed_as}
use Rattle.conf_groups.specs.Lines.{lines_of}
use Rattle.conf_groups.specs.Splicing.{spliced}
use Rattle.conf_groups.specs.declared.conf_file.ConfFile.{ConfFile}
use Rattle.conf_groups.specs.declared.placed.Placed.{Placed}
use Rattle.conf_groups.specs.declared.placed.Placed.TheVariants as at
use Rattle.conf_groups.specs.declared.placed.PlacedLine.{PlacedLine}
use Rattle.conf_groups.specs.declared.placed.Scope.{Scope}
use Rattle.conf_groups.proofs.OnceLemmas.{each_file_once}
use Rattle.rule_compile.specs.Flat.{Draft, rule_of}
use Rattle.rule_compile.specs.Index.{AreNumberedFrom}
use Rattle.rule_compile.specs.declared.rule.Rule.{Rule}
use Rattle.rule_laws.specs.Conf.{IsAt, IsBehind}
use Rattle.rule_laws.proofs.BlockLemmas.{same_line}
use Rattle.rule_laws.proofs.ListLemmas.{first_or_rest, head_of, here, in_none, nothing_at, tail_of, there}
use Rattle.rule_laws.proofs.RuleLemmas.{in_drafted}
use Rattle.rule_laws.proofs.StepLemmas.{drafted}

-- ---- the lines of a file ascend

mine_append : (name : List ℕ) (xs ys : List Placed) → lines_from_file name (xs ++ ys) ≡ lines_from_file name xs ++ lines_from_file name ys
mine_append name [] ys = refl
mine_append name (x ∷ xs) ys = ap (λ (l : List Placed). cond (is_of name x) (x ∷ l) l) (mine_append name xs ys) ∙ joined (is_of name x) x (lines_from_file name xs) (lines_from_file name ys)
  where
    joined : (b : Bool) (x : Placed) (us vs : List Placed) → cond b (x ∷ (us ++ vs)) (us ++ vs) ≡ cond b (x ∷ us) us ++ vs
    joined true x us vs = refl
    joined false x us vs = refl

-- a line of the file among others
mine_at : (name : List ℕ) (before : List Placed) (l : PlacedLine) (after : List Placed) → bytes_eq l.file name ≡ true
    → lines_from_file name (before ++ at.Line l ∷ after) ≡ lines_from_file name before ++ at.Line l ∷ lines_from_file name after
mine_at name before l after is =
    mine_append name before (at.Line l ∷ after)
    ∙ ap (λ (b : Bool). lines_from_file name before ++ cond b (at.Line l ∷ lines_from_file name after) (lines_from_file name after)) is

-- what is behind a line of numbered lines is numbered on from it
module _ (scope : Scope) (file : List ℕ) where
  abbrev On : ℕ → List Placed → Type 0
  On n lines = (texts : List (List ℕ)) × (lines ≡ numbered scope file n texts)

  abbrev line_of : ℕ → Statement → PlacedLine
  line_of n said = record { scope = scope; file = file; line = n; statement = said }

  line_at : (n : ℕ) (said : Result Statement LexFault) (texts : List (List ℕ)) (us : List Placed) (a : PlacedLine) (vs : List Placed)
      → ((us : List Placed) → numbered scope file (n + 1) texts ≡ us ++ at.Line a ∷ vs → (n + 1 ≤ a.line) × On (a.line + 1) vs)
      → placed_as scope file n said ++ numbered scope file (n + 1) texts ≡ us ++ at.Line a ∷ vs → (n ≤ a.line) × On (a.line + 1) vs
  line_at n (Err f) texts us a vs on e = let found = on us e in (omega (arith, found.0), found.1)
  line_at n (Ok said) texts [] a vs on e =
      let line : line_of n said ≡ a = same_line (head_of e) in
      let number : n ≡ a.line = ap (λ (m : PlacedLine). m.line) line in
      (omega (arith, number), (texts, sym (tail_of e) ∙ ap (λ (k : ℕ). numbered scope file (k + 1) texts) number))
  line_at n (Ok said) texts (u ∷ us) a vs on e = let found = on us (tail_of e) in (omega (arith, found.0), found.1)

  behind_number : (texts : List (List ℕ)) (n : ℕ) (us : List Placed) (a : PlacedLine) (vs : List Placed) → numbered scope file n texts ≡ us ++ at.Line a ∷ vs → (n ≤ a.line) × On (a.line + 1) vs
  behind_number [] n us a vs e = absurd (nothing_at us (at.Line a) vs e)
  behind_number (text ∷ texts) n us a vs e = line_at n (statement text) texts us a vs (λ us' e'. behind_number texts (n + 1) us' a vs e') e

in_one_file : (name : List ℕ) (found : Option (List ℕ)) (us : List Placed) (a b : PlacedLine) (vs ws : List Placed)
    → ArePlacedOnce name found (us ++ at.Line a ∷ (vs ++ at.Line b ∷ ws)) → a.line < b.line
in_one_file name None us a b vs ws h = absurd (nothing_at us (at.Line a) (vs ++ at.Line b ∷ ws) (sym h))
in_one_file name (Some content) us a b vs ws (inl none) = absurd (nothing_at us (at.Line a) (vs ++ at.Line b ∷ ws) (sym none))
in_one_file name (Some content) us a b vs ws (inr (scope, are)) =
    let first = behind_number scope name (lines_of content) 1 us a (vs ++ at.Line b ∷ ws) (sym are) in
    let second = behind_number scope name first.1.0 (a.line + 1) vs b ws (sym first.1.1) in
    omega (arith, second.0)

pub lines_ascend : (files : List ConfFile) (placed before : List Placed) (a : PlacedLine) (between : List Placed) (b : PlacedLine) (after : List Placed) → spliced files ≡ Ok placed
    → placed ≡ before ++ at.Line a ∷ (between ++ at.Line b ∷ after) → a.file ≡ b.file → a.line < b.line
lines_ascend files placed before a between b after is are same =
    let name_a : bytes_eq a.file b.file ≡ true = subst (λ (f : List ℕ). bytes_eq a.file f ≡ true) same (nat_list_eq_equiv.refl a.file) in
    let name_b : bytes_eq b.file b.file ≡ true = nat_list_eq_equiv.refl b.file in
    let mine : lines_from_file b.file placed ≡ lines_from_file b.file before ++ at.Line a ∷ (lines_from_file b.file between ++ at.Line b ∷ lines_from_file b.file after) =
    ap (lines_from_file b.file) are
    ∙ mine_at b.file before a (between ++ at.Line b ∷ after) name_a
    ∙ ap (λ (ls : List Placed). lines_from_file b.file before ++ at.Line a ∷ ls) (mine_at b.file between b after name_b) in
    in_one_file b.file (named.get (by_name files) b.file) (lines_from_file b.file before) a b (lines_from_file b.file between) (lines_from_file b.file after)
    (subst (λ (ls : List Placed). ArePlacedOnce b.file (named.get (by_name files) b.file) ls) mine (each_file_once.once files b.file placed is))

-- ---- places

-- two cuts of one list are one, or one of them is in front of the other
two_cuts : {X : Type 0} (x : List X) (p : X) (u y : List X) (q : X) (v : List X) → x ++ p ∷ u ≡ y ++ q ∷ v
    → (x ≡ y) ⊎ (((w : List X) × (y ≡ x ++ p ∷ w)) ⊎ ((w : List X) × (x ≡ y ++ q ∷ w)))
two_cuts [] p u [] q v e = inl refl
two_cuts {X} [] p u (b ∷ y) q v e = inr (inl (y, ap (λ (z : X). z ∷ y) (sym (head_of e))))
two_cuts {X} (a ∷ x) p u [] q v e = inr (inr (x, ap (λ (z : X). z ∷ x) (head_of e)))
two_cuts {X} (a ∷ x) p u (b ∷ y) q v e =
    elim (two_cuts x p u y q v (tail_of e)) [
      | inl same ↦ inl (ap (λ (z : X). z ∷ x) (head_of e) ∙ ap (λ (l : List X). b ∷ l) same)
      | inr (inl (w, is)) ↦ inr (inl (w, ap (λ (l : List X). b ∷ l) is ∙ ap (λ (z : X). z ∷ (x ++ p ∷ w)) (sym (head_of e))))
      | inr (inr (w, is)) ↦ inr (inr (w, ap (λ (z : X). z ∷ x) (head_of e) ∙ ap (λ (l : List X). b ∷ l) is))
    ]

-- where a cut is in front of another, fewer items are before it
fewer : {X : Type 0} (x : List X) (p : X) (w y : List X) → y ≡ x ++ p ∷ w → length x < length y
fewer x p w y e = let long = length-append x (p ∷ w) in let same : length y ≡ length (x ++ p ∷ w) = ap length e in omega (arith, long, same)

-- ---- rules in order

module _ (files : List ConfFile) (placed : List Placed) (is : spliced files ≡ Ok placed) where
  in_front : (x : List Placed) (m : PlacedLine) (y : List Placed) (n : PlacedLine) (v w : List Placed) → placed ≡ y ++ at.Line n ∷ v → y ≡ x ++ at.Line m ∷ w → m.file ≡ n.file → m.line < n.line
  in_front x m y n v w behind at_front same =
      lines_ascend files placed x m w n v is (behind ∙ ap (λ (ls : List Placed). ls ++ at.Line n ∷ v) at_front ∙ append_assoc x (at.Line m ∷ w) (at.Line n ∷ v)) same

  -- no two lines have one file and one number
  one_place : (x y : List Placed) (m n : PlacedLine) → IsBehind placed x m → IsBehind placed y n → m.file ≡ n.file → m.line ≡ n.line → length x ≡ length y
  one_place x y m n (u, e) (v, f) file number =
      elim (two_cuts x (at.Line m) u y (at.Line n) v (sym e ∙ f)) [
        | inl same ↦ ap length same
        | inr (inl (w, at_front)) ↦ let less = in_front x m y n v w f at_front file in absurd (omega (arith, less, number))
        | inr (inr (w, at_front)) ↦ let less = in_front y n x m u w e at_front (sym file) in absurd (omega (arith, less, number))
      ]

  -- wherever the two rules are from, the first is of the same line or of an earlier one
  abbrev pub NotAfter : Rule → Rule → Type 0
  NotAfter a b = (x y : List Placed) (m n : PlacedLine) → IsBehind placed x m → IsBehind placed y n → IsAt a m → IsAt b n → length x ≤ length y

  abbrev pub Ordered : List Rule → Type 0
  Ordered [] = Unit {0}
  Ordered (r ∷ rs) = ((b : Rule) → Contains rs b → NotAfter r b) × Ordered rs

  pub ordered_append : (xs ys : List Rule) → Ordered xs → Ordered ys → ((a b : Rule) → Contains xs a → Contains ys b → NotAfter a b) → Ordered (xs ++ ys)
  ordered_append [] ys h g f = g
  ordered_append (x ∷ xs) ys h g f = (
    λ b c. elim (Contains-append_cases xs ys b c) [
      | inl old ↦ h.0 b old
      | inr new ↦ f x b (here x xs) new
    ],
    ordered_append xs ys h.1 g (λ a b c d. f a b (there x xs a c) d),
  )

  -- a rule of a line, and one of a line that isn't before it
  pub not_after : (x y : List Placed) (m n : PlacedLine) (a b : Rule) → IsBehind placed x m → IsBehind placed y n → IsAt a m → IsAt b n → length x ≤ length y → NotAfter a b
  not_after x y m n a b behind_m behind_n at_m at_n le x' y' m' n' behind_m' behind_n' at_m' at_n' =
      let first = one_place x' x m' m behind_m' behind_m (sym at_m'.0 ∙ at_m.0) (sym at_m'.1 ∙ at_m.1) in
      let second = one_place y' y n' n behind_n' behind_n (sym at_n'.0 ∙ at_n.0) (sym at_n'.1 ∙ at_n.1) in
      omega (arith, first, second, le)

  -- the rules of one line
  module _ (l : PlacedLine) (perm : Perm) where
    pub of_line : (n : ℕ) (ds : List Draft) (r : Rule) → Contains (drafted l perm n ds) r → IsAt r l
    of_line n ds r c = let found = in_drafted l perm n ds r c in (ap (λ (x : Rule). x.file) (sym found.3), ap (λ (x : Rule). x.line) (sym found.3))

    pub drafted_ordered : (lines : List Placed) → IsBehind placed lines l → (n : ℕ) (ds : List Draft) → Ordered (drafted l perm n ds)
    drafted_ordered lines behind n [] = tt
    drafted_ordered lines behind n (d ∷ ds) =
        (λ b c. not_after lines lines l l (rule_of l perm n d) b behind behind (refl, refl) (of_line (n + 1) ds b c) (le_refl (length lines)), drafted_ordered lines behind (n + 1) ds)

-- ---- numbers

pub number_at : (n : ℕ) (rules : List Rule) (i : ℕ) (r : Rule) → AreNumberedFrom n rules → slice_get rules i ≡ Some r → r.seq ≡ n + i
number_at n [] i r h e = absurd (let bad : None ≡ Some r = e in cc)
number_at n (x ∷ xs) zero r h e =
    let same : x ≡ r = cc in
    let number : r.seq ≡ n = ap (λ (y : Rule). y.seq) (sym same) ∙ h.0 in
    omega (arith, number)
number_at n (x ∷ xs) (suc i) r h e = let rest = number_at (suc n) xs i r h.1 e in omega (arith, rest)

at_least : (n : ℕ) (rules : List Rule) (r : Rule) → AreNumberedFrom n rules → Contains rules r → n ≤ r.seq
at_least n [] r h c = absurd (in_none r c)
at_least n (x ∷ xs) r h c =
    elim (first_or_rest x xs r c) [
      | inl same ↦ let number : n ≡ r.seq = sym h.0 ∙ ap (λ (y : Rule). y.seq) same in omega (arith, number)
      | inr rest ↦ let more = at_least (suc n) xs r h.1 rest in omega (arith, more)
    ]

one_number : (n : ℕ) (rules : List Rule) (a b : Rule) → AreNumberedFrom n rules → Contains rules a → Contains rules b → a.seq ≡ b.seq → a ≡ b
one_number n [] a b h c d same = absurd (in_none a c)
one_number n (x ∷ xs) a b h c d same =
    elim (first_or_rest x xs a c) [
      | inl first ↦ elim (first_or_rest x xs b d) [
        | inl second ↦ sym first ∙ second
        | inr later ↦
            let number : a.seq ≡ n = ap (λ (y : Rule). y.seq) (sym first) ∙ h.0 in
            let more = at_least (suc n) xs b h.1 later in
            absurd (omega (arith, number, more, same))
      ]
      | inr rest ↦ elim (first_or_rest x xs b d) [
        | inl second ↦
            let number : b.seq ≡ n = ap (λ (y : Rule). y.seq) (sym second) ∙ h.0 in
            let more = at_least (suc n) xs a h.1 rest in
            absurd (omega (arith, number, more, same))
        | inr later ↦ one_number (suc n) xs a b h.1 rest later same
      ]
    ]

module _ (files : List ConfFile) (placed : List Placed) (is : spliced files ≡ Ok placed) where
  in_order : (n : ℕ) (rules : List Rule) (a b : Rule) → AreNumberedFrom n rules → Ordered files placed is rules → Contains rules a → Contains rules b → a.seq < b.seq → NotAfter files placed is a b
  in_order n [] a b h g c d less = absurd (in_none a c)
  in_order n (x ∷ xs) a b h g c d less =
      elim (first_or_rest x xs a c) [
        | inl first ↦ elim (first_or_rest x xs b d) [
          | inl same ↦ let number : a.seq ≡ b.seq = ap (λ (y : Rule). y.seq) (sym first ∙ same) in absurd (omega (arith, number, less))
          | inr later ↦ subst (λ (y : Rule). NotAfter files placed is y b) first (g.0 b later)
        ]
        | inr rest ↦ elim (first_or_rest x xs b d) [
          | inl same ↦
              let number : n ≡ b.seq = sym h.0 ∙ ap (λ (y : Rule). y.seq) same in
              let more = at_least (suc n) xs a h.1 rest in
              absurd (omega (arith, number, more, less))
          | inr later ↦ in_order (suc n) xs a b h.1 g.1 rest later less
        ]
      ]

  -- rules of two lines
  pub lines_in_order : (rules : List Rule) (before between after : List Placed) (m n : PlacedLine) (a b : Rule) → AreNumberedFrom 1 rules → Ordered files placed is rules
      → placed ≡ before ++ at.Line m ∷ (between ++ at.Line n ∷ after) → Contains rules a → Contains rules b → IsAt a m → IsAt b n → a.seq < b.seq
  lines_in_order rules before between after m n a b h g are c d at_m at_n =
      elim (cases_lt a.seq b.seq) [
        | inl less ↦ less
        | inr le ↦ elim (cases_eq a.seq b.seq) [
          | inl same ↦
              let one = one_number 1 rules a b h c d same in
              let file : m.file ≡ n.file = sym at_m.0 ∙ ap (λ (r : Rule). r.file) one ∙ at_n.0 in
              let number : m.line ≡ n.line = sym at_m.1 ∙ ap (λ (r : Rule). r.line) one ∙ at_n.1 in
              let less = lines_ascend files placed before m between n after is are file in
              absurd (omega (arith, less, number))
          | inr apart ↦
              let less : b.seq < a.seq = omega (arith, le, apart) in
              let second : placed ≡ (before ++ at.Line m ∷ between) ++ at.Line n ∷ after = are ∙ sym (append_assoc before (at.Line m ∷ between) (at.Line n ∷ after)) in
              let back = in_order 1 rules b a h g d c less (before ++ at.Line m ∷ between) before n m (after, second) (between ++ at.Line n ∷ after, are) at_n at_m in
              let more = fewer before (at.Line m) between (before ++ at.Line m ∷ between) refl in
              absurd (omega (arith, back, more))
        ]
      ]

  -- rules of one file
  pub never_back : (rules : List Rule) (x y : List Placed) (m n : PlacedLine) (a b : Rule) → AreNumberedFrom 1 rules → Ordered files placed is rules → IsBehind placed x m → IsBehind placed y n
      → Contains rules a → Contains rules b → IsAt a m → IsAt b n → a.file ≡ b.file → a.seq < b.seq → a.line ≤ b.line
  never_back rules x y m n a b h g (u, e) (v, f) c d at_m at_n same less =
      let file : m.file ≡ n.file = sym at_m.0 ∙ same ∙ at_n.0 in
      let number_m = at_m.1 in
      let number_n = at_n.1 in
      let le = in_order 1 rules a b h g c d less x y m n (u, e) (v, f) at_m at_n in
      elim (two_cuts x (at.Line m) u y (at.Line n) v (sym e ∙ f)) [
        | inl one ↦
            let both : x ++ at.Line m ∷ u ≡ x ++ at.Line n ∷ v = sym e ∙ f ∙ ap (λ (ls : List Placed). ls ++ at.Line n ∷ v) (sym one) in
            let line : m ≡ n = same_line (head_of (behind_front x both)) in
            let number : m.line ≡ n.line = ap (λ (l : PlacedLine). l.line) line in
            omega (arith, number, number_m, number_n)
        | inr (inl (w, at_front)) ↦ let lines = in_front files placed is x m y n v w f at_front file in omega (arith, lines, number_m, number_n)
        | inr (inr (w, at_front)) ↦ let more = fewer y (at.Line n) w x at_front in absurd (omega (arith, more, le))
      ]
    where
      behind_front : (ls : List Placed) {p q : List Placed} → ls ++ p ≡ ls ++ q → p ≡ q
      behind_front [] e = e
      behind_front (x ∷ ls) e = behind_front ls (tail_of e)
