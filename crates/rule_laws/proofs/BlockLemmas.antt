-- The current block is the one that the lines end inside.
use Rattle.std.proofs.Common.{◌≡◌, ◌++◌, ℕ, List, [], ◌∷◌, true, false, Option, Some, None, ◌⊎◌, inl, inr, refl, sym, ap, ◌∙◌, subst}
use Rattle.std.specs.List.{list_all}
use Rattle.conf_lex.specs.declared.statement.Statement.TheVariants.{Repo}
use Rattle.conf_groups.specs.declared.placed.Placed.{Placed}
use Rattle.conf_groups.specs.declared.placed.Placed.TheVariants as at
use Rattle.conf_groups.specs.declared.placed.PlacedLine.{PlacedLine}
use Rattle.rule_compile.specs.Patterns.{Patterns}
use Rattle.rule_compile.specs.declared.rule.RepoWord.{RepoWord}
use Rattle.rule_laws.specs.Conf.{Block, goes_on, is_no_repo}
use Rattle.rule_laws.proofs.ListLemmas.{all_push, all_pushed, cut, cut_stays, nothing_at}
use Rattle.rule_laws.proofs.WordLemmas.{words_for}

pub same_line : {a b : PlacedLine} → at.Line a ≡ at.Line b → a ≡ b
same_line e = cc

pub no_end : {a : PlacedLine} → at.Line a ≡ at.EndOfBlock → ⊥
no_end e = cc

-- a block goes on
abbrev block_goes : (lines : List Placed) (p : Placed) → goes_on p ≡ true → Block lines → Block (lines ++ p ∷ [])
block_goes lines p on b = record {
  before = b.before;
  opening = b.opening;
  words = b.words;
  inner = b.inner ++ p ∷ [];
  are = cut_stays lines b.before (at.Line b.opening) b.inner p b.are;
  says = b.says;
  go_on = all_push goes_on b.inner p b.go_on on;
}

-- a block begins
abbrev block_begins : (lines : List Placed) (l : PlacedLine) (words : List (List ℕ)) → l.statement ≡ Repo words → Block (lines ++ at.Line l ∷ [])
block_begins lines l words says = record { before = lines; opening = l; words = words; inner = []; are = refl; says = says; go_on = refl }

-- a block whose last place is this one begins there, or was there before
module _ (lines : List Placed) (p : Placed) (b : Block (lines ++ p ∷ [])) where
  pub block_was : (at.Line b.opening ≡ p) ⊎ ((c : Block lines) × (c.opening ≡ b.opening) × (c.words ≡ b.words) × (goes_on p ≡ true))
  block_was =
      elim (cut lines p b.before (at.Line b.opening) b.inner b.are) [
        | inl (same, last, none) ↦ inl last
        | inr (inner, is, rest) ↦
            let on = all_pushed goes_on inner p (subst (λ (ls : List Placed). list_all goes_on ls ≡ true) rest b.go_on) in
            inr (record { before = b.before; opening = b.opening; words = b.words; inner = inner; are = is; says = b.says; go_on = on.0 }, refl, refl, on.1)
      ]

module _ (ps : Patterns) (placed : List Placed) where
  abbrev pub words_in : {lines : List Placed} → Block lines → List RepoWord
  words_in b = words_for ps placed b.opening.scope b.words

  -- a current block is one of the lines, and a block of the lines is current
  pub record BlockIs (lines : List Placed) (block : Option (List RepoWord)) : Type 0 where
    pub some : (ws : List RepoWord) → block ≡ Some ws → (b : Block lines) × (ws ≡ words_in b)
    pub is : (b : Block lines) → block ≡ Some (words_in b)

  pub no_block_first : BlockIs [] None
  no_block_first = record {
    some = λ ws e. absurd (let bad : None ≡ Some ws = e in cc);
    is = λ b. absurd (nothing_at b.before (at.Line b.opening) b.inner b.are);
  }

  pub no_block_behind : (lines : List Placed) → BlockIs (lines ++ at.EndOfBlock ∷ []) None
  no_block_behind lines = record {
    some = λ ws e. absurd (let bad : None ≡ Some ws = e in cc);
    is = λ b. elim (block_was lines at.EndOfBlock b) [
      | inl last ↦ absurd (no_end last)
      | inr (c, o, w, on) ↦ absurd (let bad : false ≡ true = on in cc)
    ];
  }

  pub block_opens : (lines : List Placed) (l : PlacedLine) (words : List (List ℕ)) (block : Option (List RepoWord)) → l.statement ≡ Repo words
      → block ≡ Some (words_for ps placed l.scope words) → BlockIs (lines ++ at.Line l ∷ []) block
  block_opens lines l words block says e = record {
    some = λ ws is. (block_begins lines l words says, let same : Some ws ≡ Some (words_for ps placed l.scope words) = sym is ∙ e in cc);
    is = λ b. elim (block_was lines (at.Line l) b) [
      | inl last ↦
          let line : b.opening ≡ l = same_line last in
          let said : Repo words ≡ Repo b.words = sym says ∙ ap (λ (m : PlacedLine). m.statement) (sym line) ∙ b.says in
          let words_are : words ≡ b.words = cc in
          e ∙ ap (λ (ws : List (List ℕ)). Some (words_for ps placed l.scope ws)) words_are ∙ ap (λ (m : PlacedLine). Some (words_for ps placed m.scope b.words)) (sym line)
      | inr (c, o, w, on) ↦
          let no : is_no_repo (Repo words) ≡ true = ap is_no_repo (sym says) ∙ on in
          absurd (let bad : false ≡ true = no in cc)
    ];
  }

  pub block_stays : (lines : List Placed) (l : PlacedLine) (before block : Option (List RepoWord)) → is_no_repo l.statement ≡ true → block ≡ before
      → BlockIs lines before → BlockIs (lines ++ at.Line l ∷ []) block
  block_stays lines l before block on same h = record {
    some = λ ws e. let found = h.some ws (sym same ∙ e) in (block_goes lines (at.Line l) on found.0, found.1);
    is = λ b. elim (block_was lines (at.Line l) b) [
      | inl last ↦
          let line : b.opening ≡ l = same_line last in
          let no : is_no_repo (Repo b.words) ≡ true = ap is_no_repo (sym b.says ∙ ap (λ (m : PlacedLine). m.statement) line) ∙ on in
          absurd (let bad : false ≡ true = no in cc)
      | inr (c, o, w, goes) ↦
          same ∙ h.is c ∙ ap (λ (ws : List (List ℕ)). Some (words_for ps placed c.opening.scope ws)) w ∙ ap (λ (m : PlacedLine). Some (words_for ps placed m.scope b.words)) o
    ];
  }
