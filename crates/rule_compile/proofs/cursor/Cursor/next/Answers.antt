use Rattle.std.proofs.Common.{◌≡◌, ◌+◌, ℕ, suc, List, ◌∷◌, drop, sym, ap, ◌∙◌, arith}
use Rattle.std.proofs.lemmas.List.{drop-drop}
use Rattle.rule_compile.specs.Covering.{is_all_word, is_pattern_word, is_plain_word, may_cover}
use Rattle.rule_compile.specs.Index.{numbers_from}
use Rattle.rule_compile.specs.Numbers.{after}
use Rattle.rule_compile.specs.declared.rule.RepoWord.{RepoWord}
use Rattle.rule_compile.proofs.NumberLemmas.{least_first_of, none_left, some_next}
use Rattle.rule_compile.proofs.cursor.Cursor.next.Goals as goal

pub returns-in-None-clause-goes : goal.returns-in-None-clause-goes
returns-in-None-clause-goes c = λ words name place h.
    let least : c.least-2.result ≡ least_first_of name (suc place) (drop place words) = rw (c.least.ensures, c.first.ensures, c.first-2.ensures, c.first-3.ensures, h.plain, h.all, h.patterns) at c.least-2.ensures in
    (none_left name (suc place) (drop place words) (sym c.in-None.is ∙ least), record { plain = h.plain; all = h.all; patterns = h.patterns })

pub returns-in-Some-clause-goes : goal.returns-in-Some-clause-goes
returns-in-Some-clause-goes c = λ words name place h.
    let least : c.least-2.result ≡ least_first_of name (suc place) (drop place words) = rw (c.least.ensures, c.first.ensures, c.first-2.ensures, c.first-3.ensures, h.plain, h.all, h.patterns) at c.least-2.ensures in
    let goes = some_next name (suc place) c.in-Some.number (drop place words) (sym c.in-Some.is ∙ least) in
    let n = c.in-Some.number in
    let come : drop (suc goes.far) (drop place words) ≡ drop n words = drop-drop (suc goes.far) place words ∙ ap (λ (m : ℕ). drop m words) (further place goes.far n goes.place) in (
      goes.first ∙ ap (λ (ws : List RepoWord). n ∷ numbers_from (may_cover name) (suc n) ws) come,
      record {
        plain = c.after-self.ensures ∙ ap (λ (ns : List ℕ). after ns n) h.plain ∙ goes.plain ∙ ap (λ (ws : List RepoWord). numbers_from (is_plain_word name) (suc n) ws) come;
        all = c.after-self-in-Some.ensures ∙ ap (λ (ns : List ℕ). after ns n) h.all ∙ goes.all ∙ ap (λ (ws : List RepoWord). numbers_from is_all_word (suc n) ws) come;
        patterns = c.after-self-in-Some-2.ensures ∙ ap (λ (ns : List ℕ). after ns n) h.patterns ∙ goes.patterns ∙ ap (λ (ws : List RepoWord). numbers_from is_pattern_word (suc n) ws) come;
      },
    )
  where
    further : (place far n : ℕ) → n ≡ suc place + far → place + suc far ≡ n
    further place far n e = omega (arith, e)
