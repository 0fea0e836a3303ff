-- What one place of a conf does to what the places before it came to.
use Rattle.std.proofs.Common.{◌≡◌, ◌++◌, ◌+◌, ℕ, List, [], ◌∷◌, Bool, true, false, cond, Option, Some, None, Result, Ok, Err, refl, sym, ap, ◌∙◌, subst, length, length-append, nat_lt, arith}
use Rattle.std.specs.List.{flat_map}
use Rattle.std.proofs.lemmas.List.{append-nil, append_assoc}
use Rattle.conf_lex.specs.declared.perm.Perm.{Perm}
use Rattle.conf_lex.specs.declared.statement.Statement.{Statement}
use Rattle.conf_lex.specs.declared.statement.Statement.TheVariants as statement
use Rattle.conf_groups.specs.Groups.{with_item, with_items}
use Rattle.conf_groups.specs.declared.placed.Placed.{Placed}
use Rattle.conf_groups.specs.declared.placed.Placed.TheVariants as at
use Rattle.conf_groups.specs.declared.placed.PlacedLine.{PlacedLine}
use Rattle.refex.specs.declared.faults.Hole.TheVariants.{Creator, User}
use Rattle.refex.specs.declared.faults.RefexFault.{RefexFault}
use Rattle.rule_compile.specs.Patterns.{Patterns}
use Rattle.rule_compile.specs.Words.{expanded, is_unknown_vref, may_set, refex_texts, refexes_in, repo_of, unknown_at, unknown_repo, users_of}
use Rattle.rule_compile.specs.Flat.{◌>>=◌, Draft, Flat, State, Step, and_then, at_line, closed, compiled, dropped, for_words, in_block, keeping, line_rules, opened, option_line, placed_step, pushed, refexes_read, repo_line, rule_line, rule_of, rules_pushed, statement_step, unless_bad, unless_unknown, with_name, with_refex, with_refexes, with_rule, with_rules, with_text, with_texts, with_texts_of, with_words, warning_at, within, words_of}
use Rattle.rule_compile.specs.declared.fault.PolicyFault.{PolicyFault}
use Rattle.rule_compile.specs.declared.fault.RuleKind.{RuleKind}
use Rattle.rule_compile.specs.declared.fault.RuleKind.TheVariants.{BadRefex, TooManyRules, UnknownGroup, UnknownVref, RuleBeforeRepo}
use Rattle.rule_compile.specs.declared.limits.TheConstants.{MAX_RULES, MAX_PATTERNS}
use Rattle.rule_compile.specs.declared.rule.RepoWord.{RepoWord}
use Rattle.rule_compile.specs.declared.rule.RepoWord.TheVariants as repo
use Rattle.rule_compile.specs.declared.rule.Rule.{Rule}
use Rattle.rule_compile.specs.declared.rule.UserWord.{UserWord}
use Rattle.rule_compile.specs.declared.warning.Warning.{Warning}
use Rattle.rule_laws.proofs.WordLemmas.{kept, kept_append, words_for}

-- ---- results

bound : {A B : Type 0} (first : Step A) (next : A → Step B) (y : B) → (first >>= next) ≡ Ok y → (x : A) × (first ≡ Ok x) × (next x ≡ Ok y)
bound (Ok x) next y e = (x, refl, e)
bound (Err k) next y e = absurd (let bad : Err k ≡ Ok y = e in cc)

known : {A : Type 0} (o : Option (List ℕ)) (due : Step A) (y : A) → unless_unknown o due ≡ Ok y → (o ≡ None) × (due ≡ Ok y)
known None due y e = (refl, e)
known (Some w) due y e = absurd (let bad : Err (UnknownGroup w) ≡ Ok y = e in cc)

good : {A : Type 0} (text : List ℕ) (o : Option RefexFault) (x y : A) → unless_bad text o (Ok x) ≡ Ok y → x ≡ y
good text None x y e = let same : Ok x ≡ Ok y = e in cc
good text (Some f) x y e = absurd (let bad : Err (BadRefex text f) ≡ Ok y = e in cc)

done : {A : Type 0} {x y : A} → ◌≡◌ {A = Step A} (Ok x) (Ok y) → x ≡ y
done e = cc

chosen : {A : Type 0} (b : Bool) (k : RuleKind) (x y : A) → cond b (Err k) (Ok x) ≡ Ok y → x ≡ y
chosen true k x y e = absurd (let bad : Err k ≡ Ok y = e in cc)
chosen false k x y e = let same : Ok x ≡ Ok y = e in cc

stays_within : (s t : State) → within s ≡ Ok t → s ≡ t
stays_within s t e = chosen (nat_lt MAX_PATTERNS (length s.texts)) TooManyRules s t e

-- ---- `repo` lines

-- the names of the plain words
abbrev pub plains : List RepoWord → List (List ℕ)
plains [] = []
plains (repo.Plain name ∷ ws) = name ∷ plains ws
plains (repo.Pattern text ∷ ws) = plains ws
plains (repo.All ∷ ws) = plains ws

plains_append : (xs ys : List RepoWord) → plains (xs ++ ys) ≡ plains xs ++ plains ys
plains_append [] ys = refl
plains_append (repo.Plain name ∷ xs) ys = ap (λ (l : List (List ℕ)). name ∷ l) (plains_append xs ys)
plains_append (repo.Pattern text ∷ xs) ys = plains_append xs ys
plains_append (repo.All ∷ xs) ys = plains_append xs ys

items_append : (xs ys zs : List (List ℕ)) → with_items xs (ys ++ zs) ≡ with_items (with_items xs ys) zs
items_append xs [] zs = refl
items_append xs (y ∷ ys) zs = items_append (with_item xs y) ys zs

-- the words are added to a block, and the warnings to those before
record Reads (s t : State) (ws : List RepoWord) (ds : List Warning) : Type 0 where
  block : (bs : List RepoWord) → s.block ≡ Some bs → t.block ≡ Some (bs ++ ws)
  rules : t.flat.rules ≡ s.flat.rules
  plain : t.flat.plain ≡ with_items s.flat.plain (plains ws)
  options : t.flat.options ≡ s.flat.options
  warnings : t.flat.warnings ≡ s.flat.warnings ++ ds

reads_none : (s : State) → Reads s s [] []
reads_none s = record {
  block = λ bs e. e ∙ ap (λ (l : List RepoWord). Some l) (sym (append-nil bs));
  rules = refl;
  plain = refl;
  options = refl;
  warnings = sym (append-nil s.flat.warnings);
}

reads_then : (s m t : State) (xs ys : List RepoWord) (ds es : List Warning) → Reads s m xs ds → Reads m t ys es → Reads s t (xs ++ ys) (ds ++ es)
reads_then s m t xs ys ds es h g = record {
  block = λ bs e. g.block (bs ++ xs) (h.block bs e) ∙ ap (λ (l : List RepoWord). Some l) (append_assoc bs xs ys);
  rules = g.rules ∙ h.rules;
  plain = g.plain ∙ ap (λ (p : List (List ℕ)). with_items p (plains ys)) h.plain ∙ sym (ap (λ (p : List (List ℕ)). with_items s.flat.plain p) (plains_append xs ys) ∙ items_append s.flat.plain (plains xs) (plains ys));
  options = g.options ∙ h.options;
  warnings = g.warnings ∙ ap (λ (ws : List Warning). ws ++ es) h.warnings ∙ append_assoc s.flat.warnings ds es;
}

-- what a `repo` line does
pub record Opens (s t : State) (ws : List RepoWord) (ds : List Warning) : Type 0 where
  pub block : t.block ≡ Some ws
  pub rules : t.flat.rules ≡ s.flat.rules
  pub plain : t.flat.plain ≡ with_items s.flat.plain (plains ws)
  pub options : t.flat.options ≡ s.flat.options
  pub warnings : t.flat.warnings ≡ s.flat.warnings ++ ds

-- the warnings of texts that are dropped
abbrev pub warned : Patterns → List Placed → PlacedLine → List (List ℕ) → List Warning
warned ps placed l [] = []
warned ps placed l (t ∷ ts) = cond (may_set ps placed l.scope t) (warned ps placed l ts) (warning_at l t ∷ warned ps placed l ts)

-- those of a `repo` line
abbrev pub warnings_for : Patterns → List Placed → PlacedLine → List (List ℕ) → List Warning
warnings_for ps placed l words = warned ps placed l (flat_map (expanded placed l.scope) words)

module _ (ps : Patterns) (placed : List Placed) where
  warned_append : (l : PlacedLine) (ts us : List (List ℕ)) → warned ps placed l (ts ++ us) ≡ warned ps placed l ts ++ warned ps placed l us
  warned_append l [] us = refl
  warned_append l (t ∷ ts) us = ap (λ (ws : List Warning). cond (may_set ps placed l.scope t) ws (warning_at l t ∷ ws)) (warned_append l ts us) ∙ joined (may_set ps placed l.scope t)
    where
      joined : (b : Bool) → cond b (warned ps placed l ts ++ warned ps placed l us) (warning_at l t ∷ (warned ps placed l ts ++ warned ps placed l us))
          ≡ cond b (warned ps placed l ts) (warning_at l t ∷ warned ps placed l ts) ++ warned ps placed l us
      joined true = refl
      joined false = refl

  kept_reads : (w : RepoWord) (s t : State) → keeping ps w s ≡ Ok t → Reads s t (w ∷ []) []
  kept_reads (repo.Pattern text) s t e =
      subst (λ (u : State). Reads s u (repo.Pattern text ∷ []) []) (good text (ps.fault Creator text) _ t e)
      (record {
        block = λ bs e. ap (λ (b : Option (List RepoWord)). Some (words_of b ++ repo.Pattern text ∷ [])) e;
        rules = refl;
        plain = refl;
        options = refl;
        warnings = sym (append-nil s.flat.warnings);
      })
  kept_reads (repo.Plain name) s t e =
      let same : in_block (with_name s name) (repo.Plain name) ≡ t = done e in
      subst (λ (u : State). Reads s u (repo.Plain name ∷ []) []) same
      (record {
        block = λ bs e. ap (λ (b : Option (List RepoWord)). Some (words_of b ++ repo.Plain name ∷ [])) e;
        rules = refl;
        plain = refl;
        options = refl;
        warnings = sym (append-nil s.flat.warnings);
      })
  kept_reads repo.All s t e =
      subst (λ (u : State). Reads s u (repo.All ∷ []) []) (done e)
      (record {
        block = λ bs e. ap (λ (b : Option (List RepoWord)). Some (words_of b ++ repo.All ∷ [])) e;
        rules = refl;
        plain = refl;
        options = refl;
        warnings = sym (append-nil s.flat.warnings);
      })

  text_reads : (l : PlacedLine) (text : List ℕ) (more : List RepoWord) (ds : List Warning) (s m t : State) (b : Bool) → cond b (keeping ps (repo_of text) s) (Ok (dropped l text s)) ≡ Ok m
      → Reads m t more ds → Reads s t (cond b (repo_of text ∷ more) more) (cond b ds (warning_at l text ∷ ds))
  text_reads l text more ds s m t true e g = reads_then s m t (repo_of text ∷ []) more [] ds (kept_reads (repo_of text) s m e) g
  text_reads l text more ds s m t false e g =
      let same : dropped l text s ≡ m = done e in
      let h : Reads (dropped l text s) t more ds = subst (λ (u : State). Reads u t more ds) (sym same) g in
      record { block = h.block; rules = h.rules; plain = h.plain; options = h.options; warnings = h.warnings ∙ append_assoc s.flat.warnings (warning_at l text ∷ []) ds }

  texts_read : (l : PlacedLine) (texts : List (List ℕ)) (s t : State) → with_texts ps placed l texts s ≡ Ok t → Reads s t (kept ps placed l.scope texts) (warned ps placed l texts)
  texts_read l [] s t e = subst (λ (u : State). Reads s u [] []) (done e) (reads_none s)
  texts_read l (x ∷ xs) s t e =
      let b = bound (with_text ps placed l x s) (with_texts ps placed l xs) t e in
      text_reads l x (kept ps placed l.scope xs) (warned ps placed l xs) s b.0 t (may_set ps placed l.scope x) b.1 (texts_read l xs b.0 t b.2)

  words_read : (l : PlacedLine) (words : List (List ℕ)) (s t : State) → with_words ps placed l words s ≡ Ok t → Reads s t (words_for ps placed l.scope words) (warnings_for ps placed l words)
  words_read l [] s t e = subst (λ (u : State). Reads s u [] []) (done e) (reads_none s)
  words_read l (w ∷ ws) s t e =
      let b = bound (with_texts ps placed l (expanded placed l.scope w) s) (with_words ps placed l ws) t e in
      subst (λ (ds : List Warning). Reads s t (words_for ps placed l.scope (w ∷ ws)) ds) (sym (warned_append l (expanded placed l.scope w) (flat_map (expanded placed l.scope) ws)))
      (subst (λ (l' : List RepoWord). Reads s t l' (warned ps placed l (expanded placed l.scope w) ++ warnings_for ps placed l ws))
      (sym (kept_append ps placed l.scope (expanded placed l.scope w) (flat_map (expanded placed l.scope) ws)))
      (reads_then s b.0 t (kept ps placed l.scope (expanded placed l.scope w)) (words_for ps placed l.scope ws) (warned ps placed l (expanded placed l.scope w)) (warnings_for ps placed l ws)
      (texts_read l (expanded placed l.scope w) s b.0 b.1) (words_read l ws b.0 t b.2)))

  repo_opens : (l : PlacedLine) (words : List (List ℕ)) (s t : State) → repo_line ps placed l words s ≡ Ok t → Opens s t (words_for ps placed l.scope words) (warnings_for ps placed l words)
  repo_opens l words s t e =
      let b = bound (with_words ps placed l words (opened s)) within t (known (unknown_repo placed l.scope words) _ t e).1 in
      let h = words_read l words (opened s) b.0 b.1 in
      subst (λ (u : State). Opens s u (words_for ps placed l.scope words) (warnings_for ps placed l words)) (stays_within b.0 t b.2)
      (record { block = h.block [] refl; rules = h.rules; plain = h.plain; options = h.options; warnings = h.warnings })

-- ---- rules

-- the rules of drafts, from a number on
abbrev pub drafted : PlacedLine → Perm → ℕ → List Draft → List Rule
drafted l perm n [] = []
drafted l perm n (d ∷ ds) = rule_of l perm n d ∷ drafted l perm (n + 1) ds

next_pushed : (l : PlacedLine) (perm : Perm) (rules more : List Rule) (d : Draft) (ds : List Draft) (b : Bool)
    → cond b (pushed l perm (with_rule l perm rules d) ds) (Err TooManyRules) ≡ Ok more → pushed l perm (with_rule l perm rules d) ds ≡ Ok more
next_pushed l perm rules more d ds true e = e
next_pushed l perm rules more d ds false e = absurd (let bad : ◌≡◌ {A = Step (List Rule)} (Err TooManyRules) (Ok more) = e in cc)

pushed_are : (l : PlacedLine) (perm : Perm) (ds : List Draft) (rules more : List Rule) → pushed l perm rules ds ≡ Ok more → more ≡ rules ++ drafted l perm (length rules + 1) ds
pushed_are l perm [] rules more e = sym (done e) ∙ sym (append-nil rules)
pushed_are l perm (d ∷ ds) rules more e =
    pushed_are l perm ds (with_rule l perm rules d) more (next_pushed l perm rules more d ds (nat_lt (length rules) MAX_RULES) e)
    ∙ append_assoc rules (rule_of l perm (length rules + 1) d ∷ []) (drafted l perm (length (with_rule l perm rules d) + 1) ds)
    ∙ ap (λ (n : ℕ). rules ++ rule_of l perm (length rules + 1) d ∷ drafted l perm n ds) longer
  where
    longer : length (with_rule l perm rules d) + 1 ≡ length rules + 1 + 1
    longer = let long = length-append rules (rule_of l perm (length rules + 1) d ∷ []) in omega (arith, long)

-- what a rule line does
pub record Gives (placed : List Placed) (place : ℕ) (l : PlacedLine) (perm : Perm) (refexes users : List (List ℕ)) (s t : State) : Type 0 where
  pub words : List RepoWord
  pub block : s.block ≡ Some words
  pub same : t.block ≡ s.block
  pub plain : t.flat.plain ≡ s.flat.plain
  pub options : t.flat.options ≡ s.flat.options
  pub warnings : t.flat.warnings ≡ s.flat.warnings
  pub known : unknown_at placed place l.scope refexes ≡ None
  pub rules : t.flat.rules ≡ s.flat.rules ++ drafted l perm (length s.flat.rules + 1) (for_words words (refex_texts (refexes_in placed place l.scope refexes)) (users_of placed l.scope users))

-- what an option line does
pub record Sets (key value : List ℕ) (s t : State) : Type 0 where
  pub words : List RepoWord
  pub block : s.block ≡ Some words
  pub same : t.block ≡ s.block
  pub rules : t.flat.rules ≡ s.flat.rules
  pub plain : t.flat.plain ≡ s.flat.plain
  pub options : t.flat.options ≡ s.flat.options ++ record { repos = words; key = key; value = value } ∷ []
  pub warnings : t.flat.warnings ≡ s.flat.warnings

-- what all others do
pub record Keeps (s t : State) : Type 0 where
  pub block : t.block ≡ s.block
  pub rules : t.flat.rules ≡ s.flat.rules
  pub plain : t.flat.plain ≡ s.flat.plain
  pub options : t.flat.options ≡ s.flat.options
  pub warnings : t.flat.warnings ≡ s.flat.warnings

keeps_itself : (s : State) → Keeps s s
keeps_itself s = record { block = refl; rules = refl; plain = refl; options = refl; warnings = refl }

module _ (ps : Patterns) where
  refex_keeps : (text : List ℕ) (s t : State) (b : Bool)
      → cond b (Err (UnknownVref text)) (unless_bad text (ps.fault User text) (Ok (with_texts_of s (with_item s.texts text)))) ≡ Ok t → (s.block ≡ t.block) × (s.flat ≡ t.flat)
  refex_keeps text s t true e = absurd (let bad : Err (UnknownVref text) ≡ Ok t = e in cc)
  refex_keeps text s t false e = let same = good text (ps.fault User text) (with_texts_of s (with_item s.texts text)) t e in (ap (λ (u : State). u.block) same, ap (λ (u : State). u.flat) same)

  refexes_keep : (texts : List (List ℕ)) (s t : State) → with_refexes ps texts s ≡ Ok t → (s.block ≡ t.block) × (s.flat ≡ t.flat)
  refexes_keep [] s t e = let same : s ≡ t = done e in (ap (λ (u : State). u.block) same, ap (λ (u : State). u.flat) same)
  refexes_keep (x ∷ xs) s t e =
      let b = bound (with_refex ps x s) (with_refexes ps xs) t e in
      let first = refex_keeps x s b.0 (is_unknown_vref x) b.1 in
      let rest = refexes_keep xs b.0 t b.2 in
      (first.0 ∙ rest.0, first.1 ∙ rest.1)

  -- the rules of a line that is read, where the words of the block are these
  record Pushes (l : PlacedLine) (perm : Perm) (words : List RepoWord) (refexes : List (List ℕ)) (users : List UserWord) (s t : State) : Type 0 where
    same : t.block ≡ s.block
    plain : t.flat.plain ≡ s.flat.plain
    options : t.flat.options ≡ s.flat.options
    warnings : t.flat.warnings ≡ s.flat.warnings
    rules : t.flat.rules ≡ s.flat.rules ++ drafted l perm (length s.flat.rules + 1) (for_words words refexes users)

  rules_push : (l : PlacedLine) (perm : Perm) (refexes : List (List ℕ)) (users : List UserWord) (s t : State) → rules_pushed l perm refexes users s ≡ Ok t
      → Pushes l perm (words_of s.block) refexes users s t
  rules_push l perm refexes users s t e =
      let b = bound (pushed l perm s.flat.rules (for_words (words_of s.block) refexes users)) (λ rules. Ok (with_rules s rules)) t e in
      let same : with_rules s b.0 ≡ t = done b.2 in
      subst (λ (u : State). Pushes l perm (words_of s.block) refexes users s u) same
      (record { same = refl; plain = refl; options = refl; warnings = refl; rules = pushed_are l perm (for_words (words_of s.block) refexes users) s.flat.rules b.0 b.1 })

  line_pushes : (l : PlacedLine) (perm : Perm) (refexes : List (List ℕ)) (users : List UserWord) (words : List RepoWord) (s t : State) → s.block ≡ Some words
      → line_rules ps l perm refexes users s ≡ Ok t → Pushes l perm words refexes users s t
  line_pushes l perm refexes users words s t is e =
      let b = bound (refexes_read ps refexes s) (rules_pushed l perm refexes users) t e in
      let c = bound (with_refexes ps refexes s) within b.0 b.1 in
      let on = stays_within c.0 b.0 c.2 in
      let kept = refexes_keep refexes s c.0 c.1 in
      let block : s.block ≡ b.0.block = kept.0 ∙ ap (λ (u : State). u.block) on in
      let flat : s.flat ≡ b.0.flat = kept.1 ∙ ap (λ (u : State). u.flat) on in
      let h = rules_push l perm refexes users b.0 t b.2 in
      let words_are : words_of b.0.block ≡ words = ap words_of (sym block ∙ is) in
      record {
        same = h.same ∙ sym block;
        plain = h.plain ∙ ap (λ (f : Flat). f.plain) (sym flat);
        options = h.options ∙ ap (λ (f : Flat). f.options) (sym flat);
        warnings = h.warnings ∙ ap (λ (f : Flat). f.warnings) (sym flat);
        rules = h.rules ∙ ap (λ (f : Flat). f.rules ++ drafted l perm (length f.rules + 1) (for_words (words_of b.0.block) refexes users)) (sym flat)
            ∙ ap (λ (ws : List RepoWord). s.flat.rules ++ drafted l perm (length s.flat.rules + 1) (for_words ws refexes users)) words_are;
      }

  module _ (placed : List Placed) (place : ℕ) (l : PlacedLine) where
    rule_gives : (perm : Perm) (refexes users : List (List ℕ)) (block : Option (List RepoWord)) (s t : State) → s.block ≡ block
        → rule_line ps placed place l perm refexes users block s ≡ Ok t → Gives placed place l perm refexes users s t
    rule_gives perm refexes users None s t is e = absurd (let bad : Err RuleBeforeRepo ≡ Ok t = e in cc)
    rule_gives perm refexes users (Some words) s t is e =
        let first = known (unknown_at placed place l.scope refexes) _ t e in
        let second = known (unknown_at placed (length placed) l.scope users) _ t first.1 in
        let h = line_pushes l perm (refex_texts (refexes_in placed place l.scope refexes)) (users_of placed l.scope users) words s t is second.1 in
        record { words = words; block = is; same = h.same; plain = h.plain; options = h.options; warnings = h.warnings; known = first.0; rules = h.rules }

    option_sets : (key value : List ℕ) (block : Option (List RepoWord)) (s t : State) → s.block ≡ block → option_line key value block s ≡ Ok t → Sets key value s t
    option_sets key value None s t is e = absurd (let bad : Err RuleBeforeRepo ≡ Ok t = e in cc)
    option_sets key value (Some words) s t is e = subst (Sets key value s) (done e) (record { words = words; block = is; same = refl; rules = refl; plain = refl; options = refl; warnings = refl })

    -- ---- lines

    abbrev pub Effect : Statement → State → State → Type 0
    Effect (statement.Repo words) s t = Opens s t (words_for ps placed l.scope words) (warnings_for ps placed l words)
    Effect (statement.Rule perm refexes users) s t = Gives placed place l perm refexes users s t
    Effect (statement.Opt key value) s t = Sets key value s t
    Effect other s t = Keeps s t

    statement_does : (st : Statement) (s t : State) → statement_step ps placed place l st s ≡ Ok t → Effect st s t
    statement_does (statement.Repo words) s t e = repo_opens ps placed l words s t e
    statement_does (statement.Rule perm refexes users) s t e = rule_gives perm refexes users s.block s t refl e
    statement_does (statement.Group name members) s t e = subst (Keeps s) (done (known (unknown_at placed place l.scope members) _ t e).1) (keeps_itself s)
    statement_does (statement.Opt key value) s t e = option_sets key value s.block s t refl e
    statement_does statement.Blank s t e = subst (Keeps s) (done e) (keeps_itself s)
    statement_does (statement.Include pattern) s t e = subst (Keeps s) (done e) (keeps_itself s)
    statement_does (statement.Subconf pattern) s t e = subst (Keeps s) (done e) (keeps_itself s)
    statement_does statement.NoEffect s t e = subst (Keeps s) (done e) (keeps_itself s)

    line_step : (step : Step State) (t : State) → at_line l step ≡ Ok t → step ≡ Ok t
    line_step (Ok s) t e = let same : Ok s ≡ Ok t = e in cc
    line_step (Err k) t e = absurd (let bad : Err _ ≡ Ok t = e in cc)

    pub line_does : (s t : State) → placed_step ps placed place (at.Line l) s ≡ Ok t → Effect l.statement s t
    line_does s t e = statement_does l.statement s t (line_step (statement_step ps placed place l l.statement s) t e)

  -- ---- all places

  pub ends : (placed : List Placed) (place : ℕ) (s t : State) → placed_step ps placed place at.EndOfBlock s ≡ Ok t → closed s ≡ t
  ends placed place s t e = let same : Ok (closed s) ≡ Ok t = e in cc

  then_ok : (first : Result State PolicyFault) (next : State → Result Flat PolicyFault) (f : Flat) → and_then first next ≡ Ok f → (s : State) × (first ≡ Ok s) × (next s ≡ Ok f)
  then_ok (Ok s) next f e = (s, refl, e)
  then_ok (Err k) next f e = absurd (let bad : Err k ≡ Ok f = e in cc)

  -- What holds of the places so far and of what they came to, and is kept by one place more, holds of all
  -- places.
  module _ (placed : List Placed) (Holds : List Placed → State → Type 0)
      (step : (lines : List Placed) (p : Placed) (rest : List Placed) (s t : State) → placed ≡ lines ++ p ∷ rest → Holds lines s → placed_step ps placed (length lines) p s ≡ Ok t → Holds (lines ++ p ∷ []) t) where
    pub by_places : (rest lines : List Placed) (s : State) (f : Flat) → placed ≡ lines ++ rest → Holds lines s → compiled ps placed (length lines) rest s ≡ Ok f
        → (t : State) × Holds placed t × (t.flat ≡ f)
    by_places [] lines s f are h e =
        let same : Ok s.flat ≡ Ok f = e in
        let same_flat : s.flat ≡ f = cc in
        (s, subst (λ (ls : List Placed). Holds ls s) (sym (are ∙ append-nil lines)) h, same_flat)
    by_places (p ∷ rest) lines s f are h e =
        let b = then_ok (placed_step ps placed (length lines) p s) (compiled ps placed (length lines + 1) rest) f e in
        let long = length-append lines (p ∷ []) in
        let longer : length lines + 1 ≡ length (lines ++ p ∷ []) = omega (arith, long) in
        by_places rest (lines ++ p ∷ []) b.0 f (are ∙ sym (append_assoc lines (p ∷ []) rest)) (step lines p rest s b.0 are h b.1)
        (subst (λ (n : ℕ). compiled ps placed n rest b.0 ≡ Ok f) longer b.2)
