-- In what a conf comes to, rules bear their numbers and the texts of patterns are patterns.
use Rattle.std.proofs.Common.{◌≡◌, ◌++◌, ◌+◌, ℕ, suc, List, [], ◌∷◌, Bool, true, false, cond, Option, Some, None, Result, Ok, Err, refl, ◌∙◌, subst, length, nat_lt, arith}
use Rattle.std.specs.List.{AllByRecursion, flat_map}
use Rattle.conf_lex.specs.declared.perm.Perm.{Perm}
use Rattle.conf_lex.specs.declared.statement.Statement.{Statement}
use Rattle.conf_lex.specs.declared.statement.Statement.TheVariants as statement
use Rattle.conf_groups.specs.Groups.{with_item}
use Rattle.conf_groups.specs.declared.placed.Placed.{Placed}
use Rattle.conf_groups.specs.declared.placed.Placed.TheVariants as at
use Rattle.conf_groups.specs.declared.placed.PlacedLine.{PlacedLine}
use Rattle.refex.specs.declared.faults.Hole.TheVariants.{Creator, User}
use Rattle.refex.specs.declared.faults.RefexFault.{RefexFault}
use Rattle.rule_compile.specs.Answers.{GivesDraft, flat_of}
use Rattle.rule_compile.specs.Patterns.{AreTrue, Patterns}
use Rattle.rule_compile.specs.declared.draft.Draft as declared
use Rattle.std.specs.Prelude.{IfOk}
use Rattle.rule_compile.specs.Words.{expanded, is_unknown_vref, may_set, refex_texts, refexes_in, repo_of, unknown_at, unknown_repo, users_of}
use Rattle.rule_compile.specs.Flat.{◌>>=◌, Draft, Flat, State, Step, and_then, at_line, closed, compiled, compiled_all, dropped, for_refexes, for_users, for_words, in_block, keeping, line_rules, nothing, opened, option_line, placed_step, pushed, refexes_read, repo_line, rule_line, rule_of, rules_pushed, statement_step, unless_bad, unless_unknown, with_refex, with_name, with_refexes, with_rule, with_rules, with_text, with_texts, with_texts_of, with_words, within, words_of}
use Rattle.rule_compile.specs.Index.{AreNumberedFrom}
use Rattle.rule_compile.specs.Sound.{AreSoundWords, IsRefexText, IsSound, IsSoundOption, IsSoundRule, IsSoundWord}
use Rattle.rule_compile.specs.declared.fault.PolicyFault.{PolicyFault}
use Rattle.rule_compile.specs.declared.fault.RuleKind.{RuleKind}
use Rattle.rule_compile.specs.declared.fault.RuleKind.TheVariants.{BadRefex, TooManyRules, UnknownGroup, UnknownVref, RuleBeforeRepo}
use Rattle.rule_compile.specs.declared.limits.TheConstants.{MAX_RULES, MAX_PATTERNS}
use Rattle.rule_compile.specs.declared.rule.RepoWord.{RepoWord}
use Rattle.rule_compile.specs.declared.rule.RepoWord.TheVariants as repo
use Rattle.rule_compile.specs.declared.rule.Rule.{Rule}
use Rattle.rule_compile.specs.declared.rule.UserWord.{UserWord}

-- ---- lists

pub all_behind : {X : Type 0} (P : X → Type 0) (xs ys : List X) → AllByRecursion P xs → AllByRecursion P ys → AllByRecursion P (xs ++ ys)
all_behind P [] ys h g = g
all_behind P (x ∷ xs) ys h g = (h.0, all_behind P xs ys h.1 g)

pub one_behind : {X : Type 0} (P : X → Type 0) (xs : List X) (x : X) → AllByRecursion P xs → P x → AllByRecursion P (xs ++ x ∷ [])
one_behind P xs x h p = all_behind P xs (x ∷ []) h (p, tt)

all_flat : {X Y : Type 0} (P : X → Type 0) (Q : Y → Type 0) (f : X → List Y) (xs : List X) → ((x : X) → P x → AllByRecursion Q (f x)) → AllByRecursion P xs → AllByRecursion Q (flat_map f xs)
all_flat P Q f [] h all = tt
all_flat P Q f (x ∷ xs) h all = all_behind Q (f x) (flat_map f xs) (h x all.0) (all_flat P Q f xs h all.1)

-- ---- results

-- a second step that is done comes behind a first that is
bound : {A B : Type 0} (first : Step A) (next : A → Step B) (y : B) → (first >>= next) ≡ Ok y → (x : A) × (first ≡ Ok x) × (next x ≡ Ok y)
bound (Ok x) next y e = (x, refl, e)
bound (Err k) next y e = absurd (let bad : Err k ≡ Ok y = e in cc)

known : {A : Type 0} (o : Option (List ℕ)) (due : Step A) (y : A) → unless_unknown o due ≡ Ok y → due ≡ Ok y
known None due y e = e
known (Some w) due y e = absurd (let bad : Err (UnknownGroup w) ≡ Ok y = e in cc)

good : {A : Type 0} (text : List ℕ) (o : Option RefexFault) (x y : A) → unless_bad text o (Ok x) ≡ Ok y → (o ≡ None) × (x ≡ y)
good text None x y e = (refl, let same : Ok x ≡ Ok y = e in cc)
good text (Some f) x y e = absurd (let bad : Err (BadRefex text f) ≡ Ok y = e in cc)

done : {A : Type 0} {x y : A} → ◌≡◌ {A = Step A} (Ok x) (Ok y) → x ≡ y
done e = cc

chosen : {A : Type 0} (b : Bool) (k : RuleKind) (x y : A) → cond b (Err k) (Ok x) ≡ Ok y → x ≡ y
chosen true k x y e = absurd (let bad : Err k ≡ Ok y = e in cc)
chosen false k x y e = let same : Ok x ≡ Ok y = e in cc

-- ---- states

abbrev IsSoundBlock : Option (List RepoWord) → Type 0
IsSoundBlock None = Unit {0}
IsSoundBlock (Some words) = AreSoundWords words

record IsSoundState (s : State) : Type 0 where
  flat : IsSound s.flat
  block : IsSoundBlock s.block

words_are_sound : (block : Option (List RepoWord)) → IsSoundBlock block → AreSoundWords (words_of block)
words_are_sound None h = tt
words_are_sound (Some words) h = h

module _ (ps : Patterns) (ok : AreTrue ps) where
  -- a word more
  in_block_is_sound : (s : State) (w : RepoWord) → IsSoundState s → IsSoundWord w → IsSoundState (in_block s w)
  in_block_is_sound s w h g = record { flat = h.flat; block = one_behind IsSoundWord (words_of s.block) w (words_are_sound s.block h.block) g }

  kept_is_sound : (w : RepoWord) (s t : State) → IsSoundState s → keeping ps w s ≡ Ok t → IsSoundState t
  kept_is_sound (repo.Pattern text) s t h e =
      let g = good text (ps.fault Creator text) _ t e in
      subst IsSoundState g.1 (record { flat = record { numbered = h.flat.numbered; rules = h.flat.rules; options = h.flat.options }; block = one_behind IsSoundWord (words_of s.block) (repo.Pattern text) (words_are_sound s.block h.block) (ok.sound Creator text g.0) })
  kept_is_sound (repo.Plain name) s t h e =
      let same : in_block (with_name s name) (repo.Plain name) ≡ t = done e in
      subst IsSoundState same (record { flat = record { numbered = h.flat.numbered; rules = h.flat.rules; options = h.flat.options }; block = one_behind IsSoundWord (words_of s.block) (repo.Plain name) (words_are_sound s.block h.block) tt })
  kept_is_sound repo.All s t h e = subst IsSoundState (done e) (in_block_is_sound s repo.All h tt)

  text_is_sound : (placed : List Placed) (l : PlacedLine) (text : List ℕ) (s t : State) (b : Bool) → IsSoundState s
      → cond b (keeping ps (repo_of text) s) (Ok (dropped l text s)) ≡ Ok t → IsSoundState t
  text_is_sound placed l text s t true h e = kept_is_sound (repo_of text) s t h e
  text_is_sound placed l text s t false h e =
      subst IsSoundState (done e) (record { flat = record { numbered = h.flat.numbered; rules = h.flat.rules; options = h.flat.options }; block = h.block })

  texts_are_sound : (placed : List Placed) (l : PlacedLine) (texts : List (List ℕ)) (s t : State) → IsSoundState s → with_texts ps placed l texts s ≡ Ok t → IsSoundState t
  texts_are_sound placed l [] s t h e = subst IsSoundState (done e) h
  texts_are_sound placed l (x ∷ xs) s t h e =
      let b = bound (with_text ps placed l x s) (with_texts ps placed l xs) t e in
      texts_are_sound placed l xs b.0 t (text_is_sound placed l x s b.0 (may_set ps placed l.scope x) h b.1) b.2

  words_are_read : (placed : List Placed) (l : PlacedLine) (words : List (List ℕ)) (s t : State) → IsSoundState s → with_words ps placed l words s ≡ Ok t → IsSoundState t
  words_are_read placed l [] s t h e = subst IsSoundState (done e) h
  words_are_read placed l (w ∷ ws) s t h e =
      let b = bound (with_texts ps placed l (expanded placed l.scope w) s) (with_words ps placed l ws) t e in
      words_are_read placed l ws b.0 t (texts_are_sound placed l (expanded placed l.scope w) s b.0 h b.1) b.2

  stays_within : (s t : State) → within s ≡ Ok t → s ≡ t
  stays_within s t e = chosen (nat_lt MAX_PATTERNS (length s.texts)) TooManyRules s t e

  repo_is_sound : (placed : List Placed) (l : PlacedLine) (words : List (List ℕ)) (s t : State) → IsSoundState s → repo_line ps placed l words s ≡ Ok t → IsSoundState t
  repo_is_sound placed l words s t h e =
      let b = bound (with_words ps placed l words (opened s)) within t (known (unknown_repo placed l.scope words) _ t e) in
      subst IsSoundState (stays_within b.0 t b.2) (words_are_read placed l words (opened s) b.0 (record { flat = h.flat; block = tt }) b.1)

  -- ---- rules

  abbrev AreRefexes : List (List ℕ) → Type 0
  AreRefexes texts = AllByRecursion (IsRefexText User) texts

  refex_is_read : (text : List ℕ) (s t : State) (b : Bool) → IsSoundState s
      → cond b (Err (UnknownVref text)) (unless_bad text (ps.fault User text) (Ok (with_texts_of s (with_item s.texts text)))) ≡ Ok t → IsSoundState t × IsRefexText User text
  refex_is_read text s t true h e = absurd (let bad : Err (UnknownVref text) ≡ Ok t = e in cc)
  refex_is_read text s t false h e =
      let g = good text (ps.fault User text) _ t e in
      (subst IsSoundState g.1 (record { flat = h.flat; block = h.block }), ok.sound User text g.0)

  refexes_are_read : (texts : List (List ℕ)) (s t : State) → IsSoundState s → with_refexes ps texts s ≡ Ok t → IsSoundState t × AreRefexes texts
  refexes_are_read [] s t h e = (subst IsSoundState (done e) h, tt)
  refexes_are_read (x ∷ xs) s t h e =
      let b = bound (with_refex ps x s) (with_refexes ps xs) t e in
      let first = refex_is_read x s b.0 (is_unknown_vref x) h b.1 in
      let rest = refexes_are_read xs b.0 t first.0 b.2 in
      (rest.0, (first.1, rest.1))

  abbrev IsSoundDraft : Draft → Type 0
  IsSoundDraft d = IsSoundWord d.repo × IsRefexText User d.refex

  users_are_sound : (word : RepoWord) (refex : List ℕ) (users : List UserWord) → IsSoundWord word → IsRefexText User refex → AllByRecursion IsSoundDraft (for_users word refex users)
  users_are_sound word refex [] w r = tt
  users_are_sound word refex (u ∷ us) w r = ((w, r), users_are_sound word refex us w r)

  drafts_are_sound : (words : List RepoWord) (refexes : List (List ℕ)) (users : List UserWord) → AreSoundWords words → AreRefexes refexes → AllByRecursion IsSoundDraft (for_words words refexes users)
  drafts_are_sound words refexes users ws rs =
      all_flat IsSoundWord IsSoundDraft (λ word. for_refexes word refexes users) words
      (λ word w. all_flat (IsRefexText User) IsSoundDraft (λ refex. for_users word refex users) refexes (λ refex r. users_are_sound word refex users w r) rs) ws

  numbered_behind : (k : ℕ) (rules : List Rule) (r : Rule) → AreNumberedFrom k rules → r.seq ≡ k + length rules → AreNumberedFrom k (rules ++ r ∷ [])
  numbered_behind k [] r h e = (e ∙ omega arith, tt)
  numbered_behind k (x ∷ xs) r h e = (h.0, numbered_behind (suc k) xs r h.1 (e ∙ further k (length xs))) where
    further : (k n : ℕ) → k + suc n ≡ suc k + n
    further k n = omega arith

  abbrev AreSoundRules : List Rule → Type 0
  AreSoundRules rules = AreNumberedFrom 1 rules × AllByRecursion IsSoundRule rules

  one_is_pushed : (l : PlacedLine) (perm : Perm) (rules : List Rule) (d : Draft) → AreSoundRules rules → IsSoundDraft d → AreSoundRules (with_rule l perm rules d)
  one_is_pushed l perm rules d h g =
      (numbered_behind 1 rules (rule_of l perm (length rules + 1) d) h.0 (omega arith), one_behind IsSoundRule rules (rule_of l perm (length rules + 1) d) h.1 (g.0, g.1))

  next_are_sound : (l : PlacedLine) (perm : Perm) (rules more : List Rule) (d : Draft) (ds : List Draft) (b : Bool) → (pushed l perm (with_rule l perm rules d) ds ≡ Ok more → AreSoundRules more)
      → cond b (pushed l perm (with_rule l perm rules d) ds) (Err TooManyRules) ≡ Ok more → AreSoundRules more
  next_are_sound l perm rules more d ds true on e = on e
  next_are_sound l perm rules more d ds false on e = absurd (let bad : ◌≡◌ {A = Step (List Rule)} (Err TooManyRules) (Ok more) = e in cc)

  pushed_are_sound : (l : PlacedLine) (perm : Perm) (ds : List Draft) (rules more : List Rule) → AreSoundRules rules → AllByRecursion IsSoundDraft ds → pushed l perm rules ds ≡ Ok more → AreSoundRules more
  pushed_are_sound l perm [] rules more h g e = subst AreSoundRules (done e) h
  pushed_are_sound l perm (d ∷ ds) rules more h g e =
      next_are_sound l perm rules more d ds (nat_lt (length rules) MAX_RULES) (λ on. pushed_are_sound l perm ds (with_rule l perm rules d) more (one_is_pushed l perm rules d h g.0) g.1 on) e

  rules_are_sound : (l : PlacedLine) (perm : Perm) (refexes : List (List ℕ)) (users : List UserWord) (s t : State) → IsSoundState s → AreRefexes refexes
      → rules_pushed l perm refexes users s ≡ Ok t → IsSoundState t
  rules_are_sound l perm refexes users s t h g e =
      let b = bound (pushed l perm s.flat.rules (for_words (words_of s.block) refexes users)) (λ rules. Ok (with_rules s rules)) t e in
      let all = pushed_are_sound l perm (for_words (words_of s.block) refexes users) s.flat.rules b.0 (h.flat.numbered, h.flat.rules) (drafts_are_sound (words_of s.block) refexes users (words_are_sound s.block h.block) g) b.1 in
      subst IsSoundState (done b.2) (record { flat = record { numbered = all.0; rules = all.1; options = h.flat.options }; block = h.block })

  line_is_sound : (l : PlacedLine) (perm : Perm) (refexes : List (List ℕ)) (users : List UserWord) (s t : State) → IsSoundState s → line_rules ps l perm refexes users s ≡ Ok t → IsSoundState t
  line_is_sound l perm refexes users s t h e =
      let b = bound (refexes_read ps refexes s) (rules_pushed l perm refexes users) t e in
      let c = bound (with_refexes ps refexes s) within b.0 b.1 in
      let r = refexes_are_read refexes s c.0 h c.1 in
      rules_are_sound l perm refexes users b.0 t (subst IsSoundState (stays_within c.0 b.0 c.2) r.0) r.1 b.2

  rule_is_sound : (placed : List Placed) (place : ℕ) (l : PlacedLine) (perm : Perm) (refexes users : List (List ℕ)) (block : Option (List RepoWord)) (s t : State) → IsSoundState s
      → rule_line ps placed place l perm refexes users block s ≡ Ok t → IsSoundState t
  rule_is_sound placed place l perm refexes users None s t h e = absurd (let bad : Err RuleBeforeRepo ≡ Ok t = e in cc)
  rule_is_sound placed place l perm refexes users (Some words) s t h e =
      line_is_sound l perm (refex_texts (refexes_in placed place l.scope refexes)) (users_of placed l.scope users) s t h (known (unknown_at placed (length placed) l.scope users) _ t (known (unknown_at placed place l.scope refexes) _ t e))

  option_is_sound : (key value : List ℕ) (block : Option (List RepoWord)) (s t : State) → IsSoundState s → IsSoundBlock block → option_line key value block s ≡ Ok t → IsSoundState t
  option_is_sound key value None s t h g e = absurd (let bad : Err RuleBeforeRepo ≡ Ok t = e in cc)
  option_is_sound key value (Some words) s t h g e =
      subst IsSoundState (done e) (record {
        flat = record { numbered = h.flat.numbered; rules = h.flat.rules; options = one_behind IsSoundOption s.flat.options (record { repos = words; key = key; value = value }) h.flat.options g };
        block = h.block;
      })

  -- ---- lines

  statement_is_sound : (placed : List Placed) (place : ℕ) (l : PlacedLine) (st : Statement) (s t : State) → IsSoundState s → statement_step ps placed place l st s ≡ Ok t → IsSoundState t
  statement_is_sound placed place l (statement.Repo words) s t h e = repo_is_sound placed l words s t h e
  statement_is_sound placed place l (statement.Rule perm refexes users) s t h e = rule_is_sound placed place l perm refexes users s.block s t h e
  statement_is_sound placed place l (statement.Group name members) s t h e = subst IsSoundState (done (known (unknown_at placed place l.scope members) _ t e)) h
  statement_is_sound placed place l (statement.Opt key value) s t h e = option_is_sound key value s.block s t h h.block e
  statement_is_sound placed place l statement.Blank s t h e = subst IsSoundState (done e) h
  statement_is_sound placed place l (statement.Include pattern) s t h e = subst IsSoundState (done e) h
  statement_is_sound placed place l (statement.Subconf pattern) s t h e = subst IsSoundState (done e) h
  statement_is_sound placed place l statement.NoEffect s t h e = subst IsSoundState (done e) h

  line_step : (l : PlacedLine) (step : Step State) (t : State) → at_line l step ≡ Ok t → step ≡ Ok t
  line_step l (Ok s) t e = let same : Ok s ≡ Ok t = e in cc
  line_step l (Err k) t e = absurd (let bad : Err _ ≡ Ok t = e in cc)

  place_is_sound : (placed : List Placed) (place : ℕ) (p : Placed) (s t : State) → IsSoundState s → placed_step ps placed place p s ≡ Ok t → IsSoundState t
  place_is_sound placed place at.EndOfBlock s t h e =
      let same : Ok (closed s) ≡ Ok t = e in
      let same_state : closed s ≡ t = cc in
      subst IsSoundState same_state (record { flat = h.flat; block = tt })
  place_is_sound placed place (at.Line l) s t h e = statement_is_sound placed place l l.statement s t h (line_step l _ t e)

  then_ok : (first : Result State PolicyFault) (next : State → Result Flat PolicyFault) (f : Flat) → and_then first next ≡ Ok f → (s : State) × (first ≡ Ok s) × (next s ≡ Ok f)
  then_ok (Ok s) next f e = (s, refl, e)
  then_ok (Err k) next f e = absurd (let bad : Err k ≡ Ok f = e in cc)

  lines_are_sound : (placed : List Placed) (place : ℕ) (rest : List Placed) (s : State) (f : Flat) → IsSoundState s → compiled ps placed place rest s ≡ Ok f → IsSound f
  lines_are_sound placed place [] s f h e = let same : Ok s.flat ≡ Ok f = e in let same_flat : s.flat ≡ f = cc in subst IsSound same_flat h.flat
  lines_are_sound placed place (p ∷ rest) s f h e =
      let b = then_ok (placed_step ps placed place p s) (compiled ps placed (place + 1) rest) f e in
      lines_are_sound placed (place + 1) rest b.0 f (place_is_sound placed place p s b.0 h b.1) b.2

  pub conf_is_sound : (placed : List Placed) (f : Flat) → compiled_all ps placed ≡ Ok f → IsSound f
  conf_is_sound placed f e = lines_are_sound placed 0 placed nothing f (record { flat = record { numbered = tt; rules = tt; options = tt }; block = tt }) e

  pub given_is_sound : (placed : List Placed) (r : Result declared.Draft PolicyFault) → GivesDraft r (compiled_all ps placed) → IfOk r (λ d. IsSound (flat_of d))
  given_is_sound placed (Ok d) g = conf_is_sound placed (flat_of d) g
  given_is_sound placed (Err e) g = tt
