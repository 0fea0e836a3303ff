-- The index, and what it is asked for.
use Rattle.std.proofs.Common.{◌≡◌, ◌++◌, ◌+◌, ◌-◌, ◌<◌, ◌≤◌, ◌&&◌, ◌||◌, ℕ, zero, suc, inl, inr, List, [], ◌∷◌, Bool, true, false, cond, Option, Some, None, refl, sym, ap, ◌∙◌, subst, length, drop, take, get_or, append_assoc, map, arith}
use Rattle.std.specs.Prelude.{codes, filter, slice_get}
use Rattle.std.specs.Option.{option_map, unwrap_or}
use Rattle.std.specs.Str.{bytes_eq}
use Rattle.std.specs.HashMap as hash
use Rattle.std.specs.HashMap.{HashMap}
use Rattle.std.specs.Cmp.Lexicographic.{bytes_decides}
use Rattle.std.proofs.lemmas.List.{map-append}
use Rattle.std.proofs.lemmas.Grind.{flat_map-append}
use Rattle.std.proofs.lemmas.List.{append-nil, drop-drop, get_or-drop, length-drop, take_more}
use Rattle.std.proofs.lemmas.Option.{get_or_from_slice_get, slice_get-map, slice_get_cases, slice_get_read, slice_get_within}
use Rattle.std.specs.List.{AllByRecursion, drop-map, last_or}
use Rattle.rule_compile.specs.Flat.{numbered}
use Rattle.rule_compile.specs.Patterns.{Patterns}
use Rattle.rule_compile.specs.Covering.{covers_repo, pattern_covers, is_all_word, is_in_force, is_on, is_pattern_word, is_plain_word, may_cover, numbers_of, rules_for, sets, some_covers}
use Rattle.rule_compile.specs.Index.{AreNumberedFrom, OptionWord, option_word, set_by, on_of_option, ons_of, word_of_option, words_of_option, option_words, option_words_of, last_on, numbers, numbers_at, numbers_from, or_nothing, pattern_text, with_number, word_of, words_of_rules}
use Rattle.rule_compile.specs.WordIndex.{Indexes}
use Rattle.rule_compile.specs.declared.rule.OptionLine.{OptionLine}
use Rattle.rule_compile.specs.declared.rule.RepoWord.{RepoWord}
use Rattle.rule_compile.specs.declared.rule.RepoWord.TheVariants as repo
use Rattle.rule_compile.specs.declared.rule.Rule.{Rule}
use Rattle.rule_compile.specs.declared.salt.Salt.{Salt}
use Rattle.rule_compile.specs.declared.word_index.WordIndex.{WordIndex}
use Rattle.rule_compile.proofs.NumberLemmas.{next_item, no_item, numbers_behind}

-- ---- numbers of rules

one_number : (b : Bool) (k seq : ℕ) (xs ys : List ℕ) → seq ≡ k → xs ≡ ys → cond b (k ∷ xs) xs ≡ cond b (seq ∷ ys) ys
one_number true k seq xs ys same e = rw (same, e)
one_number false k seq xs ys same e = e

-- rules that bear their numbers are numbered by their places
pub numbered_words : (test : RepoWord → Bool) (k : ℕ) (rules : List Rule) → AreNumberedFrom k rules → numbers_from test k (words_of_rules rules) ≡ numbers_of test rules
numbered_words test k [] h = refl
numbered_words test k (r ∷ rs) h = one_number (test r.repo) k r.seq _ _ h.0 (numbered_words test (suc k) rs h.1)

-- ---- the rules that may cover a name

pub skips_rule : (name : List ℕ) (r : Rule) (rs : List Rule) → may_cover name (word_of r) ≡ false → rules_for (r ∷ rs) name ≡ rules_for rs name
skips_rule name r rs e = ap (λ (b : Bool). cond b (r ∷ rules_for rs name) (rules_for rs name)) e

pub has_rule : (name : List ℕ) (r : Rule) (rs : List Rule) → may_cover name (word_of r) ≡ true → rules_for (r ∷ rs) name ≡ r ∷ rules_for rs name
has_rule name r rs e = ap (λ (b : Bool). cond b (r ∷ rules_for rs name) (rules_for rs name)) e

-- ---- an option

pub uncovered : (ps : Patterns) (w : RepoWord) (name : List ℕ) (creator : Option (List ℕ)) → may_cover name w ≡ false → covers_repo ps w name creator ≡ false
uncovered ps (repo.Plain plain) name creator e = e
uncovered ps repo.All name creator e = e
uncovered ps (repo.Pattern text) name creator e = absurd (let bad : true ≡ false = e in cc)

pub skips_word : (ps : Patterns) (name : List ℕ) (creator : Option (List ℕ)) (so_far : Bool) (d : OptionWord) (ds : List OptionWord) → may_cover name d.word ≡ false
    → last_on ps name creator so_far (d ∷ ds) ≡ last_on ps name creator so_far ds
skips_word ps name creator so_far d ds e = ap (λ (b : Bool). last_on ps name creator (cond b d.on so_far) ds) (uncovered ps d.word name creator e)

last_on-append : (ps : Patterns) (name : List ℕ) (creator : Option (List ℕ)) (xs ys : List OptionWord) (so_far : Bool)
    → last_on ps name creator so_far (xs ++ ys) ≡ last_on ps name creator (last_on ps name creator so_far xs) ys
last_on-append ps name creator [] ys so_far = refl
last_on-append ps name creator (x ∷ xs) ys so_far = last_on-append ps name creator xs ys (cond (covers_repo ps x.word name creator) x.on so_far)

one_or_more : (a b on so_far : Bool) → cond b on (cond a on so_far) ≡ cond (a || b) on so_far
one_or_more true true on so_far = refl
one_or_more true false on so_far = refl
one_or_more false true on so_far = refl
one_or_more false false on so_far = refl

-- the words of one line
of_words : (ps : Patterns) (name : List ℕ) (creator : Option (List ℕ)) (on : Bool) (ws : List RepoWord) (so_far : Bool)
    → last_on ps name creator so_far (map (option_word on) ws) ≡ cond (some_covers ps ws name creator) on so_far
of_words ps name creator on [] so_far = refl
of_words ps name creator on (w ∷ ws) so_far =
    of_words ps name creator on ws (cond (covers_repo ps w name creator) on so_far)
    ∙ one_or_more (covers_repo ps w name creator) (some_covers ps ws name creator) on so_far

of_line : (ps : Patterns) (name : List ℕ) (creator : Option (List ℕ)) (so_far b on : Bool) (ws : List RepoWord)
    → last_on ps name creator so_far (cond b (map (option_word on) ws) []) ≡ cond (b && some_covers ps ws name creator) on so_far
of_line ps name creator so_far true on ws = of_words ps name creator on ws so_far
of_line ps name creator so_far false on ws = refl

-- the last of some lines that set the option
abbrev last_set : Patterns → List ℕ → List ℕ → Option (List ℕ) → Option OptionLine → List OptionLine → Option OptionLine
last_set ps key name creator before lines = last_or before (filter (sets ps key name creator) lines)

one_line : (ps : Patterns) (key name : List ℕ) (creator : Option (List ℕ)) (l : OptionLine) (ls : List OptionLine) (before : Option OptionLine) (b : Bool)
    → ((o : Option OptionLine) → last_on ps name creator (is_on o) (option_words key ls) ≡ is_on (last_set ps key name creator o ls))
    → last_on ps name creator (cond b (bytes_eq l.value (codes "1")) (is_on before)) (option_words key ls)
    ≡ is_on (last_or before (cond b (l ∷ filter (sets ps key name creator) ls) (filter (sets ps key name creator) ls)))
one_line ps key name creator l ls before true rest = rest (Some l)
one_line ps key name creator l ls before false rest = rest before

of_lines : (ps : Patterns) (key name : List ℕ) (creator : Option (List ℕ)) (lines : List OptionLine) (before : Option OptionLine)
    → last_on ps name creator (is_on before) (option_words key lines) ≡ is_on (last_set ps key name creator before lines)
of_lines ps key name creator [] before = refl
of_lines ps key name creator (l ∷ ls) before =
    last_on-append ps name creator (option_words_of key l) (option_words key ls) (is_on before)
    ∙ ap (λ (b : Bool). last_on ps name creator b (option_words key ls)) (of_line ps name creator (is_on before) (bytes_eq l.key key) (bytes_eq l.value (codes "1")) l.repos)
    ∙ one_line ps key name creator l ls before (sets ps key name creator l) (of_lines ps key name creator ls)

-- what the words of all lines say is what the lines say
pub option_of_lines : (ps : Patterns) (key : List ℕ) (lines : List OptionLine) (name : List ℕ) (creator : Option (List ℕ)) → last_on ps name creator false (option_words key lines) ≡ is_in_force ps lines key name creator
option_of_lines ps key lines name creator = of_lines ps key name creator lines None

-- ---- one word more

pub one_word_more : (index more : WordIndex) (words : List RepoWord) (w : RepoWord) (n : ℕ) → Indexes index words → n ≡ suc (length words)
    → ((name : List ℕ) → numbers_at more.plain name ≡ with_number (numbers_at index.plain name) (is_plain_word name w) n)
    → more.all ≡ with_number index.all (is_all_word w) n
    → more.pattern_numbers ≡ with_number index.pattern_numbers (is_pattern_word w) n
    → more.patterns ≡ index.patterns ++ pattern_text w ∷ []
    → Indexes more (words ++ w ∷ [])
one_word_more index more words w n h next plain all patterns texts = record {
  plain = λ name. plain name ∙ ap (λ (ns : List ℕ). with_number ns (is_plain_word name w) n) (h.plain name) ∙ behind (is_plain_word name);
  all = all ∙ ap (λ (ns : List ℕ). with_number ns (is_all_word w) n) h.all ∙ behind is_all_word;
  pattern_numbers = patterns ∙ ap (λ (ns : List ℕ). with_number ns (is_pattern_word w) n) h.pattern_numbers ∙ behind is_pattern_word;
  patterns = texts ∙ ap (λ (os : List (Option (List ℕ))). os ++ pattern_text w ∷ []) h.patterns ∙ sym (map-append pattern_text words (w ∷ []));
} where
  counted : (k : ℕ) → suc k ≡ 1 + k
  counted k = omega arith

  behind : (test : RepoWord → Bool) → with_number (numbers test words) (test w) n ≡ numbers test (words ++ w ∷ [])
  behind test = ap (λ (m : ℕ). with_number (numbers test words) (test w) m) (next ∙ counted (length words)) ∙ sym (numbers_behind test 1 words w)

pub or_nothing_is : (o : Option (List ℕ)) → unwrap_or o [] ≡ or_nothing o
or_nothing_is None = refl
or_nothing_is (Some ns) = refl

-- a table after a name was taken out and put back with its numbers and one more
pub table_with : (old less more : HashMap (List ℕ) (List ℕ) Salt) (name copy : List ℕ) (numbers pushed : List ℕ) (n : ℕ)
    → hash.Updates bytes_eq old less name None → hash.Updates bytes_eq less more copy (Some pushed) → copy ≡ name
    → numbers ≡ numbers_at old name → pushed ≡ numbers ++ n ∷ [] → (other : List ℕ) → numbers_at more other ≡ with_number (numbers_at old other) (bytes_eq name other) n
table_with old less more name copy numbers pushed n out in_again same had push other =
    ap or_nothing (in_again.0 other ∙ ap (λ (k : List ℕ). cond (bytes_eq k other) (Some pushed) (hash.get bytes_eq less other)) same)
    ∙ ap (λ (o : Option (List ℕ)). or_nothing (cond (bytes_eq name other) (Some pushed) o)) (out.0 other)
    ∙ by_name (bytes_eq name other) refl
  where
    by_name : (b : Bool) → bytes_eq name other ≡ b → or_nothing (cond b (Some pushed) (cond b None (hash.get bytes_eq old other))) ≡ with_number (numbers_at old other) b n
    by_name true e = push ∙ ap (λ (ns : List ℕ). ns ++ n ∷ []) (had ∙ ap (numbers_at old) ((bytes_decides name other).0 e))
    by_name false e = refl

-- ---- places

pub no_gap : {X : Type 0} (xs : List X) (i : ℕ) → i < length xs → slice_get xs i ≡ None → ⊥
no_gap xs i within e = elim (slice_get_cases xs i).1 [
  | inl (x, lt, is, _) ↦ let bad : Some x ≡ None = sym is ∙ e in cc
  | inr (past, _) ↦ omega (arith, within, past)
]

before : (n : ℕ) → suc n - 1 ≡ n
before n = omega arith

-- the rule of a number is at the place before
pub rule_at : (rules : List Rule) (n : ℕ) (r : Rule) → numbered rules n ≡ Some r → slice_get rules (n - 1) ≡ Some r
rule_at rules zero r e = absurd (let bad : None ≡ Some r = e in cc)
rule_at rules (suc n) r e = ap (λ (k : ℕ). slice_get rules k) (before n) ∙ e

-- what is kept of each item, at a place
pub kept_at : {X Y : Type 0} (f : X → Y) (ys : List Y) (xs : List X) (place : ℕ) (x : X) → ys ≡ map f xs → slice_get xs place ≡ Some x → slice_get ys place ≡ Some (f x)
kept_at f ys xs place x e at_place = ap (λ (zs : List _). slice_get zs place) e ∙ slice_get-map f xs place ∙ ap (option_map f) at_place

pub pattern_covers_word : (ps : Patterns) (w : RepoWord) (text name : List ℕ) (creator : Option (List ℕ)) → Some text ≡ pattern_text w → pattern_covers ps text name creator ≡ covers_repo ps w name creator
pattern_covers_word ps (repo.Plain plain) text name creator e = absurd (let bad : Some text ≡ None = e in cc)
pattern_covers_word ps repo.All text name creator e = absurd (let bad : Some text ≡ None = e in cc)
pattern_covers_word ps (repo.Pattern own) text name creator e = let same : text ≡ own = cc in ap (λ (t : List ℕ). pattern_covers ps t name creator) same

pub other_covers : (ps : Patterns) (w : RepoWord) (name : List ℕ) (creator : Option (List ℕ)) → None ≡ pattern_text w → may_cover name w ≡ true → true ≡ covers_repo ps w name creator
other_covers ps (repo.Plain plain) name creator e may = sym may
other_covers ps repo.All name creator e may = refl
other_covers ps (repo.Pattern text) name creator e may = absurd (let bad : None ≡ Some text = e in cc)

-- ---- going through the words that set an option

drop_at : {X : Type 0} (n i : ℕ) (xs : List X) (x : X) → slice_get (drop n xs) i ≡ Some x → slice_get xs (n + i) ≡ Some x
drop_at n i xs x e =
    let within : i < length (drop n xs) = slice_get_within (drop n xs) i x e in
    slice_get_read xs (length xs) (n + i) x refl (further n i (length xs) (length (drop n xs)) (length-drop n xs) within)
    (sym (get_or_from_slice_get (drop n xs) i x x e) ∙ get_or-drop n xs i x)
  where
    further : (n i m k : ℕ) → k ≡ m - n → i < k → n + i < m
    further n i m k e h = omega (arith, e, h)

unwrapped : (b on so_far : Bool) → unwrap_or (cond b (Some on) None) so_far ≡ cond b on so_far
unwrapped true on so_far = refl
unwrapped false on so_far = refl

pub option_goes : (ps : Patterns) (ds : List OptionWord) (name : List ℕ) (creator : Option (List ℕ)) (so_far next : Bool) (place n : ℕ) (rest : List ℕ) (set : Option Bool)
    → numbers_from (may_cover name) (suc place) (drop place (words_of_option ds)) ≡ n ∷ rest
    → ((p : ℕ) → n ≡ suc p → (d : OptionWord) → slice_get ds p ≡ Some d → may_cover name d.word ≡ true → set ≡ set_by ps name creator d)
    → next ≡ unwrap_or set so_far → last_on ps name creator so_far (drop place ds) ≡ last_on ps name creator next (drop n ds)
option_goes ps ds name creator so_far next place n rest set e is result =
    let e_items : numbers_from (may_cover name) (suc place) (map word_of_option (drop place ds)) ≡ n ∷ rest = ap (λ (ws : List RepoWord). numbers_from (may_cover name) (suc place) ws) (sym (drop-map word_of_option place ds)) ∙ e in
    let item = next_item word_of_option (λ (xs : List OptionWord). last_on ps name creator so_far xs) name (λ d xs no. skips_word ps name creator so_far d xs no) (suc place) n (drop place ds) rest e_items in
    let value : next ≡ cond (covers_repo ps item.item.word name creator) item.item.on so_far =
    result
    ∙ ap (λ (o : Option Bool). unwrap_or o so_far) (is (place + item.far) (behind place item.far n item.place) item.item (drop_at place item.far ds item.item item.at) item.may)
    ∙ unwrapped (covers_repo ps item.item.word name creator) item.item.on so_far
    in
    let come : drop (suc item.far) (drop place ds) ≡ drop n ds = drop-drop (suc item.far) place ds ∙ ap (λ (m : ℕ). drop m ds) (further place item.far n item.place) in
    item.same ∙ ap (λ (xs : List OptionWord). last_on ps name creator (cond (covers_repo ps item.item.word name creator) item.item.on so_far) xs) come
    ∙ ap (λ (b : Bool). last_on ps name creator b (drop n ds)) (sym value)
  where
    behind : (place far n : ℕ) → n ≡ suc place + far → n ≡ suc (place + far)
    behind place far n e = omega (arith, e)

    further : (place far n : ℕ) → n ≡ suc place + far → place + suc far ≡ n
    further place far n e = omega (arith, e)

pub option_done : (ps : Patterns) (ds : List OptionWord) (name : List ℕ) (creator : Option (List ℕ)) (so_far : Bool) (place : ℕ)
    → numbers_from (may_cover name) (suc place) (drop place (words_of_option ds)) ≡ [] → last_on ps name creator so_far (drop place ds) ≡ so_far
option_done ps ds name creator so_far place e =
    no_item word_of_option (λ (xs : List OptionWord). last_on ps name creator so_far xs) name (λ d xs no. skips_word ps name creator so_far d xs no) (suc place) (drop place ds)
    (ap (λ (ws : List RepoWord). numbers_from (may_cover name) (suc place) ws) (sym (drop-map word_of_option place ds)) ∙ e)

-- the next rule that may cover a name is that of the next number
pub rules_go : (rules : List Rule) (name : List ℕ) (place n : ℕ) (rest : List ℕ) → numbers_from (may_cover name) (suc place) (drop place (words_of_rules rules)) ≡ n ∷ rest
    → (r : Rule) × (1 ≤ n) × (slice_get rules (n - 1) ≡ Some r) × (rules_for (drop place rules) name ≡ r ∷ rules_for (drop n rules) name)
rules_go rules name place n rest e =
    let e_items : numbers_from (may_cover name) (suc place) (map word_of (drop place rules)) ≡ n ∷ rest = ap (λ (ws : List RepoWord). numbers_from (may_cover name) (suc place) ws) (sym (drop-map word_of place rules)) ∙ e in
    let item = next_item word_of (λ (rs : List Rule). rules_for rs name) name (skips_rule name) (suc place) n (drop place rules) rest e_items in
    let come : drop (suc item.far) (drop place rules) ≡ drop n rules = drop-drop (suc item.far) place rules ∙ ap (λ (m : ℕ). drop m rules) (further place item.far n item.place) in (
      item.item,
      counted place item.far n item.place,
      ap (λ (k : ℕ). slice_get rules k) (behind place item.far n item.place) ∙ drop_at place item.far rules item.item item.at,
      item.same ∙ has_rule name item.item (drop (suc item.far) (drop place rules)) item.may ∙ ap (λ (rs : List Rule). item.item ∷ rules_for rs name) come,
    )
  where
    counted : (place far n : ℕ) → n ≡ suc place + far → 1 ≤ n
    counted place far n e = omega (arith, e)

    behind : (place far n : ℕ) → n ≡ suc place + far → n - 1 ≡ place + far
    behind place far n e = omega (arith, e)

    further : (place far n : ℕ) → n ≡ suc place + far → place + suc far ≡ n
    further place far n e = omega (arith, e)

pub rules_done : (rules : List Rule) (name : List ℕ) (place : ℕ) → numbers_from (may_cover name) (suc place) (drop place (words_of_rules rules)) ≡ [] → rules_for (drop place rules) name ≡ []
rules_done rules name place e =
    no_item word_of (λ (rs : List Rule). rules_for rs name) name (skips_rule name) (suc place) (drop place rules)
    (ap (λ (ws : List RepoWord). numbers_from (may_cover name) (suc place) ws) (sym (drop-map word_of place rules)) ∙ e)

-- ---- words that grow

pub option_with : (index more : WordIndex) (on on_more : List Bool) (ds : List OptionWord) (d : OptionWord) → Indexes index (words_of_option ds) → on ≡ ons_of ds
    → ((words : List RepoWord) → Indexes index words → Indexes more (words ++ d.word ∷ [])) → on_more ≡ on ++ d.on ∷ []
    → Indexes more (words_of_option (ds ++ d ∷ [])) × (on_more ≡ ons_of (ds ++ d ∷ []))
option_with index more on on_more ds d h same grown pushed = (
  subst (λ (ws : List RepoWord). Indexes more ws) (sym (map-append word_of_option ds (d ∷ []))) (grown (words_of_option ds) h),
  pushed ∙ ap (λ (bs : List Bool). bs ++ d.on ∷ []) same ∙ sym (map-append on_of_option ds (d ∷ [])),
)

pub all_at : {X : Type 0} (P : X → Type 0) (xs : List X) (i : ℕ) (d : X) → AllByRecursion P xs → i < length xs → P (get_or xs i d)
all_at P [] i d h lt = absurd (omega (arith, lt))
all_at P (x ∷ xs) zero d h lt = h.0
all_at P (x ∷ xs) (suc i) d h lt = all_at P xs i d h.1 (omega (arith, lt))

pub taken : {X : Type 0} (xs : List X) (i : ℕ) (x : X) → i < length xs → x ≡ get_or xs i x → take (i + 1) xs ≡ take i xs ++ x ∷ []
taken {X} xs i x lt is = take_more xs i x lt ∙ ap (λ (y : X). take i xs ++ y ∷ []) (sym is)

-- one item more of a list that is gone through
pub one_more_taken : {X Y : Type 0} (f : X → Y) (front : List Y) (xs : List X) (i : ℕ) (x : X) → i < length xs → x ≡ get_or xs i x
    → (front ++ map f (take i xs)) ++ f x ∷ [] ≡ front ++ map f (take (i + 1) xs)
one_more_taken {X} {Y} f front xs i x lt is =
    append_assoc front (map f (take i xs)) (f x ∷ [])
    ∙ ap (λ (ys : List Y). front ++ ys) (sym (map-append f (take i xs) (x ∷ [])) ∙ ap (λ (zs : List X). map f zs) (sym (taken xs i x lt is)))

pub no_rule : (r : Rule) → None ≡ Some r → ⊥
no_rule r e = cc

-- one option line more
pub option_words_behind : (key : List ℕ) (lines : List OptionLine) (line : OptionLine) → option_words key (lines ++ line ∷ []) ≡ option_words key lines ++ option_words_of key line
option_words_behind key lines line = flat_map-append (option_words_of key) lines (line ∷ []) ∙ ap (λ (ds : List OptionWord). option_words key lines ++ ds) (append-nil (option_words_of key line))

pub option_words_taken : (key : List ℕ) (lines : List OptionLine) (i : ℕ) (x : OptionLine) → i < length lines → x ≡ get_or lines i x
    → option_words key (take i lines) ++ option_words_of key x ≡ option_words key (take (i + 1) lines)
option_words_taken key lines i x lt is = sym (option_words_behind key (take i lines) x) ∙ ap (option_words key) (sym (taken lines i x lt is))

-- ---- rules that bear their numbers

numbered_from_at : (k : ℕ) (rules : List Rule) (i : ℕ) (r : Rule) → AreNumberedFrom k rules → slice_get rules i ≡ Some r → r.seq ≡ k + i
numbered_from_at k [] i r h e = absurd (let bad : None ≡ Some r = e in cc)
numbered_from_at k (x ∷ xs) zero r h e = let same : x ≡ r = cc in sym (ap (λ (q : Rule). q.seq) same) ∙ h.0 ∙ omega arith
numbered_from_at k (x ∷ xs) (suc i) r h e = numbered_from_at (suc k) xs i r h.1 e ∙ further k i where
  further : (k i : ℕ) → suc k + i ≡ k + suc i
  further k i = omega arith

-- the number of a rule leads back to it
pub leads_back : (rules : List Rule) (i : ℕ) (r : Rule) → AreNumberedFrom 1 rules → slice_get rules i ≡ Some r → numbered rules r.seq ≡ Some r
leads_back rules i r h e = ap (λ (n : ℕ). numbered rules n) (numbered_from_at 1 rules i r h e ∙ counted i) ∙ e where
  counted : (i : ℕ) → 1 + i ≡ suc i
  counted i = omega arith
