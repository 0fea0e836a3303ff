-- Options that declare roles, by the roles' names.
use Rattle.std.proofs.Common.{◌≡◌, ℕ, Bool, true, false, cond, ◌&&◌, ◌||◌, List, [], ◌∷◌, ◌++◌, Option, Some, None, refl, sym, ap, ◌∙◌, subst}
use Rattle.std.proofs.lemmas.Bool.{and_left, and_right, and_parts, both_ways}
use Rattle.std.proofs.lemmas.List.{append-nil}
use Rattle.std.specs.Prelude.{IfOk, Result, Ok, Err, codes, filter, Vec}
use Rattle.std.specs.List.{last_or, list_any}
use Rattle.std.specs.Str.{bytes_eq}
use Rattle.std.specs.BTreeMap.{BTreeMap, IsEmpty, insert_entry}
use Rattle.std.specs.Map.{lookup, remove_entry}
use Rattle.std.specs.declared.cmp.Ordering.{Ordering}
use Rattle.std.specs.declared.cmp.Ordering.TheVariants.{Less, Equal, Greater}
use Rattle.std.specs.Ordering.{is_eq, match_ordering, nat_cmp}
use Rattle.std.specs.Cmp.Lexicographic.{bytes_decides, nat_list_eq_equiv, slice_cmp, texts_ties}
use Rattle.conf_groups.proofs.DistinctLemmas.{holds_push}
use Rattle.conf_groups.specs.Groups.{holds}
use Rattle.rule_compile.specs.Covering.{is_in_force, is_on, sets, some_covers}
use Rattle.rule_compile.specs.Index.{OptionWord, last_on, option_words, words_of_line}
use Rattle.rule_compile.specs.OptionWords.{IsOption}
use Rattle.rule_compile.specs.Patterns.{Patterns}
use Rattle.rule_compile.specs.RoleOptions.{AreRoles, IsKept, PutsAt, kept_at, role_words}
use Rattle.rule_compile.specs.Roles.{declares, is_common_role, is_mentioned, is_role_name, role_key}
use Rattle.rule_compile.specs.declared.option_words.OptionWords.{OptionWords}
use Rattle.rule_compile.specs.declared.role_options.RoleOptions.{RoleOptions}
use Rattle.rule_compile.specs.declared.rule.OptionLine.{OptionLine}
use Rattle.rule_compile.proofs.IndexLemmas.{option_of_lines, option_words_behind}

same_bytes : (a b : List ℕ) → bytes_eq a b ≡ true → a ≡ b
same_bytes a b = (bytes_decides a b).0

equal_bytes : (a b : List ℕ) → a ≡ b → bytes_eq a b ≡ true
equal_bytes a b = (bytes_decides a b).1

-- ---- a table by names

abbrev name_cmp : {A : Type 0} → Vec ℕ A → Vec ℕ A → Ordering
name_cmp a b = slice_cmp nat_cmp a.items b.items

abbrev at_word : {A : Type 0} → List ℕ → Vec ℕ A → Bool
at_word word name = is_eq (slice_cmp nat_cmp word name.items)

at_bytes : {A : Type 0} (word : List ℕ) (name : Vec ℕ A) → at_word word name ≡ bytes_eq name.items word
at_bytes word name = sym (texts_ties word name.items) ∙ nat_list_eq_equiv.symm word name.items

over : {X : Type 0} (b : Bool) (v w : X) (o : Option X) → cond b (Some v) o ≡ cond b (Some v) (cond b (Some w) o)
over true v w o = refl
over false v w o = refl

swapped : {X : Type 0} (a b : Bool) (v w : X) (o : Option X) → (a ≡ true → b ≡ true → ⊥) → cond a (Some w) (cond b (Some v) o) ≡ cond b (Some v) (cond a (Some w) o)
swapped true true v w o apart = absurd (apart refl refl)
swapped true false v w o apart = refl
swapped false true v w o apart = refl
swapped false false v w o apart = refl

greater_apart : (a b : List ℕ) → slice_cmp nat_cmp a b ≡ Greater → a ≡ b → ⊥
greater_apart a b e same = both_ways (bytes_eq a b) (texts_ties a b ∙ ap is_eq e) (equal_bytes a b same)

placed : {A X : Type 0} (word : List ℕ) (x : Vec ℕ A × X) (name : Vec ℕ A) (v : X) (es more : List (Vec ℕ A × X)) (o : Ordering) → name_cmp name x.0 ≡ o
    → lookup (at_word word) more ≡ cond (at_word word name) (Some v) (lookup (at_word word) es)
    → lookup (at_word word) (match_ordering o ((name, v) ∷ x ∷ es) ((x.0, v) ∷ es) (x ∷ more)) ≡ cond (at_word word name) (Some v) (lookup (at_word word) (x ∷ es))
placed word x name v es more Less e h = refl
placed word x name v es more Equal e h =
    let same : name.items ≡ x.0.items = same_bytes name.items x.0.items (texts_ties name.items x.0.items ∙ ap is_eq e) in
    over (at_word word x.0) v x.1 (lookup (at_word word) es)
    ∙ ap (λ (items : List ℕ). cond (is_eq (slice_cmp nat_cmp word items)) (Some v) (cond (at_word word x.0) (Some x.1) (lookup (at_word word) es))) (sym same)
placed word x name v es more Greater e h =
    ap (λ (o : Option _). cond (at_word word x.0) (Some x.1) o) h
    ∙ swapped (at_word word x.0) (at_word word name) v x.1 (lookup (at_word word) es)
    (λ at_x at_name. greater_apart name.items x.0.items e
    (same_bytes name.items word (sym (at_bytes word name) ∙ at_name) ∙ sym (same_bytes x.0.items word (sym (at_bytes word x.0) ∙ at_x))))

inserted : {A X : Type 0} (word : List ℕ) (name : Vec ℕ A) (v : X) (es : List (Vec ℕ A × X)) → lookup (at_word word) (insert_entry name_cmp es name v) ≡ cond (at_word word name) (Some v) (lookup (at_word word) es)
inserted word name v [] = refl
inserted word name v (x ∷ es) = placed word x name v es (insert_entry name_cmp es name v) (name_cmp name x.0) refl (inserted word name v es)

one_left : {A X : Type 0} (word key : List ℕ) (x : Vec ℕ A × X) (es less : List (Vec ℕ A × X)) (b : Bool) → at_word key x.0 ≡ b → bytes_eq key word ≡ false
    → lookup (at_word word) less ≡ lookup (at_word word) es → lookup (at_word word) (cond b es (x ∷ less)) ≡ lookup (at_word word) (x ∷ es)
one_left word key x es less true here apart h =
    let same : x.0.items ≡ key = same_bytes x.0.items key (sym (at_bytes key x.0) ∙ here) in
    let other : at_word word x.0 ≡ false = at_bytes word x.0 ∙ ap (λ (items : List ℕ). bytes_eq items word) same ∙ apart in
    ap (λ (b : Bool). cond b (Some x.1) (lookup (at_word word) es)) (sym other)
one_left word key x es less false here apart h = ap (λ (o : Option _). cond (at_word word x.0) (Some x.1) o) h

left : {A X : Type 0} (word key : List ℕ) (es : List (Vec ℕ A × X)) → bytes_eq key word ≡ false → lookup (at_word word) (remove_entry (at_word key) es) ≡ lookup (at_word word) es
left word key [] apart = refl
left word key (x ∷ es) apart = one_left word key x es (remove_entry (at_word key) es) (at_word key x.0) refl apart (left word key es apart)

pub table_with : {A : Type 0} (old new : BTreeMap (Vec ℕ A) OptionWords) (name : Vec ℕ A) (at : List ℕ) (more : OptionWords) → name.items ≡ at → new.entries ≡ insert_entry name_cmp old.entries name more
    → (word : List ℕ) → kept_at new word ≡ cond (bytes_eq at word) (Some more) (kept_at old word)
table_with old new name at more is grown word =
    ap (λ (es : List (_ × OptionWords)). lookup (at_word word) es) grown
    ∙ inserted word name more old.entries
    ∙ ap (λ (b : Bool). cond b (Some more) (kept_at old word)) (at_bytes word name ∙ ap (λ (items : List ℕ). bytes_eq items word) is)

pub table_without : {A : Type 0} (old less : BTreeMap (Vec ℕ A) OptionWords) (at : List ℕ) → less.entries ≡ remove_entry (at_word at) old.entries
    → (word : List ℕ) → bytes_eq at word ≡ false → kept_at less word ≡ kept_at old word
table_without old less at gone word apart = ap (λ (es : List (_ × OptionWords)). lookup (at_word word) es) gone ∙ left word at old.entries apart

-- ---- what the lines say

abbrev sets_key : List ℕ → OptionLine → Bool
sets_key key line = bytes_eq line.key key

or_false : (a : Bool) → (a || false) ≡ a
or_false true = refl
or_false false = refl

one_any : (key : List ℕ) (lines : List OptionLine) (line : OptionLine) → list_any (sets_key key) (lines ++ line ∷ []) ≡ (list_any (sets_key key) lines || bytes_eq line.key key)
one_any key [] line = or_false (bytes_eq line.key key)
one_any key (l ∷ ls) line = ap (λ (b : Bool). bytes_eq l.key key || b) (one_any key ls line) ∙ grouped (bytes_eq l.key key) (list_any (sets_key key) ls) (bytes_eq line.key key)
  where
    grouped : (a b c : Bool) → (a || (b || c)) ≡ ((a || b) || c)
    grouped true b c = refl
    grouped false b c = refl

and_or : (a b c : Bool) → (a && (b || c)) ≡ ((a && b) || (a && c))
and_or true b c = refl
and_or false b c = refl

mentioned_behind : (lines : List OptionLine) (line : OptionLine) (word : List ℕ) → is_mentioned (lines ++ line ∷ []) word ≡ (is_mentioned lines word || (is_role_name word && bytes_eq line.key (role_key word)))
mentioned_behind lines line word =
    ap (λ (b : Bool). is_role_name word && b) (one_any (role_key word) lines line)
    ∙ and_or (is_role_name word) (list_any (sets_key (role_key word)) lines) (bytes_eq line.key (role_key word))

words_by : (b c : Bool) (words more : List OptionWord) → cond b (words ++ cond c more []) [] ≡ cond b words [] ++ cond (b && c) more []
words_by true c words more = refl
words_by false c words more = refl

words_behind : (lines : List OptionLine) (line : OptionLine) (word : List ℕ)
    → role_words (lines ++ line ∷ []) word ≡ role_words lines word ++ cond (is_role_name word && bytes_eq line.key (role_key word)) (words_of_line line) []
words_behind lines line word =
    ap (λ (ws : List OptionWord). cond (is_role_name word) ws []) (option_words_behind (role_key word) lines line)
    ∙ words_by (is_role_name word) (bytes_eq line.key (role_key word)) (option_words (role_key word) lines) (words_of_line line)

-- a line that sets the option of a role sets that of no other
of_role : (line : OptionLine) (at word : List ℕ) → line.key ≡ role_key at → is_role_name at ≡ true → (is_role_name word && bytes_eq line.key (role_key word)) ≡ bytes_eq at word
of_role line at word key role = ap (λ (k : List ℕ). is_role_name word && bytes_eq k (role_key word)) key ∙ by_same (bytes_eq at word) refl
  where
    by_same : (b : Bool) → bytes_eq at word ≡ b → (is_role_name word && bytes_eq at word) ≡ bytes_eq at word
    by_same true e = ap (λ (w : List ℕ). is_role_name w && bytes_eq at word) (sym (same_bytes at word e)) ∙ ap (λ (b : Bool). b && bytes_eq at word) role
    by_same false e = and_right (is_role_name word) (bytes_eq at word) e ∙ sym e

-- a line of no role sets none
of_none : (line : OptionLine) (word : List ℕ) → ((w : List ℕ) → is_role_name w ≡ true → bytes_eq line.key (role_key w) ≡ false) → (is_role_name word && bytes_eq line.key (role_key word)) ≡ false
of_none line word other = by_role (is_role_name word) refl
  where
    by_role : (b : Bool) → is_role_name word ≡ b → (is_role_name word && bytes_eq line.key (role_key word)) ≡ false
    by_role true e = and_right (is_role_name word) (bytes_eq line.key (role_key word)) (other word e)
    by_role false e = and_left (is_role_name word) (bytes_eq line.key (role_key word)) e

kept_as : (o p : Option OptionWords) (ws xs : List OptionWord) (m n : Bool) → p ≡ o → xs ≡ ws → n ≡ m → IsKept o ws m → IsKept p xs n
kept_as o p ws xs m n same words mentioned is =
    subst (λ (q : Option OptionWords). IsKept q xs n) (sym same)
    (subst (λ (ys : List OptionWord). IsKept o ys n) (sym words)
    (subst (λ (b : Bool). IsKept o ws b) (sym mentioned) is))

-- ---- one line more

pub no_lines : {A : Type 0} (table : BTreeMap (Vec ℕ A) OptionWords) (word : List ℕ) → IsEmpty table → IsKept (kept_at table word) (role_words [] word) (is_mentioned [] word)
no_lines table word empty =
    kept_as None (kept_at table word) [] (role_words [] word) false (is_mentioned [] word)
    (ap (λ (es : List (_ × OptionWords)). lookup (at_word word) es) empty) (by_role (is_role_name word)) (and_right (is_role_name word) false refl) (refl, refl)
  where
    by_role : (b : Bool) → (let ws : List OptionWord = cond b [] [] in ws) ≡ []
    by_role true = refl
    by_role false = refl

pub no_mention : (word : List ℕ) → false ≡ is_mentioned [] word
no_mention word = sym (and_right (is_role_name word) false refl)

pub passed_by : (roles : RoleOptions) (lines : List OptionLine) (line : OptionLine) → ((w : List ℕ) → is_role_name w ≡ true → bytes_eq line.key (role_key w) ≡ false) → AreRoles roles lines → AreRoles roles (lines ++ line ∷ [])
passed_by roles lines line other are = record {
  kept = λ word. kept_as (kept_at roles.table word) (kept_at roles.table word) (role_words lines word) (role_words (lines ++ line ∷ []) word) (is_mentioned lines word) (is_mentioned (lines ++ line ∷ []) word)
      refl
      (words_behind lines line word ∙ ap (λ (b : Bool). role_words lines word ++ cond b (words_of_line line) []) (of_none line word other) ∙ append-nil (role_words lines word))
      (same_mention word) (are.kept word);
  names = λ word. are.names word ∙ sym (same_mention word);
} where
  same_mention : (word : List ℕ) → is_mentioned (lines ++ line ∷ []) word ≡ is_mentioned lines word
  same_mention word = mentioned_behind lines line word ∙ ap (λ (b : Bool). is_mentioned lines word || b) (of_none line word other) ∙ or_false (is_mentioned lines word)

or_true : (a : Bool) → (a || true) ≡ true
or_true true = refl
or_true false = refl

module _ (old less new : RoleOptions) (lines : List OptionLine) (line : OptionLine) (at : List ℕ) where
  pub set_role : AreRoles old lines → line.key ≡ role_key at → is_role_name at ≡ true
      → ((word : List ℕ) → bytes_eq at word ≡ false → kept_at less.table word ≡ kept_at old.table word)
      → ((word : List ℕ) → holds less.names word ≡ (holds old.names word || bytes_eq at word))
      → PutsAt less new at (role_words lines at) line → AreRoles new (lines ++ line ∷ [])
  set_role are key role others grown puts = record { kept = λ word. by_word word (bytes_eq at word) refl; names = names }
    where
      mention : (word : List ℕ) → is_mentioned (lines ++ line ∷ []) word ≡ (is_mentioned lines word || bytes_eq at word)
      mention word = mentioned_behind lines line word ∙ ap (λ (b : Bool). is_mentioned lines word || b) (of_role line at word key role)

      words : (word : List ℕ) → role_words (lines ++ line ∷ []) word ≡ role_words lines word ++ cond (bytes_eq at word) (words_of_line line) []
      words word = words_behind lines line word ∙ ap (λ (b : Bool). role_words lines word ++ cond b (words_of_line line) []) (of_role line at word key role)

      names : (word : List ℕ) → holds new.names word ≡ is_mentioned (lines ++ line ∷ []) word
      names word =
          ap (λ (ns : List (List ℕ)). holds ns word) puts.names ∙ grown word ∙ ap (λ (b : Bool). b || bytes_eq at word) (are.names word) ∙ sym (mention word)

      by_word : (word : List ℕ) (b : Bool) → bytes_eq at word ≡ b → IsKept (kept_at new.table word) (role_words (lines ++ line ∷ []) word) (is_mentioned (lines ++ line ∷ []) word)
      by_word word true e =
          kept_as (Some puts.more) (kept_at new.table word) (role_words lines at ++ words_of_line line) (role_words (lines ++ line ∷ []) word) true (is_mentioned (lines ++ line ∷ []) word)
          (puts.kept word ∙ ap (λ (b : Bool). cond b (Some puts.more) (kept_at less.table word)) e)
          (words word ∙ ap (λ (b : Bool). role_words lines word ++ cond b (words_of_line line) []) e ∙ ap (λ (w : List ℕ). role_words lines w ++ words_of_line line) (sym (same_bytes at word e)))
          (mention word ∙ ap (λ (b : Bool). is_mentioned lines word || b) e ∙ or_true (is_mentioned lines word))
          (puts.option, refl)
      by_word word false e =
          kept_as (kept_at old.table word) (kept_at new.table word) (role_words lines word) (role_words (lines ++ line ∷ []) word) (is_mentioned lines word) (is_mentioned (lines ++ line ∷ []) word)
          (puts.kept word ∙ ap (λ (b : Bool). cond b (Some puts.more) (kept_at less.table word)) e ∙ others word e)
          (words word ∙ ap (λ (b : Bool). role_words lines word ++ cond b (words_of_line line) []) e ∙ append-nil (role_words lines word))
          (mention word ∙ ap (λ (b : Bool). is_mentioned lines word || b) e ∙ or_false (is_mentioned lines word))
          (are.kept word)

-- what is kept of a word that lines mention, and what is kept of one that none does
pub kept_words : (o : Option OptionWords) (kept : OptionWords) (words : List OptionWord) (mentioned : Bool) → o ≡ Some kept → IsKept o words mentioned → IsOption kept words × (mentioned ≡ true)
kept_words o kept words mentioned is has = subst (λ (p : Option OptionWords). IsKept p words mentioned) is has

pub kept_nothing : (o : Option OptionWords) (words : List OptionWord) (mentioned : Bool) → o ≡ None → IsKept o words mentioned → (words ≡ []) × (mentioned ≡ false)
kept_nothing o words mentioned is has = subst (λ (p : Option OptionWords). IsKept p words mentioned) is has

-- a name that is there already
pub name_there : (names : List (List ℕ)) (at : List ℕ) → holds names at ≡ true → (word : List ℕ) → holds names word ≡ (holds names word || bytes_eq at word)
name_there names at there word = by_same (bytes_eq at word) refl
  where
    by_same : (b : Bool) → bytes_eq at word ≡ b → holds names word ≡ (holds names word || b)
    by_same true e = let has : holds names word ≡ true = ap (holds names) (sym (same_bytes at word e)) ∙ there in has ∙ sym (or_true (holds names word))
    by_same false e = sym (or_false (holds names word))

pub name_more : (names more : List (List ℕ)) (at : List ℕ) → more ≡ names ++ at ∷ [] → (word : List ℕ) → holds more word ≡ (holds names word || bytes_eq at word)
name_more names more at grown word = ap (λ (ns : List (List ℕ)). holds ns word) grown ∙ holds_push names at word

-- ---- which words are declared

role_last : (ps : Patterns) (lines : List OptionLine) (word name : List ℕ) (creator : Option (List ℕ)) → last_on ps name creator false (role_words lines word) ≡ (is_role_name word && is_in_force ps lines (role_key word) name creator)
role_last ps lines word name creator = by_role (is_role_name word)
  where
    by_role : (b : Bool) → last_on ps name creator false (cond b (option_words (role_key word) lines) []) ≡ (b && is_in_force ps lines (role_key word) name creator)
    by_role true = option_of_lines ps (role_key word) lines name creator
    by_role false = refl

pub declared_by : (ps : Patterns) (lines : List OptionLine) (word name : List ℕ) (creator : Option (List ℕ)) (in_force : Bool) → is_common_role word ≡ false → in_force ≡ last_on ps name creator false (role_words lines word)
    → in_force ≡ declares ps lines word name creator
declared_by ps lines word name creator in_force other is = is ∙ role_last ps lines word name creator ∙ ap (λ (b : Bool). b || (is_role_name word && is_in_force ps lines (role_key word) name creator)) (sym other)

pub declared_always : (ps : Patterns) (lines : List OptionLine) (word name : List ℕ) (creator : Option (List ℕ)) → is_common_role word ≡ true → true ≡ declares ps lines word name creator
declared_always ps lines word name creator is = ap (λ (b : Bool). b || (is_role_name word && is_in_force ps lines (role_key word) name creator)) (sym is)

-- ---- a declared word is mentioned

none_kept : (ps : Patterns) (key name : List ℕ) (creator : Option (List ℕ)) (lines : List OptionLine) → list_any (sets_key key) lines ≡ false → filter (sets ps key name creator) lines ≡ []
none_kept ps key name creator [] none = refl
none_kept ps key name creator (l ∷ ls) none =
    let here : bytes_eq l.key key ≡ false = first_off (bytes_eq l.key key) (list_any (sets_key key) ls) none in
    let rest : list_any (sets_key key) ls ≡ false = second_off (bytes_eq l.key key) (list_any (sets_key key) ls) none in
    ap (λ (b : Bool). cond b (l ∷ filter (sets ps key name creator) ls) (filter (sets ps key name creator) ls)) (and_left (bytes_eq l.key key) (some_covers ps l.repos name creator) here)
    ∙ none_kept ps key name creator ls rest
  where
    first_off : (a b : Bool) → (a || b) ≡ false → a ≡ false
    first_off true b e = e
    first_off false b e = refl

    second_off : (a b : Bool) → (a || b) ≡ false → b ≡ false
    second_off true b e = absurd (both_ways true e refl)
    second_off false b e = e

pub declared_is_mentioned : (ps : Patterns) (lines : List OptionLine) (word name : List ℕ) (creator : Option (List ℕ)) → declares ps lines word name creator ≡ true → is_common_role word ≡ false → is_mentioned lines word ≡ true
declared_is_mentioned ps lines word name creator is other =
    let both : (is_role_name word ≡ true) × (is_in_force ps lines (role_key word) name creator ≡ true) =
    and_parts (is_role_name word) (is_in_force ps lines (role_key word) name creator) (ap (λ (b : Bool). b || (is_role_name word && is_in_force ps lines (role_key word) name creator)) (sym other) ∙ is) in
    ap (λ (b : Bool). b && list_any (sets_key (role_key word)) lines) both.0 ∙ by_any (list_any (sets_key (role_key word)) lines) refl both.1
  where
    by_any : (b : Bool) → list_any (sets_key (role_key word)) lines ≡ b → is_in_force ps lines (role_key word) name creator ≡ true → list_any (sets_key (role_key word)) lines ≡ true
    by_any true e in_force = e
    by_any false e in_force =
        absurd (both_ways (is_in_force ps lines (role_key word) name creator) (ap (λ (ls : List OptionLine). is_on (last_or None ls)) (none_kept ps (role_key word) name creator lines e)) in_force)

-- ---- by its form

-- a declared role has a role's name
pub declared_is_role_name : (ps : Patterns) (lines : List OptionLine) (word name : List ℕ) (creator : Option (List ℕ)) → declares ps lines word name creator ≡ true → is_role_name word ≡ true
declared_is_role_name ps lines word name creator is = by_readers (bytes_eq word (codes "READERS")) refl
  where
    by_writers : (b : Bool) → bytes_eq word (codes "WRITERS") ≡ b → (b || (is_role_name word && is_in_force ps lines (role_key word) name creator)) ≡ true → is_role_name word ≡ true
    by_writers true e others = ap is_role_name (same_bytes word (codes "WRITERS") e)
    by_writers false e others = (and_parts (is_role_name word) (is_in_force ps lines (role_key word) name creator) others).0

    by_readers : (b : Bool) → bytes_eq word (codes "READERS") ≡ b → is_role_name word ≡ true
    by_readers true e = ap is_role_name (same_bytes word (codes "READERS") e)
    by_readers false e =
        by_writers (bytes_eq word (codes "WRITERS")) refl
        (ap (λ (b : Bool). (b || bytes_eq word (codes "WRITERS")) || (is_role_name word && is_in_force ps lines (role_key word) name creator)) (sym e) ∙ is)

-- `CREATOR` isn't declared as a role anywhere
pub creator_undeclared : (ps : Patterns) (lines : List OptionLine) (name : List ℕ) (creator : Option (List ℕ)) → declares ps lines (codes "CREATOR") name creator ≡ false
creator_undeclared ps lines name creator = refl

pub if_ok : {X E : Type 0} {P Q : X → Type 0} (r : Result X E) → IfOk r P → ((x : X) → P x → Q x) → IfOk r Q
if_ok (Ok x) h next = next x h
if_ok (Err e) h next = tt
