-- Members by the rule, and members by reading the lines in order.
use Rattle.std.proofs.Common.{◌≡◌, ℕ, List, [], ◌∷◌, ◌++◌, Bool, true, false, Option, Some, None, refl, sym, ap, ◌∙◌, subst, cond, fold, inl, inr}
use Rattle.std.specs.Prelude.{not, ◌&&◌, ◌||◌, ◌⊎◌}
use Rattle.std.specs.List.{flat_map}
use Rattle.std.specs.Str.{bytes_eq}
use Rattle.std.specs.Cmp.Lexicographic.{same_text, nat_list_eq_equiv}
use Rattle.conf_lex.specs.Words.{begins_with_at}
use Rattle.conf_lex.specs.declared.statement.Statement.{Statement}
use Rattle.conf_lex.specs.declared.statement.Statement.TheVariants.{Blank, Repo, Rule, Group, Include, Subconf, Opt, NoEffect}
use Rattle.conf_groups.specs.Groups.{Known, holds, known_after, meaning, members_in, sees, with_item, with_items, with_placed, with_statement}
use Rattle.conf_groups.specs.Laws.{are_distinct, IsMember, Earlier, Own, Through, MembersAreThoseByTheRule}
use Rattle.conf_groups.specs.declared.placed.Scope.{Scope}
use Rattle.conf_groups.specs.declared.placed.Placed.{Placed}
use Rattle.conf_groups.specs.declared.placed.Placed.TheVariants as at
use Rattle.conf_groups.specs.declared.placed.PlacedLine.{PlacedLine}
use Rattle.conf_groups.proofs.DistinctLemmas.{holds_push}
use Rattle.conf_groups.proofs.TableLemmas.{held_more, still_held_all}

abbrev Words : Type 0
Words = List (List ℕ)

abbrev Empty : Known
Empty = λ group scope. None

or_cases : (a b : Bool) → (a || b) ≡ true → (a ≡ true) ⊎ (b ≡ true)
or_cases true b h = inl refl
or_cases false b h = inr h

-- what is in a list with more items
in_item : (xs : Words) (y w : List ℕ) → holds (with_item xs y) w ≡ true → (holds xs w ≡ true) ⊎ (bytes_eq y w ≡ true)
in_item xs y w h =
    elim (holds xs y) as (λ b. holds (cond b xs (xs ++ y ∷ [])) w ≡ true → (holds xs w ≡ true) ⊎ (bytes_eq y w ≡ true)) [
      | true ↦ λ k. inl k
      | false ↦ λ k. or_cases (holds xs w) (bytes_eq y w) (sym (holds_push xs y w) ∙ k)
    ] h

or_right : (a b : Bool) → b ≡ true → (a || b) ≡ true
or_right true b h = refl
or_right false b h = h

or_left : (a b : Bool) → a ≡ true → (a || b) ≡ true
or_left true b h = refl
or_left false b h = cc

in_items : (xs ys : Words) (w : List ℕ) → holds (with_items xs ys) w ≡ true → (holds xs w ≡ true) ⊎ (holds ys w ≡ true)
in_items xs [] w h = inl h
in_items xs (y ∷ ys) w h = elim (in_items (with_item xs y) ys w h) as (λ c. (holds xs w ≡ true) ⊎ (holds (y ∷ ys) w ≡ true)) [
  | (inl k) ↦ elim (in_item xs y w k) as (λ c. (holds xs w ≡ true) ⊎ (holds (y ∷ ys) w ≡ true)) [
    | (inl a) ↦ inl a
    | (inr b) ↦ inr (or_left (bytes_eq y w) (holds ys w) b)
  ]
  | (inr k) ↦ inr (or_right (bytes_eq y w) (holds ys w) k)
]

holds_append : (xs ys : Words) (w : List ℕ) → holds (xs ++ ys) w ≡ (holds xs w || holds ys w)
holds_append [] ys w = refl
holds_append (x ∷ xs) ys w = ap (λ (b : Bool). bytes_eq x w || b) (holds_append xs ys w) ∙ assoc (bytes_eq x w) (holds xs w) (holds ys w) where
  assoc : (a b c : Bool) → (a || (b || c)) ≡ ((a || b) || c)
  assoc true b c = refl
  assoc false b c = refl

-- a word of a line, and what it means
pub record IsMeant (known : Known) (from : Scope) (words : Words) (w : List ℕ) : Type 0 where
  pub word : List ℕ
  pub there : holds words word ≡ true
  pub meant : holds (meaning known from word) w ≡ true

meant_later : (known : Known) (from : Scope) (x : List ℕ) (words : Words) (w : List ℕ) → IsMeant known from words w → IsMeant known from (x ∷ words) w
meant_later known from x words w m = record { word = m.word; there = or_right (bytes_eq x m.word) (holds words m.word) m.there; meant = m.meant }

in_meanings : (known : Known) (from : Scope) (words : Words) (w : List ℕ) → holds (flat_map (meaning known from) words) w ≡ true → IsMeant known from words w
in_meanings known from [] w h = cc
in_meanings known from (x ∷ words) w h =
    elim (or_cases (holds (meaning known from x) w) (holds (flat_map (meaning known from) words) w) (sym (holds_append (meaning known from x) (flat_map (meaning known from) words) w) ∙ h)) as (λ c. IsMeant known from (x ∷ words) w) [
      | (inl k) ↦ record { word = x; there = or_left (bytes_eq x x) (holds words x) (nat_list_eq_equiv.refl x); meant = k }
      | (inr k) ↦ meant_later known from x words w (in_meanings known from words w k)
    ]

meanings_hold : (known : Known) (from : Scope) (words : Words) (word w : List ℕ) → holds words word ≡ true → holds (meaning known from word) w ≡ true → holds (flat_map (meaning known from) words) w ≡ true
meanings_hold known from [] word w h k = cc
meanings_hold known from (x ∷ words) word w h k =
    holds_append (meaning known from x) (flat_map (meaning known from) words) w
    ∙ elim (or_cases (bytes_eq x word) (holds words word) h) as (λ c. (holds (meaning known from x) w || holds (flat_map (meaning known from) words) w) ≡ true) [
      | (inl same) ↦ or_left (holds (meaning known from x) w) (holds (flat_map (meaning known from) words) w) (ap (λ (y : List ℕ). holds (meaning known from y) w) (same_text x word (sym same)) ∙ k)
      | (inr more) ↦ or_right (holds (meaning known from x) w) (holds (flat_map (meaning known from) words) w) (meanings_hold known from words word w more k)
    ]

-- 1. Members that are known are members by the rule.
abbrev AreByTheRule : List Placed → Known → Type 0
AreByTheRule lines known = (group : List ℕ) (scope : Scope) (word : List ℕ) → holds (members_in (known group scope)) word ≡ true → IsMember word lines group scope

and_left : (a b : Bool) → (a && b) ≡ true → a ≡ true
and_left true b h = refl
and_left false b h = h

and_right : (a b : Bool) → (a && b) ≡ true → b ≡ true
and_right true b h = h
and_right false b h = cc

by_meaning : (lines : List Placed) (known : Known) (l : PlacedLine) (name : List ℕ) (words : Words) (scope : Scope) (word w : List ℕ) (b : Bool)
    → AreByTheRule lines known → l.statement ≡ Group name words → sees scope l.scope ≡ true → holds words word ≡ true → begins_with_at word ≡ b
    → holds (cond b (members_in (known word l.scope)) (word ∷ [])) w ≡ true → IsMember w (lines ++ at.Line l ∷ []) name scope
by_meaning lines known l name words scope word w true good said seen there is h = Through lines l name words scope word said seen there is (good word l.scope w h)
by_meaning lines known l name words scope word w false good said seen there is h =
    let same : word ≡ w = elim (or_cases (bytes_eq word w) false h) as (λ c. word ≡ w) [ (inl e) ↦ same_text word w (sym e) | (inr e) ↦ cc ] in
    Own lines l name words scope said seen
    (ap (λ (x : List ℕ). holds words x) (sym same) ∙ there)
    (ap begins_with_at (sym same) ∙ is)

by_line : (lines : List Placed) (known : Known) (l : PlacedLine) (name : List ℕ) (words : Words) (group : List ℕ) (scope : Scope) (w : List ℕ) (b : Bool)
    → AreByTheRule lines known → l.statement ≡ Group name words → (bytes_eq group name && sees scope l.scope) ≡ b
    → holds (members_in (cond b (Some (with_items (members_in (known group scope)) (flat_map (meaning known l.scope) words))) (known group scope))) w ≡ true
    → IsMember w (lines ++ at.Line l ∷ []) group scope
by_line lines known l name words group scope w false good said sees h = Earlier lines (at.Line l) group scope (good group scope w h)
by_line lines known l name words group scope w true good said both h =
    elim (in_items (members_in (known group scope)) (flat_map (meaning known l.scope) words) w h) as (λ c. IsMember w (lines ++ at.Line l ∷ []) group scope) [
      | (inl k) ↦ Earlier lines (at.Line l) group scope (good group scope w k)
      | (inr k) ↦
          let m = in_meanings known l.scope words w k in
          subst (λ (g : List ℕ). IsMember w (lines ++ at.Line l ∷ []) g scope) (sym (same_text group name (sym (and_left (bytes_eq group name) (sees scope l.scope) both))))
          (by_meaning lines known l name words scope m.word w (begins_with_at m.word) good said (and_right (bytes_eq group name) (sees scope l.scope) both) m.there refl m.meant)
    ]

still : (lines : List Placed) (known : Known) (p : Placed) → AreByTheRule lines known → AreByTheRule (lines ++ p ∷ []) known
still lines known p good group scope word h = Earlier lines p group scope (good group scope word h)

by_statement : (lines : List Placed) (known : Known) (l : PlacedLine) (said : Statement) → l.statement ≡ said → AreByTheRule lines known → AreByTheRule (lines ++ at.Line l ∷ []) (with_statement known l.scope said)
by_statement lines known l (Group name words) is good = λ group scope w h. by_line lines known l name words group scope w (bytes_eq group name && sees scope l.scope) good is refl h
by_statement lines known l Blank is good = still lines known (at.Line l) good
by_statement lines known l (Repo ws) is good = still lines known (at.Line l) good
by_statement lines known l (Rule p r u) is good = still lines known (at.Line l) good
by_statement lines known l (Include p) is good = still lines known (at.Line l) good
by_statement lines known l (Subconf p) is good = still lines known (at.Line l) good
by_statement lines known l (Opt k v) is good = still lines known (at.Line l) good
by_statement lines known l NoEffect is good = still lines known (at.Line l) good

by_placed : (lines : List Placed) (known : Known) (p : Placed) → AreByTheRule lines known → AreByTheRule (lines ++ p ∷ []) (with_placed known p)
by_placed lines known at.EndOfBlock good = still lines known at.EndOfBlock good
by_placed lines known (at.Line l) good = by_statement lines known l l.statement refl good

one_more : (xs : List Placed) (y : Placed) (ys : List Placed) → (xs ++ y ∷ []) ++ ys ≡ xs ++ y ∷ ys
one_more [] y ys = refl
one_more (x ∷ xs) y ys = ap (λ (zs : List Placed). x ∷ zs) (one_more xs y ys)

append_nil : (xs : List Placed) → xs ++ [] ≡ xs
append_nil [] = refl
append_nil (x ∷ xs) = ap (λ (l : List Placed). x ∷ l) (append_nil xs)

all_by_the_rule : (left done : List Placed) (known : Known) → AreByTheRule done known → AreByTheRule (done ++ left) (fold with_placed known left)
all_by_the_rule [] done known good = subst (λ (ls : List Placed). AreByTheRule ls known) (sym (append_nil done)) good
all_by_the_rule (p ∷ left) done known good =
    subst (λ (ls : List Placed). AreByTheRule ls (fold with_placed (with_placed known p) left)) (one_more done p left)
    (all_by_the_rule left (done ++ p ∷ []) (with_placed known p) (by_placed done known p good))

none_by_the_rule : AreByTheRule [] Empty
none_by_the_rule group scope word h = cc

-- 2. Members by the rule are known.
after_one : (lines : List Placed) (p : Placed) (known : Known) → fold with_placed known (lines ++ p ∷ []) ≡ with_placed (fold with_placed known lines) p
after_one [] p known = refl
after_one (q ∷ lines) p known = after_one lines p (with_placed known q)

kept_by : (b : Bool) (old : Option Words) (more : Words) (w : List ℕ) → holds (members_in old) w ≡ true → holds (members_in (cond b (Some (with_items (members_in old) more)) old)) w ≡ true
kept_by true old more w h = still_held_all (members_in old) more w h
kept_by false old more w h = h

kept_statement : (known : Known) (from : Scope) (said : Statement) (group : List ℕ) (scope : Scope) (w : List ℕ) → holds (members_in (known group scope)) w ≡ true → holds (members_in (with_statement known from said group scope)) w ≡ true
kept_statement known from (Group name words) group scope w h = kept_by (bytes_eq group name && sees scope from) (known group scope) (flat_map (meaning known from) words) w h
kept_statement known from Blank group scope w h = h
kept_statement known from (Repo ws) group scope w h = h
kept_statement known from (Rule p r u) group scope w h = h
kept_statement known from (Include p) group scope w h = h
kept_statement known from (Subconf p) group scope w h = h
kept_statement known from (Opt k v) group scope w h = h
kept_statement known from NoEffect group scope w h = h

kept_placed : (known : Known) (p : Placed) (group : List ℕ) (scope : Scope) (w : List ℕ) → holds (members_in (known group scope)) w ≡ true → holds (members_in (with_placed known p group scope)) w ≡ true
kept_placed known at.EndOfBlock group scope w h = h
kept_placed known (at.Line l) group scope w h = kept_statement known l.scope l.statement group scope w h

added_by : (known : Known) (l : PlacedLine) (name : List ℕ) (words : Words) (scope : Scope) (word w : List ℕ)
    → l.statement ≡ Group name words → sees scope l.scope ≡ true → holds words word ≡ true → holds (meaning known l.scope word) w ≡ true
    → holds (members_in (with_placed known (at.Line l) name scope)) w ≡ true
added_by known l name words scope word w said seen there meant =
    ap (λ (s : Statement). holds (members_in (with_statement known l.scope s name scope)) w) said
    ∙ ap (λ (b : Bool). holds (members_in (cond (b && sees scope l.scope) (Some (with_items (members_in (known name scope)) (flat_map (meaning known l.scope) words))) (known name scope))) w) (nat_list_eq_equiv.refl name)
    ∙ ap (λ (b : Bool). holds (members_in (cond b (Some (with_items (members_in (known name scope)) (flat_map (meaning known l.scope) words))) (known name scope))) w) seen
    ∙ held_more (members_in (known name scope)) (flat_map (meaning known l.scope) words) w (meanings_hold known l.scope words word w there meant)

rule_is_known : (word : List ℕ) (lines : List Placed) (group : List ℕ) (scope : Scope) → IsMember word lines group scope → holds (members_in (known_after lines group scope)) word ≡ true
rule_is_known word lines group scope (Earlier before last g s m) =
    ap (λ (k : Known). holds (members_in (k group scope)) word) (after_one before last Empty)
    ∙ kept_placed (known_after before) last group scope word (rule_is_known word before group scope m)
rule_is_known word lines group scope (Own before l g words s said seen there is) =
    ap (λ (k : Known). holds (members_in (k group scope)) word) (after_one before (at.Line l) Empty)
    ∙ added_by (known_after before) l group words scope word word said seen there
    (ap (λ (b : Bool). holds (cond b (members_in (known_after before word l.scope)) (word ∷ [])) word) is ∙ or_left (bytes_eq word word) false (nat_list_eq_equiv.refl word))
rule_is_known word lines group scope (Through before l g words s inner said seen there is m) =
    ap (λ (k : Known). holds (members_in (k group scope)) word) (after_one before (at.Line l) Empty)
    ∙ added_by (known_after before) l group words scope inner word said seen there
    (ap (λ (b : Bool). holds (cond b (members_in (known_after before inner l.scope)) (inner ∷ [])) word) is ∙ rule_is_known word before inner l.scope m)

-- 3. No member is there twice.
no_left : (a b : Bool) → (a || b) ≡ false → a ≡ false
no_left true b h = h
no_left false b h = refl

no_right : (a b : Bool) → (a || b) ≡ false → b ≡ false
no_right true b h = cc
no_right false b h = h

both : (a b : Bool) → a ≡ true → b ≡ true → (a && b) ≡ true
both true b h k = k
both false b h k = h

neither : (a b : Bool) → not a ≡ true → b ≡ false → not (a || b) ≡ true
neither true b h k = cc
neither false true h k = cc
neither false false h k = refl

push_distinct : (xs : Words) (y : List ℕ) → are_distinct xs ≡ true → holds xs y ≡ false → are_distinct (xs ++ y ∷ []) ≡ true
push_distinct [] y h new = refl
push_distinct (x ∷ xs) y h new =
    both (not (holds (xs ++ y ∷ []) x)) (are_distinct (xs ++ y ∷ []))
    (ap not (holds_push xs y x) ∙ neither (holds xs x) (bytes_eq y x) (and_left (not (holds xs x)) (are_distinct xs) h) (nat_list_eq_equiv.symm y x ∙ no_left (bytes_eq x y) (holds xs y) new))
    (push_distinct xs y (and_right (not (holds xs x)) (are_distinct xs) h) (no_right (bytes_eq x y) (holds xs y) new))

item_distinct : (xs : Words) (y : List ℕ) → are_distinct xs ≡ true → are_distinct (with_item xs y) ≡ true
item_distinct xs y h =
    elim (holds xs y) as (λ b. holds xs y ≡ b → are_distinct (cond b xs (xs ++ y ∷ [])) ≡ true) [
      | true ↦ λ k. h
      | false ↦ λ k. push_distinct xs y h k
    ] refl

items_distinct : (xs ys : Words) → are_distinct xs ≡ true → are_distinct (with_items xs ys) ≡ true
items_distinct xs [] h = h
items_distinct xs (y ∷ ys) h = items_distinct (with_item xs y) ys (item_distinct xs y h)

abbrev AreDistinct : Known → Type 0
AreDistinct known = (group : List ℕ) (scope : Scope) → are_distinct (members_in (known group scope)) ≡ true

line_distinct : (b : Bool) (old : Option Words) (more : Words) → are_distinct (members_in old) ≡ true → are_distinct (members_in (cond b (Some (with_items (members_in old) more)) old)) ≡ true
line_distinct true old more h = items_distinct (members_in old) more h
line_distinct false old more h = h

statement_distinct : (known : Known) (from : Scope) (said : Statement) → AreDistinct known → AreDistinct (with_statement known from said)
statement_distinct known from (Group name words) h = λ group scope. line_distinct (bytes_eq group name && sees scope from) (known group scope) (flat_map (meaning known from) words) (h group scope)
statement_distinct known from Blank h = h
statement_distinct known from (Repo ws) h = h
statement_distinct known from (Rule p r u) h = h
statement_distinct known from (Include p) h = h
statement_distinct known from (Subconf p) h = h
statement_distinct known from (Opt k v) h = h
statement_distinct known from NoEffect h = h

all_distinct : (lines : List Placed) (known : Known) → AreDistinct known → AreDistinct (fold with_placed known lines)
all_distinct [] known h = h
all_distinct (at.EndOfBlock ∷ lines) known h = all_distinct lines known h
all_distinct (at.Line l ∷ lines) known h = all_distinct lines (with_statement known l.scope l.statement) (statement_distinct known l.scope l.statement h)

pub members_are_those : MembersAreThoseByTheRule
members_are_those = record {
  by_the_rule = λ placed group scope word h. all_by_the_rule placed [] Empty none_by_the_rule group scope word h;
  all_of_them = λ placed group scope word m. rule_is_known word placed group scope m;
  distinct = λ placed group scope. all_distinct placed Empty (λ g s. refl) group scope;
}
