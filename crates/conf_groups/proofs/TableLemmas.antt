-- The group lines of a conf tell what is known of its groups at each place.
use Rattle.std.proofs.Common.{◌≡◌, ◌≤◌, ℕ, suc, zero, List, [], ◌∷◌, ◌++◌, ◌+◌, Bool, true, false, Option, Some, None, refl, ap, ◌∙◌, sym, cond, arith, take, fold}
use Rattle.std.specs.Prelude.{◌&&◌, ◌||◌, nat_lt}
use Rattle.std.proofs.lemmas.Bool.{le-ltb, lt-ltb}
use Rattle.std.specs.List.{flat_map}
use Rattle.std.specs.Str.{bytes_eq}
use Rattle.std.specs.FinMap as named
use Rattle.std.specs.Ordering.{nat_cmp}
use Rattle.std.specs.Cmp.Lexicographic.{slice_cmp, nat_list_cmp_total, texts_ties, same_text, nat_list_eq_equiv}
use Rattle.conf_lex.specs.Words.{begins_with_at}
use Rattle.conf_lex.specs.declared.statement.Statement.{Statement}
use Rattle.conf_lex.specs.declared.statement.Statement.TheVariants.{Blank, Repo, Rule, Group, Include, Subconf, Opt, NoEffect}
use Rattle.conf_groups.specs.Groups as group
use Rattle.conf_groups.specs.Groups.{Known, holds, with_item, with_items, sees, members_in, known_after, members_before}
use Rattle.conf_groups.specs.Tables as table
use Rattle.conf_groups.specs.Tables.{Lines, lines_in, lines_of, members_by, members_at, with_line, with_group_line, groups_from, groups_of}
use Rattle.conf_groups.specs.declared.placed.Scope.{Scope}
use Rattle.conf_groups.specs.declared.placed.Placed.{Placed}
use Rattle.conf_groups.specs.declared.placed.Placed.TheVariants as at
use Rattle.conf_groups.specs.declared.groups.GroupLine.{GroupLine}
use Rattle.conf_groups.proofs.DistinctLemmas.{holds_push}

abbrev Words : Type 0
Words = List (List ℕ)

-- lists without repeats
items_append : (xs ys zs : Words) → with_items xs (ys ++ zs) ≡ with_items (with_items xs ys) zs
items_append xs [] zs = refl
items_append xs (y ∷ ys) zs = items_append (with_item xs y) ys zs

same_refl : (x : List ℕ) → bytes_eq x x ≡ true
same_refl x = nat_list_eq_equiv.refl x

or_true : (b : Bool) → (b || true) ≡ true
or_true true = refl
or_true false = refl

or_left : (a b : Bool) → a ≡ true → (a || b) ≡ true
or_left true b h = refl
or_left false b h = cc

pub held_item : (xs : Words) (y : List ℕ) → holds (with_item xs y) y ≡ true
held_item xs y =
    elim (holds xs y) as (λ b. holds xs y ≡ b → holds (cond b xs (xs ++ y ∷ [])) y ≡ true) [
      | true ↦ λ h. h
      | false ↦ λ h. holds_push xs y y ∙ ap (λ (b : Bool). holds xs y || b) (same_refl y) ∙ or_true (holds xs y)
    ] refl

pub still_held : (xs : Words) (y w : List ℕ) → holds xs w ≡ true → holds (with_item xs y) w ≡ true
still_held xs y w h =
    elim (holds xs y) as (λ b. holds (cond b xs (xs ++ y ∷ [])) w ≡ true) [
      | true ↦ h
      | false ↦ holds_push xs y w ∙ or_left (holds xs w) (bytes_eq y w) h
    ]

pub still_held_all : (xs ys : Words) (w : List ℕ) → holds xs w ≡ true → holds (with_items xs ys) w ≡ true
still_held_all xs [] w h = h
still_held_all xs (y ∷ ys) w h = still_held_all (with_item xs y) ys w (still_held xs y w h)

and_or : (a b : Bool) → (a || b) ≡ true → (a ≡ true → b ≡ true) → b ≡ true
and_or true b h k = k refl
and_or false b h k = h

pub held_more : (xs ys : Words) (w : List ℕ) → holds ys w ≡ true → holds (with_items xs ys) w ≡ true
held_more xs [] w h = cc
held_more xs (y ∷ ys) w h =
    elim (bytes_eq y w) as (λ b. bytes_eq y w ≡ b → (b || holds ys w) ≡ true → holds (with_items (with_item xs y) ys) w ≡ true) [
      | true ↦ λ e k. still_held_all (with_item xs y) ys w (ap (λ (v : List ℕ). holds (with_item xs y) v) (sym (same_text y w (sym e))) ∙ held_item xs y)
      | false ↦ λ e k. held_more (with_item xs y) ys w k
    ] refl h

-- an item that is in the list changes nothing
add_held : (xs : Words) (y : List ℕ) → holds xs y ≡ true → xs ≡ with_item xs y
add_held xs y h = ap (λ (b : Bool). cond b xs (xs ++ y ∷ [])) (sym h)

add_one : (xs zs : Words) (y : List ℕ) → with_items xs (with_item zs y) ≡ with_item (with_items xs zs) y
add_one xs zs y =
    elim (holds zs y) as (λ b. holds zs y ≡ b → with_items xs (cond b zs (zs ++ y ∷ [])) ≡ with_item (with_items xs zs) y) [
      | true ↦ λ h. add_held (with_items xs zs) y (held_more xs zs y h)
      | false ↦ λ h. items_append xs zs (y ∷ [])
    ] refl

-- repeats that are dropped first are dropped all the same
pub items_of_items : (xs zs ys : Words) → with_items xs (with_items zs ys) ≡ with_items (with_items xs zs) ys
items_of_items xs zs [] = refl
items_of_items xs zs (y ∷ ys) = items_of_items xs (with_item zs y) ys ∙ ap (λ (l : Words). with_items l ys) (add_one xs zs y)

-- what a table tells of a group at a place, and later as long as no line is added
abbrev Tells : Lines → ℕ → Known → Type 0
Tells lines place known = (group : List ℕ) (scope : Scope) (n : ℕ) → place ≤ n → members_at lines group scope n ≡ known group scope

meaning_same : (lines : Lines) (known : Known) (scope : Scope) (place : ℕ) → Tells lines place known → (word : List ℕ) → table.meaning lines scope place word ≡ group.meaning known scope word
meaning_same lines known scope place tells word =
    ap (λ (m : Option Words). cond (begins_with_at word) (members_in m) (word ∷ [])) (tells word scope place (omega arith))

meanings_same : (lines : Lines) (known : Known) (scope : Scope) (place : ℕ) → Tells lines place known → (words xs : Words)
    → fold (table.with_word lines scope place) xs words ≡ with_items xs (flat_map (group.meaning known scope) words)
meanings_same lines known scope place tells [] xs = refl
meanings_same lines known scope place tells (w ∷ words) xs =
    ap (λ (l : Words). fold (table.with_word lines scope place) (with_items xs l) words) (meaning_same lines known scope place tells w)
    ∙ meanings_same lines known scope place tells words (with_items xs (group.meaning known scope w))
    ∙ sym (items_append xs (group.meaning known scope w) (flat_map (group.meaning known scope) words))

by_append : (scope : Scope) (n : ℕ) (ls : List GroupLine) (l : GroupLine) (known : Option Words) → fold (with_line scope n) known (ls ++ l ∷ []) ≡ with_line scope n (fold (with_line scope n) known ls) l
by_append scope n [] l known = refl
by_append scope n (k ∷ ls) l known = by_append scope n ls l (with_line scope n known k)

-- the lines of a group once a line was added
lines_after : (lines : Lines) (name : List ℕ) (l : GroupLine) (group : List ℕ) → lines_of (with_group_line lines name l) group ≡ cond (bytes_eq group name) (lines_of lines name ++ l ∷ []) (lines_of lines group)
lines_after lines name l group =
    ap lines_in (named.get-insert nat_list_cmp_total lines name (lines_of lines name ++ l ∷ []) group)
    ∙ ap (λ (b : Bool). lines_in (cond b (Some (lines_of lines name ++ l ∷ [])) (named.get lines group))) (sym (texts_ties group name))
    ∙ in_cond (bytes_eq group name) (lines_of lines name ++ l ∷ []) (named.get lines group) where
      in_cond : (b : Bool) (ls : List GroupLine) (o : Option (List GroupLine)) → lines_in (cond b (Some ls) o) ≡ cond b ls (lines_in o)
      in_cond true ls o = refl
      in_cond false ls o = refl

added : (lines : Lines) (known : Known) (place : ℕ) (name : List ℕ) (l : GroupLine) (group : List ℕ) (scope : Scope) (n : ℕ) (meant : Words) (b : Bool)
    → Tells lines place known → l.place ≡ place → l.members ≡ with_items [] meant → place + 1 ≤ n → bytes_eq group name ≡ b
    → members_by (cond b (lines_of lines name ++ l ∷ []) (lines_of lines group)) scope n ≡ cond (b && sees scope l.scope) (Some (with_items (members_in (known group scope)) meant)) (known group scope)
added lines known place name l group scope n meant false tells here is later other = tells group scope n (omega (arith, later))
added lines known place name l group scope n meant true tells here is later same =
    by_append scope n (lines_of lines name) l None
    ∙ ap (λ (b : Bool). cond (b && sees scope l.scope) (Some (with_items (members_in (members_at lines name scope n)) l.members)) (members_at lines name scope n)) (lt-ltb l.place n (omega (arith, here, later)))
    ∙ ap (λ (m : Option Words). cond (sees scope l.scope) (Some (with_items (members_in m) l.members)) m) (tells name scope n (omega (arith, later)))
    ∙ ap (λ (ws : Words). cond (sees scope l.scope) (Some (with_items (members_in (known name scope)) ws)) (known name scope)) is
    ∙ ap (λ (ws : Words). cond (sees scope l.scope) (Some ws) (known name scope)) (items_of_items (members_in (known name scope)) [] meant)
    ∙ ap (λ (g : List ℕ). cond (sees scope l.scope) (Some (with_items (members_in (known g scope)) meant)) (known g scope)) (sym (same_text group name (sym same)))

later_tells : (lines : Lines) (known : Known) (place : ℕ) → Tells lines place known → Tells lines (place + 1) known
later_tells lines known place tells g s n h = tells g s n (omega (arith, h))

tells_statement : (lines : Lines) (known : Known) (place : ℕ) (from : Scope) (said : Statement) → Tells lines place known → Tells (table.with_statement lines place from said) (place + 1) (group.with_statement known from said)
tells_statement lines known place from (Group name words) tells = λ g s n h.
    let l : GroupLine = record { place = place; scope = from; members = table.meanings lines from place words } in
    ap (λ (ls : List GroupLine). members_by ls s n) (lines_after lines name l g)
    ∙ added lines known place name l g s n (flat_map (group.meaning known from) words) (bytes_eq g name) tells refl (meanings_same lines known from place tells words []) h refl
tells_statement lines known place from Blank tells = later_tells lines known place tells
tells_statement lines known place from (Repo ws) tells = later_tells lines known place tells
tells_statement lines known place from (Rule p r u) tells = later_tells lines known place tells
tells_statement lines known place from (Include p) tells = later_tells lines known place tells
tells_statement lines known place from (Subconf p) tells = later_tells lines known place tells
tells_statement lines known place from (Opt k v) tells = later_tells lines known place tells
tells_statement lines known place from NoEffect tells = later_tells lines known place tells

tells_placed : (lines : Lines) (known : Known) (place : ℕ) (p : Placed) → Tells lines place known → Tells (table.with_placed lines place p) (place + 1) (group.with_placed known p)
tells_placed lines known place at.EndOfBlock tells = later_tells lines known place tells
tells_placed lines known place (at.Line l) tells = tells_statement lines known place l.scope l.statement tells

-- what comes at a place or after it tells nothing of what was before
late_statement : (lines : Lines) (place : ℕ) (from : Scope) (said : Statement) (g : List ℕ) (s : Scope) (n : ℕ) → n ≤ place → members_at (table.with_statement lines place from said) g s n ≡ members_at lines g s n
late_statement lines place from (Group name words) g s n h =
    let l : GroupLine = record { place = place; scope = from; members = table.meanings lines from place words } in
    ap (λ (ls : List GroupLine). members_by ls s n) (lines_after lines name l g) ∙ unseen (bytes_eq g name) l h refl where
      unseen : (b : Bool) (l : GroupLine) → n ≤ l.place → bytes_eq g name ≡ b → members_by (cond b (lines_of lines name ++ l ∷ []) (lines_of lines g)) s n ≡ members_by (lines_of lines g) s n
      unseen false l far other = refl
      unseen true l far same =
          by_append s n (lines_of lines name) l None
          ∙ ap (λ (b : Bool). cond (b && sees s l.scope) (Some (with_items (members_in (members_at lines name s n)) l.members)) (members_at lines name s n)) (le-ltb l.place n far)
          ∙ ap (λ (x : List ℕ). members_at lines x s n) (sym (same_text g name (sym same)))
late_statement lines place from Blank g s n h = refl
late_statement lines place from (Repo ws) g s n h = refl
late_statement lines place from (Rule p r u) g s n h = refl
late_statement lines place from (Include p) g s n h = refl
late_statement lines place from (Subconf p) g s n h = refl
late_statement lines place from (Opt k v) g s n h = refl
late_statement lines place from NoEffect g s n h = refl

late_placed : (lines : Lines) (place : ℕ) (p : Placed) (g : List ℕ) (s : Scope) (n : ℕ) → n ≤ place → members_at (table.with_placed lines place p) g s n ≡ members_at lines g s n
late_placed lines place at.EndOfBlock g s n h = refl
late_placed lines place (at.Line l) g s n h = late_statement lines place l.scope l.statement g s n h

all_late : (ps : List Placed) (lines : Lines) (place : ℕ) (g : List ℕ) (s : Scope) (n : ℕ) → n ≤ place → members_at (groups_from lines place ps) g s n ≡ members_at lines g s n
all_late [] lines place g s n h = refl
all_late (p ∷ ps) lines place g s n h = all_late ps (table.with_placed lines place p) (place + 1) g s n (omega (arith, h)) ∙ late_placed lines place p g s n h

up_to : (ps : List Placed) (lines : Lines) (known : Known) (place k : ℕ) (g : List ℕ) (s : Scope) → Tells lines place known → members_at (groups_from lines place ps) g s (place + k) ≡ fold group.with_placed known (take k ps) g s
up_to ps lines known place zero g s tells = all_late ps lines place g s (place + 0) (omega arith) ∙ tells g s (place + 0) (omega arith)
up_to [] lines known place (suc k) g s tells = tells g s (place + suc k) (omega arith)
up_to (p ∷ ps) lines known place (suc k) g s tells =
    ap (λ (n : ℕ). members_at (groups_from (table.with_placed lines place p) (place + 1) ps) g s n) (let e : place + suc k ≡ (place + 1) + k = omega arith in e)
    ∙ up_to ps (table.with_placed lines place p) (group.with_placed known p) (place + 1) k g s (tells_placed lines known place p tells)

tells_empty : Tells named.empty 0 (λ g s. None)
tells_empty g s n h = ap (λ (o : Option (List GroupLine)). members_by (lines_in o) s n) (named.get-empty (slice_cmp nat_cmp) g)

-- the lines of a group tell its members at each place
pub table_tells : (placed : List Placed) (lines : Lines) (of_group : List GroupLine) (g : List ℕ) (s : Scope) (n : ℕ)
    → lines ≡ groups_of placed → of_group ≡ lines_of lines g → members_by of_group s n ≡ members_before placed g s n
table_tells placed lines of_group g s n e here =
    ap (λ (ls : List GroupLine). members_by ls s n) here
    ∙ ap (λ (t : Lines). members_at t g s n) e
    ∙ ap (λ (m : ℕ). members_at (groups_of placed) g s m) (let zero_more : n ≡ 0 + n = omega arith in zero_more)
    ∙ up_to placed named.empty (λ g s. None) 0 n g s tells_empty

one_counted : (b : Bool) (xs : Words) (known : Option Words) (more : Words) → with_items xs (members_in (cond b (Some (with_items (members_in known) more)) known)) ≡ cond b (with_items (with_items xs (members_in known)) more) (with_items xs (members_in known))
one_counted true xs known more = items_of_items xs (members_in known) more
one_counted false xs known more = refl

counted : (scope : Scope) (n : ℕ) (ls : List GroupLine) (xs : Words) (known : Option Words) → with_items xs (members_in (fold (with_line scope n) known ls)) ≡ fold (table.with_counted scope n) (with_items xs (members_in known)) ls
counted scope n [] xs known = refl
counted scope n (l ∷ ls) xs known =
    counted scope n ls xs (with_line scope n known l)
    ∙ ap (λ (ys : Words). fold (table.with_counted scope n) ys ls) (one_counted (nat_lt l.place n && sees scope l.scope) xs known l.members)

-- the members of a group are those that its lines give, one after the other
pub members_of_lines : (scope : Scope) (n : ℕ) (ls : List GroupLine) (xs : Words) → table.lines_counted ls scope n xs ≡ with_items xs (members_in (members_by ls scope n))
members_of_lines scope n ls xs = sym (counted scope n ls xs None)
