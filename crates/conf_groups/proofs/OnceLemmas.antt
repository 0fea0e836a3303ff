-- No file is spliced twice.
use Rattle.std.proofs.Common.{◌≡◌, ℕ, suc, zero, List, [], ◌∷◌, ◌++◌, ◌+◌, Bool, true, false, length, Result, Ok, Err, Option, Some, None, refl, ap, ◌∙◌, sym, subst, cond, inl, inr}
use Rattle.std.specs.Prelude.{nat_lt, ◌-◌, map}
use Rattle.std.specs.List.{flat_map}
use Rattle.std.specs.Str.{bytes_eq}
use Rattle.std.specs.FinMap as named
use Rattle.std.specs.Cmp.Lexicographic.{nat_list_cmp_total, texts_ties, same_text, nat_list_eq_equiv}
use Rattle.conf_lex.specs.Statements.{statement}
use Rattle.conf_lex.specs.declared.fault.LexFault.{LexFault}
use Rattle.conf_lex.specs.declared.statement.Statement.{Statement}
use Rattle.conf_lex.specs.declared.statement.Statement.TheVariants.{Blank, Repo, Rule, Group, Include, Subconf, Opt, NoEffect}
use Rattle.conf_groups.specs.Files.{Files, by_name, is_missing, named_by}
use Rattle.conf_groups.specs.Lines.{lines_of}
use Rattle.conf_groups.specs.Splicing.{Spliced, Piece, State, Line, Front, after, before_all, boundary, brought, end, fault_at, front, is_too_large, line, main_name, next, placed_line, refusal, rest, section, spliced_from, start, unless_refused, whole}
use Rattle.conf_groups.specs.Laws.{ArePlacedOnce, EachFileIsPlacedOnce, is_of, lines_from_file, numbered, placed_as}
use Rattle.conf_groups.specs.declared.limits.TheConstants.{MAX_LINES, MAX_SPLICED_BYTES}
use Rattle.conf_groups.specs.declared.fault.ConfKind.{ConfKind}
use Rattle.conf_groups.specs.declared.fault.ConfKind.TheVariants.{TooLong, NoFile}
use Rattle.conf_groups.specs.declared.placed.Scope.{Scope}
use Rattle.conf_groups.specs.declared.placed.Scope.TheVariants.{Main}
use Rattle.conf_groups.specs.declared.placed.Placed.{Placed}
use Rattle.conf_groups.specs.declared.placed.Placed.TheVariants.{EndOfBlock}

assoc : (xs ys zs : List Placed) → (xs ++ ys) ++ zs ≡ xs ++ (ys ++ zs)
assoc [] ys zs = refl
assoc (x ∷ xs) ys zs = ap (λ (l : List Placed). x ∷ l) (assoc xs ys zs)

append_nil : (xs : List Placed) → xs ++ [] ≡ xs
append_nil [] = refl
append_nil (x ∷ xs) = ap (λ (l : List Placed). x ∷ l) (append_nil xs)

cond_append : (b : Bool) (x : Placed) (ys zs : List Placed) → cond b (x ∷ (ys ++ zs)) (ys ++ zs) ≡ cond b (x ∷ ys) ys ++ zs
cond_append true x ys zs = refl
cond_append false x ys zs = refl

abbrev mine : List ℕ → List Placed → List Placed
mine name xs = lines_from_file name xs

mine_append : (name : List ℕ) (xs ys : List Placed) → mine name (xs ++ ys) ≡ mine name xs ++ mine name ys
mine_append name [] ys = refl
mine_append name (x ∷ xs) ys = ap (λ (l : List Placed). cond (is_of name x) (x ∷ l) l) (mine_append name xs ys) ∙ cond_append (is_of name x) x (mine name xs) (mine name ys)

-- the lines of another file aren't among them, and its own all are
none_of : (name : List ℕ) (scope : Scope) (file : List ℕ) (n : ℕ) (said : Result Statement LexFault) (ls : List Placed) → bytes_eq file name ≡ false → mine name (placed_as scope file n said ++ ls) ≡ mine name ls
none_of name scope file n (Ok said) ls h = ap (λ (b : Bool). cond b (placed_as scope file n (Ok said) ++ mine name ls) (mine name ls)) h
none_of name scope file n (Err e) ls h = refl

mine_of_other : (name : List ℕ) (scope : Scope) (file : List ℕ) (n : ℕ) (texts : List (List ℕ)) → bytes_eq file name ≡ false → mine name (numbered scope file n texts) ≡ []
mine_of_other name scope file n [] h = refl
mine_of_other name scope file n (text ∷ texts) h = none_of name scope file n (statement text) (numbered scope file (n + 1) texts) h ∙ mine_of_other name scope file (n + 1) texts h

all_of : (name : List ℕ) (scope : Scope) (file : List ℕ) (n : ℕ) (said : Result Statement LexFault) (ls : List Placed) → bytes_eq file name ≡ true → mine name (placed_as scope file n said ++ ls) ≡ placed_as scope file n said ++ mine name ls
all_of name scope file n (Ok said) ls h = ap (λ (b : Bool). cond b (placed_as scope file n (Ok said) ++ mine name ls) (mine name ls)) h
all_of name scope file n (Err e) ls h = refl

mine_of_own : (name : List ℕ) (scope : Scope) (file : List ℕ) (n : ℕ) (texts : List (List ℕ)) → bytes_eq file name ≡ true → mine name (numbered scope file n texts) ≡ numbered scope file n texts
mine_of_own name scope file n [] h = refl
mine_of_own name scope file n (text ∷ texts) h = all_of name scope file n (statement text) (numbered scope file (n + 1) texts) h ∙ ap (λ (l : List Placed). placed_as scope file n (statement text) ++ l) (mine_of_own name scope file (n + 1) texts h)

-- the file's lines that are still to come, where no file is opened any more
abbrev owed : List ℕ → List Piece → List Placed
owed name [] = []
owed name (boundary ∷ ps) = owed name ps
owed name (whole s g ∷ ps) = owed name ps
owed name (rest s file n texts ∷ ps) = mine name (numbered s file n texts) ++ owed name ps

owed_wholes : (name : List ℕ) (scope : Scope) (names : List (List ℕ)) (ps : List Piece) → owed name (map (whole scope) names ++ ps) ≡ owed name ps
owed_wholes name scope [] ps = refl
owed_wholes name scope (n ∷ names) ps = owed_wholes name scope names ps

owed_sections : (name : List ℕ) (names : List (List ℕ)) (ps : List Piece) → owed name (flat_map section names ++ ps) ≡ owed name ps
owed_sections name [] ps = refl
owed_sections name (n ∷ names) ps = owed_sections name names ps

owed_brought : (name : List ℕ) (files : Files) (scope : Scope) (said : Statement) (ps : List Piece) → owed name (brought files scope said ++ ps) ≡ owed name ps
owed_brought name files scope (Include p) ps = owed_wholes name scope (named_by files p) ps
owed_brought name files scope (Subconf p) ps = owed_sections name (named_by files p) ps
owed_brought name files scope Blank ps = refl
owed_brought name files scope (Repo ws) ps = refl
owed_brought name files scope (Rule p r u) ps = refl
owed_brought name files scope (Group g ws) ps = refl
owed_brought name files scope (Opt k v) ps = refl
owed_brought name files scope NoEffect ps = refl

-- A file's lines so far and those that are owed, by what of it is unspliced: nothing until it is opened, and
-- all its lines from then on.
abbrev Counted : List ℕ → Option (List ℕ) → Option (List ℕ) → List Placed → Type 0
Counted name all (Some content) total = (total ≡ []) × (all ≡ Some content)
Counted name all None total = ArePlacedOnce name all total

none_once : (name : List ℕ) (all : Option (List ℕ)) → ArePlacedOnce name all []
none_once name None = refl
none_once name (Some content) = inl refl

once : (name : List ℕ) (all found : Option (List ℕ)) (total : List Placed) → Counted name all found total → ArePlacedOnce name all total
once name all None total h = h
once name all (Some content) total h = subst (λ (xs : List Placed). ArePlacedOnce name all xs) (sym h.0) (none_once name all)

recount : (name : List ℕ) (all f g : Option (List ℕ)) (total other : List Placed) → f ≡ g → total ≡ other → Counted name all f total → Counted name all g other
recount name all f g total other e h k = subst (λ (o : Option (List ℕ)). Counted name all o other) e (subst (λ (t : List Placed). Counted name all f t) h k)

abbrev Fine : List ℕ → Option (List ℕ) → Front → Type 0
Fine name all (end placed) = ArePlacedOnce name all (mine name placed)
Fine name all (line l s) = Counted name all (named.get s.unspliced name) (mine name s.placed ++ (mine name (placed_as l.scope l.file l.number (statement l.text)) ++ owed name s.coming))

nothing_before : (xs ys : List Placed) → xs ++ ys ≡ [] → xs ≡ []
nothing_before [] ys h = refl
nothing_before (x ∷ xs) ys h = cc

nothing_after : (xs ys : List Placed) → xs ++ ys ≡ [] → ys ≡ []
nothing_after [] ys h = h
nothing_after (x ∷ xs) ys h = cc

get_removed : (files : Files) (file name : List ℕ) → named.get (named.remove files file) name ≡ cond (bytes_eq file name) None (named.get files name)
get_removed files file name =
    named.get-remove nat_list_cmp_total files file name
    ∙ ap (λ (b : Bool). cond b None (named.get files name)) (sym (texts_ties name file) ∙ nat_list_eq_equiv.symm name file)

-- a file that is opened owes all its lines, if it is the one
opening : (name file : List ℕ) (all : Option (List ℕ)) (files : Files) (content : List ℕ) (s : Scope) (placed ps : List Placed) (b : Bool)
    → named.get files file ≡ Some content → bytes_eq file name ≡ b
    → Counted name all (named.get files name) (mine name placed ++ ps)
    → Counted name all (cond b None (named.get files name)) (mine name placed ++ (mine name (numbered s file 1 (lines_of content)) ++ ps))
opening name file all files content s placed ps false found other counted =
    recount name all _ _ _ _ refl (ap (λ (xs : List Placed). mine name placed ++ (xs ++ ps)) (sym (mine_of_other name s file 1 (lines_of content) other))) counted
opening name file all files content s placed ps true found own counted =
    let key : file ≡ name = same_text file name (sym own) in
    let here : named.get files name ≡ Some content = ap (named.get files) (sym key) ∙ found in
    let unseen : (mine name placed ++ ps ≡ []) × (all ≡ Some content) = subst (λ (o : Option (List ℕ)). Counted name all o (mine name placed ++ ps)) here counted in
    let total : mine name placed ++ (mine name (numbered s file 1 (lines_of content)) ++ ps) ≡ numbered s name 1 (lines_of content) =
    ap (λ (xs : List Placed). xs ++ (mine name (numbered s file 1 (lines_of content)) ++ ps)) (nothing_before (mine name placed) ps unseen.0)
    ∙ ap (λ (xs : List Placed). mine name (numbered s file 1 (lines_of content)) ++ xs) (nothing_after (mine name placed) ps unseen.0)
    ∙ append_nil (mine name (numbered s file 1 (lines_of content)))
    ∙ mine_of_own name s file 1 (lines_of content) own
    ∙ ap (λ (f : List ℕ). numbered s f 1 (lines_of content)) key in
    subst (λ (o : Option (List ℕ)). ArePlacedOnce name o (mine name placed ++ (mine name (numbered s file 1 (lines_of content)) ++ ps))) (sym unseen.1) (inr (s, total))

opened_file : (name file : List ℕ) (all : Option (List ℕ)) (files : Files) (content : List ℕ) (s : Scope) (placed ps : List Placed)
    → named.get files file ≡ Some content
    → Counted name all (named.get files name) (mine name placed ++ ps)
    → Counted name all (named.get (named.remove files file) name) (mine name placed ++ (mine name (numbered s file 1 (lines_of content)) ++ ps))
opened_file name file all files content s placed ps found counted =
    recount name all _ _ _ _ (sym (get_removed files file name)) refl (opening name file all files content s placed ps (bytes_eq file name) found refl counted)

-- the first of a file's lines, and the others
regroup : (name : List ℕ) (all found : Option (List ℕ)) (xs : List Placed) (scope : Scope) (file : List ℕ) (n : ℕ) (text : List ℕ) (texts : List (List ℕ)) (ps : List Placed)
    → Counted name all found (xs ++ (mine name (numbered scope file n (text ∷ texts)) ++ ps))
    → Counted name all found (xs ++ (mine name (placed_as scope file n (statement text)) ++ (mine name (numbered scope file (n + 1) texts) ++ ps)))
regroup name all found xs scope file n text texts ps h =
    recount name all found found _ _ refl
    (ap (λ (l : List Placed). xs ++ l)
    (ap (λ (l : List Placed). l ++ ps) (mine_append name (placed_as scope file n (statement text)) (numbered scope file (n + 1) texts))
    ∙ assoc (mine name (placed_as scope file n (statement text))) (mine name (numbered scope file (n + 1) texts)) ps))
    h

opened : (name file : List ℕ) (all : Option (List ℕ)) (s : Scope) (placed : List Placed) (files : Files) (bytes : ℕ) (over : Bool) (ps : List Piece) (texts : List (List ℕ))
    → (Counted name all (named.get files name) (mine name placed ++ owed name ps) → Fine name all (next placed files bytes ps))
    → Counted name all (named.get files name) (mine name placed ++ (mine name (numbered s file 1 texts) ++ owed name ps))
    → Fine name all (elim texts as (λ x. Front) [
      | [] ↦ next placed files bytes ps
      | (text ∷ more) ↦
          line (record { scope = s; file = file; number = 1; over = over; text = text })
          (record { placed = placed; unspliced = files; bytes = bytes; coming = rest s file 2 more ∷ ps })
    ])
opened name file all s placed files bytes over ps [] more counted = more counted
opened name file all s placed files bytes over ps (text ∷ texts) more counted = regroup name all (named.get files name) (mine name placed) s file 1 text texts (owed name ps) counted

whole_fine : (name file : List ℕ) (all : Option (List ℕ)) (s : Scope) (placed : List Placed) (files : Files) (bytes : ℕ) (ps : List Piece) (found : Option (List ℕ))
    → named.get files file ≡ found
    → ((files' : Files) (bytes' : ℕ) → Counted name all (named.get files' name) (mine name placed ++ owed name ps) → Fine name all (next placed files' bytes' ps))
    → Counted name all (named.get files name) (mine name placed ++ owed name ps)
    → Fine name all (elim found as (λ x. Front) [
      | None ↦ next placed files bytes ps
      | (Some content) ↦ elim (lines_of content) as (λ x. Front) [
        | [] ↦ next placed (named.remove files file) (bytes - length content) ps
        | (text ∷ texts) ↦
            line (record { scope = s; file = file; number = 1; over = nat_lt bytes (length content); text = text })
            (record { placed = placed; unspliced = named.remove files file; bytes = bytes - length content; coming = rest s file 2 texts ∷ ps })
      ]
    ])
whole_fine name file all s placed files bytes ps None here more counted = more files bytes counted
whole_fine name file all s placed files bytes ps (Some content) here more counted =
    opened name file all s placed (named.remove files file) (bytes - length content) (nat_lt bytes (length content)) ps (lines_of content)
    (more (named.remove files file) (bytes - length content))
    (opened_file name file all files content s placed (owed name ps) here counted)

next_fine : (name : List ℕ) (all : Option (List ℕ)) (coming : List Piece) (placed : List Placed) (files : Files) (bytes : ℕ)
    → Counted name all (named.get files name) (mine name placed ++ owed name coming) → Fine name all (next placed files bytes coming)
next_fine name all [] placed files bytes c = subst (λ (xs : List Placed). ArePlacedOnce name all xs) (append_nil (mine name placed)) (once name all (named.get files name) _ c)
next_fine name all (boundary ∷ ps) placed files bytes c =
    next_fine name all ps (placed ++ EndOfBlock ∷ []) files bytes
    (recount name all _ _ _ _ refl (ap (λ (xs : List Placed). xs ++ owed name ps) (sym (mine_append name placed (EndOfBlock ∷ []) ∙ append_nil (mine name placed)))) c)
next_fine name all (rest s file n [] ∷ ps) placed files bytes c = next_fine name all ps placed files bytes c
next_fine name all (rest s file n (text ∷ texts) ∷ ps) placed files bytes c = regroup name all (named.get files name) (mine name placed) s file n text texts (owed name ps) c
next_fine name all (whole s file ∷ ps) placed files bytes c =
    whole_fine name file all s placed files bytes ps (named.get files file) refl (λ files' bytes'. next_fine name all ps placed files' bytes') c

refused_not_ok : (l : Line) (r : Option ConfKind) (due : Spliced) (placed : List Placed) → unless_refused l r due ≡ Ok placed → due ≡ Ok placed
refused_not_ok l (Some k) due placed h = cc
refused_not_ok l None due placed h = h

ok_same : (xs ys : List Placed) → let a : Spliced = Ok xs in let b : Spliced = Ok ys in a ≡ b → xs ≡ ys
ok_same xs ys h = cc

-- the line was placed
after_fine : (name : List ℕ) (all : Option (List ℕ)) (s : State) (l : Line) (said : Result Statement LexFault)
    → Counted name all (named.get s.unspliced name) (mine name s.placed ++ (mine name (placed_as l.scope l.file l.number said) ++ owed name s.coming))
    → Fine name all (after s l said)
after_fine name all s l (Err e) c = none_once name all
after_fine name all s l (Ok said) c =
    next_fine name all (brought s.unspliced l.scope said ++ s.coming) (s.placed ++ placed_line l said ∷ []) s.unspliced s.bytes
    (recount name all _ _ _ _ refl
    (sym (assoc (mine name s.placed) (mine name (placed_line l said ∷ [])) (owed name s.coming))
    ∙ ap (λ (xs : List Placed). xs ++ owed name s.coming) (sym (mine_append name s.placed (placed_line l said ∷ [])))
    ∙ ap (λ (xs : List Placed). mine name (s.placed ++ placed_line l said ∷ []) ++ xs) (sym (owed_brought name s.unspliced l.scope said s.coming)))
    c)

run_fine : (name : List ℕ) (all : Option (List ℕ)) (files : Files) (room : ℕ) (fr : Front) (placed : List Placed) → Fine name all fr → spliced_from files room fr ≡ Ok placed → ArePlacedOnce name all (mine name placed)
unfolding spliced_from
run_fine name all files zero (end xs) placed fine h = subst (λ (l : List Placed). ArePlacedOnce name all (mine name l)) (ok_same xs placed h) fine
run_fine name all files (suc room) (end xs) placed fine h = subst (λ (l : List Placed). ArePlacedOnce name all (mine name l)) (ok_same xs placed h) fine
run_fine name all files zero (line l s) placed fine h =
    let clash : Err (fault_at l TooLong) ≡ Ok placed = refused_not_ok l (refusal files true l.scope (statement l.text)) (Err (fault_at l TooLong)) placed h in
    cc
run_fine name all files (suc room) (line l s) placed fine h =
    run_fine name all files room (after s l (statement l.text)) placed
    (after_fine name all s l (statement l.text) fine)
    (refused_not_ok l (refusal files l.over l.scope (statement l.text)) (spliced_from files room (after s l (statement l.text))) placed h)

past : (b : Bool) (k : ConfKind) (due : Spliced) (placed : List Placed) → cond b (before_all k) due ≡ Ok placed → due ≡ Ok placed
past true k due placed h = cc
past false k due placed h = h

counted_first : (name : List ℕ) (all : Option (List ℕ)) → Counted name all all []
counted_first name None = refl
counted_first name (Some content) = (refl, refl)

start_fine : (name : List ℕ) (files : Files) → Fine name (named.get files name) (front (start files))
start_fine name files = next_fine name (named.get files name) (whole Main main_name ∷ []) [] files MAX_SPLICED_BYTES (counted_first name (named.get files name))

pub each_file_once : EachFileIsPlacedOnce
each_file_once = record {
  once = λ list name placed h.
      run_fine name (named.get (by_name list) name) (by_name list) MAX_LINES (front (start (by_name list))) placed (start_fine name (by_name list))
      (past (is_missing (by_name list) main_name) (NoFile main_name) _ placed
      (past (is_too_large (by_name list)) TooLong _ placed h));
}
