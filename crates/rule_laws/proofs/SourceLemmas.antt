-- Where the scopes of lines come from.
use Rattle.std.proofs.Common.{◌≡◌, ℕ, suc, zero, List, [], ◌∷◌, ◌++◌, Bool, true, false, length, Contains, Result, Ok, Err, Option, Some, None, inl, inr, refl, sym, subst, cond}
use Rattle.std.specs.Prelude.{nat_lt, ◌-◌, map, filter}
use Rattle.std.specs.List.{flat_map}
use Rattle.std.specs.FinMap as named
use Rattle.conf_lex.specs.Statements.{statement}
use Rattle.conf_lex.specs.declared.fault.LexFault.{LexFault}
use Rattle.conf_lex.specs.declared.statement.Statement.{Statement}
use Rattle.conf_lex.specs.declared.statement.Statement.TheVariants.{Blank, Repo, Rule, Group, Include, Subconf, Opt, NoEffect}
use Rattle.conf_groups.specs.Files.{Files, by_name, fits, has_star, is_missing, named_by, scope_of}
use Rattle.conf_groups.specs.Lines.{lines_of}
use Rattle.conf_groups.specs.Splicing.{Spliced, Piece, State, Line, Front, after, before_all, boundary, brought, end, fault_at, front, in_subconf, is_too_large, line, main_name, next, placed_line, refusal, rest, section, spliced_from, start, unless_refused, whole}
use Rattle.conf_groups.specs.declared.limits.TheConstants.{MAX_LINES, MAX_SPLICED_BYTES}
use Rattle.conf_groups.specs.declared.fault.ConfKind.{ConfKind}
use Rattle.conf_groups.specs.declared.fault.ConfKind.TheVariants.{TooLong, NoFile, SubconfInSubconf}
use Rattle.conf_groups.specs.declared.placed.Scope.{Scope}
use Rattle.conf_groups.specs.declared.placed.Scope.TheVariants.{Main, Sub}
use Rattle.conf_groups.specs.declared.placed.Placed.{Placed}
use Rattle.conf_groups.specs.declared.placed.Placed.TheVariants as at
use Rattle.conf_groups.specs.declared.placed.PlacedLine.{PlacedLine}
use Rattle.rule_laws.specs.Conf.{HasScope, IsBehind, Names}
use Rattle.rule_laws.specs.Laws.{ScopesComeFromLines}
use Rattle.rule_laws.proofs.ListLemmas.{cut, cut_stays, first_or_rest, here, in_none, nothing_at, only, there}

-- ---- files that a word names

first_passes : {X : Type 0} (test : X → Bool) (x : X) (xs : List X) (y : X) (b : Bool) → test x ≡ b → (Contains xs y → test y ≡ true) → Contains (cond b (x ∷ xs) xs) y → test y ≡ true
first_passes {X} test x xs y true e on c =
    elim (first_or_rest x xs y c) [
      | inl same ↦ subst (λ (z : X). test z ≡ true) same e
      | inr later ↦ on later
    ]
first_passes test x xs y false e on c = on c

in_filter : {X : Type 0} (test : X → Bool) (xs : List X) (y : X) → Contains (filter test xs) y → test y ≡ true
in_filter test [] y c = absurd (in_none y c)
in_filter test (x ∷ xs) y c = first_passes test x (filter test xs) y (test x) refl (in_filter test xs y) c

names : (files : Files) (word file : List ℕ) → Contains (named_by files word) file → Names word file
names files word file c = by_star (has_star word) refl c
  where
    alone : (b : Bool) → Contains (cond b (word ∷ []) []) file → word ≡ file
    alone true d = only word file d
    alone false d = absurd (in_none file d)

    by_star : (b : Bool) → has_star word ≡ b → Contains (cond b (filter (fits word) (named.keys files)) (cond (named.contains_key files word) (word ∷ []) [])) file → Names word file
    by_star true e d = inr (e, in_filter (fits word) (named.keys files) file d)
    by_star false e d = inl (e, sym (alone (named.contains_key files word) d))

-- ---- what is placed, and what is to come

-- each line has a scope of its file, by the lines before it
abbrev LinesHave : List Placed → Type 0
LinesHave placed = (before : List Placed) (l : PlacedLine) → IsBehind placed before l → HasScope before l.file l.scope

abbrev Come : List Placed → List Piece → Type 0
Come placed [] = Unit {0}
Come placed (boundary ∷ ps) = Come placed ps
Come placed (whole s file ∷ ps) = HasScope placed file s × Come placed ps
Come placed (rest s file n texts ∷ ps) = HasScope placed file s × Come placed ps

abbrev Fine : Front → Type 0
Fine (end placed) = LinesHave placed
Fine (line l s) = LinesHave s.placed × HasScope s.placed l.file l.scope × Come s.placed s.coming

no_lines : LinesHave []
no_lines before l behind = absurd (nothing_at before (at.Line l) behind.0 behind.1)

still_has : (placed : List Placed) (p : Placed) (file : List ℕ) (s : Scope) → HasScope placed file s → HasScope (placed ++ p ∷ []) file s
still_has placed p file s (inl main) = inl main
still_has placed p file s (inr (earlier, by, behind, splices)) = inr (earlier, by, (behind.0 ++ p ∷ [], cut_stays placed earlier (at.Line by) behind.0 p behind.1), splices)

still_come : (placed : List Placed) (p : Placed) (ps : List Piece) → Come placed ps → Come (placed ++ p ∷ []) ps
still_come placed p [] h = tt
still_come placed p (boundary ∷ ps) h = still_come placed p ps h
still_come placed p (whole s file ∷ ps) h = (still_has placed p file s h.0, still_come placed p ps h.1)
still_come placed p (rest s file n texts ∷ ps) h = (still_has placed p file s h.0, still_come placed p ps h.1)

end_pushed : (placed : List Placed) → LinesHave placed → LinesHave (placed ++ at.EndOfBlock ∷ [])
end_pushed placed h before l behind =
    elim (cut placed at.EndOfBlock before (at.Line l) behind.0 behind.1) [
      | inl (at_end, last, none) ↦ absurd (let bad : at.Line l ≡ at.EndOfBlock = last in cc)
      | inr (inner, cut_at, more) ↦ h before l (inner, cut_at)
    ]

line_pushed : (placed : List Placed) (m : PlacedLine) → LinesHave placed → HasScope placed m.file m.scope → LinesHave (placed ++ at.Line m ∷ [])
line_pushed placed m h has before l behind =
    elim (cut placed (at.Line m) before (at.Line l) behind.0 behind.1) [
      | inl (at_end, last, none) ↦
          let same : l ≡ m = line_is last in
          subst (λ (ls : List Placed). HasScope ls l.file l.scope) (sym at_end) (subst (λ (k : PlacedLine). HasScope placed k.file k.scope) (sym same) has)
      | inr (inner, cut_at, more) ↦ h before l (inner, cut_at)
    ]
  where
    line_is : {a b : PlacedLine} → at.Line a ≡ at.Line b → a ≡ b
    line_is e = cc

-- ---- what a statement brings

wholes_come : (placed : List Placed) (s : Scope) (files : List (List ℕ)) (ps : List Piece) → ((file : List ℕ) → Contains files file → HasScope placed file s) → Come placed ps
    → Come placed (map (whole s) files ++ ps)
wholes_come placed s [] ps f h = h
wholes_come placed s (n ∷ files) ps f h = (f n (here n files), wholes_come placed s files ps (λ file c. f file (there n files file c)) h)

sections_come : (placed : List Placed) (files : List (List ℕ)) (ps : List Piece) → ((file : List ℕ) → Contains files file → HasScope placed file (Sub (scope_of file))) → Come placed ps
    → Come placed (flat_map section files ++ ps)
sections_come placed [] ps f h = h
sections_come placed (n ∷ files) ps f h = (f n (here n files), sections_come placed files ps (λ file c. f file (there n files file c)) h)

main_alone : (all : Files) (over : Bool) (s : Scope) (word : List ℕ) → refusal all over s (Ok (Subconf word)) ≡ None → s ≡ Main
main_alone all over s word h = by_missing (is_missing all word) h
  where
    by_scope : (t : Scope) → in_subconf t ≡ None → t ≡ Main
    by_scope Main e = refl
    by_scope (Sub n) e = absurd (let bad : Some SubconfInSubconf ≡ None = e in cc)

    by_over : (b : Bool) → cond b (Some TooLong) (in_subconf s) ≡ None → s ≡ Main
    by_over true e = absurd (let bad : Some TooLong ≡ None = e in cc)
    by_over false e = by_scope s e

    by_missing : (b : Bool) → cond b (Some (NoFile word)) (cond over (Some TooLong) (in_subconf s)) ≡ None → s ≡ Main
    by_missing true e = absurd (let bad : Some (NoFile word) ≡ None = e in cc)
    by_missing false e = by_over over e

module _ (all files : Files) (over : Bool) (placed : List Placed) (l : Line) where
  abbrev with_it : Statement → List Placed
  with_it said = placed ++ placed_line l said ∷ []

  brought_come : (said : Statement) (ps : List Piece) → refusal all over l.scope (Ok said) ≡ None → Come (with_it said) ps → Come (with_it said) (brought files l.scope said ++ ps)
  brought_come (Include word) ps e h =
      wholes_come (with_it (Include word)) l.scope (named_by files word) ps (λ file c. inr (placed, record { scope = l.scope; file = l.file; line = l.number; statement = Include word }, ([], refl), (names files word file c, refl))) h
  brought_come (Subconf word) ps e h =
      sections_come (with_it (Subconf word)) (named_by files word) ps
      (λ file c. inr (placed, record { scope = l.scope; file = l.file; line = l.number; statement = Subconf word }, ([], refl), (names files word file c, refl, main_alone all over l.scope word e))) h
  brought_come Blank ps e h = h
  brought_come (Repo ws) ps e h = h
  brought_come (Rule p r u) ps e h = h
  brought_come (Group g ws) ps e h = h
  brought_come (Opt k v) ps e h = h
  brought_come NoEffect ps e h = h

-- ---- the next line

opened : (s : Scope) (file : List ℕ) (placed : List Placed) (files : Files) (bytes : ℕ) (over : Bool) (ps : List Piece) (texts : List (List ℕ))
    → LinesHave placed → HasScope placed file s → Come placed ps → Fine (next placed files bytes ps)
    → Fine (elim texts as (λ x. Front) [
      | [] ↦ next placed files bytes ps
      | (text ∷ more) ↦
          line (record { scope = s; file = file; number = 1; over = over; text = text })
          (record { placed = placed; unspliced = files; bytes = bytes; coming = rest s file 2 more ∷ ps })
    ])
opened s file placed files bytes over ps [] h has g more = more
opened s file placed files bytes over ps (text ∷ texts) h has g more = (h, has, (has, g))

whole_fine : (s : Scope) (file : List ℕ) (placed : List Placed) (files : Files) (bytes : ℕ) (ps : List Piece) (found : Option (List ℕ))
    → LinesHave placed → HasScope placed file s → Come placed ps → ((files' : Files) (bytes' : ℕ) → Fine (next placed files' bytes' ps))
    → Fine (elim found as (λ x. Front) [
      | None ↦ next placed files bytes ps
      | (Some content) ↦ elim (lines_of content) as (λ x. Front) [
        | [] ↦ next placed (named.remove files file) (bytes - length content) ps
        | (text ∷ texts) ↦
            line (record { scope = s; file = file; number = 1; over = nat_lt bytes (length content); text = text })
            (record { placed = placed; unspliced = named.remove files file; bytes = bytes - length content; coming = rest s file 2 texts ∷ ps })
      ]
    ])
whole_fine s file placed files bytes ps None h has g more = more files bytes
whole_fine s file placed files bytes ps (Some content) h has g more =
    opened s file placed (named.remove files file) (bytes - length content) (nat_lt bytes (length content)) ps (lines_of content) h has g (more (named.remove files file) (bytes - length content))

next_fine : (coming : List Piece) (placed : List Placed) (files : Files) (bytes : ℕ) → LinesHave placed → Come placed coming → Fine (next placed files bytes coming)
next_fine [] placed files bytes h g = h
next_fine (boundary ∷ ps) placed files bytes h g = next_fine ps (placed ++ at.EndOfBlock ∷ []) files bytes (end_pushed placed h) (still_come placed at.EndOfBlock ps g)
next_fine (rest s file n [] ∷ ps) placed files bytes h g = next_fine ps placed files bytes h g.1
next_fine (rest s file n (text ∷ texts) ∷ ps) placed files bytes h g = (h, g.0, (g.0, g.1))
next_fine (whole s file ∷ ps) placed files bytes h g = whole_fine s file placed files bytes ps (named.get files file) h g.0 g.1 (λ files' bytes'. next_fine ps placed files' bytes' h g.1)

-- ---- all lines

not_refused : (l : Line) (r : Option ConfKind) (due : Spliced) (placed : List Placed) → unless_refused l r due ≡ Ok placed → (r ≡ None) × (due ≡ Ok placed)
not_refused l (Some k) due placed h = absurd (let bad : Err (fault_at l k) ≡ Ok placed = h in cc)
not_refused l None due placed h = (refl, h)

ok_same : (xs ys : List Placed) → let a : Spliced = Ok xs in let b : Spliced = Ok ys in a ≡ b → xs ≡ ys
ok_same xs ys h = cc

after_fine : (all : Files) (s : State) (l : Line) (said : Result Statement LexFault) → refusal all l.over l.scope said ≡ None → LinesHave s.placed → HasScope s.placed l.file l.scope → Come s.placed s.coming
    → Fine (after s l said)
after_fine all s l (Err e) none h has g = no_lines
after_fine all s l (Ok said) none h has g =
    next_fine (brought s.unspliced l.scope said ++ s.coming) (s.placed ++ placed_line l said ∷ []) s.unspliced s.bytes
    (line_pushed s.placed (record { scope = l.scope; file = l.file; line = l.number; statement = said }) h has)
    (brought_come all s.unspliced l.over s.placed l said s.coming none (still_come s.placed (placed_line l said) s.coming g))

run_fine : (files : Files) (room : ℕ) (fr : Front) (placed : List Placed) → Fine fr → spliced_from files room fr ≡ Ok placed → LinesHave placed
unfolding spliced_from
run_fine files zero (end xs) placed fine h = subst LinesHave (ok_same xs placed h) fine
run_fine files (suc room) (end xs) placed fine h = subst LinesHave (ok_same xs placed h) fine
run_fine files zero (line l s) placed fine h =
    let clash : Err (fault_at l TooLong) ≡ Ok placed = (not_refused l (refusal files true l.scope (statement l.text)) (Err (fault_at l TooLong)) placed h).1 in
    absurd cc
run_fine files (suc room) (line l s) placed fine h =
    let on = not_refused l (refusal files l.over l.scope (statement l.text)) (spliced_from files room (after s l (statement l.text))) placed h in
    run_fine files room (after s l (statement l.text)) placed (after_fine files s l (statement l.text) on.0 fine.0 fine.1 fine.2) on.1

past : (b : Bool) (k : ConfKind) (due : Spliced) (placed : List Placed) → cond b (before_all k) due ≡ Ok placed → due ≡ Ok placed
past true k due placed h = cc
past false k due placed h = h

pub scopes_from_lines : ScopesComeFromLines
scopes_from_lines list placed before l is behind =
    run_fine (by_name list) MAX_LINES (front (start (by_name list))) placed
    (next_fine (whole Main main_name ∷ []) [] (by_name list) MAX_SPLICED_BYTES no_lines (inl (refl, refl), tt))
    (past (is_missing (by_name list) main_name) (NoFile main_name) _ placed
    (past (is_too_large (by_name list)) TooLong _ placed is)) before l behind
