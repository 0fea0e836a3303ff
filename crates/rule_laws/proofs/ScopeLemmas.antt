-- Blocks have one scope.
use Rattle.std.proofs.Common.{◌≡◌, ℕ, suc, zero, List, [], ◌∷◌, ◌++◌, Bool, true, false, length, Result, Ok, Err, Option, Some, None, refl, ap, ◌∙◌, sym, subst, cond}
use Rattle.std.specs.Prelude.{nat_lt, ◌-◌, map}
use Rattle.std.specs.List.{flat_map, list_all}
use Rattle.std.specs.FinMap as named
use Rattle.std.proofs.lemmas.Bool.{and_parts}
use Rattle.std.proofs.lemmas.List.{append-nil, append_assoc}
use Rattle.conf_lex.specs.Statements.{statement}
use Rattle.conf_lex.specs.declared.fault.LexFault.{LexFault}
use Rattle.conf_lex.specs.declared.statement.Statement.{Statement}
use Rattle.conf_lex.specs.declared.statement.Statement.TheVariants.{Blank, Repo, Rule, Group, Include, Subconf, Opt, NoEffect}
use Rattle.conf_groups.specs.Files.{Files, by_name, is_missing, named_by, scope_of}
use Rattle.conf_groups.specs.Lines.{lines_of}
use Rattle.conf_groups.specs.Splicing.{Spliced, Piece, State, Line, Front, after, before_all, boundary, brought, end, fault_at, front, is_too_large, line, main_name, next, placed_line, refusal, rest, section, spliced, spliced_from, start, unless_refused, whole}
use Rattle.conf_groups.specs.declared.conf_file.ConfFile.{ConfFile}
use Rattle.conf_groups.specs.declared.limits.TheConstants.{MAX_LINES, MAX_SPLICED_BYTES}
use Rattle.conf_groups.specs.declared.fault.ConfKind.{ConfKind}
use Rattle.conf_groups.specs.declared.fault.ConfKind.TheVariants.{TooLong, NoFile}
use Rattle.conf_groups.specs.declared.placed.Scope.{Scope}
use Rattle.conf_groups.specs.declared.placed.Scope.TheVariants.{Main, Sub}
use Rattle.conf_groups.specs.declared.placed.Placed.{Placed}
use Rattle.conf_groups.specs.declared.placed.Placed.TheVariants as at
use Rattle.conf_groups.specs.declared.placed.PlacedLine.{PlacedLine}
use Rattle.rule_laws.specs.Conf.{goes_on}
use Rattle.rule_laws.specs.Laws.{BlocksHaveOneScope}

-- the lines up to the next end of a block have the scope, and so on with one scope for each
abbrev Runs : Scope → List Placed → Type 0
Runs s [] = Unit {0}
Runs s (at.EndOfBlock ∷ ps) = (t : Scope) × Runs t ps
Runs s (at.Line l ∷ ps) = (l.scope ≡ s) × Runs s ps

-- the same of what is to come
abbrev Comes : Scope → List Piece → Type 0
Comes s [] = Unit {0}
Comes s (boundary ∷ ps) = (t : Scope) × Comes t ps
Comes s (whole t file ∷ ps) = (t ≡ s) × Comes s ps
Comes s (rest t file n texts ∷ ps) = (t ≡ s) × Comes s ps

-- what was placed may go on with lines of the scope
abbrev EndsIn : Scope → List Placed → Type 0
EndsIn s placed = (more : List Placed) → Runs s more → Runs Main (placed ++ more)

abbrev Fine : Front → Type 0
Fine (end placed) = Runs Main placed
Fine (line l s) = EndsIn l.scope s.placed × Comes l.scope s.coming

-- ---- what a statement brings

wholes_come : (s : Scope) (names : List (List ℕ)) (ps : List Piece) → Comes s ps → Comes s (map (whole s) names ++ ps)
wholes_come s [] ps h = h
wholes_come s (n ∷ names) ps h = (refl, wholes_come s names ps h)

sections_come : (s : Scope) (names : List (List ℕ)) (ps : List Piece) → Comes s ps → (t : Scope) × Comes t (flat_map section names ++ ps)
sections_come s [] ps h = (s, h)
sections_come s (n ∷ names) ps h = (Sub (scope_of n), (refl, sections_come s names ps h))

brought_comes : (files : Files) (s : Scope) (said : Statement) (ps : List Piece) → Comes s ps → Comes s (brought files s said ++ ps)
brought_comes files s (Include p) ps h = wholes_come s (named_by files p) ps h
brought_comes files s (Subconf p) ps h = sections_come s (named_by files p) ps h
brought_comes files s Blank ps h = h
brought_comes files s (Repo ws) ps h = h
brought_comes files s (Rule p r u) ps h = h
brought_comes files s (Group g ws) ps h = h
brought_comes files s (Opt k v) ps h = h
brought_comes files s NoEffect ps h = h

-- ---- one place more

pushed_runs : (placed more : List Placed) (p : Placed) → Runs Main (placed ++ p ∷ more) → Runs Main ((placed ++ p ∷ []) ++ more)
pushed_runs placed more p h = subst (Runs Main) (sym (append_assoc placed (p ∷ []) more)) h

end_pushed : (s t : Scope) (placed : List Placed) → EndsIn s placed → EndsIn t (placed ++ at.EndOfBlock ∷ [])
end_pushed s t placed h more runs = pushed_runs placed more at.EndOfBlock (h (at.EndOfBlock ∷ more) (t, runs))

line_pushed : (l : Line) (said : Statement) (placed : List Placed) → EndsIn l.scope placed → EndsIn l.scope (placed ++ placed_line l said ∷ [])
line_pushed l said placed h more runs = pushed_runs placed more (placed_line l said) (h (placed_line l said ∷ more) (refl, runs))

all_run : (s : Scope) (placed : List Placed) → EndsIn s placed → Runs Main placed
all_run s placed h = subst (Runs Main) (append-nil placed) (h [] tt)

-- ---- the next line

opened : (s t : Scope) (file : List ℕ) (placed : List Placed) (files : Files) (bytes : ℕ) (over : Bool) (ps : List Piece) (texts : List (List ℕ))
    → t ≡ s → EndsIn s placed → Comes s ps → Fine (next placed files bytes ps)
    → Fine (elim texts as (λ x. Front) [
      | [] ↦ next placed files bytes ps
      | (text ∷ more) ↦
          line (record { scope = t; file = file; number = 1; over = over; text = text })
          (record { placed = placed; unspliced = files; bytes = bytes; coming = rest t file 2 more ∷ ps })
    ])
opened s t file placed files bytes over ps [] e h g more = more
opened s t file placed files bytes over ps (text ∷ texts) e h g more = (subst (λ (c : Scope). EndsIn c placed) (sym e) h, (refl, subst (λ (c : Scope). Comes c ps) (sym e) g))

whole_fine : (s t : Scope) (file : List ℕ) (placed : List Placed) (files : Files) (bytes : ℕ) (ps : List Piece) (found : Option (List ℕ))
    → t ≡ s → EndsIn s placed → Comes s ps → ((files' : Files) (bytes' : ℕ) → Fine (next placed files' bytes' ps))
    → Fine (elim found as (λ x. Front) [
      | None ↦ next placed files bytes ps
      | (Some content) ↦ elim (lines_of content) as (λ x. Front) [
        | [] ↦ next placed (named.remove files file) (bytes - length content) ps
        | (text ∷ texts) ↦
            line (record { scope = t; file = file; number = 1; over = nat_lt bytes (length content); text = text })
            (record { placed = placed; unspliced = named.remove files file; bytes = bytes - length content; coming = rest t file 2 texts ∷ ps })
      ]
    ])
whole_fine s t file placed files bytes ps None e h g more = more files bytes
whole_fine s t file placed files bytes ps (Some content) e h g more =
    opened s t file placed (named.remove files file) (bytes - length content) (nat_lt bytes (length content)) ps (lines_of content) e h g
    (more (named.remove files file) (bytes - length content))

next_fine : (coming : List Piece) (s : Scope) (placed : List Placed) (files : Files) (bytes : ℕ) → EndsIn s placed → Comes s coming → Fine (next placed files bytes coming)
next_fine [] s placed files bytes h g = all_run s placed h
next_fine (boundary ∷ ps) s placed files bytes h g = next_fine ps g.0 (placed ++ at.EndOfBlock ∷ []) files bytes (end_pushed s g.0 placed h) g.1
next_fine (rest t file n [] ∷ ps) s placed files bytes h g = next_fine ps s placed files bytes h g.1
next_fine (rest t file n (text ∷ texts) ∷ ps) s placed files bytes h g =
    (subst (λ (c : Scope). EndsIn c placed) (sym g.0) h, (refl, subst (λ (c : Scope). Comes c ps) (sym g.0) g.1))
next_fine (whole t file ∷ ps) s placed files bytes h g =
    whole_fine s t file placed files bytes ps (named.get files file) g.0 h g.1 (λ files' bytes'. next_fine ps s placed files' bytes' h g.1)

-- ---- all lines

refused_not_ok : (l : Line) (r : Option ConfKind) (due : Spliced) (placed : List Placed) → unless_refused l r due ≡ Ok placed → due ≡ Ok placed
refused_not_ok l (Some k) due placed h = cc
refused_not_ok l None due placed h = h

ok_same : (xs ys : List Placed) → let a : Spliced = Ok xs in let b : Spliced = Ok ys in a ≡ b → xs ≡ ys
ok_same xs ys h = cc

after_fine : (s : State) (l : Line) (said : Result Statement LexFault) → EndsIn l.scope s.placed → Comes l.scope s.coming → Fine (after s l said)
after_fine s l (Err e) h g = tt
after_fine s l (Ok said) h g =
    next_fine (brought s.unspliced l.scope said ++ s.coming) l.scope (s.placed ++ placed_line l said ∷ []) s.unspliced s.bytes
    (line_pushed l said s.placed h) (brought_comes s.unspliced l.scope said s.coming g)

run_fine : (files : Files) (room : ℕ) (fr : Front) (placed : List Placed) → Fine fr → spliced_from files room fr ≡ Ok placed → Runs Main placed
unfolding spliced_from
run_fine files zero (end xs) placed fine h = subst (Runs Main) (ok_same xs placed h) fine
run_fine files (suc room) (end xs) placed fine h = subst (Runs Main) (ok_same xs placed h) fine
run_fine files zero (line l s) placed fine h =
    let clash : Err (fault_at l TooLong) ≡ Ok placed = refused_not_ok l (refusal files true l.scope (statement l.text)) (Err (fault_at l TooLong)) placed h in
    cc
run_fine files (suc room) (line l s) placed fine h =
    run_fine files room (after s l (statement l.text)) placed
    (after_fine s l (statement l.text) fine.0 fine.1)
    (refused_not_ok l (refusal files l.over l.scope (statement l.text)) (spliced_from files room (after s l (statement l.text))) placed h)

past : (b : Bool) (k : ConfKind) (due : Spliced) (placed : List Placed) → cond b (before_all k) due ≡ Ok placed → due ≡ Ok placed
past true k due placed h = cc
past false k due placed h = h

pub conf_runs : (list : List ConfFile) (placed : List Placed) → spliced list ≡ Ok placed → Runs Main placed
conf_runs list placed h =
    run_fine (by_name list) MAX_LINES (front (start (by_name list))) placed
    (next_fine (whole Main main_name ∷ []) Main [] (by_name list) MAX_SPLICED_BYTES (λ more runs. runs) (refl, tt))
    (past (is_missing (by_name list) main_name) (NoFile main_name) _ placed
    (past (is_too_large (by_name list)) TooLong _ placed h))

-- ---- blocks

inside : (s : Scope) (inner : List Placed) (l : PlacedLine) (more : List Placed) → list_all goes_on inner ≡ true → Runs s (inner ++ at.Line l ∷ more) → l.scope ≡ s
inside s [] l more go_on h = h.0
inside s (at.EndOfBlock ∷ inner) l more go_on h = absurd (let bad : false ≡ true = go_on in cc)
inside s (at.Line m ∷ inner) l more go_on h = inside s inner l more (and_parts (goes_on (at.Line m)) (list_all goes_on inner) go_on).1 h.1

behind : (s : Scope) (before : List Placed) (o : PlacedLine) (inner : List Placed) (l : PlacedLine) (more : List Placed) → list_all goes_on inner ≡ true
    → Runs s (before ++ at.Line o ∷ (inner ++ at.Line l ∷ more)) → l.scope ≡ o.scope
behind s [] o inner l more go_on h = inside s inner l more go_on h.1 ∙ sym h.0
behind s (at.EndOfBlock ∷ before) o inner l more go_on h = behind h.0 before o inner l more go_on h.1
behind s (at.Line m ∷ before) o inner l more go_on h = behind s before o inner l more go_on h.1

pub one_scope : BlocksHaveOneScope
one_scope files placed before l block is there =
    behind Main block.before block.opening block.inner l there.0 block.go_on
    (subst (Runs Main) (there.1 ∙ ap (λ (lines : List Placed). lines ++ at.Line l ∷ there.0) block.are ∙ append_assoc block.before (at.Line block.opening ∷ block.inner) (at.Line l ∷ there.0))
    (conf_runs files placed is))
