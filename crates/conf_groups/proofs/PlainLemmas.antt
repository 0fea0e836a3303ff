-- A conf whose main file names no files.
use Rattle.std.proofs.Common.{◌≡◌, ℕ, suc, zero, List, [], ◌∷◌, ◌++◌, ◌+◌, ◌≤◌, Bool, true, false, length, Option, Some, None, Result, Ok, Err, refl, ap, ◌∙◌, arith, cond}
use Rattle.std.proofs.lemmas.Bool.{le-ltb}
use Rattle.std.specs.Prelude.{◌&&◌, ◌-◌, not, nat_lt, is_some}
use Rattle.std.specs.FinMap as named
use Rattle.std.specs.List.{list_all}
use Rattle.conf_lex.specs.Statements.{statement}
use Rattle.conf_lex.specs.declared.fault.LexFault.{LexFault}
use Rattle.conf_lex.specs.declared.statement.Statement.{Statement}
use Rattle.conf_lex.specs.declared.statement.Statement.TheVariants.{Blank, Repo, Rule, Group, Include, Subconf, Opt, NoEffect}
use Rattle.conf_groups.specs.Files.{Files, by_name}
use Rattle.conf_groups.specs.Lines.{lines_of}
use Rattle.conf_groups.specs.Splicing.{Spliced, before_all, is_too_large, spliced_from, main_name, next, rest, start, State, Line, Front, front, line, end, after, unless_refused, refusal}
use Rattle.conf_groups.specs.Laws.{names_no_file, placed_as, numbered, PlainConfIsItsLines}
use Rattle.conf_groups.specs.declared.limits.TheConstants.{MAX_LINES, MAX_SPLICED_BYTES}
use Rattle.conf_groups.specs.declared.fault.ConfKind.{ConfKind}
use Rattle.conf_groups.specs.declared.fault.ConfKind.TheVariants.{TooLong, NoFile}
use Rattle.conf_groups.specs.declared.placed.Scope.{Scope}
use Rattle.conf_groups.specs.declared.placed.Scope.TheVariants.{Main}
use Rattle.conf_groups.specs.declared.placed.Placed.{Placed}

append_nil : (xs : List Placed) → xs ≡ xs ++ []
append_nil [] = refl
append_nil (x ∷ xs) = ap (λ (ys : List Placed). x ∷ ys) (append_nil xs)

one_more : (xs : List Placed) (y : Placed) (ys : List Placed) → (xs ++ y ∷ []) ++ ys ≡ xs ++ y ∷ ys
one_more [] y ys = refl
one_more (x ∷ xs) y ys = ap (λ (zs : List Placed). x ∷ zs) (one_more xs y ys)

and_left : (a b : Bool) → (a && b) ≡ true → a ≡ true
and_left true b h = refl
and_left false b h = h

and_right : (a b : Bool) → (a && b) ≡ true → b ≡ true
and_right true b h = h
and_right false b h = cc

at_end : (files : Files) (room : ℕ) (placed : List Placed) → spliced_from files room (end placed) ≡ Ok placed
unfolding spliced_from
at_end files zero placed = refl
at_end files (suc room) placed = refl

-- one line that names no file
step : (files : Files) (room : ℕ) (placed : List Placed) (seen : Files) (bytes : ℕ) (scope : Scope) (file : List ℕ) (n : ℕ) (text : List ℕ) (texts : List (List ℕ)) (said : Result Statement LexFault)
    → names_no_file said ≡ true
    → ((placed' : List Placed) → spliced_from files room (next placed' seen bytes (rest scope file (n + 1) texts ∷ [])) ≡ Ok (placed' ++ numbered scope file (n + 1) texts))
    → (let l : Line = record { scope = scope; file = file; number = n; over = false; text = text } in
    let s : State = record { placed = placed; unspliced = seen; bytes = bytes; coming = rest scope file (n + 1) texts ∷ [] } in
    unless_refused l (refusal files false scope said) (spliced_from files room (after s l said)))
    ≡ Ok (placed ++ (placed_as scope file n said ++ numbered scope file (n + 1) texts))
step files room placed seen bytes scope file n text texts (Err e) h more = cc
step files room placed seen bytes scope file n text texts (Ok (Include p)) h more = cc
step files room placed seen bytes scope file n text texts (Ok (Subconf p)) h more = cc
step files room placed seen bytes scope file n text texts (Ok Blank) h more = more _ ∙ ap (λ (xs : List Placed). Ok xs) (one_more placed _ _)
step files room placed seen bytes scope file n text texts (Ok (Repo ws)) h more = more _ ∙ ap (λ (xs : List Placed). Ok xs) (one_more placed _ _)
step files room placed seen bytes scope file n text texts (Ok (Rule p r u)) h more = more _ ∙ ap (λ (xs : List Placed). Ok xs) (one_more placed _ _)
step files room placed seen bytes scope file n text texts (Ok (Group g ws)) h more = more _ ∙ ap (λ (xs : List Placed). Ok xs) (one_more placed _ _)
step files room placed seen bytes scope file n text texts (Ok (Opt k v)) h more = more _ ∙ ap (λ (xs : List Placed). Ok xs) (one_more placed _ _)
step files room placed seen bytes scope file n text texts (Ok NoEffect) h more = more _ ∙ ap (λ (xs : List Placed). Ok xs) (one_more placed _ _)

plain_rest : (files : Files) (seen : Files) (bytes : ℕ) (scope : Scope) (file : List ℕ) (texts : List (List ℕ)) (n room : ℕ) (placed : List Placed)
    → list_all (λ t. names_no_file (statement t)) texts ≡ true → length texts ≤ room
    → spliced_from files room (next placed seen bytes (rest scope file n texts ∷ [])) ≡ Ok (placed ++ numbered scope file n texts)
unfolding spliced_from
plain_rest files seen bytes scope file [] n room placed h fits = at_end files room placed ∙ ap (λ (xs : List Placed). Ok xs) (append_nil placed)
plain_rest files seen bytes scope file (text ∷ texts) n zero placed h fits = let none : ⊥ = omega (arith, fits) in absurd none
plain_rest files seen bytes scope file (text ∷ texts) n (suc room) placed h fits =
    step files room placed seen bytes scope file n text texts (statement text) (and_left (names_no_file (statement text)) (list_all (λ t. names_no_file (statement t)) texts) h)
    (λ placed'. plain_rest files seen bytes scope file texts (n + 1) room placed' (and_right (names_no_file (statement text)) (list_all (λ t. names_no_file (statement t)) texts) h) (omega arith))

-- the file from its first line on
from_start : (files : Files) (seen : Files) (left : ℕ) (over : Bool) (texts : List (List ℕ))
    → over ≡ false → list_all (λ t. names_no_file (statement t)) texts ≡ true → length texts ≤ 65536
    → spliced_from files 65536 (elim texts as (λ x. Front) [
      | [] ↦ end []
      | (text ∷ more) ↦
          line (record { scope = Main; file = main_name; number = 1; over = over; text = text })
          (record { placed = []; unspliced = seen; bytes = left; coming = rest Main main_name 2 more ∷ [] })
    ]) ≡ Ok (numbered Main main_name 1 texts)
unfolding spliced_from
from_start files seen left over [] under h short = at_end files 65536 []
from_start files seen left true (text ∷ texts) under h short = cc
from_start files seen left false (text ∷ texts) under h short =
    step files 65535 [] seen left Main main_name 1 text texts (statement text) (and_left (names_no_file (statement text)) (list_all (λ t. names_no_file (statement t)) texts) h)
    (λ placed'. plain_rest files seen left Main main_name texts 2 65535 placed' (and_right (names_no_file (statement text)) (list_all (λ t. names_no_file (statement t)) texts) h) (omega (arith, short)))

-- the front where the main file is to come
abbrev opened : Files → Option (List ℕ) → Front
opened files found = elim found [
  | None ↦ end []
  | (Some content) ↦ elim (lines_of content) [
    | [] ↦ end []
    | (text ∷ texts) ↦
        line (record { scope = Main; file = main_name; number = 1; over = nat_lt MAX_SPLICED_BYTES (length content); text = text })
        (record { placed = []; unspliced = named.remove files main_name; bytes = MAX_SPLICED_BYTES - length content; coming = rest Main main_name 2 texts ∷ [] })
  ]
]

past : (b : Bool) (k : ConfKind) (due then : Spliced) → b ≡ false → due ≡ then → cond b (before_all k) due ≡ then
past true k due then h e = cc
past false k due then h e = e

-- what the main file has at the start
at_start : (files : Files) (text : List ℕ) → named.get files main_name ≡ Some text → length text ≤ MAX_SPLICED_BYTES
    → list_all (λ t. names_no_file (statement t)) (lines_of text) ≡ true → length (lines_of text) ≤ MAX_LINES
    → spliced_from files MAX_LINES (front (start files)) ≡ Ok (numbered Main main_name 1 (lines_of text))
at_start files text there few h short =
    ap (λ (o : Option (List ℕ)). spliced_from files MAX_LINES (opened files o)) there
    ∙ from_start files (named.remove files main_name) (MAX_SPLICED_BYTES - length text) (nat_lt MAX_SPLICED_BYTES (length text)) (lines_of text) (le-ltb MAX_SPLICED_BYTES (length text) few) h short

pub plain_conf : PlainConfIsItsLines
plain_conf = record {
  is = λ list text there small h few short.
      past (is_too_large (by_name list)) TooLong _ _ small
      (past (not (named.contains_key (by_name list) main_name)) (NoFile main_name) _ _ (ap (λ (o : Option (List ℕ)). not (is_some o)) there)
      (at_start (by_name list) text there few h short));
}
