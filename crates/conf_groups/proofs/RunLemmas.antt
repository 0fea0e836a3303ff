-- One step of splicing line by line.
use Rattle.std.proofs.Common.{◌≡◌, ◌<◌, ◌-◌, ℕ, suc, zero, List, true, Option, Result, Ok, Err, refl, sym, ap, ◌∙◌, subst, arith}
use Rattle.conf_lex.specs.Statements.{statement}
use Rattle.conf_lex.specs.declared.fault.LexFault.{LexFault}
use Rattle.conf_lex.specs.declared.statement.Statement.{Statement}
use Rattle.conf_groups.specs.Files.{Files}
use Rattle.conf_groups.specs.Splicing.{State, Line, line, end, front, with_line, after, refusal, unless_refused, fault_at, spliced_from, GivesFault}
use Rattle.conf_groups.specs.Stacks.{Admits, Makes}
use Rattle.conf_groups.specs.declared.placed.Placed.{Placed}
use Rattle.conf_groups.specs.declared.fault.ConfFault.{ConfFault}
use Rattle.conf_groups.specs.declared.fault.ConfKind.{ConfKind}
use Rattle.conf_groups.specs.declared.fault.ConfKind.TheVariants.{TooLong}

-- nothing further may come
at_line : (files : Files) (l : Line) (s : State) → spliced_from files 0 (line l s) ≡ unless_refused l (refusal files true l.scope (statement l.text)) (Err (fault_at l TooLong))
unfolding spliced_from
at_line files l s = refl

one_line : (files : Files) (room : ℕ) (l : Line) (s : State) → 0 < room → spliced_from files room (line l s) ≡ unless_refused l (refusal files l.over l.scope (statement l.text)) (spliced_from files (room - 1) (after s l (statement l.text)))
unfolding spliced_from
one_line files zero l s h = let none : ⊥ = omega (arith, h) in absurd none
one_line files (suc room) l s h = ap (λ (n : ℕ). unless_refused l (refusal files l.over l.scope (statement l.text)) (spliced_from files n (after s l (statement l.text)))) (let e : room ≡ suc room - 1 = omega arith in e)

at_end : (files : Files) (room : ℕ) (placed : List Placed) → spliced_from files room (end placed) ≡ Ok placed
unfolding spliced_from
at_end files zero placed = refl
at_end files (suc room) placed = refl

-- the line is refused
pub step_refused : (files : Files) (b : State) (l : Line) (s : State) (e : ConfFault)
    → front b ≡ line l s → Admits files l.over l (Err e) → (room : ℕ) → 0 < room → GivesFault e.kind e (spliced_from files room (front b))
step_refused files b l s e here refused room more =
    subst (GivesFault e.kind e)
    (sym (ap (spliced_from files room) here ∙ one_line files room l s more))
    (refused (spliced_from files (room - 1) (after s l (statement l.text))))

-- the line is placed
pub step_placed : (files : Files) (b : State) (l : Line) (s t : State) (said : Statement)
    → front b ≡ line l s → Admits files l.over l (Ok said) → t ≡ with_line s l said → (room : ℕ) → 0 < room → spliced_from files room (front b) ≡ spliced_from files (room - 1) (front t)
step_placed files b l s t said here admitted placed room more =
    ap (spliced_from files room) here ∙ one_line files room l s more
    ∙ ap (λ (k : Option ConfKind). unless_refused l k (spliced_from files (room - 1) (after s l (statement l.text)))) admitted.1
    ∙ ap (λ (r : Result Statement LexFault). spliced_from files (room - 1) (after s l r)) admitted.0
    ∙ ap (λ (u : State). spliced_from files (room - 1) (front u)) (sym placed)

-- all is placed
pub step_ended : (files : Files) (b : State) (placed : List Placed) → front b ≡ end placed → (room : ℕ) → spliced_from files room (front b) ≡ Ok placed
step_ended files b placed here room = ap (spliced_from files room) here ∙ at_end files room placed

pub last_ended : (files : Files) (b : State) (placed : List Placed) → front b ≡ end placed → spliced_from files 0 (front b) ≡ Ok placed
last_ended files b placed here = step_ended files b placed here 0

pub last_refused : (files : Files) (b : State) (l : Line) (s : State) (e : ConfFault)
    → front b ≡ line l s → Admits files true l (Err e) → GivesFault e.kind e (spliced_from files 0 (front b))
last_refused files b l s e here refused =
    subst (GivesFault e.kind e) (sym (ap (spliced_from files 0) here ∙ at_line files l s)) (refused (Err (fault_at l TooLong)))

-- a line too many
pub last_too_many : (files : Files) (b : State) (l : Line) (s : State) (said : Statement) (e : ConfFault)
    → front b ≡ line l s → Admits files true l (Ok said) → Makes e TooLong l.file l.number → GivesFault e.kind e (spliced_from files 0 (front b))
last_too_many files b l s said e here admitted makes =
    makes (spliced_from files 0 (front b))
    (ap (spliced_from files 0) here ∙ at_line files l s ∙ ap (λ (k : Option ConfKind). unless_refused l k (Err (fault_at l TooLong))) admitted.1)

-- what comes of the start
pub runs_to : (files : Files) (room : ℕ) (first s : State) (placed : List Placed) → s ≡ first → spliced_from files room (front s) ≡ Ok placed → spliced_from files room (front first) ≡ Ok placed
runs_to files room first s placed same h = ap (λ (t : State). spliced_from files room (front t)) (sym same) ∙ h

pub ends_by : (files : Files) (room : ℕ) (first s : State) (e : ConfFault) → s ≡ first → GivesFault e.kind e (spliced_from files room (front s)) → GivesFault e.kind e (spliced_from files room (front first))
ends_by files room first s e same h = subst (λ (t : State). GivesFault e.kind e (spliced_from files room (front t))) same h
