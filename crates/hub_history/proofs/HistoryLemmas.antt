-- One entry more, and logs that go on.
use Rattle.std.proofs.Common.{◌≡◌, List, ℕ, [], ◌∷◌, ◌++◌, refl, sym, ◌∙◌, ap, append_assoc, append-nil, length, ◌+◌, zero, suc, arith, length-append, take, subst}
use Rattle.std.specs.Prelude.{Option, Some, None}
use Rattle.std.specs.List.{slice_get}
use Rattle.ref_store.specs.Refs.{Name}
use Rattle.rule_compile.specs.Patterns.{Patterns}
use Rattle.hub_history.specs.declared.entry.Entry.{Entry}
use Rattle.hub_history.specs.declared.entry.Event.{Event}
use Rattle.hub_history.specs.Opening.{Pinned}
use Rattle.hub_history.specs.History.{History, IsDue, IsLegal, IsLegalFrom, after, history, history_from, joined, new_history, opening_at, pinned_by, replay, step}
use Rattle.hub_history.specs.Laws.{IsDueBehind}

pub history_from-append : (h : History) (log more : List Entry) → history_from h (log ++ more) ≡ history_from (history_from h log) more
history_from-append h [] more = refl
history_from-append h (e ∷ log) more = history_from-append (after h e.event) log more

pub some_same : {X : Type 0} {a b : X} → Some a ≡ Some b → a ≡ b
some_same {X} {a} {b} same = cc

module _ (ps : Patterns) where
  pub legal_push : (h : History) (log : List Entry) (e : Entry) → IsLegalFrom ps h log → IsDue ps (history_from h log) e.event → IsLegalFrom ps h (log ++ e ∷ [])
  legal_push h [] e legal due = (due, tt)
  legal_push h (x ∷ log) e legal due = (legal.0, legal_push (after h x.event) log e legal.1 due)

  -- a beginning of a legal log is legal
  pub legal_beginning : (h : History) (log more : List Entry) → IsLegalFrom ps h (log ++ more) → IsLegalFrom ps h log
  legal_beginning h [] more legal = tt
  legal_beginning h (x ∷ log) more legal = (legal.0, legal_beginning (after h x.event) log more legal.1)

  -- what follows one is legal behind it
  pub legal_behind : (h : History) (log more : List Entry) → IsLegalFrom ps h (log ++ more) → IsLegalFrom ps (history_from h log) more
  legal_behind h [] more legal = legal
  legal_behind h (x ∷ log) more legal = legal_behind (after h x.event) log more legal.1

  -- each answer of a legal log is due where it stands; and where each is, the log is legal
  pub due_at : (h : History) (log : List Entry) (place : ℕ) (e : Entry) → IsLegalFrom ps h log → slice_get log place ≡ Some e → IsDue ps (history_from h (take place log)) e.event
  due_at h [] place e legal is = cc
  due_at h (x ∷ log) zero e legal is = subst (λ (o : Entry). IsDue ps h o.event) (some_same is) legal.0
  due_at h (x ∷ log) (suc place) e legal is = due_at (after h x.event) log place e legal.1 is

  pub by_places : (h : History) (log : List Entry) → ((place : ℕ) (e : Entry) → slice_get log place ≡ Some e → IsDue ps (history_from h (take place log)) e.event) → IsLegalFrom ps h log
  by_places h [] each = tt
  by_places h (x ∷ log) each = (each 0 x refl, by_places (after h x.event) log (λ place e is. each (suc place) e is))

  -- what each event that is due keeps holds of the history of every legal log
  pub history-keeps : (P : History → Type 0) → ((h : History) (event : Event) → IsDue ps h event → P h → P (after h event)) → (h : History) (log : List Entry) → IsLegalFrom ps h log → P h → P (history_from h log)
  history-keeps P keeps h [] legal held = held
  history-keeps P keeps h (e ∷ log) legal held = history-keeps P keeps (after h e.event) log legal.1 (keeps h e.event legal.0 held)

-- openings only grow
pub openings-grow : (h : History) (more : List Entry) → (later : List (Option Pinned)) × ((history_from h more).openings ≡ h.openings ++ later)
openings-grow h [] = ([], sym (append-nil h.openings))
openings-grow h (e ∷ more) =
    let rest = openings-grow (after h e.event) more in
    (pinned_by (step h e.event) e.event ∷ rest.0, rest.1 ∙ append_assoc h.openings (pinned_by (step h e.event) e.event ∷ []) rest.0)

slice_get_end : {X : Type 0} (xs : List X) (x : X) → slice_get (xs ++ x ∷ []) (length xs) ≡ Some x
slice_get_end [] x = refl
slice_get_end (y ∷ xs) x = slice_get_end xs x

slice_get_kept : {X : Type 0} (xs ys : List X) (i : ℕ) (x : X) → slice_get xs i ≡ Some x → slice_get (xs ++ ys) i ≡ Some x
slice_get_kept [] ys i x is = cc
slice_get_kept (y ∷ xs) ys zero x is = is
slice_get_kept (y ∷ xs) ys (suc i) x is = slice_get_kept xs ys i x is

joined_some : {X : Type 0} (o : Option (Option X)) (x : X) → joined o ≡ Some x → o ≡ Some (Some x)
joined_some None x is = cc
joined_some (Some o) x is = ap (λ (p : Option _). Some p) is

length-openings : (h : History) (log : List Entry) → length (history_from h log).openings ≡ length h.openings + length log
length-openings h [] = omega arith
length-openings h (e ∷ log) = omega (arith, length-openings (after h e.event) log, length-append h.openings (pinned_by (step h e.event) e.event ∷ []))

-- what an entry pins stands at its place
slot_new : (admin : Name) (log : List Entry) (e : Entry)
    → slice_get (history admin (log ++ e ∷ [])).openings (length log) ≡ Some (pinned_by (step (history admin log) e.event) e.event)
slot_new admin log e =
    let h : History = history admin log in
    let q : Option Pinned = pinned_by (step h e.event) e.event in
    let len : length h.openings ≡ length log = length-openings (new_history admin) log ∙ omega arith in
    ap (λ (g : History). slice_get g.openings (length log)) (history_from-append (new_history admin) log (e ∷ []))
    ∙ ap (λ (n : ℕ). slice_get (h.openings ++ q ∷ []) n) (sym len)
    ∙ slice_get_end h.openings q

pub stands_new : (admin : Name) (log : List Entry) (e : Entry) (p : Pinned)
    → pinned_by (step (history admin log) e.event) e.event ≡ Some p → opening_at (history admin (log ++ e ∷ [])) (length log) ≡ Some p
stands_new admin log e p is = ap joined (slot_new admin log e) ∙ is

-- what the opening at a place pins is what the state up to and including that place has
pub opening_at-place : (admin : Name) (log : List Entry) (e : Entry) (more : List Entry)
    → opening_at (history admin (log ++ e ∷ more)) (length log) ≡ pinned_by (replay admin (log ++ e ∷ [])) e.event
opening_at-place admin log e more =
    let h : History = history admin (log ++ e ∷ []) in
    let grow = openings-grow h more in
    ap (λ (l : List Entry). opening_at (history admin l) (length log)) (sym (append_assoc log (e ∷ []) more))
    ∙ ap (λ (g : History). opening_at g (length log)) (history_from-append (new_history admin) (log ++ e ∷ []) more)
    ∙ ap (λ (os : List (Option Pinned)). joined (slice_get os (length log))) grow.1
    ∙ ap joined (slice_get_kept h.openings grow.0 (length log) _ (slot_new admin log e))
    ∙ ap (λ (g : History). pinned_by g.state e.event) (sym (history_from-append (new_history admin) log (e ∷ [])))

-- what is appended leaves an opening where it stands
pub stands_kept : (admin : Name) (log more : List Entry) (place : ℕ) (p : Pinned)
    → opening_at (history admin log) place ≡ Some p → opening_at (history admin (log ++ more)) place ≡ Some p
stands_kept admin log more place p is =
    let h : History = history admin log in
    let grow = openings-grow h more in
    ap (λ g. opening_at g place) (history_from-append (new_history admin) log more)
    ∙ ap (λ (os : List (Option Pinned)). joined (slice_get os place)) grow.1
    ∙ ap joined (slice_get_kept h.openings grow.0 place (Some p) (joined_some (slice_get h.openings place) p is))

-- ---- whole logs

pub beginning_legal : (admin : Name) (log more : List Entry) → IsLegal admin (log ++ more) → IsLegal admin log
beginning_legal admin log more legal = λ ps ok. legal_beginning ps (new_history admin) log more (legal ps ok)

pub due_behind : (admin : Name) (log : List Entry) (place : ℕ) (e : Entry) → IsLegal admin log → slice_get log place ≡ Some e → IsDueBehind admin (take place log) e.event
due_behind admin log place e legal is = λ ps ok. due_at ps (new_history admin) log place e (legal ps ok) is

pub legal_by_places : (admin : Name) (log : List Entry) → ((place : ℕ) (e : Entry) → slice_get log place ≡ Some e → IsDueBehind admin (take place log) e.event) → IsLegal admin log
legal_by_places admin log each = λ ps ok. by_places ps (new_history admin) log (λ place e is. each place e is ps ok)
