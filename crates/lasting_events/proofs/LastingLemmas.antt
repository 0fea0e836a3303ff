-- The log of the entries that last.
use Rattle.std.proofs.Common.{◌≡◌, ◌⊎◌, inl, inr, ℕ, zero, suc, ◌+◌, ◌<◌, ◌≤◌, Bool, true, false, List, [], ◌∷◌, ◌++◌, length, take, drop, filter, refl, sym, ◌∙◌, ap, ap₂, subst, arith, append_assoc, append-nil, length-append}
use Rattle.std.specs.Prelude.{Option, Some, None, cond, if◌then◌else◌}
use Rattle.std.specs.List.{slice_get}
use Rattle.std.proofs.lemmas.Bool.{cases_lt}
use Rattle.std.proofs.lemmas.List.{drop_all, drop-append-le, length-take-le, take-append-drop, take-append-le, take_all, take_at}
use Rattle.std.proofs.lemmas.List.Elements.{filter-append}
use Rattle.ref_store.specs.Refs.{Name}
use Rattle.rule_compile.specs.Patterns.{AreTrue, Patterns}
use Rattle.access_check.specs.declared.verdicts.Want.TheVariants.{Write}
use Rattle.hub_history.specs.declared.entry.EnterKept.{EnterKept}
use Rattle.hub_history.specs.declared.entry.EnterKept.TheVariants.{Granted, Created}
use Rattle.hub_history.specs.declared.entry.Entry.{Entry}
use Rattle.hub_history.specs.declared.entry.Event.{Event}
use Rattle.hub_history.specs.declared.entry.Event.TheVariants.{Entered, Pushed, Permitted, Looked}
use Rattle.hub_history.specs.History.{History, IsDue, IsDueAfter, IsLegal, after, after_push, history, history_from, joined, new_history, opening_at, pinned_by, replay, step}
use Rattle.hub_history.specs.Opening.{IsDueOpening, Pinned, made_by}
use Rattle.hub_history.specs.Roles.{IsDueChange, given_by}
use Rattle.hub_history.specs.State.{State, changed}
use Rattle.hub_history.proofs.HistoryLemmas.{beginning_legal, history_from-append, legal_push, opening_at-place, some_same, stands_kept}
use Rattle.hub_history.proofs.MovedLogs.{behind, due_last}
use Rattle.hub_history.proofs.MovedRefs.{done_among}
use Rattle.hub_history.proofs.OpeningLemmas.{pinned_at}
use Rattle.history_laws.specs.StateLaws.{MayChange, OnlyTheseChange}
use Rattle.lasting_events.specs.Lasting.{IsChosen, change_lasts, chosen, if_lasting, lasting, lasting_behind, lasts, opening_lasts, place_among, renumbered, renumbered_entry}
use Rattle.lasting_events.specs.Laws.{BeginningLasts, FirstStay, LastingGrows, LastingIsEnough, OthersChangeNothing}

-- ---- more of a log

-- of entries that follow others, and of what follows those
pub behind_append : (start : ℕ) (before xs ys : List Entry) → lasting_behind start before (xs ++ ys) ≡ lasting_behind start before xs ++ lasting_behind start (before ++ xs) ys
behind_append start before [] ys = ap (λ (l : List Entry). lasting_behind start l ys) (sym (append-nil before))
behind_append start before (x ∷ xs) ys =
    ap (λ (l : List Entry). if_lasting start before x ++ l) (behind_append start (before ++ x ∷ []) xs ys)
    ∙ sym (append_assoc (if_lasting start before x) (lasting_behind start (before ++ x ∷ []) xs) (lasting_behind start ((before ++ x ∷ []) ++ xs) ys))
    ∙ ap (λ (l : List Entry). (if_lasting start before x ++ lasting_behind start (before ++ x ∷ []) xs) ++ lasting_behind start l ys) (append_assoc before (x ∷ []) xs)

pub lasting_append : (start : ℕ) (log more : List Entry) → start ≤ length log → lasting start (log ++ more) ≡ lasting start log ++ lasting_behind start log more
lasting_append start log more within =
    ap₂ (λ (first rest : List Entry). first ++ lasting_behind start first rest) (take-append-le start log more within) (drop-append-le start log more within)
    ∙ ap (λ (l : List Entry). take start log ++ l) (behind_append start (take start log) (drop start log) more)
    ∙ sym (append_assoc (take start log) (lasting_behind start (take start log) (drop start log)) (lasting_behind start (take start log ++ drop start log) more))
    ∙ ap (λ (l : List Entry). lasting start log ++ lasting_behind start l more) (take-append-drop start log)

pub lasting_grows : LastingGrows
lasting_grows = λ log entry start within.
    lasting_append start log (entry ∷ []) within ∙ ap (λ (l : List Entry). lasting start log ++ l) (append-nil (if_lasting start log entry))

pub beginning_lasts : BeginningLasts
beginning_lasts = λ log start count least most. (
  lasting_behind start (take count log) (drop count log),
  ap (lasting start) (sym (take-append-drop count log)) ∙ lasting_append start (take count log) (drop count log) (omega (arith, least, length-take-le count log most)),
)

-- those of no more than the first entries
pub lasting_first : (start : ℕ) (log : List Entry) → length log ≤ start → lasting start log ≡ log
lasting_first start log few =
    ap₂ (λ (first rest : List Entry). first ++ lasting_behind start first rest) (take_all start log few) (drop_all start log few) ∙ append-nil log

pub first_stay : FirstStay
first_stay = λ log start within. lasting_first start (take start log) (omega (arith, length-take-le start log within))

-- ---- places

chosen_append : (start : ℕ) (log more : List Entry) → start ≤ length log → chosen start (log ++ more) ≡ chosen start log ++ filter (λ (e : Entry). lasts e.event) more
chosen_append start log more within =
    ap₂ (λ (first rest : List Entry). first ++ filter (λ (e : Entry). lasts e.event) rest) (take-append-le start log more within) (drop-append-le start log more within)
    ∙ ap (λ (l : List Entry). take start log ++ l) (filter-append (λ (e : Entry). lasts e.event) (drop start log) more)
    ∙ sym (append_assoc (take start log) (filter (λ (e : Entry). lasts e.event) (drop start log)) (filter (λ (e : Entry). lasts e.event) more))

-- as many last as are chosen
behind_length : (start : ℕ) (before es : List Entry) → length (lasting_behind start before es) ≡ length (filter (λ (e : Entry). lasts e.event) es)
behind_length start before [] = refl
behind_length start before (e ∷ es) = by_lasts (lasts e.event) (behind_length start (before ++ e ∷ []) es)
  where
    by_lasts : (b : Bool) → length (lasting_behind start (before ++ e ∷ []) es) ≡ length (filter (λ (x : Entry). lasts x.event) es)
        → length ((if b then renumbered_entry start before e ∷ [] else []) ++ lasting_behind start (before ++ e ∷ []) es) ≡ length (cond b (e ∷ filter (λ (x : Entry). lasts x.event) es) (filter (λ (x : Entry). lasts x.event) es))
    by_lasts true rest = ap suc rest
    by_lasts false rest = rest

pub lasting_length : (start : ℕ) (log : List Entry) → length (lasting start log) ≡ length (chosen start log)
lasting_length start log =
    length-append (take start log) (lasting_behind start (take start log) (drop start log))
    ∙ ap (λ (n : ℕ). length (take start log) + n) (behind_length start (take start log) (drop start log))
    ∙ sym (length-append (take start log) (filter (λ (e : Entry). lasts e.event) (drop start log)))

-- a place among the first entries stays
pub place_first : (start : ℕ) (log : List Entry) (place : ℕ) → place ≤ start → place ≤ length log → place_among start log place ≡ place
place_first start log place first within =
    let long : length (take place log) ≡ place = length-take-le place log within in
    sym (lasting_length start (take place log)) ∙ ap length (lasting_first start (take place log) (omega (arith, long, first))) ∙ long

-- the place of what follows a log
pub place_next : (start : ℕ) (log more : List Entry) → place_among start (log ++ more) (length log) ≡ length (lasting start log)
place_next start log more = ap (λ (l : List Entry). length (chosen start l)) (take_at log more (length log) refl) ∙ sym (lasting_length start log)

-- the other places stay
pub place_stays : (start : ℕ) (log more : List Entry) (place : ℕ) → place ≤ length log → place_among start (log ++ more) place ≡ place_among start log place
place_stays start log more place within = ap (λ (l : List Entry). length (chosen start l)) (take-append-le place log more within)

-- ---- what openings pinned

length-openings : (h : History) (log : List Entry) → length (history_from h log).openings ≡ length h.openings + length log
length-openings h [] = omega arith
length-openings h (e ∷ log) = omega (arith, length-openings (after h e.event) log, length-append h.openings (pinned_by (step h e.event) e.event ∷ []))

get_early : {X : Type 0} (xs ys : List X) (i : ℕ) → i < length xs → slice_get (xs ++ ys) i ≡ slice_get xs i
get_early [] ys i early = absurd (omega (arith, early))
get_early (x ∷ xs) ys zero early = refl
get_early (x ∷ xs) ys (suc i) early = get_early xs ys i (omega (arith, early))

get_last : {X : Type 0} (xs : List X) (x y : X) → slice_get (xs ++ x ∷ []) (length xs) ≡ Some y → x ≡ y
get_last [] x y is = some_same is
get_last (z ∷ xs) x y is = get_last xs x y is

get_late : {X : Type 0} (xs : List X) (i : ℕ) (x : X) → length xs ≤ i → slice_get xs i ≡ Some x → ⊥
get_late [] i x late is = cc
get_late (y ∷ xs) zero x late is = omega (arith, late)
get_late (y ∷ xs) (suc i) x late is = get_late xs i x (omega (arith, late)) is

opening_early : (admin : Name) (log : List Entry) (e : Entry) (place : ℕ) → place < length log → opening_at (history admin (log ++ e ∷ [])) place ≡ opening_at (history admin log) place
opening_early admin log e place early =
    ap (λ (g : History). opening_at g place) (history_from-append (new_history admin) log (e ∷ []))
    ∙ ap joined (get_early (history admin log).openings (pinned_by (step (history admin log) e.event) e.event ∷ []) place (omega (arith, early, length-openings (new_history admin) log)))

-- ---- an event once more, behind the entries that last

-- the same state, and the same openings for writing at their new places
record AreAlike (start : ℕ) (before : List Entry) (h g : History) : Type 0 where
  state : g.state ≡ h.state
  pins : (place : ℕ) (pinned : Pinned) → opening_at h place ≡ Some pinned → pinned.want ≡ Write → opening_at g (place_among start before place) ≡ Some pinned

module _ (ps : Patterns) (start : ℕ) (before : List Entry) (h g : History) (alike : AreAlike start before h g) where
  due_again : (event : Event) → IsDue ps h event → IsDue ps g (renumbered start before event)
  due_again (Entered user repo want answer) due = (due.0, subst (λ (s : State). IsDueOpening ps s user repo want answer) (sym alike.state) due.1)
  due_again (Pushed place pack cs atomic os made) due = by_opening (opening_at h place) refl due
    where
      by_opening : (o : Option Pinned) → opening_at h place ≡ o → IsDueAfter ps h.state o pack cs atomic os made → IsDueAfter ps g.state (opening_at g (place_among start before place)) pack cs atomic os made
      by_opening None is due = absurd due
      by_opening (Some pinned) is due =
          subst (λ (o : Option Pinned). IsDueAfter ps g.state o pack cs atomic os made) (sym (alike.pins place pinned is due.for_writing))
          (subst (λ (s : State). IsDueAfter ps s (Some pinned) pack cs atomic os made) (sym alike.state) due)
  due_again (Permitted user repo asked answer) due = (due.0, due.1, due.2, subst (λ (s : State). IsDueChange ps s user repo asked answer) (sym alike.state) due.3)
  due_again (Looked user) due = due

  step_again : (event : Event) → IsDue ps h event → step g (renumbered start before event) ≡ step h event
  step_again (Entered user repo want answer) due = ap (λ (s : State). changed s (made_by user repo answer)) alike.state
  step_again (Pushed place pack cs atomic os made) due = by_opening (opening_at h place) refl due
    where
      by_opening : (o : Option Pinned) → opening_at h place ≡ o → IsDueAfter ps h.state o pack cs atomic os made → after_push g.state (opening_at g (place_among start before place)) pack cs os made ≡ after_push h.state o pack cs os made
      by_opening None is due = absurd due
      by_opening (Some pinned) is due =
          ap (λ (o : Option Pinned). after_push g.state o pack cs os made) (alike.pins place pinned is due.for_writing)
          ∙ ap (λ (s : State). after_push s (Some pinned) pack cs os made) alike.state
  step_again (Permitted user repo asked answer) due = ap (λ (s : State). changed s (given_by s repo asked answer)) alike.state
  step_again (Looked user) due = alike.state

-- it pins the same
pinned_again : (start : ℕ) (before : List Entry) (state : State) (event : Event) → pinned_by state (renumbered start before event) ≡ pinned_by state event
pinned_again start before state (Entered user repo want answer) = refl
pinned_again start before state (Pushed place pack cs atomic os made) = refl
pinned_again start before state (Permitted user repo asked answer) = refl
pinned_again start before state (Looked user) = refl

-- ---- entries that don't last

pub passes_over : (event : Event) → lasts event ≡ false → ¬ MayChange event
passes_over (Entered user repo want answer) is = λ created. let clash : true ≡ false = ap (λ (a : EnterKept). opening_lasts a want) (sym created) ∙ is in absurd cc
passes_over (Pushed place pack cs atomic os made) is = λ done. let clash : true ≡ false = sym (done_among os done.0 done.1) ∙ is in absurd cc
passes_over (Permitted user repo asked answer) is = λ changes. let clash : true ≡ false = ap change_lasts (sym changes) ∙ is in absurd cc
passes_over (Looked user) is = λ never. never

pub others_change_nothing : OnlyTheseChange → OthersChangeNothing
others_change_nothing only = λ admin before entry legal is. only admin before entry legal (passes_over entry.event is)

-- ---- along a log

-- an opening for writing lasts
for_writing : (admin : Name) (log : List Entry) (start place : ℕ) (pinned : Pinned) → opening_at (history admin log) place ≡ Some pinned → pinned.want ≡ Write → IsChosen start log place
for_writing admin log start place pinned is writes =
    let found = pinned_at admin log place pinned is in
    inr (record { caller = found.caller; event = Entered pinned.user pinned.repo pinned.want found.answer }, found.stands, by_answer found.answer found.granted)
  where
    by_answer : (answer : EnterKept) → (answer ≡ Granted) ⊎ (answer ≡ Created) → opening_lasts answer pinned.want ≡ true
    by_answer answer (inl granted) = ap (λ (a : EnterKept). opening_lasts a pinned.want) granted ∙ ap (opening_lasts Granted) writes
    by_answer answer (inr created) = ap (λ (a : EnterKept). opening_lasts a pinned.want) created

module _ (only : OnlyTheseChange) (ps : Patterns) (ok : AreTrue ps) (admin : Name) (start : ℕ) where
  -- what the lasting entries of a log lead to
  pub record LeadsTo (log : List Entry) : Type 0 where
    pub legal : IsLegal admin (lasting start log)
    pub state : replay admin (lasting start log) ≡ replay admin log
    pub pins : (place : ℕ) (pinned : Pinned) → IsChosen start log place → opening_at (history admin log) place ≡ Some pinned → opening_at (history admin (lasting start log)) (place_among start log place) ≡ Some pinned

  module _ (log : List Entry) (within : start ≤ length log) (leads : LeadsTo log) (e : Entry) (legal : IsLegal admin (log ++ e ∷ [])) where
    abbrev kept : List Entry
    kept = lasting start log

    alike : AreAlike start log (history admin log) (history admin kept)
    alike = record { state = leads.state; pins = λ place pinned is writes. leads.pins place pinned (for_writing admin log start place pinned is writes) is }

    -- a place that is chosen is one of before, or the new entry's
    chosen_before : (place : ℕ) → place < length log → IsChosen start (log ++ e ∷ []) place → IsChosen start log place
    chosen_before place early (inl first) = inl first
    chosen_before place early (inr there) = inr (there.0, sym (get_early log (e ∷ []) place early) ∙ there.1, there.2)

    chosen_new : (place : ℕ) → length log ≤ place → IsChosen start (log ++ e ∷ []) place → (place ≡ length log) × (lasts e.event ≡ true)
    chosen_new place late (inl first) = absurd (omega (arith, first, within, late))
    chosen_new place late (inr there) =
        elim (cases_lt (length log) place) [
          | inl later ↦ absurd (get_late (log ++ e ∷ []) place there.0 (omega (arith, later, length-append log (e ∷ []))) there.1)
          | inr none ↦
              let here : place ≡ length log = omega (arith, late, none) in
              let same : e ≡ there.0 = get_last log e there.0 (ap (slice_get (log ++ e ∷ [])) (sym here) ∙ there.1) in
              (here, ap (λ (x : Entry). lasts x.event) same ∙ there.2)
        ]

    module _ (is : lasts e.event ≡ false) where
      same_kept : lasting start (log ++ e ∷ []) ≡ kept
      same_kept = lasting_grows log e start within ∙ ap (λ (b : Bool). kept ++ (if b then renumbered_entry start log e ∷ [] else [])) is ∙ append-nil kept

      pins_left : (place : ℕ) (pinned : Pinned) → IsChosen start (log ++ e ∷ []) place → opening_at (history admin (log ++ e ∷ [])) place ≡ Some pinned → opening_at (history admin kept) (place_among start (log ++ e ∷ []) place) ≡ Some pinned
      pins_left place pinned there at =
          elim (cases_lt place (length log)) [
            | inl early ↦
                ap (opening_at (history admin kept)) (place_stays start log (e ∷ []) place (omega (arith, early)))
                ∙ leads.pins place pinned (chosen_before place early there) (sym (opening_early admin log e place early) ∙ at)
            | inr late ↦ let clash : true ≡ false = sym (chosen_new place (omega (arith, late)) there).1 ∙ is in absurd cc
          ]

      leads_past : LeadsTo (log ++ e ∷ [])
      leads_past = record {
        legal = subst (IsLegal admin) (sym same_kept) leads.legal;
        state = ap (replay admin) same_kept ∙ leads.state ∙ sym (others_change_nothing only admin log e legal is);
        pins = λ place pinned there at. ap (λ (l : List Entry). opening_at (history admin l) (place_among start (log ++ e ∷ []) place)) same_kept ∙ pins_left place pinned there at;
      }

    module _ (is : lasts e.event ≡ true) where
      abbrev new : Entry
      new = renumbered_entry start log e

      more_kept : lasting start (log ++ e ∷ []) ≡ kept ++ new ∷ []
      more_kept = lasting_grows log e start within ∙ ap (λ (b : Bool). kept ++ (if b then renumbered_entry start log e ∷ [] else [])) is

      still_legal : IsLegal admin (kept ++ new ∷ [])
      still_legal = λ qs true_qs. legal_push qs (new_history admin) kept new (leads.legal qs true_qs) (due_again qs start log (history admin log) (history admin kept) alike e.event (due_last admin log e legal qs true_qs))

      same_state : replay admin (kept ++ new ∷ []) ≡ replay admin (log ++ e ∷ [])
      same_state = behind admin kept new ∙ step_again ps start log (history admin log) (history admin kept) alike e.event (due_last admin log e legal ps ok) ∙ sym (behind admin log e)

      pins_here : (pinned : Pinned) → opening_at (history admin (log ++ e ∷ [])) (length log) ≡ Some pinned → opening_at (history admin (kept ++ new ∷ [])) (length kept) ≡ Some pinned
      pins_here pinned at =
          opening_at-place admin kept new []
          ∙ ap (λ (s : State). pinned_by s new.event) same_state
          ∙ pinned_again start log (replay admin (log ++ e ∷ [])) e.event
          ∙ sym (opening_at-place admin log e [])
          ∙ at

      pins_more : (place : ℕ) (pinned : Pinned) → IsChosen start (log ++ e ∷ []) place → opening_at (history admin (log ++ e ∷ [])) place ≡ Some pinned
          → opening_at (history admin (kept ++ new ∷ [])) (place_among start (log ++ e ∷ []) place) ≡ Some pinned
      pins_more place pinned there at =
          elim (cases_lt place (length log)) [
            | inl early ↦
                ap (opening_at (history admin (kept ++ new ∷ []))) (place_stays start log (e ∷ []) place (omega (arith, early)))
                ∙ stands_kept admin kept (new ∷ []) (place_among start log place) pinned (leads.pins place pinned (chosen_before place early there) (sym (opening_early admin log e place early) ∙ at))
            | inr late ↦
                let here : place ≡ length log = (chosen_new place (omega (arith, late)) there).0 in
                ap (λ (n : ℕ). opening_at (history admin (kept ++ new ∷ [])) (place_among start (log ++ e ∷ []) n)) here
                ∙ ap (opening_at (history admin (kept ++ new ∷ []))) (place_next start log (e ∷ []))
                ∙ pins_here pinned (ap (opening_at (history admin (log ++ e ∷ []))) (sym here) ∙ at)
          ]

      leads_on : LeadsTo (log ++ e ∷ [])
      leads_on = record {
        legal = subst (IsLegal admin) (sym more_kept) still_legal;
        state = ap (replay admin) more_kept ∙ same_state;
        pins = λ place pinned there at. ap (λ (l : List Entry). opening_at (history admin l) (place_among start (log ++ e ∷ []) place)) more_kept ∙ pins_more place pinned there at;
      }

    leads_one : LeadsTo (log ++ e ∷ [])
    leads_one = by_lasts (lasts e.event) refl
      where
        by_lasts : (b : Bool) → lasts e.event ≡ b → LeadsTo (log ++ e ∷ [])
        by_lasts true is = leads_on is
        by_lasts false is = leads_past is

  leads_all : (log more : List Entry) → start ≤ length log → LeadsTo log → IsLegal admin (log ++ more) → LeadsTo (log ++ more)
  leads_all log [] within leads legal = subst LeadsTo (sym (append-nil log)) leads
  leads_all log (e ∷ more) within leads legal =
      let one : IsLegal admin ((log ++ e ∷ []) ++ more) = subst (IsLegal admin) (sym (append_assoc log (e ∷ []) more)) legal in
      subst LeadsTo (append_assoc log (e ∷ []) more)
      (leads_all (log ++ e ∷ []) more (omega (arith, within, length-append log (e ∷ []))) (leads_one log within leads e (beginning_legal admin (log ++ e ∷ []) more one)) one)

  -- the first entries lead to what they led to
  leads_first : (log : List Entry) → length log ≡ start → IsLegal admin log → LeadsTo log
  leads_first log long legal = record {
    legal = subst (IsLegal admin) (sym same) legal;
    state = ap (replay admin) same;
    pins = λ place pinned there at. ap₂ (λ (l : List Entry) (n : ℕ). opening_at (history admin l) n) same (place_is place (early place there)) ∙ at;
  }
    where
      same : lasting start log ≡ log
      same = lasting_first start log (omega (arith, long))

      early : (place : ℕ) → IsChosen start log place → place < start
      early place (inl first) = first
      early place (inr there) =
          elim (cases_lt place start) [
            | inl first ↦ first
            | inr late ↦ absurd (get_late log place there.0 (omega (arith, late, long)) there.1)
          ]

      place_is : (place : ℕ) → place < start → place_among start log place ≡ place
      place_is place first = place_first start log place (omega (arith, first)) (omega (arith, first, long))

  pub leads : (log : List Entry) → start ≤ length log → IsLegal admin log → LeadsTo log
  leads log within legal =
      let whole : take start log ++ drop start log ≡ log = take-append-drop start log in
      let first : length (take start log) ≡ start = length-take-le start log within in
      let all : IsLegal admin (take start log ++ drop start log) = subst (IsLegal admin) (sym whole) legal in
      subst LeadsTo whole (leads_all (take start log) (drop start log) (omega (arith, first)) (leads_first (take start log) first (beginning_legal admin (take start log) (drop start log) all)) all)

pub lasting_is_enough : OnlyTheseChange → (ps : Patterns) → AreTrue ps → LastingIsEnough
lasting_is_enough only ps ok = record {
  legal = λ admin log start within legal. (leads only ps ok admin start log within legal).legal;
  state = λ admin log start within legal. (leads only ps ok admin start log within legal).state;
  pins = λ admin log start place pinned within legal there at. (leads only ps ok admin start log within legal).pins place pinned there at;
}
