-- Two hubs that answer as two legal logs record serve the same sessions alike.
use Rattle.std.proofs.Common.{◌≡◌, ℕ, Bool, zero, suc, ◌+◌, List, [], ◌∷◌, ◌++◌, length, drop, take, Option, Some, None, Result, Ok, Err, refl, sym, ◌∙◌, ap, ap₂, subst, arith, append-nil, append_assoc}
use Rattle.std.specs.List.{slice_get}
use Rattle.std.proofs.lemmas.List.{take-append-le, take_all}
use Rattle.base_types.specs.Fronts.{Front, Whole, Broken, Partial}
use Rattle.ref_store.specs.Refs.{Name}
use Rattle.rule_compile.specs.Patterns.{AreTrue, Patterns}
use Rattle.hub_history.specs.declared.entry.Entry.{Entry}
use Rattle.hub_history.specs.declared.entry.Event.{Event}
use Rattle.hub_history.specs.declared.entry.Event.TheVariants.{Entered, Pushed, Permitted, Looked}
use Rattle.hub_history.specs.History.{History, IsDue, IsDueAfter, IsLegal, history, opening_at}
use Rattle.hub_history.specs.Opening.{Pinned}
use Rattle.hub_history.specs.Laws.{LegalByPlaces, OneAnswer}
use Rattle.hub_history.specs.Requests.{Request, request_of}
use Rattle.interaction_tree.specs.Wanted.{by_front, front_of}
use Rattle.interaction_tree.specs.Requests.{Answers}
use Rattle.interaction_tree.specs.Interaction.{Interaction, gives, ends, writes, reads, asks}
use Rattle.interaction_tree.specs.Alone.{TurnAlone, turn_alone}
use Rattle.interaction_tree.specs.Traces.{Begins}
use Rattle.git_object.specs.Content.{Content}
use Rattle.ref_store.specs.declared.command.Command.{Command}
use Rattle.hub_history.specs.State.{State}
use Rattle.hub_history.specs.declared.outcome.Outcome.{Outcome}
use Rattle.installation.specs.Sessions.{first_input, visit_at, visit_input}
use Rattle.session_core.specs.Recorded.{IsRecorded, Recorded}
use Rattle.git_session.specs.Session.{session}
use Rattle.interaction_tree.specs.Laws.{LogsHaveAnswers}
use Rattle.script_frames.specs.Frames.{OneScript}
use Rattle.session_core.specs.declared.end.SessionEnd.{SessionEnd}
use Rattle.session_core.specs.Rulebook.{LegalLogsHaveRulebooks, Rulebook}
use Rattle.shell_program.specs.Laws.{LoadsAgree, ScriptsAgree}
use Rattle.shell_program.specs.Load.{loader, log_behind, value_behind}
use Rattle.shell_program.specs.SessionFrames.{IsScript, session_word}
use Rattle.shell_program.specs.Script.{Printed, reply_text, script, served_alone, sessions, stop_word}
use Rattle.shell_program.proofs.ScriptLemmas.{session_is_word}
use Rattle.shell_program.proofs.BookLemmas.{alike_session, log_alike}

-- ---- one event is due for a request

module _ (laws : OneAnswer) (patterns : Patterns) where
  push_same : (state : State) (found : Option Pinned) (pack : List Content) (commands : List Command) (atomic : Bool) (outcomes outcomes' : List Outcome) (made made' : List Name)
      → IsDueAfter patterns state found pack commands atomic outcomes made → IsDueAfter patterns state found pack commands atomic outcomes' made' → (outcomes ≡ outcomes') × (made ≡ made')
  push_same state None pack commands atomic outcomes outcomes' made made' due due' = absurd due
  push_same state (Some pinned) pack commands atomic outcomes outcomes' made made' due due' = laws.push patterns state pinned pack commands atomic outcomes outcomes' made made' due due'

  event_same : (h : History) (e f : Event) → request_of e ≡ request_of f → IsDue patterns h e → IsDue patterns h f → e ≡ f
  event_same h (Entered user repo want a) (Entered user' repo' want' a') same due due' =
      let users : user' ≡ user = cc in
      let repos : repo' ≡ repo = cc in
      let wants : want' ≡ want = cc in
      let answers : a ≡ a' = laws.opening patterns h.state user repo want a a' due.1 (rw (users, repos, wants) at due'.1) in
      cc
  event_same h (Pushed place pack commands atomic outcomes made) (Pushed place' pack' commands' atomic' outcomes' made') same due due' =
      let places : place' ≡ place = cc in
      let packs : pack' ≡ pack = cc in
      let all : commands' ≡ commands = cc in
      let together : atomic' ≡ atomic = cc in
      let told = push_same h.state (opening_at h place) pack commands atomic outcomes outcomes' made made' due (rw (places, packs, all, together) at due') in
      let first : outcomes ≡ outcomes' = told.0 in
      let second : made ≡ made' = told.1 in
      cc
  event_same h (Permitted user repo asked a) (Permitted user' repo' asked' a') same due due' =
      let users : user' ≡ user = cc in
      let repos : repo' ≡ repo = cc in
      let all : asked' ≡ asked = cc in
      let answers : a ≡ a' = laws.change patterns h.state user repo asked a a' due.3 (rw (users, repos, all) at due'.3) in
      cc
  event_same h (Looked user) (Looked user') same due due' = cc
  event_same h (Entered u r w a) (Pushed p' k' c' t' o' m') same due due' = cc
  event_same h (Entered u r w a) (Permitted u' r' c' a') same due due' = cc
  event_same h (Entered u r w a) (Looked u') same due due' = cc
  event_same h (Pushed p k c t o m) (Entered u' r' w' a') same due due' = cc
  event_same h (Pushed p k c t o m) (Permitted u' r' c' a') same due due' = cc
  event_same h (Pushed p k c t o m) (Looked u') same due due' = cc
  event_same h (Permitted u r c a) (Entered u' r' w' a') same due due' = cc
  event_same h (Permitted u r c a) (Pushed p' k' c' t' o' m') same due due' = cc
  event_same h (Permitted u r c a) (Looked u') same due due' = cc
  event_same h (Looked u) (Entered u' r' w' a') same due due' = cc
  event_same h (Looked u) (Pushed p' k' c' t' o' m') same due due' = cc
  event_same h (Looked u) (Permitted u' r' c' a') same due due' = cc

-- ---- a session goes on from the log before it

begins_on : (a b c : List Entry) → Begins a b → Begins b c → Begins a c
begins_on a b c p q = (p.0 ++ q.0, q.1 ∙ ap (λ (l : List Entry). l ++ q.0) p.1 ∙ append_assoc a p.0 q.0)

begins_same : (a b : List Entry) → b ≡ a → Begins a b
begins_same a b is = ([], is ∙ sym (append-nil a))

front_grows : {V F E A : Type 0} (log : List Entry) (front : Front V F) (cut : F → TurnAlone E A) (f : ℕ → Result V F → TurnAlone E A) → ((fault : F) → Begins log (cut fault).log) → ((used : ℕ) (found : Result V F) → Begins log (f used found).log)
    → Begins log (by_front front cut f).log
front_grows log (Whole used value) cut f short whole = whole used (Ok value)
front_grows log (Broken used fault) cut f short whole = whole used (Err fault)
front_grows log (Partial fault) cut f short whole = short fault

grows : {E A : Type 0} (answers : Answers) (t : Interaction E A) (input : List ℕ) (log : List Entry) → Begins log (turn_alone answers t input log).log
unfolding turn_alone
grows answers (gives a) input log = begins_same log log refl
grows answers (ends e) input log = begins_same log log refl
grows answers (writes bytes t) input log = grows answers t input log
grows answers (reads wanted cut f) input log =
    front_grows log (front_of wanted input) _ _ (λ fault. begins_same log log refl) (λ used found. grows answers (f (record { used = used; found = found })) (drop used input) log)
grows answers (asks request f) input log =
    let entry : Entry = record { caller = 0; event = answers log request } in
    let more = grows answers (f (record { before = log; entry = entry })) input (log ++ entry ∷ []) in
    (entry ∷ more.0, more.1 ∙ append_assoc log (entry ∷ []) more.0)

-- ---- what is due at a place

entry_behind : (before : List Entry) (entry : Entry) (more : List Entry) → slice_get (before ++ entry ∷ more) (length before) ≡ Some entry
entry_behind [] entry more = refl
entry_behind (e ∷ before) entry more = entry_behind before entry more

front_is : (before more : List Entry) → take (length before) (before ++ more) ≡ before
front_is before more = take-append-le (length before) before more (omega arith) ∙ take_all (length before) before (omega arith)

due_here : LegalByPlaces → (patterns : Patterns) → AreTrue patterns → (admin : Name) (log before more : List Entry) (entry : Entry) → IsLegal admin log → log ≡ before ++ entry ∷ more → IsDue patterns (history admin before) entry.event
due_here places patterns matching admin log before more entry legal is =
    subst (λ (l : List Entry). IsDue patterns (history admin l) entry.event) (ap (take (length before)) is ∙ front_is before (entry ∷ more))
    ((places admin log).0 legal (length before) entry (ap (λ (l : List Entry). slice_get l (length before)) is ∙ entry_behind before entry more) patterns matching)

front_same : {V F E A : Type 0} (one other : List Entry) (front : Front V F) (cut : F → TurnAlone E A) (f g : ℕ → Result V F → TurnAlone E A)
    → ((used : ℕ) (found : Result V F) → Begins (f used found).log one → Begins (g used found).log other → f used found ≡ g used found)
    → Begins (by_front front cut f).log one → Begins (by_front front cut g).log other → by_front front cut f ≡ by_front front cut g
front_same one other (Whole used value) cut f g same b b' = same used (Ok value) b b'
front_same one other (Broken used fault) cut f g same b b' = same used (Err fault) b b'
front_same one other (Partial fault) cut f g same b b' = refl

-- ---- two hubs, of which each answers as a legal log records

module _ (laws : OneAnswer) (places : LegalByPlaces) (patterns : Patterns) (matching : AreTrue patterns) (admin : Name) (one other : List Entry) (legal : IsLegal admin one) (legal' : IsLegal admin other) (answers answers' : Answers)
    (as_asked : (before : List Entry) (request : Request) → request_of (answers before request) ≡ request) (as_asked' : (before : List Entry) (request : Request) → request_of (answers' before request) ≡ request) where
  -- one session, whose entries begin what the logs have
  turns_same : {E A : Type 0} (t : Interaction E A) (input : List ℕ) (log : List Entry) → Begins (turn_alone answers t input log).log one → Begins (turn_alone answers' t input log).log other → turn_alone answers t input log ≡ turn_alone answers' t input log
  unfolding turn_alone
  turns_same (gives a) input log b b' = refl
  turns_same (ends e) input log b b' = refl
  turns_same {E} {A} (writes bytes t) input log b b' = ap (λ (rest : TurnAlone E A). record rest { bytes = bytes ++ rest.bytes }) (turns_same t input log b b')
  turns_same (reads wanted cut f) input log b b' =
      front_same one other (front_of wanted input) _ _ _ (λ used found. turns_same (f (record { used = used; found = found })) (drop used input) log) b b'
  turns_same {E} {A} (asks request f) input log b b' =
      let event = answers log request in
      let event' = answers' log request in
      let next : Event → TurnAlone E A = λ e. turn_alone answers (f (record { before = log; entry = record { caller = 0; event = e } })) input (log ++ (record { caller = 0; event = e }) ∷ []) in
      let next' : Event → TurnAlone E A = λ e. turn_alone answers' (f (record { before = log; entry = record { caller = 0; event = e } })) input (log ++ (record { caller = 0; event = e }) ∷ []) in
      let here = begins_on _ (next event).log one (grows answers (f (record { before = log; entry = record { caller = 0; event = event } })) input (log ++ (record { caller = 0; event = event }) ∷ [])) b in
      let here' = begins_on _ (next' event').log other (grows answers' (f (record { before = log; entry = record { caller = 0; event = event' } })) input (log ++ (record { caller = 0; event = event' }) ∷ [])) b' in
      let same = event_same laws patterns (history admin log) event event' (as_asked log request ∙ sym (as_asked' log request))
      (due_here places patterns matching admin one log here.0 (record { caller = 0; event = event }) legal (here.1 ∙ append_assoc log (record { caller = 0; event = event } ∷ []) here.0))
      (due_here places patterns matching admin other log here'.0 (record { caller = 0; event = event' }) legal' (here'.1 ∙ append_assoc log (record { caller = 0; event = event' } ∷ []) here'.0)) in
      turns_same (f (record { before = log; entry = record { caller = 0; event = event } })) input (log ++ (record { caller = 0; event = event }) ∷ []) b (subst (λ (e : Event). Begins (next' e).log other) (sym same) b') ∙ ap next' same

  module _ (book : Rulebook) where
    -- how each hub answers, by the same rules
    abbrev first : Recorded
    first = record { answers = answers; book = book }

    abbrev second : Recorded
    second = record { answers = answers'; book = book }

    all_grow : (recorded : Recorded) (number : ℕ) (bodies : List (List ℕ)) (log : List Entry) → Begins log (sessions recorded admin number bodies log).log
    unfolding sessions served_alone
    all_grow recorded number [] log = begins_same log log refl
    all_grow recorded number (body ∷ bodies) log =
        let turn = turn_alone recorded.answers (session recorded.book admin) body log in
        begins_on log turn.log _ (grows recorded.answers (session recorded.book admin) body log) (all_grow recorded (number + 1) bodies turn.log)

    sessions_same : (number : ℕ) (bodies : List (List ℕ)) (log : List Entry) → Begins (sessions first admin number bodies log).log one → Begins (sessions second admin number bodies log).log other → sessions first admin number bodies log ≡ sessions second admin number bodies log
    unfolding sessions served_alone
    sessions_same number [] log b b' = refl
    sessions_same number (body ∷ bodies) log b b' =
        let turn = turn_alone answers (session book admin) body log in
        let turn' = turn_alone answers' (session book admin) body log in
        let same = turns_same (session book admin) body log (begins_on turn.log _ one (all_grow first (number + 1) bodies turn.log) b) (begins_on turn'.log _ other (all_grow second (number + 1) bodies turn'.log) b') in
        let next : Printed → Printed = λ more. record { output = reply_text number (stop_word turn.stop) turn.bytes ++ more.output; log = more.log } in
        let rest = sessions_same (number + 1) bodies turn.log b (subst (λ (l : List Entry). Begins (sessions second admin (number + 1) bodies l).log other) (sym (ap (λ (t : TurnAlone SessionEnd (Unit {0})). t.log) same)) b') in
        ap next rest
        ∙ ap (λ (t : TurnAlone SessionEnd (Unit {0})). record { output = reply_text number (stop_word t.stop) t.bytes ++ (sessions second admin (number + 1) bodies t.log).output; log = (sessions second admin (number + 1) bodies t.log).log }) same

-- ---- by other rules

books_log : (answers : Answers) (admin : Name) (book other : Rulebook) (number : ℕ) (bodies : List (List ℕ)) (log : List Entry)
    → (sessions (record { answers = answers; book = book }) admin number bodies log).log ≡ (sessions (record { answers = answers; book = other }) admin number bodies log).log
unfolding sessions served_alone
books_log answers admin book other number [] log = refl
books_log answers admin book other number (body ∷ bodies) log =
    books_log answers admin book other (number + 1) bodies (turn_alone answers (session book admin) body log).log
    ∙ ap (λ (l : List Entry). (sessions (record { answers = answers; book = other }) admin (number + 1) bodies l).log) (log_alike answers (session book admin) (session other admin) (alike_session book other admin) body log)

loads_log : (answers : Answers) (book other : Rulebook) (count start number : ℕ) → log_behind (record { answers = answers; book = book }) count start number ≡ log_behind (record { answers = answers; book = other }) count start number
unfolding log_behind served_alone
loads_log answers book other count start zero = log_alike answers (session book loader) (session other loader) (alike_session book other loader) (first_input count start) []
loads_log answers book other count start (suc number) =
    let visit = visit_at count start number in
    ap (λ (l : List Entry). (turn_alone answers (session book loader) (visit_input number visit (value_behind l visit)) l).log) (loads_log answers book other count start number)
    ∙ log_alike answers (session book loader) (session other loader) (alike_session book other loader) (visit_input number visit (value_behind (log_behind (record { answers = answers; book = other }) count start number) visit)) (log_behind (record { answers = answers; book = other }) count start number)

-- ---- the sessions of an installation

module _ (laws : OneAnswer) (places : LegalByPlaces) (patterns : Patterns) (matching : AreTrue patterns) (one other : List Entry) (legal : IsLegal loader one) (legal' : IsLegal loader other) (answers answers' : Answers)
    (as_asked : (before : List Entry) (request : Request) → request_of (answers before request) ≡ request) (as_asked' : (before : List Entry) (request : Request) → request_of (answers' before request) ≡ request) (book : Rulebook) (count start : ℕ) where
  loads_same : (number : ℕ) → Begins (log_behind (record { answers = answers; book = book }) count start number) one → Begins (log_behind (record { answers = answers'; book = book }) count start number) other
      → log_behind (record { answers = answers; book = book }) count start number ≡ log_behind (record { answers = answers'; book = book }) count start number
  unfolding log_behind served_alone
  loads_same zero b b' = ap (λ (t : TurnAlone SessionEnd (Unit {0})). t.log) (turns_same laws places patterns matching loader one other legal legal' answers answers' as_asked as_asked' (session book loader) (first_input count start) [] b b')
  loads_same (suc number) b b' =
      let visit = visit_at count start number in
      let turn : List Entry → TurnAlone SessionEnd (Unit {0}) = λ l. turn_alone answers (session book loader) (visit_input number visit (value_behind l visit)) l in
      let turn' : List Entry → TurnAlone SessionEnd (Unit {0}) = λ l. turn_alone answers' (session book loader) (visit_input number visit (value_behind l visit)) l in
      let log = log_behind (record { answers = answers; book = book }) count start number in
      let log' = log_behind (record { answers = answers'; book = book }) count start number in
      let before = loads_same number (begins_on log (turn log).log one (grows answers (session book loader) _ log) b) (begins_on log' (turn' log').log other (grows answers' (session book loader) _ log') b') in
      ap (λ (t : TurnAlone SessionEnd (Unit {0})). t.log)
      (turns_same laws places patterns matching loader one other legal legal' answers answers' as_asked as_asked' (session book loader) (visit_input number visit (value_behind log visit)) log b (subst (λ (l : List Entry). Begins (turn' l).log other) (sym before) b'))
      ∙ ap (λ (l : List Entry). (turn' l).log) before

-- ---- two runs

module _ (there : LegalLogsHaveRulebooks) (have : LogsHaveAnswers) (laws : OneAnswer) (places : LegalByPlaces) (patterns : Patterns) (matching : AreTrue patterns) where
  pub scripts_agree : OneScript → ScriptsAgree
  unfolding script
  scripts_agree differ admin input before one other printed printed' named p q =
      let a = have one in
      let a' = have other in
      let b = there admin one patterns named p.legal matching in
      let b' = there admin other patterns named q.legal matching in
      let r : Recorded = record { answers = a.0; book = b.0 } in
      let r' : Recorded = record { answers = a'.0; book = b'.0 } in
      let mixed : Recorded = record { answers = a.0; book = b'.0 } in
      let is : IsRecorded admin one r = record { agrees = a.1; book = b.2 } in
      let is' : IsRecorded admin other r' = record { agrees = a'.1; book = b'.2 } in
      let inputs : p.runs.input ≡ q.runs.input = sym (rw p.left at p.runs.told) ∙ rw q.left at q.runs.told in
      let script_same = differ session_word p.runs.input p.runs.bodies q.runs.bodies p.runs.rest q.runs.rest session_is_word p.runs.is_script (subst (λ (i : List ℕ). IsScript i q.runs.bodies q.runs.rest) (sym inputs) q.runs.is_script) in
      let left : one ≡ (sessions mixed admin 1 p.runs.bodies before).log = p.runs.log_is r is ∙ books_log a.0 admin b.0 b'.0 1 p.runs.bodies before in
      let right : other ≡ (sessions r' admin 1 p.runs.bodies before).log = q.runs.log_is r' is' ∙ ap (λ (bodies : List (List ℕ)). (sessions r' admin 1 bodies before).log) (sym script_same.0) in
      let logs : one ≡ other =
      left
      ∙ ap (λ (all : Printed). all.log) (sessions_same laws places patterns matching admin one other p.legal q.legal a.0 a'.0 a.2 a'.2 b'.0 1 p.runs.bodies before (begins_same _ one left) (begins_same _ other right))
      ∙ sym right in
      let said : printed ≡ (script r admin p.runs.bodies p.runs.rest before).output = rw (p.none, p.output) at p.runs.written r is in
      let said' : printed' ≡ (script r admin q.runs.bodies q.runs.rest before).output = rw (q.none, q.output) at q.runs.written r (subst (λ (l : List Entry). IsRecorded admin l r) logs is) in
      (logs, said ∙ ap₂ (λ (bodies : List (List ℕ)) (rest : List ℕ). (script r admin bodies rest before).output) script_same.0 script_same.1 ∙ sym said')

  pub loads_agree : LoadsAgree
  loads_agree count start one other legal legal' loaded loaded' =
      let a = have one in
      let a' = have other in
      let b = there loader one patterns refl legal matching in
      let b' = there loader other patterns refl legal' matching in
      let left = loaded (record { answers = a.0; book = b.0 }) (record { agrees = a.1; book = b.2 }) ∙ loads_log a.0 b.0 b'.0 count start count in
      let right = loaded' (record { answers = a'.0; book = b'.0 }) (record { agrees = a'.1; book = b'.2 }) in
      left ∙ loads_same laws places patterns matching one other legal legal' a.0 a'.0 a.2 a'.2 b'.0 count start count (begins_same _ one left) (begins_same _ other right) ∙ sym right
