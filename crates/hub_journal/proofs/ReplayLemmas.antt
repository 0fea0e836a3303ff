-- The pins that are kept while a hub is made again.
use Rattle.std.proofs.Common.{◌≡◌, ◌⊎◌, inl, inr, ℕ, zero, suc, ◌+◌, Bool, true, false, cond, ltb, eqb, List, [], ◌∷◌, ◌++◌, length, refl, sym, ◌∙◌, ap, subst, arith, length-append}
use Rattle.std.specs.Prelude.{Option, Some, None}
use Rattle.std.specs.List.{slice_get}
use Rattle.std.specs.Ordering.{nat_cmp, is_eq}
use Rattle.std.proofs.Common.{Less, Equal, Greater}
use Rattle.std.proofs.lemmas.Bool.{eqb-true, eq-eqb, le-ltb}
use Rattle.ref_store.specs.Refs.{Name}
use Rattle.ref_store.specs.declared.command.Command.{Command}
use Rattle.git_object.specs.Content.{Content}
use Rattle.access_check.specs.declared.verdicts.Want.TheVariants as want
use Rattle.hub_history.specs.declared.entry.Entry.{Entry}
use Rattle.hub_history.specs.declared.entry.Event.{Event}
use Rattle.hub_history.specs.Opening.{Opening, Pinned}
use Rattle.hub_history.specs.History.{History, Stands, after, history, history_from, joined, new_history, opening_at, pinned_by, replay, step}
use Rattle.hub_history.specs.declared.entry.Event.TheVariants.{Entered, Pushed, Permitted, Looked}
use Rattle.hub_history.specs.State.{State}
use Rattle.hub_history.specs.Requests.{Request, Enter, Push, Permit, Look, request_of}
use Rattle.hub_history.proofs.HistoryLemmas.{history_from-append, opening_at-place, stands_kept}
use Rattle.hub.specs.Hub.{HubView, logged}
use Rattle.hub_journal.specs.Replay.{ArePins, IsAwaited, IsImpossible, IsWritable, Keeps, KeepsAwaited, LeavesPins, Replays}

-- ---- keys

equal_is : (less same : Bool) → is_eq (cond less Less (cond same Equal Greater)) ≡ true → same ≡ true
equal_is true same e = absurd cc
equal_is false true e = refl
equal_is false false e = absurd cc

pub is_equal : (less same : Bool) → less ≡ false → same ≡ true → is_eq (cond less Less (cond same Equal Greater)) ≡ true
is_equal less same l s = rw (l, s) refl

pub key_is : (a b : ℕ) → is_eq (nat_cmp a b) ≡ true → a ≡ b
key_is a b e = eqb-true a b (equal_is (ltb a b) (eqb a b) e)

cases : (b : Bool) → (b ≡ true) ⊎ (b ≡ false)
cases true = inl refl
cases false = inr refl

key_not : (a b : ℕ) → is_eq (nat_cmp a b) ≡ false → a ≡ b → ⊥
key_not a b e same =
    let yes : is_eq (nat_cmp a b) ≡ true = is_equal (ltb a b) (eqb a b) (le-ltb a b (omega (arith, same))) (eq-eqb a b same) in
    let clash : true ≡ false = sym yes ∙ e in
    cc

-- ---- openings of a log with one entry more

length_openings : (h : History) (log : List Entry) → length (history_from h log).openings ≡ length h.openings + length log
length_openings h [] = omega arith
length_openings h (e ∷ log) = omega (arith, length_openings (after h e.event) log, length-append h.openings (pinned_by (step h e.event) e.event ∷ []))

pub last_or_before : {X : Type 0} (xs : List X) (x y : X) (i : ℕ) → slice_get (xs ++ x ∷ []) i ≡ Some y → (slice_get xs i ≡ Some y) ⊎ ((i ≡ length xs) × (x ≡ y))
last_or_before [] x y zero is = inr (refl, cc)
last_or_before [] x y (suc i) is = absurd cc
last_or_before (z ∷ xs) x y zero is = inl is
last_or_before (z ∷ xs) x y (suc i) is =
    elim (last_or_before xs x y i is) [
      | inl before ↦ inl before
      | inr last ↦ inr (ap suc last.0, last.1)
    ]

joined_some : {X : Type 0} (o : Option (Option X)) (x : X) → joined o ≡ Some x → o ≡ Some (Some x)
joined_some None x is = absurd cc
joined_some (Some o) x is = ap (λ (p : Option _). Some p) is

-- an opening was there before, or is that of the last entry
opening_before : (admin : Name) (log : List Entry) (e : Entry) (place : ℕ) (p : Pinned) → opening_at (history admin (log ++ e ∷ [])) place ≡ Some p → (opening_at (history admin log) place ≡ Some p) ⊎ (place ≡ length log)
opening_before admin log e place p is =
    let h : History = history admin log in
    let q : Option Pinned = pinned_by (step h e.event) e.event in
    let there : slice_get (h.openings ++ q ∷ []) place ≡ Some (Some p) =
    ap (λ (g : History). slice_get g.openings place) (sym (history_from-append (new_history admin) log (e ∷ []))) ∙ joined_some (slice_get (history admin (log ++ e ∷ [])).openings place) p is in
    elim (last_or_before h.openings q (Some p) place there) [
      | inl before ↦ inl (ap joined before)
      | inr last ↦ inr (last.0 ∙ length_openings (new_history admin) log ∙ omega arith)
    ]

-- ---- pins

not_none : {X : Type 0} (o : Option X) (x : X) → o ≡ Some x → o ≡ None → ⊥
not_none None x some none = absurd cc
not_none (Some y) x some none = absurd cc

pub not_kept : (uses : ℕ → Option ℕ) (hub : HubView) (kept : ℕ → Option Opening) (place : ℕ) → ArePins uses hub kept → kept place ≡ None → IsAwaited uses (length hub.log) place → IsWritable hub place → ⊥
not_kept uses hub kept place are none awaited writable = not_none (kept place) (record { place = place; pinned = writable.pinned }) (are.all place writable.pinned writable.opened writable.writes awaited) none

pub kept_writable : (uses : ℕ → Option ℕ) (hub : HubView) (kept : ℕ → Option Opening) (place : ℕ) (pin : Opening) → ArePins uses hub kept → kept place ≡ Some pin → IsWritable hub place
kept_writable uses hub kept place pin are is =
    let stand = are.stand place pin is in
    record { pinned = pin.pinned; opened = subst (λ (n : ℕ). opening_at (history hub.admin hub.log) n ≡ Some pin.pinned) stand.0 stand.2; writes = stand.1 }

pub possible_push : (uses : ℕ → Option ℕ) (hub : HubView) (kept : ℕ → Option Opening) (place : ℕ) (pin : Opening) (pack : List Content) (commands : List Command) (atomic : Bool) → ArePins uses hub kept → kept place ≡ Some pin → (length commands ≡ 0 → ⊥)
    → IsImpossible hub (Push place pack commands atomic) → ⊥
possible_push uses hub kept place pin pack commands atomic are is some (inl none) = none (kept_writable uses hub kept place pin are is)
possible_push uses hub kept place pin pack commands atomic are is some (inr empty) = some empty

-- who is awaited behind one entry more was awaited before it
still_awaited : (uses : ℕ → Option ℕ) (old new : HubView) (caller : ℕ) (event : Event) (place : ℕ) → new ≡ logged old caller event → IsAwaited uses (length new.log) place → IsAwaited uses (length old.log) place
still_awaited uses old new caller event place grows awaited = record {
  last = awaited.last;
  known = awaited.known;
  later = omega (arith, awaited.later, ap (λ (h : HubView). length h.log) grows, length-append old.log (record { caller = caller; event = event } ∷ []));
}

still_stands : (old new : HubView) (caller : ℕ) (event : Event) (pin : Opening) → new ≡ logged old caller event → Stands pin old.admin old.log → Stands pin new.admin new.log
still_stands old new caller event pin grows stands =
    subst (λ (h : HubView). Stands pin h.admin h.log) (sym grows) (stands_kept old.admin old.log (record { caller = caller; event = event } ∷ []) pin.place pin.pinned stands)

was_opened : (old new : HubView) (caller : ℕ) (event : Event) (place : ℕ) (p : Pinned) → new ≡ logged old caller event → opening_at (history new.admin new.log) place ≡ Some p → (opening_at (history old.admin old.log) place ≡ Some p) ⊎ (place ≡ length old.log)
was_opened old new caller event place p grows is =
    opening_before old.admin old.log (record { caller = caller; event = event }) place p (subst (λ (h : HubView). opening_at (history h.admin h.log) place ≡ Some p) grows is)

-- the entry is no opening for writing after which a push is awaited
pub none_more : (uses : ℕ → Option ℕ) (old new : HubView) (caller : ℕ) (event : Event) (kept : ℕ → Option Opening) → new ≡ logged old caller event → (IsWritable new (length old.log) → IsAwaited uses (length new.log) (length old.log) → ⊥)
    → ArePins uses old kept → ArePins uses new kept
none_more uses old new caller event kept grows none are = record {
  all = λ place p is writes awaited.
      elim (was_opened old new caller event place p grows is) [
        | inl before ↦ are.all place p before writes (still_awaited uses old new caller event place grows awaited)
        | inr last ↦ absurd (none (record { pinned = p; opened = subst (λ (n : ℕ). opening_at (history new.admin new.log) n ≡ Some p) last is; writes = writes }) (subst (IsAwaited uses (length new.log)) last awaited))
      ];
  stand = λ place pin is. let s = are.stand place pin is in (s.0, s.1, still_stands old new caller event pin grows s.2);
}

-- pins of openings after which no push is awaited needn't be kept
pub fewer : (uses : ℕ → Option ℕ) (hub : HubView) (goes_on : Bool) (place : ℕ) (before kept : ℕ → Option Opening) → LeavesPins goes_on place before kept → (goes_on ≡ false → IsAwaited uses (length hub.log) place → ⊥) → ArePins uses hub before → ArePins uses hub kept
fewer uses hub goes_on place before kept leaves none are = record {
  all = λ q p is writes awaited. leaves q ∙ all_by goes_on refl q p is writes awaited;
  stand = λ q pin is. are.stand q pin (stand_by goes_on q pin (is_eq (nat_cmp place q)) (sym (leaves q) ∙ is));
} where
  all_by : (t : Bool) → goes_on ≡ t → (q : ℕ) (p : Pinned) → opening_at (history hub.admin hub.log) q ≡ Some p → p.want ≡ want.Write → IsAwaited uses (length hub.log) q
      → cond t (before q) (cond (is_eq (nat_cmp place q)) None (before q)) ≡ Some (record { place = q; pinned = p })
  all_by true so q p is writes awaited = are.all q p is writes awaited
  all_by false so q p is writes awaited =
      elim (cases (is_eq (nat_cmp place q))) [
        | inl same ↦ absurd (none so (subst (IsAwaited uses (length hub.log)) (sym (key_is place q same)) awaited))
        | inr other ↦ ap (λ (b : Bool). cond b None (before q)) other ∙ are.all q p is writes awaited
      ]

  stand_by : (t : Bool) (q : ℕ) (pin : Opening) (b : Bool) → cond t (before q) (cond b None (before q)) ≡ Some pin → before q ≡ Some pin
  stand_by true q pin b is = is
  stand_by false q pin true is = absurd cc
  stand_by false q pin false is = is

pub some_is : {X : Type 0} (x y : X) → Some x ≡ Some y → x ≡ y
some_is x y e = cc

-- it is one, and its pin is kept
module _ (uses : ℕ → Option ℕ) (old new : HubView) (caller : ℕ) (event : Event) (before kept : ℕ → Option Opening) (pin : Opening) (grows : new ≡ logged old caller event) (are : ArePins uses old before)
    (place_is : pin.place ≡ length old.log) (writes : pin.pinned.want ≡ want.Write) (stands : Stands pin new.admin new.log)
    (puts : (q : ℕ) → kept q ≡ cond (is_eq (nat_cmp pin.place q)) (Some pin) (before q)) where
  puts_it : (q : ℕ) (b : Bool) → is_eq (nat_cmp pin.place q) ≡ b → kept q ≡ cond b (Some pin) (before q)
  puts_it q b is = puts q ∙ ap (λ (t : Bool). cond t (Some pin) (before q)) is

  all_by : (q : ℕ) (p : Pinned) (b : Bool) → is_eq (nat_cmp pin.place q) ≡ b → opening_at (history new.admin new.log) q ≡ Some p → p.want ≡ want.Write → IsAwaited uses (length new.log) q → kept q ≡ Some (record { place = q; pinned = p })
  all_by q p true same is write awaited =
      let here : pin.place ≡ q = key_is pin.place q same in
      let stood : opening_at (history new.admin new.log) q ≡ Some pin.pinned = subst (λ (n : ℕ). opening_at (history new.admin new.log) n ≡ Some pin.pinned) here stands in
      let pinned_is : pin.pinned ≡ p = some_is pin.pinned p (sym stood ∙ is) in
      puts_it q true same ∙ (λ i. Some (record { place = here i; pinned = pinned_is i }))
  all_by q p false other is write awaited =
      elim (was_opened old new caller event q p grows is) [
        | inl earlier ↦ puts_it q false other ∙ are.all q p earlier write (still_awaited uses old new caller event q grows awaited)
        | inr last ↦ absurd (key_not pin.place q other (place_is ∙ sym last))
      ]

  stand_by : (q : ℕ) (one : Opening) (b : Bool) → is_eq (nat_cmp pin.place q) ≡ b → kept q ≡ Some one → (one.place ≡ q) × (one.pinned.want ≡ want.Write) × Stands one new.admin new.log
  stand_by q one true same is =
      let it : pin ≡ one = some_is pin one (sym (puts_it q true same) ∙ is) in
      subst (λ (o : Opening). (o.place ≡ q) × (o.pinned.want ≡ want.Write) × Stands o new.admin new.log) it (key_is pin.place q same, writes, stands)
  stand_by q one false other is =
      let s = are.stand q one (sym (puts_it q false other) ∙ is) in
      (s.0, s.1, still_stands old new caller event one grows s.2)

  pub one_more : ArePins uses new kept
  one_more = record {
    all = λ q p is write awaited. all_by q p (is_eq (nat_cmp pin.place q)) refl is write awaited;
    stand = λ q one is. stand_by q one (is_eq (nat_cmp pin.place q)) refl is;
  }

nothing_at : (place : ℕ) → slice_get {X = Option Pinned} [] place ≡ None
nothing_at place = refl

-- a hub of which nothing was asked
pub no_pins : (uses : ℕ → Option ℕ) (admin : Name) (kept : ℕ → Option Opening) → ((place : ℕ) → kept place ≡ None) → ArePins uses (record { admin = admin; log = [] }) kept
no_pins uses admin kept none = record {
  all = λ place p is writes awaited. let no : Some p ≡ None = sym is ∙ ap joined (nothing_at place) in absurd cc;
  stand = λ place pin is. let no : Some pin ≡ None = sym is ∙ none place in absurd cc;
}

-- ---- what pins nothing

pub none_pinned : (old new : HubView) (caller : ℕ) (event : Event) → new ≡ logged old caller event → ((after : State) → pinned_by after event ≡ None) → IsWritable new (length old.log) → ⊥
none_pinned old new caller event grows nothing writable =
    let e : Entry = record { caller = caller; event = event } in
    let at : opening_at (history old.admin (old.log ++ e ∷ [])) (length old.log) ≡ Some writable.pinned = subst (λ (h : HubView). opening_at (history h.admin h.log) (length old.log) ≡ Some writable.pinned) grows writable.opened in
    not_none (opening_at (history old.admin (old.log ++ e ∷ [])) (length old.log)) writable.pinned at (opening_at-place old.admin old.log e [] ∙ nothing (replay old.admin (old.log ++ e ∷ [])))

abbrev IsNoOpening : Request → Type 0
IsNoOpening (Enter user repo want) = ⊥
IsNoOpening (Push place pack commands atomic) = Unit {0}
IsNoOpening (Permit user repo change) = Unit {0}
IsNoOpening (Look user) = Unit {0}

pins_nothing : (event : Event) (request : Request) → request_of event ≡ request → IsNoOpening request → (after : State) → pinned_by after event ≡ None
pins_nothing (Entered user repo want answer) request is none after = absurd (subst IsNoOpening (sym is) none)
pins_nothing (Pushed place pack commands atomic outcomes made) request is none after = refl
pins_nothing (Permitted user repo asked answer) request is none after = refl
pins_nothing (Looked user) request is none after = refl

-- after any other request the same pins are kept
pub same_pins : (uses : ℕ → Option ℕ) (old new : HubView) (caller : ℕ) (request : Request) (kept : ℕ → Option Opening) → Replays old new caller request → IsNoOpening request → ArePins uses old kept → ArePins uses new kept
same_pins uses old new caller request kept replays none are =
    none_more uses old new caller replays.event kept replays.grows (λ writable awaited. none_pinned old new caller replays.event replays.grows (pins_nothing replays.event request replays.asks none) writable) are

-- after an opening, those that were kept and its own, if it has one and a push is awaited after it
no_awaited_pin : (uses : ℕ → Option ℕ) (old new : HubView) (caller : ℕ) (request : Request) (kept : ℕ → Option Opening) (pin : Opening) → Replays old new caller request → Keeps old new (Some pin)
    → (IsAwaited uses (length new.log) pin.place → ⊥) → ArePins uses old kept → ArePins uses new kept
no_awaited_pin uses old new caller request kept pin replays keeps none are =
    none_more uses old new caller replays.event kept replays.grows
    (λ writable awaited. none (subst (IsAwaited uses (length new.log)) (sym keeps.0) awaited)) are

pub no_new_pin : (uses : ℕ → Option ℕ) (old new : HubView) (caller : ℕ) (request : Request) (kept : ℕ → Option Opening) (found : Option Opening) (count : ℕ) → Replays old new caller request → Keeps old new found → count ≡ length new.log
    → KeepsAwaited uses count found None → ArePins uses old kept → ArePins uses new kept
no_new_pin uses old new caller request kept None count replays keeps counts none are = none_more uses old new caller replays.event kept replays.grows (λ writable awaited. keeps writable) are
no_new_pin uses old new caller request kept (Some pin) count replays keeps counts none are =
    no_awaited_pin uses old new caller request kept pin replays keeps (λ awaited. none (subst (λ (n : ℕ). IsAwaited uses n pin.place) (sym counts) awaited)) are

pub a_new_pin : (uses : ℕ → Option ℕ) (old new : HubView) (caller : ℕ) (request : Request) (before kept : ℕ → Option Opening) (pin : Opening) (place : ℕ) → Replays old new caller request → Keeps old new (Some pin) → place ≡ pin.place
    → ((q : ℕ) → kept q ≡ cond (is_eq (nat_cmp place q)) (Some pin) (before q)) → ArePins uses old before → ArePins uses new kept
a_new_pin uses old new caller request before kept pin place replays keeps is puts are =
    one_more uses old new caller replays.event before kept pin replays.grows are keeps.0 keeps.1 keeps.2 (λ q. puts q ∙ ap (λ (n : ℕ). cond (is_eq (nat_cmp n q)) (Some pin) (before q)) is)

-- after a push, those that it left
pub pins_left : (uses : ℕ → Option ℕ) (old new : HubView) (caller : ℕ) (request : Request) (goes_on : Bool) (place from : ℕ) (before kept : ℕ → Option Opening) → Replays old new caller request → IsNoOpening request → LeavesPins goes_on place before kept
    → from ≡ length old.log + 1 → (goes_on ≡ false → IsAwaited uses from place → ⊥) → ArePins uses old before → ArePins uses new kept
pins_left uses old new caller request goes_on place from before kept replays none leaves next not are =
    let e : Entry = record { caller = caller; event = replays.event } in
    let long : length new.log ≡ from = ap (λ (h : HubView). length h.log) replays.grows ∙ length-append old.log (e ∷ []) ∙ sym next in
    fewer uses new goes_on place before kept leaves (λ so awaited. not so (subst (λ (n : ℕ). IsAwaited uses n place) long awaited))
    (same_pins uses old new caller request before replays none are)
