-- An opening's entry, and what it pins.
use Rattle.std.proofs.Common.{◌≡◌, List, [], ◌∷◌, ◌++◌, length, Some, Result, Ok, codes, refl, sym, ◌∙◌, ap, subst}
use Rattle.pktline_core.specs.LinkState.{LinkState}
use Rattle.rule_compile.specs.declared.rule.Rule.{Rule}
use Rattle.rule_compile.specs.Flat.{Flat}
use Rattle.rule_compile.specs.Patterns.{AreTrue, Patterns}
use Rattle.access_check.specs.Verdicts.{rule_of}
use Rattle.access_check.specs.declared.verdicts.Want.{Want}
use Rattle.hub_history.specs.declared.entry.Entry.{Entry}
use Rattle.hub_history.specs.declared.entry.EnterKept.{EnterKept}
use Rattle.hub_history.specs.declared.entry.EnterKept.TheVariants.{Granted, Created, Denied, NoRepo}
use Rattle.hub_history.specs.declared.entry.Event.TheVariants.{Entered}
use Rattle.hub.specs.declared.answer.Entered as hub_entered
use Rattle.ref_store.specs.Refs.{Name}
use Rattle.hub_history.specs.Conf.{AreInForce}
use Rattle.hub_history.specs.Opening.{Opening}
use Rattle.hub_history.specs.State.{Conf, HasShortNames}
use Rattle.hub_history.specs.Laws.{NamesStayShort, OneAnswer}
use Rattle.hub_history.specs.History.{IsLegal, Stands, history, opening_at, replay}
use Rattle.hub.specs.Answer.{kept}
use Rattle.hub.specs.Desk.{DeskView, Enters, MakesEntry}
use Rattle.hub_history.proofs.HistoryLemmas.{opening_at-place}
use Rattle.interaction_tree.specs.Interaction.{Interaction, gives, ask, ◌>>=◌}
use Rattle.hub_history.specs.Requests.{Enter}
use Rattle.interaction_tree.specs.Requests.{OwnEntry}
use Rattle.interaction_tree.specs.Traces.{Halt}
use Rattle.interaction_tree.specs.Runs.{Runs}
use Rattle.interaction_tree.proofs.RunLemmas.{runs_gives}
use Rattle.interaction_tree.proofs.StepLemmas.{runs_entered}
use Rattle.session_core.specs.declared.end.SessionEnd.{SessionEnd}
use Rattle.session_core.specs.Denials.{denial, open_text}
use Rattle.session_core.specs.Opening.{StandsSomewhere, entering, opened_by, opening, opening_behind, recorded_answer, unless_refused}
use Rattle.session_core.specs.Packets.{refuse}
use Rattle.session_core.specs.Rulebook.{IsRulebook, Rulebook, RunsByRulebook}
use Rattle.session_core.proofs.RulebookLemmas.{bind_by, rules_here, runs_always, runs_told}
use Rattle.session_core.specs.declared.end.SessionEnd.TheVariants as end
use Rattle.access_check.specs.declared.verdicts.Verdict.{Verdict}

-- the entry of an opening, and the log just before it
abbrev pub own_at : DeskView → List Entry → Name → Name → Want → EnterKept → OwnEntry
own_at d before user repo want answer = record { before = before; entry = record { caller = d.caller; event = Entered user repo want answer } }

-- what a session does by the answer of an opening
abbrev pub by_answer : List Rule → Name → Name → Want → EnterKept → Opening → Interaction SessionEnd Opening
by_answer rules user repo want answer opening = unless_refused user repo want (opened_by rules answer opening)

-- an opening's entry, and the rest by its answer
pub entered_then : (a c : LinkState) (d e : DeskView) (user repo : Name) (want : Want) (result : hub_entered.Entered) (answer : EnterKept) (out : Result Opening (Halt SessionEnd)) → kept result ≡ Some answer → (enters : Enters d e user repo want result)
    → RunsByRulebook a c e e (λ book. by_answer (book.rules (length enters.0)).rules user repo want answer (opening_behind d.admin (own_at d enters.0 user repo want answer) user repo want)) out
    → RunsByRulebook a c d e (λ book. entering book d.admin user repo want) out
unfolding entering opening ask ◌>>=◌
entered_then a c d e user repo want result answer out is enters rest =
    bind_by a a d e (λ book. ask (Enter user repo want))
    (λ book own. by_answer (book.rules (length own.before)).rules user repo want (recorded_answer own.entry.event) (opening_behind d.admin own user repo want)) c e (own_at d enters.0 user repo want answer) out
    (runs_always a a d e (ask (Enter user repo want)) (Ok (own_at d enters.0 user repo want answer)) (runs_entered a d e user repo want result answer is enters)) rest

some_same : {X : Type 0} {a b : X} → Some a ≡ Some b → a ≡ b
some_same {X} {a} {b} same = cc

-- what the entry of an opening pins
abbrev Pins : DeskView → List Entry → Name → Name → Want → EnterKept → Type 0
Pins d before user repo want answer =
    let own = own_at d before user repo want answer in
    opening_at (history d.admin (before ++ own.entry ∷ [])) (length before) ≡ Some (opening_behind d.admin own user repo want).pinned

pins_granted : (d : DeskView) (before : List Entry) (user repo : Name) (want : Want) → Pins d before user repo want Granted
pins_granted d before user repo want = opening_at-place d.admin before (own_at d before user repo want Granted).entry []

pins_created : (d : DeskView) (before : List Entry) (user repo : Name) (want : Want) → Pins d before user repo want Created
pins_created d before user repo want = opening_at-place d.admin before (own_at d before user repo want Created).entry []

-- what stands behind an entry, at its place
stood : (d e : DeskView) (before : List Entry) (entry : Entry) → MakesEntry d e before entry → (pin : Opening) → pin.place ≡ length before → Stands pin e.admin e.seen
    → opening_at (history d.admin (before ++ entry ∷ [])) (length before) ≡ Some pin.pinned
stood d e before entry m pin place stands =
    ap (opening_at (history d.admin (before ++ entry ∷ []))) (sym place)
    ∙ ap (λ (v : DeskView). opening_at (history v.admin v.seen) pin.place) (sym m.new_is)
    ∙ stands

same_opening : (pin other : Opening) → pin.place ≡ other.place → pin.pinned ≡ other.pinned → pin ≡ other
same_opening pin other p q = λ i. record { place = p i; pinned = q i }

-- the pin of an opening that was granted, or whose repository was made, is the one that its interaction gives
pub pin_granted : (d e : DeskView) (user repo : Name) (want : Want) (pin : Opening) (enters : Enters d e user repo want (hub_entered.TheVariants.Granted pin)) → pin ≡ opening_behind d.admin (own_at d enters.0 user repo want Granted) user repo want
pin_granted d e user repo want pin enters =
    let is = enters.2 in
    let own = own_at d enters.0 user repo want Granted in
    same_opening pin (opening_behind d.admin own user repo want) is.place (some_same (sym (stood d e enters.0 own.entry enters.1 pin is.place is.stands) ∙ pins_granted d enters.0 user repo want))

pub pin_created : (d e : DeskView) (user repo : Name) (want : Want) (pin : Opening) (enters : Enters d e user repo want (hub_entered.TheVariants.Created pin)) → pin ≡ opening_behind d.admin (own_at d enters.0 user repo want Created) user repo want
pin_created d e user repo want pin enters =
    let is = enters.2 in
    let own = own_at d enters.0 user repo want Created in
    same_opening pin (opening_behind d.admin own user repo want) is.place (some_same (sym (stood d e enters.0 own.entry enters.1 pin is.place is.stands) ∙ pins_created d enters.0 user repo want))

-- what was seen up to an entry that was made is legal
legal_after : (d e : DeskView) (before : List Entry) (entry : Entry) → MakesEntry d e before entry → IsLegal e.admin e.seen
legal_after d e before entry makes = subst (λ (v : DeskView). IsLegal v.admin v.seen) (sym makes.new_is) makes.legal

-- the refs that a pin has which stands there have short names
pub short_after : NamesStayShort → (d e : DeskView) (before : List Entry) (entry : Entry) (pin : Opening) → MakesEntry d e before entry → Stands pin e.admin e.seen → HasShortNames pin.pinned.repository.refs
short_after short d e before entry pin makes stands = (short e.admin e.seen (legal_after d e before entry makes)).1 pin stands

-- the pin stands in a log which is legal
pub stands_after : (d e : DeskView) (before : List Entry) (entry : Entry) (pin : Opening) → MakesEntry d e before entry → Stands pin e.admin e.seen → StandsSomewhere pin
stands_after d e before entry pin makes stands = (e.admin, e.seen, legal_after d e before entry makes, stands)

-- a desk's rulebook is that of the log up to the entry that it made
pub rulebook_at : (d e : DeskView) (before : List Entry) (entry : Entry) (book : Rulebook) → MakesEntry d e before entry → IsRulebook e.admin e.seen book → IsRulebook d.admin (before ++ entry ∷ []) book
rulebook_at d e before entry book makes of = subst (λ (v : DeskView). IsRulebook v.admin v.seen book) makes.new_is of

-- the rules in force just before an entry that was made
pub rules_before : OneAnswer → (d e : DeskView) (before : List Entry) (entry : Entry) (book : Rulebook) (conf : Conf) (rules : Flat) → MakesEntry d e before entry → IsRulebook e.admin e.seen book → conf ≡ (replay d.admin before).conf
    → ((patterns : Patterns) → AreTrue patterns → AreInForce patterns conf rules) → rules ≡ book.rules (length before)
rules_before one d e before entry book conf rules makes is same force =
    rules_here one d.admin before (entry ∷ []) book rules (rulebook_at d e before entry book makes is)
    (subst (λ (c : Conf). AreInForce book.patterns c rules) same (force book.patterns is.matching))

-- ---- an opening by its answer

pub granted_then : (a : LinkState) (d e : DeskView) (user repo : Name) (want : Want) (pin : Opening) → Enters d e user repo want (hub_entered.TheVariants.Granted pin) → RunsByRulebook a a d e (λ book. entering book d.admin user repo want) (Ok pin)
granted_then a d e user repo want pin enters =
    entered_then a a d e user repo want (hub_entered.TheVariants.Granted pin) Granted (Ok pin) refl enters
    (subst (λ (o : Opening). RunsByRulebook {E = SessionEnd} a a e e (λ book. gives o) (Ok pin)) (pin_granted d e user repo want pin enters) (runs_always a a e e (gives pin) (Ok pin) (runs_gives a e pin)))

pub created_then : (a : LinkState) (d e : DeskView) (user repo : Name) (want : Want) (pin : Opening) → Enters d e user repo want (hub_entered.TheVariants.Created pin) → RunsByRulebook a a d e (λ book. entering book d.admin user repo want) (Ok pin)
created_then a d e user repo want pin enters =
    entered_then a a d e user repo want (hub_entered.TheVariants.Created pin) Created (Ok pin) refl enters
    (subst (λ (o : Opening). RunsByRulebook {E = SessionEnd} a a e e (λ book. gives o) (Ok pin)) (pin_created d e user repo want pin enters) (runs_always a a e e (gives pin) (Ok pin) (runs_gives a e pin)))

module _ (a c : LinkState) (d e : DeskView) (user repo : Name) (want : Want) (out : Result Opening (Halt SessionEnd)) where
  -- a denial is told by the rules in force, which are the conf's
  pub denied_then : OneAnswer → (verdict : Verdict) (conf : Conf) (rules : Flat) → Enters d e user repo want (hub_entered.TheVariants.Denied verdict conf) → ((patterns : Patterns) → AreTrue patterns → AreInForce patterns conf rules)
      → Runs a c e e (refuse (codes "ERR " ++ denial (open_text want) repo user (rule_of rules.rules verdict)) end.Denied) out → RunsByRulebook a c d e (λ book. entering book d.admin user repo want) out
  denied_then one verdict conf rules enters force said =
      let told : Flat → Interaction SessionEnd Opening = λ rs. refuse (codes "ERR " ++ denial (open_text want) repo user (rule_of rs.rules verdict)) end.Denied in
      entered_then a c d e user repo want (hub_entered.TheVariants.Denied verdict conf) (Denied verdict) out refl enters
      (runs_told a c e e (told rules) (λ book. told (book.rules (length enters.0))) out said
      (λ book of. ap told (rules_before one d e enters.0 (own_at d enters.0 user repo want (Denied verdict)).entry book conf rules enters.1 of enters.2 force)))

  pub no_repo_then : Enters d e user repo want hub_entered.TheVariants.NoRepo → Runs a c e e (refuse (codes "ERR no such repository") end.NoRepo) out → RunsByRulebook a c d e (λ book. entering book d.admin user repo want) out
  no_repo_then enters said =
      entered_then a c d e user repo want hub_entered.TheVariants.NoRepo NoRepo out refl enters (runs_always a c e e (refuse (codes "ERR no such repository") end.NoRepo) out said)
