-- A push's entry, and the rest.
use Rattle.std.proofs.Common.{◌≡◌, ◌+◌, List, length, Result, ◌∙◌, ap}
use Rattle.git_object.specs.Content.{Content}
use Rattle.pktline_core.specs.LinkState.{LinkState}
use Rattle.ref_store.specs.Refs.{Name}
use Rattle.ref_store.specs.declared.command.Command.{Command}
use Rattle.rule_compile.specs.Flat.{Flat}
use Rattle.rule_compile.specs.Patterns.{AreTrue, Patterns}
use Rattle.hub_history.specs.declared.outcome.Outcome.{Outcome}
use Rattle.hub_history.specs.Conf.{AreInForce}
use Rattle.hub_history.specs.History.{Stands}
use Rattle.hub_history.specs.Laws.{OneAnswer, PinsAreOfOpenings}
use Rattle.hub.specs.declared.answer.Pushed.TheVariants.{Settled}
use Rattle.hub_history.specs.Opening.{Opening}
use Rattle.hub_history.specs.State.{Conf}
use Rattle.hub.specs.Desk.{DeskView, Pushes}
use Rattle.interaction_tree.specs.Interaction.{Interaction, write, ask}
use Rattle.hub_history.specs.Requests.{Push}
use Rattle.interaction_tree.specs.Traces.{Halt}
use Rattle.interaction_tree.specs.Runs.{Runs}
use Rattle.interaction_tree.proofs.StepLemmas.{runs_pushed}
use Rattle.session_core.specs.declared.end.SessionEnd.{SessionEnd}
use Rattle.session_core.specs.Rulebook.{RunsByRulebook}
use Rattle.session_core.proofs.OpeningLemmas.{rules_before}
use Rattle.session_core.proofs.RulebookLemmas.{bind_by, made_on, rulebook_before, rules_at_opening, runs_always, runs_told}
use Rattle.receive_pack.specs.declared.changes.Capabilities.{Capabilities}
use Rattle.receive_pack.specs.declared.reports.ReportedPush.{ReportedPush}
use Rattle.receive_pack.specs.Texts.{report}
use Rattle.receive_pack.specs.Receiving.{pushing, recorded_outcomes, reported, reported_push}

-- The report may be of a copy of what is pushed. It tells the denials by the rules of the pin's conf, which
-- are those that were in force at the opening, and the later ones by those of the conf that the answer has,
-- which are those just before the push.
pub pushed_then : OneAnswer → PinsAreOfOpenings → (a c : LinkState) (d e : DeskView) (pin : Opening) (caps : Capabilities) (pack : List Content) (commands : List Command) (told : ReportedPush) (outcomes : List Outcome) (made : List Name) (conf : Conf) (rules later : Flat)
    (out : Result (Unit {0}) (Halt SessionEnd)) → Stands pin d.admin d.seen → ((patterns : Patterns) → AreTrue patterns → AreInForce patterns pin.pinned.conf rules) → ((patterns : Patterns) → AreTrue patterns → AreInForce patterns conf later) → told ≡ reported_push pin commands
    → Pushes d e pin pack commands caps.atomic (Settled outcomes made conf) → Runs a c e e (write (reported caps (report rules.rules later.rules told outcomes))) out → RunsByRulebook a c d e (λ book. pushing book pin caps commands pack) out
unfolding pushing
pushed_then one openings a c d e pin caps pack commands told outcomes made conf rules later out stands force force_later same pushes rest =
    let entry = runs_pushed {E = SessionEnd} a d e pin pack commands caps.atomic outcomes made conf pushes in
    let grown = made_on d e entry.own entry.made in
    let said : Flat → Flat → ReportedPush → Interaction SessionEnd (Unit {0}) = λ rs ls push. write (reported caps (report rs.rules ls.rules push outcomes)) in
    bind_by a a d e (λ book. ask (Push pin.place pack commands caps.atomic))
    (λ book own. write (reported caps (report (book.rules (pin.place + 1)).rules (book.rules (length own.before)).rules (reported_push pin commands) (recorded_outcomes own.entry.event)))) c e _ out
    (runs_always a a d e (ask (Push pin.place pack commands caps.atomic)) _ entry)
    (runs_told a c e e (said rules later told) (λ book. said (book.rules (pin.place + 1)) (book.rules (length pushes.0)) (reported_push pin commands)) out rest
    (λ book of. ap (said rules later) same
    ∙ ap (λ (rs : Flat). said rs later (reported_push pin commands)) (rules_at_opening one openings d.admin d.seen book pin rules stands (rulebook_before d e book grown of) force)
    ∙ ap (λ (ls : Flat). said (book.rules (pin.place + 1)) ls (reported_push pin commands)) (rules_before one d e pushes.0 _ book conf later pushes.1 of pushes.2 force_later)))
