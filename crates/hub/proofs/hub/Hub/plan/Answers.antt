use Rattle.std.proofs.Common.{◌≡◌, ◌++◌, List, Option, length, sym, ◌∙◌, ap, subst}
use Rattle.std.specs.Option.{IfSome}
use Rattle.ref_store.specs.Refs.{Name}
use Rattle.hub_history.specs.declared.outcome.Outcome.{Outcome}
use Rattle.hub_history.specs.History.{made_empty}
use Rattle.hub_history.specs.Push.{JudgesAllAtPush, conf_put, outcomes_in}
use Rattle.hub_history.specs.State.{Conf, in_force, put_in_place, repository_at}
use Rattle.hub.specs.Hub.{state_of}
use Rattle.hub.specs.Puts.{conf_by, conf_chosen}
use Rattle.hub.proofs.ConfLemmas.{put_admin}
use Rattle.hub.proofs.SettledLemmas.{chosen_conf, confs_alike, settled_due, settled_os, settled_step, told_alike}
use Rattle.hub.proofs.hub.Hub.plan.Goals as goal

pub settle_now-requires-clause-judged : goal.settle_now-requires-clause-judged
settle_now-requires-clause-judged c = λ ps ok.
    subst (λ (os : List (Option Outcome)). JudgesAllAtPush ps (in_force (state_of c.args.self.now) c.args.pin.now.pinned.repo) c.args.pin.now.pinned c.args.request.now.pack c.args.request.now.commands os) (sym c.deref.ensures.value) (c.requires.told.outcomes_are ps ok)

pub conf_of-conf-requires-clause-alike : goal.conf_of-conf-requires-clause-alike
conf_of-conf-requires-clause-alike c =
    confs_alike c.args.self.now c.args.pin.now c.requires.stands c.args.request.now.pack c.args.request.now.commands c.args.request.now.atomic c.args.told.outcomes.items c.args.told.confs.items c.requires.told c.some_patterns_are_true.ensures.0 c.some_patterns_are_true.ensures.1
    ∙ sym (ap length c.as_slice.ensures)

pub conf_of-conf-requires-clause-told : goal.conf_of-conf-requires-clause-told
conf_of-conf-requires-clause-told c =
    let told : c.in_ok-outcomes.field-0.outcomes ≡ settled_os c.args.self.now c.args.pin.now c.requires.stands c.args.request.now.pack c.args.request.now.commands c.args.request.now.atomic c.args.told.outcomes.items c.args.told.confs.items c.requires.told =
    c.in_ok-outcomes.ensures.outcomes
    ∙ ap (λ (js : List (Option Outcome)). outcomes_in (repository_at (state_of c.args.self.now) c.args.pin.now.pinned.repo) c.args.request.now.pack c.args.request.now.commands c.args.request.now.atomic js) c.deref.ensures.value in
    ap length (c.as_slice-2.ensures ∙ told)
    ∙ told_alike c.args.self.now c.args.pin.now c.requires.stands c.args.request.now.pack c.args.request.now.commands c.args.request.now.atomic c.args.told.outcomes.items c.args.told.confs.items c.requires.told c.some_patterns_are_true.ensures.0 c.some_patterns_are_true.ensures.1
    ∙ sym (ap length c.as_slice.ensures)

pub returns-clause-due : goal.returns-clause-due
returns-clause-due c =
    let told : c.in_ok-outcomes.field-0.outcomes ≡ settled_os c.args.self.now c.args.pin.now c.requires.stands c.args.request.now.pack c.args.request.now.commands c.args.request.now.atomic c.args.told.outcomes.items c.args.told.confs.items c.requires.told =
    c.in_ok-outcomes.ensures.outcomes
    ∙ ap (λ (js : List (Option Outcome)). outcomes_in (repository_at (state_of c.args.self.now) c.args.pin.now.pinned.repo) c.args.request.now.pack c.args.request.now.commands c.args.request.now.atomic js) c.deref.ensures.value in
    let conf_is : c.conf_of-conf.result ≡ conf_by c.args.self.now.admin (conf_put c.args.pin.now.pinned c.args.request.now.pack c.args.request.now.commands c.in_ok-outcomes.field-0.outcomes) =
    c.conf_of-conf.ensures
    ∙ (λ i. conf_chosen (c.repo_name.ensures i) (c.as_slice.ensures i) ((c.as_slice-2.ensures ∙ told) i) c.args.told.confs.items)
    ∙ chosen_conf c.args.self.now c.args.pin.now c.requires.stands c.args.request.now.pack c.args.request.now.commands c.args.request.now.atomic c.args.told.outcomes.items c.args.told.confs.items c.requires.told c.some_patterns_are_true.ensures.0 c.some_patterns_are_true.ensures.1
    ∙ ap (λ (os : List Outcome). conf_by c.args.self.now.admin (conf_put c.args.pin.now.pinned c.args.request.now.pack c.args.request.now.commands os)) (sym told) in
    settled_due c.args.self.now c.args.pin.now c.requires.stands c.args.request.now.pack c.args.request.now.commands c.args.request.now.atomic c.args.told.outcomes.items c.args.told.confs.items c.requires.told c.requires.write c.requires.within c.requires.fit c.in_ok-outcomes.field-0.outcomes told c.in_ok-made.made
    (λ ps ok. c.in_ok-made.ensures ps ok (conf_put c.args.pin.now.pinned c.args.request.now.pack c.args.request.now.commands c.in_ok-outcomes.field-0.outcomes) conf_is)

pub returns-clause-step : goal.returns-clause-step
returns-clause-step c =
    let told : c.in_ok-outcomes.field-0.outcomes ≡ settled_os c.args.self.now c.args.pin.now c.requires.stands c.args.request.now.pack c.args.request.now.commands c.args.request.now.atomic c.args.told.outcomes.items c.args.told.confs.items c.requires.told =
    c.in_ok-outcomes.ensures.outcomes
    ∙ ap (λ (js : List (Option Outcome)). outcomes_in (repository_at (state_of c.args.self.now) c.args.pin.now.pinned.repo) c.args.request.now.pack c.args.request.now.commands c.args.request.now.atomic js) c.deref.ensures.value in
    let conf_is : c.conf_of-conf.result ≡ conf_by c.args.self.now.admin (conf_put c.args.pin.now.pinned c.args.request.now.pack c.args.request.now.commands c.in_ok-outcomes.field-0.outcomes) =
    c.conf_of-conf.ensures
    ∙ (λ i. conf_chosen (c.repo_name.ensures i) (c.as_slice.ensures i) ((c.as_slice-2.ensures ∙ told) i) c.args.told.confs.items)
    ∙ chosen_conf c.args.self.now c.args.pin.now c.requires.stands c.args.request.now.pack c.args.request.now.commands c.args.request.now.atomic c.args.told.outcomes.items c.args.told.confs.items c.requires.told c.some_patterns_are_true.ensures.0 c.some_patterns_are_true.ensures.1
    ∙ ap (λ (os : List Outcome). conf_by c.args.self.now.admin (conf_put c.args.pin.now.pinned c.args.request.now.pack c.args.request.now.commands os)) (sym told) in
    settled_step c.args.self.now c.args.pin.now c.requires.stands c.args.request.now.pack c.args.request.now.commands c.args.request.now.atomic c.args.told.outcomes.items c.args.told.confs.items c.requires.told c.in_ok-outcomes.field-0.outcomes c.in_ok-made.made c.next_and_same-next.result.0 (c.next_and_same-next.ensures.next ∙ c.in_ok-outcomes.ensures.next)
    c.in_ok-changes.changes.items (c.in_ok-changes.ensures ∙ ap (λ (n : Name). put_in_place n c.next_and_same-next.result.0 ++ made_empty c.in_ok-made.made) c.repo_name-2.ensures) c.conf_of-conf.result conf_is

pub returns-clause-admin : goal.returns-clause-admin
returns-clause-admin c =
    let told : c.in_ok-outcomes.field-0.outcomes ≡ settled_os c.args.self.now c.args.pin.now c.requires.stands c.args.request.now.pack c.args.request.now.commands c.args.request.now.atomic c.args.told.outcomes.items c.args.told.confs.items c.requires.told =
    c.in_ok-outcomes.ensures.outcomes
    ∙ ap (λ (js : List (Option Outcome)). outcomes_in (repository_at (state_of c.args.self.now) c.args.pin.now.pinned.repo) c.args.request.now.pack c.args.request.now.commands c.args.request.now.atomic js) c.deref.ensures.value in
    let conf_is : c.conf_of-conf.result ≡ conf_by c.args.self.now.admin (conf_put c.args.pin.now.pinned c.args.request.now.pack c.args.request.now.commands c.in_ok-outcomes.field-0.outcomes) =
    c.conf_of-conf.ensures
    ∙ (λ i. conf_chosen (c.repo_name.ensures i) (c.as_slice.ensures i) ((c.as_slice-2.ensures ∙ told) i) c.args.told.confs.items)
    ∙ chosen_conf c.args.self.now c.args.pin.now c.requires.stands c.args.request.now.pack c.args.request.now.commands c.args.request.now.atomic c.args.told.outcomes.items c.args.told.confs.items c.requires.told c.some_patterns_are_true.ensures.0 c.some_patterns_are_true.ensures.1
    ∙ ap (λ (os : List Outcome). conf_by c.args.self.now.admin (conf_put c.args.pin.now.pinned c.args.request.now.pack c.args.request.now.commands os)) (sym told) in
    subst (λ (o : Option Conf). IfSome o (λ (conf : Conf). conf.admin ≡ c.args.self.now.admin)) (sym conf_is) (put_admin c.args.self.now.admin (conf_put c.args.pin.now.pinned c.args.request.now.pack c.args.request.now.commands c.in_ok-outcomes.field-0.outcomes))
