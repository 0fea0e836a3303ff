use Rattle.std.proofs.Common.{◌≡◌, List, ◌++◌, sym, ◌∙◌, ap, subst}
use Rattle.std.specs.Prelude.{Option, Some, None}
use Rattle.git_object.specs.Content.{Content}
use Rattle.vref.specs.Facts.{AreFacts}
use Rattle.update_check.specs.Table.{Counts, Passes}
use Rattle.hub_history.specs.declared.outcome.Outcome.{Outcome}
use Rattle.hub_history.specs.Push.{ByConf, by_new_value}
use Rattle.push_judging.specs.declared.rows.JudgedCommand.{JudgedCommand}
use Rattle.push_judging.specs.Judged.{conf_of}
use Rattle.push_judging.specs.Rows.{SaysByRules, Tells}
use Rattle.push_judging.proofs.RowLemmas.{by_check, conf_refused, last_row, told_along}
use Rattle.push_judging.proofs.judging.judge_command.Goals as goal

pub returns-in-Some-clause-said : goal.returns-in-Some-clause-said
returns-in-Some-clause-said c = λ ps ok.
    subst (λ (t : JudgedCommand). Tells ps c.args.pin.now.pinned c.args.pack.now c.args.twice c.args.command.now t.outcome) (sym c.refused.ensures)
    (Counts c.in-Some.outcome (sym c.in-Some.is ∙ c.by_command.ensures))

pub returns-in-Some-clause-conf : goal.returns-in-Some-clause-conf
returns-in-Some-clause-conf c =
    subst (λ (t : JudgedCommand). t.conf ≡ conf_of c.args.pin.now.pinned c.args.pack.now c.args.command.now t.outcome) (sym c.refused.ensures)
    (sym (conf_refused c.args.pin.now.pinned c.args.pack.now c.args.command.now c.in-Some.outcome))

pub returns-in-Some-2-clause-said : goal.returns-in-Some-2-clause-said
returns-in-Some-2-clause-said c = λ ps ok.
    let objects : c.args.walks.now ≡ c.args.pin.now.pinned.repository.objects ++ c.args.pack.now = c.requires.walks ∙ c.requires.lens in
    subst (λ (t : JudgedCommand). Tells ps c.args.pin.now.pinned c.args.pack.now c.args.twice c.args.command.now t.outcome) (sym c.refused-in-Some-2.ensures)
    (Passes (Some c.in-Some-2.outcome) (sym c.in_default.is ∙ c.by_command.ensures)
    (Counts c.in-Some-2.outcome (sym c.in-Some-2.is ∙ c.in_ok-outcome.ensures.outcome ∙ ap (λ (os : List Content). by_new_value os c.args.command.now) objects)))

pub returns-in-Some-2-clause-conf : goal.returns-in-Some-2-clause-conf
returns-in-Some-2-clause-conf c =
    subst (λ (t : JudgedCommand). t.conf ≡ conf_of c.args.pin.now.pinned c.args.pack.now c.args.command.now t.outcome) (sym c.refused-in-Some-2.ensures)
    (sym (conf_refused c.args.pin.now.pinned c.args.pack.now c.args.command.now c.in-Some-2.outcome))

pub returns-in-Some-3-clause-said : goal.returns-in-Some-3-clause-said
returns-in-Some-3-clause-said c = λ ps ok.
    let pinned = c.args.pin.now.pinned in
    let all = pinned.repository.objects ++ c.args.pack.now in
    let objects : c.args.walks.now ≡ all = c.requires.walks ∙ c.requires.lens in
    let says : SaysByRules ps c.args.check.now c.args.lens.now c.args.command.now (Some c.in-Some-3.outcome) =
    subst (λ (o : Option Outcome). SaysByRules ps c.args.check.now c.args.lens.now c.args.command.now o) c.in-Some-3.is
    (subst (λ (os : List Content). SaysByRules ps c.args.check.now os c.args.command.now c.in_ok-outcome-2.field-0) c.requires.among (c.in_ok-outcome-2.ensures.said ps ok)) in
    subst (λ (t : JudgedCommand). Tells ps pinned c.args.pack.now c.args.twice c.args.command.now t.outcome) (sym c.refused-in-Some-3.ensures)
    (Passes (Some c.in-Some-3.outcome) (sym c.in_default.is ∙ c.by_command.ensures)
    (Passes (Some c.in-Some-3.outcome) (sym c.in_default-2.is ∙ c.in_ok-outcome.ensures.outcome ∙ ap (λ (os : List Content). by_new_value os c.args.command.now) objects)
    (Counts c.in-Some-3.outcome (by_check ps ok pinned c.args.check.now all c.args.command.now (Some c.in-Some-3.outcome) c.requires.check
    (subst (λ (os : List Content). SaysByRules ps c.args.check.now os c.args.command.now (Some c.in-Some-3.outcome)) c.requires.lens says)))))

pub returns-in-Some-3-clause-conf : goal.returns-in-Some-3-clause-conf
returns-in-Some-3-clause-conf c =
    subst (λ (t : JudgedCommand). t.conf ≡ conf_of c.args.pin.now.pinned c.args.pack.now c.args.command.now t.outcome) (sym c.refused-in-Some-3.ensures)
    (sym (conf_refused c.args.pin.now.pinned c.args.pack.now c.args.command.now c.in-Some-3.outcome))

pub returns-clause-said : goal.returns-clause-said
returns-clause-said c =
    let pinned = c.args.pin.now.pinned in
    let all = pinned.repository.objects ++ c.args.pack.now in
    let objects : c.args.walks.now ≡ all = c.requires.walks ∙ c.requires.lens in
    told_along c.by_conf.result _ _
    (λ told said ps ok.
    let row : ByConf ps pinned all c.args.command.now told.outcome = subst (λ (os : List Content). ByConf ps pinned os c.args.command.now told.outcome) c.requires.lens (said ps ok) in
    let says : SaysByRules ps c.args.check.now c.args.lens.now c.args.command.now None =
    subst (λ (o : Option Outcome). SaysByRules ps c.args.check.now c.args.lens.now c.args.command.now o) c.in_default-3.is
    (subst (λ (os : List Content). SaysByRules ps c.args.check.now os c.args.command.now c.in_ok-outcome-2.field-0) c.requires.among (c.in_ok-outcome-2.ensures.said ps ok)) in
    Passes told.outcome (sym c.in_default.is ∙ c.by_command.ensures)
    (Passes told.outcome (sym c.in_default-2.is ∙ c.in_ok-outcome.ensures.outcome ∙ ap (λ (os : List Content). by_new_value os c.args.command.now) objects)
    (Passes told.outcome (by_check ps ok pinned c.args.check.now all c.args.command.now None c.requires.check (subst (λ (os : List Content). SaysByRules ps c.args.check.now os c.args.command.now None) c.requires.lens says))
    (last_row (ByConf ps pinned all c.args.command.now) told.outcome row))))
    c.by_conf.ensures.said

pub by_rules-requires : goal.by_rules-requires
by_rules-requires c = subst (λ (os : List Content). AreFacts os c.args.command.now.name c.args.command.now.old c.args.command.now.new c.args.facts.now) (sym c.requires.among) c.requires.facts
