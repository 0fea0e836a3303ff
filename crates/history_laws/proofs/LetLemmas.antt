-- What is past the rules was let be made.
use Rattle.std.proofs.Common.{◌≡◌, inl, inr, true, List, [], ◌∷◌, ◌++◌, refl, sym, ◌∙◌, ap, subst}
use Rattle.std.specs.Prelude.{Option, Some, None}
use Rattle.std.specs.List.{slice_get}
use Rattle.git_object.specs.Content.{Content}
use Rattle.ref_store.specs.Refs.{Name}
use Rattle.ref_store.specs.declared.command.Command.{Command}
use Rattle.rule_compile.specs.Flat.{Flat}
use Rattle.rule_compile.specs.Patterns.{AreTrue, Patterns}
use Rattle.rule_compile.specs.declared.fault.PolicyFault.{PolicyFault}
use Rattle.rule_compile.specs.declared.rule.Rule.{Rule}
use Rattle.access_check.specs.Users.{Asked}
use Rattle.update_check.specs.Laws.{ExactlyWhereLet}
use Rattle.update_check.specs.Rules.{RulesSay}
use Rattle.update_check.specs.Table.{Counts, First, Passes}
use Rattle.update_check.specs.declared.refusal.Refusal.{Refusal}
use Rattle.update_check.specs.declared.refusal.Refusal.TheVariants as refusal
use Rattle.hub_history.specs.declared.entry.Entry.{Entry}
use Rattle.hub_history.specs.declared.outcome.Outcome.{Outcome}
use Rattle.hub_history.specs.declared.outcome.Outcome.TheVariants.{ConfRefused, DeniedNow, Done, ManyPathsNow}
use Rattle.hub_history.specs.Conf.{AreInForce}
use Rattle.hub_history.specs.History.{IsDuePush, IsLegal, replay}
use Rattle.hub_history.specs.Laws.{TellsCommand}
use Rattle.hub_history.specs.Opening.{Pinned, pinned_in_force}
use Rattle.hub_history.specs.Push.{ByRules, ByRulesNow, JudgesAtPush, in_order, outcome_now, outcome_of, outcomes_in, together}
use Rattle.hub_history.specs.State.{InForce, Repository, in_force, repository_at}
use Rattle.hub_history.proofs.JudgeLemmas.{first_none, is_by_refs, untold}
use Rattle.hub_history.proofs.MovedLogs.{due_here}
use Rattle.hub_history.proofs.MovedRefs.{by_refs_at, told_together, was_alone}
use Rattle.history_laws.specs.Laws.{AreLetting, IsPastTheOpening, IsPastTheRules, PastTheRulesIsLet, asked_by}
use Rattle.history_laws.proofs.DeniedLemmas.{is_now, late_judged, now_judged, opening_judged}
use Rattle.history_laws.proofs.OutcomeLemmas.{is_late, late_judge}

-- the rules say nothing against what they say nothing of
none_refused : (r : Option Refusal) → None ≡ outcome_of r → r ≡ None
none_refused None is = refl
none_refused (Some (refusal.Denied verdict letter name)) is = absurd cc
none_refused (Some refusal.ManyPaths) is = absurd cc

none_refused_now : (r : Option Refusal) → None ≡ outcome_now r → r ≡ None
none_refused_now None is = refl
none_refused_now (Some (refusal.Denied verdict letter name)) is = absurd cc
none_refused_now (Some refusal.ManyPaths) is = absurd cc

-- they don't say that a conf is refused
no_conf : (fault : PolicyFault) (r : Option Refusal) → Some (ConfRefused fault) ≡ outcome_of r → ⊥
no_conf fault None is = cc
no_conf fault (Some (refusal.Denied verdict letter name)) is = cc
no_conf fault (Some refusal.ManyPaths) is = cc

-- a row that doesn't have the outcome has none
passed : {Row Behind : Option Outcome → Type 0} (o : Outcome) → ¬ Row (Some o) → First Row Behind (Some o) → Row None
passed o never (Counts x row) = absurd (never row)
passed o never (Passes f row behind) = row

-- the rules in force say nothing of a change
abbrev pub AreSilent : Patterns → InForce → Pinned → List Content → Command → Type 0
AreSilent ps force pinned objects change = (rules : Flat) × AreInForce ps force.conf rules × RulesSay ps rules.rules (asked_by ps rules force pinned) objects change None

silent_at_opening : (ps : Patterns) (pinned : Pinned) (objects : List Content) (change : Command) → ByRules ps pinned objects change None → AreSilent ps (pinned_in_force pinned) pinned objects change
silent_at_opening ps pinned objects change by =
    (by.0, by.2, subst (λ (x : Option Refusal). RulesSay ps by.0.rules (asked_by ps by.0 (pinned_in_force pinned) pinned) objects change x) (none_refused by.1 by.4) by.3)

silent_now : (ps : Patterns) (force : InForce) (pinned : Pinned) (objects : List Content) (change : Command) → ByRulesNow ps force pinned objects change None → AreSilent ps force pinned objects change
silent_now ps force pinned objects change by =
    (by.0, by.2, subst (λ (x : Option Refusal). RulesSay ps by.0.rules (asked_by ps by.0 force pinned) objects change x) (none_refused_now by.1 by.4) by.3)

module _ (ps : Patterns) (ok : AreTrue ps) (admin : Name) (before : List Entry) (entry : Entry) (legal : IsLegal admin (before ++ entry ∷ [])) (pinned : Pinned) (command : Command) where
  abbrev force : InForce
  force = in_force (replay admin before) pinned.repo

  abbrev now_at : Repository
  now_at = repository_at (replay admin before) pinned.repo

  module _ (o : Outcome) (t : TellsCommand admin before entry pinned command o) where
    abbrev objects : List Content
    objects = pinned.repository.objects ++ t.pack

    due : IsDuePush ps (replay admin before) pinned t.pack t.commands t.atomic t.outcomes t.made
    due = due_here ps ok admin before entry legal t.place t.pack t.commands t.atomic t.outcomes t.made pinned t.is_push t.opening

    told_is : slice_get (outcomes_in now_at t.pack t.commands t.atomic due.judged) t.index ≡ Some o
    told_is = ap (λ (os : List Outcome). slice_get os t.index) (sym due.told) ∙ t.outcome_is

    abbrev run : List Outcome
    run = in_order now_at.refs t.commands due.judged

    -- what is told by the refs, or of another, is told where nothing is said before
    by_refs_passed : is_by_refs o ≡ true → JudgesAtPush ps force pinned t.pack t.commands command None
    by_refs_passed by = judges
      where
        ran : (x : Outcome) → is_by_refs x ≡ true → slice_get run t.index ≡ Some x → JudgesAtPush ps force pinned t.pack t.commands command None
        ran x by is = (by_refs_at ps force now_at pinned t.pack t.commands t.atomic due.judged due.judges t.index command x t.command_is is by).untold

        alone : slice_get (together t.atomic run) t.index ≡ Some o
        alone = ap (λ (os : List Outcome). slice_get os t.index) (sym (told_together ps force now_at pinned t.pack t.commands t.atomic due.judged due.judges t.index o told_is by)) ∙ told_is

        judges : JudgesAtPush ps force pinned t.pack t.commands command None
        judges = elim (was_alone t.atomic run t.index o alone) [
          | inl same ↦ ran o by same
          | inr w ↦ ran Done refl w.0
        ]

    judged_late : is_late o ≡ true → JudgesAtPush ps force pinned t.pack t.commands command (Some o)
    judged_late late = late_judge ps force now_at pinned t.pack t.commands t.atomic due.judged due.judges t.index command o t.command_is told_is late

    -- where the rules just before the push refuse it, those at the opening say nothing
    now_passed : is_late o ≡ true → is_now o ≡ true → ByRules ps pinned objects command None
    now_passed late now =
        let judges = (now_judged ps pinned t.pack t.commands command o force now (judged_late late)).0 in
        (first_none (first_none (first_none judges).1).1).0

    conf_passed : (fault : PolicyFault) → o ≡ ConfRefused fault → ByRules ps pinned objects command None
    conf_passed fault is =
        passed o (λ by. no_conf fault by.1 (ap (λ (x : Outcome). Some x) (sym is) ∙ by.4))
        (late_judged ps pinned t.pack t.commands command o (ap is_late is) (opening_judged ps pinned t.pack t.commands command o force (ap is_now is) (judged_late (ap is_late is))))

    by_refs_of : IsPastTheRules o → is_by_refs o ≡ true
    by_refs_of (inl (inl is)) = ap is_by_refs is
    by_refs_of (inl (inr other)) = ap is_by_refs other.1
    by_refs_of (inr (inl stale)) = ap is_by_refs stale.1
    by_refs_of (inr (inr directory)) = ap is_by_refs directory.1

    rules_passed : IsPastTheOpening o → ByRules ps pinned objects command None
    rules_passed (inl past) = (untold ps force pinned t.pack t.commands command (by_refs_passed (by_refs_of past))).rules
    rules_passed (inr (inl conf)) = conf_passed conf.0 conf.1
    rules_passed (inr (inr (inl denied))) = now_passed (ap is_late denied.3) (ap is_now denied.3)
    rules_passed (inr (inr (inr many))) = now_passed (ap is_late many) (ap is_now many)

    pub opening_silent : IsPastTheOpening o → AreSilent ps (pinned_in_force pinned) pinned objects command
    opening_silent past = silent_at_opening ps pinned objects command (rules_passed past)

    pub push_silent : IsPastTheRules o → AreSilent ps force pinned objects command
    push_silent past = silent_now ps force pinned objects command (untold ps force pinned t.pack t.commands command (by_refs_passed (by_refs_of past))).now

module _ (exactly : (ps : Patterns) (rules : List Rule) (a : Asked) (objects : List Content) (change : Command) → ExactlyWhereLet ps rules a objects change) where
  are_letting : (ps : Patterns) (force : InForce) (pinned : Pinned) (objects : List Content) (change : Command) → AreSilent ps force pinned objects change → AreLetting ps force pinned objects change
  are_letting ps force pinned objects change by = (by.0, by.1, λ facts are. (exactly ps by.0.rules (asked_by ps by.0 force pinned) objects change).only facts are by.2)

  pub past_is_let : PastTheRulesIsLet
  past_is_let = record {
    opening = λ admin before entry pinned command outcome legal past tells ps ok.
        are_letting ps (pinned_in_force pinned) pinned (pinned.repository.objects ++ tells.pack) command (opening_silent ps ok admin before entry legal pinned command outcome tells past);
    push = λ admin before entry pinned command outcome legal past tells ps ok.
        are_letting ps (in_force (replay admin before) pinned.repo) pinned (pinned.repository.objects ++ tells.pack) command (push_silent ps ok admin before entry legal pinned command outcome tells past);
  }
