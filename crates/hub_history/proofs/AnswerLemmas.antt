-- There is one answer to each request.
use Rattle.std.proofs.Common.{◌≡◌, Bool, true, false, List, [], ◌∷◌, ◌++◌, filter, refl, sym, ◌∙◌, ap, subst}
use Rattle.std.specs.Prelude.{Option, Some, None, Result, Ok, Err}
use Rattle.std.specs.FinMap.{get}
use Rattle.git_object.specs.Content.{Content}
use Rattle.git_object.specs.declared.object_id.ObjectId.{ObjectId}
use Rattle.ref_store.specs.Refs.{Name}
use Rattle.ref_store.specs.declared.command.Command.{Command}
use Rattle.rule_compile.specs.Flat.{Flat}
use Rattle.rule_compile.specs.Patterns.{Patterns}
use Rattle.rule_compile.specs.declared.fault.PolicyFault.{PolicyFault}
use Rattle.rule_compile.specs.declared.rule.Rule.{Rule}
use Rattle.access_check.specs.Users.{Asked, asked}
use Rattle.access_check.specs.declared.verdicts.Want.{Want}
use Rattle.policy_swap.specs.Compile.{flat_of}
use Rattle.policy_swap.specs.Conf.{conf_tree}
use Rattle.policy_swap.specs.Laws as swap
use Rattle.update_check.specs.Laws.{OneIsSaid}
use Rattle.update_check.specs.Rules.{RulesSay}
use Rattle.update_check.specs.Table.{Counts, First, Passes}
use Rattle.update_check.specs.declared.refusal.Refusal.{Refusal}
use Rattle.hub_history.specs.declared.outcome.Outcome.{Outcome}
use Rattle.hub_history.specs.declared.entry.EnterKept.{EnterKept}
use Rattle.hub_history.specs.Conf.{AreInForce, ComesTo, ComesToBy}
use Rattle.hub_history.specs.History.{IsDuePush}
use Rattle.hub_history.specs.Laws.{OneAnswer}
use Rattle.hub_history.specs.Opening.{IsDueOpening, Pinned, answer_by}
use Rattle.hub_history.specs.Push.{ByConfIf, ByRules, ByRulesNow, Judges, JudgesAtPush, Makes, by_command, by_conf, by_new_value, conf_put, is_lacking, is_named_twice, is_of_conf, outcome_now, outcome_of, outcomes_in}
use Rattle.hub_history.specs.Roles.{IsDueChange, answer_by_rules}
use Rattle.hub_history.specs.State.{CommitAmong, Conf, InForce, State, in_force, repository_at, wild_of}
use Rattle.hub_history.specs.declared.entry.PermChange.{PermChange}
use Rattle.hub_history.specs.declared.entry.PermsKept.{PermsKept}
use Rattle.hub_history.proofs.JudgeLemmas.{AllJudged}

-- ---- tables

first_one : {Row Behind : Option Outcome → Type 0} → ((a b : Option Outcome) → Row a → Row b → a ≡ b) → ((a b : Option Outcome) → Behind a → Behind b → a ≡ b)
    → (a b : Option Outcome) → First Row Behind a → First Row Behind b → a ≡ b
first_one rows behinds a b (Counts x p) (Counts y q) = rows (Some x) (Some y) p q
first_one rows behinds a b (Counts x p) (Passes f row behind) = let clash : Some x ≡ None = rows (Some x) None p row in absurd cc
first_one rows behinds a b (Passes f row behind) (Counts y q) = let clash : Some y ≡ None = rows (Some y) None q row in absurd cc
first_one rows behinds a b (Passes f row behind) (Passes g other later) = behinds f g behind later

same_option : (o a b : Option Outcome) → a ≡ o → b ≡ o → a ≡ b
same_option o a b first second = first ∙ sym second

same_rules : (a b : Flat) → ◌≡◌ {A = Result Flat PolicyFault} (Ok a) (Ok b) → a ≡ b
same_rules a b same = ap (by_result a) same
  where
    by_result : Flat → Result Flat PolicyFault → Flat
    by_result other (Ok rules) = rules
    by_result other (Err fault) = other

module _ (files_once : swap.OneAnswer) (said_once : (ps : Patterns) (rules : List Rule) (a : Asked) (objects : List Content) (change : Command) → OneIsSaid ps rules a objects change) (ps : Patterns) where
  comes_one : (objects : List Content) (commit : ObjectId) (a b : Result Flat PolicyFault) → ComesTo ps objects commit a → ComesTo ps objects commit b → a ≡ b
  comes_one objects commit a b p q = p.3 ∙ ap (flat_of ps) (files_once objects (conf_tree objects commit) p.0 q.0 p.1 q.1 p.2 q.2) ∙ sym q.3

  comes_by_one : (admin : Name) (pushed : Option CommitAmong) (a b : Result Flat PolicyFault) → ComesToBy ps admin pushed a → ComesToBy ps admin pushed b → a ≡ b
  comes_by_one admin None a b p q = p ∙ sym q
  comes_by_one admin (Some c) a b p q = comes_one c.objects c.commit a b p q

  rules_one : (conf : Conf) (a b : Flat) → AreInForce ps conf a → AreInForce ps conf b → a ≡ b
  rules_one conf a b p q = same_rules a b (comes_by_one conf.admin conf.pushed (Ok a) (Ok b) p q)

  opening_one : (state : State) (user repo : Name) (want : Want) (a b : EnterKept) → IsDueOpening ps state user repo want a → IsDueOpening ps state user repo want b → a ≡ b
  opening_one state user repo want a b p q =
      p.2 ∙ ap (λ (rules : Flat). answer_by ps rules (get state.repositories repo) user repo want) (rules_one state.conf p.0 q.0 p.1 q.1) ∙ sym q.2

  -- ---- judgements

  refused_one : (conf : Conf) (who : Flat → Asked) (objects : List Content) (c : Command) (rules others : Flat) (refused other : Option Refusal) → AreInForce ps conf rules → AreInForce ps conf others
      → RulesSay ps rules.rules (who rules) objects c refused → RulesSay ps others.rules (who others) objects c other → refused ≡ other
  refused_one conf who objects c rules others refused other are are_others says says_other =
      let same : RulesSay ps rules.rules (who rules) objects c other = subst (λ (fs : Flat). RulesSay ps fs.rules (who fs) objects c other) (sym (rules_one conf rules others are are_others)) says_other in
      (said_once ps rules.rules (who rules) objects c).one refused other says same

  by_rules_one : (pinned : Pinned) (objects : List Content) (c : Command) (a b : Option Outcome) → ByRules ps pinned objects c a → ByRules ps pinned objects c b → a ≡ b
  by_rules_one pinned objects c a b p q =
      p.4 ∙ ap outcome_of (refused_one pinned.conf (λ rules. asked ps rules (wild_of pinned.repository) pinned.repo pinned.user) objects c p.0 q.0 p.1 q.1 p.2 q.2 p.3 q.3) ∙ sym q.4

  by_rules_now_one : (force : InForce) (pinned : Pinned) (objects : List Content) (c : Command) (a b : Option Outcome) → ByRulesNow ps force pinned objects c a → ByRulesNow ps force pinned objects c b → a ≡ b
  by_rules_now_one force pinned objects c a b p q =
      p.4 ∙ ap outcome_now (refused_one force.conf (λ rules. asked ps rules force.wild pinned.repo pinned.user) objects c p.0 q.0 p.1 q.1 p.2 q.2 p.3 q.3) ∙ sym q.4

  by_conf_one : (b : Bool) (objects : List Content) (c : Command) (f g : Option Outcome) → ByConfIf b ps objects c f → ByConfIf b ps objects c g → f ≡ g
  by_conf_one false objects c f g p q = p ∙ sym q
  by_conf_one true objects c f g p q = p.2 ∙ ap by_conf (comes_one objects c.new p.0 q.0 p.1 q.1) ∙ sym q.2

  judgement_one : (pinned : Pinned) (pack : List Content) (cs : List Command) (c : Command) (a b : Option Outcome) → Judges ps pinned pack cs c a → Judges ps pinned pack cs c b → a ≡ b
  judgement_one pinned pack cs c =
      first_one (same_option (by_command pinned (is_named_twice cs c.name) c))
      (first_one (same_option (by_new_value (pinned.repository.objects ++ pack) c))
      (first_one (by_rules_one pinned (pinned.repository.objects ++ pack) c)
      (first_one (by_conf_one (is_of_conf pinned.repo c.name) (pinned.repository.objects ++ pack) c)
      (same_option None))))

  judgement_at_push_one : (force : InForce) (pinned : Pinned) (pack : List Content) (cs : List Command) (c : Command) (a b : Option Outcome) → JudgesAtPush ps force pinned pack cs c a → JudgesAtPush ps force pinned pack cs c b → a ≡ b
  judgement_at_push_one force pinned pack cs c = first_one (judgement_one pinned pack cs c) (first_one (by_rules_now_one force pinned (pinned.repository.objects ++ pack) c) (same_option None))

  judged_one : (force : InForce) (pinned : Pinned) (pack : List Content) (all cs : List Command) (one other : List (Option Outcome))
      → AllJudged (JudgesAtPush ps force pinned pack all) cs one → AllJudged (JudgesAtPush ps force pinned pack all) cs other → one ≡ other
  judged_one force pinned pack all [] [] [] p q = refl
  judged_one force pinned pack all [] [] (b ∷ bs) p q = absurd q
  judged_one force pinned pack all [] (a ∷ as_) other p q = absurd p
  judged_one force pinned pack all (c ∷ cs) [] other p q = absurd p
  judged_one force pinned pack all (c ∷ cs) (a ∷ as_) [] p q = absurd q
  judged_one force pinned pack all (c ∷ cs) (a ∷ as_) (b ∷ bs) p q =
      ap (λ (x : Option Outcome). x ∷ as_) (judgement_at_push_one force pinned pack all c a b p.0 q.0) ∙ ap (λ (xs : List (Option Outcome)). b ∷ xs) (judged_one force pinned pack all cs as_ bs p.1 q.1)

  -- ---- pushes

  made_one : (state : State) (put : Option CommitAmong) (a b : List Name) → Makes ps state put a → Makes ps state put b → a ≡ b
  made_one state None a b p q = p ∙ sym q
  made_one state (Some c) a b p q = p.2 ∙ ap (λ (rules : Flat). filter (is_lacking state) rules.plain) (same_rules p.0 q.0 (comes_one c.objects c.commit (Ok p.0) (Ok q.0) p.1 q.1)) ∙ sym q.2

  push_one : (state : State) (pinned : Pinned) (pack : List Content) (cs : List Command) (atomic : Bool) (one other : List Outcome) (made others : List Name)
      → IsDuePush ps state pinned pack cs atomic one made → IsDuePush ps state pinned pack cs atomic other others → (one ≡ other) × (made ≡ others)
  push_one state pinned pack cs atomic one other made others p q =
      let same : one ≡ other = p.told ∙ ap (outcomes_in (repository_at state pinned.repo) pack cs atomic) (judged_one (in_force state pinned.repo) pinned pack cs cs p.judged q.judged p.judges q.judges) ∙ sym q.told in (
        same,
        made_one state (conf_put pinned pack cs other) made others (subst (λ (os : List Outcome). Makes ps state (conf_put pinned pack cs os) made) same p.makes) q.makes,
      )

  change_one : (state : State) (user repo : Name) (change : PermChange) (a b : PermsKept) → IsDueChange ps state user repo change a → IsDueChange ps state user repo change b → a ≡ b
  change_one state user repo change a b p q =
      kept_same (p.2 ∙ ap (λ (rules : Flat). answer_by_rules ps rules (wild_of (repository_at state repo)) user repo change) (rules_one state.conf p.0 q.0 p.1 q.1) ∙ sym q.2)
    where
      kept_same : Some a ≡ Some b → a ≡ b
      kept_same same = cc

pub one_answer : swap.OneAnswer → ((ps : Patterns) (rules : List Rule) (a : Asked) (objects : List Content) (change : Command) → OneIsSaid ps rules a objects change) → OneAnswer
one_answer files_once said_once = record {
  rules = rules_one files_once said_once;
  opening = opening_one files_once said_once;
  judgement = judgement_one files_once said_once;
  push = push_one files_once said_once;
  change = change_one files_once said_once;
}
