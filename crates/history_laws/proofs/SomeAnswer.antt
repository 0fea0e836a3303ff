-- Some answer is due to an opening, a change or a listing of roles, and a look.
use Rattle.std.proofs.Common.{◌≡◌, ℕ, suc, Bool, true, false, not, ◌&&◌, List, [], ◌∷◌, ◌++◌, filter, refl, sym, ap, subst}
use Rattle.std.specs.Prelude.{Option, Some, None, Result, Ok, Err, if◌then◌else◌}
use Rattle.std.specs.List.{slice_get}
use Rattle.std.specs.FinMap.{get}
use Rattle.std.specs.Str.{bytes_eq}
use Rattle.git_object.specs.Content.{Content}
use Rattle.conf_lex.specs.Names.{is_user_name}
use Rattle.ref_store.specs.Refs.{Name}
use Rattle.ref_store.specs.declared.command.Command.{Command}
use Rattle.rule_compile.specs.Flat.{Flat}
use Rattle.rule_compile.specs.Patterns.{AreTrue, Patterns}
use Rattle.rule_compile.specs.declared.fault.PolicyFault.{PolicyFault}
use Rattle.wild_perms.specs.Answers.{refusal, refused_by}
use Rattle.wild_perms.specs.Roles.{WildView}
use Rattle.wild_perms.specs.declared.answer.PermsAnswer.TheVariants as perms
use Rattle.hub_history.specs.declared.outcome.Outcome.{Outcome}
use Rattle.hub_history.specs.declared.outcome.Outcome.TheVariants.{Done}
use Rattle.hub_history.specs.declared.entry.Entry.{Entry}
use Rattle.hub_history.specs.declared.entry.Event.{Event}
use Rattle.hub_history.specs.declared.entry.Event.TheVariants.{Entered, Looked, Permitted}
use Rattle.hub_history.specs.declared.entry.PermChange.{PermChange}
use Rattle.hub_history.specs.declared.entry.PermChange.TheVariants as change
use Rattle.hub_history.specs.declared.entry.PermsKept.{PermsKept}
use Rattle.hub_history.specs.declared.entry.PermsKept.TheVariants.{AlreadySo, Changed, Listed, NoSuchRole, NotCreator, NotWild}
use Rattle.hub_history.specs.Conf.{ComesTo}
use Rattle.hub_history.specs.History.{IsDue, IsDueAfter, IsLegal, history, replay}
use Rattle.hub_history.specs.Laws.{ConfStaysGood}
use Rattle.hub_history.specs.Opening.{Pinned, answer_by}
use Rattle.hub_history.specs.Push.{ByConf, ByConfIf, Makes, by_conf, conf_put, is_done, is_lacking, is_of_conf, outcomes_in}
use Rattle.hub_history.specs.Requests.{Enter, Look, Permit, Push, Request, request_of}
use Rattle.hub_history.specs.Roles.{answer_to_change, entry_of, has_entry, is_declared, unless_kept, unless_refused}
use Rattle.hub_history.specs.State.{CommitAmong, InForce, Repository, State, in_force, repository_at, wild_of}
use Rattle.hub_history.proofs.JudgeLemmas.{untold}
use Rattle.hub_history.proofs.MovedRefs.{done_by_refs, done_is}
use Rattle.history_laws.specs.StateLaws.{IsAsked, SomeAnswerIsDue, SomeOutcomesAreDue}
use Rattle.history_laws.proofs.DoneLemmas.{conf_at}

-- ---- an answer to a change of roles

abbrev IsKept : Option PermsKept → Type 0
IsKept answer = (kept : PermsKept) × (Some kept ≡ answer)

kept_if : (creator : Option Name) (asker : Name) (so : Bool) → IsKept (unless_refused (refused_by creator asker) so)
kept_if None asker so = (NotWild, refl)
kept_if (Some creator) asker so = by_asker (bytes_eq creator asker) so
  where
    by_asker : (b so : Bool) → IsKept (unless_refused (if b then None else Some perms.NotCreator) so)
    by_asker true true = (AlreadySo, refl)
    by_asker true false = (Changed, refl)
    by_asker false so = (NotCreator, refl)

kept_refusal : (wild : WildView) (asker : Name) (declared so : Bool) → IsKept (unless_refused (refusal wild asker declared) so)
kept_refusal wild asker true so = kept_if wild.creator asker so
kept_refusal wild asker false so = (NoSuchRole, refl)

kept_listing : (creator : Option Name) (asker : Name) → IsKept (unless_kept (refused_by creator asker))
kept_listing None asker = (NotWild, refl)
kept_listing (Some creator) asker = by_asker (bytes_eq creator asker)
  where
    by_asker : (b : Bool) → IsKept (unless_kept (if b then None else Some perms.NotCreator))
    by_asker true = (Listed, refl)
    by_asker false = (NotCreator, refl)

kept_change : (wild : WildView) (asker : Name) (declared : Bool) (asked : PermChange) → IsKept (answer_to_change wild asker declared asked)
kept_change wild asker declared (change.Grant role user) = kept_refusal wild asker declared (has_entry wild.roles (entry_of role user))
kept_change wild asker declared (change.Revoke role user) = kept_refusal wild asker declared (not (has_entry wild.roles (entry_of role user)))
kept_change wild asker declared change.List = kept_listing wild.creator asker

-- ---- the law

module _ (good : ConfStaysGood) (admin : Name) (log : List Entry) (named : is_user_name admin ≡ true) (legal : IsLegal admin log) (ps : Patterns) (ok : AreTrue ps) where
  abbrev SomeFor : Request → Type 0
  SomeFor request = (event : Event) × (request_of event ≡ request) × IsDue ps (history admin log) event

  some_for : (request : Request) → IsAsked request → SomeFor request
  some_for (Enter user repo want) names =
      let force = good admin log named legal ps ok in
      (Entered user repo want (answer_by ps force.0 (get (replay admin log).repositories repo) user repo want), refl, (names, (force.0, force.1, refl)))
  some_for (Push place pack commands atomic) asked = absurd asked
  some_for (Permit user repo asked) (names, of_user, short) =
      let force = good admin log named legal ps ok in
      let wild : WildView = wild_of (repository_at (replay admin log) repo) in
      let kept = kept_change wild user (is_declared ps force.0 repo wild.creator asked) asked in
      (Permitted user repo asked kept.0, refl, (names, of_user, short, (force.0, force.1, kept.1)))
  some_for (Look user) names = (Looked user, refl, names)

pub some_answer_is_due : ConfStaysGood → SomeAnswerIsDue
some_answer_is_due good = λ admin log named legal ps ok request asked. some_for good admin log named legal ps ok request asked

-- ---- pushes

module _ (ps : Patterns) (state : State) (pinned : Pinned) (pack : List Content) where
  -- names that a push makes, where this conf is put in force
  abbrev SomeMade : Option CommitAmong → Type 0
  SomeMade put = (made : List Name) × Makes ps state put made

  -- the conf at the new value of a command against which it says nothing comes to rules
  made_by_conf : (c : Command) → ByConfIf true ps (pinned.repository.objects ++ pack) c None → SomeMade (Some (conf_at pinned pack c))
  made_by_conf c by = by_result by.0 by.1 by.2
    where
      by_result : (comes : Result Flat PolicyFault) → ComesTo ps (pinned.repository.objects ++ pack) c.new comes → None ≡ by_conf comes → SomeMade (Some (conf_at pinned pack c))
      by_result (Ok rules) comes none = (filter (is_lacking state) rules.plain, (rules, comes, refl))
      by_result (Err fault) comes none = absurd cc

  some_made : (cs : List Command) (os : List Outcome) → ((k : ℕ) (c : Command) → slice_get cs k ≡ Some c → slice_get os k ≡ Some Done → ByConf ps pinned (pinned.repository.objects ++ pack) c None) → SomeMade (conf_put pinned pack cs os)
  some_made [] os says = ([], refl)
  some_made (c ∷ cs) [] says = ([], refl)
  some_made (c ∷ cs) (o ∷ os) says =
      by_test (is_of_conf pinned.repo c.name) refl (is_done o) (λ done. says 0 c refl (ap (λ (x : Outcome). Some x) (done_is o done))) (some_made cs os (λ k d is done. says (suc k) d is done))
    where
      by_test : (b : Bool) → is_of_conf pinned.repo c.name ≡ b → (d : Bool) → (d ≡ true → ByConf ps pinned (pinned.repository.objects ++ pack) c None) → SomeMade (conf_put pinned pack cs os)
          → SomeMade (if b && d then Some (conf_at pinned pack c) else conf_put pinned pack cs os)
      by_test true of true nothing rest = made_by_conf c (subst (λ (x : Bool). ByConfIf x ps (pinned.repository.objects ++ pack) c None) of (nothing refl))
      by_test true of false nothing rest = rest
      by_test false other d nothing rest = rest

pub some_outcomes_are_due : SomeOutcomesAreDue
some_outcomes_are_due = λ admin log ps place pack cs atomic pinned judged at writes within fit judges.
    let force : InForce = in_force (replay admin log) pinned.repo in
    let now : Repository = repository_at (replay admin log) pinned.repo in
    let told : List Outcome = outcomes_in now pack cs atomic judged in
    let made = some_made ps (replay admin log) pinned pack cs told (λ k c is done. (untold ps force pinned pack cs c (done_by_refs ps force now pinned pack cs atomic judged judges k c is done).untold).conf) in (
      told,
      made.0,
      subst (λ (o : Option Pinned). IsDueAfter ps (replay admin log) o pack cs atomic told made.0) (sym at)
          (record { for_writing = writes; within = within; fit = fit; judged = judged; judges = judges; told = refl; makes = made.1 }),
    )
