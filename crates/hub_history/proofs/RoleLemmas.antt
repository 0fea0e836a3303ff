-- Creators and roles along a log.
use Rattle.std.proofs.Common.{◌≡◌, ◌↔◌, ◌⊎◌, inl, inr, ℕ, zero, suc, Bool, true, false, cond, not, List, [], ◌∷◌, ◌++◌, refl, sym, ◌∙◌, ap, subst, Contains, take, drop}
use Rattle.std.proofs.lemmas.List.{take-append-drop}
use Rattle.std.specs.Prelude.{Option, Some, None, if◌then◌else◌}
use Rattle.std.specs.List.{list_any, slice_get}
use Rattle.std.specs.Option.{unwrap_or}
use Rattle.std.specs.Ordering.{nat_cmp, eq_by_cmp}
use Rattle.std.specs.Str.{bytes_eq}
use Rattle.std.specs.Cmp.Lexicographic.{bytes_decides, slice_cmp, nat_list_cmp_total}
use Rattle.std.specs.FinMap.{get, insert, get-insert}
use Rattle.base_types.specs.Names.{ByName}
use Rattle.git_object.specs.Content.{Content}
use Rattle.ref_store.specs.Objects.{with_pack}
use Rattle.ref_store.specs.Refs.{Name, Refs}
use Rattle.ref_store.specs.declared.command.Command.{Command}
use Rattle.rule_compile.specs.Patterns.{AreTrue, Patterns}
use Rattle.rule_compile.specs.Roles.{declares}
use Rattle.access_check.specs.Verdicts.{may_create, unborn_stage}
use Rattle.access_check.specs.declared.verdicts.Verdict.{Verdict}
use Rattle.access_check.specs.declared.verdicts.Verdict.TheVariants.{Allowed, DeniedBy, Fallthru}
use Rattle.access_check.specs.declared.verdicts.Want.{Want}
use Rattle.wild_perms.specs.Answers.{refused_by}
use Rattle.wild_perms.specs.Roles.{IsRoleSet}
use Rattle.wild_perms.specs.declared.answer.PermsAnswer.{PermsAnswer}
use Rattle.wild_perms.specs.declared.answer.PermsAnswer.TheVariants as perms
use Rattle.wild_perms.specs.declared.role.RoleEntry.{RoleEntry}
use Rattle.hub_history.specs.declared.outcome.Outcome.{Outcome}
use Rattle.hub_history.specs.declared.entry.Entry.{Entry}
use Rattle.hub_history.specs.declared.entry.EnterKept.{EnterKept}
use Rattle.hub_history.specs.declared.entry.EnterKept.TheVariants.{Granted, Created, Denied, NoRepo}
use Rattle.hub_history.specs.declared.entry.PermChange.{PermChange}
use Rattle.hub_history.specs.declared.entry.PermChange.TheVariants as change
use Rattle.hub_history.specs.declared.entry.PermsKept.{PermsKept}
use Rattle.hub_history.specs.declared.entry.PermsKept.TheVariants.{Changed, AlreadySo, NotWild, NotCreator, NoSuchRole, Listed}
use Rattle.hub_history.specs.declared.entry.Event.{Event}
use Rattle.hub_history.specs.declared.entry.Event.TheVariants.{Entered, Pushed, Permitted, Looked}
use Rattle.hub_history.specs.History.{IsDue, IsDueAfter, IsLegal, after_push, history, made_empty, opening_at, push_change, replay, step}
use Rattle.hub_history.specs.Laws.{OfEachRepository}
use Rattle.hub_history.specs.Opening.{IsDueOpening, Pinned, answer_by, by_creation, by_verdict, made_by}
use Rattle.hub_history.specs.Push.{conf_put, is_done, refs_left}
use Rattle.hub_history.specs.RoleLaws.{HoldsBehind, IsDeclaredAs, IsNotSo, IsSo, IsUndeclared, TellsOfRoles, creator_in, is_of_role}
use Rattle.hub_history.specs.Roles.{IsDueChange, entry_of, given_by, is_declared, has_entry, kept_of, roles_after, unless_kept, unless_refused}
use Rattle.hub_history.specs.State.{Repository, State, changed, empty_repository, placed_in, put_in_place, repository_at}
use Rattle.hub_history.proofs.EachRepository.{Each, each_pinned, each_replayed}
use Rattle.hub_history.proofs.GrowthLemmas.{AreLacking, log_grows, made_anew, makes_lacking, stays_there}
use Rattle.hub_history.proofs.HistoryLemmas.{beginning_legal, some_same}
use Rattle.hub_history.proofs.MovedLogs.{behind, due_last, found_in, insert_apart, insert_here, key_itself, made_none, same_key}
use Rattle.hub_history.proofs.OpeningLemmas.{pinned_at}
use Rattle.hub_history.proofs.RoleSets.{contained_entry, entry_contained, has_with, has_without, set_with, set_without, with_has, without_has}

-- ---- sets

abbrev HasRoleSet : Repository → Type 0
HasRoleSet repository = IsRoleSet repository.roles

set_after : (repository : Repository) (asked : PermChange) → IsRoleSet repository.roles → IsRoleSet (roles_after repository.roles asked)
set_after repository (change.Grant role user) set = set_with repository.roles (entry_of role user) set
set_after repository (change.Revoke role user) set = set_without repository.roles (entry_of role user) set
set_after repository change.List set = set

module _ (ps : Patterns) (ok : AreTrue ps) where
  sets_replayed : (admin : Name) (log : List Entry) → IsLegal admin log → Each HasRoleSet (replay admin log).repositories
  sets_replayed = each_replayed HasRoleSet ps ok (λ creator. tt) set_after (λ ps force now pinned pack commands atomic judged within fit judges set done. set)

  pub roles_sets : OfEachRepository (λ repository. IsRoleSet repository.roles)
  roles_sets admin log legal = (
    λ name repository is. sets_replayed admin log legal name repository is,
    λ opening stands. each_pinned HasRoleSet sets_replayed tt admin log legal opening stands,
  )

-- ---- what an event leaves of a repository that isn't the one that it is for

-- what an opening leaves of a part of which an empty repository has the same, whoever created it
module _ {X : Type 0} (part : Repository → X) where
  opening_keeps : ((user : Name) → part (empty_repository (Some user)) ≡ part (empty_repository None)) → (ps : Patterns) (state : State) (user repo : Name) (want : Want) (answer : EnterKept) → IsDueOpening ps state user repo want answer
      → (q : Name) → part (found_in (changed state (made_by user repo answer)).repositories q) ≡ part (found_in state.repositories q)
  opening_keeps alike ps state user repo want Granted due q = refl
  opening_keeps alike ps state user repo want (Denied verdict) due q = refl
  opening_keeps alike ps state user repo want NoRepo due q = refl
  opening_keeps alike ps state user repo want Created due q = by_name (eq_by_cmp (slice_cmp nat_cmp) q repo) refl
    where
      by_name : (b : Bool) → eq_by_cmp (slice_cmp nat_cmp) q repo ≡ b → part (found_in (insert state.repositories repo (empty_repository (Some user))) q) ≡ part (found_in state.repositories q)
      by_name false apart = ap part (insert_apart state.repositories repo q (empty_repository (Some user)) apart)
      by_name true same =
          let here : q ≡ repo = same_key q repo same in
          let after_is : found_in (insert state.repositories repo (empty_repository (Some user))) q ≡ empty_repository (Some user) = ap (found_in (insert state.repositories repo (empty_repository (Some user)))) here ∙ insert_here state.repositories repo (empty_repository (Some user)) in
          let before_is : found_in state.repositories q ≡ empty_repository None = ap (found_in state.repositories) here ∙ ap (λ (o : Option Repository). unwrap_or o (empty_repository None)) (made_anew ps state user repo want due) in
          ap part after_is ∙ alike user ∙ ap part (sym before_is)

  -- what a push leaves of a part that has neither objects nor refs
  pub push_keeps : ((r : Repository) (objects : List Content) (refs : Refs) → part (record r { objects = objects; refs = refs }) ≡ part r)
      → (state : State) (pinned : Pinned) (pack : List Content) (cs : List Command) (os : List Outcome) (made : List Name) → AreLacking state made
      → (q : Name) → part (found_in (changed state (push_change state pinned pack cs os made)).repositories q) ≡ part (found_in state.repositories q)
  unfolding push_change
  push_keeps alike state pinned pack cs os made lacking q = by_done (list_any is_done os)
    where
      next : Repository
      next = record (repository_at state pinned.repo) { objects = with_pack (repository_at state pinned.repo).objects pack; refs = refs_left (repository_at state pinned.repo).refs cs os }

      by_name : (b : Bool) → eq_by_cmp (slice_cmp nat_cmp) q pinned.repo ≡ b → part (found_in (insert (placed_in state.repositories (made_empty made)) pinned.repo next) q) ≡ part (found_in state.repositories q)
      by_name false apart = ap part (insert_apart (placed_in state.repositories (made_empty made)) pinned.repo q next apart ∙ made_none state made lacking q)
      by_name true same =
          let here : q ≡ pinned.repo = same_key q pinned.repo same in
          ap (λ (n : Name). part (found_in (insert (placed_in state.repositories (made_empty made)) pinned.repo next) n)) here
          ∙ ap part (insert_here (placed_in state.repositories (made_empty made)) pinned.repo next)
          ∙ alike (repository_at state pinned.repo) (with_pack (repository_at state pinned.repo).objects pack) (refs_left (repository_at state pinned.repo).refs cs os)
          ∙ ap (λ (n : Name). part (found_in state.repositories n)) (sym here)

      by_done : (b : Bool) → part (found_in (placed_in state.repositories (put_in_place pinned.repo (if b then Some (record (repository_at state pinned.repo) { objects = with_pack (repository_at state pinned.repo).objects pack; refs = refs_left (repository_at state pinned.repo).refs cs os }) else None) ++ made_empty made)) q) ≡ part (found_in state.repositories q)
      by_done true = by_name (eq_by_cmp (slice_cmp nat_cmp) q pinned.repo) refl
      by_done false = ap part (made_none state made lacking q)

-- a change of roles of one repository leaves each other
pub given_apart : (state : State) (repo : Name) (asked : PermChange) (answer : PermsKept) (q : Name) → eq_by_cmp (slice_cmp nat_cmp) q repo ≡ false
    → found_in (changed state (given_by state repo asked answer)).repositories q ≡ found_in state.repositories q
given_apart state repo asked AlreadySo q apart = refl
given_apart state repo asked NotWild q apart = refl
given_apart state repo asked NotCreator q apart = refl
given_apart state repo asked NoSuchRole q apart = refl
given_apart state repo asked Listed q apart = refl
given_apart state repo asked Changed q apart = insert_apart state.repositories repo q (record (repository_at state repo) { roles = roles_after (repository_at state repo).roles asked }) apart

-- and gives this one the roles
given_here : (state : State) (repo : Name) (asked : PermChange) → found_in (changed state (given_by state repo asked Changed)).repositories repo ≡ record (repository_at state repo) { roles = roles_after (repository_at state repo).roles asked }
given_here state repo asked = insert_here state.repositories repo (record (repository_at state repo) { roles = roles_after (repository_at state repo).roles asked })

-- ---- what answers tell

module _ (state : State) (asker repo : Name) where
  abbrev now : Repository
  now = repository_at state repo

  -- what refuses an asker tells of the creator
  by_creator : (c : Option Name) → now.creator ≡ c → (found : PermsAnswer) → refused_by c asker ≡ Some found → ((found ≡ perms.NotWild) × (now.creator ≡ None)) ⊎ ((found ≡ perms.NotCreator) × (creator : Name) × (now.creator ≡ Some creator) × ¬ (creator ≡ asker))
  by_creator None is found refused = inl (some_same (sym refused), is)
  by_creator (Some creator) is found refused = by_test (bytes_eq creator asker) refl refused
    where
      by_test : (b : Bool) → bytes_eq creator asker ≡ b → (if b then None else Some perms.NotCreator) ≡ Some found
          → ((found ≡ perms.NotWild) × (now.creator ≡ None)) ⊎ ((found ≡ perms.NotCreator) × (creator : Name) × (now.creator ≡ Some creator) × ¬ (creator ≡ asker))
      by_test true same refused = absurd cc
      by_test false other refused = inr (some_same (sym refused), creator, is, λ same. let clash : true ≡ false = sym ((bytes_decides creator asker).1 same) ∙ other in cc clash)

  -- an asker whom nothing refuses is the creator
  is_creator : (c : Option Name) → now.creator ≡ c → refused_by c asker ≡ None → now.creator ≡ Some asker
  is_creator None is free = absurd cc
  is_creator (Some creator) is free = by_test (bytes_eq creator asker) refl free
    where
      by_test : (b : Bool) → bytes_eq creator asker ≡ b → (if b then None else Some perms.NotCreator) ≡ None → now.creator ≡ Some asker
      by_test true same free = is ∙ ap (λ (n : Name). Some n) ((bytes_decides creator asker).0 same)
      by_test false other free = absurd cc

  -- what is kept of a refusal by the creator
  tells_refused : (asked : PermChange) (answer : PermsKept) (found : PermsAnswer) → Some answer ≡ kept_of found
      → ((found ≡ perms.NotWild) × (now.creator ≡ None)) ⊎ ((found ≡ perms.NotCreator) × (creator : Name) × (now.creator ≡ Some creator) × ¬ (creator ≡ asker)) → TellsOfRoles state asker repo asked answer
  tells_refused asked answer found kept (inl none) =
      subst (TellsOfRoles state asker repo asked) (some_same (sym (kept ∙ ap kept_of none.0))) none.1
  tells_refused asked answer found kept (inr other) =
      subst (TellsOfRoles state asker repo asked) (some_same (sym (kept ∙ ap kept_of other.0))) (other.1, other.2, other.3)

  -- the answer to a change of one role, by what refuses it
  module _ (asked : PermChange) where
    by_role : (declared : Bool) (so : Bool) (answer : PermsKept) → Some answer ≡ unless_refused (if not declared then Some perms.NoSuchRole else refused_by now.creator asker) so
        → (now.creator ≡ Some asker → (so ≡ true → IsSo state repo asked) × (so ≡ false → IsNotSo state repo asked)) → TellsOfRoles state asker repo asked answer
    by_role false so answer told means = subst (TellsOfRoles state asker repo asked) (some_same (sym told)) tt
    by_role true so answer told means = by_refusal (refused_by now.creator asker) refl told
      where
        by_so : (s : Bool) → so ≡ s → now.creator ≡ Some asker → Some answer ≡ Some (if s then AlreadySo else Changed) → TellsOfRoles state asker repo asked answer
        by_so true so_is creator told = subst (TellsOfRoles state asker repo asked) (some_same (sym told)) (creator, (means creator).0 so_is)
        by_so false so_is creator told = subst (TellsOfRoles state asker repo asked) (some_same (sym told)) (creator, (means creator).1 so_is)

        by_refusal : (o : Option PermsAnswer) → refused_by now.creator asker ≡ o → Some answer ≡ unless_refused o so → TellsOfRoles state asker repo asked answer
        by_refusal (Some found) is told = tells_refused asked answer found told (by_creator now.creator refl found is)
        by_refusal None is told = by_so so refl (is_creator now.creator refl is) told

  -- whether the word is declared, by the answer
  declared_is : (declared so : Bool) (answer : PermsKept) → Some answer ≡ unless_refused (if not declared then Some perms.NoSuchRole else refused_by now.creator asker) so → declared ≡ is_of_role answer
  declared_is false so answer told = sym (ap is_of_role (some_same told))
  declared_is true so answer told = by_refusal (refused_by now.creator asker) refl told
    where
      by_found : (found : PermsAnswer) → Some answer ≡ kept_of found
          → ((found ≡ perms.NotWild) × (now.creator ≡ None)) ⊎ ((found ≡ perms.NotCreator) × (creator : Name) × (now.creator ≡ Some creator) × ¬ (creator ≡ asker)) → true ≡ is_of_role answer
      by_found found kept (inl none) = sym (ap is_of_role (some_same (kept ∙ ap kept_of none.0)))
      by_found found kept (inr other) = sym (ap is_of_role (some_same (kept ∙ ap kept_of other.0)))

      by_so : (s : Bool) → Some answer ≡ Some (if s then AlreadySo else Changed) → true ≡ is_of_role answer
      by_so true is = sym (ap is_of_role (some_same is))
      by_so false is = sym (ap is_of_role (some_same is))

      by_refusal : (o : Option PermsAnswer) → refused_by now.creator asker ≡ o → Some answer ≡ unless_refused o so → true ≡ is_of_role answer
      by_refusal (Some found) is told = by_found found told (by_creator now.creator refl found is)
      by_refusal None is told = by_so so told

  listed_is : (answer : PermsKept) → Some answer ≡ unless_kept (refused_by now.creator asker) → true ≡ is_of_role answer
  listed_is answer told = by_refusal (refused_by now.creator asker) refl told
    where
      by_found : (found : PermsAnswer) → Some answer ≡ kept_of found
          → ((found ≡ perms.NotWild) × (now.creator ≡ None)) ⊎ ((found ≡ perms.NotCreator) × (creator : Name) × (now.creator ≡ Some creator) × ¬ (creator ≡ asker)) → true ≡ is_of_role answer
      by_found found kept (inl none) = sym (ap is_of_role (some_same (kept ∙ ap kept_of none.0)))
      by_found found kept (inr other) = sym (ap is_of_role (some_same (kept ∙ ap kept_of other.0)))

      by_refusal : (o : Option PermsAnswer) → refused_by now.creator asker ≡ o → Some answer ≡ unless_kept o → true ≡ is_of_role answer
      by_refusal (Some found) is told = by_found found told (by_creator now.creator refl found is)
      by_refusal None is told = sym (ap is_of_role (some_same told))

  pub is_declared_as : (asked : PermChange) (answer : PermsKept) → ((ps : Patterns) → AreTrue ps → IsDueChange ps state asker repo asked answer) → IsDeclaredAs (is_of_role answer) state repo asked
  is_declared_as (change.Grant role user) answer due = λ ps ok.
      let d = due ps ok in
      (d.0, d.1, declared_is (is_declared ps d.0 repo now.creator (change.Grant role user)) (has_entry now.roles (entry_of role user)) answer d.2)
  is_declared_as (change.Revoke role user) answer due = λ ps ok.
      let d = due ps ok in
      (d.0, d.1, declared_is (is_declared ps d.0 repo now.creator (change.Revoke role user)) (not (has_entry now.roles (entry_of role user))) answer d.2)
  is_declared_as change.List answer due = λ ps ok.
      let d = due ps ok in
      (d.0, d.1, listed_is answer d.2)

  pub answer_tells : (ps : Patterns) (asked : PermChange) (answer : PermsKept) → IsDueChange ps state asker repo asked answer → TellsOfRoles state asker repo asked answer
  answer_tells ps (change.Grant role user) answer due =
      by_role (change.Grant role user) (is_declared ps due.0 repo now.creator (change.Grant role user)) (has_entry now.roles (entry_of role user)) answer due.2
      (λ creator. (λ so. entry_contained now.roles (entry_of role user) so, λ other held. let clash : true ≡ false = sym (contained_entry now.roles (entry_of role user) held) ∙ other in cc clash))
  answer_tells ps (change.Revoke role user) answer due =
      by_role (change.Revoke role user) (is_declared ps due.0 repo now.creator (change.Revoke role user)) (not (has_entry now.roles (entry_of role user))) answer due.2
      (λ creator. (
        λ so held. let clash : false ≡ true = ap not (sym (contained_entry now.roles (entry_of role user) held)) ∙ so in cc clash,
        λ other. entry_contained now.roles (entry_of role user) (not_false (has_entry now.roles (entry_of role user)) other),
      ))
    where
      not_false : (b : Bool) → not b ≡ false → b ≡ true
      not_false true is = refl
      not_false false is = absurd cc
  answer_tells ps change.List answer due = by_refusal (refused_by now.creator asker) refl due.2
    where
      by_refusal : (o : Option PermsAnswer) → refused_by now.creator asker ≡ o → Some answer ≡ unless_kept o → TellsOfRoles state asker repo change.List answer
      by_refusal (Some found) is told = tells_refused change.List answer found told (by_creator now.creator refl found is)
      by_refusal None is told = subst (TellsOfRoles state asker repo change.List) (some_same (sym told)) (is_creator now.creator refl is, refl)

-- ---- what is there

get_here : (known : ByName Repository) (k : Name) (r : Repository) → get (insert known k r) k ≡ Some r
get_here known k r = get-insert nat_list_cmp_total known k r k ∙ ap (λ (b : Bool). cond b (Some r) (get known k)) (key_itself k)

get_apart : (known : ByName Repository) (k q : Name) (r : Repository) → eq_by_cmp (slice_cmp nat_cmp) q k ≡ false → get (insert known k r) q ≡ get known q
get_apart known k q r apart = get-insert nat_list_cmp_total known k r q ∙ ap (λ (b : Bool). cond b (Some r) (get known q)) apart

take_end : {X : Type 0} (log : List X) (place : ℕ) (e : X) → slice_get log place ≡ Some e → take (suc place) log ≡ take place log ++ e ∷ []
take_end [] place e is = cc
take_end (x ∷ log) zero e is = ap (λ y. y ∷ []) (some_same is)
take_end (x ∷ log) (suc place) e is = ap (λ l. x ∷ l) (take_end log place e is)

never_granted : (v w : Verdict) → Granted ≡ by_verdict v (by_creation w) → ⊥
never_granted (Allowed seq) (Allowed other) is = cc
never_granted (Allowed seq) (DeniedBy other) is = cc
never_granted (Allowed seq) Fallthru is = cc
never_granted (DeniedBy seq) w is = cc
never_granted Fallthru w is = cc

-- an opening is granted where the repository is there
granted_there : (ps : Patterns) (state : State) (user repo : Name) (want : Want) → IsDueOpening ps state user repo want Granted → (r : Repository) × (get state.repositories repo ≡ Some r)
granted_there ps state user repo want due = by_get (get state.repositories repo) refl due.2
  where
    by_get : (o : Option Repository) → get state.repositories repo ≡ o → Granted ≡ answer_by ps due.0 o user repo want → (r : Repository) × (get state.repositories repo ≡ Some r)
    by_get None is answer = absurd (never_granted (unborn_stage ps due.0 repo user want) (may_create ps due.0 repo user) answer)
    by_get (Some r) is answer = (r, is)

-- the repository of an opening is there
opening_there : (ps : Patterns) (ok : AreTrue ps) (admin : Name) (log : List Entry) (place : ℕ) (pinned : Pinned) → IsLegal admin log → opening_at (history admin log) place ≡ Some pinned
    → (r : Repository) × (get (replay admin log).repositories pinned.repo ≡ Some r)
opening_there ps ok admin log place pinned legal stands =
    let at = pinned_at admin log place pinned stands in
    let entry : Entry = record { caller = at.caller; event = Entered pinned.user pinned.repo pinned.want at.answer } in
    let earlier : List Entry = take place log ++ entry ∷ [] in
    let whole : earlier ++ drop (suc place) log ≡ log = ap (λ (l : List Entry). l ++ drop (suc place) log) (sym (take_end log place entry at.stands)) ∙ take-append-drop (suc place) log in
    let legal_whole : IsLegal admin (earlier ++ drop (suc place) log) = subst (IsLegal admin) (sym whole) legal in
    let here = by_answer (take place log) at.caller at.answer at.granted (beginning_legal admin earlier (drop (suc place) log) legal_whole) in
    let stays = stays_there (replay admin earlier) (replay admin (earlier ++ drop (suc place) log)) (log_grows ps ok admin earlier (drop (suc place) log) legal_whole) pinned.repo here.0 here.1 in
    (stays.0, ap (λ (l : List Entry). get (replay admin l).repositories pinned.repo) (sym whole) ∙ stays.1)
  where
    by_answer : (before : List Entry) (caller : ℕ) (answer : EnterKept) → (answer ≡ Granted) ⊎ (answer ≡ Created) → IsLegal admin (before ++ record { caller = caller; event = Entered pinned.user pinned.repo pinned.want answer } ∷ [])
        → (r : Repository) × (get (replay admin (before ++ record { caller = caller; event = Entered pinned.user pinned.repo pinned.want answer } ∷ [])).repositories pinned.repo ≡ Some r)
    by_answer before caller answer (inl granted) legal =
        let due : IsDueOpening ps (replay admin before) pinned.user pinned.repo pinned.want Granted =
        subst (λ (a : EnterKept). IsDueOpening ps (replay admin before) pinned.user pinned.repo pinned.want a) granted (due_last admin before (record { caller = caller; event = Entered pinned.user pinned.repo pinned.want answer }) legal ps ok).1 in
        let found = granted_there ps (replay admin before) pinned.user pinned.repo pinned.want due in (
          found.0,
          ap (λ (s : State). get s.repositories pinned.repo) (behind admin before (record { caller = caller; event = Entered pinned.user pinned.repo pinned.want answer }))
              ∙ ap (λ (a : EnterKept). get (step (history admin before) (Entered pinned.user pinned.repo pinned.want a)).repositories pinned.repo) granted
              ∙ found.1,
        )
    by_answer before caller answer (inr created) legal = (
      empty_repository (Some pinned.user),
      ap (λ (s : State). get s.repositories pinned.repo) (behind admin before (record { caller = caller; event = Entered pinned.user pinned.repo pinned.want answer }))
          ∙ ap (λ (a : EnterKept). get (step (history admin before) (Entered pinned.user pinned.repo pinned.want a)).repositories pinned.repo) created
          ∙ get_here (replay admin before).repositories pinned.repo (empty_repository (Some pinned.user)),
    )

-- what a conf makes is empty
made_new : (state : State) (made : List Name) (q : Name) (is : Repository) → get state.repositories q ≡ None → get (placed_in state.repositories (made_empty made)) q ≡ Some is → is ≡ empty_repository is.creator
made_new state [] q is lacks there = let clash : None ≡ Some is = sym lacks ∙ there in cc
made_new state (n ∷ ns) q is lacks there = by_name (eq_by_cmp (slice_cmp nat_cmp) q n) (sym (get-insert nat_list_cmp_total (placed_in state.repositories (made_empty ns)) n (empty_repository None) q) ∙ there) (made_new state ns q is lacks)
  where
    by_name : (b : Bool) → cond b (Some (empty_repository None)) (get (placed_in state.repositories (made_empty ns)) q) ≡ Some is
        → (get (placed_in state.repositories (made_empty ns)) q ≡ Some is → is ≡ empty_repository is.creator) → is ≡ empty_repository is.creator
    by_name true there rest = subst (λ (s : Repository). s ≡ empty_repository s.creator) (some_same there) refl
    by_name false there rest = rest there

-- a push into a repository that is there brings none but empty ones
pushed_new : (state : State) (pinned : Pinned) (pack : List Content) (cs : List Command) (os : List Outcome) (made : List Name) (r : Repository) → get state.repositories pinned.repo ≡ Some r
    → (q : Name) (is : Repository) → get state.repositories q ≡ None → get (changed state (push_change state pinned pack cs os made)).repositories q ≡ Some is → is ≡ empty_repository is.creator
unfolding push_change
pushed_new state pinned pack cs os made r here q is lacks there = by_done (list_any is_done os) there
  where
    next : Repository
    next = record (repository_at state pinned.repo) { objects = with_pack (repository_at state pinned.repo).objects pack; refs = refs_left (repository_at state pinned.repo).refs cs os }

    by_name : (b : Bool) → eq_by_cmp (slice_cmp nat_cmp) q pinned.repo ≡ b → get (insert (placed_in state.repositories (made_empty made)) pinned.repo next) q ≡ Some is → is ≡ empty_repository is.creator
    by_name true same there = let clash : None ≡ Some r = sym lacks ∙ ap (get state.repositories) (same_key q pinned.repo same) ∙ here in cc
    by_name false apart there = made_new state made q is lacks (sym (get_apart (placed_in state.repositories (made_empty made)) pinned.repo q next apart) ∙ there)

    by_done : (b : Bool) → get (placed_in state.repositories (put_in_place pinned.repo (if b then Some (record (repository_at state pinned.repo) { objects = with_pack (repository_at state pinned.repo).objects pack; refs = refs_left (repository_at state pinned.repo).refs cs os }) else None) ++ made_empty made)) q ≡ Some is → is ≡ empty_repository is.creator
    by_done true there = by_name (eq_by_cmp (slice_cmp nat_cmp) q pinned.repo) refl there
    by_done false there = made_new state made q is lacks there

-- ---- the last entry of a log

module _ (ps : Patterns) (ok : AreTrue ps) (admin : Name) (before : List Entry) (entry : Entry) (legal : IsLegal admin (before ++ entry ∷ [])) where
  abbrev state : State
  state = replay admin before

  abbrev later : State
  later = replay admin (before ++ entry ∷ [])

  due_of : (event : Event) → entry.event ≡ event → IsDue ps (history admin before) event
  due_of event is = subst (IsDue ps (history admin before)) is (due_last admin before entry legal ps ok)

  later_by : (event : Event) → entry.event ≡ event → later ≡ step (history admin before) event
  later_by event is = behind admin before entry ∙ ap (step (history admin before)) is

  due_by : (qs : Patterns) → AreTrue qs → (event : Event) → entry.event ≡ event → IsDue qs (history admin before) event
  due_by qs are event is = subst (IsDue qs (history admin before)) is (due_last admin before entry legal qs are)

  pub answers_tell : (asker repo : Name) (asked : PermChange) (answer : PermsKept) → entry.event ≡ Permitted asker repo asked answer
      → TellsOfRoles state asker repo asked answer × IsDeclaredAs (is_of_role answer) state repo asked
  answers_tell asker repo asked answer is = (
    answer_tells state asker repo ps asked answer (due_of (Permitted asker repo asked answer) is).3,
    is_declared_as state asker repo asked answer (λ qs are. (due_by qs are (Permitted asker repo asked answer) is).3),
  )

  roles_given : (asker repo : Name) (asked : PermChange) → entry.event ≡ Permitted asker repo asked Changed → (repository_at later repo).roles ≡ roles_after (repository_at state repo).roles asked
  roles_given asker repo asked is =
      ap (λ (s : State). (repository_at s repo).roles) (later_by (Permitted asker repo asked Changed) is) ∙ ap (λ (r : Repository). r.roles) (given_here state repo asked)

  pub change_of_one : (asker repo : Name) (asked : PermChange) → entry.event ≡ Permitted asker repo asked Changed → (held : RoleEntry)
      → Contains (repository_at later repo).roles held ↔ HoldsBehind state repo asked held
  change_of_one asker repo (change.Grant role user) is held =
      let roles_is = roles_given asker repo (change.Grant role user) is in (
        λ has. with_has (repository_at state repo).roles (entry_of role user) held (subst (λ (l : List RoleEntry). Contains l held) roles_is has),
        λ has. subst (λ (l : List RoleEntry). Contains l held) (sym roles_is) (has_with (repository_at state repo).roles (entry_of role user) held has),
      )
  change_of_one asker repo (change.Revoke role user) is held =
      let roles_is = roles_given asker repo (change.Revoke role user) is in (
        λ has. without_has (repository_at state repo).roles (entry_of role user) held (subst (λ (l : List RoleEntry). Contains l held) roles_is has),
        λ has. subst (λ (l : List RoleEntry). Contains l held) (sym roles_is) (has_without (repository_at state repo).roles (entry_of role user) held has.0 has.1),
      )
  change_of_one asker repo change.List is held =
      let roles_is = roles_given asker repo change.List is in
      (λ has. subst (λ (l : List RoleEntry). Contains l held) roles_is has, λ has. subst (λ (l : List RoleEntry). Contains l held) (sym roles_is) has)

  -- what each event but one that is named leaves of a part of a repository
  module _ {X : Type 0} (part : Repository → X) (repo : Name) where
    abbrev Same : State → Type 0
    Same s = part (repository_at s repo) ≡ part (repository_at state repo)

    same_pushed : ((r : Repository) (objects : List Content) (refs : Refs) → part (record r { objects = objects; refs = refs }) ≡ part r)
        → (place : ℕ) (pack : List Content) (cs : List Command) (atomic : Bool) (os : List Outcome) (made : List Name) → entry.event ≡ Pushed place pack cs atomic os made → Same later
    same_pushed alike place pack cs atomic os made is = by_opening (opening_at (history admin before) place) refl (due_of (Pushed place pack cs atomic os made) is)
      where
        by_opening : (o : Option Pinned) → opening_at (history admin before) place ≡ o → IsDueAfter ps state o pack cs atomic os made → Same later
        by_opening None at due = absurd due
        by_opening (Some pinned) at due =
            ap (λ (s : State). part (repository_at s repo)) (later_by (Pushed place pack cs atomic os made) is ∙ ap (λ (o : Option Pinned). after_push state o pack cs os made) at)
            ∙ push_keeps part alike state pinned pack cs os made (makes_lacking ps state (conf_put pinned pack cs os) made due.makes) repo

  pub roles_change_there : (repo : Name) → ¬ ((repository_at later repo).roles ≡ (repository_at state repo).roles) → (asker : Name) × (asked : PermChange) × (entry.event ≡ Permitted asker repo asked Changed)
  roles_change_there repo differs = by_event entry.event refl
    where
      roles_of : Repository → List RoleEntry
      roles_of r = r.roles

      same_by : (event : Event) → entry.event ≡ event → (repository_at (step (history admin before) event) repo).roles ≡ (repository_at state repo).roles → (asker : Name) × (asked : PermChange) × (entry.event ≡ Permitted asker repo asked Changed)
      same_by event is stays = absurd (differs (ap (λ (s : State). (repository_at s repo).roles) (later_by event is) ∙ stays))

      by_answer : (asker to : Name) (asked : PermChange) (answer : PermsKept) → entry.event ≡ Permitted asker to asked answer → to ≡ repo → (asker : Name) × (asked : PermChange) × (entry.event ≡ Permitted asker repo asked Changed)
      by_answer asker to asked Changed is same = (asker, asked, is ∙ ap (λ (n : Name). Permitted asker n asked Changed) same)
      by_answer asker to asked AlreadySo is same = same_by (Permitted asker to asked AlreadySo) is refl
      by_answer asker to asked NotWild is same = same_by (Permitted asker to asked NotWild) is refl
      by_answer asker to asked NotCreator is same = same_by (Permitted asker to asked NotCreator) is refl
      by_answer asker to asked NoSuchRole is same = same_by (Permitted asker to asked NoSuchRole) is refl
      by_answer asker to asked Listed is same = same_by (Permitted asker to asked Listed) is refl

      by_name : (asker to : Name) (asked : PermChange) (answer : PermsKept) → entry.event ≡ Permitted asker to asked answer → (b : Bool) → eq_by_cmp (slice_cmp nat_cmp) repo to ≡ b → (asker : Name) × (asked : PermChange) × (entry.event ≡ Permitted asker repo asked Changed)
      by_name asker to asked answer is true same = by_answer asker to asked answer is (sym (same_key repo to same))
      by_name asker to asked answer is false apart = same_by (Permitted asker to asked answer) is (ap (λ (r : Repository). r.roles) (given_apart state to asked answer repo apart))

      by_event : (event : Event) → entry.event ≡ event → (asker : Name) × (asked : PermChange) × (entry.event ≡ Permitted asker repo asked Changed)
      by_event (Entered user to want answer) is =
          same_by (Entered user to want answer) is (opening_keeps (λ (r : Repository). r.roles) (λ user. refl) ps state user to want answer (due_of (Entered user to want answer) is).1 repo)
      by_event (Pushed place pack cs atomic os made) is = absurd (differs (same_pushed (λ (r : Repository). r.roles) repo (λ r objects refs. refl) place pack cs atomic os made is))
      by_event (Permitted asker to asked answer) is = by_name asker to asked answer is (eq_by_cmp (slice_cmp nat_cmp) repo to) refl
      by_event (Looked user) is = same_by (Looked user) is refl

  -- a role that is held stays while it isn't declared
  pub undeclared_stay : (repo : Name) (held : RoleEntry) → Contains (repository_at state repo).roles held → IsUndeclared state repo held.role → Contains (repository_at later repo).roles held
  undeclared_stay repo held has undeclared = by_test (has_entry (repository_at later repo).roles held) refl
    where
      lost : (asker : Name) (asked : PermChange) → entry.event ≡ Permitted asker repo asked Changed → ¬ Contains (repository_at later repo).roles held → ⊥
      lost asker (change.Grant role user) is gone = gone ((change_of_one asker repo (change.Grant role user) is held).1 (inr has))
      lost asker change.List is gone = gone ((change_of_one asker repo change.List is held).1 has)
      lost asker (change.Revoke role user) is gone =
          gone ((change_of_one asker repo (change.Revoke role user) is held).1 (
            has,
            λ same.
                let by = (answers_tell asker repo (change.Revoke role user) Changed is).1 ps ok in
                let taken : declares ps by.0.options role repo (repository_at state repo).creator ≡ true = by.2 in
                let none : declares ps by.0.options role repo (repository_at state repo).creator ≡ false =
                ap (λ (e : RoleEntry). declares ps by.0.options e.role repo (repository_at state repo).creator) (sym same) ∙ undeclared ps ok by.0 by.1 in
                let clash : true ≡ false = sym taken ∙ none in
                cc clash,
          ))

      gone_by : ¬ Contains (repository_at later repo).roles held → ⊥
      gone_by gone =
          let changed = roles_change_there repo (λ same. gone (subst (λ (roles : List RoleEntry). Contains roles held) (sym same) has)) in
          lost changed.0 changed.1 changed.2 gone

      by_test : (b : Bool) → has_entry (repository_at later repo).roles held ≡ b → Contains (repository_at later repo).roles held
      by_test true is = entry_contained (repository_at later repo).roles held is
      by_test false is = absurd (gone_by (λ held_later. let clash : true ≡ false = sym (contained_entry (repository_at later repo).roles held held_later) ∙ is in cc clash))

  pub created_is_new : (user repo : Name) (want : Want) → entry.event ≡ Entered user repo want Created → (get state.repositories repo ≡ None) × (get later.repositories repo ≡ Some (empty_repository (Some user)))
  created_is_new user repo want is = (
    made_anew ps state user repo want (due_of (Entered user repo want Created) is).1,
    ap (λ (s : State). get s.repositories repo) (later_by (Entered user repo want Created) is)
        ∙ get-insert nat_list_cmp_total state.repositories repo (empty_repository (Some user)) repo
        ∙ ap (λ (b : Bool). cond b (Some (empty_repository (Some user))) (get state.repositories repo)) (key_itself repo),
  )

  abbrev OpenedBy : Name → Type 0
  OpenedBy repo = (user : Name) × (want : Want) × (entry.event ≡ Entered user repo want Created) × (creator_in later repo ≡ Some user)

  pub creators_opened : (repo : Name) → ¬ (creator_in later repo ≡ creator_in state repo) → OpenedBy repo
  creators_opened repo differs = by_event entry.event refl
    where
      same_by : (event : Event) → entry.event ≡ event → creator_in (step (history admin before) event) repo ≡ creator_in state repo → OpenedBy repo
      same_by event is stays = absurd (differs (ap (λ (s : State). creator_in s repo) (later_by event is) ∙ stays))

      made : (user to : Name) (want : Want) → entry.event ≡ Entered user to want Created → (b : Bool) → eq_by_cmp (slice_cmp nat_cmp) repo to ≡ b → OpenedBy repo
      made user to want is true same =
          let here : entry.event ≡ Entered user repo want Created = is ∙ ap (λ (n : Name). Entered user n want Created) (sym (same_key repo to same)) in
          (user, want, here, ap (λ (o : Option Repository). (unwrap_or o (empty_repository None)).creator) (created_is_new user repo want here).1)
      made user to want is false apart = same_by (Entered user to want Created) is (ap (λ (r : Repository). r.creator) (insert_apart state.repositories to repo (empty_repository (Some user)) apart))

      opened : (user to : Name) (want : Want) (answer : EnterKept) → entry.event ≡ Entered user to want answer → OpenedBy repo
      opened user to want Granted is = same_by (Entered user to want Granted) is refl
      opened user to want Created is = made user to want is (eq_by_cmp (slice_cmp nat_cmp) repo to) refl
      opened user to want (Denied verdict) is = same_by (Entered user to want (Denied verdict)) is refl
      opened user to want NoRepo is = same_by (Entered user to want NoRepo) is refl

      given : (to : Name) (asked : PermChange) (answer : PermsKept) → creator_in (changed state (given_by state to asked answer)) repo ≡ creator_in state repo
      given to asked AlreadySo = refl
      given to asked NotWild = refl
      given to asked NotCreator = refl
      given to asked NoSuchRole = refl
      given to asked Listed = refl
      given to asked Changed = by_name (eq_by_cmp (slice_cmp nat_cmp) repo to) refl
        where
          by_name : (b : Bool) → eq_by_cmp (slice_cmp nat_cmp) repo to ≡ b → creator_in (changed state (given_by state to asked Changed)) repo ≡ creator_in state repo
          by_name false apart = ap (λ (r : Repository). r.creator) (given_apart state to asked Changed repo apart)
          by_name true same =
              let here : repo ≡ to = same_key repo to same in
              ap (λ (n : Name). creator_in (changed state (given_by state to asked Changed)) n) here ∙ ap (λ (r : Repository). r.creator) (given_here state to asked) ∙ ap (creator_in state) (sym here)

      by_event : (event : Event) → entry.event ≡ event → OpenedBy repo
      by_event (Entered user to want answer) is = opened user to want answer is
      by_event (Pushed place pack cs atomic os made) is = absurd (differs (same_pushed (λ (r : Repository). r.creator) repo (λ r objects refs. refl) place pack cs atomic os made is))
      by_event (Permitted asker to asked answer) is = same_by (Permitted asker to asked answer) is (given to asked answer)
      by_event (Looked user) is = same_by (Looked user) is refl

  -- ---- what is there for the first time

  pub new_is_empty : (repo : Name) (is : Repository) → get state.repositories repo ≡ None → get later.repositories repo ≡ Some is → is ≡ empty_repository is.creator
  new_is_empty repo is lacks there = by_event entry.event refl
    where
      was : (r : Repository) → is ≡ r → r ≡ empty_repository r.creator → is ≡ empty_repository is.creator
      was r same empty_is = subst (λ (s : Repository). s ≡ empty_repository s.creator) (sym same) empty_is

      same_by : (event : Event) → entry.event ≡ event → get (step (history admin before) event).repositories repo ≡ get state.repositories repo → is ≡ empty_repository is.creator
      same_by event event_is stays =
          let clash : None ≡ Some is = sym lacks ∙ sym stays ∙ ap (λ (s : State). get s.repositories repo) (sym (later_by event event_is)) ∙ there in cc

      made : (user to : Name) (want : Want) → entry.event ≡ Entered user to want Created → (b : Bool) → eq_by_cmp (slice_cmp nat_cmp) repo to ≡ b → is ≡ empty_repository is.creator
      made user to want event_is true same =
          let here : entry.event ≡ Entered user repo want Created = event_is ∙ ap (λ (n : Name). Entered user n want Created) (sym (same_key repo to same)) in
          was (empty_repository (Some user)) (some_same (sym there ∙ (created_is_new user repo want here).1)) refl
      made user to want event_is false apart = same_by (Entered user to want Created) event_is (get_apart state.repositories to repo (empty_repository (Some user)) apart)

      opened : (user to : Name) (want : Want) (answer : EnterKept) → entry.event ≡ Entered user to want answer → is ≡ empty_repository is.creator
      opened user to want Granted event_is = same_by (Entered user to want Granted) event_is refl
      opened user to want Created event_is = made user to want event_is (eq_by_cmp (slice_cmp nat_cmp) repo to) refl
      opened user to want (Denied verdict) event_is = same_by (Entered user to want (Denied verdict)) event_is refl
      opened user to want NoRepo event_is = same_by (Entered user to want NoRepo) event_is refl

      by_opening : (place : ℕ) (pack : List Content) (cs : List Command) (atomic : Bool) (os : List Outcome) (made : List Name) → entry.event ≡ Pushed place pack cs atomic os made
          → (o : Option Pinned) → opening_at (history admin before) place ≡ o → IsDueAfter ps state o pack cs atomic os made → is ≡ empty_repository is.creator
      by_opening place pack cs atomic os made event_is None at due = absurd due
      by_opening place pack cs atomic os made event_is (Some pinned) at due =
          pushed_new state pinned pack cs os made (opening_there ps ok admin before place pinned (beginning_legal admin before (entry ∷ []) legal) at).0 (opening_there ps ok admin before place pinned (beginning_legal admin before (entry ∷ []) legal) at).1 repo is lacks
          (ap (λ (s : State). get s.repositories repo) (sym (later_by (Pushed place pack cs atomic os made) event_is ∙ ap (λ (o : Option Pinned). after_push state o pack cs os made) at)) ∙ there)

      given : (asker to : Name) (asked : PermChange) (answer : PermsKept) → entry.event ≡ Permitted asker to asked answer → is ≡ empty_repository is.creator
      given asker to asked AlreadySo event_is = same_by (Permitted asker to asked AlreadySo) event_is refl
      given asker to asked NotWild event_is = same_by (Permitted asker to asked NotWild) event_is refl
      given asker to asked NotCreator event_is = same_by (Permitted asker to asked NotCreator) event_is refl
      given asker to asked NoSuchRole event_is = same_by (Permitted asker to asked NoSuchRole) event_is refl
      given asker to asked Listed event_is = same_by (Permitted asker to asked Listed) event_is refl
      given asker to asked Changed event_is = by_name (eq_by_cmp (slice_cmp nat_cmp) repo to) refl
        where
          by_name : (b : Bool) → eq_by_cmp (slice_cmp nat_cmp) repo to ≡ b → is ≡ empty_repository is.creator
          by_name false apart = same_by (Permitted asker to asked Changed) event_is (get_apart state.repositories to repo (record (repository_at state to) { roles = roles_after (repository_at state to).roles asked }) apart)
          by_name true same =
              let clash : None ≡ Some asker =
              ap (λ (o : Option Repository). (unwrap_or o (empty_repository None)).creator) (sym lacks) ∙ ap (creator_in state) (same_key repo to same) ∙ (answers_tell asker to asked Changed event_is).0.0 in cc

      by_event : (event : Event) → entry.event ≡ event → is ≡ empty_repository is.creator
      by_event (Entered user to want answer) event_is = opened user to want answer event_is
      by_event (Pushed place pack cs atomic os made) event_is = by_opening place pack cs atomic os made event_is (opening_at (history admin before) place) refl (due_of (Pushed place pack cs atomic os made) event_is)
      by_event (Permitted asker to asked answer) event_is = given asker to asked answer event_is
      by_event (Looked user) event_is = same_by (Looked user) event_is refl
