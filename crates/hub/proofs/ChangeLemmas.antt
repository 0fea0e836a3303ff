-- Changes of roles, and what they leave.
use Rattle.std.proofs.Common.{◌≡◌, Bool, true, false, not, List, refl, sym, ◌∙◌, ap, Contains}
use Rattle.std.specs.Prelude.{Option, Some, None, if◌then◌else◌}
use Rattle.std.specs.FinMap.{insert}
use Rattle.std.specs.Str.{bytes_eq}
use Rattle.ref_store.specs.Refs.{Name}
use Rattle.rule_compile.specs.Flat.{Flat}
use Rattle.rule_compile.specs.Patterns.{AreTrue, Patterns}
use Rattle.wild_perms.specs.Answers.{Grants, Lists, Revokes, refusal, refused_by}
use Rattle.wild_perms.specs.Roles.{WildView}
use Rattle.wild_perms.specs.declared.role.RoleEntry.{RoleEntry}
use Rattle.wild_perms.specs.declared.answer.PermsAnswer.{PermsAnswer}
use Rattle.wild_perms.specs.declared.answer.PermsAnswer.TheVariants as perms
use Rattle.hub_history.specs.declared.entry.PermChange.{PermChange}
use Rattle.hub_history.specs.declared.entry.PermChange.TheVariants as change
use Rattle.hub_history.specs.declared.entry.PermsKept.{PermsKept}
use Rattle.hub_history.specs.declared.entry.PermsKept.TheVariants.{Changed, AlreadySo, NotWild, NotCreator, NoSuchRole, Listed}
use Rattle.hub_history.specs.Conf.{AreInForce}
use Rattle.hub_history.specs.Roles.{answer_to_change, entry_of, has_entry, is_declared, kept_of, roles_after, unless_kept, unless_refused}
use Rattle.hub_history.specs.declared.entry.Event.TheVariants.{Permitted}
use Rattle.hub_history.specs.History.{AreNames, HasShortRole, IsOfUser, history, step}
use Rattle.hub_history.specs.Laws.{IsDueBehind}
use Rattle.hub_history.specs.State.{placed_in, repository_at, wild_of}
use Rattle.hub_history.proofs.RoleSets.{contained_entry, entry_contained}
use Rattle.hub.specs.Answer.{AnswersChange}
use Rattle.hub.specs.Asks.{Asks, put_of}
use Rattle.hub.specs.Hub.{HubView, state_of, stored}

-- whether an entry is there, by what is known of it
is_there : (roles : List RoleEntry) (entry : RoleEntry) → Contains roles entry → has_entry roles entry ≡ true
is_there roles entry held = contained_entry roles entry held

is_absent : (roles : List RoleEntry) (entry : RoleEntry) → ¬ Contains roles entry → has_entry roles entry ≡ false
is_absent roles entry lacks = by_test (has_entry roles entry) refl
  where
    by_test : (b : Bool) → has_entry roles entry ≡ b → has_entry roles entry ≡ false
    by_test true is = absurd (lacks (entry_contained roles entry is))
    by_test false is = is

-- nothing refuses it, and it is so already or not
free_answer : (refused : Option PermsAnswer) (so b : Bool) → refused ≡ None → so ≡ b → Some (if b then AlreadySo else Changed) ≡ unless_refused refused so
free_answer refused so b free is = ap (λ (x : Bool). Some (if x then AlreadySo else Changed)) (sym is) ∙ ap (λ (r : Option PermsAnswer). unless_refused r so) (sym free)

-- it is refused
refused_answer : (refused : Option PermsAnswer) (so : Bool) (answer : PermsAnswer) (kept : PermsKept) → refused ≡ Some answer → kept_of answer ≡ Some kept → Some kept ≡ unless_refused refused so
refused_answer refused so answer kept is keeps = sym keeps ∙ ap (λ (r : Option PermsAnswer). unless_refused r so) (sym is)

module _ (old new : WildView) (asker : Name) (declared : Bool) where
  granted : (role user : Name) (answer : PermsAnswer) (kept : PermsKept) → kept_of answer ≡ Some kept → Grants old new asker (entry_of role user) declared answer → Some kept ≡ answer_to_change old asker declared (change.Grant role user)
  granted role user perms.Changed kept keeps g =
      sym keeps ∙ free_answer (refusal old asker declared) (has_entry old.roles (entry_of role user)) false g.0 (is_absent old.roles (entry_of role user) g.1)
  granted role user perms.AlreadySo kept keeps g =
      sym keeps ∙ free_answer (refusal old asker declared) (has_entry old.roles (entry_of role user)) true g.0 (is_there old.roles (entry_of role user) g.1)
  granted role user perms.NotWild kept keeps g = refused_answer (refusal old asker declared) (has_entry old.roles (entry_of role user)) perms.NotWild kept g.0 keeps
  granted role user perms.NotCreator kept keeps g = refused_answer (refusal old asker declared) (has_entry old.roles (entry_of role user)) perms.NotCreator kept g.0 keeps
  granted role user perms.NoSuchRole kept keeps g = refused_answer (refusal old asker declared) (has_entry old.roles (entry_of role user)) perms.NoSuchRole kept g.0 keeps
  granted role user (perms.Listed roles) kept keeps g = refused_answer (refusal old asker declared) (has_entry old.roles (entry_of role user)) (perms.Listed roles) kept g.0 keeps
  granted role user perms.NoMemory kept keeps g = absurd cc

  revoked : (role user : Name) (answer : PermsAnswer) (kept : PermsKept) → kept_of answer ≡ Some kept → Revokes old new asker (entry_of role user) declared answer → Some kept ≡ answer_to_change old asker declared (change.Revoke role user)
  revoked role user perms.Changed kept keeps g =
      sym keeps ∙ free_answer (refusal old asker declared) (not (has_entry old.roles (entry_of role user))) false g.0 (ap not (is_there old.roles (entry_of role user) g.1))
  revoked role user perms.AlreadySo kept keeps g =
      sym keeps ∙ free_answer (refusal old asker declared) (not (has_entry old.roles (entry_of role user))) true g.0 (ap not (is_absent old.roles (entry_of role user) g.1))
  revoked role user perms.NotWild kept keeps g = refused_answer (refusal old asker declared) (not (has_entry old.roles (entry_of role user))) perms.NotWild kept g.0 keeps
  revoked role user perms.NotCreator kept keeps g = refused_answer (refusal old asker declared) (not (has_entry old.roles (entry_of role user))) perms.NotCreator kept g.0 keeps
  revoked role user perms.NoSuchRole kept keeps g = refused_answer (refusal old asker declared) (not (has_entry old.roles (entry_of role user))) perms.NoSuchRole kept g.0 keeps
  revoked role user (perms.Listed roles) kept keeps g = refused_answer (refusal old asker declared) (not (has_entry old.roles (entry_of role user))) (perms.Listed roles) kept g.0 keeps
  revoked role user perms.NoMemory kept keeps g = absurd cc

  listed : (answer : PermsAnswer) (kept : PermsKept) → kept_of answer ≡ Some kept → Lists old asker answer → Some kept ≡ answer_to_change old asker declared change.List
  listed (perms.Listed roles) kept keeps l = sym keeps ∙ ap unless_kept (sym l.0)
  listed perms.Changed kept keeps l = sym keeps ∙ ap unless_kept (sym l)
  listed perms.AlreadySo kept keeps l = sym keeps ∙ ap unless_kept (sym l)
  listed perms.NotWild kept keeps l = sym keeps ∙ ap unless_kept (sym l)
  listed perms.NotCreator kept keeps l = sym keeps ∙ ap unless_kept (sym l)
  listed perms.NoSuchRole kept keeps l = sym keeps ∙ ap unless_kept (sym l)
  listed perms.NoMemory kept keeps l = absurd cc

  -- the answer is the one that is due
  pub asked_due : (asked : PermChange) (answer : PermsAnswer) (kept : PermsKept) → kept_of answer ≡ Some kept → Asks old new asker declared asked answer → Some kept ≡ answer_to_change old asker declared asked
  asked_due (change.Grant role user) answer kept keeps asks = granted role user answer kept keeps asks
  asked_due (change.Revoke role user) answer kept keeps asks = revoked role user answer kept keeps asks
  asked_due change.List answer kept keeps asks = listed answer kept keeps asks.0

  -- where it is a change, these are the roles behind it
  pub asked_changes : (asked : PermChange) (answer : PermsAnswer) → kept_of answer ≡ Some Changed → Asks old new asker declared asked answer → new ≡ record old { roles = roles_after old.roles asked }
  asked_changes (change.Grant role user) perms.Changed keeps asks = asks.2
  asked_changes (change.Revoke role user) perms.Changed keeps asks = asks.2
  asked_changes change.List answer keeps asks = asks.1
  asked_changes asked perms.AlreadySo keeps asks = absurd cc
  asked_changes asked perms.NotWild keeps asks = absurd cc
  asked_changes asked perms.NotCreator keeps asks = absurd cc
  asked_changes asked perms.NoSuchRole keeps asks = absurd cc
  asked_changes asked (perms.Listed roles) keeps asks = absurd cc
  asked_changes asked perms.NoMemory keeps asks = absurd cc

-- ---- a hub

-- a refusal is no list of roles
never_listed : (creator : Option Name) (asker : Name) (roles : List RoleEntry) → refused_by creator asker ≡ Some (perms.Listed roles) → ⊥
never_listed None asker roles is = cc
never_listed (Some creator) asker roles is = by_same (bytes_eq creator asker) is
  where
    by_same : (b : Bool) → (if b then None else Some perms.NotCreator) ≡ Some (perms.Listed roles) → ⊥
    by_same true is = cc
    by_same false is = cc

refusal_unlisted : (wild : WildView) (asker : Name) (declared : Bool) (roles : List RoleEntry) → refusal wild asker declared ≡ Some (perms.Listed roles) → ⊥
refusal_unlisted wild asker false roles is = cc is
refusal_unlisted wild asker true roles is = never_listed wild.creator asker roles is

module _ (hub : HubView) (user repo : Name) (new : WildView) (declared : Bool) where
  abbrev there : WildView
  there = wild_of (repository_at (state_of hub) repo)

  -- whether the word is declared, by the rules in force
  abbrev pub IsByRules : PermChange → Type 0
  IsByRules asked = (ps : Patterns) → AreTrue ps → (rules : Flat) × AreInForce ps (state_of hub).conf rules × (declared ≡ is_declared ps rules repo there.creator asked)

  pub change_due : AreNames user repo → (asked : PermChange) → IsOfUser asked → HasShortRole asked → IsByRules asked → (answer : PermsAnswer) (kept : PermsKept) → kept_of answer ≡ Some kept → Asks there new user declared asked answer
      → IsDueBehind hub.admin hub.log (Permitted user repo asked kept)
  change_due names asked of_user short by_rules answer kept keeps asks = λ ps ok.
      let by = by_rules ps ok in
      (names, of_user, short, (by.0, by.1, asked_due there new user declared asked answer kept keeps asks ∙ ap (λ (b : Bool). answer_to_change there user b asked) by.2))

  pub change_step : (asked : PermChange) (answer : PermsAnswer) (kept : PermsKept) → kept_of answer ≡ Some kept → Asks there new user declared asked answer
      → step (history hub.admin hub.log) (Permitted user repo asked kept) ≡ stored (placed_in (state_of hub).repositories (put_of repo (repository_at (state_of hub) repo) new kept)) (state_of hub).conf
  change_step asked answer Changed keeps asks =
      ap (λ (w : WildView). stored (insert (state_of hub).repositories repo (record (repository_at (state_of hub) repo) { creator = w.creator; roles = w.roles })) (state_of hub).conf) (sym (asked_changes there new user declared asked answer keeps asks))
  change_step asked answer AlreadySo keeps asks = refl
  change_step asked answer NotWild keeps asks = refl
  change_step asked answer NotCreator keeps asks = refl
  change_step asked answer NoSuchRole keeps asks = refl
  change_step asked answer Listed keeps asks = refl

  pub change_answers : (asked : PermChange) (answer : PermsAnswer) → Asks there new user declared asked answer → AnswersChange hub repo answer
  change_answers (change.Grant role whom) (perms.Listed roles) asks = absurd (refusal_unlisted there user declared roles asks.0)
  change_answers (change.Revoke role whom) (perms.Listed roles) asks = absurd (refusal_unlisted there user declared roles asks.0)
  change_answers change.List (perms.Listed roles) asks = asks.0.1
  change_answers asked perms.Changed asks = tt
  change_answers asked perms.AlreadySo asks = tt
  change_answers asked perms.NotWild asks = tt
  change_answers asked perms.NotCreator asks = tt
  change_answers asked perms.NoSuchRole asks = tt
  change_answers asked perms.NoMemory asks = tt
