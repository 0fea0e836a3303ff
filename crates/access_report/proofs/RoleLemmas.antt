-- A role that is given to a user.
use Rattle.std.proofs.Common.{◌≡◌, ◌∙◌, ℕ, Bool, true, false, List, Contains, Option, Some, None, ap, refl, sym}
use Rattle.std.specs.Prelude.{if◌then◌else◌}
use Rattle.std.specs.Str.{bytes_eq}
use Rattle.std.proofs.lemmas.Bool.{both_ways}
use Rattle.std.proofs.lemmas.Slice.Eq.{bytes_eq-Decides}
use Rattle.access_check.proofs.UserLemmas.{role_is}
use Rattle.wild_perms.specs.Answers.{Grants, refusal}
use Rattle.wild_perms.specs.Roles.{WildView, with_entry}
use Rattle.wild_perms.specs.declared.answer.PermsAnswer.{PermsAnswer}
use Rattle.wild_perms.specs.declared.answer.PermsAnswer.TheVariants.{Changed, AlreadySo, NotWild, NotCreator, NoSuchRole, Listed, NoMemory}
use Rattle.wild_perms.specs.declared.role.RoleEntry.{RoleEntry}
use Rattle.access_report.specs.Reading.{has_role, with_role}
use Rattle.access_report.specs.declared.lists.AskedRepo.{AskedRepo}

abbrev entry_of : List ℕ → List ℕ → RoleEntry
entry_of role user = record { role = role; user = user }

holds_not : (roles : List RoleEntry) (role user : List ℕ) → ¬ Contains roles (entry_of role user) → has_role roles role user ≡ false
holds_not roles role user none = sym (role_is roles role user false ((λ is. absurd (both_ways false refl is)), (λ there. absurd (none there))))

holds_it : (roles : List RoleEntry) (role user : List ℕ) → Contains roles (entry_of role user) → has_role roles role user ≡ true
holds_it roles role user there = sym (role_is roles role user true ((λ is. there), (λ more. refl)))

module _ (repo : AskedRepo) (creator role user : List ℕ) (created : repo.wild.creator ≡ Some creator) where
  abbrev wild_with : WildView
  wild_with = record { creator = Some creator; roles = with_entry repo.wild.roles (entry_of role user) }

  given : (b : Bool) → has_role repo.wild.roles role user ≡ b → with_role repo role user ≡ (if b then None else Some (record repo { wild = wild_with }))
  given b has = rw (created, has) refl

  -- it is new
  pub role_given : (new : WildView) → Grants repo.wild new creator (entry_of role user) true Changed → with_role repo role user ≡ Some (record repo { wild = new })
  role_given new grants =
      let same : wild_with ≡ new = ap (λ (c : Option (List ℕ)). let w : WildView = record { creator = c; roles = with_entry repo.wild.roles (entry_of role user) } in w) (sym created) ∙ sym grants.2 in
      given false (holds_not repo.wild.roles role user grants.1) ∙ ap (λ (w : WildView). Some (let r : AskedRepo = record repo { wild = w } in r)) same

  -- the creator isn't refused
  not_refused : (answer : PermsAnswer) → refusal repo.wild creator true ≡ Some answer → ⊥
  not_refused answer is =
      let same : bytes_eq creator creator ≡ true = (bytes_eq-Decides creator creator).1 refl in
      let none : refusal repo.wild creator true ≡ None = rw (created, same) refl in
      cc

  -- it isn't, or nobody created the repository
  pub role_held : (new : WildView) (answer : PermsAnswer) → Grants repo.wild new creator (entry_of role user) true answer → ¬ (answer ≡ Changed) → ¬ (answer ≡ NoMemory) → with_role repo role user ≡ None
  role_held new Changed grants other more = absurd (other refl)
  role_held new NoMemory grants other more = absurd (more refl)
  role_held new AlreadySo grants other more = given true (holds_it repo.wild.roles role user grants.1)
  role_held new NotWild grants other more = absurd (not_refused NotWild grants.0)
  role_held new NotCreator grants other more = absurd (not_refused NotCreator grants.0)
  role_held new NoSuchRole grants other more = absurd (not_refused NoSuchRole grants.0)
  role_held new (Listed roles) grants other more = absurd (not_refused (Listed roles) grants.0)
