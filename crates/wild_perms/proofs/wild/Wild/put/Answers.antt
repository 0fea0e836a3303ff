use Rattle.std.proofs.Common.{◌≡◌, ℕ, List, ◌∷◌, ◌++◌, take, drop, sym, ◌∙◌, ap, ap₂, subst}
use Rattle.wild_perms.specs.Places.{IsGap}
use Rattle.wild_perms.specs.Roles.{IsRoleSet, WildView, with_entry}
use Rattle.wild_perms.specs.declared.role.RoleEntry.{RoleEntry}
use Rattle.wild_perms.proofs.RoleLemmas.{put_is, set_put}
use Rattle.wild_perms.proofs.wild.Wild.put.Goals as goal

pub invariant_of-self-2 : goal.invariant_of-self-2
invariant_of-self-2 c =
    let entry : RoleEntry = record { role = c.in_ok-role.role; user = c.in_ok-user.user } in
    let same : record { role = c.args.role.now; user = c.args.user.now } ≡ entry = ap₂ (λ (r u : List ℕ). record { role = r; user = u }) (sym c.in_ok-role.ensures) (sym c.in_ok-user.ensures.cases) in
    let roles : c.args.self.now.roles ≡ c.self.inside.entries.items = sym (ap (λ (v : WildView). v.roles) c.self.view_is) in
    let gap : IsGap c.self.inside.entries.items entry c.args.at = subst (λ (l : List RoleEntry). IsGap l entry c.args.at) roles (subst (λ (e : RoleEntry). IsGap c.args.self.now.roles e c.args.at) same c.requires) in
    subst IsRoleSet (sym c.in_ok-insert.ensures.items) (set_put c.self.inside.entries.items entry c.args.at c.self.invariant gap)

pub returns-clause-ok : goal.returns-clause-ok
returns-clause-ok c =
    let entry : RoleEntry = record { role = c.in_ok-role.role; user = c.in_ok-user.user } in
    let same : entry ≡ record { role = c.args.role.now; user = c.args.user.now } = ap₂ (λ (r u : List ℕ). record { role = r; user = u }) c.in_ok-role.ensures c.in_ok-user.ensures.cases in
    let roles : c.self.inside.entries.items ≡ c.args.self.now.roles = ap (λ (v : WildView). v.roles) c.self.view_is in
    let is : c.insert.new.self.items ≡ with_entry c.args.self.now.roles (record { role = c.args.role.now; user = c.args.user.now }) =
    c.in_ok-insert.ensures.items
    ∙ ap₂ (λ (l : List RoleEntry) (e : RoleEntry). take c.args.at l ++ e ∷ drop c.args.at l) roles same
    ∙ put_is c.args.self.now.roles (record { role = c.args.role.now; user = c.args.user.now }) c.args.at c.requires in
    ap₂ (λ (o : _) (l : List RoleEntry). record { creator = o; roles = l }) (ap (λ (v : WildView). v.creator) c.self.view_is) is
