use Rattle.std.proofs.Common.{◌≡◌, suc, List, ◌++◌, take, drop, refl, sym, ◌∙◌, ap, ap₂, subst}
use Rattle.wild_perms.specs.Roles.{IsRoleSet, WildView, without_entry}
use Rattle.wild_perms.specs.declared.role.RoleEntry.{RoleEntry}
use Rattle.wild_perms.proofs.RoleLemmas.{gap_found, held_found, not_held, set_taken, taken_is}
use Rattle.wild_perms.proofs.wild.Wild.revoke.Goals as goal

pub invariant_of-self : goal.invariant_of-self
invariant_of-self c = subst IsRoleSet (sym c.remove-taken.ensures.items) (set_taken c.self.inside.entries.items c.in-Ok.at c.self.invariant)

pub returns-in-Ok : goal.returns-in-Ok
returns-in-Ok c =
    let entry : RoleEntry = record { role = c.args.role.now; user = c.args.user.now } in
    let roles : c.self.inside.entries.items ≡ c.args.self.now.roles = ap (λ (v : WildView). v.roles) c.self.view_is in
    let is : c.remove-taken.new.self.items ≡ without_entry c.args.self.now.roles entry =
    c.remove-taken.ensures.items
    ∙ ap (λ (l : List RoleEntry). take c.in-Ok.at l ++ drop (suc c.in-Ok.at) l) roles
    ∙ taken_is c.args.self.now.roles entry c.in-Ok.at c.in-Ok.ensures.set c.in-Ok.ensures.bound (c.in-Ok.ensures.position entry) in (
      sym c.refusal.ensures ∙ c.in_default.is,
      held_found c.args.self.now.roles entry c.in-Ok.at c.in-Ok.ensures.bound c.in-Ok.ensures.position,
      ap₂ (λ (o : _) (l : List RoleEntry). record { creator = o; roles = l }) (ap (λ (v : WildView). v.creator) c.self.view_is) is,
    )

pub returns-in-Err : goal.returns-in-Err
returns-in-Err c =
    let entry : RoleEntry = record { role = c.args.role.now; user = c.args.user.now } in (
      sym c.refusal.ensures ∙ c.in_default.is,
      not_held c.args.self.now.roles entry c.in-Err.field-0 (gap_found c.args.self.now.roles entry c.in-Err.field-0 c.in-Err.ensures.set c.in-Err.ensures.bound c.in-Err.ensures.position),
      refl,
    )
