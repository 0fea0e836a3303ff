use Rattle.std.proofs.Common.{refl, sym, ◌∙◌}
use Rattle.wild_perms.specs.declared.role.RoleEntry.{RoleEntry}
use Rattle.wild_perms.proofs.RoleLemmas.{gap_found, held_found, not_held}
use Rattle.wild_perms.proofs.wild.Wild.grant.Goals as goal

pub put-requires : goal.put-requires
put-requires c = gap_found c.args.self.now.roles (record { role = c.args.role.now; user = c.args.user.now }) c.in-Err.at c.in-Err.ensures.set c.in-Err.ensures.bound c.in-Err.ensures.position

pub returns-in-Ok : goal.returns-in-Ok
returns-in-Ok c = (sym c.refusal.ensures ∙ c.in_default.is, held_found c.args.self.now.roles (record { role = c.args.role.now; user = c.args.user.now }) c.in-Ok.field-0 c.in-Ok.ensures.bound c.in-Ok.ensures.position, refl)

pub returns-in-Ok-put : goal.returns-in-Ok-put
returns-in-Ok-put c =
    let entry : RoleEntry = record { role = c.args.role.now; user = c.args.user.now } in (
      sym c.refusal.ensures ∙ c.in_default.is,
      not_held c.args.self.now.roles entry c.in-Err.at (gap_found c.args.self.now.roles entry c.in-Err.at c.in-Err.ensures.set c.in-Err.ensures.bound c.in-Err.ensures.position),
      c.in-Ok-put.ensures.ok,
    )

pub returns-in-Err-put : goal.returns-in-Err-put
returns-in-Err-put c =
    let entry : RoleEntry = record { role = c.args.role.now; user = c.args.user.now } in (
      sym c.refusal.ensures ∙ c.in_default.is,
      not_held c.args.self.now.roles entry c.in-Err.at (gap_found c.args.self.now.roles entry c.in-Err.at c.in-Err.ensures.set c.in-Err.ensures.bound c.in-Err.ensures.position),
      c.in-Err-put.ensures.err,
    )
