use Rattle.std.proofs.Common.{sym, ◌∙◌}
use Rattle.wild_perms.proofs.RoleLemmas.{held_iff}
use Rattle.wild_perms.proofs.wild.Wild.holds.Goals as goal

pub returns : goal.returns
returns c =
    let found = held_iff c.args.self.now.roles (record { role = c.args.role.now; user = c.args.user.now }) c.search.result c.search.ensures.set c.search.ensures.bound c.search.ensures.position in
    (λ is. found.0 (sym c.is_ok.ensures.value ∙ is), λ held. c.is_ok.ensures.value ∙ found.1 held)
