use Rattle.std.proofs.Common.{◌≡◌, Some, rules}
use Rattle.access_report.proofs.RoleLemmas.{role_given, role_held}
use Rattle.access_report.proofs.reading.add_role.Goals as goal

pub returns-in-Changed : goal.returns-in-Changed
returns-in-Changed c =
    let created : c.args.repo.now.wild.creator ≡ Some c.in_ok-creator.creator = search rules in
    let grants = rw c.in-Changed.is at c.grant.ensures in
    role_given c.args.repo.now c.in_ok-creator.creator c.args.role.now c.args.user.now created c.grant.new.self grants

pub returns : goal.returns
returns c =
    let created : c.args.repo.now.wild.creator ≡ Some c.in_ok-creator.creator = search rules in
    role_held c.args.repo.now c.in_ok-creator.creator c.args.role.now c.args.user.now created c.grant.new.self c.grant.result c.grant.ensures c.in_default-grant.not-Changed c.in_default-grant.not-NoMemory
