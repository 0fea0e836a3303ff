use Rattle.std.proofs.Common.{rules}
use Rattle.rule_compile.proofs.SharedLemmas.{subs_with}
use Rattle.rule_compile.proofs.shared.SharedMembers.with_sub_members.Goals as goal

pub returns : goal.returns
returns c = λ placed h e. subs_with c.args.self.main c.take_groups-groups.result c.insert.new.self c.args.self.subs c.take_groups-groups.new.subs c.insert-2.new.self placed c.args.name.now c.args.group.now c.args.members h e
    (search rules) (search rules) (search rules) (search rules)
