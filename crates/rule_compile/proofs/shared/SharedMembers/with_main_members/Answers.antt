use Rattle.std.proofs.Common.{rules}
use Rattle.rule_compile.proofs.SharedLemmas.{main_with}
use Rattle.rule_compile.proofs.shared.SharedMembers.with_main_members.Goals as goal

pub returns : goal.returns
returns c = λ placed h e. main_with c.args.self.main c.insert.new.self c.args.self.subs placed c.args.group.now c.args.members h e (search rules)
