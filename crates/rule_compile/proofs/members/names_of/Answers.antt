use Rattle.std.proofs.Common.{◌∙◌}
use Rattle.rule_compile.proofs.MemberLemmas.{member_more, no_members}
use Rattle.rule_compile.proofs.members.names_of.Goals as goal

pub loop-member-init : goal.loop-member-init
loop-member-init c = no_members _ c.new-names.ensures.empty

pub loop-member-preserved : goal.loop-member-preserved
loop-member-preserved c = member_more _ _ c.args.list.now c.loop-member.member-index c.member-item.result c.in_ok-to_vec.field-0 c.loop-member.invariant c.loop-member-test.true c.member-item.is (c.in_ok-to_vec.ensures.items_if_clones_equal (λ x y e. e) ∙ c.bytes.ensures) c.in_ok-insert.ensures.keys
