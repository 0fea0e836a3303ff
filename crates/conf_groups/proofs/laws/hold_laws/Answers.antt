use Rattle.conf_groups.proofs.PlainLemmas.{plain_conf}
use Rattle.conf_groups.proofs.OnceLemmas.{each_file_once}
use Rattle.conf_groups.proofs.OrderLemmas.{order_has_no_effect}
use Rattle.conf_groups.proofs.MemberLemmas.{members_are_those}
use Rattle.conf_groups.proofs.laws.hold_laws.Goals as goal

pub returns-clause-plain : goal.returns-clause-plain
returns-clause-plain c = plain_conf

pub returns-clause-once : goal.returns-clause-once
returns-clause-once c = each_file_once

pub returns-clause-order : goal.returns-clause-order
returns-clause-order c = order_has_no_effect

pub returns-clause-members : goal.returns-clause-members
returns-clause-members c = members_are_those
