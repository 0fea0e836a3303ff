use Rattle.std.proofs.Common.{◌∙◌, ◌++◌, List, ℕ, ap, append_assoc, codes}
use Rattle.rule_compile.specs.Faults.{policy_text}
use Rattle.session_core.specs.Denials.{shown}
use Rattle.receive_pack.proofs.text.push_conf_fault.Goals as goal

pub returns-clause-text : goal.returns-clause-text
returns-clause-text c =
    let second = rw (c.shown.ensures.value, c.bytes.ensures, c.in-Ok.ensures) at c.in_ok-extend_from_slice-2.ensures.items in
    second ∙ ap (λ (l : List ℕ). l ++ shown (policy_text c.args.fault.now)) c.in_ok-extend_from_slice.ensures.items ∙ append_assoc c.args.text.now.items (codes "conf refused: ") (shown (policy_text c.args.fault.now))
