use Rattle.std.proofs.Common.{◌≡◌, List, ℕ, true, sym, ◌∙◌, ap, subst, Result, Ok}
use Rattle.conf_lex.specs.Names.{is_user_name}
use Rattle.rule_compile.specs.Flat.{Flat, flat}
use Rattle.rule_compile.specs.declared.fault.PolicyFault.{PolicyFault}
use Rattle.setup_conf.specs.Setup.{setup_files, setup_flat}
use Rattle.hub_history.specs.Conf.{AreInForce}
use Rattle.hub_state.specs.Held.{conf_of}
use Rattle.hub_state.specs.declared.conf.Held.{Held}
use Rattle.hub_state.proofs.conf.ConfInForce.setup.Goals as goal

pub invariant_of-result : goal.invariant_of-result
invariant_of-result c = λ ps ok.
    let named : is_user_name c.args.admin.now ≡ true = subst (λ (n : List ℕ). is_user_name n ≡ true) c.bytes-name.ensures.bytes c.bytes-name.ensures.rule in
    let law : flat ps (setup_files c.args.admin.now) ≡ Ok (setup_flat c.args.admin.now) = c.hold_laws.ensures.rules ps ok c.args.admin.now named in
    subst (λ (h : Held). AreInForce ps (conf_of h) h.policy) (sym c.in_ok-new.ensures.ok)
    (ap ok_of c.in_ok-setup_policy.ensures ∙ sym law ∙ ap (λ (n : List ℕ). flat ps (setup_files n)) (sym c.in_ok-clone.ensures.cases))
  where
    ok_of : Flat → Result Flat PolicyFault
    ok_of p = Ok p
