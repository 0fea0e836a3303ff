-- The laws of verdicts.
use Rattle.std.proofs.Common.{◌≡◌, List, [], ◌∷◌, Bool, true, false, cond, ◌&&◌, ◌||◌, Option, Some, refl, ap}
use Rattle.std.specs.Prelude.{if◌then◌else◌}
use Rattle.std.specs.List.{find}
use Rattle.rule_compile.specs.Covering.{may_cover}
use Rattle.rule_compile.specs.declared.rule.Rule.{Rule}
use Rattle.access_check.specs.Laws.{OnlyRulesForItDecide, VerdictsNameTheirRules}
use Rattle.access_check.specs.Letters.{grants}
use Rattle.access_check.specs.Questions.{AllLead, Leads}
use Rattle.access_check.specs.Verdicts.{asks_vref, creates, creating_decides, decides, deny_rules_count, is_of_vref, opening_decides, opens, rule_of, verdict_of}
use Rattle.access_check.specs.declared.verdicts.Verdict.TheVariants as verdict
use Rattle.access_check.proofs.RuleLemmas.{any_kept, asks_some, find_kept, flags_kept, rules_lead}

pub only_rules_for_it : OnlyRulesForItDecide
only_rules_for_it = record {
  change = λ ps rules a letter name.
      ap verdict_of (find_kept (decides ps a letter name) (λ (rule : Rule). may_cover a.repo rule.repo)
      (λ rule other. asks_some ps a (λ (r : Rule). ps.starts r.refex a.user name && (r.perm.deny || grants r.perm letter)) rule other) rules);
  opening = λ ps flat a want.
      ap verdict_of (find_kept (opening_decides ps a (deny_rules_count ps flat a) want) (λ (rule : Rule). may_cover a.repo rule.repo)
      (λ rule other. asks_some ps a (λ (r : Rule). if r.perm.deny then deny_rules_count ps flat a else opens r.perm want) rule other) flat.rules);
  creating = λ ps flat a.
      ap verdict_of (find_kept (creating_decides ps a (deny_rules_count ps flat a)) (λ (rule : Rule). may_cover a.repo rule.repo)
      (λ rule other. asks_some ps a (λ (r : Rule). if r.perm.deny then deny_rules_count ps flat a else creates r) rule other) flat.rules);
  virtual = λ ps rules a which.
      any_kept (asks_vref ps a which) (λ (rule : Rule). may_cover a.repo rule.repo) (λ rule other. asks_some ps a (λ (r : Rule). is_of_vref which r.refex) rule other) rules;
  flags = flags_kept;
}

-- what the first rule that meets a test is
all_of : (rules : List Rule) (b : Bool) (rule : Rule) (found : Option Rule) → Leads rules rule → rule_of rules (verdict_of found) ≡ found
    → rule_of rules (verdict_of (cond b (Some rule) found)) ≡ cond b (Some rule) found
all_of rules true rule found leads same = by_perm rule.perm.deny
  where
    by_perm : (deny : Bool) → rule_of rules (if deny then verdict.DeniedBy rule.seq else verdict.Allowed rule.seq) ≡ Some rule
    by_perm true = leads
    by_perm false = leads
all_of rules false rule found leads same = same

found_named : (all rules : List Rule) (test : Rule → Bool) → AllLead all rules → rule_of all (verdict_of (find test rules)) ≡ find test rules
found_named all [] test lead = refl
found_named all (r ∷ rs) test lead = all_of all (test r) r (find test rs) lead.0 (found_named all rs test lead.1)

pub verdicts_name_rules : VerdictsNameTheirRules
verdicts_name_rules = record { named = λ rules test are. found_named rules rules test (rules_lead rules are) }
