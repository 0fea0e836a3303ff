use Rattle.std.proofs.Common.{List, false, sym, ap, ◌∙◌}
use Rattle.std.specs.Option.{option_copied}
use Rattle.rule_compile.specs.Index.{OptionWord, last_on}
use Rattle.rule_compile.specs.RoleOptions.{kept_at, role_words}
use Rattle.rule_compile.specs.Roles.{is_mentioned}
use Rattle.rule_compile.proofs.RoleLemmas.{declared_by, kept_nothing, kept_words}
use Rattle.rule_compile.proofs.role_options.RoleOptions.declares.Goals as goal

pub returns-in-Some : goal.returns-in-Some
returns-in-Some c = λ ps ok lines are.
    let word = c.args.word.now in
    let has = kept_words (kept_at c.args.self.now.table word) c.in-Some.kept.now (role_words lines word) (is_mentioned lines word) (sym c.get.ensures.value ∙ ap option_copied c.in-Some.is) (are.kept word) in
    declared_by ps lines word c.args.repo.now (option_copied c.args.creator) c.is_in_force.result (sym c.is_common_role.ensures ∙ c.if-is_common_role.false) (c.is_in_force.ensures ps ok (role_words lines word) has.0)

pub returns-in-None : goal.returns-in-None
returns-in-None c = λ ps ok lines are.
    let word = c.args.word.now in
    let has = kept_nothing (kept_at c.args.self.now.table word) (role_words lines word) (is_mentioned lines word) (sym c.get.ensures.value ∙ ap option_copied c.in-None.is) (are.kept word) in
    declared_by ps lines word c.args.repo.now (option_copied c.args.creator) false (sym c.is_common_role.ensures ∙ c.if-is_common_role.false)
    (sym (ap (λ (ws : List OptionWord). last_on ps c.args.repo.now (option_copied c.args.creator) false ws) has.0))
