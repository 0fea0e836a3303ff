use Rattle.std.proofs.Common.{List, [], ◌∷◌, ◌++◌, sym, ap, ◌∙◌, subst}
use Rattle.rule_compile.specs.Index.{OptionWord}
use Rattle.rule_compile.specs.OptionWords.{IsOption}
use Rattle.rule_compile.specs.RoleOptions.{kept_at, role_words}
use Rattle.rule_compile.specs.Roles.{is_mentioned}
use Rattle.rule_compile.proofs.RoleLemmas.{if_ok, kept_nothing, kept_words, name_more, name_there, set_role, table_without}
use Rattle.rule_compile.proofs.role_options.RoleOptions.with_role.Goals as goal

pub returns-in-Some : goal.returns-in-Some
returns-in-Some c = λ lines are.
    let word = c.args.word.now in
    let has = kept_words (kept_at c.args.self.table word) c.in-Some.kept (role_words lines word) (is_mentioned lines word) (sym c.in-Some.ensures.value) (are.kept word) in
    if_ok c.put.result (c.put.ensures (role_words lines word) has.0) (λ roles puts.
    set_role c.args.self _ roles lines c.args.line.now word are c.requires.key c.requires.role
    (table_without c.args.self.table c.remove.new.self word c.in-Some.ensures.entries)
    (name_there c.args.self.names word (are.names word ∙ has.1))
    puts)

pub returns-in_ok-push-in-None : goal.returns-in_ok-push-in-None
returns-in_ok-push-in-None c = λ lines are.
    let word = c.args.word.now in
    let has = kept_nothing (kept_at c.args.self.table word) (role_words lines word) (is_mentioned lines word) (sym c.in-None.ensures.value) (are.kept word) in
    let none = subst (λ (ws : List OptionWord). IsOption c.new-kept.result ws) (sym has.0) c.new-kept.ensures in
    if_ok c.put-in-None.result (c.put-in-None.ensures (role_words lines word) none) (λ roles puts.
    set_role c.args.self _ roles lines c.args.line.now word are c.requires.key c.requires.role
    (table_without c.args.self.table c.remove.new.self word c.in-None.ensures.entries)
    (name_more c.args.self.names c.push.new.self word (c.in_ok-push-in-None.ensures.ok ∙ ap (λ (t : List _). c.args.self.names ++ t ∷ []) c.in_ok-of-in-None.ensures))
    puts)
