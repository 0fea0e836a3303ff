use Rattle.std.proofs.Common.{refl}
use Rattle.rule_compile.proofs.RoleLemmas.{table_with}
use Rattle.rule_compile.proofs.role_options.RoleOptions.put.Goals as goal

pub returns : goal.returns
returns c = λ words h. record {
  more = c.in_ok-kept.kept;
  option = c.in_ok-kept.ensures words h;
  names = refl;
  kept = table_with c.args.self.table c.insert.new.self c.in_ok-to_vec.field-0 c.args.word.now c.in_ok-kept.kept (c.in_ok-to_vec.ensures.items_if_clones_equal (λ x y e. e)) c.in_ok-insert.ensures.entries;
}
