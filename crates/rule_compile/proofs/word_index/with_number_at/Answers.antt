use Rattle.std.proofs.Common.{◌∙◌}
use Rattle.std.specs.Str.{bytes_eq}
use Rattle.std.specs.HashMap.{get}
use Rattle.rule_compile.proofs.IndexLemmas.{or_nothing_is, table_with}
use Rattle.rule_compile.proofs.word_index.with_number_at.Goals as goal

pub returns : goal.returns
returns c = table_with c.args.table c.remove.new.self c.insert.new.self c.args.name.now c.in_ok-clone.field-0 c.unwrap_or-numbers.result c.push.new.self c.args.number c.remove.ensures.updates c.in_ok-insert.ensures.updates c.in_ok-clone.ensures.cases
    ((rw (c.remove.ensures.value, c.new.ensures) at c.unwrap_or-numbers.ensures) ∙ or_nothing_is (get bytes_eq c.args.table c.args.name.now))
    c.in_ok-push.ensures.ok
