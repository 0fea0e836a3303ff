use Rattle.std.proofs.Common.{◌<◌, ap, arith, length, sym}
use Rattle.std.proofs.lemmas.List.{length-map}
use Rattle.std.specs.Prelude.{is_some, map, string_bytes}
use Rattle.std.specs.Option.{option_map}
use Rattle.shell_words.specs.declared.commands.Asked.TheVariants.{Script, Keep}
use Rattle.shell_words.proofs.CommandLemmas.{admin_with-more}
use Rattle.shell_words.proofs.spelling.is_admin.Goals as goal

pub returns-in-len1-up-clause-script : goal.returns-in-len1-up-clause-script
returns-in-len1-up-clause-script c =
    let more : 0 < length (map string_bytes c.in-Some.option.rest.now) = omega (arith, length-map c.in-Some.option.rest.now string_bytes, c.in-len1-up.len_at_least) in
    rw c.in-Some.ensures.some (sym (ap (λ o. is_some (option_map Script o)) (admin_with-more _ _ _ more)))

pub returns-in-len1-up-clause-keep : goal.returns-in-len1-up-clause-keep
returns-in-len1-up-clause-keep c =
    let more : 0 < length (map string_bytes c.in-Some.option.rest.now) = omega (arith, length-map c.in-Some.option.rest.now string_bytes, c.in-len1-up.len_at_least) in
    rw c.in-Some.ensures.some (sym (ap (λ o. is_some (option_map Keep o)) (admin_with-more _ _ _ more)))
