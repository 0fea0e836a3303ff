use Rattle.std.proofs.Common.{◌<◌, ap, arith, length, sym}
use Rattle.std.proofs.lemmas.List.{length-map}
use Rattle.std.specs.Prelude.{is_some, map, string_bytes}
use Rattle.shell_words.specs.Given.{given_of}
use Rattle.shell_words.specs.declared.commands.Transport.TheVariants.{Git, Http}
use Rattle.shell_words.proofs.CommandLemmas.{serve_of_three-more}
use Rattle.shell_words.proofs.spelling.is_serve.Goals as goal

pub returns-in-len1-up-clause-git : goal.returns-in-len1-up-clause-git
returns-in-len1-up-clause-git c =
    let more : 0 < length (map string_bytes c.in-Some-first_option-2.third.rest.now) = omega (arith, length-map c.in-Some-first_option-2.third.rest.now string_bytes, c.in-len1-up.len_at_least) in
    rw (c.in-Some.ensures.some, c.in-Some-first_option.ensures.some, c.in-Some-first_option-2.ensures.some) (sym (ap is_some (serve_of_three-more Git (given_of c.in-Some.first) (given_of c.in-Some-first_option.second) (given_of c.in-Some-first_option-2.third) _ more)))

pub returns-in-len1-up-clause-http : goal.returns-in-len1-up-clause-http
returns-in-len1-up-clause-http c =
    let more : 0 < length (map string_bytes c.in-Some-first_option-2.third.rest.now) = omega (arith, length-map c.in-Some-first_option-2.third.rest.now string_bytes, c.in-len1-up.len_at_least) in
    rw (c.in-Some.ensures.some, c.in-Some-first_option.ensures.some, c.in-Some-first_option-2.ensures.some) (sym (ap is_some (serve_of_three-more Http (given_of c.in-Some.first) (given_of c.in-Some-first_option.second) (given_of c.in-Some-first_option-2.third) _ more)))
