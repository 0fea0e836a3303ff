use Rattle.std.proofs.Common.{◌∙◌, ap, map, rules, string_bytes, subst}
use Rattle.std.specs.Prelude.{Option}
use Rattle.shell_words.specs.Commands.{Reads, asked}
use Rattle.shell_words.specs.Matches.{command_of}
use Rattle.shell_words.specs.declared.commands.Asked.{Asked}
use Rattle.shell_words.proofs.MatchLemmas.{command-found, command-takes, none-is, program-simple}
use Rattle.shell_words.proofs.commands.read_words.Goals as goal

pub returns-then-not-is_command-clause-reads : goal.returns-then-not-is_command-clause-reads
returns-then-not-is_command-clause-reads c = none-is (asked (map string_bytes c.args.words.now)) (search rules)

pub matches_of-requires : goal.matches_of-requires
matches_of-requires c = command-takes (map string_bytes c.args.words.now) (search rules)

pub returns-clause-reads : goal.returns-clause-reads
returns-clause-reads c =
    subst (λ (o : Option Asked). Reads o c.command_in.result) (ap command_of (c.in-Ok.ensures.ok program-simple).1 ∙ command-found (map string_bytes c.args.words.now) (search rules)) c.command_in.ensures.reads
