use Rattle.std.proofs.Common.{◌∙◌, ap, subst, sym}
use Rattle.std.specs.Prelude.{Option}
use Rattle.clap.specs.Words.{found_of}
use Rattle.shell_words.specs.Commands.{Reads}
use Rattle.shell_words.specs.Matches.{command_of}
use Rattle.shell_words.specs.declared.commands.Asked.{Asked}
use Rattle.shell_words.proofs.MatchLemmas.{by-rows, none-found, pair-is}
use Rattle.shell_words.proofs.matches.command_in.Goals as goal

pub returns-in_default-clause-reads : goal.returns-in_default-clause-reads
returns-in_default-clause-reads c = none-found _ c.in_default.ensures.rows

pub returns-clause-reads : goal.returns-clause-reads
returns-clause-reads c =
    let found = pair-is _ _ _ _ _ c.in-Some.ensures.name c.in-Some.ensures.rows in
    subst (λ (o : Option Asked). Reads o c.command_by.result) (by-rows (found_of c.in-Some.given.now) c.in-Some.name.now ∙ ap command_of (sym found)) c.command_by.ensures.reads
