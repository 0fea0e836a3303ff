use Rattle.std.proofs.lemmas.Bool.Decides.{same_from_decides}
use Rattle.conf_lex.specs.Names.{occurs}
use Rattle.conf_lex.proofs.ByteLemmas.{found_occurs, occurs_found, part_reads, reads_part, StandsIn}
use Rattle.rule_compile.proofs.words.occurs.Goals as goal

pub returns : goal.returns
returns c =
    let part = c.args.part.now in
    let text = c.args.text.now in
    same_from_decides c.contains_str.result (occurs part text) c.contains_str.ensures (
      (λ found. let there : StandsIn part text = found_occurs part text found in (there.0, part_reads part text there.0 there.1 there.2)),
      (λ there. occurs_found part text there.0 c.requires there.1.fits (reads_part part text there.0 there.1)),
    )
