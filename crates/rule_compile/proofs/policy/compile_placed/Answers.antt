use Rattle.rule_compile.proofs.SoundLemmas.{given_is_sound}
use Rattle.rule_compile.proofs.policy.compile_placed.Goals as goal

pub returns-clause-sound : goal.returns-clause-sound
returns-clause-sound c =
    let answers = c.some_patterns_are_true.ensures in
    given_is_sound answers.0 answers.1 c.args.placed.now c.read_lines.result (c.read_lines.ensures answers.0 answers.1)
