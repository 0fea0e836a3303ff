use Rattle.shell_program.proofs.AgreeLemmas.{loads_agree, scripts_agree}
use Rattle.shell_program.proofs.laws.hold_laws.Goals as goal

pub returns-clause-scripts : goal.returns-clause-scripts
returns-clause-scripts c =
    scripts_agree c.hold_laws-2.ensures.there c.turns_hold.ensures.answers c.hold_laws.ensures.one c.hold_laws.ensures.places c.some_patterns_are_true.ensures.0 c.some_patterns_are_true.ensures.1 c.scripts_differ.ensures

pub returns-clause-loads : goal.returns-clause-loads
returns-clause-loads c = loads_agree c.hold_laws-2.ensures.there c.turns_hold.ensures.answers c.hold_laws.ensures.one c.hold_laws.ensures.places c.some_patterns_are_true.ensures.0 c.some_patterns_are_true.ensures.1
