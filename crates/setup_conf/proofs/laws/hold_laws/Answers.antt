use Rattle.setup_conf.proofs.CompiledLemmas.{setup_comes_to_rules}
use Rattle.setup_conf.proofs.laws.hold_laws.Goals as goal

pub returns : goal.returns
returns c = record { rules = setup_comes_to_rules }
