use Rattle.setup_conf.specs.Setup.{setup_flat}
use Rattle.setup_conf.proofs.CompiledLemmas.{files_come_to_rules}
use Rattle.setup_conf.proofs.setup.setup_policy.Goals as goal

pub compile_faultless-requires : goal.compile_faultless-requires
compile_faultless-requires c = (setup_flat c.args.admin.now, files_come_to_rules c.args.admin.now c.bytes-rule.result.now c.in_ok-files.files c.bytes-rule.ensures.bytes c.bytes-rule.ensures.rule c.in_ok-files.ensures)

pub returns : goal.returns
returns c = c.compile_faultless.ensures (setup_flat c.args.admin.now) (files_come_to_rules c.args.admin.now c.bytes-rule.result.now c.in_ok-files.files c.bytes-rule.ensures.bytes c.bytes-rule.ensures.rule c.in_ok-files.ensures)
