use Rattle.std.proofs.Common.{◌∙◌, ap, sym}
use Rattle.conf_lex.specs.Names.{is_user_name}
use Rattle.stored_hub.proofs.StoredLemmas.{first_legal}
use Rattle.stored_hub.proofs.calls.StoredHubEventHub.sound.Goals as goal

pub returns : goal.returns
returns g c = record {
  named = sym (ap is_user_name (c.bytes-name.ensures.bytes ∙ c.admin.ensures ∙ c.conf.ensures.admin)) ∙ c.bytes-name.ensures.rule;
  legal = first_legal c.args.self.now.hub.admin c.args.self.now.hub.log c.args.self.now.stored c.log-log.ensures.legal;
}
