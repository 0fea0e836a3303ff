use Rattle.event_record.proofs.NameLemmas.{no_repo, a_repo}
use Rattle.event_record.proofs.fields.repo_at.Goals as goal

pub returns-in_default : goal.returns-in_default
returns-in_default c = no_repo c.args.bytes.now c.in_ok-text.text.now c.in_ok-text.rest.now c.in_ok-repo.field-0 c.in_ok-text.ensures c.in_ok-repo.ensures c.in_default.is

pub returns : goal.returns
returns c = a_repo c.args.bytes.now c.in_ok-text.text.now c.in_ok-text.rest.now c.in-Some.repo c.in_ok-repo.field-0 c.in_ok-text.ensures c.in_ok-repo.ensures c.in-Some.is
