use Rattle.repo_listing.proofs.LawLemmas.{created_listed, order_kept, patterns_listed, patterns_once, repos_listed}
use Rattle.repo_listing.proofs.laws.hold_laws.Goals as goal

pub returns-clause-repos : goal.returns-clause-repos
returns-clause-repos c = repos_listed

pub returns-clause-patterns : goal.returns-clause-patterns
returns-clause-patterns c = patterns_listed

pub returns-clause-once : goal.returns-clause-once
returns-clause-once c = patterns_once

pub returns-clause-order : goal.returns-clause-order
returns-clause-order c = order_kept

pub returns-clause-created : goal.returns-clause-created
returns-clause-created c = created_listed
