use Rattle.hub_history.specs.State.{store_of}
use Rattle.upload_pack.proofs.OrderLemmas.{order_uploading, wanting_ordered}
use Rattle.upload_pack.proofs.SendingLemmas.{links_have, reached_by, reached_then}
use Rattle.upload_pack.proofs.WholeLemmas.{clone_whole, fetch_whole}
use Rattle.upload_pack.proofs.laws.hold_laws.Goals as goal

pub returns-clause-reached : goal.returns-clause-reached
returns-clause-reached c = λ objects roots id. (reached_then objects roots id, reached_by objects roots id)

pub returns-clause-links : goal.returns-clause-links
returns-clause-links c = links_have

pub returns-clause-fetches : goal.returns-clause-fetches
returns-clause-fetches c = λ repository wants haves whole none id is. fetch_whole repository whole wants haves none id is

pub returns-clause-clones : goal.returns-clause-clones
returns-clause-clones c = λ repository wants whole none id is. clone_whole repository whole wants none id is

pub returns-clause-ordered : goal.returns-clause-ordered
returns-clause-ordered c = λ opening offset. (order_uploading opening offset, wanting_ordered (store_of opening.pinned.repository) offset)
