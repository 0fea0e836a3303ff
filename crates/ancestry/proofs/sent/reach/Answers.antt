use Rattle.std.proofs.Common.{List, sym, subst}
use Rattle.std.proofs.lemmas.Result.{IfOk-weaker}
use Rattle.git_object.specs.Content.{Content}
use Rattle.ref_store.specs.Objects.{HasNamesOnce}
use Rattle.ancestry.specs.declared.runs.Run.{Run}
use Rattle.ancestry.specs.Closures.{Closes}
use Rattle.ancestry.specs.Sent.{AreSent}
use Rattle.ancestry.proofs.ClosureLemmas.{closed_of, once_first, sent_of}
use Rattle.ancestry.proofs.sent.reach.Goals as goal

pub closed-requires-2-clause-closed : goal.closed-requires-2-clause-closed
closed-requires-2-clause-closed c =
    closed_of c.new-front.result c.args.haves.now c.in_ok-had.had (subst (λ (runs : List Run). Closes c.new-front.result c.args.haves.now runs c.in_ok-had.had) c.none-none.ensures c.in_ok-had.ensures)

pub returns : goal.returns
returns c =
    IfOk-weaker c.outside.result _ _
    (λ places are.
    subst (λ (os : List Content). AreSent os c.args.wants.now c.args.haves.now places.items) c.new-front.ensures
    (sent_of c.new-front.result (subst HasNamesOnce (sym c.new-front.ensures) (once_first c.args.repo.now.objects c.args.first_k c.count-count.ensures.names)) c.args.wants.now c.args.haves.now c.in_ok-had.had c.in_ok-wanted.wanted places.items
    (subst (λ (runs : List Run). Closes c.new-front.result c.args.haves.now runs c.in_ok-had.had) c.none-none.ensures c.in_ok-had.ensures) c.in_ok-wanted.ensures are)) c.outside.ensures
