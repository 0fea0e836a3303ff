use Rattle.std.proofs.Common.{◌≡◌, ◌∙◌, sym, ap, arith, ℕ, List}
use Rattle.std.specs.List.{sum_by}
use Rattle.std.specs.FinMap.{len}
use Rattle.ref_store.specs.Refs.{Name}
use Rattle.hub_history.specs.State.{Repository, State, ref_count}
use Rattle.hub_history.specs.History.{replay}
use Rattle.hub.specs.Hub.{HubView}
use Rattle.hub.proofs.NameLemmas.{sum-map_of}
use Rattle.hub.proofs.hub.Hub.ref_count.Goals as goal

abbrev refs : Name × Repository → ℕ
refs e = len e.1.refs

pub returns : goal.returns
unfolding ref_count
returns c =
    let total : sum_by refs c.self.inside.repositories.entries.entries ≡ ref_count (replay c.args.self.now.admin c.args.self.now.log) =
    sym (sum-map_of refs c.self.inside.repositories.entries.entries c.iter-hosted-items.ensures.unique)
    ∙ ap (λ (s : State). ref_count s) c.self.invariant.1
    ∙ ap (λ (v : HubView). ref_count (replay v.admin v.log)) c.self.view_is in
    let all : sum_by refs c.into_iter-hosted-iterator.result ≡ ref_count (replay c.args.self.now.admin c.args.self.now.log) =
    ap (λ (l : List (Name × Repository)). sum_by refs l) (c.into_iter-hosted-iterator.ensures.into_iter_gives ∙ c.iter-hosted-items.ensures.rest) ∙ total in
    let none : sum_by refs c.loop-hosted.hosted-iterator ≡ 0 = ap (λ (l : List (Name × Repository)). sum_by refs l) c.in-None.ensures.steps.0 in
    omega (arith, c.loop-hosted.invariant.within, c.loop-hosted.invariant.total, all, none)
