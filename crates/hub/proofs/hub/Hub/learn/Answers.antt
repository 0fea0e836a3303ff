use Rattle.std.proofs.Common.{◌≡◌, Some, sym, ◌∙◌, ap, subst}
use Rattle.std.specs.Prelude.{Option, None}
use Rattle.std.specs.Option.{IfSome, unwrap_or}
use Rattle.std.specs.FinMap.{get, insert}
use Rattle.base_types.specs.Names.{ByName}
use Rattle.ref_store.specs.Refs.{Name}
use Rattle.hub_history.specs.History.{replay}
use Rattle.hub_history.specs.State.{Repository, State, empty_repository, repository_at}
use Rattle.hub.specs.Hub.{HubView, state_of, stored}
use Rattle.hub.specs.Names.{map_of}
use Rattle.hub.proofs.NameLemmas.{insert_same}
use Rattle.hub.proofs.hub.Hub.learn.Goals as goal

pub invariant_of-self-2 : goal.invariant_of-self-2
invariant_of-self-2 c =
    let name = c.args.name.now in
    let m : ByName Repository = map_of c.self.inside.repositories.entries.entries in
    let there : get m name ≡ Some c.in-Some-get.field-0.now = sym c.in-Some-get.ensures in
    let state : stored m c.self.inside.conf ≡ replay c.self.inside.conf.admin c.self.inside.log = c.self.invariant.1 in
    let is : c.in-Some.same ≡ c.in-Some-get.field-0.now =
    subst (λ (o : Option Repository). IfSome o (λ same. same ≡ repository_at (state_of c.args.self.now) name)) c.in-Some.is c.requires
    ∙ ap (λ (v : HubView). repository_at (state_of v) name) (sym c.self.view_is)
    ∙ ap (λ (s : State). repository_at s name) (sym state)
    ∙ ap (λ (o : Option Repository). unwrap_or o (empty_repository None)) there in
    let put : map_of c.put.new.self.entries.entries ≡ m =
    c.put.ensures.map
    ∙ ap (λ (x : ByName Repository). insert x c.in_ok-name.name c.in-Some.same) (ap map_of c.reserve.ensures.same)
    ∙ ap (λ (n : Name). insert m n c.in-Some.same) c.in_ok-name.ensures.cases
    ∙ insert_same m name c.in-Some.same (there ∙ ap (λ (r : Repository). Some r) (sym is)) in
    (c.self.invariant.0, ap (λ (x : ByName Repository). stored x c.self.inside.conf) put ∙ state, c.self.invariant.2)
