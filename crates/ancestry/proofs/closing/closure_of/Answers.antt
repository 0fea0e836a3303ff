use Rattle.std.proofs.Common.{◌≡◌, List, ◌∷◌, [], sym, ◌∙◌, subst, arith}
use Rattle.std.proofs.lemmas.List.{take_all}
use Rattle.git_object.specs.Content.{Content}
use Rattle.ancestry.specs.declared.runs.Run.{Run}
use Rattle.ancestry.specs.Closures.{AreClosures, IsClosure, Joins}
use Rattle.ancestry.proofs.ClosureLemmas.{closure_found}
use Rattle.ancestry.proofs.closing.closure_of.Goals as goal

pub returns : goal.returns
returns c =
    let objects = c.args.repo.now.objects in
    let all : c.new-front.result ≡ objects = c.new-front.ensures ∙ take_all c.count.result objects (omega (arith, c.count.ensures.count)) in
    subst (λ (os : List Content). IsClosure os c.args.id c.in_ok-runs.runs) all
    (closure_found c.new-front.result c.args.kept.now c.args.id (subst (λ (os : List Content). AreClosures os c.args.kept.now) (sym all) c.requires) c.in_ok-met.met
    (subst (λ (runs : List Run). Joins c.new-front.result c.args.kept.now (c.args.id ∷ []) runs c.in_ok-met.met) c.none-none.ensures c.in_ok-met.ensures) c.in_ok-set.set c.in_ok-set.ensures (c.are_there.ensures c.if-not-are_there.false) c.in_ok-runs.runs c.in_ok-runs.ensures)
