use Rattle.std.proofs.Common.{◌≡◌, ◌&&◌, Bool, true, false, sym, ◌∙◌, ap}
use Rattle.hub_history.specs.State.{conf_branch, conf_repository, same_name}
use Rattle.push_judging.proofs.rows.is_of_conf.Goals as goal

pub returns-then-eq : goal.returns-then-eq
returns-then-eq c =
    let repo : same_name conf_repository c.args.repo.now ≡ true = ap (same_name conf_repository) (sym c.bytes.ensures.bytes) ∙ sym c.eq.ensures ∙ c.if-eq.true in
    c.eq-then-eq.ensures ∙ ap (same_name conf_branch) c.bytes-then-eq.ensures ∙ ap (λ (b : Bool). b && same_name conf_branch c.args.command.now.name) (sym repo)

pub returns-else-eq : goal.returns-else-eq
returns-else-eq c =
    let repo : same_name conf_repository c.args.repo.now ≡ false = ap (same_name conf_repository) (sym c.bytes.ensures.bytes) ∙ sym c.eq.ensures ∙ c.if-eq.false in
    c.if-eq.false ∙ ap (λ (b : Bool). b && same_name conf_branch c.args.command.now.name) (sym repo)
