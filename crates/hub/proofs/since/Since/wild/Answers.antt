use Rattle.std.proofs.Common.{ℕ, sym, ◌∙◌, ap}
use Rattle.std.specs.Prelude.{Option}
use Rattle.std.specs.Option.{option_copied, unwrap_or}
use Rattle.hub.specs.Since.{SinceView, since_of}
use Rattle.hub.proofs.NameLemmas.{get-map_of}
use Rattle.hub.proofs.since.Since.wild.Goals as goal

pub returns-in-Some : goal.returns-in-Some
returns-in-Some c =
    ap (λ (o : Option ℕ). unwrap_or o 0) (sym (get-map_of c.self.inside.wilds.entries c.args.name.now ∙ sym c.get.ensures.value ∙ ap option_copied c.in-Some.is))
    ∙ ap (λ (s : SinceView). since_of s c.args.name.now) c.self.view_is

pub returns-in-None : goal.returns-in-None
returns-in-None c =
    ap (λ (o : Option ℕ). unwrap_or o 0) (sym (get-map_of c.self.inside.wilds.entries c.args.name.now ∙ sym c.get.ensures.value ∙ ap option_copied c.in-None.is))
    ∙ ap (λ (s : SinceView). since_of s c.args.name.now) c.self.view_is
