use Rattle.std.proofs.Common.{◌≡◌, List, [], Option, refl, sym, ◌∙◌, ap, subst}
use Rattle.std.specs.Option.{option_map_or}
use Rattle.git_object.specs.Content.{Content}
use Rattle.git_object.specs.Object.{links_of}
use Rattle.ref_store.specs.Objects.{first_named}
use Rattle.ancestry.specs.declared.verdict.Verdict.{Verdict}
use Rattle.ancestry.specs.Verdict.{alone, worse, IsToldOf}
use Rattle.ancestry.specs.Walk.{links_at, wanted_by}
use Rattle.ancestry.proofs.VerdictLemmas.{told_by_links}
use Rattle.ancestry.proofs.KnownLemmas.{told_alone}
use Rattle.ancestry.proofs.walks.Walks.verdict_of.Goals as goal

pub returns-then-not-has_links : goal.returns-then-not-has_links
returns-then-not-has_links c =
    let objects = c.self.inside.lens.now in
    let none : links_at objects c.args.id ≡ [] = ap (λ (f : Option Content). option_map_or (λ o. wanted_by (links_of o.kind o.body)) f []) (sym c.get-object.ensures) ∙ c.if-not-has_links.ensures refl in
    subst (λ (os : List Content). IsToldOf os c.args.id c.args.wanted c.alone-alone.result) c.self.view_is
    (subst (λ (v : Verdict). IsToldOf objects c.args.id c.args.wanted v) (sym (c.alone-alone.ensures ∙ ap (λ (f : Option Content). alone f (c.args.id, c.args.wanted)) c.get-object.ensures))
    (told_alone objects c.args.id c.args.wanted none))

pub returns-in-Some : goal.returns-in-Some
returns-in-Some c =
    let objects = c.args.self.now in
    let find = c.get-object.ensures ∙ ap (λ (os : List Content). first_named os c.args.id) c.self.view_is in
    let is : c.worse.result ≡ worse (alone (first_named objects c.args.id) (c.args.id, c.args.wanted)) c.in-Some.behind =
    c.worse.ensures ∙ ap (λ (v : Verdict). worse v c.in-Some.behind) (c.alone-alone.ensures ∙ ap (λ (f : Option Content). alone f (c.args.id, c.args.wanted)) find) in
    subst (λ (v : Verdict). IsToldOf objects c.args.id c.args.wanted v) (sym is) (told_by_links objects c.args.id c.args.wanted c.in-Some.behind c.in-Some.ensures.1)
