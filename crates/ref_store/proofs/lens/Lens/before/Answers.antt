use Rattle.std.proofs.Common.{◌+◌, ◌-◌, ◌++◌, length, Some, take, sym, ◌∙◌, ap}
use Rattle.std.specs.Prelude.{slice_get}
use Rattle.std.specs.Option.{option_map}
use Rattle.ref_store.specs.Objects.{place_of}
use Rattle.ref_store.specs.Segments.{all_of}
use Rattle.ref_store.proofs.ObjectLemmas.{before_kept, before_behind, get_kept, get_behind}
use Rattle.ref_store.proofs.lens.Lens.before.Goals as goal

pub returns-in-Some-clause-place : goal.returns-in-Some-clause-place
returns-in-Some-clause-place c =
    sym (before_kept c.args.among (all_of c.self.inside.kept) c.self.inside.pack c.args.id c.in-Some.at (sym c.in-Some.ensures.place)) ∙ ap (λ os. place_of (take c.args.among os) c.args.id) c.self.view_is

pub returns-in-Some-clause-object : goal.returns-in-Some-clause-object
returns-in-Some-clause-object c =
    ap (λ os. slice_get os c.in-Some.at) (sym c.self.view_is) ∙ get_kept (all_of c.self.inside.kept) c.self.inside.pack c.in-Some.at c.in-Some.object.now c.in-Some.ensures.object

pub returns-in-Some-before-clause-place : goal.returns-in-Some-before-clause-place
returns-in-Some-before-clause-place c =
    let kept = all_of c.self.inside.kept in
    let pack = c.self.inside.pack in
    ap (λ n. Some (n + c.in-Some-before.at)) c.len-kept.ensures.len
    ∙ ap (option_map (λ i. length kept + i)) (c.in-Some-before.ensures.place ∙ ap (λ n. place_of (take n pack) c.args.id) (c.saturating_sub.ensures ∙ ap (λ n. c.args.among - n) c.len-kept.ensures.len))
    ∙ sym (before_behind c.args.among kept pack c.args.id (sym c.in_default.ensures.place))
    ∙ ap (λ os. place_of (take c.args.among os) c.args.id) c.self.view_is

pub returns-in-Some-before-clause-object : goal.returns-in-Some-before-clause-object
returns-in-Some-before-clause-object c =
    ap (λ os. slice_get os (c.len-kept.result + c.in-Some-before.at)) (sym c.self.view_is)
    ∙ ap (λ n. slice_get (all_of c.self.inside.kept ++ c.self.inside.pack) (n + c.in-Some-before.at)) c.len-kept.ensures.len
    ∙ get_behind (all_of c.self.inside.kept) c.self.inside.pack c.in-Some-before.at
    ∙ c.in-Some-before.ensures.object

pub returns-in-None-clause-place : goal.returns-in-None-clause-place
returns-in-None-clause-place c =
    let kept = all_of c.self.inside.kept in
    let pack = c.self.inside.pack in
    ap (option_map (λ i. length kept + i)) (c.in-None.ensures.place ∙ ap (λ n. place_of (take n pack) c.args.id) (c.saturating_sub.ensures ∙ ap (λ n. c.args.among - n) c.len-kept.ensures.len))
    ∙ sym (before_behind c.args.among kept pack c.args.id (sym c.in_default.ensures.place))
    ∙ ap (λ os. place_of (take c.args.among os) c.args.id) c.self.view_is
