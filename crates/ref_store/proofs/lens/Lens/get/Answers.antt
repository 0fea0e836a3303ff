use Rattle.std.proofs.Common.{sym, ◌∙◌, ap}
use Rattle.ref_store.specs.Objects.{first_named}
use Rattle.ref_store.specs.Segments.{all_of}
use Rattle.ref_store.proofs.ObjectLemmas.{first_kept, first_behind}
use Rattle.ref_store.proofs.lens.Lens.get.Goals as goal

pub returns-in-Some : goal.returns-in-Some
returns-in-Some c =
    sym (first_kept (all_of c.self.inside.kept) c.self.inside.pack c.args.id c.in-Some.object.now (sym c.in-Some.ensures)) ∙ ap (λ os. first_named os c.args.id) c.self.view_is

pub returns-in-None : goal.returns-in-None
returns-in-None c =
    c.first-in-None.ensures ∙ sym (first_behind (all_of c.self.inside.kept) c.self.inside.pack c.args.id (sym c.in-None.ensures)) ∙ ap (λ os. first_named os c.args.id) c.self.view_is
