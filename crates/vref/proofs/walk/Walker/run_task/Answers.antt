use Rattle.std.proofs.Common.{◌≤◌, ◌∷◌, ℕ, List, Option, All, refl, sym, subst}
use Rattle.vref.specs.Walk.{IsDirectoryOf, IsWalking, next_of}
use Rattle.vref.specs.declared.path_table.Row.{Row}
use Rattle.vref.specs.declared.walk.Task.{Task}
use Rattle.vref.specs.declared.walk.Task.TheVariants.{Enter}
use Rattle.vref.specs.declared.walk.TheConstants.{MAX_PATH}
use Rattle.vref.proofs.WalkLemmas.{all_short, directory_is, put_done}
use Rattle.vref.proofs.walk.Walker.run_task.Goals as goal

pub directory_at-at-requires-clause-short : goal.directory_at-at-requires-clause-short
directory_at-at-requires-clause-short c =
    subst (λ (rs : List Row). All (λ (r : Row). r.length ≤ MAX_PATH) rs) (sym c.deref.ensures.value) (all_short c.args.lens.now c.args.root.old c.args.root.new c.args.self.now.rows.items c.args.self.now.order.items _ c.requires.walking)

pub enter-requires-clause-walking : goal.enter-requires-clause-walking
enter-requires-clause-walking c =
    let walking = subst (λ (t : Task). IsWalking c.args.lens.now c.args.root.old c.args.root.new c.args.self.now.rows.items c.args.self.now.order.items (t ∷ next_of c.args.self.now.work.items)) c.in-Enter.is c.requires.walking in
    let is =
    directory_is c.args.lens.now c.args.root.old c.args.root.new c.args.self.now.rows.items c.args.self.now.order.items (next_of c.args.self.now.work.items) c.in-Enter.place c.args.root c.directory_at-at.result walking c.requires.root c.requires.front refl refl
    (subst (λ (rs : List Row). IsDirectoryOf rs c.args.root c.in-Enter.place c.directory_at-at.result) c.deref.ensures.value c.directory_at-at.ensures) in
    subst (λ (p : Option ℕ). IsWalking c.args.lens.now c.args.root.old c.args.root.new c.args.self.now.rows.items c.args.self.now.order.items (Enter p ∷ next_of c.args.self.now.work.items)) (sym is.0) walking

pub enter-requires-clause-at : goal.enter-requires-clause-at
enter-requires-clause-at c =
    let walking = subst (λ (t : Task). IsWalking c.args.lens.now c.args.root.old c.args.root.new c.args.self.now.rows.items c.args.self.now.order.items (t ∷ next_of c.args.self.now.work.items)) c.in-Enter.is c.requires.walking in
    (directory_is c.args.lens.now c.args.root.old c.args.root.new c.args.self.now.rows.items c.args.self.now.order.items (next_of c.args.self.now.work.items) c.in-Enter.place c.args.root c.directory_at-at.result walking c.requires.root c.requires.front refl refl
    (subst (λ (rs : List Row). IsDirectoryOf rs c.args.root c.in-Enter.place c.directory_at-at.result) c.deref.ensures.value c.directory_at-at.ensures)).1

pub returns-in_ok-push-in-Put-clause-goes : goal.returns-in_ok-push-in-Put-clause-goes
returns-in_ok-push-in-Put-clause-goes c =
    put_done c.args.lens.now c.args.root.old c.args.root.new c.args.self.now.rows.items c.args.self.now.order.items c.push.new.self.items c.in-Put.place (next_of c.args.self.now.work.items)
    (subst (λ (t : Task). IsWalking c.args.lens.now c.args.root.old c.args.root.new c.args.self.now.rows.items c.args.self.now.order.items (t ∷ next_of c.args.self.now.work.items)) c.in-Put.is c.requires.walking) c.in_ok-push-in-Put.ensures.items
