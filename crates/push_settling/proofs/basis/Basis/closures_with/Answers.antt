use Rattle.std.proofs.Common.{◌≡◌, List, [], sym, subst, append-nil}
use Rattle.git_object.specs.Content.{Content}
use Rattle.ancestry.specs.Closures.{AreClosures, Begins}
use Rattle.push_settling.specs.Basis.{AreAsPrepared}
use Rattle.push_settling.specs.declared.basis.Standing.{Standing}
use Rattle.push_settling.proofs.basis.Basis.closures_with.Goals as goal

itself : (objects : List Content) → Begins objects objects
itself objects = ([], sym (append-nil objects))

pub returns-in-Unmoved : goal.returns-in-Unmoved
returns-in-Unmoved c = λ left are.
    let prepared = c.args.self.now.prepared in
    let pack = are.pack_behind in
    let as_prepared = subst (λ (standing : Standing). AreAsPrepared left prepared standing) c.in-Unmoved.is are.as_prepared in
    let older : AreClosures left c.in_ok-closures.closures =
    c.in_ok-closures.ensures.right c.args.now.now.objects prepared.before left are.behind_now are.behind_opening c.closures.ensures c.closures-2.ensures in
    let grown : AreClosures left c.grown_closures.result.now =
    subst (λ (os : List Content). AreClosures os c.grown_closures.result.now) (sym (as_prepared pack.0 pack.1)) (c.grown_closures.ensures pack.0 pack.1) in
    c.with-in-Unmoved.ensures.right left left left (itself left) (itself left) older grown

pub returns-in-Moved : goal.returns-in-Moved
returns-in-Moved c = λ left are.
    c.in_ok-closures.ensures.right c.args.now.now.objects c.args.self.now.prepared.before left are.behind_now are.behind_opening c.closures.ensures c.closures-2.ensures
