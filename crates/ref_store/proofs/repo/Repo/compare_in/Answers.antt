use Rattle.std.proofs.Common.{rules, ◌≡◌, ◌+◌, ◌≤◌, ◌++◌, length, sym, ◌∙◌, ap, subst, arith}
use Rattle.ref_store.specs.Objects.{with_pack, HasNamesOnce, HasNoCollision}
use Rattle.ref_store.specs.Segments.{all_of}
use Rattle.ref_store.specs.Fresh.{Fresh}
use Rattle.ref_store.specs.Store.{Store}
use Rattle.ref_store.proofs.PackLemmas.{once-with_pack}
use Rattle.ref_store.proofs.repo.Repo.compare_in.Goals as goal

pub returns-clause-told : goal.returns-clause-told
returns-clause-told c =
    let told = rw c.in-Ok-Fresh.field-0-is at c.in-Ok-Fresh.ensures in
    let kept = all_of c.self.inside.objects in
    let fresh = c.in-Ok-Fresh.fresh.items in
    let objects : kept ≡ c.args.self.now.objects = ap (λ (s : Store). s.objects) c.self.view_is in
    let all : kept ++ c.as_slice.result.now ≡ c.args.self.now.objects ++ c.args.pack.now = ap (λ os. os ++ c.as_slice.result.now) objects ∙ ap (λ os. c.args.self.now.objects ++ os) c.as_slice.ensures in
    let added : with_pack c.args.self.now.objects c.args.pack.now ≡ kept ++ fresh = sym (ap (λ os. with_pack os c.as_slice.result.now) objects ∙ ap (with_pack c.args.self.now.objects) c.as_slice.ensures) ∙ told.1 in
    let fresh_is : c.unprepared.result.objects ≡ fresh = ap (λ (f : Fresh). f.objects) c.unprepared.ensures in
    let is : with_pack c.args.self.now.objects c.args.pack.now ≡ c.args.self.now.objects ++ c.unprepared.result.objects = added ∙ ap (λ os. os ++ fresh) objects ∙ ap (λ os. c.args.self.now.objects ++ os) (sym fresh_is) in
    let fresh_len : c.len-2.result ≡ length fresh = search rules in
    let few : length c.args.self.now.objects + length c.unprepared.result.objects ≤ 4294967295 = omega (arith, ap length objects, ap length fresh_is, c.len.ensures.len, fresh_len, c.if-count-gt-MAX_OBJECTS.false) in (
      subst HasNoCollision all told.0,
      is,
      subst HasNamesOnce is (once-with_pack c.args.self.now.objects c.args.pack.now (subst HasNamesOnce objects c.self.invariant.names)),
      few,
    )
