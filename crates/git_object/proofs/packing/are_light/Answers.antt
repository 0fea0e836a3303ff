use Rattle.std.proofs.Common.{◌≡◌, ◌+◌, ◌<◌, ◌≤◌, ◌∙◌, All, None, arith, ap, drop, get_or, length, subst, sym}
use Rattle.std.proofs.lemmas.List.{drop_more, take_all}
use Rattle.std.proofs.lemmas.List.Elements.{All-more}
use Rattle.git_object.specs.Object.{IsPackable, fault_of, total_bytes}
use Rattle.git_object.proofs.packing.are_light.Goals as goal

pub loop-object-preserved : goal.loop-object-preserved
loop-object-preserved c =
    let i = c.loop-object.object-index in
    let objects = c.args.objects.now in
    let object = c.object-item.result in
    let within : i < length objects = subst (λ l. i < length l) c.as_slice-object-items.ensures c.loop-object-test.true in
    let is : object ≡ get_or objects i object = c.object-item.is ∙ ap (λ l. get_or l i object) c.as_slice-object-items.ensures in
    let rest : total_bytes (drop i objects) ≡ length object.body + total_bytes (drop (i + 1) objects) = ap total_bytes (drop_more objects i object within) ∙ ap (λ o. length o.body + total_bytes (drop (i + 1) objects)) (sym is) in
    record {
      left = omega (arith, rest, c.loop-object.invariant.left, c.if-left-size.false, ap length c.body-size.ensures.body);
      formed = All-more IsPackable objects i object within c.loop-object.invariant.formed (subst IsPackable is (record {
        short = subst (λ l. length l ≤ 16777216) c.body-size.ensures.body c.body-size.ensures.small;
        form = subst (λ l. fault_of object.kind l ≡ None) c.body-size.ensures.body c.body-size.ensures.form;
      }));
    }

pub returns-clause-formed : goal.returns-clause-formed
returns-clause-formed c light =
    let all : length c.args.objects.now ≤ c.loop-object.object-index = subst (λ l. length l ≤ c.loop-object.object-index) c.as_slice-object-items.ensures c.loop-object-test.false in
    subst (All IsPackable) (take_all c.loop-object.object-index c.args.objects.now all) c.loop-object.invariant.formed
