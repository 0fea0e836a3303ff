use Rattle.std.proofs.Common.{◌≡◌, List, sym, ◌∙◌, ap, subst, reverse, rules}
use Rattle.std.specs.List.Sorted.{IsPermutation, IsSorted}
use Rattle.std.specs.Ordering.{is_lt}
use Rattle.std.proofs.lemmas.Cmp.{nat_list_cmp_total}
use Rattle.std.proofs.lemmas.List.{reverse-reverse}
use Rattle.std.proofs.lemmas.List.Sorted.{answers_always, ranks_by}
use Rattle.vref.specs.Walk.{key_cmp, key_of}
use Rattle.vref.specs.declared.walk.Item.{Item}
use Rattle.vref.proofs.walk.sort_items.Goals as goal

pub returns : goal.returns
returns c =
    let back : reverse c.reverse.new.self.items ≡ c.sort_by.new.self.items = ap reverse c.reverse.ensures.items ∙ reverse-reverse c.sort_by.new.self.items in
    record {
      same = subst (λ (xs : List Item). IsPermutation c.args.items.items xs) (sym back) c.in_ok-sort_by.ensures.permutation;
      sorted =
          subst (λ (xs : List Item). IsSorted key_cmp xs) (sym back)
          (c.in_ok-sort_by.ensures.sorted (λ a b. is_lt (key_cmp a b)) (ranks_by nat_list_cmp_total key_of)
          (answers_always _ _ _ (λ f a r q k. let e : r ≡ key_cmp a.0.now a.1.0.now = search rules in ap is_lt e)));
    }
