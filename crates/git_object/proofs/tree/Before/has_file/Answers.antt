use Rattle.std.proofs.Common.{List, ℕ, length, map, sym, ◌∙◌, ap, subst, Bor}
use Rattle.std.specs.List.{list_any}
use Rattle.std.specs.List.Sorted.{IsSearchInRange, IsBinarySearchResult}
use Rattle.std.specs.Str.{bytes_eq}
use Rattle.std.specs.Ordering.{nat_cmp}
use Rattle.std.specs.Cmp.Lexicographic.{slice_cmp}
use Rattle.git_object.proofs.OrderLemmas.{Ascend, files_ascend, searched}
use Rattle.git_object.proofs.tree.Before.has_file.Goals as goal

pub returns : goal.returns
returns c before keeps =
    let items : List (Bor (List ℕ)) = c.args.self.now.files.items in
    let ascend : Ascend (map (λ f. f.now) items) = subst Ascend (sym keeps.files) (files_ascend before keeps.rise) in
    let bound = subst (λ (l : List (Bor (List ℕ))). IsSearchInRange c.binary_search.result (length l)) c.deref.ensures.value c.binary_search.ensures.bound in
    let position = subst (λ (l : List (Bor (List ℕ))). IsBinarySearchResult (λ f. slice_cmp nat_cmp f.now c.args.name.now) l c.binary_search.result) c.deref.ensures.value c.binary_search.ensures.position in
    c.is_ok.ensures.value
    ∙ searched items c.args.name ascend c.binary_search.result bound position
    ∙ ap (list_any (λ n. bytes_eq n c.args.name.now)) keeps.files
