-- Commands in the order of their names.
use Rattle.std.proofs.Common.{◌≡◌, ℕ, suc, ◌+◌, ◌<◌, Bool, true, false, cond, nat_le, List, [], ◌∷◌, length, get_or, refl, sym, ◌∙◌, ap, subst, arith}
use Rattle.std.proofs.lemmas.List.Sums.{sum_by-cons}
use Rattle.std.specs.List.{count_by}
use Rattle.std.specs.declared.cmp.Ordering.TheVariants.{Less}
use Rattle.std.specs.Ordering.{nat_cmp, is_eq}
use Rattle.std.specs.Cmp.Lexicographic.{slice_cmp, nat_list_cmp_total, texts_ties}
use Rattle.ref_store.specs.Refs.{Name}
use Rattle.ref_store.specs.declared.command.Command.{Command}
use Rattle.ref_store.proofs.ObjectLemmas.{same_bytes}
use Rattle.hub_history.specs.Push.{is_named_twice}
use Rattle.hub_history.specs.State.{same_name}

-- each of the first so many names is behind the one before
abbrev pub AscendTo : List Command → ℕ → Type 0
AscendTo cs n = (d : Command) (i : ℕ) → suc i < n → slice_cmp nat_cmp (get_or cs i d).name (get_or cs (suc i) d).name ≡ Less

-- each of these names is behind one
abbrev AreBehind : Name → List Command → Type 0
AreBehind n [] = Unit {0}
AreBehind n (d ∷ cs) = (slice_cmp nat_cmp n d.name ≡ Less) × AreBehind n cs

behind_more : (n m : Name) → slice_cmp nat_cmp n m ≡ Less → (cs : List Command) → AreBehind m cs → AreBehind n cs
behind_more n m less [] behind = tt
behind_more n m less (d ∷ cs) behind = (nat_list_cmp_total.trans n m d.name less behind.0, behind_more n m less cs behind.1)

tail_ascends : (c : Command) (cs : List Command) → AscendTo (c ∷ cs) (length (c ∷ cs)) → AscendTo cs (length cs)
tail_ascends c cs ascend d i below = ascend d (suc i) (omega (arith, below))

all_behind : (c : Command) (cs : List Command) → AscendTo (c ∷ cs) (length (c ∷ cs)) → AreBehind c.name cs
all_behind c [] ascend = tt
all_behind c (d ∷ cs) ascend =
    let less = ascend c 0 (omega (arith)) in
    (less, behind_more c.name d.name less cs (all_behind d cs (tail_ascends c (d ∷ cs) ascend)))

abbrev count_of : Name → List Command → ℕ
count_of name cs = count_by (λ (c : Command). same_name name c.name) cs

count_more : (q : Name) (c : Command) (cs : List Command) → count_of q (c ∷ cs) ≡ cond (same_name q c.name) 1 0 + count_of q cs
count_more q c cs = sum_by-cons (λ (c : Command). cond (same_name q c.name) 1 0) c cs

zero_more : (n : ℕ) → 0 + n ≡ n
zero_more n = omega (arith)

none_for : (q : Name) (cs : List Command) → AreBehind q cs → count_of q cs ≡ 0
none_for q [] behind = refl
none_for q (d ∷ cs) behind = count_more q d cs ∙ ap (λ b. cond b 1 0 + count_of q cs) (texts_ties q d.name ∙ ap is_eq behind.0) ∙ zero_more (count_of q cs) ∙ none_for q cs behind.1

-- names in order stand once
pub ascending_once : (cs : List Command) → AscendTo cs (length cs) → (q : Name) → is_named_twice cs q ≡ false
ascending_once [] ascend q = refl
ascending_once (c ∷ cs) ascend q = by_name (same_name q c.name) refl (ascending_once cs (tail_ascends c cs ascend) q)
  where
    by_name : (b : Bool) → same_name q c.name ≡ b → is_named_twice cs q ≡ false → is_named_twice (c ∷ cs) q ≡ false
    by_name true is later =
        let named : q ≡ c.name = same_bytes q c.name is in
        ap (nat_le 2) (count_more q c cs) ∙ ap (λ b. nat_le 2 (cond b 1 0 + count_of q cs)) is ∙ ap (λ n. nat_le 2 (1 + n)) (none_for q cs (subst (λ (n : Name). AreBehind n cs) (sym named) (all_behind c cs ascend)))
    by_name false is later = ap (nat_le 2) (count_more q c cs) ∙ ap (λ b. nat_le 2 (cond b 1 0 + count_of q cs)) is ∙ ap (nat_le 2) (zero_more (count_of q cs)) ∙ later
