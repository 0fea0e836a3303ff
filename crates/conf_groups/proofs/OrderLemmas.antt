-- The order of the list of files.
use Rattle.std.proofs.Common.{◌≡◌, ℕ, List, [], ◌∷◌, ◌++◌, Bool, true, false, Option, Some, None, refl, sym, ap, ◌∙◌, cond}
use Rattle.std.specs.Prelude.{◌&&◌, ◌||◌}
use Rattle.std.specs.Str.{bytes_eq}
use Rattle.std.specs.FinMap as named
use Rattle.std.specs.Ordering.{nat_cmp}
use Rattle.std.specs.Cmp.Lexicographic.{slice_cmp, nat_list_cmp_total, texts_ties, same_text, nat_list_eq_equiv}
use Rattle.base_types.proofs.NameMaps.{same_names}
use Rattle.conf_groups.specs.Files.{Files, by_name, is_seen}
use Rattle.conf_groups.specs.Splicing.{spliced_files}
use Rattle.conf_groups.specs.Laws.{OrderHasNoEffect, has_name}
use Rattle.conf_groups.specs.declared.conf_file.ConfFile.{ConfFile}

-- the text of the first file of a name
abbrev with_first : ConfFile → List ℕ → Option (List ℕ) → Option (List ℕ)
with_first f q others = cond (is_seen f && bytes_eq f.name q) (Some f.text) others

abbrev first_text : List ConfFile → List ℕ → Option (List ℕ)
first_text [] q = None
first_text (f ∷ list) q = with_first f q (first_text list q)

get_seen : (b : Bool) (files : Files) (f : ConfFile) (q : List ℕ) → named.get (cond b (named.insert files f.name f.text) files) q ≡ cond (b && bytes_eq f.name q) (Some f.text) (named.get files q)
get_seen true files f q =
    named.get-insert nat_list_cmp_total files f.name f.text q
    ∙ ap (λ (b : Bool). cond b (Some f.text) (named.get files q)) (sym (texts_ties q f.name) ∙ nat_list_eq_equiv.symm q f.name)
get_seen false files f q = refl

get_by_name : (list : List ConfFile) (q : List ℕ) → named.get (by_name list) q ≡ first_text list q
get_by_name [] q = named.get-empty (slice_cmp nat_cmp) q
get_by_name (f ∷ list) q = get_seen (is_seen f) (by_name list) f q ∙ ap (λ (o : Option (List ℕ)). with_first f q o) (get_by_name list q)

same_files : (a b : List ConfFile) → ((q : List ℕ) → first_text a q ≡ first_text b q) → by_name a ≡ by_name b
same_files a b alike = same_names (by_name a) (by_name b) (λ q. get_by_name a q ∙ alike q ∙ sym (get_by_name b q))

left_none : (a b : Bool) → (a || b) ≡ false → a ≡ false
left_none true b h = h
left_none false b h = refl

right_none : (a b : Bool) → (a || b) ≡ false → b ≡ false
right_none true b h = cc
right_none false b h = h

-- two files of two names
swapped : (a b : Bool) (x y o : Option (List ℕ)) → (a ≡ true → b ≡ true → ⊥) → cond a x (cond b y o) ≡ cond b y (cond a x o)
swapped true true x y o apart = absurd (apart refl refl)
swapped true false x y o apart = refl
swapped false b x y o apart = refl

and_right : (a b : Bool) → (a && b) ≡ true → b ≡ true
and_right true b h = h
and_right false b h = cc

two_names : (g f q : List ℕ) → bytes_eq g f ≡ false → bytes_eq g q ≡ true → bytes_eq f q ≡ true → ⊥
two_names g f q other at_g at_f =
    let e : g ≡ f = same_text g q (sym at_g) ∙ sym (same_text f q (sym at_f)) in
    let clash : false ≡ true = sym other ∙ ap (λ (x : List ℕ). bytes_eq x f) e ∙ nat_list_eq_equiv.refl f in
    cc

first_moved : (before after : List ConfFile) (f : ConfFile) (q : List ℕ) → has_name before f.name ≡ false → first_text (before ++ f ∷ after) q ≡ with_first f q (first_text (before ++ after) q)
first_moved [] after f q h = refl
first_moved (g ∷ before) after f q h =
    ap (λ (o : Option (List ℕ)). with_first g q o) (first_moved before after f q (right_none (bytes_eq g.name f.name) (has_name before f.name) h))
    ∙ swapped (is_seen g && bytes_eq g.name q) (is_seen f && bytes_eq f.name q) (Some g.text) (Some f.text) (first_text (before ++ after) q)
    (λ at_g at_f. two_names g.name f.name q (left_none (bytes_eq g.name f.name) (has_name before f.name) h) (and_right (is_seen g) (bytes_eq g.name q) at_g) (and_right (is_seen f) (bytes_eq f.name q) at_f))

-- a second file of a name
seen_alike : (g f : ConfFile) (q : List ℕ) → bytes_eq g.name f.name ≡ true → (is_seen g && bytes_eq g.name q) ≡ (is_seen f && bytes_eq f.name q)
seen_alike g f q h = ap (λ (n : List ℕ). is_seen (record { name = n; text = [] }) && bytes_eq n q) (same_text g.name f.name (sym h))

first_of_others : (before after : List ConfFile) (f : ConfFile) (q : List ℕ) → (is_seen f && bytes_eq f.name q) ≡ false → first_text (before ++ f ∷ after) q ≡ first_text (before ++ after) q
first_of_others [] after f q h = ap (λ (b : Bool). cond b (Some f.text) (first_text after q)) h
first_of_others (g ∷ before) after f q h = ap (λ (o : Option (List ℕ)). with_first g q o) (first_of_others before after f q h)

hidden : (b : Bool) (x : Option (List ℕ)) (before after : List ConfFile) (f : ConfFile) (q : List ℕ) → b ≡ (is_seen f && bytes_eq f.name q) → cond b x (first_text (before ++ f ∷ after) q) ≡ cond b x (first_text (before ++ after) q)
hidden true x before after f q h = refl
hidden false x before after f q h = first_of_others before after f q (sym h)

first_repeated : (before after : List ConfFile) (f : ConfFile) (q : List ℕ) → has_name before f.name ≡ true → first_text (before ++ f ∷ after) q ≡ first_text (before ++ after) q
first_repeated [] after f q h = cc
first_repeated (g ∷ before) after f q h =
    elim (bytes_eq g.name f.name) as (λ b. bytes_eq g.name f.name ≡ b → (b || has_name before f.name) ≡ true → with_first g q (first_text (before ++ f ∷ after) q) ≡ with_first g q (first_text (before ++ after) q)) [
      | true ↦ λ same k. hidden (is_seen g && bytes_eq g.name q) (Some g.text) before after f q (seen_alike g f q same)
      | false ↦ λ other k. ap (λ (o : Option (List ℕ)). with_first g q o) (first_repeated before after f q k)
    ] refl h

pub order_has_no_effect : OrderHasNoEffect
order_has_no_effect = record {
  moved = λ before after f h. ap spliced_files (same_files (before ++ f ∷ after) (f ∷ before ++ after) (λ q. first_moved before after f q h));
  repeated = λ before after f h. ap spliced_files (same_files (before ++ f ∷ after) (before ++ after) (λ q. first_repeated before after f q h));
}
