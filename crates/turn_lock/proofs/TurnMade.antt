-- What a whole turn, and a whole join, did to a pass.
use Rattle.std.proofs.Common.{◌≡◌, ◌==◌, ◌++◌, ◌∷◌, [], ℕ, Bool, List, Option, Some, cond, ⊎_elim, inl, inr, append_assoc, append-nil, refl, sym, ◌∙◌, ap, subst, eq-eqb, ne_eqb, unwrap_or}
use Rattle.std.specs.Prelude.{Contains, filter}
use Rattle.std.proofs.lemmas.List.Elements.{filter-append}
use mathlib.Core.List.{IsPrefix}
use Rattle.atomic_table.specs.Seated.{TableId}
use Rattle.atomic_table.specs.Table.{Me}
use Rattle.turn_lock.specs.declared.rule.View.{View}
use Rattle.turn_lock.specs.Lock.{PassState, AreOthers, GrowsByOthers, IsSamePass, SeesItsEntry, Turned, kept, seen}
use Rattle.turn_lock.specs.Rule.{GoesOn, IsJoinOfBoth, Releases, TellsOfJoin, holding, joined_view, state_of}
use Rattle.turn_lock.proofs.Knowing.{kept_none, kept_same}

-- the value of the first slot
abbrev pub slot_value : {T : Type 0} → T → List (ℕ × Option T) → T
slot_value d [] = d
slot_value d (p ∷ ps) = unwrap_or p.1 d

-- the turn found x and left y
module _ {T E : Type 0} (entries : T → List E) (caller : E → ℕ) (relates : List E → List E → Type 0) (lock : TableId) (v : View E) (x y : T) (rest : List E)
    (is : entries x ≡ v.knowledge.at_new.value ++ (v.knowledge.since.value ++ rest)) (others : AreOthers caller v.knowledge.numbers.value rest) (own : Contains v.knowledge.numbers.value v.caller) (did : relates (entries x) (entries y)) where
  abbrev p : PassState E
  p = state_of lock v

  -- the pass with this entry
  abbrev grown : E → PassState E
  grown e = record p { since = p.since ++ (rest ++ e ∷ []) }

  found_is : entries x ≡ seen p ++ rest
  found_is = is ∙ sym (append_assoc p.at_new p.since rest)

  kept_grown : (e : E) (n : ℕ) → Contains p.numbers n → kept caller (grown e) n ≡ kept caller p n ++ filter (λ f. caller f == n) (e ∷ [])
  kept_grown e n c =
      let f : E → Bool = λ z. caller z == n in
      let of_rest : filter f (rest ++ e ∷ []) ≡ filter f (e ∷ []) = filter-append f rest (e ∷ []) ∙ ap (λ l. l ++ filter f (e ∷ [])) (kept_none caller p.numbers n rest c others) in
      filter-append f p.since (rest ++ e ∷ []) ∙ ap (λ l. kept caller p n ++ l) of_rest

  sees : (e : E) (q : PassState E) → caller e ≡ p.caller → entries y ≡ (seen p ++ rest) ++ e ∷ [] → q ≡ grown e → SeesItsEntry caller p q rest (entries y)
  sees e q bears ends same = record {
    entry = e;
    bears = bears;
    added = ends;
    seen_is = ap seen same ∙ (sym (append_assoc (seen p) rest (e ∷ []) ∙ append_assoc p.at_new p.since (rest ++ e ∷ [])) ∙ sym ends);
    pass_is = same;
    own = ap (λ s. kept caller s p.caller) same ∙ (kept_grown e p.caller own ∙ ap (λ b. kept caller p p.caller ++ cond b (e ∷ []) []) (eq-eqb (caller e) p.caller bears));
    joined_kept = λ n c apart. ap (λ s. kept caller s n) same ∙ (kept_grown e n c ∙ (ap (λ b. kept caller p n ++ cond b (e ∷ []) []) (ne_eqb (caller e) n (λ same. apart (sym same ∙ bears))) ∙ append-nil (kept caller p n)));
  }

  pub turned : (m n : Me (Option T) (View E)) → m ≡ (holding v (v.knowledge.since.value ++ rest), (0, Some y) ∷ []) → Releases entries caller m n → Turned caller relates p (state_of lock n.0)
  turned m n held given =
      let g : Releases entries caller (holding v (v.knowledge.since.value ++ rest), (0, Some y) ∷ []) n = subst (λ (z : Me (Option T) (View E)). Releases entries caller z n) held given in
      let same_value : y ≡ g.0 = ap (λ l. slot_value y l) g.1 in
      let whole : p.at_new ++ (p.since ++ rest) ≡ seen p ++ rest = sym (append_assoc p.at_new p.since rest) in
      record {
        between = rest;
        after = entries y;
        others = others;
        related = subst (λ b. relates b (entries y)) found_is did;
        left = ⊎_elim
            (λ same. inl (ap entries same_value ∙ (same.0 ∙ whole), ap (λ (z : Me (Option T) (View E)). state_of lock z.0) same.1))
            (λ more. inr (sees more.0 (state_of lock n.0) more.1 (ap entries same_value ∙ (more.2 ∙ ap (λ l. l ++ more.0 ∷ []) whole)) (ap (λ (z : Me (Option T) (View E)). state_of lock z.0) more.3 ∙ ap (λ (l : List E). record p { since = l }) (append_assoc p.since rest (more.0 ∷ [])))))
            g.2;
      }

pub same_pass : {E : Type 0} (caller : E → ℕ) (relates : List E → List E → Type 0) (p q : PassState E) → Turned caller relates p q → IsSamePass p q
same_pass {E} caller relates p q t =
    let same : IsSamePass p p = record { lock = refl; caller = refl; passes = refl; at_new = refl; numbers = refl } in
    ⊎_elim
    (λ none. subst (λ (r : PassState E). IsSamePass p r) (sym none.1) same)
    (λ more. subst (λ (r : PassState E). IsSamePass p r) (sym more.pass_is) (record { lock = refl; caller = refl; passes = refl; at_new = refl; numbers = refl }))
    t.left

-- a list that what was seen begins with is one that what is then seen begins with
pub seen_later : {E : Type 0} (caller : E → ℕ) (relates : List E → List E → Type 0) (p q : PassState E) (list : List E) → Turned caller relates p q → IsPrefix list (seen p) → IsPrefix list (seen q)
seen_later {E} caller relates p q list t begins =
    ⊎_elim
    (λ none. subst (λ (r : PassState E). IsPrefix list (seen r)) (sym none.1) begins)
    (λ more.
    let anew : List E = t.between ++ more.entry ∷ [] in
    let whole : seen p ++ anew ≡ seen q = sym (append_assoc (seen p) t.between (more.entry ∷ [])) ∙ (sym more.added ∙ sym more.seen_is) in
    (begins.0 ++ anew, sym (append_assoc list begins.0 anew) ∙ (ap (λ l. l ++ anew) begins.1 ∙ whole)))
    t.left

-- what one of two passes knew, beside what their join has seen
module _ {E : Type 0} (caller : E → ℕ) (lock : TableId) (u w : View E) (goes : GoesOn caller u.knowledge w.knowledge.at_new.value w.knowledge.since.value) (n : ℕ) (owns : Contains u.knowledge.numbers.value n) where
  pub grows : GrowsByOthers caller u.knowledge.numbers.value (seen (state_of lock u)) (seen (state_of lock w))
  grows = (goes.rest, append_assoc u.knowledge.at_new.value u.knowledge.since.value goes.rest ∙ (λ i. goes.starts n owns i ++ goes.whole i), goes.others)

  pub keeps : kept caller (state_of lock w) n ≡ kept caller (state_of lock u) n
  keeps = kept_same caller u.knowledge w.knowledge.at_new.value w.knowledge.since.value n goes owns

-- what a join and the load after it tell
pub join_tells : {T E : Type 0} (caller : E → ℕ) (v w : View E) (m n : Me (Option T) (View E)) → m.0 ≡ joined_view v w → TellsOfJoin caller m n
    → (n.0 ≡ joined_view v w) × GoesOn caller v.knowledge n.0.knowledge.at_new.value n.0.knowledge.since.value × GoesOn caller w.knowledge n.0.knowledge.at_new.value n.0.knowledge.since.value
join_tells caller v w m n is look =
    let all = ap (λ z. z.0) look.0 ∙ is in
    let both : IsJoinOfBoth caller (joined_view v w) = subst (λ z. IsJoinOfBoth caller z) is look.1 in (
      all,
      subst (λ z. GoesOn caller v.knowledge z.knowledge.at_new.value z.knowledge.since.value) (sym all) both.0,
      subst (λ z. GoesOn caller w.knowledge z.knowledge.at_new.value z.knowledge.since.value) (sym all) both.1,
    )
