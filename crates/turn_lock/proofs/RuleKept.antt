-- Each step keeps the rule.
use Rattle.std.proofs.Common.{◌≡◌, ◌≢◌, zero, suc, ◌==◌, ◌<◌, ℕ, Bool, true, false, cond, eqb, ◌⊎◌, inl, inr, ⊎_elim, List, [], ◌∷◌, ◌++◌, append_assoc, append-nil, length, length-set, Option, Some, refl, sym, ◌∙◌, ap, subst, arith, ne_eqb, eq-eqb}
use mathlib.Core.Option.{none, some, some-injective, some-ne-none}
use lib.ListN.{get_elem?}
use prog.Atomic.{either}
use Rattle.std.specs.Prelude.{slice_index, slice_index_or, slice_set, All, Contains}
use Rattle.std.proofs.lemmas.List.Elements.{All-nil, All-cons, All-push, All-weaker, Contains-append_cases}
use Rattle.atomic_table.specs.Table.{State, Me, Act, keeps, takes, gives, Valid, carried_after, stepped, Allows, Splits, Joins, opening, Final, Seen}
use Rattle.atomic_table.proofs.Lists.{at_set, set_again, set_else, at_longer}
use Rattle.turn_lock.specs.declared.rule.View.{View}
use Rattle.turn_lock.specs.Lock.{AreOthers}
use Rattle.turn_lock.specs.Rule.{GoesOn, IsSeat, KeepsRule, Tries, Releases, Appends, TellsOfJoin, first_view, spent_view, counted_view, next_view, joined_view, holding, idle_view, added_view}
use Rattle.turn_lock.proofs.Knowing.{goes_on-same, goes_on-nothing, goes_on-append, both_longer, none_in, all_right, nothing_left}

not_held : (b : Bool) → (b ≡ true → ⊥) → b ≡ false
not_held true never = absurd (never refl)
not_held false never = refl

same_words : (l : List ℕ) → slice_set l 0 (slice_index l 0) ≡ l
same_words [] = refl
same_words (x ∷ xs) = refl

here_set : {A : Type 0} (l : List A) (i : ℕ) (a b : A) → get_elem? l i ≡ some a → get_elem? (slice_set l i b) i ≡ some b
here_set [] i a b e = absurd (some-ne-none a (sym e))
here_set (x ∷ xs) zero a b e = refl
here_set (x ∷ xs) (suc i) a b e = here_set xs i a b e

at_end : {A : Type 0} (l : List A) (a b : A) (j : ℕ) → get_elem? (l ++ a ∷ []) j ≡ some b → (get_elem? l j ≡ some b) ⊎ ((j ≡ length l) × (a ≡ b))
at_end [] a b zero e = inr (refl, some-injective a b e)
at_end [] a b (suc j) e = absurd (some-ne-none b (sym e))
at_end (x ∷ xs) a b zero e = inl e
at_end (x ∷ xs) a b (suc j) e = ⊎_elim (λ l. inl l) (λ r. inr (ap suc r.0, r.1)) (at_end xs a b j e)

one_at : (m n k : ℕ) → k < 1 → slice_index_or (m ∷ []) k n ≡ n → n ≡ m
one_at m n zero l e = sym e
one_at m n (suc k) l e = absurd (omega (arith, l))

one_in : (m n : ℕ) → Contains (m ∷ []) n → n ≡ m
one_in m n c = one_at m n c.0 c.1 c.2

module _ {T E : Type 0} (entries : T → List E) (caller : E → ℕ) (id : ℕ) where
  abbrev Goes : Me (Option T) (View E) → (ℕ → ℕ) → (ℕ → Me (Option T) (View E) → Type 0) → State (Option T) (View E) → Type 0
  Goes me f then s =
      (w : View E) × (a : Act (Option T)) × Valid s.homes me.1 a × KeepsRule entries caller (stepped s 0 (f (slice_index s.words 0)) id me.1 w a) × then (slice_index s.words 0) (w, carried_after me.1 a)

  abbrev tries : ℕ → ℕ
  tries n = either (n == 0) 1 n

  abbrev Seats : List E → List E → ℕ → (ℕ → ℕ) → List (View E) → Type 0
  Seats at_new since passes owner views = (j : ℕ) (u : View E) → get_elem? views j ≡ some u → IsSeat caller at_new since passes owner j u

  -- one view changes, and its seat stays under the rule
  seats_set : (views : List (View E)) (at_new since : List E) (passes : ℕ) (owner : ℕ → ℕ) (w : View E) → Seats at_new since passes owner views → IsSeat caller at_new since passes owner id w → Seats at_new since passes owner (slice_set views id w)
  seats_set views at_new since passes owner w seats new j u at =
      ⊎_elim (λ is. subst (λ (z : View E). IsSeat caller at_new since passes owner j z) is.1 (subst (λ i. IsSeat caller at_new since passes owner i w) (sym is.0) new)) (λ old. seats j u old.1) (at_set views id j w u at)

  -- the turn was free
  try_free : (views : List (View E)) (v : View E) (at_new since : List E) (passes : ℕ) (owner : ℕ → ℕ) (x : T) → get_elem? views id ≡ some v → Seats at_new since passes owner views → All (λ e. caller e < passes) since
      → ((j : ℕ) (u : View E) → get_elem? views j ≡ some u → u.holds ≡ false) → entries x ≡ at_new ++ since → Contains v.knowledge.numbers.value v.caller
      → Goes (v, []) tries (Tries entries caller (v, [])) (record { words = 0 ∷ []; homes = some (Some x) ∷ []; views = views })
  try_free views v at_new since passes owner x here seats callers free is own =
      let mine = seats id v here in
      let g = mine.goes_on in
      let w : View E = holding v (v.knowledge.since.value ++ g.rest) in
      let new : IsSeat caller at_new since passes owner id w = record { goes_on = mine.goes_on; join_of = mine.join_of; owns = mine.owns; first = mine.first } in (
        w,
        takes 0 (Some x),
        refl,
        record {
          at_new = at_new;
          since = since;
          passes = passes;
          owner = owner;
          seats = seats_set views at_new since passes owner w seats new;
          callers = callers;
          turn = inr (refl, refl, id, (w, here_set views id v w here, refl, v.caller, own), λ j u at holds. ⊎_elim (λ new. (new.0, ap (λ (z : View E). z.taken.value) (sym new.1) ∙ g.whole)) (λ old. absurd (cc (free j u old.1, holds))) (at_set views id j w u at));
        },
        (x, g.rest, refl, (is ∙ ap (λ l. at_new ++ l) (sym g.whole)) ∙ ap (λ b. b ++ (v.knowledge.since.value ++ g.rest)) (sym (g.starts v.caller own)), g.others),
      )

  -- somebody held it
  try_held : (views : List (View E)) (v : View E) → get_elem? views id ≡ some v → KeepsRule entries caller (record { words = 1 ∷ []; homes = none ∷ []; views = views })
      → Goes (v, []) tries (Tries entries caller (v, [])) (record { words = 1 ∷ []; homes = none ∷ []; views = views })
  try_held views v here rule =
      let same = set_again views id v here in (
        v,
        keeps,
        tt,
        subst (λ (l : List (View E)). KeepsRule entries caller (record { words = 1 ∷ []; homes = none ∷ []; views = l })) (sym same) rule,
        refl,
      )

  pub try_allows : (slots : ℕ) (v : View E) → Contains v.knowledge.numbers.value v.caller → Allows (KeepsRule entries caller) slots id (v, []) 0 tries (Tries entries caller (v, []))
  try_allows slots v own s rule len here range =
      ⊎_elim
      (λ free. subst (Goes (v, []) tries (Tries entries caller (v, []))) (λ i. record { words = sym free.0 i; homes = sym free.1.1 i; views = s.views }) (try_free s.views v rule.at_new rule.since rule.passes rule.owner free.1.0 here rule.seats rule.callers free.2 free.1.2 own))
      (λ held. subst (Goes (v, []) tries (Tries entries caller (v, []))) (λ i. record { words = sym held.0 i; homes = sym held.1 i; views = s.views })
      (try_held s.views v here (record { at_new = rule.at_new; since = rule.since; passes = rule.passes; owner = rule.owner; seats = rule.seats; callers = rule.callers; turn = inr (refl, refl, held.2, held.3, held.4) })))
      rule.turn

  -- what is held is given back
  module _ (views : List (View E)) (v : View E) (at_new since : List E) (passes : ℕ) (owner : ℕ → ℕ) (x : T) (holder : ℕ) (here : get_elem? views id ≡ some v) (mine : v.holds ≡ true) (own : Contains v.knowledge.numbers.value v.caller)
      (seats : Seats at_new since passes owner views) (callers : All (λ e. caller e < passes) since) (held : (j : ℕ) (u : View E) → get_elem? views j ≡ some u → u.holds ≡ true → (j ≡ holder) × (u.taken.value ≡ since)) where
    me_too : (id ≡ holder) × (v.taken.value ≡ since)
    me_too = held id v here mine

    rests : (w : View E) → w.holds ≡ false → (j : ℕ) (u : View E) → get_elem? (slice_set views id w) j ≡ some u → u.holds ≡ false
    rests w idle j u at = ⊎_elim (λ new. ap (λ (z : View E). z.holds) (sym new.1) ∙ idle) (λ old. not_held u.holds (λ yes. old.0 ((held j u old.1 yes).0 ∙ sym me_too.0))) (at_set views id j w u at)

    starts : v.knowledge.at_new.value ≡ at_new
    starts = (seats id v here).goes_on.starts v.caller own

    release_same : entries x ≡ v.knowledge.at_new.value ++ v.taken.value → Goes (v, (0, Some x) ∷ []) (λ n. 0) (λ _. Releases entries caller (v, (0, Some x) ∷ [])) (record { words = 1 ∷ []; homes = none ∷ []; views = views })
    release_same is =
        let s = seats id v here in
        let w : View E = idle_view v in (
          w,
          gives,
          tt,
          record {
            at_new = at_new;
            since = since;
            passes = passes;
            owner = owner;
            seats = seats_set views at_new since passes owner w seats (record { goes_on = s.goes_on; join_of = s.join_of; owns = s.owns; first = s.first });
            callers = callers;
            turn = inl (refl, (x, refl, is ∙ (λ i. starts i ++ me_too.1 i)), rests w refl);
          },
          (x, refl, inl (is, refl)),
        )

    others_go_on : (e : E) → caller e ≡ v.caller → (j : ℕ) (u : View E) → get_elem? views j ≡ some u → j ≢ id → IsSeat caller at_new (since ++ e ∷ []) passes owner j u
    others_go_on e by j u at apart =
        let s = seats j u at in
        let fresh_one : AreOthers caller u.knowledge.numbers.value (e ∷ []) = All-cons (λ f. ¬ (Contains u.knowledge.numbers.value (caller f))) e [] (λ c. apart (sym (s.owns (caller e) c).0 ∙ (ap owner by ∙ ((seats id v here).owns v.caller own).0))) (All-nil (λ f. ¬ (Contains u.knowledge.numbers.value (caller f)))) in
        record { goes_on = goes_on-append caller u.knowledge at_new since (e ∷ []) s.goes_on fresh_one; join_of = s.join_of; owns = s.owns; first = s.first }

    release_more : (e : E) → caller e ≡ v.caller → entries x ≡ (v.knowledge.at_new.value ++ v.taken.value) ++ e ∷ [] → Goes (v, (0, Some x) ∷ []) (λ n. 0) (λ _. Releases entries caller (v, (0, Some x) ∷ [])) (record { words = 1 ∷ []; homes = none ∷ []; views = views })
    release_more e by is =
        let s = seats id v here in
        let w : View E = added_view v e in
        let more : List E = since ++ e ∷ [] in
        let new : IsSeat caller at_new more passes owner id w = record {
          goes_on = record { starts = s.goes_on.starts; rest = []; whole = append-nil (v.taken.value ++ e ∷ []) ∙ ap (λ l. l ++ e ∷ []) me_too.1; others = All-nil (λ f. ¬ (Contains v.knowledge.numbers.value (caller f))) };
          join_of = (goes_on-nothing caller w.knowledge.at_new.value w.knowledge.since.value, goes_on-nothing caller w.knowledge.at_new.value w.knowledge.since.value);
          owns = s.owns;
          first = s.first;
        } in (
          w,
          gives,
          tt,
          record {
            at_new = at_new;
            since = more;
            passes = passes;
            owner = owner;
            seats = λ j u at. ⊎_elim (λ is. subst (λ (z : View E). IsSeat caller at_new more passes owner j z) is.1 (subst (λ i. IsSeat caller at_new more passes owner i w) (sym is.0) new)) (λ old. others_go_on e by j u old.1 old.0) (at_set views id j w u at);
            callers = All-push (λ f. caller f < passes) since e callers (subst (λ n. n < passes) (sym by) (s.owns v.caller own).1);
            turn = inl (refl, (x, refl, is ∙ ((λ i. (starts i ++ me_too.1 i) ++ e ∷ []) ∙ append_assoc at_new since (e ∷ []))), rests w refl);
          },
          (x, refl, inr (e, by, is, refl)),
        )

  pub release_allows : (slots : ℕ) (v : View E) (x : T) → v.holds ≡ true → Contains v.knowledge.numbers.value v.caller → Appends caller v.caller (v.knowledge.at_new.value ++ v.taken.value) (entries x)
      → Allows (KeepsRule entries caller) slots id (v, (0, Some x) ∷ []) 0 (λ n. 0) (λ _. Releases entries caller (v, (0, Some x) ∷ []))
  release_allows slots v x mine own adds s rule len here range =
      ⊎_elim
      (λ free. absurd (cc (free.2 id v here, mine)))
      (λ held. subst (Goes (v, (0, Some x) ∷ []) (λ n. 0) (λ _. Releases entries caller (v, (0, Some x) ∷ []))) (λ i. record { words = sym held.0 i; homes = sym held.1 i; views = s.views })
      (⊎_elim
      (λ same. release_same s.views v rule.at_new rule.since rule.passes rule.owner x held.2 here mine own rule.seats rule.callers held.4 same)
      (λ more. release_more s.views v rule.at_new rule.since rule.passes rule.owner x held.2 here mine own rule.seats rule.callers held.4 more.0 more.1 more.2)
      adds))
      rule.turn

  -- nothing changes, and a seat learns what its last join put together
  pub tell_allows : (slots : ℕ) (v : View E) (c : List (ℕ × Option T)) → Allows (KeepsRule entries caller) slots id (v, c) 0 (λ n. n) (λ found after. TellsOfJoin caller (v, c) after)
  tell_allows slots v c s rule len here range =
      let same = set_again s.views id v here in
      let words = same_words s.words in (
        v,
        keeps,
        tt,
        subst (KeepsRule entries caller) (λ i. record { words = sym words i; homes = s.homes; views = sym same i }) rule,
        (refl, (rule.seats id v here).join_of),
      )

  -- one seat more, of the passes number, that has seen what the first has
  module _ (views : List (View E)) (v : View E) (at_new since : List E) (passes : ℕ) (owner : ℕ → ℕ) (here : get_elem? views id ≡ some v) (zeroth : Contains v.knowledge.numbers.value 0)
      (seats : Seats at_new since passes owner views) (callers : All (λ e. caller e < passes) since) where
    abbrev owner_then : ℕ → ℕ
    owner_then n = cond (eqb n passes) (length views) (owner n)

    mine_split : IsSeat caller at_new since passes owner id v
    mine_split = seats id v here

    is_next : v.passes ≡ passes
    is_next = (mine_split.first zeroth).1

    own_then : (j n : ℕ) → (owner n ≡ j) × (n < passes) → (owner_then n ≡ j) × (n < suc passes)
    own_then j n o = let ne : n ≢ passes = λ e. omega (arith, o.1, e) in (ap (λ b. cond b (length views) (owner n)) (ne_eqb n passes ne) ∙ o.0, omega (arith, o.1))

    counted_seat : IsSeat caller at_new since (suc passes) owner_then id (counted_view v)
    counted_seat = record { goes_on = mine_split.goes_on; join_of = mine_split.join_of; owns = λ n c. own_then id n (mine_split.owns n c); first = λ c. ((mine_split.first c).0, ap suc (mine_split.first c).1) }

    other_seat : (j : ℕ) (u : View E) → get_elem? views j ≡ some u → j ≢ id → IsSeat caller at_new since (suc passes) owner_then j u
    other_seat j u at apart =
        let s = seats j u at in
        record { goes_on = s.goes_on; join_of = s.join_of; owns = λ n c. own_then j n (s.owns n c); first = λ c. absurd (apart (sym (s.owns 0 c).0 ∙ (mine_split.owns 0 zeroth).0)) }

    new_seat : IsSeat caller at_new since (suc passes) owner_then (length views) (next_view v)
    new_seat =
        let g = mine_split.goes_on in
        let rest : All (λ e. caller e < passes) g.rest = all_right (λ e. caller e < passes) v.knowledge.since.value g.rest (subst (λ l. All (λ e. caller e < passes) l) (sym g.whole) callers) in
        let w : View E = next_view v in
        record {
          goes_on = record { starts = λ n c. g.starts 0 zeroth; rest = g.rest; whole = g.whole; others = All-weaker (λ e. caller e < passes) (λ e. ¬ (Contains (v.passes ∷ []) (caller e))) (λ e l c. absurd (omega (arith, l, one_in v.passes (caller e) c, is_next))) g.rest rest };
          join_of = (goes_on-nothing caller w.knowledge.at_new.value w.knowledge.since.value, goes_on-nothing caller w.knowledge.at_new.value w.knowledge.since.value);
          owns = λ n c. let e : n ≡ passes = one_in v.passes n c ∙ is_next in (ap (λ b. cond b (length views) (owner n)) (eq-eqb n passes e), omega (arith, e));
          first = λ c. absurd (omega (arith, one_in v.passes 0 c, is_next, (mine_split.owns 0 zeroth).1));
        }

    split_seats : (j : ℕ) (u : View E) → get_elem? (slice_set views id (counted_view v) ++ next_view v ∷ []) j ≡ some u → IsSeat caller at_new since (suc passes) owner_then j u
    split_seats j u at =
        ⊎_elim
        (λ old. ⊎_elim
        (λ is. subst (λ (z : View E). IsSeat caller at_new since (suc passes) owner_then j z) is.1 (subst (λ i. IsSeat caller at_new since (suc passes) owner_then i (counted_view v)) (sym is.0) counted_seat))
        (λ else. other_seat j u else.1 else.0)
        (at_set views id j (counted_view v) u old))
        (λ new. subst (λ (z : View E). IsSeat caller at_new since (suc passes) owner_then j z) new.1 (subst (λ i. IsSeat caller at_new since (suc passes) owner_then i (next_view v)) (sym (new.0 ∙ length-set views id (counted_view v))) new_seat))
        (at_end (slice_set views id (counted_view v)) (next_view v) u j at)

    split_view : (j : ℕ) (u : View E) → get_elem? (slice_set views id (counted_view v) ++ next_view v ∷ []) j ≡ some u → (u.holds ≡ false) ⊎ ((get_elem? views j ≡ some u) ⊎ ((j ≡ id) × (u.holds ≡ v.holds)))
    split_view j u at =
        ⊎_elim
        (λ old. ⊎_elim (λ is. inr (inr (is.0, ap (λ (z : View E). z.holds) (sym is.1)))) (λ else. inr (inl else.1)) (at_set views id j (counted_view v) u old))
        (λ new. inl (ap (λ (z : View E). z.holds) (sym new.1)))
        (at_end (slice_set views id (counted_view v)) (next_view v) u j at)

  pub splits : (v : View E) → v.holds ≡ false → Contains v.knowledge.numbers.value 0 → Splits (KeepsRule entries caller) id v (counted_view v) (next_view v)
  splits v idle zeroth s rule here =
      record {
        at_new = rule.at_new;
        since = rule.since;
        passes = suc rule.passes;
        owner = owner_then s.views v rule.at_new rule.since rule.passes rule.owner here zeroth rule.seats rule.callers;
        seats = split_seats s.views v rule.at_new rule.since rule.passes rule.owner here zeroth rule.seats rule.callers;
        callers = All-weaker (λ e. caller e < rule.passes) (λ e. caller e < suc rule.passes) (λ e l. omega (arith, l)) rule.since rule.callers;
        turn = ⊎_elim
            (λ free. inl (free.0, free.1, λ j u at. ⊎_elim (λ a. a) (λ b. ⊎_elim (λ old. free.2 j u old) (λ w. w.1 ∙ idle) b) (split_view s.views v rule.at_new rule.since rule.passes rule.owner here zeroth rule.seats rule.callers j u at)))
            (λ held.
            let apart : held.2 ≢ id = λ e. absurd (cc (some-injective held.3.0 v (sym held.3.1 ∙ (ap (λ i. get_elem? s.views i) e ∙ here)), held.3.2, idle)) in
            inr (held.0, held.1, held.2, (held.3.0, at_longer (slice_set s.views id (counted_view v)) (next_view v ∷ []) held.2 held.3.0 (set_else s.views id held.2 (counted_view v) apart ∙ held.3.1), held.3.2, held.3.3, held.3.4), λ j u at yes. ⊎_elim (λ a. absurd (cc (a, yes))) (λ b. ⊎_elim (λ old. held.4 j u old yes) (λ w. absurd (cc (w.1, idle, yes))) b) (split_view s.views v rule.at_new rule.since rule.passes rule.owner here zeroth rule.seats rule.callers j u at)))
            rule.turn;
      }

  -- two seats become one, that knows what both knew
  module _ (views : List (View E)) (v w : View E) (other : ℕ) (at_new since : List E) (passes : ℕ) (owner : ℕ → ℕ) (here : get_elem? views id ≡ some v) (there : get_elem? views other ≡ some w) (apart : other ≢ id)
      (own : Contains v.knowledge.numbers.value v.caller) (later : w.caller ≢ 0) (seats : Seats at_new since passes owner views) where
    abbrev owner_joined : ℕ → ℕ
    owner_joined n = cond (eqb (owner n) other) id (owner n)

    mine_join : IsSeat caller at_new since passes owner id v
    mine_join = seats id v here

    theirs_join : IsSeat caller at_new since passes owner other w
    theirs_join = seats other w there

    not_theirs : (j n : ℕ) → j ≢ other → (owner n ≡ j) × (n < passes) → (owner_joined n ≡ j) × (n < passes)
    not_theirs j n ne o = (ap (λ b. cond b id (owner n)) (ne_eqb (owner n) other (λ e. ne (sym o.0 ∙ e))) ∙ o.0, o.1)

    both_parts : GoesOn caller (joined_view v w).knowledge at_new since × GoesOn caller v.knowledge v.knowledge.at_new.value (joined_view v w).knowledge.since.value × GoesOn caller w.knowledge v.knowledge.at_new.value (joined_view v w).knowledge.since.value
    both_parts = both_longer caller v.knowledge w.knowledge at_new since (mine_join.goes_on.starts v.caller own) mine_join.goes_on theirs_join.goes_on

    joined_seat : IsSeat caller at_new since passes owner_joined id (joined_view v w)
    joined_seat = record {
      goes_on = both_parts.0;
      join_of = (both_parts.1, both_parts.2);
      owns = λ n c. ⊎_elim
          (λ a. not_theirs id n (λ e. apart (sym e)) (mine_join.owns n a))
          (λ b. (ap (λ t. cond t id (owner n)) (eq-eqb (owner n) other (theirs_join.owns n b).0), (theirs_join.owns n b).1))
          (Contains-append_cases v.knowledge.numbers.value w.knowledge.numbers.value n c);
      first = λ c. ⊎_elim (λ a. mine_join.first a) (λ b. absurd (later (theirs_join.first b).0)) (Contains-append_cases v.knowledge.numbers.value w.knowledge.numbers.value 0 c);
    }

    spent_seat : (j : ℕ) → IsSeat caller at_new since passes owner_joined j spent_view
    spent_seat j = record { goes_on = goes_on-nothing caller at_new since; join_of = (goes_on-nothing caller [] [], goes_on-nothing caller [] []); owns = λ n c. absurd (none_in n c); first = λ c. absurd (none_in 0 c) }

    join_view : (j : ℕ) (u : View E) → get_elem? (slice_set (slice_set views id (joined_view v w)) other spent_view) j ≡ some u → (spent_view ≡ u) ⊎ ((j ≢ other) × (((j ≡ id) × (joined_view v w ≡ u)) ⊎ ((j ≢ id) × (get_elem? views j ≡ some u))))
    join_view j u at = ⊎_elim (λ is. inl is.1) (λ else. inr (else.0, at_set views id j (joined_view v w) u else.1)) (at_set (slice_set views id (joined_view v w)) other j spent_view u at)

    join_seats : (j : ℕ) (u : View E) → get_elem? (slice_set (slice_set views id (joined_view v w)) other spent_view) j ≡ some u → IsSeat caller at_new since passes owner_joined j u
    join_seats j u at =
        ⊎_elim
        (λ is. subst (λ (z : View E). IsSeat caller at_new since passes owner_joined j z) is (spent_seat j))
        (λ else. ⊎_elim
        (λ is. subst (λ (z : View E). IsSeat caller at_new since passes owner_joined j z) is.1 (subst (λ i. IsSeat caller at_new since passes owner_joined i (joined_view v w)) (sym is.0) joined_seat))
        (λ old. let s = seats j u old.1 in record { goes_on = s.goes_on; join_of = s.join_of; owns = λ n c. not_theirs j n else.0 (s.owns n c); first = s.first })
        else.1)
        (join_view j u at)

  pub joins : (v w : View E) (other : ℕ) → v.holds ≡ false → w.holds ≡ false → Contains v.knowledge.numbers.value v.caller → w.caller ≢ 0 → Joins (KeepsRule entries caller) id v other w (joined_view v w) spent_view
  joins v w other idle idle_too own later s rule here apart found =
      let there : get_elem? s.views other ≡ some w = ⊎_elim (λ is. absurd (apart is.0)) (λ old. old.1) (at_set s.views id other (joined_view v w) w found) in
      let view = join_view s.views v w other rule.at_new rule.since rule.passes rule.owner here there apart own later rule.seats in
      record {
        at_new = rule.at_new;
        since = rule.since;
        passes = rule.passes;
        owner = owner_joined s.views v w other rule.at_new rule.since rule.passes rule.owner here there apart own later rule.seats;
        seats = join_seats s.views v w other rule.at_new rule.since rule.passes rule.owner here there apart own later rule.seats;
        callers = rule.callers;
        turn = ⊎_elim
            (λ free. inl (free.0, free.1, λ j u at. ⊎_elim (λ a. ap (λ (z : View E). z.holds) (sym a)) (λ b. ⊎_elim (λ is. ap (λ (z : View E). z.holds) (sym is.1) ∙ idle) (λ old. free.2 j u old.1) b.1) (view j u at)))
            (λ held.
            let not_me : held.2 ≢ id = λ e. absurd (cc (some-injective held.3.0 v (sym held.3.1 ∙ (ap (λ i. get_elem? s.views i) e ∙ here)), held.3.2, idle)) in
            let not_it : held.2 ≢ other = λ e. absurd (cc (some-injective held.3.0 w (sym held.3.1 ∙ (ap (λ i. get_elem? s.views i) e ∙ there)), held.3.2, idle_too)) in
            inr (
              held.0,
              held.1,
              held.2,
              (held.3.0, set_else (slice_set s.views id (joined_view v w)) other held.2 spent_view not_it ∙ (set_else s.views id held.2 (joined_view v w) not_me ∙ held.3.1), held.3.2, held.3.3, held.3.4),
              λ j u at yes. ⊎_elim (λ a. absurd (cc (ap (λ (z : View E). z.holds) (sym a), yes))) (λ b. ⊎_elim (λ is. absurd (cc (ap (λ (z : View E). z.holds) (sym is.1) ∙ idle, yes))) (λ old. held.4 j u old.1 yes) b.1) (view j u at),
            ))
            rule.turn;
      }

  -- where each number was joined_view into the first pass, it has seen all, and the turn is free
  pub ends : (s : State (Option T) (View E)) (v : View E) → KeepsRule entries caller s → get_elem? s.views id ≡ some v → v.holds ≡ false → v.caller ≡ 0 → Contains v.knowledge.numbers.value v.caller → ((n : ℕ) → n < v.passes → Contains v.knowledge.numbers.value n)
      → (x : T) × (s.homes ≡ some (Some x) ∷ []) × (entries x ≡ v.knowledge.at_new.value ++ v.knowledge.since.value) × All (λ e. caller e < v.passes) v.knowledge.since.value
  ends s v rule here idle zeroth own all =
      let mine = rule.seats id v here in
      let g = mine.goes_on in
      let zero_own : Contains v.knowledge.numbers.value 0 = subst (λ n. Contains v.knowledge.numbers.value n) zeroth own in
      let last : v.passes ≡ rule.passes = (mine.first zero_own).1 in
      let every : (n : ℕ) → n < rule.passes → Contains v.knowledge.numbers.value n = λ n l. all n (omega (arith, l, last)) in
      let under : All (λ e. caller e < rule.passes) (v.knowledge.since.value ++ g.rest) = subst (λ l. All (λ e. caller e < rule.passes) l) (sym g.whole) rule.callers in
      let empty = nothing_left caller v.knowledge.numbers.value rule.passes g.rest every g.others (all_right (λ e. caller e < rule.passes) v.knowledge.since.value g.rest under) in
      let whole : rule.since ≡ v.knowledge.since.value = sym g.whole ∙ (ap (λ l. v.knowledge.since.value ++ l) empty ∙ append-nil v.knowledge.since.value) in
      ⊎_elim
      (λ free. (free.1.0, free.1.1, free.1.2 ∙ (λ i. sym (g.starts 0 zero_own) i ++ whole i), All-weaker (λ e. caller e < rule.passes) (λ e. caller e < v.passes) (λ e l. omega (arith, l, last)) v.knowledge.since.value (subst (λ l. All (λ e. caller e < rule.passes) l) whole rule.callers)))
      (λ held.
      let theirs = (rule.seats held.2 held.3.0 held.3.1).owns held.3.3 held.3.4 in
      let same : held.2 ≡ id = sym theirs.0 ∙ (mine.owns held.3.3 (every held.3.3 theirs.1)).0 in
      absurd (cc (some-injective held.3.0 v (sym held.3.1 ∙ (ap (λ i. get_elem? s.views i) same ∙ here)), held.3.2, idle)))
      rule.turn

alone : {E : Type 0} (j : ℕ) (v u : View E) → get_elem? (v ∷ []) j ≡ some u → (j ≡ 0) × (v ≡ u)
alone zero v u at = (refl, some-injective v u at)
alone (suc j) v u at = absurd (some-ne-none u (sym at))

-- the table as it is made
pub opens : {T E : Type 0} (entries : T → List E) (caller : E → ℕ) (x : T) (items : List (Option T)) → items ≡ Some x ∷ [] → KeepsRule entries caller (opening (0 ∷ []) items (first_view (entries x)))
opens {T} {E} entries caller x items is =
    let v : View E = first_view (entries x) in
    let start : IsSeat caller (entries x) [] 1 (λ n. 0) 0 v = record { goes_on = goes_on-same caller v.knowledge; join_of = (goes_on-nothing caller (entries x) [], goes_on-nothing caller (entries x) []); owns = λ n c. (refl, omega (arith, one_in 0 n c)); first = λ c. (refl, refl) } in
    subst (λ (l : List (Option T)). KeepsRule entries caller (opening (0 ∷ []) l v)) (sym is) (record {
      at_new = entries x;
      since = [];
      passes = 1;
      owner = λ n. 0;
      seats = λ j u at. let a = alone j v u at in subst (λ (z : View E). IsSeat caller (entries x) [] 1 (λ n. 0) j z) a.1 (subst (λ i. IsSeat caller (entries x) [] 1 (λ n. 0) i v) (sym a.0) start);
      callers = All-nil (λ e. caller e < 1);
      turn = inl (refl, (x, refl, sym (append-nil (entries x))), λ j u at. ap (λ (z : View E). z.holds) (sym (alone j v u at).1));
    })

-- the value that comes out at the end
pub closes : {T E : Type 0} (entries : T → List E) (caller : E → ℕ) (id : ℕ) (v : View E) (ws : List ℕ) (xs : List (Option T)) (y : Option T) → Final (Seen (KeepsRule entries caller) id v) ws xs → get_elem? xs 0 ≡ some y
    → v.holds ≡ false → v.caller ≡ 0 → Contains v.knowledge.numbers.value v.caller → ((n : ℕ) → n < v.passes → Contains v.knowledge.numbers.value n)
    → (x : T) × (y ≡ Some x) × (entries x ≡ v.knowledge.at_new.value ++ v.knowledge.since.value) × All (λ e. caller e < v.passes) v.knowledge.since.value
closes {T} {E} entries caller id v ws xs y final at idle zeroth own all =
    let e = ends entries caller id final.0 v final.1.0 final.1.1 idle zeroth own all in
    let first : get_elem? final.0.homes 0 ≡ some (some (Some e.0)) = ap (λ (l : List (mathlib.Core.Option.Option (Option T))). get_elem? l 0) e.1 in
    (e.0, some-injective y (Some e.0) (sym at ∙ final.4 0 (Some e.0) first), e.2, e.3)
