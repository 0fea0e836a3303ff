-- Openings that let their user in, and calls of a gate behind them.
use Rattle.std.proofs.Common.{◌≡◌, ℕ, List, [], ◌∷◌, ◌++◌, map, Option, Some, None, refl, sym, ◌∙◌, ap, subst, append-nil, append_assoc}
use Rattle.hub_history.specs.declared.entry.Entry.{Entry}
use Rattle.hub.specs.Desk.{DeskView, MakesEntry}
use Rattle.interaction_tree.specs.Requests.{OwnEntry}
use Rattle.interaction_tree.specs.Growth.{own_since}
use Rattle.interaction_tree.proofs.DeskLemmas.{made_since}
use Rattle.session_core.specs.Gate.{CallsGate, GateCall, IsCalled, LetsIn, gate_calls, place_let_in, places_let_in}
use Rattle.session_core.proofs.RulebookLemmas.{made_more}

places_more : (xs ys : List OwnEntry) → places_let_in (xs ++ ys) ≡ places_let_in xs ++ places_let_in ys
places_more [] ys = refl
places_more (x ∷ xs) ys = ap (λ (l : List ℕ). place_let_in x ++ l) (places_more xs ys) ∙ sym (append_assoc (place_let_in x) (places_let_in xs) (places_let_in ys))

-- no entry at all
pub lets_in_none : (d e : DeskView) → e ≡ d → LetsIn d e []
lets_in_none d e same = record { own = []; made = same; places_are = refl }

-- one entry
pub lets_in_one : (d e : DeskView) (before : List Entry) (entry : Entry) → MakesEntry d e before entry → LetsIn d e (place_let_in (record { before = before; entry = entry }))
lets_in_one d e before entry makes =
    let one : OwnEntry = record { before = before; entry = entry } in
    record { own = one ∷ []; made = (e, makes, refl); places_are = append-nil (place_let_in one) }

-- one after the other
pub lets_in_more : (d e f : DeskView) (xs ys : List ℕ) → LetsIn d e xs → LetsIn e f ys → LetsIn d f (xs ++ ys)
lets_in_more d e f xs ys p q = record {
  own = p.own ++ q.own;
  made = made_more d e f p.own q.own p.made q.made;
  places_are = places_more p.own q.own ∙ ap (λ (l : List ℕ). l ++ places_let_in q.own) p.places_are ∙ ap (λ (l : List ℕ). xs ++ l) q.places_are;
}

abbrev calls_at : Option (List ℕ) → List ℕ → List GateCall
calls_at written places = map (λ place. record { place = place; written = written }) places

uncalled : (calls : Option (List GateCall)) → IsCalled calls calls []
uncalled None = refl
uncalled (Some calls) = ap (λ (l : List GateCall). Some l) (sym (append-nil calls))

-- nobody is let in, and the gate isn't called
pub calls_none : (d e : DeskView) (calls : Option (List GateCall)) (written : Option (List ℕ)) → LetsIn d e [] → CallsGate d e calls calls written
calls_none d e calls written p = record {
  own = p.own;
  made = p.made;
  called = subst (λ (places : List ℕ). IsCalled calls calls (calls_at written places)) (sym p.places_are) (uncalled calls);
}

-- the user is let in once, and the gate is called
pub calls_one : (d e : DeskView) (calls calls' : Option (List GateCall)) (written : Option (List ℕ)) (place : ℕ) → LetsIn d e (place ∷ []) → IsCalled calls calls' (record { place = place; written = written } ∷ []) → CallsGate d e calls calls' written
calls_one d e calls calls' written place p called = record {
  own = p.own;
  made = p.made;
  called = subst (λ (places : List ℕ). IsCalled calls calls' (calls_at written places)) (sym p.places_are) called;
}

-- what was called since is of the entries that the caller made since
pub gates_since : (d e : DeskView) (calls calls' : Option (List GateCall)) (written : Option (List ℕ)) → CallsGate d e calls calls' written → IsCalled calls calls' (gate_calls written (own_since d e))
gates_since d e calls calls' written p = subst (λ (own : List OwnEntry). IsCalled calls calls' (gate_calls written own)) (made_since d e p.own p.made) p.called
