-- Traces, one after the other.
use Rattle.std.proofs.Common.{◌≡◌, inl, inr, ℕ, List, [], ◌++◌, Option, Result, Ok, Err, refl, sym, ◌∙◌, ap, subst, append_assoc}
use Rattle.base_types.specs.Fronts.{Front, Partial}
use Rattle.raw_pack.specs.Reading.{IsNoMore}
use Rattle.interaction_tree.specs.Wanted.{Value, Fault, front_of}
use Rattle.interaction_tree.specs.Requests.{OwnEntry}
use Rattle.interaction_tree.specs.Interaction.{Interaction, gives, ends, writes, reads, asks, ◌>>=◌}
use Rattle.interaction_tree.specs.Traces.{Reading, Writing, Memory, Halt, Ended, Failed, IsTrace}
use Rattle.interaction_tree.proofs.FrontLemmas.{nothing_there}

-- memory may lack at once
pub trace_memory : {E A : Type 0} (left : Option (List ℕ)) (t : Interaction E A) → IsTrace left (Err (Failed Memory)) t [] [] []
trace_memory left (gives a) = ((refl, refl), refl)
trace_memory left (ends e) = ((refl, refl), refl)
trace_memory left (writes bytes t) = inl ((refl, (bytes, refl)), refl)
trace_memory left (reads wanted cut f) = inl (inl (refl, undecided (nothing_there wanted).0 (nothing_there wanted).1), refl)
  where
    undecided : (fault : Fault wanted) → front_of wanted [] ≡ Partial fault → IsNoMore (front_of wanted []) 0
    undecided fault is = subst (λ (at : Front (Value wanted) (Fault wanted)). IsNoMore at 0) (sym is) tt
trace_memory left (asks request f) = inl ((refl, refl), refl)

module _ {E A B : Type 0} (k : A → Interaction E B) where
  -- the first gave its value, and the second went on from it
  pub trace_bind : (left left' : Option (List ℕ)) (x : A) (out : Result B (Halt E)) (t : Interaction E A) (read written : List ℕ) (own : List OwnEntry) (read' written' : List ℕ) (own' : List OwnEntry)
      → IsTrace left (Ok x) t read written own → IsTrace left' out (k x) read' written' own' → IsTrace left' out (t >>= k) (read ++ read') (written ++ written') (own ++ own')
  unfolding ◌>>=◌
  trace_bind left left' x out (gives y) read written own read' written' own' p q = rw (p.0.1, p.0.2, p.1, sym p.0.0) q
  trace_bind left left' x out (ends e) read written own read' written' own' p q = absurd p.0
  trace_bind left left' x out (writes bytes t) read written own read' written' own' (inl p) q = absurd p.0
  trace_bind left left' x out (writes bytes t) read written own read' written' own' (inr p) q =
      inr (p.0 ++ written', ap (λ (l : List ℕ). l ++ written') p.1 ∙ append_assoc bytes p.0 written', trace_bind left left' x out t read p.0 own read' written' own' p.2 q)
  trace_bind left left' x out (reads wanted cut f) read written own read' written' own' (inl p) q = absurd p.0
  trace_bind left left' x out (reads wanted cut f) read written own read' written' own' (inr p) q =
      inr (p.0, p.1 ++ read', p.2, ap (λ (l : List ℕ). l ++ read') p.3 ∙ append_assoc p.0 p.1 read', p.4, trace_bind left left' x out (f (record { used = _; found = p.2 })) p.1 written own read' written' own' p.5 q)
  trace_bind left left' x out (asks request f) read written own read' written' own' (inl p) q = absurd p.0
  trace_bind left left' x out (asks request f) read written own read' written' own' (inr p) q =
      inr (p.0, p.1 ++ own', ap (λ (l : List OwnEntry). l ++ own') p.2, p.3, trace_bind left left' x out (f p.0) read written p.1 read' written' own' p.4 q)

  -- the first was left without a value
  pub trace_halts : (left : Option (List ℕ)) (halt : Halt E) (t : Interaction E A) (read written : List ℕ) (own : List OwnEntry) → IsTrace left (Err halt) t read written own → IsTrace left (Err halt) (t >>= k) read written own
  unfolding ◌>>=◌
  trace_halts left (Ended e) (gives y) read written own p = absurd p.0
  trace_halts left (Failed Reading) (gives y) read written own p = absurd p.0
  trace_halts left (Failed Writing) (gives y) read written own p = absurd p.0
  trace_halts left (Failed Memory) (gives y) read written own p = rw (p.0.0, p.0.1, p.1) (trace_memory left (k y))
  trace_halts left (Ended e) (ends e') read written own p = p
  trace_halts left (Failed Reading) (ends e') read written own p = absurd p.0
  trace_halts left (Failed Writing) (ends e') read written own p = absurd p.0
  trace_halts left (Failed Memory) (ends e') read written own p = p
  trace_halts left (Ended e) (writes bytes t) read written own (inl p) = absurd p.0
  trace_halts left (Failed Reading) (writes bytes t) read written own (inl p) = absurd p.0
  trace_halts left (Failed Writing) (writes bytes t) read written own (inl p) = inl p
  trace_halts left (Failed Memory) (writes bytes t) read written own (inl p) = inl p
  trace_halts left halt (writes bytes t) read written own (inr p) = inr (p.0, p.1, trace_halts left halt t read p.0 own p.2)
  trace_halts left (Ended e) (reads wanted cut f) read written own (inl p) = inl p
  trace_halts left (Failed Reading) (reads wanted cut f) read written own (inl p) = inl p
  trace_halts left (Failed Writing) (reads wanted cut f) read written own (inl p) = inl p
  trace_halts left (Failed Memory) (reads wanted cut f) read written own (inl p) = inl p
  trace_halts left halt (reads wanted cut f) read written own (inr p) = inr (p.0, p.1, p.2, p.3, p.4, trace_halts left halt (f (record { used = _; found = p.2 })) p.1 written own p.5)
  trace_halts left (Ended e) (asks request f) read written own (inl p) = absurd p.0
  trace_halts left (Failed Reading) (asks request f) read written own (inl p) = absurd p.0
  trace_halts left (Failed Writing) (asks request f) read written own (inl p) = absurd p.0
  trace_halts left (Failed Memory) (asks request f) read written own (inl p) = inl p
  trace_halts left halt (asks request f) read written own (inr p) = inr (p.0, p.1, p.2, p.3, trace_halts left halt (f p.0) read written p.1 p.4)
