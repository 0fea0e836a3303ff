-- Openings that wait, one more after the other.
use Rattle.std.proofs.Common.{◌≡◌, ℕ, suc, ◌<◌, ◌+◌, List, [], ◌∷◌, ◌++◌, length, take, sym, ap, ◌∙◌, take-suc, slice_index_or, arith, append_assoc}
use Rattle.std.proofs.lemmas.List.{map-append}
use Rattle.record_file.specs.Groups.{BuilderState}
use Rattle.stored_hub.specs.declared.account.Queued.{Queued}
use Rattle.stored_hub.specs.Stored.{bodies_waiting, body_waiting}

one_more : (queue : List Queued) (i : ℕ) (q : Queued) → i < length queue → q ≡ slice_index_or queue i q → bodies_waiting (take (i + 1) queue) ≡ bodies_waiting (take i queue) ++ body_waiting q ∷ []
one_more queue i q below is =
    let next : i + 1 ≡ suc i = omega arith in
    ap (λ (n : ℕ). bodies_waiting (take n queue)) next
    ∙ ap bodies_waiting (take-suc queue i q below ∙ ap (λ (x : Queued). take i queue ++ x ∷ []) (sym is))
    ∙ map-append body_waiting (take i queue) (q ∷ [])

-- A builder that has the bodies of those before has those of one more, once that one is written and the next
-- record is begun.
pub waiting_more : (queue : List Queued) (i : ℕ) (q : Queued) (first : List (List ℕ)) (old written new : BuilderState) → i < length queue → q ≡ slice_index_or queue i q
    → old ≡ record { bodies = first ++ bodies_waiting (take i queue); body = [] } → written ≡ record { bodies = old.bodies; body = body_waiting q } → new ≡ record { bodies = written.bodies ++ written.body ∷ []; body = [] }
    → new ≡ record { bodies = first ++ bodies_waiting (take (i + 1) queue); body = [] }
waiting_more queue i q first old written new below is was writes ends =
    ends
    ∙ ap (λ (b : BuilderState). record { bodies = b.bodies ++ b.body ∷ []; body = [] }) writes
    ∙ ap (λ (b : BuilderState). record { bodies = b.bodies ++ body_waiting q ∷ []; body = [] }) was
    ∙ ap (λ (bodies : List (List ℕ)). record { bodies = bodies; body = [] }) (append_assoc first (bodies_waiting (take i queue)) (body_waiting q ∷ []) ∙ ap (λ (rest : List (List ℕ)). first ++ rest) (sym (one_more queue i q below is)))

-- The group of those that wait, and of one record behind them.
pub group_behind : (queue first : List Queued) (body : List ℕ) (begun written : BuilderState) (group : List (List ℕ)) → first ≡ queue → begun ≡ record { bodies = bodies_waiting first; body = [] }
    → written ≡ record { bodies = begun.bodies; body = body } → group ≡ written.bodies ++ written.body ∷ [] → group ≡ bodies_waiting queue ++ body ∷ []
group_behind queue first body begun written group same was writes ends =
    ends
    ∙ ap (λ (b : BuilderState). b.bodies ++ b.body ∷ []) writes
    ∙ ap (λ (b : BuilderState). b.bodies ++ body ∷ []) was
    ∙ ap (λ (waiting : List Queued). bodies_waiting waiting ++ body ∷ []) same
