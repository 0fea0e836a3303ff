-- The wants, one after the other.
use Rattle.std.proofs.Common.{◌≡◌, ℕ, suc, List, [], ◌∷◌, ◌++◌, Option, None, Some, Result, Ok, Err, sym, ◌∙◌, ap, subst}
use Rattle.git_object.specs.declared.object_id.ObjectId.{ObjectId}
use Rattle.pktline_core.specs.LinkState.{LinkState}
use Rattle.hub.specs.Desk.{DeskView}
use Rattle.interaction_tree.specs.Interaction.{Interaction, ◌>>=◌}
use Rattle.interaction_tree.specs.Traces.{Halt}
use Rattle.interaction_tree.specs.Runs.{Runs}
use Rattle.interaction_tree.proofs.RunLemmas.{runs_bind, runs_gives, runs_halts}
use Rattle.session_core.specs.declared.end.SessionEnd.{SessionEnd}
use Rattle.session_core.specs.End.{halt_of, outcome_at}
use Rattle.session_core.proofs.StepLemmas.{refused}
use Rattle.upload_pack.specs.Wants.{by_want, taking_want, taking_wants, too_many_wants}

-- what follows the next packet where there may be one more want, and where there may be none
pub one_may_come : (may left : ℕ) (wants : List ObjectId) (offset : ℕ) → may ≡ suc left → taking_wants may wants offset ≡ taking_want offset >>= by_want (taking_wants left) wants
unfolding taking_wants
one_may_come may left wants offset is = ap (λ (n : ℕ). taking_wants n wants offset) is

pub none_may_come : (may : ℕ) (wants : List ObjectId) (offset : ℕ) → may ≡ 0 → taking_wants may wants offset ≡ taking_want offset >>= by_want (λ all behind. too_many_wants) wants
unfolding taking_wants
none_may_come may wants offset is = ap (λ (n : ℕ). taking_wants n wants offset) is

module _ (a b : LinkState) (d : DeskView) (more : List ObjectId → ℕ → Interaction SessionEnd (List ObjectId × ℕ)) (wants : List ObjectId) (offset behind may : ℕ)
    (is : taking_wants may wants offset ≡ taking_want offset >>= by_want more wants) (result : Result (Option ObjectId) SessionEnd) (ran : Runs a b d d (taking_want offset) (outcome_at result behind)) where
  as_next : (c : LinkState) (out : Result (List ObjectId × ℕ) (Halt SessionEnd)) → Runs a c d d (taking_want offset >>= by_want more wants) out → Runs a c d d (taking_wants may wants offset) out
  as_next c out p = subst (λ (t : Interaction SessionEnd (List ObjectId × ℕ)). Runs a c d d t out) (sym is) p

  found : (answer : Result (Option ObjectId) SessionEnd) → result ≡ answer → Runs a b d d (taking_want offset) (outcome_at answer behind)
  found answer was = subst (λ (r : Result (Option ObjectId) SessionEnd). Runs a b d d (taking_want offset) (outcome_at r behind)) was ran

  -- the session ends with it
  pub want_exits : (r : Result (List ObjectId) SessionEnd) (end y : SessionEnd) (at : ℕ) → result ≡ Err end → r ≡ Err y → y ≡ end → Runs a b d d (taking_wants may wants offset) (outcome_at r at)
  want_exits r end y at was told same =
      as_next b (outcome_at r at)
      (subst (λ (r : Result (List ObjectId) SessionEnd). Runs a b d d (taking_want offset >>= by_want more wants) (outcome_at r at)) (sym (told ∙ ap (λ (x : SessionEnd). Err x) same))
      (runs_halts a b d d (taking_want offset) (by_want more wants) (halt_of end) (found (Err end) was)))

  -- a flush
  pub want_ends : result ≡ Ok None → Runs a b d d (taking_wants may wants offset) (Ok (wants, behind))
  want_ends was = as_next b (Ok (wants, behind)) (runs_bind a b b d d d (taking_want offset) (None, behind) (by_want more wants) (Ok (wants, behind)) (found (Ok None) was) (runs_gives b d (wants, behind)))

  -- a want, and the rest
  pub want_goes : (c : LinkState) (id : ObjectId) (out : Result (List ObjectId × ℕ) (Halt SessionEnd)) → result ≡ Ok (Some id) → Runs b c d d (more (wants ++ id ∷ []) behind) out → Runs a c d d (taking_wants may wants offset) out
  want_goes c id out was rest = as_next c out (runs_bind a b c d d d (taking_want offset) (Some id, behind) (by_want more wants) out (found (Ok (Some id)) was) rest)

-- a want too many, whatever would have been given
pub refused_wants : {B : Type 0} (a b : LinkState) (d : DeskView) (halt : Halt SessionEnd) → Runs {A = Unit {0}} a b d d too_many_wants (Err halt) → Runs {A = B} a b d d too_many_wants (Err halt)
unfolding too_many_wants
refused_wants a b d halt ran = refused a b d _ _ halt ran
