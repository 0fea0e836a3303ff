-- The commands of a push, one after the other.
use Rattle.std.proofs.Common.{◌≡◌, ℕ, suc, List, [], ◌∷◌, ◌++◌, Option, None, Some, Result, Ok, Err, refl, sym, ◌∙◌, ap, subst, append_assoc}
use Rattle.std.proofs.lemmas.List.{append-nil}
use Rattle.pktline_core.specs.LinkState.{LinkState}
use Rattle.ref_store.specs.declared.command.Command.{Command}
use Rattle.hub.specs.Desk.{DeskView}
use Rattle.interaction_tree.specs.Interaction.{Interaction, gives, ends, writes, reads, asks, ◌>>=◌}
use Rattle.interaction_tree.specs.Traces.{Halt}
use Rattle.interaction_tree.specs.Runs.{Runs}
use Rattle.interaction_tree.proofs.RunLemmas.{runs_gives}
use Rattle.session_core.specs.declared.end.SessionEnd.{SessionEnd}
use Rattle.session_core.specs.End.{outcome_at, outcome_of}
use Rattle.receive_pack.specs.Receiving.{no_commands, no_more, taking_commands, taking_further, taking_rest, up_to_flush}
use Rattle.session_core.proofs.StepLemmas.{exits, exits_at, goes, goes_at}

-- three in a row, in either grouping
bind_more : {E A B C : Type 0} (t : Interaction E A) (f : A → Interaction E B) (g : B → Interaction E C) → (t >>= f) >>= g ≡ t >>= (λ x. f x >>= g)
unfolding ◌>>=◌
bind_more (gives a) f g = refl
bind_more (ends e) f g = refl
bind_more (writes bytes t) f g = ap (writes bytes) (bind_more t f g)
bind_more (reads wanted cut h) f g = λ i. reads wanted cut (λ reply. bind_more (h reply) f g i)
bind_more (asks request h) f g = λ i. asks request (λ before. bind_more (h before) f g i)

-- what is to come where these commands are taken and so many may still follow, from this offset on
pub still_taking : List Command → ℕ → ℕ → Interaction SessionEnd (List Command)
still_taking commands left offset = taking_rest left offset >>= λ rest. gives (commands ++ rest)

pub taking_is : (first : Command) (offset : ℕ) → taking_commands first offset ≡ still_taking (first ∷ []) 9999 offset
unfolding still_taking taking_commands
taking_is first offset = refl

-- what follows the packet behind these commands
behind_further : List Command → ℕ → Option Command × ℕ → Interaction SessionEnd (List Command)
behind_further commands left next = up_to_flush (taking_rest left next.1) next.0 >>= λ rest. gives (commands ++ rest)

still_more : (commands : List Command) (left offset : ℕ) → still_taking commands (suc left) offset ≡ taking_further offset >>= behind_further commands left
unfolding still_taking behind_further taking_rest
still_more commands left offset = bind_more (taking_further offset) (λ next. up_to_flush (taking_rest left next.1) next.0) (λ rest. gives (commands ++ rest))

behind_some : (commands : List Command) (left behind : ℕ) (command : Command) → behind_further commands left (Some command, behind) ≡ still_taking (commands ++ command ∷ []) left behind
unfolding still_taking behind_further ◌>>=◌
behind_some commands left behind command =
    bind_more (taking_rest left behind) (λ rest. gives (command ∷ rest)) (λ rest. gives (commands ++ rest))
    ∙ (λ i. taking_rest left behind >>= λ rest. gives (sym (append_assoc commands (command ∷ []) rest) i))

behind_none : (commands : List Command) (left behind : ℕ) → behind_further commands left (None, behind) ≡ gives commands
unfolding behind_further ◌>>=◌
behind_none commands left behind = ap (λ (l : List Command). gives l) (append-nil commands)

-- what follows the packet behind the last command that there may be
behind_last : List Command → Option Command × ℕ → Interaction SessionEnd (List Command)
behind_last commands next = no_more next.0 >>= λ rest. gives (commands ++ rest)

still_none : (commands : List Command) (offset : ℕ) → still_taking commands 0 offset ≡ taking_further offset >>= behind_last commands
unfolding still_taking behind_last taking_rest
still_none commands offset = bind_more (taking_further offset) (λ next. no_more next.0) (λ rest. gives (commands ++ rest))

module _ (a b : LinkState) (d : DeskView) (commands : List Command) (offset behind may left : ℕ) (is : may ≡ suc left) (result : Result (Option Command) SessionEnd) (ran : Runs a b d d (taking_further offset) (outcome_at result behind)) where
  as_further : (c : LinkState) (out : Result (List Command) (Halt SessionEnd)) → Runs a c d d (taking_further offset >>= behind_further commands left) out → Runs a c d d (still_taking commands may offset) out
  as_further c out p = subst (λ (t : Interaction SessionEnd (List Command)). Runs a c d d t out) (sym (ap (λ (n : ℕ). still_taking commands n offset) is ∙ still_more commands left offset)) p

  -- the session ends with it
  pub further_exits : (r : Result (List Command) SessionEnd) (end y : SessionEnd) → result ≡ Err end → r ≡ Err y → y ≡ end → Runs a b d d (still_taking commands may offset) (outcome_of r)
  further_exits r end y was told same = as_further b (outcome_of r) (exits_at a b d d (taking_further offset) (behind_further commands left) result behind r end y was told same ran)

  -- a flush
  pub further_ends : result ≡ Ok None → Runs a b d d (still_taking commands may offset) (Ok commands)
  further_ends was =
      as_further b (Ok commands) (goes_at a b d d (taking_further offset) (behind_further commands left) result behind b d None (Ok commands) was ran
      (subst (λ (t : Interaction SessionEnd (List Command)). Runs b b d d t (Ok commands)) (sym (behind_none commands left behind)) (runs_gives b d commands)))

  -- a command, and the rest
  pub further_goes : (c : LinkState) (command : Command) (out : Result (List Command) (Halt SessionEnd)) → result ≡ Ok (Some command) → Runs b c d d (still_taking (commands ++ command ∷ []) left behind) out → Runs a c d d (still_taking commands may offset) out
  further_goes c command out was rest =
      as_further c out (goes_at a b d d (taking_further offset) (behind_further commands left) result behind c d (Some command) out was ran
      (subst (λ (t : Interaction SessionEnd (List Command)). Runs b c d d t out) (sym (behind_some commands left behind command)) rest))

-- the packet behind the last command that there may be
module _ (a b : LinkState) (d : DeskView) (commands : List Command) (offset behind may : ℕ) (is : may ≡ 0) (result : Result (Option Command) SessionEnd) (ran : Runs a b d d (taking_further offset) (outcome_at result behind)) where
  as_last : (c : LinkState) (out : Result (List Command) (Halt SessionEnd)) → Runs a c d d (taking_further offset >>= behind_last commands) out → Runs a c d d (still_taking commands may offset) out
  as_last c out p = subst (λ (t : Interaction SessionEnd (List Command)). Runs a c d d t out) (sym (ap (λ (n : ℕ). still_taking commands n offset) is ∙ still_none commands offset)) p

  pub last_exits : (r : Result (List Command) SessionEnd) (end y : SessionEnd) → result ≡ Err end → r ≡ Err y → y ≡ end → Runs a b d d (still_taking commands may offset) (outcome_of r)
  last_exits r end y was told same = as_last b (outcome_of r) (exits_at a b d d (taking_further offset) (behind_last commands) result behind r end y was told same ran)

  module _ (c : LinkState) (next : Option Command) (was : result ≡ Ok next) (ended : Result (Unit {0}) SessionEnd) (none : Runs b c d d (no_more next) (outcome_of (no_commands ended))) where
    -- there is a command
    pub more_exits : (r : Result (List Command) SessionEnd) (end y : SessionEnd) → ended ≡ Err end → r ≡ Err y → y ≡ end → Runs a c d d (still_taking commands may offset) (outcome_of r)
    unfolding behind_last
    more_exits r end y is told same =
        as_last c (outcome_of r) (goes_at a b d d (taking_further offset) (behind_last commands) result behind c d next (outcome_of r) was ran
        (exits b c d d (no_more next) (λ rest. gives (commands ++ rest)) (no_commands ended) r end y (ap no_commands is) told same none))

    -- there is none
    pub more_ends : (u : Unit {0}) → ended ≡ Ok u → Runs a c d d (still_taking commands may offset) (Ok commands)
    unfolding behind_last
    more_ends u is =
        as_last c (Ok commands) (goes_at a b d d (taking_further offset) (behind_last commands) result behind c d next (Ok commands) was ran
        (goes b c d d (no_more next) (λ rest. gives (commands ++ rest)) (no_commands ended) c d [] (Ok commands) (ap no_commands is) none
        (subst (λ (l : List Command). Runs {E = SessionEnd} c c d d (gives l) (Ok commands)) (sym (append-nil commands)) (runs_gives c d commands))))
