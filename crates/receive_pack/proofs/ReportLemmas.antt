-- A report, command by command.
use Rattle.std.proofs.Common.{◌≡◌, ℕ, zero, suc, ◌+◌, ◌<◌, ◌≤◌, List, [], ◌∷◌, ◌++◌, length, map, drop, get_or, refl, sym, ◌∙◌, ap, arith, subst}
use Rattle.std.specs.List.{flat_map}
use Rattle.ref_store.specs.declared.command.Command.{Command}
use Rattle.rule_compile.specs.declared.rule.Rule.{Rule}
use Rattle.hub_history.specs.declared.outcome.Outcome.{Outcome}
use Rattle.receive_pack.specs.Changes.{HasShortName, HaveShortNames}
use Rattle.session_core.specs.Packets.{packet}
use Rattle.receive_pack.specs.declared.reports.ReportedPush.{ReportedPush}
use Rattle.receive_pack.specs.Texts.{status_text, status_lines, unpacker_error}
use Rattle.receive_pack.proofs.ListLemmas.{drop_here}

-- what is still to be written of a refused pack's report, with these commands left
pub errors_left : List Command → List ℕ
errors_left commands = flat_map packet (map unpacker_error commands)

-- what is still to be written of a push's report, with these of its commands and outcomes left
pub statuses_left : List Rule → List Rule → ReportedPush → List Command → List Outcome → List ℕ
statuses_left rules later push commands outcomes = flat_map packet (status_lines rules later push commands outcomes)

pub errors_all : (commands : List Command) → errors_left commands ≡ flat_map packet (map unpacker_error commands)
unfolding errors_left
errors_all commands = refl

pub statuses_all : (rules later : List Rule) (push : ReportedPush) (outcomes : List Outcome) → statuses_left rules later push push.commands outcomes ≡ flat_map packet (status_lines rules later push push.commands outcomes)
unfolding statuses_left
statuses_all rules later push outcomes = refl

-- from a place on: the command there, and those behind it
commands_from : (commands : List Command) (place : ℕ) (command : Command) → place < length commands → command ≡ get_or commands place command → drop place commands ≡ command ∷ drop (place + 1) commands
commands_from commands place command within is = drop_here commands place command within ∙ ap (λ (c : Command). c ∷ drop (place + 1) commands) (sym is)

nothing_left : (commands : List Command) (place : ℕ) → length commands ≤ place → drop place commands ≡ []
nothing_left [] zero past = refl
nothing_left [] (suc place) past = refl
nothing_left (c ∷ cs) zero past = absurd (omega (arith, past))
nothing_left (c ∷ cs) (suc place) past = nothing_left cs place (omega (arith, past))

module _ (commands : List Command) (place : ℕ) where
  pub errors_more : (command : Command) → place < length commands → command ≡ get_or commands place command → errors_left (drop place commands) ≡ packet (unpacker_error command) ++ errors_left (drop (place + 1) commands)
  unfolding errors_left
  errors_more command within is = ap errors_left (commands_from commands place command within is)

  pub errors_end : length commands ≤ place → errors_left (drop place commands) ≡ []
  unfolding errors_left
  errors_end past = ap errors_left (nothing_left commands place past)

module _ (rules later : List Rule) (push : ReportedPush) (place : ℕ) where
  pub statuses_more : (command : Command) (outcome : Outcome) (outcomes more : List Outcome) → place < length push.commands → command ≡ get_or push.commands place command → outcomes ≡ outcome ∷ more
      → statuses_left rules later push (drop place push.commands) outcomes ≡ packet (status_text rules later push command.name outcome) ++ statuses_left rules later push (drop (place + 1) push.commands) more
  unfolding statuses_left
  statuses_more command outcome outcomes more within is steps =
      ap (λ (cs : List Command). statuses_left rules later push cs outcomes) (commands_from push.commands place command within is) ∙ ap (statuses_left rules later push (command ∷ drop (place + 1) push.commands)) steps

  pub statuses_end : (outcomes : List Outcome) → length push.commands ≤ place → statuses_left rules later push (drop place push.commands) outcomes ≡ []
  unfolding statuses_left
  statuses_end outcomes past = ap (λ (cs : List Command). statuses_left rules later push cs outcomes) (nothing_left push.commands place past)

pub statuses_none : (rules later : List Rule) (push : ReportedPush) (commands : List Command) (outcomes : List Outcome) → length outcomes ≡ 0 → statuses_left rules later push commands outcomes ≡ []
unfolding statuses_left
statuses_none rules later push [] outcomes none = refl
statuses_none rules later push (c ∷ cs) [] none = refl
statuses_none rules later push (c ∷ cs) (o ∷ os) none = absurd (omega (arith, none))

-- a ref among short ones is short
pub short_here : (commands : List Command) (place : ℕ) (command : Command) → HaveShortNames commands → place < length commands → command ≡ get_or commands place command → HasShortName command
short_here [] place command short within is = absurd (omega (arith, within))
short_here (c ∷ cs) zero command short within is = subst HasShortName (sym is) short.0
short_here (c ∷ cs) (suc place) command short within is = short_here cs place command short.1 (omega (arith, within)) is
