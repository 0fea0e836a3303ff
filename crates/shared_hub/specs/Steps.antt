-- What one turn does to the list of a hub.
use Rattle.std.specs.Prelude.{◌≡◌, ⊤, ℕ, List, [], ◌∷◌, ◌++◌, Option, None, Some}
use Rattle.ref_store.specs.Refs.{Name}
use Rattle.access_check.specs.declared.verdicts.Want.{Want}
use Rattle.access_check.specs.declared.verdicts.Want.TheVariants.{Write}
use Rattle.wild_perms.specs.declared.answer.PermsAnswer.{PermsAnswer}
use Rattle.hub_history.specs.declared.entry.Event.{Event}
use Rattle.hub_history.specs.declared.entry.PermChange.{PermChange}
use Rattle.hub_history.specs.History.{IsLegal, Stands}
use Rattle.git_object.specs.Object.{FitOnePack}
use Rattle.hub_history.specs.Push.{AreWithinLimits}
use Rattle.hub_history.specs.Roles.{kept_of}
use Rattle.push_judging.specs.Judged.{IsJudgement}
use Rattle.hub.specs.declared.answer.Entered.{Entered}
use Rattle.hub.specs.declared.answer.Looked.{Looked}
use Rattle.hub.specs.declared.answer.Pushed.{Pushed}
use Rattle.hub.specs.Answer.{AnswersChange, AnswersLook, AnswersOpening, AnswersPush, kept, looked, opened, permitted, settled}
use Rattle.shared_hub.specs.declared.kept.KeptEntry.{KeptEntry}
use Rattle.shared_hub.specs.declared.kept.KeptEntry.TheVariants.{Logged}
use Rattle.shared_hub.specs.declared.steps.Asked.{Asked}
use Rattle.shared_hub.specs.declared.steps.PushTurn.{PushTurn}
use Rattle.shared_hub.specs.declared.steps.PushTurn.TheVariants as turn
use Rattle.shared_hub.specs.Kept.{NamesAdmin, admin_in, hub_in, log_in}

-- the list goes on with this event's entry, and its log is legal; or the list is as it was
abbrev pub Adds : {H : Type 0} → ℕ → List (KeptEntry H) → List (KeptEntry H) → Option Event → Type 0
Adds caller before after None = after ≡ before
Adds caller before after (Some event) = (after ≡ before ++ Logged (record { caller = caller; event = event }) ∷ []) × IsLegal (admin_in after) (log_in after)

-- an opening, by the list that it found
abbrev pub RunsOpening : {H : Type 0} → ℕ → Name → Name → Want → List (KeptEntry H) → List (KeptEntry H) → Entered → Type 0
RunsOpening caller user repo want before after result =
    Adds caller before after (opened user repo want (kept result)) × AnswersOpening (hub_in before) (hub_in after) user repo want result

-- a push, by the list that it found
abbrev pub RunsPush : {H : Type 0} → ℕ → Asked → List (KeptEntry H) → List (KeptEntry H) → Pushed → Type 0
RunsPush caller asked before after result =
    Adds caller before after (settled asked.pin asked.request.pack asked.request.commands asked.request.atomic result) × AnswersPush (hub_in before) asked.pin result

-- a turn of a push: it is settled; or the list is as it was, and the push comes back, to be judged again
abbrev pub RunsPushTurn : {H : Type 0} → ℕ → Asked → List (KeptEntry H) → List (KeptEntry H) → PushTurn → Type 0
RunsPushTurn caller asked before after (turn.Settled result) = RunsPush caller asked before after result
RunsPushTurn caller asked before after (turn.Again back wild) = (after ≡ before) × (back ≡ asked)

-- a change or a listing of roles
abbrev pub RunsChange : {H : Type 0} → ℕ → Name → Name → PermChange → List (KeptEntry H) → List (KeptEntry H) → PermsAnswer → Type 0
RunsChange caller user repo change before after result =
    Adds caller before after (permitted user repo change (kept_of result)) × AnswersChange (hub_in before) repo result

-- a listing
abbrev pub RunsLook : {H : Type 0} → ℕ → Name → List (KeptEntry H) → List (KeptEntry H) → Looked → Type 0
RunsLook caller user before after result = Adds caller before after (looked user result) × AnswersLook (hub_in before) user result

-- a step whose request is used up by its first run: each later one leaves the list as it was, without an
-- answer
abbrev pub RunsOnce : {H A B : Type 0} → (A → List (KeptEntry H) → List (KeptEntry H) → B → Type 0) → Option A → List (KeptEntry H) → List (KeptEntry H) → Option B → Type 0
RunsOnce runs None before after result = (after ≡ before) × (result ≡ None)
RunsOnce runs (Some asked) before after None = ⊥
RunsOnce runs (Some asked) before after (Some result) = runs asked before after result

-- what a push asks of a list that its caller has seen
pub record MayPush {H : Type 0} (known : List (KeptEntry H)) (asked : Asked) : Type 0 where
  pub admin : NamesAdmin known
  pub stands : Stands asked.pin (admin_in known) (log_in known)
  pub write : asked.pin.pinned.want ≡ Write
  pub within : AreWithinLimits asked.request.commands
  pub fit : FitOnePack asked.request.pack
  pub judged : IsJudgement asked.pin.pinned asked.request.pack asked.request.commands asked.judged

-- a push is asked that may be made, or none any more
abbrev pub MayPushAny : {H : Type 0} → List (KeptEntry H) → Option Asked → Type 0
MayPushAny known None = ⊤
MayPushAny known (Some asked) = MayPush known asked

-- a push as its step has it: the number of its caller, what the caller has seen, and what is asked until it
-- is done
pub record PushState (H : Type 0) : Type 0 where
  pub caller : ℕ
  pub known : List (KeptEntry H)
  pub asked : Option Asked
