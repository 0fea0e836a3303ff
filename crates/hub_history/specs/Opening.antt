-- Openings: their answers, what they change, and what they pin.
use Rattle.std.specs.Prelude.{◌≡◌, ℕ, Option, None, Some}
use Rattle.std.specs.FinMap.{get}
use Rattle.ref_store.specs.Refs.{Name}
use Rattle.rule_compile.specs.Flat.{Flat}
use Rattle.rule_compile.specs.Patterns.{Patterns}
use Rattle.access_check.specs.Users.{asked}
use Rattle.access_check.specs.Verdicts.{first_stage, may_create, unborn_stage}
use Rattle.access_check.specs.declared.verdicts.Verdict.{Verdict}
use Rattle.access_check.specs.declared.verdicts.Verdict.TheVariants.{Allowed, DeniedBy, Fallthru}
use Rattle.access_check.specs.declared.verdicts.Want.{Want}
use Rattle.hub_history.specs.declared.entry.EnterKept.{EnterKept}
use Rattle.hub_history.specs.declared.entry.EnterKept.TheVariants.{Granted, Created, Denied, NoRepo}
use Rattle.hub_history.specs.Conf.{AreInForce}
use Rattle.hub_history.specs.State.{Change, Conf, InForce, Repository, State, empty_repository, no_change, put_in_place, repository_at, wild_of}

-- ---- answers

-- the answer by the first stage's verdict, where this is the answer to a verdict that allows
abbrev pub by_verdict : Verdict → EnterKept → EnterKept
by_verdict (Allowed seq) allowed = allowed
by_verdict (DeniedBy seq) allowed = Denied (DeniedBy seq)
by_verdict Fallthru allowed = Denied Fallthru

-- a repository that isn't there is made where that is allowed
abbrev pub by_creation : Verdict → EnterKept
by_creation (Allowed seq) = Created
by_creation (DeniedBy seq) = NoRepo
by_creation Fallthru = NoRepo

-- Where the repository is there, the first stage decides. Where it isn't, the first stage is asked with the
-- asker as its creator, and a denial is the answer; otherwise it is asked whether the asker may make it.
abbrev pub answer_by : Patterns → Flat → Option Repository → Name → Name → Want → EnterKept
answer_by patterns rules (Some repository) user repo want = by_verdict (first_stage patterns rules (asked patterns rules (wild_of repository) repo user) want) Granted
answer_by patterns rules None user repo want = by_verdict (unborn_stage patterns rules repo user want) (by_creation (may_create patterns rules repo user))

-- the answer to an opening is the one that the rules in force give
abbrev pub IsDueOpening : Patterns → State → Name → Name → Want → EnterKept → Type 0
IsDueOpening patterns state user repo want answer =
    (rules : Flat) × AreInForce patterns state.conf rules × (answer ≡ answer_by patterns rules (get state.repositories repo) user repo want)

-- ---- what they change

-- an empty repository is made, whose creator is the asker
abbrev pub made_by : Name → Name → EnterKept → Change
made_by user repo Granted = no_change
made_by user repo Created = record { repositories = put_in_place repo (Some (empty_repository (Some user))); conf = None }
made_by user repo (Denied verdict) = no_change
made_by user repo NoRepo = no_change

-- ---- what they pin

-- who opened which repository to do what, and the conf and the repository as they are with it
pub record Pinned : Type 0 where
  pub user : Name
  pub repo : Name
  pub want : Want
  pub conf : Conf
  pub repository : Repository

abbrev pub pinned_in : State → Name → Name → Want → Pinned
pinned_in state user repo want = record { user = user; repo = repo; want = want; conf = state.conf; repository = repository_at state repo }

-- what was in force at an opening for the repository that was opened
abbrev pub pinned_in_force : Pinned → InForce
pinned_in_force pinned = record { conf = pinned.conf; wild = wild_of pinned.repository }

-- what an opening with this answer pins of the state after it
abbrev pub pins : State → Name → Name → Want → EnterKept → Option Pinned
pins after user repo want Granted = Some (pinned_in after user repo want)
pins after user repo want Created = Some (pinned_in after user repo want)
pins after user repo want (Denied verdict) = None
pins after user repo want NoRepo = None

-- a pin: the place of its opening in the log, counted from 0, and what that opening pinned
pub record Opening : Type 0 where
  pub place : ℕ
  pub pinned : Pinned
