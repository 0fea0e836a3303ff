-- Laws of legal logs: what a command is told beside the rules is so.
use Rattle.std.specs.Prelude.{◌≡◌, ◌<◌, true, false, length, List, [], ◌∷◌, ◌++◌, Some, Err}
use Rattle.git_object.specs.Content.{Content}
use Rattle.ancestry.specs.Wholeness.{missing, wrong}
use Rattle.ref_store.specs.Objects.{with_pack}
use Rattle.ref_store.specs.RefName.{is_ref_name}
use Rattle.ref_store.specs.Refs.{Name, value, zero_id}
use Rattle.ref_store.specs.declared.command.Command.{Command}
use Rattle.rule_compile.specs.Patterns.{AreTrue, Patterns}
use Rattle.hub_history.specs.declared.entry.Entry.{Entry}
use Rattle.hub_history.specs.declared.outcome.Outcome.{Outcome}
use Rattle.hub_history.specs.declared.outcome.Outcome.TheVariants.{BadName, Collided, ConfRefused, Full, Missing, NoChange, NotAdvertised, Twice, WrongKind}
use Rattle.hub_history.specs.Collision.{collision}
use Rattle.hub_history.specs.Conf.{ComesTo}
use Rattle.hub_history.specs.History.{IsLegal, replay}
use Rattle.hub_history.specs.Laws.{TellsCommand}
use Rattle.hub_history.specs.Opening.{Pinned}
use Rattle.hub_history.specs.Push.{is_named_twice, kind_at}
use Rattle.hub_history.specs.State.{Repository, conf_branch, conf_repository, repository_at}

-- a command of a push: the repository just before, what the opening pinned, and the push's objects and
-- commands
module _ (patterns : Patterns) (now : Repository) (pinned : Pinned) (pack : List Content) (commands : List Command) (command : Command) where
  -- What the command is told is so: its ref's name is bad; two commands or more are for its ref; its two
  -- values are one; the ref had another value at the opening, and it is this one; its new value leads to this
  -- name that no object has, or to this object of a wrong kind; it is for the conf's branch, and the conf at
  -- its new value has this fault; the pack has this collision; the objects with the pack are so many, and too
  -- many. What the rules say, what the refs just before say, and what is told of another have laws of their
  -- own.
  abbrev pub IsSo : Outcome → Type 0
  IsSo BadName = is_ref_name command.name ≡ false
  IsSo Twice = is_named_twice commands command.name ≡ true
  IsSo NoChange = command.old ≡ command.new
  IsSo (NotAdvertised id) = (id ≡ value pinned.repository.refs command.name) × ¬ (id ≡ command.old)
  IsSo (Missing id) = ¬ (command.new ≡ zero_id) × (missing (pinned.repository.objects ++ pack) command.new (kind_at command.name) ≡ Some id)
  IsSo (WrongKind id) = ¬ (command.new ≡ zero_id) × (wrong (pinned.repository.objects ++ pack) command.new (kind_at command.name) ≡ Some id)
  IsSo (ConfRefused fault) = (pinned.repo ≡ conf_repository) × (command.name ≡ conf_branch) × ComesTo patterns (pinned.repository.objects ++ pack) command.new (Err fault)
  IsSo (Collided id) = collision now.objects pack ≡ Some id
  IsSo (Full count) = (count ≡ length (with_pack now.objects pack)) × (4294967295 < count)
  IsSo other = Unit {0}

-- What a command is told is so.
abbrev pub RefusalsAreSo : Type 0
RefusalsAreSo =
    (admin : Name) (before : List Entry) (entry : Entry) (pinned : Pinned) (command : Command) (outcome : Outcome) → IsLegal admin (before ++ entry ∷ [])
    → (tells : TellsCommand admin before entry pinned command outcome) → (patterns : Patterns) → AreTrue patterns
    → IsSo patterns (repository_at (replay admin before) pinned.repo) pinned tells.pack tells.commands command outcome
