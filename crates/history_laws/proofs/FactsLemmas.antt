-- What is past the rules has facts, and was let be made by them.
use Rattle.std.specs.Prelude.{List, ◌++◌}
use Rattle.git_object.specs.Content.{Content}
use Rattle.ref_store.specs.declared.command.Command.{Command}
use Rattle.rule_compile.specs.Patterns.{Patterns}
use Rattle.rule_compile.specs.declared.rule.Rule.{Rule}
use Rattle.access_check.specs.Users.{Asked}
use Rattle.update_check.specs.Laws.{ExactlyWhereLet}
use Rattle.hub_history.specs.History.{replay}
use Rattle.hub_history.specs.Opening.{Pinned, pinned_in_force}
use Rattle.hub_history.specs.State.{InForce, in_force}
use Rattle.history_laws.specs.Laws.{asked_by}
use Rattle.history_laws.specs.StateLaws.{IsLet, PastIsLetByItsFacts}
use Rattle.history_laws.proofs.LetLemmas.{AreSilent, opening_silent, push_silent}

module _ (exactly : (ps : Patterns) (rules : List Rule) (a : Asked) (objects : List Content) (change : Command) → ExactlyWhereLet ps rules a objects change) where
  is_let : (ps : Patterns) (force : InForce) (pinned : Pinned) (objects : List Content) (change : Command) → AreSilent ps force pinned objects change → IsLet ps force pinned objects change
  is_let ps force pinned objects change by = record {
    rules = by.0;
    are_in_force = by.1;
    facts = by.2.0;
    are_facts = by.2.1;
    lets = (exactly ps by.0.rules (asked_by ps by.0 force pinned) objects change).only by.2.0 by.2.1 by.2;
  }

  pub past_is_let_by_its_facts : PastIsLetByItsFacts
  past_is_let_by_its_facts = record {
    opening = λ admin before entry pinned command outcome legal past tells ps ok.
        is_let ps (pinned_in_force pinned) pinned (pinned.repository.objects ++ tells.pack) command (opening_silent ps ok admin before entry legal pinned command outcome tells past);
    push = λ admin before entry pinned command outcome legal past tells ps ok.
        is_let ps (in_force (replay admin before) pinned.repo) pinned (pinned.repository.objects ++ tells.pack) command (push_silent ps ok admin before entry legal pinned command outcome tells past);
  }
