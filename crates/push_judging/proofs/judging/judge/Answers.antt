use Rattle.std.proofs.Common.{◌≡◌, List, ◌++◌, ◌∙◌, ap, subst}
use Rattle.git_object.specs.Content.{Content}
use Rattle.ref_store.specs.Store.{Store}
use Rattle.ref_store.specs.declared.command.Command.{Command}
use Rattle.hub_history.specs.Push.{JudgesAll}
use Rattle.push_judging.specs.Judged.{AreFactsOf, confs_of}
use Rattle.push_judging.proofs.judging.judge.Goals as goal

pub returns : goal.returns
returns c =
    let pinned = c.args.pin.now.pinned in
    let pack = c.args.pack.now in
    let all = c.in_ok-told.field-0 in
    let commands : c.as_slice.result.now ≡ c.args.commands.now = c.as_slice.ensures in
    record {
      outcomes = λ ps ok. subst (λ (cs : List Command). JudgesAll ps pinned pack cs all.told.outcomes.items) commands (c.in_ok-told.ensures.outcomes ps ok);
      confs = c.in_ok-told.ensures.confs ∙ ap (λ (cs : List Command). confs_of pinned pack cs all.told.outcomes.items) commands;
      facts =
          subst (λ (cs : List Command). AreFactsOf (pinned.repository.objects ++ pack) cs all.facts.items) commands
          (subst (λ (os : List Content). AreFactsOf os c.as_slice.result.now all.facts.items) (c.in_ok-lens.ensures ∙ ap (λ (s : Store). s.objects ++ pack) c.repo.ensures.repo) c.in_ok-told.ensures.facts);
      again = tt;
      before = ap (λ p. p.before) c.in_ok-pack.ensures;
      objects = ap (λ p. p.objects) c.in_ok-pack.ensures ∙ c.in_ok-lens.ensures ∙ ap (λ (s : Store). s.objects ++ pack) c.repo.ensures.repo;
    }
