use Rattle.std.proofs.Common.{List, ◌++◌, ◌∙◌, ap, subst}
use Rattle.std.specs.List.{flat_map}
use Rattle.ref_store.specs.Refs.{Name}
use Rattle.repo_listing.specs.Listing.{pattern_lines, repo_lines}
use Rattle.repo_listing.specs.declared.lines.LookLine.{LookLine}
use Rattle.hub_history.specs.Conf.{AreInForce}
use Rattle.hub_history.specs.State.{Conf, Repository}
use Rattle.hub.specs.Answer.{listed_repo}
use Rattle.hub.specs.Hub.{state_of}
use Rattle.hub.proofs.OrderLemmas.{lines_due}
use Rattle.hub.proofs.hub.Hub.lines.Goals as goal

pub returns : goal.returns
returns c = λ ps ok.
    let rules = c.policy-policy.result.now in
    let user = c.args.user.now in (
      rules,
      subst (λ (conf : Conf). AreInForce ps conf rules) c.conf.ensures.conf (c.policy-policy.ensures ps ok),
      lines_due ps rules (state_of c.args.self.now) user c.in_ok-repositories.repositories c.in_ok-repositories.ensures.ordered c.in_ok-repositories.ensures.all c.push_patterns.new.list
          (c.in_ok-push_patterns.ensures.ok
          ∙ ap (λ (l : List LookLine). l ++ pattern_lines rules.rules user)
          (c.in_ok-push_repos.ensures ps ok
          ∙ ap (λ (l : List LookLine). l ++ flat_map (λ (e : Name × Repository). repo_lines ps rules user (listed_repo e)) c.in_ok-repositories.repositories.entries) c.new-lines.ensures)),
    )
