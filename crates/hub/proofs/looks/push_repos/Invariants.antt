use Rattle.std.proofs.Common.{◌≡◌, ◌++◌}
use Rattle.std.specs.List.{flat_map}
use Rattle.rule_compile.specs.Patterns.{AreTrue, Patterns}
use Rattle.repo_listing.specs.Listing.{repo_lines}
use Rattle.hub.specs.Answer.{listed_repo}
use Rattle.hub.proofs.looks.push_repos.Given as goal

abbrev pub invariant-loop-name : goal.invariant-loop-name
invariant-loop-name l =
    (ps : Patterns) → AreTrue ps → l.lines ++ flat_map (λ e. repo_lines ps l.policy l.user (listed_repo e)) l.name-iterator ≡ l.fn.lines ++ flat_map (λ e. repo_lines ps l.policy l.user (listed_repo e)) l.initial.name-iterator
