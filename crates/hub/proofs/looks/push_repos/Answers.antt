use Rattle.std.proofs.Common.{List, ◌++◌, sym, ◌∙◌, ap, append_assoc}
use Rattle.std.specs.List.{flat_map}
use Rattle.ref_store.specs.Refs.{Name}
use Rattle.wild_perms.specs.Roles.{WildView}
use Rattle.repo_listing.specs.Listing.{repo_lines}
use Rattle.repo_listing.specs.declared.lines.LookLine.{LookLine}
use Rattle.hub_history.specs.State.{Repository}
use Rattle.hub.specs.Answer.{listed_repo}
use Rattle.hub.proofs.looks.push_repos.Goals as goal

pub loop-name-preserved : goal.loop-name-preserved
loop-name-preserved c = λ ps ok.
    let f : Name × Repository → List LookLine = λ (e : Name × Repository). repo_lines ps c.args.policy.now c.args.user.now (listed_repo e) in
    ap (λ (l : List LookLine). l ++ flat_map f c.next.new.self)
    (c.in_ok-push_repo.ensures.ok ps ok ∙ ap (λ (w : WildView). c.loop-name.lines ++ repo_lines ps c.args.policy.now c.args.user.now (record { name = c.in-Some.name.now; wild = w })) c.wild.ensures)
    ∙ append_assoc c.loop-name.lines (f (c.in-Some.name.now, c.in-Some.hosted.now)) (flat_map f c.next.new.self)
    ∙ ap (λ (es : List (Name × Repository)). c.loop-name.lines ++ flat_map f es) (sym c.in-Some.ensures.steps)
    ∙ c.loop-name.invariant ps ok
