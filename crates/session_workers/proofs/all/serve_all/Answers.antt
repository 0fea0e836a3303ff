use Rattle.std.proofs.Common.{◌≡◌, ◌<◌, ◌*◌, ◌^◌, ℕ, arith, rules, length, sym, ◌∙◌, ap, subst}
use Rattle.std.specs.Prelude.{Some, slice_index_or}
use Rattle.turn_lock.specs.Lock.{PassState, first_pass}
use Rattle.shared_hub.specs.declared.kept.KeptEntry.{KeptEntry}
use Rattle.shared_hub.specs.Kept.{Began, listed}
use Rattle.session_workers.specs.declared.post.Post.{Post}
use Rattle.session_workers.specs.Passes.{IsWhole, pass_at}
use Rattle.session_workers.proofs.AllLemmas.{all_served, may_all, none_posts, passes_of, sessions_most}
use Rattle.session_workers.proofs.all.serve_all.Goals as goal

pub returns-then-is_empty-clause-served : goal.returns-then-is_empty-clause-served
returns-then-is_empty-clause-served g c =
    let none : length c.args.posts.now ≡ 0 = search rules in
    none_posts g.P.Protocol.meaning g.L.Endpoint.state g.D.Door.state g.H.EventHub.may_stop (g.H.EventHub.view c.args.hub) c.args.posts.now c.args.each c.sound.ensures.legal none

pub serve_posts-requires-clause-may : goal.serve_posts-requires-clause-may
serve_posts-requires-clause-may g c =
    let first_is : c.in-Ok.first ≡ first_pass c.in-Ok.shared (listed c.args.hub (g.H.EventHub.view c.args.hub)) = c.in-Ok.ensures.first in
    let len : length c.hand_out.new.posts ≡ length c.args.posts.now = c.hand_out.auto.posts in
    λ lifetimes outlive. may_all c.in-Ok.shared c.in-Ok.first (length c.args.posts.now) c.hand_out.new.posts c.in-Ok.ensures.pass (ap (λ (p : PassState (KeptEntry _)). p.since) first_is) (λ k d less. c.in-Ok-hand_out.ensures.passes k d (omega (arith, less, len)))

pub sessions_of-sessions-requires : goal.sessions_of-sessions-requires
sessions_of-sessions-requires g c =
    let handed : length c.hand_out.new.posts ≡ length c.args.posts.now = c.hand_out.auto.posts in
    let worked : length c.serve_posts.new.posts ≡ length c.hand_out.new.posts = c.serve_posts.auto.posts in
    let most = sessions_most g.P.Protocol.meaning g.L.Endpoint.state g.D.Door.state g.H.EventHub.may_stop c.args.each c.hand_out.new.posts c.serve_posts.new.posts worked c.serve_posts.ensures.worked in
    let within : length c.serve_posts.new.posts * c.args.each < 2 ^ 64 = subst (λ n. n * c.args.each < 2 ^ 64) (sym (worked ∙ handed)) c.requires.fits in
    omega (arith, most, within)

pub gather-pass-requires-clause-passes : goal.gather-pass-requires-clause-passes
gather-pass-requires-clause-passes g c =
    let handed : length c.hand_out.new.posts ≡ length c.args.posts.now = c.hand_out.auto.posts in
    let worked : length c.serve_posts.new.posts ≡ length c.hand_out.new.posts = c.serve_posts.auto.posts in
    let about : c.of-about.result.value ≡ c.in-Ok.first = c.of-about.ensures in
    let passes : (k : ℕ) (d : Post _ _ _ _) → k < length c.hand_out.new.posts → (slice_index_or c.hand_out.new.posts k d).pass ≡ Some (pass_at c.in-Ok.shared c.of-about.result.value.at_new (length c.serve_posts.new.posts) k) =
    λ k d less. c.in-Ok-hand_out.ensures.passes k d (omega (arith, less, handed))
    ∙ (λ i. Some (pass_at c.in-Ok.shared (sym about i).at_new (sym (worked ∙ handed) i) k)) in
    passes_of g.P.Protocol.meaning g.L.Endpoint.state g.D.Door.state g.H.EventHub.may_stop c.args.each c.in-Ok.shared c.of-about.result.value.at_new (length c.serve_posts.new.posts) c.hand_out.new.posts c.serve_posts.new.posts worked passes c.serve_posts.ensures.worked

pub returns-clause-served : goal.returns-clause-served
returns-clause-served g c =
    let handed : length c.hand_out.new.posts ≡ length c.args.posts.now = c.hand_out.auto.posts in
    let worked : length c.serve_posts.new.posts ≡ length c.hand_out.new.posts = c.serve_posts.auto.posts in
    let about : c.of-about.result.value ≡ c.in-Ok.first = c.of-about.ensures in
    let first_is : c.in-Ok.first ≡ first_pass c.in-Ok.shared (listed c.args.hub (g.H.EventHub.view c.args.hub)) = c.in-Ok.ensures.first in
    let list_is : c.in-Ok.first.at_new ≡ listed c.args.hub (g.H.EventHub.view c.args.hub) = ap (λ (p : PassState (KeptEntry _)). p.at_new) first_is in
    let lock = c.in-Ok.shared in
    let made = length c.args.posts.now in
    let whole : IsWhole lock (listed c.args.hub (g.H.EventHub.view c.args.hub)) made made c.gather-pass.result =
    subst (λ n. IsWhole lock (listed c.args.hub (g.H.EventHub.view c.args.hub)) n n c.gather-pass.result) (worked ∙ handed)
    (subst (λ l. IsWhole lock l (length c.serve_posts.new.posts) (length c.serve_posts.new.posts) c.gather-pass.result) (ap (λ (p : PassState (KeptEntry _)). p.at_new) about ∙ list_is) c.gather-pass.ensures.whole) in
    let passes : (k : ℕ) (d : Post _ _ _ _) → k < made → (slice_index_or c.hand_out.new.posts k d).pass ≡ Some (pass_at lock (listed c.args.hub (g.H.EventHub.view c.args.hub)) made k) =
    λ k d less. c.in-Ok-hand_out.ensures.passes k d less ∙ ap (λ l. Some (pass_at lock l made k)) list_is in
    let gathered : length c.gather-pass.new.posts ≡ length c.serve_posts.new.posts = c.gather-pass.auto.posts in
    let cleared : length c.clear-2.new.posts ≡ length c.gather-pass.new.posts = c.clear-2.auto.posts in
    rw (c.sessions_of-sessions.ensures, c.have_failed-door_failed.ensures, c.have_lacked-no_memory.ensures)
    (all_served g.P.Protocol.meaning g.L.Endpoint.state g.D.Door.state g.H.EventHub.may_stop c.args.each lock c.args.hub (g.H.EventHub.view c.args.hub) (g.H.EventHub.view c.close.result) c.gather-pass.result c.args.posts.now c.hand_out.new.posts c.serve_posts.new.posts c.clear-2.new.posts
    whole c.close.ensures.seen c.close.ensures.begins handed (worked ∙ handed) (cleared ∙ gathered ∙ worked ∙ handed) c.in-Ok-hand_out.ensures.places passes c.serve_posts.ensures.worked
    (λ k d. c.clear-2.ensures.doors k d ∙ c.gather-pass.ensures.doors k d) c.gather-pass.ensures.follows)

pub returns-clause-goes : goal.returns-clause-goes
returns-clause-goes g c =
    let about : c.of-about.result.value ≡ c.in-Ok.first = c.of-about.ensures in
    c.close.ensures.goes c.args.hub (subst (λ l. Began l c.args.hub) (sym (c.gather-pass.ensures.whole.at_new ∙ ap (λ (p : PassState (KeptEntry _)). p.at_new) about)) c.in-Ok.ensures.began)
