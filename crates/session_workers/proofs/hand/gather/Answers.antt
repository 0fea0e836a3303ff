use Rattle.std.proofs.Common.{◌≡◌, ◌≢◌, ◌<◌, arith, length, sym, ◌∙◌, ap, subst, get_or-set_other}
use Rattle.std.specs.Prelude.{Contains, IfSome, Some, None, slice_index_or}
use mathlib.Core.Logic.{dite}
use native.Mathlib.Decide.{ℕ_discrete}
use Rattle.session_workers.specs.declared.post.Post.{Post}
use Rattle.session_workers.specs.Passes.{Follows, HasPassOf, IsPassOf}
use Rattle.std.proofs.lemmas.List.{get_or_default, length-set}
use Rattle.session_workers.proofs.HandLemmas.{follows_at, follows_more, follows_self, whole_first, whole_more, set_keeps, if_some}
use Rattle.session_workers.proofs.hand.gather.Goals as goal

pub loop-place-init : goal.loop-place-init
loop-place-init g c =
    let posts = c.args.posts.now in
    let lock = c.args.hub.now in
    let list = c.args.first.value.at_new in
    let made = length posts in
    let item = c.index-posts-0.result in
    let whole = c.take_pass-whole.result in
    let within : 0 < length posts = c.requires.some in
    let taken : (slice_index_or posts 0 item).pass ≡ Some whole = c.take_pass-whole.ensures.taken in
    let emptied : c.take_pass-whole.new.post ≡ record (slice_index_or posts 0 item) { pass = None } = c.take_pass-whole.ensures.left in
    let of_place : IsPassOf lock list made 0 whole = subst (HasPassOf lock list made 0) taken (c.requires.passes 0 item within) in
    record {
      whole = whole_first lock list made whole of_place;
      doors = λ k d. set_keeps (λ (p : Post _ _ _ _). p.door) posts 0 k c.take_pass-whole.new.post d item within (ap (λ (p : Post _ _ _ _). p.door) emptied);
      left = λ k d above. let ne : k ≢ 0 = omega (arith, above) in get_or-set_other posts 0 k c.take_pass-whole.new.post d ne;
      follows = λ k d below.
          let zero : k ≡ 0 = omega (arith, below) in
          subst (λ m. IfSome (slice_index_or posts m d).pass (λ p. Follows m p whole)) (sym zero)
          (subst (λ o. IfSome o (λ p. Follows 0 p whole)) (sym (ap (λ (p : Post _ _ _ _). p.pass) (get_or_default posts 0 d item within) ∙ taken)) (follows_self 0 whole));
    }

pub loop-place-preserved : goal.loop-place-preserved
loop-place-preserved g c =
    let inv = c.loop-place.invariant in
    let place = c.loop-place.place in
    let posts = c.loop-place.posts in
    let lock = c.args.hub.now in
    let list = c.args.first.value.at_new in
    let made = length c.args.posts.now in
    let item = c.index-posts-place.result in
    let pass = c.take_pass-pass.result in
    let whole = c.loop-place.whole in
    let new = c.join.new.into in
    let within : place < length posts = omega arith in
    let within' : place < length c.args.posts.now = subst (λ n. place < n) (c.loop-place.auto.posts ∙ length-set c.args.posts.now 0 c.take_pass-whole.new.post) within in
    let taken : (slice_index_or posts place item).pass ≡ Some pass = c.take_pass-pass.ensures.taken in
    let emptied : c.take_pass-pass.new.post ≡ record (slice_index_or posts place item) { pass = None } = c.take_pass-pass.ensures.left in
    let item_is : slice_index_or posts place item ≡ slice_index_or c.args.posts.now place item = inv.left place item (omega arith) in
    let here : (slice_index_or c.args.posts.now place item).pass ≡ Some pass = ap (λ (p : Post _ _ _ _). p.pass) (sym item_is) ∙ taken in
    let of_place : IsPassOf lock list made place pass = subst (HasPassOf lock list made place) here (c.requires.passes place item within') in
    let hub = c.join.ensures.pass inv.whole.hub of_place.hub in
    let own : Contains pass.numbers place = subst (λ l. Contains l place) (sym of_place.same.numbers) (0, omega arith, omega arith) in
    record {
      whole = whole_more lock list made place whole pass new inv.whole of_place c.join.ensures.joined hub;
      doors = λ k d. set_keeps (λ (p : Post _ _ _ _). p.door) posts place k c.take_pass-pass.new.post d item within (ap (λ (p : Post _ _ _ _). p.door) emptied) ∙ inv.doors k d;
      left = λ k d above. let ne : k ≢ place = omega arith in get_or-set_other posts place k c.take_pass-pass.new.post d ne ∙ inv.left k d (omega arith);
      follows = λ k d below. dite (ℕ_discrete k place)
          (λ same. subst (λ m. IfSome (slice_index_or c.args.posts.now m d).pass (λ p. Follows m p new)) (sym same)
          (subst (λ o. IfSome o (λ p. Follows place p new)) (sym (ap (λ (p : Post _ _ _ _). p.pass) (get_or_default c.args.posts.now place d item within') ∙ here)) (follows_at place pass.numbers pass new own c.join.ensures.other_grows)))
          (λ other. let less : k < place = omega arith in
          if_some (slice_index_or c.args.posts.now k d).pass (λ p. Follows k p whole) (λ p. Follows k p new) (λ p follows. follows_more k whole.numbers p whole new (inv.whole.all k less) follows c.join.ensures.grows) (inv.follows k d less));
    }
