use Rattle.std.proofs.Common.{◌≡◌, List, ◌++◌, sym, ◌∙◌, ap, subst}
use Rattle.std.proofs.lemmas.List.{append_cancel_left}
use Rattle.git_object.specs.Content.{Content}
use Rattle.ref_store.specs.Objects.{with_pack}
use Rattle.ref_store.specs.Store.{Store}
use Rattle.ancestry.specs.Closures.{AreClosures}
use Rattle.ancestry.specs.Known.{AreFound, AreKnown}
use Rattle.push_judging.proofs.judging.prepared_pack.Goals as goal

pub closures_of_tips-requires : goal.closures_of_tips-requires
closures_of_tips-requires c = subst (λ (s : Store). AreClosures s.objects c.closures.result.now) (sym (c.in_ok-repo.ensures ∙ c.repo.ensures.repo)) c.closures.ensures

pub known_behind-requires : goal.known_behind-requires
known_behind-requires c = subst (λ (os : List Content). AreFound os c.args.findings) c.requires.lens c.requires.found

pub fresh_in-requires : goal.fresh_in-requires
fresh_in-requires c = c.requires.lens ∙ ap (λ (s : Store). s.objects ++ c.args.pack.now) (sym (c.in_ok-repo.ensures ∙ c.repo.ensures.repo))

pub new-requires-clause-known : goal.new-requires-clause-known
new-requires-clause-known c = subst (λ (os : List Content). AreKnown os c.in_ok-known.known) (sym c.requires.lens) c.in_ok-known.ensures

pub new-requires-clause-grown_closures : goal.new-requires-clause-grown_closures
new-requires-clause-grown_closures c = λ pack also.
    let before = c.in_ok-repo.repo.objects in
    let split : c.args.lens ≡ before ++ c.args.pack.now = c.requires.lens ∙ ap (λ (s : Store). s.objects ++ c.args.pack.now) (sym (c.in_ok-repo.ensures ∙ c.repo.ensures.repo)) in
    subst (λ (os : List Content). AreClosures (with_pack before os) c.in_ok-grown_closures.grown_closures) (append_cancel_left before c.args.pack.now pack (sym split ∙ also)) c.in_ok-grown_closures.ensures

pub returns : goal.returns
returns c = c.new.ensures ∙ ap (λ (s : Store). record { before = s.objects; objects = c.args.lens }) (c.in_ok-repo.ensures ∙ c.repo.ensures.repo)
