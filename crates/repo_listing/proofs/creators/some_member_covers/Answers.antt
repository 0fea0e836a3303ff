use Rattle.std.proofs.Common.{◌≡◌, ℕ, List, true, false, sym, ◌∙◌, subst}
use Rattle.conf_lex.specs.Names.{is_user_name}
use Rattle.conf_groups.specs.Groups.{holds}
use Rattle.repo_listing.proofs.CreatorLemmas.{named, unnamed}
use Rattle.repo_listing.proofs.creators.some_member_covers.Goals as goal

pub returns-then-contains : goal.returns-then-contains
returns-then-contains c =
    c.if-contains.true
    ∙ named c.args.user.now (subst (λ (u : List ℕ). is_user_name u ≡ true) c.bytes-name.ensures.bytes c.bytes-name.ensures.rule) c.args.members.now
    (subst (λ (u : List ℕ). holds c.args.members.now u ≡ true) c.bytes-name.ensures.bytes (sym c.contains.ensures ∙ c.if-contains.true))

pub returns-else-contains : goal.returns-else-contains
returns-else-contains c =
    c.contains-else-contains.ensures
    ∙ unnamed c.args.user.now (subst (λ (u : List ℕ). is_user_name u ≡ true) c.bytes-name.ensures.bytes c.bytes-name.ensures.rule) c.args.members.now
    (subst (λ (u : List ℕ). holds c.args.members.now u ≡ false) c.bytes-name.ensures.bytes (sym c.contains.ensures ∙ c.if-contains.false))
