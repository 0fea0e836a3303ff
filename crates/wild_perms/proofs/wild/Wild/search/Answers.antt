use Rattle.std.proofs.Common.{◌≡◌, List, ◌∙◌, ap, subst, rules}
use Rattle.std.proofs.lemmas.Fn.{always_returns_same}
use Rattle.std.specs.List.Sorted.{IsBinarySearchResult}
use Rattle.wild_perms.specs.Roles.{WildView, entry_cmp}
use Rattle.wild_perms.specs.declared.role.RoleEntry.{RoleEntry}
use Rattle.wild_perms.proofs.wild.Wild.search.Goals as goal

pub returns-clause-position : goal.returns-clause-position
returns-clause-position c =
    let entries : c.deref.result.now ≡ c.args.self.now.roles = c.deref.ensures.value ∙ ap (λ (v : WildView). v.roles) c.self.view_is in
    subst (λ (l : List RoleEntry). IsBinarySearchResult (λ e. entry_cmp e (record { role = c.args.role.now; user = c.args.user.now })) l c.binary_search_by.result) entries
    (c.binary_search_by.ensures.position (λ e. entry_cmp e (record { role = c.args.role.now; user = c.args.user.now })) (always_returns_same _ _ _ (λ a r f k. search rules)))
