use Rattle.std.proofs.Common.{◌≡◌, List, Option, None, ℕ, sym, ◌∙◌, ap, subst, Bor}
use Rattle.std.specs.Option.{option_copied}
use Rattle.git_object.specs.Content.{Content}
use Rattle.git_object.specs.Object.{fault_of}
use Rattle.vref.specs.Rows.{entries_in}
use Rattle.policy_swap.proofs.EntryLemmas.{once_in}
use Rattle.policy_swap.proofs.trees.list_entries.Goals as goal

pub returns-clause-once : goal.returns-clause-once
returns-clause-once c front e rest is =
    once_in c.in-Some.tree.now.kind c.in-Some.tree.now.body (subst (λ (body : List ℕ). fault_of c.in-Some.tree.now.kind body ≡ None) c.body-form.ensures.body c.body-form.ensures.form)
    front e rest (ap (λ (o : Option (Bor Content)). entries_in (option_copied o)) (sym c.in-Some.is) ∙ is)
