use Rattle.std.proofs.Common.{◌∙◌, sym, ap, Some}
use Rattle.std.specs.Option.{option_copied}
use Rattle.push_judging.proofs.AlikeLemmas.{alike}
use Rattle.push_judging.proofs.again.are_alike.Goals as goal

pub returns-clause-are : goal.returns-clause-are
returns-clause-are c = λ same.
    alike _ _
    (sym c.creator.ensures ∙ ap option_copied c.in-Some.is ∙ ap Some (c.is_same_user.ensures.is search) ∙ sym (ap option_copied c.in-Some-creator.is) ∙ c.creator-2.ensures)
    (sym c.in-Listed.ensures.1 ∙ sym c.as_slice.ensures ∙ c.are_same.ensures.are same ∙ c.as_slice-2.ensures ∙ c.in-Listed-list.ensures.1)
