use Rattle.std.proofs.Common.{◌≡◌, ℕ, List, false, sym, ap, ◌∙◌, arith}
use Rattle.std.specs.List.{list_any}
use Rattle.std.proofs.lemmas.List.{take_all}
use Rattle.access_check.specs.Questions.{asked_by, role_covers}
use Rattle.access_check.proofs.UserLemmas.{missed_all}
use Rattle.access_check.proofs.users.Question.some_role_covers.Goals as goal

pub returns-clause-none : goal.returns-clause-none
returns-clause-none c = λ ps ok word mentioned.
    let names = c.mentioned_roles-word-items.result.now in
    let test = role_covers (asked_by ps c.args.self.now) c.args.members.now in
    let all : list_any test names ≡ false =
    ap (λ (ns : List (List ℕ)). list_any test ns) (sym (take_all c.loop-word.word-index names (omega (arith, c.loop-word-test.false)))) ∙ c.loop-word.invariant ps ok in
    missed_all test names word (c.mentioned_roles-word-items.ensures word ∙ mentioned) all
