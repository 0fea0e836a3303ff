use Rattle.std.proofs.Common.{Bool, sym, ap, ◌∙◌}
use Rattle.std.specs.Prelude.{if◌then◌else◌}
use Rattle.std.specs.Str.{bytes_eq}
use Rattle.access_check.specs.Questions.{asked_by}
use Rattle.access_check.specs.Users.{holds_role, is_creator}
use Rattle.access_check.proofs.users.Question.word_covers.Goals as goal

pub returns-then-eq : goal.returns-then-eq
returns-then-eq c = λ ps ok.
    let a = asked_by ps c.args.self.now in
    let word = c.args.word.now in
    c.is_creator.ensures ps ∙ ap (λ (b : Bool). if b then is_creator a else (if a.declares word then holds_role a word else bytes_eq word a.user)) (sym (sym c.eq.ensures ∙ c.if-eq.true))

pub returns-then-declares : goal.returns-then-declares
returns-then-declares c = λ ps ok.
    let a = asked_by ps c.args.self.now in
    let word = c.args.word.now in
    c.holds_role.ensures ps
    ∙ ap (λ (b : Bool). if b then holds_role a word else bytes_eq word a.user) (sym (sym (c.declares.ensures ps ok) ∙ c.if-declares.true))
    ∙ ap (λ (b : Bool). if b then is_creator a else (if a.declares word then holds_role a word else bytes_eq word a.user)) (sym (sym c.eq.ensures ∙ c.if-eq.false))
