use Rattle.std.proofs.Common.{◌≡◌, Bool, true, sym, ap, ◌∙◌}
use Rattle.std.specs.Prelude.{◌&&◌}
use Rattle.std.proofs.lemmas.Bool.{and_left, and_right}
use Rattle.conf_groups.specs.Groups.{holds}
use Rattle.access_check.specs.Questions.{asked_by}
use Rattle.access_check.specs.Users.{holds_role}
use Rattle.access_check.proofs.users.Question.role_covers.Goals as goal

pub returns-then-not-holds_role : goal.returns-then-not-holds_role
returns-then-not-holds_role c = λ ps ok.
    let a = asked_by ps c.args.self.now in
    sym (and_left (holds_role a c.args.word.now) (holds c.args.members.now c.args.word.now && a.declares c.args.word.now) (sym (c.holds_role.ensures ps) ∙ c.if-not-holds_role.true))

pub returns-then-not-contains : goal.returns-then-not-contains
returns-then-not-contains c = λ ps ok.
    let a = asked_by ps c.args.self.now in
    sym (and_right (holds_role a c.args.word.now) (holds c.args.members.now c.args.word.now && a.declares c.args.word.now)
    (and_left (holds c.args.members.now c.args.word.now) (a.declares c.args.word.now) (sym c.contains.ensures ∙ c.if-not-contains.true)))

pub returns : goal.returns
returns c = λ ps ok.
    let a = asked_by ps c.args.self.now in
    let held : holds_role a c.args.word.now ≡ true = sym (c.holds_role.ensures ps) ∙ c.if-not-holds_role.false in
    let there : holds c.args.members.now c.args.word.now ≡ true = sym c.contains.ensures ∙ c.if-not-contains.false in
    c.declares.ensures ps ok
    ∙ ap (λ (b : Bool). b && a.declares c.args.word.now) (sym there)
    ∙ ap (λ (b : Bool). b && (holds c.args.members.now c.args.word.now && a.declares c.args.word.now)) (sym held)
