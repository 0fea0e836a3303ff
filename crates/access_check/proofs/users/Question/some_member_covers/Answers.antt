use Rattle.std.proofs.Common.{◌≡◌, ℕ, List, Bool, true, false, refl, sym, ◌∙◌, subst}
use Rattle.std.specs.Prelude.{codes, not}
use Rattle.std.specs.Bool.{OnFalse, OnTrue}
use Rattle.std.specs.List.{list_any}
use Rattle.std.specs.Option.{option_copied}
use Rattle.std.proofs.lemmas.Bool.{and_parts, not-true}
use Rattle.conf_lex.specs.Names.{is_user_name}
use Rattle.conf_groups.specs.Groups.{holds}
use Rattle.rule_compile.proofs.RoleLemmas.{creator_undeclared}
use Rattle.rule_compile.specs.Patterns.{AreTrue, Patterns}
use Rattle.rule_compile.specs.Roles.{is_mentioned}
use Rattle.access_check.specs.Questions.{asked_by, role_covers}
use Rattle.access_check.specs.Users.{is_creator, word_covers}
use Rattle.access_check.proofs.UserLemmas.{all_roles, covered_by, name_covers, none_covers, role_found}
use Rattle.access_check.proofs.users.Question.some_member_covers.Goals as goal

pub returns-then-is_member : goal.returns-then-is_member
returns-then-is_member c = λ ps ok.
    let a = asked_by ps c.args.self.now in
    let both = and_parts (holds c.args.members.now a.user) (not (a.declares a.user)) (sym (c.is_member.ensures ps ok) ∙ c.if-is_member.true) in
    covered_by a c.args.members.now a.user both.0 (name_covers a (subst (λ (u : List ℕ). is_user_name u ≡ true) c.bytes-name.ensures.bytes c.bytes-name.ensures.rule) (not-true (a.declares a.user) both.1))

pub returns-then-is_member_as_creator : goal.returns-then-is_member_as_creator
returns-then-is_member_as_creator c = λ ps ok.
    let a = asked_by ps c.args.self.now in
    let both = and_parts (is_creator a) (holds c.args.members.now (codes "CREATOR")) (sym (c.is_member_as_creator.ensures ps) ∙ c.if-is_member_as_creator.true) in
    covered_by a c.args.members.now (codes "CREATOR") both.1 both.0

pub returns-then-role_covers : goal.returns-then-role_covers
returns-then-role_covers c = λ ps ok.
    let q = c.args.self.now in
    role_found (asked_by ps q) c.args.members.now (codes "READERS") (creator_undeclared ps q.policy.now.options q.repo.now (option_copied q.creator)) (sym (c.role_covers.ensures ps ok) ∙ c.if-role_covers.true)

pub returns-then-role_covers-2 : goal.returns-then-role_covers-2
returns-then-role_covers-2 c = λ ps ok.
    let q = c.args.self.now in
    role_found (asked_by ps q) c.args.members.now (codes "WRITERS") (creator_undeclared ps q.policy.now.options q.repo.now (option_copied q.creator)) (sym (c.role_covers-2.ensures ps ok) ∙ c.if-role_covers-2.true)

pub returns : goal.returns
returns c = by_result c.some_role_covers.result refl
  where
    by_result : (b : Bool) → c.some_role_covers.result ≡ b → (ps : Patterns) → AreTrue ps → c.some_role_covers.result ≡ list_any (word_covers (asked_by ps c.args.self.now)) c.args.members.now
    by_result true is = λ ps ok.
        let q = c.args.self.now in
        let found = subst (λ (b : Bool). OnTrue b ((qs : Patterns) → AreTrue qs → (word : List ℕ) × (role_covers (asked_by qs q) c.args.members.now word ≡ true))) is c.some_role_covers.ensures.some ps ok in
        is ∙ role_found (asked_by ps q) c.args.members.now found.0 (creator_undeclared ps q.policy.now.options q.repo.now (option_copied q.creator)) found.1
    by_result false is = λ ps ok.
        let q = c.args.self.now in
        let a = asked_by ps q in
        let none = subst (λ (b : Bool). OnFalse b ((qs : Patterns) → AreTrue qs → (word : List ℕ) → is_mentioned q.policy.now.options word ≡ true → role_covers (asked_by qs q) c.args.members.now word ≡ false)) is
        c.some_role_covers.ensures.none ps ok in
        is ∙ none_covers a c.args.members.now (sym (c.is_member.ensures ps ok) ∙ c.if-is_member.false) (sym (c.is_member_as_creator.ensures ps) ∙ c.if-is_member_as_creator.false)
        (all_roles ps q.policy.now.options q.repo.now (option_copied q.creator) (role_covers a c.args.members.now) (sym (c.role_covers.ensures ps ok) ∙ c.if-role_covers.false) (sym (c.role_covers-2.ensures ps ok) ∙ c.if-role_covers-2.false) none)
