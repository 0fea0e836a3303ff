-- Groups, for whoever creates a repository.
use Rattle.std.proofs.Common.{◌≡◌, ℕ, List, Bool, true, false, not, refl, ◌∙◌, subst}
use Rattle.std.specs.Prelude.{codes, ◌||◌}
use Rattle.std.specs.List.{list_any}
use Rattle.std.specs.Str.{bytes_eq}
use Rattle.std.specs.Cmp.Lexicographic.{bytes_decides, nat_list_eq_equiv}
use Rattle.std.proofs.lemmas.Bool.{and_left, and_right, both_ways}
use Rattle.conf_lex.specs.Names.{is_user_name}
use Rattle.conf_groups.specs.Groups.{holds}
use Rattle.rule_compile.specs.Roles.{is_common_role}
use Rattle.access_check.specs.Users.{asked_anywhere, is_creator, word_covers}
use Rattle.access_check.proofs.UserLemmas.{covered_by, name_covers, none_covers}

-- a user's name is neither of the two roles
no_common_role : (user : List ℕ) → is_user_name user ≡ true → is_common_role user ≡ false
no_common_role user is = by_readers (bytes_eq user (codes "READERS")) refl
  where
    by_writers : (b : Bool) → bytes_eq user (codes "WRITERS") ≡ b → b ≡ false
    by_writers false e = refl
    by_writers true e =
        absurd (let bad : is_user_name (codes "WRITERS") ≡ true = subst (λ (u : List ℕ). is_user_name u ≡ true) ((bytes_decides user (codes "WRITERS")).0 e) is in both_ways (is_user_name (codes "WRITERS")) refl bad)

    by_readers : (b : Bool) → bytes_eq user (codes "READERS") ≡ b → (b || bytes_eq user (codes "WRITERS")) ≡ false
    by_readers false e = by_writers (bytes_eq user (codes "WRITERS")) refl
    by_readers true e =
        absurd (let bad : is_user_name (codes "READERS") ≡ true = subst (λ (u : List ℕ). is_user_name u ≡ true) ((bytes_decides user (codes "READERS")).0 e) is in both_ways (is_user_name (codes "READERS")) refl bad)

module _ (user : List ℕ) (is : is_user_name user ≡ true) (members : List (List ℕ)) where
  -- the name is a member
  pub named : holds members user ≡ true → true ≡ list_any (word_covers (asked_anywhere user)) members
  named held = covered_by (asked_anywhere user) members user held (name_covers (asked_anywhere user) is (no_common_role user is))

  -- it isn't: then `CREATOR` has to be one
  pub unnamed : holds members user ≡ false → holds members (codes "CREATOR") ≡ list_any (word_covers (asked_anywhere user)) members
  unnamed other = by_case (holds members (codes "CREATOR")) refl
    where
      by_case : (b : Bool) → holds members (codes "CREATOR") ≡ b → holds members (codes "CREATOR") ≡ list_any (word_covers (asked_anywhere user)) members
      by_case true held = held ∙ covered_by (asked_anywhere user) members (codes "CREATOR") held (nat_list_eq_equiv.refl user)
      by_case false apart =
          apart
          ∙ none_covers (asked_anywhere user) members (and_left (holds members user) (not (is_common_role user)) other) (and_right (is_creator (asked_anywhere user)) (holds members (codes "CREATOR")) apart)
          (λ word declared. refl)
