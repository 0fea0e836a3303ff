-- Roles that a user holds, and groups with words for users by what they are.
use Rattle.std.proofs.Common.{◌≡◌, ℕ, List, [], ◌∷◌, get_or, Bool, true, false, not, ◌&&◌, ◌||◌, refl, sym, ap, ap₂, ◌∙◌, subst, Contains}
use Rattle.std.specs.Prelude.{◌↔◌, IsTrue, Option, codes, if◌then◌else◌}
use Rattle.std.specs.List.{list_any, Any}
use Rattle.std.specs.Str.{bytes_eq}
use Rattle.std.proofs.lemmas.Bool.{and_parts, and_from, both_ways}
use Rattle.std.proofs.lemmas.Bool.Decides.{same_from_decides}
use Rattle.std.proofs.lemmas.List.Folds.{Any-from_list_any, list_any_at}
use Rattle.std.proofs.lemmas.Slice.Eq.{bytes_eq-Decides}
use Rattle.conf_lex.specs.Names.{is_user_name}
use Rattle.conf_groups.specs.Groups.{holds}
use Rattle.rule_compile.proofs.RoleLemmas.{declared_is_mentioned}
use Rattle.rule_compile.specs.Patterns.{Patterns}
use Rattle.rule_compile.specs.Roles.{declares, is_common_role, is_mentioned}
use Rattle.rule_compile.specs.declared.rule.OptionLine.{OptionLine}
use Rattle.rule_compile.specs.declared.rule.UserWord.{UserWord}
use Rattle.rule_compile.specs.declared.rule.UserWord.TheVariants as user
use Rattle.access_check.specs.Laws.{OnlyDeclaredRolesCover}
use Rattle.access_check.specs.Questions.{role_covers}
use Rattle.access_check.specs.Users.{Asked, covers_user, holds_role, is_creator, word_covers}
use Rattle.wild_perms.specs.declared.role.RoleEntry.{RoleEntry}

-- ---- roles

same_bytes : (a b : List ℕ) → bytes_eq a b ≡ true → a ≡ b
same_bytes a b = (bytes_eq-Decides a b).0

equal_bytes : (a b : List ℕ) → a ≡ b → bytes_eq a b ≡ true
equal_bytes a b = (bytes_eq-Decides a b).1

abbrev is_entry : List ℕ → List ℕ → RoleEntry → Bool
is_entry role user e = bytes_eq e.role role && bytes_eq e.user user

entry_there : (roles : List RoleEntry) (role user : List ℕ) → list_any (is_entry role user) roles ≡ true → Contains roles (record { role = role; user = user })
entry_there roles role user is =
    let found : Any (λ e. is_entry role user e ≡ true) roles = Any-from_list_any (is_entry role user) roles is in
    let parts : (bytes_eq found.1.role role ≡ true) × (bytes_eq found.1.user user ≡ true) = and_parts (bytes_eq found.1.role role) (bytes_eq found.1.user user) found.4 in
    let same : found.1 ≡ record { role = role; user = user } = ap₂ (λ (r u : List ℕ). record { role = r; user = u }) (same_bytes found.1.role role parts.0) (same_bytes found.1.user user parts.1) in
    (found.0, found.2, subst (λ (e : RoleEntry). get_or roles found.0 e ≡ e) same found.3)

there_entry : (roles : List RoleEntry) (role user : List ℕ) → Contains roles (record { role = role; user = user }) → list_any (is_entry role user) roles ≡ true
there_entry roles role user held =
    list_any_at (is_entry role user) roles held.0 (record { role = role; user = user }) held.1
    (subst (λ (e : RoleEntry). is_entry role user e ≡ true) (sym held.2)
    (and_from (bytes_eq role role) (bytes_eq user user) (equal_bytes role role refl) (equal_bytes user user refl)))

pub role_is : (roles : List RoleEntry) (role user : List ℕ) (b : Bool) → (IsTrue b ↔ Contains roles (record { role = role; user = user })) → b ≡ list_any (is_entry role user) roles
role_is roles role user b held = same_from_decides b (list_any (is_entry role user) roles) held (entry_there roles role user, there_entry roles role user)

-- ---- a group's members

first_of : (a b : Bool) → a ≡ true → (a || b) ≡ true
first_of true b e = refl
first_of false b e = absurd (both_ways false refl e)

second_of : (a b : Bool) → b ≡ true → (a || b) ≡ true
second_of true b e = refl
second_of false b e = e

one_met : (test : List ℕ → Bool) (w : List ℕ) (ws : List (List ℕ)) (word : List ℕ) (b : Bool) → bytes_eq w word ≡ b → test word ≡ true → (holds ws word ≡ true → list_any test ws ≡ true) → (b || holds ws word) ≡ true
    → (test w || list_any test ws) ≡ true
one_met test w ws word true e met later there = first_of (test w) (list_any test ws) (ap test (same_bytes w word e) ∙ met)
one_met test w ws word false e met later there = second_of (test w) (list_any test ws) (later there)

-- a word that is there meets the test
member_met : (test : List ℕ → Bool) (words : List (List ℕ)) (word : List ℕ) → holds words word ≡ true → test word ≡ true → list_any test words ≡ true
member_met test [] word there met = there
member_met test (w ∷ ws) word there met = one_met test w ws word (bytes_eq w word) refl met (λ held. member_met test ws word held met) there

-- no word that is there does
none_met : (test : List ℕ → Bool) (words : List (List ℕ)) → ((word : List ℕ) → holds words word ≡ true → test word ≡ false) → list_any test words ≡ false
none_met test [] missed = refl
none_met test (w ∷ ws) missed =
    ap (λ (b : Bool). b || list_any test ws) (missed w (first_of (bytes_eq w w) (holds ws w) (equal_bytes w w refl)))
    ∙ none_met test ws (λ word there. missed word (second_of (bytes_eq w word) (holds ws word) there))

pub missed_all : (test : List ℕ → Bool) (words : List (List ℕ)) (word : List ℕ) → holds words word ≡ true → list_any test words ≡ false → test word ≡ false
missed_all test words word there none = by_test (test word) refl
  where
    by_test : (b : Bool) → test word ≡ b → test word ≡ false
    by_test false e = e
    by_test true e = absurd (both_ways (list_any test words) none (member_met test words word there e))

pub covered_by : (a : Asked) (members : List (List ℕ)) (word : List ℕ) → holds members word ≡ true → word_covers a word ≡ true → true ≡ list_any (word_covers a) members
covered_by a members word there covers = sym (member_met (word_covers a) members word there covers)

-- a name that isn't declared as a role is for the user who bears it
pub name_covers : (a : Asked) → is_user_name a.user ≡ true → a.declares a.user ≡ false → word_covers a a.user ≡ true
name_covers a is undeclared =
    ap (λ (b : Bool). if b then is_creator a else (if a.declares a.user then holds_role a a.user else bytes_eq a.user a.user)) (not_creator a.user is)
    ∙ ap (λ (b : Bool). if b then holds_role a a.user else bytes_eq a.user a.user) undeclared
    ∙ equal_bytes a.user a.user refl
  where
    not_creator : (user : List ℕ) → is_user_name user ≡ true → bytes_eq user (codes "CREATOR") ≡ false
    not_creator user named = by_creator (bytes_eq user (codes "CREATOR")) refl
      where
        by_creator : (b : Bool) → bytes_eq user (codes "CREATOR") ≡ b → bytes_eq user (codes "CREATOR") ≡ false
        by_creator false e = e
        by_creator true e = absurd (let bad : is_user_name (codes "CREATOR") ≡ true = subst (λ (u : List ℕ). is_user_name u ≡ true) (same_bytes user (codes "CREATOR") e) named in both_ways (is_user_name (codes "CREATOR")) refl bad)

other_word : (a : Asked) (word : List ℕ) → a.declares (codes "CREATOR") ≡ false → a.declares word ≡ true → bytes_eq word (codes "CREATOR") ≡ false
other_word a word none declared = by_creator (bytes_eq word (codes "CREATOR")) refl
  where
    by_creator : (b : Bool) → bytes_eq word (codes "CREATOR") ≡ b → bytes_eq word (codes "CREATOR") ≡ false
    by_creator false e = e
    by_creator true e = absurd (both_ways (a.declares word) (ap a.declares (same_bytes word (codes "CREATOR") e) ∙ none) declared)

-- a declared role that the user holds is for the user
pub role_found : (a : Asked) (members : List (List ℕ)) (word : List ℕ) → a.declares (codes "CREATOR") ≡ false → role_covers a members word ≡ true → true ≡ list_any (word_covers a) members
role_found a members word none is =
    let held : (holds_role a word ≡ true) × ((holds members word && a.declares word) ≡ true) = and_parts (holds_role a word) (holds members word && a.declares word) is in
    let there : (holds members word ≡ true) × (a.declares word ≡ true) = and_parts (holds members word) (a.declares word) held.1 in
    covered_by a members word there.0
    (ap (λ (b : Bool). if b then is_creator a else (if a.declares word then holds_role a word else bytes_eq word a.user)) (other_word a word none there.1)
    ∙ ap (λ (b : Bool). if b then holds_role a word else bytes_eq word a.user) there.1
    ∙ held.0)

off_first : (a b : Bool) → b ≡ true → (a && b) ≡ false → a ≡ false
off_first true b is off = absurd (both_ways b off is)
off_first false b is off = refl

-- where neither the name, nor the creator, nor a declared role is a member, no member covers the user
pub none_covers : (a : Asked) (members : List (List ℕ)) → (holds members a.user && not (a.declares a.user)) ≡ false → (is_creator a && holds members (codes "CREATOR")) ≡ false
    → ((word : List ℕ) → a.declares word ≡ true → role_covers a members word ≡ false) → false ≡ list_any (word_covers a) members
none_covers a members name creator roles = sym (none_met (word_covers a) members missed)
  where
    by_name : (word : List ℕ) → holds members word ≡ true → a.declares word ≡ false → (b : Bool) → bytes_eq word a.user ≡ b → bytes_eq word a.user ≡ false
    by_name word there other false e = e
    by_name word there other true e =
        let same : word ≡ a.user = same_bytes word a.user e in
        absurd (both_ways (holds members a.user && not (a.declares a.user)) name (and_from (holds members a.user) (not (a.declares a.user)) (ap (holds members) (sym same) ∙ there) (ap not (ap a.declares (sym same) ∙ other))))

    by_role : (word : List ℕ) → holds members word ≡ true → (b : Bool) → a.declares word ≡ b → (if b then holds_role a word else bytes_eq word a.user) ≡ false
    by_role word there true e = off_first (holds_role a word) (holds members word && a.declares word) (and_from (holds members word) (a.declares word) there e) (roles word e)
    by_role word there false e = by_name word there e (bytes_eq word a.user) refl

    by_creator : (word : List ℕ) → holds members word ≡ true → (b : Bool) → bytes_eq word (codes "CREATOR") ≡ b
        → (if b then is_creator a else (if a.declares word then holds_role a word else bytes_eq word a.user)) ≡ false
    by_creator word there true e = off_first (is_creator a) (holds members (codes "CREATOR")) (ap (holds members) (sym (same_bytes word (codes "CREATOR") e)) ∙ there) creator
    by_creator word there false e = by_role word there (a.declares word) refl

    missed : (word : List ℕ) → holds members word ≡ true → word_covers a word ≡ false
    missed word there = by_creator word there (bytes_eq word (codes "CREATOR")) refl

-- ---- declared roles

-- a role that is declared is one of the two, or some option line mentions it
pub all_roles : (ps : Patterns) (lines : List OptionLine) (repo : List ℕ) (creator : Option (List ℕ)) (test : List ℕ → Bool) → test (codes "READERS") ≡ false → test (codes "WRITERS") ≡ false
    → ((word : List ℕ) → is_mentioned lines word ≡ true → test word ≡ false) → (word : List ℕ) → declares ps lines word repo creator ≡ true → test word ≡ false
all_roles ps lines repo creator test readers writers others word declared = by_common (is_common_role word) refl
  where
    by_two : (b : Bool) → bytes_eq word (codes "READERS") ≡ b → (b || bytes_eq word (codes "WRITERS")) ≡ true → test word ≡ false
    by_two true e is = ap test (same_bytes word (codes "READERS") e) ∙ readers
    by_two false e is = ap test (same_bytes word (codes "WRITERS") is) ∙ writers

    by_common : (b : Bool) → is_common_role word ≡ b → test word ≡ false
    by_common true e = by_two (bytes_eq word (codes "READERS")) refl e
    by_common false e = others word (declared_is_mentioned ps lines word repo creator declared e)

-- ---- the law

pub only_declared_cover : OnlyDeclaredRolesCover
only_declared_cover = record {
  word = λ a word undeclared not_creator not_user.
      ap (λ (b : Bool). if b then is_creator a else (if a.declares word then holds_role a word else bytes_eq word a.user)) (unequal word (codes "CREATOR") not_creator)
      ∙ ap (λ (b : Bool). if b then holds_role a word else bytes_eq word a.user) undeclared
      ∙ unequal word a.user not_user;
  entries = entries;
} where
  unequal : (x y : List ℕ) → (x ≡ y → ⊥) → bytes_eq x y ≡ false
  unequal x y apart = by_same (bytes_eq x y) refl
    where
      by_same : (b : Bool) → bytes_eq x y ≡ b → bytes_eq x y ≡ false
      by_same true e = absurd (apart (same_bytes x y e))
      by_same false e = e

  by_declared : (b : Bool) (x y z : Bool) → (b ≡ true → x ≡ y) → (if b then x else z) ≡ (if b then y else z)
  by_declared true x y z same = same refl
  by_declared false x y z same = refl

  one_word : (a : Asked) (roles : List RoleEntry) → ((role : List ℕ) → a.declares role ≡ true → holds_role (record a { roles = roles }) role ≡ holds_role a role)
      → (word : List ℕ) → word_covers (record a { roles = roles }) word ≡ word_covers a word
  one_word a roles same word =
      ap (λ (b : Bool). if bytes_eq word (codes "CREATOR") then is_creator a else b)
      (by_declared (a.declares word) (holds_role (record a { roles = roles }) word) (holds_role a word) (bytes_eq word a.user) (same word))

  some_word : (a : Asked) (roles : List RoleEntry) → ((role : List ℕ) → a.declares role ≡ true → holds_role (record a { roles = roles }) role ≡ holds_role a role)
      → (words : List (List ℕ)) → list_any (word_covers (record a { roles = roles })) words ≡ list_any (word_covers a) words
  some_word a roles same [] = refl
  some_word a roles same (w ∷ ws) = ap₂ (λ (x y : Bool). x || y) (one_word a roles same w) (some_word a roles same ws)

  entries : (a : Asked) (roles : List RoleEntry) → ((role : List ℕ) → a.declares role ≡ true → holds_role (record a { roles = roles }) role ≡ holds_role a role)
      → (user : UserWord) → covers_user (record a { roles = roles }) user ≡ covers_user a user
  entries a roles same (user.Name name) = one_word a roles same name
  entries a roles same (user.Group name members) = some_word a roles same members
  entries a roles same user.All = refl
  entries a roles same user.Creator = refl
  entries a roles same (user.Role role) = one_word a roles same role
