-- The laws of listings.
use Rattle.std.proofs.Common.{◌≡◌, ℕ, List, [], ◌∷◌, Bool, true, false, cond, Option, Some, None, Contains, inl, inr, refl, sym, ◌∙◌, ap, subst}
use Rattle.std.specs.Prelude.{◌&&◌, ◌||◌, codes, if◌then◌else◌}
use Rattle.std.specs.List.{find, flat_map, list_any}
use Rattle.std.specs.Str.{bytes_eq}
use Rattle.std.proofs.lemmas.Bool.{and_from, and_parts}
use Rattle.std.proofs.lemmas.List.Concat.{flat_map-append}
use Rattle.std.proofs.lemmas.List.Elements.{Contains-append_cases, Contains-append_left, Contains-append_right}
use Rattle.conf_groups.specs.Groups.{with_items}
use Rattle.rule_compile.specs.Covering.{covers_repo, is_in_force, is_pattern_word}
use Rattle.rule_compile.specs.Flat.{Flat}
use Rattle.rule_compile.specs.Patterns.{Patterns}
use Rattle.rule_compile.specs.Roles.{is_common_role, is_role_name, role_key}
use Rattle.rule_compile.specs.declared.rule.RepoWord.{RepoWord}
use Rattle.rule_compile.specs.declared.rule.RepoWord.TheVariants as repo
use Rattle.rule_compile.specs.declared.rule.Rule.{Rule}
use Rattle.rule_compile.specs.declared.rule.UserWord.{UserWord}
use Rattle.rule_compile.specs.declared.rule.UserWord.TheVariants as word
use Rattle.access_check.specs.Users.{asked_anywhere, asked_unborn, covers_user, word_covers}
use Rattle.access_check.specs.Verdicts.{covers, creates, creating_decides, deny_rules_count, verdict_of}
use Rattle.access_check.specs.declared.verdicts.Verdict.TheVariants.{Allowed, DeniedBy}
use Rattle.access_check.specs.declared.verdicts.Want.TheVariants.{Read, Write}
use Rattle.repo_listing.specs.Laws.{CreatedAreListed, IsCreatable, IsSeen, PatternsAreListed, PatternsAreOnce, PatternsKeepOrder, ReposAreListed}
use Rattle.repo_listing.specs.Listing.{Repository, is_allowed, lets_create, listing, may, pattern_lines, pattern_texts, patterns_by, patterns_for, repo_lines}
use Rattle.repo_listing.specs.declared.lines.LookLine.{LookLine}
use Rattle.repo_listing.specs.declared.lines.LookLine.TheVariants.{Repo, Pattern}
use Rattle.repo_listing.proofs.ListLemmas.{first_or_rest, flat_map_has, here, in_flat_map, in_map, in_none, in_once, items_distinct, map_has, once_begins, once_has, there}

single : {X : Type 0} (x y : X) → Contains (x ∷ []) y → x ≡ y
single x y c = elim (first_or_rest x [] y c) [ inl same ↦ same | inr none ↦ absurd (in_none y none) ]

-- ---- repositories

module _ (patterns : Patterns) (flat : Flat) (user : List ℕ) (r : Repository) where
  -- a line of a repository is what it is due
  line_is : (line : LookLine) → Contains (repo_lines patterns flat user r) line → (may patterns flat user r Read ≡ true) × (Repo r.name (may patterns flat user r Write) ≡ line)
  line_is line c = by_case (may patterns flat user r Read) refl c
    where
      by_case : (b : Bool) → may patterns flat user r Read ≡ b → Contains (cond b (Repo r.name (may patterns flat user r Write) ∷ []) []) line
          → (may patterns flat user r Read ≡ true) × (Repo r.name (may patterns flat user r Write) ≡ line)
      by_case true is some = (is, single (Repo r.name (may patterns flat user r Write)) line some)
      by_case false is none = absurd (in_none line none)

  has_line : may patterns flat user r Read ≡ true → Contains (repo_lines patterns flat user r) (Repo r.name (may patterns flat user r Write))
  has_line is =
      subst (λ (b : Bool). Contains (cond b (Repo r.name (may patterns flat user r Write) ∷ []) []) (Repo r.name (may patterns flat user r Write))) (sym is)
      (here (Repo r.name (may patterns flat user r Write)) [])

pub repos_listed : ReposAreListed
repos_listed patterns flat repos user name write = (forth, back)
  where
    forth : Contains (listing patterns flat repos user) (Repo name write) → IsSeen (may patterns flat user) repos name write
    forth c =
        elim (Contains-append_cases (flat_map (repo_lines patterns flat user) repos) (pattern_lines flat.rules user) (Repo name write) c) [
          | inl some ↦
              let found = in_flat_map (repo_lines patterns flat user) repos (Repo name write) some in
              let is = line_is patterns flat user found.0 (Repo name write) found.2 in
              (found.0, found.1, cc is.1, is.0, cc is.1)
          | inr other ↦ let found = in_map Pattern (patterns_for flat.rules user) (Repo name write) other in absurd (cc found.2)
        ]

    back : IsSeen (may patterns flat user) repos name write → Contains (listing patterns flat repos user) (Repo name write)
    back is =
        let same : Repo is.0.name (may patterns flat user is.0 Write) ≡ Repo name write = cc (is.2, is.4) in
        Contains-append_left (flat_map (repo_lines patterns flat user) repos) (pattern_lines flat.rules user) (Repo name write)
        (flat_map_has (repo_lines patterns flat user) repos is.0 (Repo name write) is.1
        (subst (λ (line : LookLine). Contains (repo_lines patterns flat user is.0) line) same (has_line patterns flat user is.0 is.3)))

-- ---- patterns

-- whom a rule covers before a repository is there it covers where none is given: fewer words are declared as
-- roles
either : (a b x y : Bool) → (a ≡ true → x ≡ true) → (b ≡ true → y ≡ true) → (a || b) ≡ true → (x || y) ≡ true
either true b x y first second is = ap (λ (c : Bool). c || y) (first refl)
either false b true y first second is = refl
either false b false y first second is = second is

role_less : (creator common declared made named : Bool) → (if creator then made else (if common || declared then false else named)) ≡ true → (if creator then made else (if common then false else named)) ≡ true
role_less true common declared made named is = is
role_less false true declared made named is = is
role_less false false true made named is = absurd (cc is)
role_less false false false made named is = is

module _ (patterns : Patterns) (flat : Flat) (name user : List ℕ) where
  word_anywhere : (w : List ℕ) → word_covers (asked_unborn patterns flat name user) w ≡ true → word_covers (asked_anywhere user) w ≡ true
  word_anywhere w is =
      role_less (bytes_eq w (codes "CREATOR")) (is_common_role w) (is_role_name w && is_in_force patterns flat.options (role_key w) name (Some user)) (bytes_eq user user) (bytes_eq w user) is

  any_anywhere : (ws : List (List ℕ)) → list_any (word_covers (asked_unborn patterns flat name user)) ws ≡ true → list_any (word_covers (asked_anywhere user)) ws ≡ true
  any_anywhere [] is = is
  any_anywhere (w ∷ ws) is =
      either (word_covers (asked_unborn patterns flat name user) w) (list_any (word_covers (asked_unborn patterns flat name user)) ws) (word_covers (asked_anywhere user) w) (list_any (word_covers (asked_anywhere user)) ws)
      (word_anywhere w) (any_anywhere ws) is

  anywhere : (w : UserWord) → covers_user (asked_unborn patterns flat name user) w ≡ true → covers_user (asked_anywhere user) w ≡ true
  anywhere (word.Name n) is = word_anywhere n is
  anywhere (word.Group g members) is = any_anywhere members is
  anywhere word.All is = is
  anywhere word.Creator is = is
  anywhere (word.Role role) is = word_anywhere role is

pattern_is : (w : RepoWord) (text : List ℕ) → Contains (pattern_texts w) text → w ≡ repo.Pattern text
pattern_is (repo.Plain name) text c = absurd (in_none text c)
pattern_is repo.All text c = absurd (in_none text c)
pattern_is (repo.Pattern t) text c = ap repo.Pattern (single t text c)

module _ (user : List ℕ) (rule : Rule) (text : List ℕ) where
  lets_by : Contains (patterns_by user rule) text → (lets_create user rule ≡ true) × (rule.repo ≡ repo.Pattern text)
  lets_by c = by_case (lets_create user rule) refl c
    where
      by_case : (b : Bool) → lets_create user rule ≡ b → Contains (cond b (pattern_texts rule.repo) []) text → (lets_create user rule ≡ true) × (rule.repo ≡ repo.Pattern text)
      by_case true is some = (is, pattern_is rule.repo text some)
      by_case false is none = absurd (in_none text none)

  by_lets : lets_create user rule ≡ true → rule.repo ≡ repo.Pattern text → Contains (patterns_by user rule) text
  by_lets is at =
      subst (λ (b : Bool). Contains (cond b (pattern_texts rule.repo) []) text) (sym is)
      (subst (λ (w : RepoWord). Contains (pattern_texts w) text) (sym at) (here text []))

module _ (patterns : Patterns) (flat : Flat) (repos : List Repository) (user text : List ℕ) where
  pattern_in : Contains (listing patterns flat repos user) (Pattern text) → IsCreatable flat.rules user text
  pattern_in c =
      elim (Contains-append_cases (flat_map (repo_lines patterns flat user) repos) (pattern_lines flat.rules user) (Pattern text) c) [
        | inl other ↦
            let found = in_flat_map (repo_lines patterns flat user) repos (Pattern text) other in
            let is = line_is patterns flat user found.0 (Pattern text) found.2 in
            absurd (cc is.1)
        | inr some ↦
            let of = in_map Pattern (patterns_for flat.rules user) (Pattern text) some in
            let same : of.0 ≡ text = cc of.2 in
            let found = in_flat_map (patterns_by user) flat.rules text (subst (λ (t : List ℕ). Contains (flat_map (patterns_by user) flat.rules) t) same (in_once (flat_map (patterns_by user) flat.rules) of.0 of.1)) in
            by_rule found.0 found.1 (lets_by user found.0 text found.2)
      ]
    where
      by_rule : (rule : Rule) → Contains flat.rules rule → (lets_create user rule ≡ true) × (rule.repo ≡ repo.Pattern text) → IsCreatable flat.rules user text
      by_rule rule in_rules is =
          let parts = and_parts (creates rule) (covers_user (asked_anywhere user) rule.user) is.0 in
          (rule, in_rules, (and_parts rule.perm.lone_create (is_pattern_word rule.repo) parts.0).0, is.1, parts.1)

  has_pattern : IsCreatable flat.rules user text → Contains (listing patterns flat repos user) (Pattern text)
  has_pattern is =
      let made : creates is.0 ≡ true = and_from is.0.perm.lone_create (is_pattern_word is.0.repo) is.2 (ap is_pattern_word is.3) in
      let lets : lets_create user is.0 ≡ true = and_from (creates is.0) (covers_user (asked_anywhere user) is.0.user) made is.4 in
      Contains-append_right (flat_map (repo_lines patterns flat user) repos) (pattern_lines flat.rules user) (Pattern text)
      (map_has Pattern (patterns_for flat.rules user) text
      (once_has (flat_map (patterns_by user) flat.rules) text
      (flat_map_has (patterns_by user) flat.rules is.0 text is.1 (by_lets user is.0 text lets is.3))))

pub patterns_listed : PatternsAreListed
patterns_listed patterns flat repos user text = (pattern_in patterns flat repos user text, has_pattern patterns flat repos user text)

pub patterns_once : PatternsAreOnce
patterns_once rules user = items_distinct [] (flat_map (patterns_by user) rules) refl

pub order_kept : PatternsKeepOrder
order_kept rules more user =
    let begins = once_begins (flat_map (patterns_by user) rules) (flat_map (patterns_by user) more) in
    (begins.0, ap (with_items []) (flat_map-append (patterns_by user) rules more) ∙ begins.1)

-- ---- repositories that may be created

found_there : {X : Type 0} (test : X → Bool) (xs : List X) (x : X) → find test xs ≡ Some x → Contains xs x × (test x ≡ true)
found_there test [] x is = absurd cc
found_there {X} test (y ∷ xs) x is = by_case (found_there test xs x) (test y) refl is
  where
    by_case : (find test xs ≡ Some x → Contains xs x × (test x ≡ true)) → (b : Bool) → test y ≡ b → cond b (Some y) (find test xs) ≡ Some x → Contains (y ∷ xs) x × (test x ≡ true)
    by_case rest true passes e = let same : y ≡ x = cc in (subst (λ (z : X). Contains (y ∷ xs) z) same (here y xs), subst (λ (z : X). test z ≡ true) same passes)
    by_case rest false fails e = let found = rest e in (there y xs x found.0, found.1)

pub created_listed : CreatedAreListed
created_listed patterns flat repos name user allowed = by_found (find test flat.rules) refl allowed
  where
    counts : Bool
    counts = deny_rules_count patterns flat (asked_unborn patterns flat name user)

    test : Rule → Bool
    test = creating_decides patterns (asked_unborn patterns flat name user) counts

    by_word : (rule : Rule) → Contains flat.rules rule → rule.perm.lone_create ≡ true → covers_user (asked_unborn patterns flat name user) rule.user ≡ true
        → (w : RepoWord) → rule.repo ≡ w → is_pattern_word w ≡ true → covers_repo patterns w name (Some user) ≡ true
        → (text : List ℕ) × (patterns.takes text user name ≡ true) × Contains (listing patterns flat repos user) (Pattern text)
    by_word rule in_rules lone for_user (repo.Plain plain) at is there = absurd cc
    by_word rule in_rules lone for_user repo.All at is there = absurd cc
    by_word rule in_rules lone for_user (repo.Pattern text) at is there =
        (text, there, has_pattern patterns flat repos user text (rule, in_rules, lone, at, anywhere patterns flat name user rule.user for_user))

    by_deny : (rule : Rule) → Contains flat.rules rule → (deny : Bool) → is_allowed (verdict_of (Some rule)) ≡ true → rule.perm.deny ≡ deny
        → (covers patterns (asked_unborn patterns flat name user) rule && cond deny counts (creates rule)) ≡ true
        → (text : List ℕ) × (patterns.takes text user name ≡ true) × Contains (listing patterns flat repos user) (Pattern text)
    by_deny rule in_rules true ok is passes = let no : false ≡ true = subst (λ (b : Bool). is_allowed (if b then DeniedBy rule.seq else Allowed rule.seq) ≡ true) is ok in cc no
    by_deny rule in_rules false ok is passes =
        let parts = and_parts (covers patterns (asked_unborn patterns flat name user) rule) (creates rule) passes in
        let covered = and_parts (covers_repo patterns rule.repo name (Some user)) (covers_user (asked_unborn patterns flat name user) rule.user) parts.0 in
        let made = and_parts rule.perm.lone_create (is_pattern_word rule.repo) parts.1 in
        by_word rule in_rules made.0 covered.1 rule.repo refl made.1 covered.0

    by_found : (found : Option Rule) → find test flat.rules ≡ found → is_allowed (verdict_of found) ≡ true
        → (text : List ℕ) × (patterns.takes text user name ≡ true) × Contains (listing patterns flat repos user) (Pattern text)
    by_found None is ok = absurd cc
    by_found (Some rule) is ok = let there = found_there test flat.rules rule is in by_deny rule there.0 rule.perm.deny ok refl there.1
