-- The patterns of rules by the numbers of the rules.
use Rattle.std.proofs.Common.{◌≡◌, ◌≤◌, ℕ, List, [], ◌∷◌, ◌++◌, length, take, drop, map, Bool, true, false, cond, Option, refl, sym, ◌∙◌, ap, ap₂}
use Rattle.std.specs.List.{flat_map}
use Rattle.std.specs.Option.{option_map_or}
use Rattle.std.proofs.lemmas.List.{map-append, take-append-drop, take_all}
use Rattle.std.proofs.lemmas.List.Concat.{flat_map-append}
use Rattle.conf_groups.specs.Groups.{with_items}
use Rattle.rule_compile.specs.Covering.{is_pattern_word, numbers_of}
use Rattle.rule_compile.specs.Index.{AreNumbered}
use Rattle.rule_compile.specs.declared.rule.RepoWord.{RepoWord}
use Rattle.rule_compile.specs.declared.rule.RepoWord.TheVariants as repo
use Rattle.rule_compile.specs.declared.rule.Rule.{Rule}
use Rattle.access_check.specs.Questions.{AllLead}
use Rattle.access_check.proofs.RuleLemmas.{rules_lead}
use Rattle.repo_listing.specs.Listing.{AppendsSome, lets_create, pattern_lines, pattern_texts, patterns_by, patterns_for}
use Rattle.repo_listing.specs.Steps.{patterns_at}
use Rattle.repo_listing.specs.declared.lines.LookLine.{LookLine}
use Rattle.repo_listing.specs.declared.lines.LookLine.TheVariants.{Pattern}
use Rattle.repo_listing.proofs.ListLemmas.{once_begins}

other_word : (b : Bool) (w : RepoWord) → is_pattern_word w ≡ false → [] ≡ cond b (pattern_texts w) []
other_word true (repo.Plain name) is = refl
other_word true repo.All is = refl
other_word true (repo.Pattern text) is = absurd cc
other_word false w is = refl

-- the rules whose word is a pattern have all of them
pub by_numbers : (user : List ℕ) (all some : List Rule) → AllLead all some → flat_map (patterns_at all user) (numbers_of is_pattern_word some) ≡ flat_map (patterns_by user) some
by_numbers user all [] lead = refl
by_numbers user all (r ∷ rs) lead = by_word (by_numbers user all rs lead.1) (is_pattern_word r.repo) refl
  where
    by_word : flat_map (patterns_at all user) (numbers_of is_pattern_word rs) ≡ flat_map (patterns_by user) rs → (b : Bool) → is_pattern_word r.repo ≡ b
        → flat_map (patterns_at all user) (cond b (r.seq ∷ numbers_of is_pattern_word rs) (numbers_of is_pattern_word rs)) ≡ patterns_by user r ++ flat_map (patterns_by user) rs
    by_word rest true is = ap₂ (λ (x y : List (List ℕ)). x ++ y) (ap (λ (o : Option Rule). option_map_or (patterns_by user) o []) lead.0) rest
    by_word rest false is = rest ∙ ap (λ (l : List (List ℕ)). l ++ flat_map (patterns_by user) rs) (other_word (lets_create user r) r.repo is)

module _ (rules : List Rule) (user numbers : List ℕ) (i : ℕ) (are : AreNumbered rules) (is : numbers ≡ numbers_of is_pattern_word rules) where
  all_of : flat_map (patterns_at rules user) numbers ≡ flat_map (patterns_by user) rules
  all_of = ap (flat_map (patterns_at rules user)) is ∙ by_numbers user rules rules (rules_lead rules are)

  -- all rules were looked at
  pub all_appended : length numbers ≤ i → with_items [] (flat_map (patterns_at rules user) (take i numbers)) ≡ patterns_for rules user
  all_appended past = ap (λ (ns : List ℕ). with_items [] (flat_map (patterns_at rules user) ns)) (take_all i numbers past) ∙ ap (with_items []) all_of

  -- some were
  pub some_appended : (before list more : List LookLine) → list ≡ before ++ map Pattern (with_items [] (flat_map (patterns_at rules user) (take i numbers))) → more ≡ list → AppendsSome (pattern_lines rules user) before more
  some_appended before list more at same =
      let first = flat_map (patterns_at rules user) (take i numbers) in
      let last = flat_map (patterns_at rules user) (drop i numbers) in
      let parts : flat_map (patterns_by user) rules ≡ first ++ last =
      sym all_of ∙ ap (flat_map (patterns_at rules user)) (sym (take-append-drop i numbers)) ∙ flat_map-append (patterns_at rules user) (take i numbers) (drop i numbers) in
      let begins = once_begins first last in
      (map Pattern (with_items [] first), map Pattern begins.0, ap (map Pattern) (ap (with_items []) parts ∙ begins.1) ∙ map-append Pattern (with_items [] first) begins.0, same ∙ at)
