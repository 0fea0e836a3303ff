-- The words of a statement may stand where they stand.
use Rattle.std.proofs.Common.{◌≡◌, ◌≤◌, ◌+◌, ◌==◌, ℕ, List, [], ◌∷◌, length, Bool, true, false, arith, refl, sym, subst, ◌∙◌}
use Rattle.std.specs.Prelude.{codes, Option, Some, None, Ok, Err, if◌then◌else◌, ◌&&◌}
use Rattle.std.specs.Str.{bytes_eq}
use Rattle.conf_lex.specs.Permissions.{perm_of}
use Rattle.conf_lex.specs.Words.{before_equals, after_equals, begins_with_at, first_bad, has_equals, is_bad, is_equals, place_after}
use Rattle.conf_lex.specs.Statements.{by_table, by_words, is_no_group, is_without_effect, nth, or_else, repo_line, rule_line, unless_bad, unquoted}
use Rattle.conf_lex.specs.declared.perm.Perm.{Perm}
use Rattle.conf_lex.specs.declared.words.Use.{Use}
use Rattle.conf_lex.specs.declared.words.Use.TheVariants.{Anything, Repository, Member, Refex, User}
use Rattle.conf_lex.specs.declared.fault.LexFault.TheVariants.{BadWord}
use Rattle.conf_lex.specs.declared.statement.Statement.{Statement}
use Rattle.conf_lex.specs.declared.statement.Statement.TheVariants.{Blank, Group, Include, Opt, Repo, Rule, Subconf, NoEffect}
use Rattle.conf_lex.specs.Laws.{AllGood, HasGoodWords, StatementsHaveGoodWords}
use Rattle.conf_lex.proofs.CleanLemmas.{line_words, statement_of_line}
use Rattle.conf_lex.proofs.PermLemmas.{perm_texts_are_read}
use Rattle.conf_lex.proofs.SpellingLemmas.{Says, first_true, row, same_statement, sound_case, unless_ok}

good_case : (for : Use) (c : Bool) (w : List ℕ) (ws : List (List ℕ)) → is_bad for w ≡ c → c ≡ false → AllGood for ws → AllGood for (w ∷ ws)
good_case for true w ws e sound rest = absurd cc
good_case for false w ws e sound rest = rw e rest

-- words of which none is bad are good
none_bad : (for : Use) (at : ℕ) (ws : List (List ℕ)) → first_bad for at ws ≡ None → AllGood for ws
none_bad for at [] sound = refl
none_bad for at (w ∷ ws) sound =
    let parts = sound_case (is_bad for w) at _ sound in
    good_case for (is_bad for w) w ws refl parts.0 (none_bad for (at + length w + 1) ws parts.1)

good_as : (a s : Statement) → Says (Ok a) s → HasGoodWords a → HasGoodWords s
good_as a s e good = subst HasGoodWords (sym (same_statement a s e)) good

repo_good : (ws : List (List ℕ)) (s : Statement) → repo_line ws ≡ Ok s → HasGoodWords s
repo_good [] s e = absurd cc
repo_good (w ∷ ws) s e =
    let parts = unless_ok _ _ s e in
    good_as (Repo (w ∷ ws)) s parts.1 (omega arith, none_bad Repository _ (w ∷ ws) parts.0)

group_case : (c : Bool) (name : List ℕ) (members : List (List ℕ)) (at : ℕ) (s : Statement) → begins_with_at name ≡ true → is_no_group name ≡ c → (if c then Err (BadWord 0) else unless_bad (first_bad Member at members) (Ok (Group name members))) ≡ Ok s → HasGoodWords s
group_case true name members at s b n e = absurd cc
group_case false name members at s b n e =
    let parts = unless_ok (first_bad Member at members) _ s e in
    good_as (Group name members) s parts.1 (b, n, none_bad Member at members parts.0)

neither : (o p : Option ℕ) → or_else o p ≡ None → (o ≡ None) × (p ≡ None)
neither None p e = (refl, e)
neither (Some at) p e = absurd cc

user_case : (c : Bool) (end at : ℕ) (users : List (List ℕ)) → (length users == 0) ≡ c → (if c then Some end else first_bad User at users) ≡ None → (1 ≤ length users) × AllGood User users
user_case true end at users n e = absurd cc
user_case false end at [] n e = absurd cc
user_case false end at (u ∷ us) n e = (omega arith, none_bad User at (u ∷ us) e)

rule_good : (w : List ℕ) (refexes users : List (List ℕ)) (perm : Option Perm) (s : Statement) → perm_of w ≡ perm → rule_line w refexes users perm ≡ Ok s → HasGoodWords s
rule_good w refexes users None s p e = absurd cc
rule_good w refexes users (Some perm) s p e =
    let parts = unless_ok _ _ s e in
    let sound = neither (first_bad Refex (place_after (w ∷ [])) refexes) _ parts.0 in
    let users_good = user_case (length users == 0) _ _ users refl sound.1 in
    good_as (Rule perm refexes users) s parts.1 (perm_texts_are_read.read_back w perm p, none_bad Refex _ refexes sound.0, users_good.0, users_good.1)

table_good : (w : List ℕ) (ws : List (List ℕ)) (s : Statement) → by_table (w ∷ ws) ≡ Ok s → HasGoodWords s
table_good w ws s e =
    row (bytes_eq w (codes "repo")) _ _ s (HasGoodWords s) (λ c f. repo_good ws s f)
    (λ e1. row (bytes_eq w (codes "include") && (length ws == 1)) _ _ s (HasGoodWords s) (λ c f. good_as (Include (unquoted (nth ws 0))) s f tt)
    (λ e2. row (bytes_eq w (codes "subconf") && (length ws == 1)) _ _ s (HasGoodWords s) (λ c f. good_as (Subconf (unquoted (nth ws 0))) s f tt)
    (λ e3. row (begins_with_at w && is_equals (nth ws 0)) _ _ s (HasGoodWords s) (λ c f. group_case (is_no_group w) w (after_equals ws) _ s (first_true (begins_with_at w) _ c) refl f)
    (λ e4. row (bytes_eq w (codes "option") && (length ws == 3) && is_equals (nth ws 1)) _ _ s (HasGoodWords s) (λ c f. good_as (Opt (nth ws 0) (nth ws 2)) s f tt)
    (λ e5. row (is_without_effect w && has_equals ws) _ _ s (HasGoodWords s) (λ c f. good_as NoEffect s f tt)
    (λ e6. row (has_equals (w ∷ ws)) _ _ s (HasGoodWords s) (λ c f. rule_good w (before_equals ws) (after_equals ws) (perm_of w) s refl f)
    (λ e7. absurd cc) e6) e5) e4) e3) e2) e1) e

words_good : (ws : List (List ℕ)) (s : Statement) → by_words ws ≡ Ok s → HasGoodWords s
words_good [] s e = good_as Blank s e tt
words_good (w ∷ ws) s e = table_good w ws s (unless_ok (first_bad Anything 0 (w ∷ ws)) (by_table (w ∷ ws)) s e).1

pub statements_have_good_words : StatementsHaveGoodWords
statements_have_good_words = record { have = λ line s e. words_good (line_words line) s (sym (statement_of_line line) ∙ e) }
