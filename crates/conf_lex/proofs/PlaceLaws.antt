-- Places are offsets in the cleaned line.
use Rattle.std.proofs.Common.{suc, drop, zero-add, ◌≡◌, ◌≤◌, ◌+◌, ◌==◌, ℕ, List, [], ◌∷◌, ◌++◌, length, Bool, true, false, arith, refl, sym, ap, ◌∙◌}
use Rattle.std.specs.Prelude.{codes, Option, Some, None, Ok, Err, if◌then◌else◌, ◌&&◌, ◌||◌}
use Rattle.std.specs.Str.{bytes_eq}
use Rattle.conf_lex.specs.Cleaning.{joined}
use Rattle.conf_lex.specs.Permissions.{perm_of}
use Rattle.conf_lex.specs.Words.{before_equals, after_equals, begins_with_at, first_bad, has_equals, is_bad, is_equals, place_after}
use Rattle.conf_lex.specs.Statements.{Answer, by_table, by_words, group_line, is_no_group, is_without_effect, nth, or_else, repo_line, rule_line, unless_bad}
use Rattle.conf_lex.specs.declared.perm.Perm.{Perm}
use Rattle.conf_lex.specs.declared.words.Use.{Use}
use Rattle.conf_lex.specs.declared.words.Use.TheVariants.{Anything, Repository, Member, Refex, User}
use Rattle.conf_lex.specs.declared.fault.LexFault.TheVariants.{BadWord}
use Rattle.conf_lex.specs.declared.statement.Statement.{Statement}
use Rattle.conf_lex.specs.Laws.{IsFirstBad, PlacesAreOffsets}
use Rattle.conf_lex.proofs.ByteLemmas.{same_bytes}
use Rattle.conf_lex.proofs.PlaceLemmas.{length_joined, place_after_around, rule_end, users_at}
use Rattle.conf_lex.proofs.WordLemmas.{spread}
use Rattle.conf_lex.proofs.CleanLemmas.{line_words, statement_of_line}

-- every bad word that is told stands before this place
abbrev pub StandsBefore : ℕ → Answer → Type 0
StandsBefore end answer = (k : ℕ) → answer ≡ Err (BadWord k) → k + 1 ≤ end

bad_case : (c : Bool) (u : Use) (at n : ℕ) (ws : List (List ℕ)) → ((k : ℕ) → first_bad u (at + n + 1) ws ≡ Some k → k + 1 ≤ at + n + 1 + place_after ws) → (k : ℕ) → (if c then Some at else first_bad u (at + n + 1) ws) ≡ Some k → k + 1 ≤ at + (n + 1 + place_after ws)
bad_case true u at n ws later k e = let same : at ≡ k = cc in omega arith
bad_case false u at n ws later k e = let l = later k e in omega (arith, l)

-- a bad word stands before the place after all words
bad_before : (u : Use) (at : ℕ) (ws : List (List ℕ)) (k : ℕ) → first_bad u at ws ≡ Some k → k + 1 ≤ at + place_after ws
bad_before u at [] k e = absurd cc
bad_before u at (w ∷ ws) k e = bad_case (is_bad u w) u at (length w) ws (λ j f. bad_before u (at + length w + 1) ws j f) k e

unless_before : (o : Option ℕ) (answer : Answer) (end : ℕ) → ((k : ℕ) → o ≡ Some k → k + 1 ≤ end) → StandsBefore end answer → StandsBefore end (unless_bad o answer)
unless_before None answer end bad rest k e = rest k e
unless_before (Some j) answer end bad rest k e = let same : j ≡ k = cc in let l = bad j refl in omega arith

-- a statement tells no place
said : (s : Statement) (end : ℕ) → StandsBefore end (Ok s)
said s end k e = absurd cc

row_before : (c : Bool) (says others : Answer) (end : ℕ) → (c ≡ true → StandsBefore end says) → StandsBefore end others → StandsBefore end (if c then says else others)
row_before true says others end here later = here refl
row_before false says others end here later = later

either_before : (o p : Option ℕ) (end : ℕ) → ((k : ℕ) → o ≡ Some k → k + 1 ≤ end) → ((k : ℕ) → p ≡ Some k → k + 1 ≤ end) → (k : ℕ) → or_else o p ≡ Some k → k + 1 ≤ end
either_before None p end first second k e = second k e
either_before (Some j) p end first second k e = first k e

first_true : (a b : Bool) → (a && b) ≡ true → a ≡ true
first_true true b e = refl
first_true false b e = e

second_true : (a b : Bool) → (a && b) ≡ true → b ≡ true
second_true true b e = e
second_true false b e = absurd cc

repo_before : (w : List ℕ) (ws : List (List ℕ)) → w ≡ codes "repo" → StandsBefore (place_after (w ∷ ws)) (repo_line ws)
repo_before w [] e = λ k f. absurd cc
repo_before w (v ∷ vs) e =
    let size : length w ≡ 4 = ap length e in
    unless_before _ _ _ (λ k f. let l = bad_before Repository _ (v ∷ vs) k f in omega (arith, l)) (said _ _)

-- a first word `=` is one of the words
first_equals : (ws : List (List ℕ)) → is_equals (nth ws 0) ≡ true → has_equals ws ≡ true
first_equals [] e = absurd cc
first_equals (w ∷ ws) e = rw e refl

group_before : (w : List ℕ) (ws : List (List ℕ)) → is_equals (nth ws 0) ≡ true → StandsBefore (place_after (w ∷ ws)) (group_line w (after_equals ws))
group_before w ws e =
    let around = place_after_around ws (first_equals ws e) in
    row_before (is_no_group w) _ _ _ (λ h k f. let same : 0 ≡ k = cc in omega arith)
    (unless_before _ _ _ (λ k f. let l = bad_before Member _ (after_equals ws) k f in omega (arith, l, around)) (said _ _))

user_case : (c : Bool) (before users : List (List ℕ)) (end : ℕ) → place_after before + place_after users ≤ end → length (joined before) + 1 ≤ end → (k : ℕ) → (if c then Some (length (joined before)) else first_bad User (place_after before) users) ≡ Some k → k + 1 ≤ end
user_case true before users end fits ends k e = let same : length (joined before) ≡ k = cc in omega arith
user_case false before users end fits ends k e = let l = bad_before User (place_after before) users k e in omega (arith, l)

rule_before : (w : List ℕ) (ws : List (List ℕ)) (perm : Option Perm) → has_equals ws ≡ true → StandsBefore (place_after (w ∷ ws)) (rule_line w (before_equals ws) (after_equals ws) perm)
rule_before w ws None has = λ k f. absurd cc
rule_before w ws (Some perm) has =
    let around = place_after_around ws has in
    let start = users_at w (before_equals ws) in
    let end = rule_end w (before_equals ws) in
    unless_before _ _ _
    (either_before _ _ _ (λ k f. let l = bad_before Refex _ (before_equals ws) k f in omega (arith, l, around))
    (user_case (length (after_equals ws) == 0) (w ∷ (before_equals ws ++ codes "=" ∷ [])) (after_equals ws) _ (omega (arith, around, start)) (omega (arith, around, end))))
    (said _ _)

-- where the first word is `=` the line is no rule, whatever follows
equals_case : (c : Bool) (w : List ℕ) (ws : List (List ℕ)) → is_equals w ≡ c → (c || has_equals ws) ≡ true → StandsBefore (place_after (w ∷ ws)) (rule_line w (before_equals ws) (after_equals ws) (perm_of w))
equals_case true w ws e has = rw (same_bytes w (codes "=") e) (λ k f. absurd cc)
equals_case false w ws e has = rule_before w ws (perm_of w) has

table_before : (w : List ℕ) (ws : List (List ℕ)) → StandsBefore (place_after (w ∷ ws)) (by_table (w ∷ ws))
table_before w ws =
    row_before (bytes_eq w (codes "repo")) _ _ _ (λ h. repo_before w ws (same_bytes w (codes "repo") h))
    (row_before (bytes_eq w (codes "include") && (length ws == 1)) _ _ _ (λ h. said _ _)
    (row_before (bytes_eq w (codes "subconf") && (length ws == 1)) _ _ _ (λ h. said _ _)
    (row_before (begins_with_at w && is_equals (nth ws 0)) _ _ _ (λ h. group_before w ws (second_true (begins_with_at w) _ h))
    (row_before (bytes_eq w (codes "option") && (length ws == 3) && is_equals (nth ws 1)) _ _ _ (λ h. said _ _)
    (row_before (is_without_effect w && has_equals ws) _ _ _ (λ h. said _ _)
    (row_before (has_equals (w ∷ ws)) _ _ _ (λ h. equals_case (is_equals w) w ws refl h)
    (λ k f. absurd cc)))))))

words_before : (ws : List (List ℕ)) (k : ℕ) → by_words ws ≡ Err (BadWord k) → k ≤ length (joined ws)
words_before [] k e = absurd cc
words_before (w ∷ ws) k e =
    let l = unless_before (first_bad Anything 0 (w ∷ ws)) (by_table (w ∷ ws)) (place_after (w ∷ ws)) (λ j f. let b = bad_before Anything 0 (w ∷ ws) j f in omega (arith, b)) (table_before w ws) k e in
    omega (arith, l, length_joined w ws)

drop_past : (front rest : List ℕ) (n : ℕ) → drop (length front + n) (front ++ rest) ≡ drop n rest
drop_past [] rest n = ap (λ m. drop m rest) (zero-add n)
drop_past (b ∷ bs) rest n =
    let size : suc (length bs) + n ≡ suc (length bs + n) = omega arith in
    ap (λ m. drop m (b ∷ (bs ++ rest))) size ∙ drop_past bs rest n

spread_is : (before after : List (List ℕ)) (word : List ℕ) → spread (before ++ word ∷ after) ≡ 32 ∷ joined (before ++ word ∷ after)
spread_is [] after word = refl
spread_is (w ∷ ws) after word = refl

-- a word stands after the words before it and a space for each
offset : (before after : List (List ℕ)) (word : List ℕ) → drop (place_after before) (joined (before ++ word ∷ after)) ≡ joined (word ∷ after)
offset [] after word = refl
offset (w ∷ ws) after word =
    let size : length w + 1 + place_after ws ≡ length w + suc (place_after ws) = omega arith in
    ap (λ m. drop m (w ++ spread (ws ++ word ∷ after))) size
    ∙ drop_past w (spread (ws ++ word ∷ after)) (suc (place_after ws))
    ∙ ap (drop (suc (place_after ws))) (spread_is ws after word)
    ∙ offset ws after word

first_case : (c : Bool) (for : Use) (at place : ℕ) (w : List ℕ) (ws : List (List ℕ)) → is_bad for w ≡ c → (if c then Some at else first_bad for (at + length w + 1) ws) ≡ Some place
    → (first_bad for (at + length w + 1) ws ≡ Some place → IsFirstBad for (at + length w + 1) ws place) → IsFirstBad for at (w ∷ ws) place
first_case true for at place w ws e told later =
    let same : at ≡ place = cc in
    record { before = []; word = w; after = ws; split = refl; good = refl; bad = e; there = omega arith }
first_case false for at place w ws e told later =
    let rest : IsFirstBad for (at + length w + 1) ws place = later told in
    let there : place ≡ at + length w + 1 + place_after rest.before = rest.there in
    record {
      before = w ∷ rest.before;
      word = rest.word;
      after = rest.after;
      split = ap (λ l. w ∷ l) rest.split;
      good = rw e rest.good;
      bad = rest.bad;
      there = omega (arith, there);
    }

first : (for : Use) (at place : ℕ) (ws : List (List ℕ)) → first_bad for at ws ≡ Some place → IsFirstBad for at ws place
first for at place [] told = absurd cc
first for at place (w ∷ ws) told = first_case (is_bad for w) for at place w ws refl told (λ t. first for (at + length w + 1) place ws t)

pub places_are_offsets : PlacesAreOffsets
places_are_offsets = record {
  offset = offset;
  first = first;
  within = λ line at e. words_before (line_words line) at (sym (statement_of_line line) ∙ e);
}
