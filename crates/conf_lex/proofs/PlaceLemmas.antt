-- How long words are with what stands between them.
use Rattle.std.proofs.Common.{◌≡◌, ◌≤◌, ◌+◌, ◌-◌, ℕ, List, [], ◌∷◌, ◌++◌, length, arith, Bool, true, false, cond, ◌==◌, ap, refl, sym, ◌∙◌, length-append}
use Rattle.std.specs.Prelude.{not, filter, ◌||◌, codes, if◌then◌else◌, Some, None}
use Rattle.std.specs.List.{slice_split, onto_first, flat_map}
use Rattle.conf_lex.specs.Cleaning.{pieces, joined}
use Rattle.conf_lex.specs.Words.{before_equals, after_equals, has_equals, is_equals, place_after}
use Rattle.conf_lex.specs.Statements.{bad_in_rule, bad_user, or_else}
use Rattle.conf_lex.specs.declared.words.Use.TheVariants.{Refex, User}
use Rattle.conf_lex.specs.Words.{first_bad}
use Rattle.conf_lex.proofs.ByteLemmas.{same_bytes}

pub place_after_append : (a b : List (List ℕ)) → place_after (a ++ b) ≡ place_after a + place_after b
place_after_append [] b = omega arith
place_after_append (w ∷ a) b = omega (arith, place_after_append a b)

length-spread : (ws : List (List ℕ)) → length (flat_map (λ v. 32 ∷ v) ws) ≡ place_after ws
length-spread [] = refl
length-spread (w ∷ ws) = omega (arith, length-spread ws, length-append {A = ℕ} w (flat_map (λ v. 32 ∷ v) ws))

-- a line ends one byte before the place of a word that would follow
pub length_joined : (w : List ℕ) (ws : List (List ℕ)) → length (joined (w ∷ ws)) + 1 ≡ place_after (w ∷ ws)
length_joined w ws = omega (arith, length-spread ws, length-append {A = ℕ} w (flat_map (λ v. 32 ∷ v) ws))

around_case : (b : Bool) (w : List ℕ) (ws : List (List ℕ)) → (b ≡ true → length w ≡ 1) → (b ≡ false → place_after (before_equals ws) + 2 + place_after (after_equals ws) ≡ place_after ws)
    → place_after (cond b [] (w ∷ before_equals ws)) + 2 + place_after (cond b ws (after_equals ws)) ≡ length w + 1 + place_after ws
around_case true w ws single rest = let one : length w ≡ 1 = single refl in omega arith
around_case false w ws single rest = let others = rest refl in omega (arith, others)

one_byte : (w : List ℕ) → is_equals w ≡ true → length w ≡ 1
one_byte w e = ap length (same_bytes w (codes "=") e)

-- what stands around the first `=`, and that word itself
pub place_after_around : (ws : List (List ℕ)) → has_equals ws ≡ true → place_after (before_equals ws) + 2 + place_after (after_equals ws) ≡ place_after ws
place_after_around [] has = absurd cc
place_after_around (w ∷ ws) has = around_case (is_equals w) w ws (one_byte w) (λ other. place_after_around ws (sym (ap (λ b. b || has_equals ws) other) ∙ has))

split_case : (c : Bool) (b : ℕ) (parts : List (List ℕ)) (n : ℕ) → place_after parts ≤ n → 1 ≤ length parts → (place_after (cond c ([] ∷ parts) (onto_first b parts)) ≤ n + 1) × (1 ≤ length (cond c ([] ∷ parts) (onto_first b parts)))
split_case true b parts n h l = (omega arith, omega arith)
split_case false b [] n h l = absurd (omega arith)
split_case false b (p ∷ ps) n h l = (omega arith, omega arith)

after_split : (test : ℕ → Bool) (bs : List ℕ) → (place_after (slice_split test bs) ≤ length bs + 1) × (1 ≤ length (slice_split test bs))
after_split test [] = (omega arith, omega arith)
after_split test (b ∷ bs) =
    let rec : (place_after (slice_split test bs) ≤ length bs + 1) × (1 ≤ length (slice_split test bs)) = after_split test bs in
    let here : (place_after (slice_split test (b ∷ bs)) ≤ length bs + 1 + 1) × (1 ≤ length (slice_split test (b ∷ bs))) = split_case (test b) b (slice_split test bs) (length bs + 1) rec.0 rec.1 in
    (omega (arith, here), here.1)

kept_case : (c : Bool) (w : List ℕ) (ws : List (List ℕ)) (n : ℕ) → place_after ws ≤ n → place_after (cond c (w ∷ ws) ws) ≤ length w + 1 + n
kept_case true w ws n h = omega arith
kept_case false w ws n h = omega arith

after_kept : (p : List ℕ → Bool) (ws : List (List ℕ)) → place_after (filter p ws) ≤ place_after ws
after_kept p [] = omega arith
after_kept p (w ∷ ws) = kept_case (p w) w (filter p ws) (place_after ws) (after_kept p ws)

-- the pieces of a text are no longer than it
pub place_after_pieces : (test : ℕ → Bool) (bs : List ℕ) → place_after (pieces test bs) ≤ length bs + 1
place_after_pieces test bs = omega (arith, after_kept (λ w. not (length w == 0)) (slice_split test bs), (after_split test bs).0)

-- where the users of a rule stand, and where a rule without users ends
pub users_at : (perm : List ℕ) (refexes : List (List ℕ)) → place_after (perm ∷ (refexes ++ codes "=" ∷ [])) ≡ length perm + 1 + place_after refexes + 2
users_at perm refexes = omega (arith, place_after_append refexes (codes "=" ∷ []))

pub rule_end : (perm : List ℕ) (refexes : List (List ℕ)) → length (joined (perm ∷ (refexes ++ codes "=" ∷ []))) ≡ length perm + 1 + place_after refexes + 2 - 1
rule_end perm refexes = omega (arith, length_joined perm (refexes ++ codes "=" ∷ []), users_at perm refexes)

-- where no refex is bad, a user is or none is
pub bad_user_of_rule : (perm : List ℕ) (refexes users : List (List ℕ)) (start n : ℕ) → start ≡ length perm + 1 + place_after refexes + 2 → n ≡ length users
    → first_bad Refex (length perm + 1) refexes ≡ None
    → (if n == 0 then Some (start - 1) else first_bad User start users) ≡ bad_in_rule perm refexes users
bad_user_of_rule perm refexes users start n at size sound =
    let before : List (List ℕ) = perm ∷ (refexes ++ codes "=" ∷ []) in
    let first : length perm + 1 ≡ place_after (perm ∷ []) = omega arith in
    ap (λ e. if n == 0 then Some e else first_bad User start users) (ap (λ m. m - 1) at ∙ sym (rule_end perm refexes))
    ∙ ap (λ m. if n == 0 then Some (length (joined before)) else first_bad User m users) (at ∙ sym (users_at perm refexes))
    ∙ ap (λ k. if k == 0 then Some (length (joined before)) else first_bad User (place_after before) users) size
    ∙ ap (λ o. or_else o (bad_user before users)) (sym sound ∙ ap (λ m. first_bad Refex m refexes) first)
