-- What the lines of a new hub's conf say.
use Rattle.std.proofs.Common.{◌≡◌, ◌≤◌, ℕ, List, [], ◌∷◌, ◌++◌, length, true, false, refl, ap, ◌∙◌, arith}
use Rattle.std.specs.Prelude.{codes, Ok}
use Rattle.std.proofs.lemmas.Bool.{le-ltb}
use Rattle.conf_lex.specs.Cleaning.{is_white, pieces, spaced}
use Rattle.conf_lex.specs.Names.{is_user_name}
use Rattle.conf_lex.specs.Permissions.{writes}
use Rattle.conf_lex.specs.Statements.{by_words, statement}
use Rattle.conf_lex.specs.declared.statement.Statement.TheVariants.{Blank, Repo, Rule}
use Rattle.conf_lex.proofs.CleanLemmas.{line_words, statement_of_line, unmarked_stays}
use Rattle.conf_lex.proofs.WordLemmas.{pieces_across, pieces_word}
use Rattle.setup_conf.proofs.NameLemmas.{IsPlain}

pub admin_repo : statement (codes "repo gitolite-admin") ≡ Ok (Repo (codes "gitolite-admin" ∷ []))
admin_repo = refl

pub nothing : statement [] ≡ Ok Blank
nothing = refl

pub testing_repo : statement (codes "repo testing") ≡ Ok (Repo (codes "testing" ∷ []))
testing_repo = refl

pub all_rule : statement (codes "    RW+     =   @all") ≡ Ok (Rule (writes true false false false) [] (codes "@all" ∷ []))
all_rule = refl

admin_words : (admin : List ℕ) → IsPlain admin → line_words (codes "    RW+     =   " ++ admin) ≡ codes "RW+" ∷ codes "=" ∷ admin ∷ []
admin_words admin plain =
    ap (λ l. pieces is_white (spaced (codes "    RW+     =   " ++ l))) (unmarked_stays false admin plain.no_mark)
    ∙ pieces_across is_white (codes "    RW+      =   ") 32 admin refl
    ∙ ap (λ l. codes "RW+" ∷ codes "=" ∷ l) (pieces_word is_white admin plain.one_word plain.some)

-- the words of a rule for one user
user_rule : (admin : List ℕ) → is_user_name admin ≡ true → length admin ≤ 64 → by_words (codes "RW+" ∷ codes "=" ∷ admin ∷ []) ≡ Ok (Rule (writes true false false false) [] (admin ∷ []))
user_rule admin named short = rw (le-ltb 1024 (length admin) (omega (arith, short)), named) refl

pub admin_rule : (admin : List ℕ) → is_user_name admin ≡ true → IsPlain admin
    → statement (codes "    RW+     =   " ++ admin) ≡ Ok (Rule (writes true false false false) [] (admin ∷ []))
admin_rule admin named plain = statement_of_line (codes "    RW+     =   " ++ admin) ∙ ap by_words (admin_words admin plain) ∙ user_rule admin named plain.short
