-- That spelled commands are read.
use Rattle.std.proofs.Common.{◌≡◌, ◌∙◌, ◌≤◌, ℕ, List, [], ◌++◌, true, inl, inr, ap, refl, sym, arith}
use Rattle.std.specs.Prelude.{Some, codes, decimal}
use Rattle.std.proofs.lemmas.List.{append-nil}
use Rattle.conf_lex.specs.Names.{is_user_name}
use Rattle.shell_words.proofs.NumberLemmas.{number_in-decimal}
use Rattle.shell_words.specs.Options.{Given, flag_text, first_option}
use Rattle.shell_words.specs.Commands.{admin_of, asked, serve_by, serve_of, serve_of_three}
use Rattle.shell_words.specs.Spelling.{IsInSomeOrder, SpellsOption, SpellsServe, SpelledIsRead}
use Rattle.shell_words.specs.declared.options.Flag.{Flag}
use Rattle.shell_words.specs.declared.options.Flag.TheVariants.{Admin, Workers, Sessions}
use Rattle.shell_words.specs.declared.commands.Transport.{Transport}
use Rattle.shell_words.specs.declared.commands.Transport.TheVariants.{Git, Http}
use Rattle.shell_words.specs.declared.commands.Asked.TheVariants.{Script, Serve, Check, Load, Keep, Access}

abbrev pub given : Flag → List ℕ → List (List ℕ) → Given
given flag value rest = record { flag = flag; value = value; rest = rest }

-- an option is read from its spelling
pub first_option-spelled : (flag : Flag) (value : List ℕ) (words rest : List (List ℕ)) → SpellsOption (flag_text flag) value words → first_option (words ++ rest) ≡ Some (given flag value rest)
first_option-spelled Admin value words rest (inl e) = rw e refl
first_option-spelled Admin value words rest (inr e) = rw e refl
first_option-spelled Workers value words rest (inl e) = rw e refl
first_option-spelled Workers value words rest (inr e) = rw e refl
first_option-spelled Sessions value words rest (inl e) = rw e refl
first_option-spelled Sessions value words rest (inr e) = rw e refl

-- and where nothing is behind it
last_option-spelled : (flag : Flag) (value : List ℕ) (words : List (List ℕ)) → SpellsOption (flag_text flag) value words → first_option words ≡ Some (given flag value [])
last_option-spelled flag value words spelled = ap first_option (sym (append-nil words)) ∙ first_option-spelled flag value words [] spelled

-- an option `--admin` alone is read from its spelling
admin-read : (admin : List ℕ) (words : List (List ℕ)) → is_user_name admin ≡ true → SpellsOption (codes "--admin") admin words → admin_of words ≡ Some admin
admin-read admin words name spelled = rw (last_option-spelled Admin admin words spelled, name) refl

-- three options are read from their spellings, in their order
three-read : (transport : Transport) (f g h : Flag) (u v w : List ℕ) (a b c : List (List ℕ)) → SpellsOption (flag_text f) u a → SpellsOption (flag_text g) v b → SpellsOption (flag_text h) w c
    → serve_of transport (a ++ (b ++ c)) ≡ serve_of_three transport (given f u (b ++ c)) (given g v c) (given h w []) []
three-read transport f g h u v w a b c first second third =
    rw (first_option-spelled f u a (b ++ c) first, first_option-spelled g v b c second, last_option-spelled h w c third) refl

module _ (transport : Transport) (admin workers sessions : List ℕ) (a b c : List (List ℕ)) (first : SpellsOption (codes "--admin") admin a)
    (second : SpellsOption (codes "--workers") workers b) (third : SpellsOption (codes "--sessions") sessions c) where
  in-order-read : (words : List (List ℕ)) → IsInSomeOrder a b c words → serve_of transport words ≡ serve_by transport (Some admin) (Some workers) (Some sessions)
  in-order-read words (inl e) = rw e (three-read transport Admin Workers Sessions admin workers sessions a b c first second third)
  in-order-read words (inr (inl e)) = rw e (three-read transport Admin Sessions Workers admin sessions workers a c b first third second)
  in-order-read words (inr (inr (inl e))) = rw e (three-read transport Workers Admin Sessions workers admin sessions b a c second first third)
  in-order-read words (inr (inr (inr (inl e)))) = rw e (three-read transport Workers Sessions Admin workers sessions admin b c a second third first)
  in-order-read words (inr (inr (inr (inr (inl e))))) = rw e (three-read transport Sessions Admin Workers sessions admin workers c a b third first second)
  in-order-read words (inr (inr (inr (inr (inr e))))) = rw e (three-read transport Sessions Workers Admin sessions workers admin c b a third second first)

serve-read : (transport : Transport) (admin : List ℕ) (workers sessions : ℕ) (words : List (List ℕ)) → is_user_name admin ≡ true → 1 ≤ workers → workers ≤ 8 → 1 ≤ sessions → sessions ≤ 1000000
    → SpellsServe admin workers sessions words → serve_of transport words ≡ Some (Serve transport admin workers sessions)
serve-read transport admin workers sessions words name w1 w8 s1 s2 s =
    let read = in-order-read transport admin (decimal workers) (decimal sessions) s.admin_words s.worker_words s.session_words s.admin_is s.workers_is s.sessions_is words s.ordered in
    let k = number_in-decimal 1 8 workers (decimal workers) (omega (arith, w8)) refl w1 w8 in
    let n = number_in-decimal 1 1000000 sessions (decimal sessions) (omega (arith, s2)) refl s1 s2 in
    rw (read, k, n, name) refl

pub spelled-read : SpelledIsRead
unfolding asked
spelled-read (Script admin) words (name, (rest, e, spelled)) = rw (e, admin-read admin rest name spelled) refl
spelled-read (Serve Git admin workers sessions) words ((name, w1, w8, s1, s2), (rest, e, spelled)) = rw e (serve-read Git admin workers sessions rest name w1 w8 s1 s2 spelled)
spelled-read (Serve Http admin workers sessions) words ((name, w1, w8, s1, s2), (rest, e, spelled)) = rw e (serve-read Http admin workers sessions rest name w1 w8 s1 s2 spelled)
spelled-read Check words (limits, e) = rw e refl
spelled-read (Load count start) words ((c1, c2, s2), e) =
    let k = number_in-decimal 1 5000 count (decimal count) (omega (arith, c2)) refl c1 c2 in
    let n = number_in-decimal 0 4294967295 start (decimal start) (omega (arith, s2)) refl (omega arith) s2 in
    rw (e, k, n) refl
spelled-read (Keep admin) words (name, (rest, e, spelled)) = rw (e, admin-read admin rest name spelled) refl
spelled-read Access words (limits, e) = rw e refl
