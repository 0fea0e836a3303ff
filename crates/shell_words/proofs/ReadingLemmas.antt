-- That commands are read from their spellings alone.
use Rattle.std.proofs.Common.{◌≡◌, ◌∙◌, ◌≤◌, ℕ, Bool, List, [], ◌∷◌, ◌++◌, take, drop, length, true, false, inl, inr, ap, refl, subst, sym}
use Rattle.std.specs.Prelude.{◌==◌, ◌&&◌, Option, Some, None, codes, decimal, if◌then◌else◌, option_and_then, nat_le}
use Rattle.std.specs.Option.{option_map, option_or}
use Rattle.std.specs.Str.{bytes_eq}
use Rattle.std.specs.Str.Parse.{digits_value}
use Rattle.std.proofs.lemmas.Bool.{and_parts, eqb-true, leb-true}
use Rattle.std.proofs.lemmas.Slice.Eq.{bytes_eq-Decides}
use Rattle.std.proofs.lemmas.List.{append-nil, take-append-drop}
use Rattle.std.proofs.lemmas.Option.{option_and_then_some}
use Rattle.conf_lex.specs.Names.{is_user_name}
use Rattle.shell_words.specs.Numbers.{number_in}
use Rattle.shell_words.specs.Options.{Given, after_prefix, first_option, flag_text, given_after, option_at}
use Rattle.shell_words.specs.Commands.{access_of, admin_of, admin_with, asked, check_of, keep_of, load_of, load_with, script_of, serve_by, serve_of, serve_of_three, serve_with}
use Rattle.shell_words.specs.Spelling.{IsInSomeOrder, ReadIsSpelled, Spells, SpellsOption, serve_word}
use Rattle.shell_words.specs.declared.commands.Transport.{Transport}
use Rattle.shell_words.specs.declared.commands.Transport.TheVariants.{Git, Http}
use Rattle.shell_words.specs.declared.options.Flag.{Flag}
use Rattle.shell_words.specs.declared.options.Flag.TheVariants.{Admin, Workers, Sessions}
use Rattle.shell_words.specs.declared.commands.Asked.{Asked}
use Rattle.shell_words.specs.declared.commands.Asked.TheVariants.{Script, Serve, Check, Load, Keep, Access}

-- which arm a choice took
if-case : {X P : Type 0} (b : Bool) (x y r : X) → (if b then x else y) ≡ r → (b ≡ true → x ≡ r → P) → (b ≡ false → y ≡ r → P) → P
if-case true x y r e first second = first refl e
if-case false x y r e first second = second refl e

-- a word that was equal to a text is it
same-word : (word text : List ℕ) → bytes_eq word text ≡ true → word ≡ text
same-word word text e = (bytes_eq-Decides word text).0 e

-- a number that was read is spelled by its digits, and within its bounds
record IsSpelledNumber (least most n : ℕ) (text : List ℕ) : Type 0 where
  digits : text ≡ decimal n
  low : least ≤ n
  high : n ≤ most

number-spelled : (least most n : ℕ) (text : List ℕ) → number_in least most text ≡ Some n → IsSpelledNumber least most n text
number-spelled least most n text e =
    let m = digits_value 10 text in
    if-case (bytes_eq (decimal m) text && (nat_le least m && nat_le m most)) (Some m) None (Some n) e (λ all same.
    let parts = and_parts (bytes_eq (decimal m) text) (nat_le least m && nat_le m most) all in
    let bounds = and_parts (nat_le least m) (nat_le m most) parts.1 in
    let number : m ≡ n = cc in
    record {
      digits = sym (same-word (decimal m) text parts.0) ∙ ap decimal number;
      low = subst (λ x. least ≤ x) number (leb-true least m bounds.0);
      high = subst (λ x. x ≤ most) number (leb-true m most bounds.1);
    }) (λ other same. absurd (cc))

-- an option that was read was spelled by some words before the rest
record IsSpelledBefore (words : List (List ℕ)) (g : Given) : Type 0 where
  own : List (List ℕ)
  spelled : SpellsOption (flag_text g.flag) g.value own
  split : words ≡ own ++ g.rest

after-spelled : (flag : Flag) (word more : List ℕ) (rest : List (List ℕ)) (g : Given) → word ≡ flag_text flag ++ more → given_after flag more rest ≡ Some g → IsSpelledBefore (word ∷ rest) g
after-spelled flag word [] [] g w e = absurd (cc)
after-spelled flag word [] (value ∷ rest) g w e =
    let is : record { flag = flag; value = value; rest = rest } ≡ g = cc in
    subst (λ h. IsSpelledBefore (word ∷ value ∷ rest) h) is (record {
      own = word ∷ value ∷ [];
      spelled = inl (ap (λ t. t ∷ value ∷ []) (w ∙ append-nil (flag_text flag)));
      split = refl;
    })
after-spelled flag word (c ∷ value) rest g w e =
    if-case (c == 61) (Some (record { flag = flag; value = value; rest = rest })) None (Some g) e (λ same is-some.
    let equals : c ≡ 61 = eqb-true c 61 same in
    let is : record { flag = flag; value = value; rest = rest } ≡ g = cc in
    subst (λ h. IsSpelledBefore (word ∷ rest) h) is (record {
      own = word ∷ [];
      spelled = inr (ap (λ t. t ∷ []) (w ∙ ap (λ d. flag_text flag ++ d ∷ value) equals));
      split = refl;
    })) (λ other is-none. absurd (cc))

prefix-split : (prefix text more : List ℕ) → after_prefix prefix text ≡ Some more → text ≡ prefix ++ more
prefix-split prefix text more e =
    if-case (bytes_eq (take (length prefix) text) prefix) (Some (drop (length prefix) text)) None (Some more) e (λ same is-some.
    let front : take (length prefix) text ≡ prefix = same-word (take (length prefix) text) prefix same in
    let back : drop (length prefix) text ≡ more = cc in
    sym (take-append-drop (length prefix) text) ∙ ap (λ t. t ++ drop (length prefix) text) front ∙ ap (λ t. prefix ++ t) back) (λ other is-none. absurd (cc))

option_at-spelled : (flag : Flag) (words : List (List ℕ)) (g : Given) → option_at flag words ≡ Some g → IsSpelledBefore words g
option_at-spelled flag [] g e = absurd (cc)
option_at-spelled flag (word ∷ rest) g e =
    option_and_then_some (λ more. given_after flag more rest) (after_prefix (flag_text flag) word) g e (λ more found after.
    after-spelled flag word more rest g (prefix-split (flag_text flag) word more found) after)

or-case : {X P : Type 0} (o p : Option X) (x : X) → option_or o p ≡ Some x → (o ≡ Some x → P) → (p ≡ Some x → P) → P
or-case None p x e first second = second e
or-case (Some y) p x e first second = first e

first-option-spelled : (words : List (List ℕ)) (g : Given) → first_option words ≡ Some g → IsSpelledBefore words g
first-option-spelled words g e =
    or-case (option_at Admin words) (option_or (option_at Workers words) (option_at Sessions words)) g e
    (option_at-spelled Admin words g)
    (λ later. or-case (option_at Workers words) (option_at Sessions words) g later
    (option_at-spelled Workers words g) (option_at-spelled Sessions words g))

-- an option `--admin` alone is read from its spelling alone
record IsSpelledAdmin (words : List (List ℕ)) (admin : List ℕ) : Type 0 where
  name : is_user_name admin ≡ true
  spelled : SpellsOption (codes "--admin") admin words

admin-spelled : (words : List (List ℕ)) (admin : List ℕ) → admin_of words ≡ Some admin → IsSpelledAdmin words admin
admin-spelled words admin e =
    option_and_then_some (λ a. admin_with a.flag a.value a.rest) (first_option words) admin e (λ g found is.
    let before = first-option-spelled words g found in
    by g.flag g.value g.rest before.own before.spelled before.split is)
  where
    by : (flag : Flag) (value : List ℕ) (rest own : List (List ℕ)) → SpellsOption (flag_text flag) value own → words ≡ own ++ rest → admin_with flag value rest ≡ Some admin → IsSpelledAdmin words admin
    by Admin value [] own spelled split is =
        if-case (is_user_name value) (Some value) None (Some admin) is (λ name same.
        let admin-is : value ≡ admin = cc in
        let words-are : own ≡ words = sym (append-nil own) ∙ sym split in
        subst (λ a. IsSpelledAdmin words a) admin-is (record { name = name; spelled = subst (SpellsOption (codes "--admin") value) words-are spelled }))
        (λ other none. absurd (cc))
    by Admin value (word ∷ rest) own spelled split is = absurd (cc)
    by Workers value rest own spelled split is = absurd (cc)
    by Sessions value rest own spelled split is = absurd (cc)

-- `script` and `keep` are read from their spellings alone
script-spelled : (words : List (List ℕ)) (command : Asked) → script_of words ≡ Some command → Spells command (codes "script" ∷ words)
script-spelled words command e = by (admin_of words) refl e
  where
    by : (found : Option (List ℕ)) → admin_of words ≡ found → option_map Script found ≡ Some command → Spells command (codes "script" ∷ words)
    by None found is = absurd (cc)
    by (Some admin) found is =
        let command-is : Script admin ≡ command = cc in
        let one = admin-spelled words admin found in
        subst (λ c. Spells c (codes "script" ∷ words)) command-is (one.name, (words, refl, one.spelled))

keep-spelled : (words : List (List ℕ)) (command : Asked) → keep_of words ≡ Some command → Spells command (codes "keep" ∷ words)
keep-spelled words command e = by (admin_of words) refl e
  where
    by : (found : Option (List ℕ)) → admin_of words ≡ found → option_map Keep found ≡ Some command → Spells command (codes "keep" ∷ words)
    by None found is = absurd (cc)
    by (Some admin) found is =
        let command-is : Keep admin ≡ command = cc in
        let one = admin-spelled words admin found in
        subst (λ c. Spells c (codes "keep" ∷ words)) command-is (one.name, (words, refl, one.spelled))

-- `load` is read from its spelling alone
load-spelled : (words : List (List ℕ)) (command : Asked) → load_of words ≡ Some command → Spells command (codes "load" ∷ words)
load-spelled [] command e = absurd (cc)
load-spelled (count ∷ []) command e = absurd (cc)
load-spelled (count ∷ start ∷ []) command e = by (number_in 1 5000 count) (number_in 0 4294967295 start) refl refl e
  where
    by : (n s : Option ℕ) → number_in 1 5000 count ≡ n → number_in 0 4294967295 start ≡ s → load_with n s ≡ Some command → Spells command (codes "load" ∷ count ∷ start ∷ [])
    by (Some n) (Some s) n-is s-is is =
        let command-is : Load n s ≡ command = cc in
        let count-is = number-spelled 1 5000 n count n-is in
        let start-is = number-spelled 0 4294967295 s start s-is in
        subst (λ c. Spells c (codes "load" ∷ count ∷ start ∷ [])) command-is (
          (count-is.low, count-is.high, start-is.high),
          ap (λ t. codes "load" ∷ t ∷ start ∷ []) count-is.digits ∙ ap (λ t. codes "load" ∷ decimal n ∷ t ∷ []) start-is.digits,
        )
    by (Some n) None n-is s-is is = absurd (cc)
    by None s n-is s-is is = absurd (cc)
load-spelled (count ∷ start ∷ more ∷ rest) command e = absurd (cc)

-- `check` is read from its spelling alone
check-spelled : (words : List (List ℕ)) (command : Asked) → check_of words ≡ Some command → Spells command (codes "check" ∷ words)
check-spelled [] command e =
    let command-is : Check ≡ command = cc in
    subst (λ c. Spells c (codes "check" ∷ [])) command-is (tt, refl)
check-spelled (word ∷ rest) command e = absurd (cc)

-- `access` is read from its spelling alone
access-spelled : (words : List (List ℕ)) (command : Asked) → access_of words ≡ Some command → Spells command (codes "access" ∷ words)
access-spelled [] command e =
    let command-is : Access ≡ command = cc in
    subst (λ c. Spells c (codes "access" ∷ [])) command-is (tt, refl)
access-spelled (word ∷ rest) command e = absurd (cc)

-- the values of `serve`
record HasServeValues (transport : Transport) (admin workers sessions : List ℕ) (command : Asked) : Type 0 where
  k : ℕ
  n : ℕ
  is : Serve transport admin k n ≡ command
  name : is_user_name admin ≡ true
  k-is : IsSpelledNumber 1 8 k workers
  n-is : IsSpelledNumber 1 1000000 n sessions

serve-values : (transport : Transport) (admin workers sessions : List ℕ) (command : Asked) → serve_by transport (Some admin) (Some workers) (Some sessions) ≡ Some command → HasServeValues transport admin workers sessions command
serve-values transport admin workers sessions command e = by (number_in 1 8 workers) (number_in 1 1000000 sessions) refl refl e
  where
    by : (k n : Option ℕ) → number_in 1 8 workers ≡ k → number_in 1 1000000 sessions ≡ n → serve_with transport admin k n ≡ Some command → HasServeValues transport admin workers sessions command
    by (Some k) (Some n) k-is n-is is =
        if-case (is_user_name admin) (Some (Serve transport admin k n)) None (Some command) is (λ name same. record {
          k = k;
          n = n;
          is = cc;
          name = name;
          k-is = number-spelled 1 8 k workers k-is;
          n-is = number-spelled 1 1000000 n sessions n-is;
        }) (λ other none. absurd (cc))
    by (Some k) None k-is n-is is = absurd (cc)
    by None n k-is n-is is = absurd (cc)

-- `serve` is spelled by its three options in some order
serve-in-order : (transport : Transport) (admin workers sessions : List ℕ) (a b c words : List (List ℕ)) (command : Asked) → SpellsOption (codes "--admin") admin a → SpellsOption (codes "--workers") workers b
    → SpellsOption (codes "--sessions") sessions c → IsInSomeOrder a b c words → serve_by transport (Some admin) (Some workers) (Some sessions) ≡ Some command → Spells command (serve_word transport ∷ words)
serve-in-order transport admin workers sessions a b c words command first second third order e =
    let values = serve-values transport admin workers sessions command e in
    subst (λ x. Spells x (serve_word transport ∷ words)) values.is (
      (values.name, values.k-is.low, values.k-is.high, values.n-is.low, values.n-is.high),
      (
        words,
        refl,
        record {
          admin_words = a;
          worker_words = b;
          session_words = c;
          admin_is = first;
          workers_is = subst (λ t. SpellsOption (codes "--workers") t b) values.k-is.digits second;
          sessions_is = subst (λ t. SpellsOption (codes "--sessions") t c) values.n-is.digits third;
          ordered = order;
        },
      ),
    )

-- three options in a row that are read as a command have the three flags
three-spelled : (transport : Transport) (f g h : Flag) (u v w : List ℕ) (more other : List (List ℕ)) (a b c : List (List ℕ)) (command : Asked) → SpellsOption (flag_text f) u a → SpellsOption (flag_text g) v b → SpellsOption (flag_text h) w c
    → serve_of_three transport (record { flag = f; value = u; rest = more }) (record { flag = g; value = v; rest = other }) (record { flag = h; value = w; rest = [] }) [] ≡ Some command → Spells command (serve_word transport ∷ (a ++ (b ++ c)))
three-spelled transport Admin Admin Admin u v w more other a b c command first second third e = absurd (cc)
three-spelled transport Admin Admin Workers u v w more other a b c command first second third e = absurd (cc)
three-spelled transport Admin Admin Sessions u v w more other a b c command first second third e = absurd (cc)
three-spelled transport Admin Workers Admin u v w more other a b c command first second third e = absurd (cc)
three-spelled transport Admin Workers Workers u v w more other a b c command first second third e = absurd (cc)
three-spelled transport Admin Workers Sessions u v w more other a b c command first second third e = serve-in-order transport u v w a b c (a ++ (b ++ c)) command first second third (inl refl) e
three-spelled transport Admin Sessions Admin u v w more other a b c command first second third e = absurd (cc)
three-spelled transport Admin Sessions Workers u v w more other a b c command first second third e = serve-in-order transport u w v a c b (a ++ (b ++ c)) command first third second (inr (inl refl)) e
three-spelled transport Admin Sessions Sessions u v w more other a b c command first second third e = absurd (cc)
three-spelled transport Workers Admin Admin u v w more other a b c command first second third e = absurd (cc)
three-spelled transport Workers Admin Workers u v w more other a b c command first second third e = absurd (cc)
three-spelled transport Workers Admin Sessions u v w more other a b c command first second third e = serve-in-order transport v u w b a c (a ++ (b ++ c)) command second first third (inr (inr (inl refl))) e
three-spelled transport Workers Workers Admin u v w more other a b c command first second third e = absurd (cc)
three-spelled transport Workers Workers Workers u v w more other a b c command first second third e = absurd (cc)
three-spelled transport Workers Workers Sessions u v w more other a b c command first second third e = absurd (cc)
three-spelled transport Workers Sessions Admin u v w more other a b c command first second third e = serve-in-order transport w u v c a b (a ++ (b ++ c)) command third first second (inr (inr (inr (inl refl)))) e
three-spelled transport Workers Sessions Workers u v w more other a b c command first second third e = absurd (cc)
three-spelled transport Workers Sessions Sessions u v w more other a b c command first second third e = absurd (cc)
three-spelled transport Sessions Admin Admin u v w more other a b c command first second third e = absurd (cc)
three-spelled transport Sessions Admin Workers u v w more other a b c command first second third e = serve-in-order transport v w u b c a (a ++ (b ++ c)) command second third first (inr (inr (inr (inr (inl refl))))) e
three-spelled transport Sessions Admin Sessions u v w more other a b c command first second third e = absurd (cc)
three-spelled transport Sessions Workers Admin u v w more other a b c command first second third e = serve-in-order transport w v u c b a (a ++ (b ++ c)) command third second first (inr (inr (inr (inr (inr refl))))) e
three-spelled transport Sessions Workers Workers u v w more other a b c command first second third e = absurd (cc)
three-spelled transport Sessions Workers Sessions u v w more other a b c command first second third e = absurd (cc)
three-spelled transport Sessions Sessions Admin u v w more other a b c command first second third e = absurd (cc)
three-spelled transport Sessions Sessions Workers u v w more other a b c command first second third e = absurd (cc)
three-spelled transport Sessions Sessions Sessions u v w more other a b c command first second third e = absurd (cc)

-- `serve` is read from its spellings alone
serve-spelled : (transport : Transport) (words : List (List ℕ)) (command : Asked) → serve_of transport words ≡ Some command → Spells command (serve_word transport ∷ words)
serve-spelled transport words command e =
    option_and_then_some (λ x. option_and_then (λ y. option_and_then (λ z. serve_of_three transport x y z z.rest) (first_option y.rest)) (first_option x.rest)) (first_option words) command e (λ x x-is later.
    option_and_then_some (λ y. option_and_then (λ z. serve_of_three transport x y z z.rest) (first_option y.rest)) (first_option x.rest) command later (λ y y-is last.
    option_and_then_some (λ z. serve_of_three transport x y z z.rest) (first_option y.rest) command last (λ z z-is is.
    let first = first-option-spelled words x x-is in
    let second = first-option-spelled x.rest y y-is in
    let third = first-option-spelled y.rest z z-is in
    by x y z z.rest first.own second.own third.own first.spelled second.spelled third.spelled first.split second.split third.split is)))
  where
    by : (x y z : Given) (rest a b c : List (List ℕ)) → SpellsOption (flag_text x.flag) x.value a → SpellsOption (flag_text y.flag) y.value b → SpellsOption (flag_text z.flag) z.value c
        → words ≡ a ++ x.rest → x.rest ≡ b ++ y.rest → y.rest ≡ c ++ rest → serve_of_three transport x y z rest ≡ Some command → Spells command (serve_word transport ∷ words)
    by x y z [] a b c first second third x-split y-split z-split is =
        let split : words ≡ a ++ (b ++ c) = x-split ∙ ap (λ t. a ++ t) (y-split ∙ ap (λ t. b ++ t) (z-split ∙ append-nil c)) in
        subst (λ t. Spells command (serve_word transport ∷ t)) (sym split)
        (three-spelled transport x.flag y.flag z.flag x.value y.value z.value x.rest y.rest a b c command first second third is)
    by x y z (word ∷ rest) a b c first second third x-split y-split z-split is = absurd (cc)

-- a command is read from its spellings alone
pub read-spelled : ReadIsSpelled
unfolding asked
read-spelled command [] e = absurd (cc)
read-spelled command (verb ∷ rest) e =
    if-case (bytes_eq verb (codes "script")) (script_of rest) _ (Some command) e (λ same is. behind (codes "script") same (script-spelled rest command is)) (λ other e2.
    if-case (bytes_eq verb (codes "serve")) (serve_of Git rest) _ (Some command) e2 (λ same is. behind (codes "serve") same (serve-spelled Git rest command is)) (λ other2 e3.
    if-case (bytes_eq verb (codes "http")) (serve_of Http rest) _ (Some command) e3 (λ same is. behind (codes "http") same (serve-spelled Http rest command is)) (λ other3 e4.
    if-case (bytes_eq verb (codes "check")) (check_of rest) _ (Some command) e4 (λ same is. behind (codes "check") same (check-spelled rest command is)) (λ other4 e5.
    if-case (bytes_eq verb (codes "load")) (load_of rest) _ (Some command) e5 (λ same is. behind (codes "load") same (load-spelled rest command is)) (λ other5 e6.
    if-case (bytes_eq verb (codes "keep")) (keep_of rest) _ (Some command) e6 (λ same is. behind (codes "keep") same (keep-spelled rest command is)) (λ other6 e7.
    if-case (bytes_eq verb (codes "access")) (access_of rest) None (Some command) e7 (λ same is. behind (codes "access") same (access-spelled rest command is)) (λ other7 none. absurd (cc))))))))
  where
    behind : (text : List ℕ) → bytes_eq verb text ≡ true → Spells command (text ∷ rest) → Spells command (verb ∷ rest)
    behind text same spelled = subst (λ t. Spells command (t ∷ rest)) (sym (same-word verb text same)) spelled
