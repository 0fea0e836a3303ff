-- That `clap` takes the words of a command, and finds its values.
use Rattle.std.proofs.Common.{◌≡◌, ◌∙◌, ℕ, Bool, List, [], ◌∷◌, ◌++◌, true, false, inl, inr, ap, ap₂, refl, sym, subst, fold, length, ◌<◌, ◌≤◌, ◌^◌, arith}
use Rattle.std.specs.Prelude.{◌==◌, ◌&&◌, Err, Option, Result, Some, None, codes, decimal, find, is_some, nat_le, not}
use Rattle.std.specs.Option.{option_map}
use Rattle.std.specs.Char.{digit_value, is_ascii_alphanumeric}
use Rattle.std.specs.Str.Parse.{IsNumeral}
use Rattle.std.proofs.lemmas.Bool.{eqb-true, false_from_ne_true}
use Rattle.std.proofs.lemmas.Fmt.{decimal_is_IsNumeral}
use Rattle.conf_lex.specs.Names.{is_name_byte, is_role, is_user_name}
use Rattle.std.specs.List.{list_all}
use Rattle.std.proofs.lemmas.List.{append-nil}
use Rattle.std.specs.Str.{bytes_eq}
use Rattle.clap.specs.Lexer.{long_of, short_of}
use Rattle.clap.specs.Walk.{Held, Names, Row, Rule, Walk, Text, answers_to, arg_by_id, arg_by_long, has_row, nothing_held, rows_after, settled_rows, used, walk, walk_from, walked, with_default}
use Rattle.clap.specs.Takes.{default_passes, is_valid, level_passes, settle_passes, takes, turn_passes, walk_passes}
use Rattle.clap.specs.Simple.{App, Shape, built, built_leaf, filled, inherited, is_simple, label_of, names_of, new_app, subcommand_of, with_index}
use Rattle.clap.proofs.OnLiterals.{clap_on_literals}
use Rattle.clap.proofs.WalkLemmas.{first_value-rows, walk_stopped}
use Rattle.clap.specs.Words.{AddsArg, AddsSubcommand, app_of, first_of, first_value, rows_of, rule_of, with_rule}
use Rattle.clap.specs.Simple.{app_of_fields, on_top}
use Rattle.clap.specs.declared.builder.arg.Arg.{Arg}
use Rattle.clap.specs.declared.builder.command.Command.{Command}
use Rattle.clap.specs.declared.builder.command.Command.TheViews.{out-Command as fields_of}
use Rattle.clap.specs.declared.parser.matches.Found.{Found}
use Rattle.shell_words.specs.Options.{flag_text}
use Rattle.shell_words.specs.Spelling.{IsInSomeOrder, Spells, SpellsOption, SpellsServe, serve_word}
use Rattle.shell_words.specs.Commands.{Reads, asked, serve_by}
use Rattle.shell_words.specs.declared.commands.WordsFault.{WordsFault}
use Rattle.shell_words.specs.declared.commands.WordsFault.TheVariants.{Usage, NoMemory}
use Rattle.shell_words.specs.Matches.{admin_by, admin_command, bare_program, command_by, command_of, load_by, load_command, option_rule, program, serve_command, with_command, word_rule}
use Rattle.shell_words.proofs.NumberLemmas.{number_in-decimal}
use Rattle.shell_words.proofs.ReadingLemmas.{read-spelled}
use Rattle.shell_words.specs.declared.commands.Transport.{Transport}
use Rattle.shell_words.specs.declared.commands.Transport.TheVariants.{Git, Http}
use Rattle.shell_words.specs.declared.commands.Asked.TheVariants.{Script, Serve, Check, Load, Keep, Access}
use Rattle.shell_words.specs.declared.commands.Asked.{Asked}
use Rattle.shell_words.specs.declared.options.Flag.{Flag}
use Rattle.shell_words.specs.declared.options.Flag.TheVariants.{Admin, Workers, Sessions}

-- ---- the command that the first word names

abbrev names : Names
names = names_of (built program)

abbrev top : Shape
top = (built program).top

-- where the walk stands that met a command, and left the words behind it to that
abbrev met : Text → List Text → Walk
met name rest = record (walk_from nothing_held) { stopped = Some (name, rest) }

met-walk : (name : Text) (rest : List Text) → fold (walked top.rules names) (met name []) rest ≡ met name rest
met-walk name rest = sym (walk_stopped top.rules names (walk_from nothing_held) name [] rest)

met-passes : (name : Text) (seen rest : List Text) → walk_passes top names (met name seen) rest ≡ true
unfolding walked walk_passes
met-passes name seen [] = refl
met-passes name seen (word ∷ rest) = met-passes name (seen ++ word ∷ []) rest

-- the shape is that of the program's command with this name, as it is built
record IsCommand (name : Text) (s : Shape) : Type 0 where
  first : walked top.rules names (walk_from nothing_held) name ≡ met name []
  turn : turn_passes top names (walk_from nothing_held) name ≡ true
  found : find (λ c. answers_to name (label_of c)) (built program).subs ≡ Some s

-- the command takes the words behind its name, and comes to these rows
record Level (s : Shape) (rows : List Row) (words : List Text) : Type 0 where
  rows_are : rows_after s.rules [] words ≡ rows
  passes : level_passes s [] nothing_held words false ≡ true

-- the program takes the words, and its matches are the command
pub record IsTaken (command : Asked) (words : List Text) : Type 0 where
  pub takes_it : takes program words ≡ true
  pub found : command_of (subcommand_of program words) ≡ Some command

abbrev built-shape : App → Shape
built-shape command = built_leaf (inherited top command.top)

is-taken : (name : Text) (s : Shape) (rows : List Row) (rest : List Text) (command : Asked) → IsCommand name s → Level s rows rest → command_by s.name (λ id. first_of id rows) ≡ Some command → IsTaken command (name ∷ rest)
unfolding walk_passes
is-taken name s rows rest command is level reads =
    let walk_is : walk top.rules names nothing_held (name ∷ rest) ≡ met name rest = ap (λ w. fold (walked top.rules names) w rest) is.first ∙ met-walk name rest in
    let walk_passes_is : walk_passes top names (walk_from nothing_held) (name ∷ rest) ≡ true =
    rw (is.turn, is.first) (met-passes name [] rest) in
    record {
      takes_it = rw (walk_is, walk_passes_is, is.found, level.passes) refl;
      found = rw (walk_is, is.found, level.rows_are) reads;
    }

-- ---- one option

abbrev name_of : Flag → Text
name_of Admin = codes "admin"
name_of Workers = codes "workers"
name_of Sessions = codes "sessions"

-- an option as it is built
abbrev rule : Flag → Rule
rule flag = with_index 1 (filled (option_rule (name_of flag)))

-- the command has the option
record HasOption (s : Shape) (flag : Flag) : Type 0 where
  by_long : arg_by_long s.rules (name_of flag) ≡ Some (rule flag)
  by_id : arg_by_id s.rules (name_of flag) ≡ Some (rule flag)

-- what is held comes to these rows
record ComesTo (s : Shape) (rows : List Row) (h : Held) : Type 0 where
  rows_are : settled_rows s.rules h.pending h.rows ≡ rows
  no_skip : h.skip ≡ 0
  passes : settle_passes s.rules s.args_override_self h ≡ true

-- the word is a value
record IsPlain (word : Text) : Type 0 where
  no_end : bytes_eq word (45 ∷ 45 ∷ []) ≡ false
  no_long : long_of word ≡ None
  no_short : short_of word ≡ None

-- the walk over the words comes to these rows, and goes on with the rest
record GoesOn (s : Shape) (rows : List Row) (h : Held) (words rest : List Text) : Type 0 where
  held : Held
  comes : ComesTo s rows held
  walk_is : fold (walked s.rules []) (walk_from h) words ≡ fold (walked s.rules []) (walk_from held) rest
  passes_as : walk_passes s [] (walk_from h) words ≡ walk_passes s [] (walk_from held) rest

abbrev holding : Flag → Text → List Row → Held
holding flag value rows = record { rows = rows; pending = Some (name_of flag, value ∷ []); skip = 0 }

abbrev used_with : Flag → Text → List Row → Held
used_with flag value rows = record { rows = used (rule flag) (value ∷ []) rows; pending = None; skip = 0 }

module _ (s : Shape) where
  option-step : (flag : Flag) (value : Text) (own rest : List Text) (rows : List Row) (h : Held) → HasOption s flag → SpellsOption (flag_text flag) value own → IsPlain value → ComesTo s rows h
      → has_row (name_of flag) rows ≡ false → GoesOn s (used (rule flag) (value ∷ []) rows) h (own ++ rest) rest
  unfolding clap_on_literals
  option-step Admin value own rest rows h has (inl e) plain comes new = rw e (record {
    held = holding Admin value rows;
    comes = record { rows_are = rw has.by_id refl; no_skip = refl; passes = rw (has.by_id, new) refl };
    walk_is = ap (λ w. fold (walked s.rules []) w rest) (rw (has.by_long, comes.rows_are, comes.no_skip, plain.no_end, plain.no_long, plain.no_short, has.by_id) refl);
    passes_as = rw (has.by_long, comes.rows_are, comes.no_skip, comes.passes, plain.no_end, plain.no_long, plain.no_short, has.by_id) refl;
  })
  option-step Admin value own rest rows h has (inr e) plain comes new = rw e (record {
    held = used_with Admin value rows;
    comes = record { rows_are = refl; no_skip = refl; passes = refl };
    walk_is = ap (λ w. fold (walked s.rules []) w rest) (rw (has.by_long, comes.rows_are, comes.no_skip) refl);
    passes_as = rw (has.by_long, comes.rows_are, comes.no_skip, comes.passes, new) refl;
  })
  option-step Workers value own rest rows h has (inl e) plain comes new = rw e (record {
    held = holding Workers value rows;
    comes = record { rows_are = rw has.by_id refl; no_skip = refl; passes = rw (has.by_id, new) refl };
    walk_is = ap (λ w. fold (walked s.rules []) w rest) (rw (has.by_long, comes.rows_are, comes.no_skip, plain.no_end, plain.no_long, plain.no_short, has.by_id) refl);
    passes_as = rw (has.by_long, comes.rows_are, comes.no_skip, comes.passes, plain.no_end, plain.no_long, plain.no_short, has.by_id) refl;
  })
  option-step Workers value own rest rows h has (inr e) plain comes new = rw e (record {
    held = used_with Workers value rows;
    comes = record { rows_are = refl; no_skip = refl; passes = refl };
    walk_is = ap (λ w. fold (walked s.rules []) w rest) (rw (has.by_long, comes.rows_are, comes.no_skip) refl);
    passes_as = rw (has.by_long, comes.rows_are, comes.no_skip, comes.passes, new) refl;
  })
  option-step Sessions value own rest rows h has (inl e) plain comes new = rw e (record {
    held = holding Sessions value rows;
    comes = record { rows_are = rw has.by_id refl; no_skip = refl; passes = rw (has.by_id, new) refl };
    walk_is = ap (λ w. fold (walked s.rules []) w rest) (rw (has.by_long, comes.rows_are, comes.no_skip, plain.no_end, plain.no_long, plain.no_short, has.by_id) refl);
    passes_as = rw (has.by_long, comes.rows_are, comes.no_skip, comes.passes, plain.no_end, plain.no_long, plain.no_short, has.by_id) refl;
  })
  option-step Sessions value own rest rows h has (inr e) plain comes new = rw e (record {
    held = used_with Sessions value rows;
    comes = record { rows_are = refl; no_skip = refl; passes = refl };
    walk_is = ap (λ w. fold (walked s.rules []) w rest) (rw (has.by_long, comes.rows_are, comes.no_skip) refl);
    passes_as = rw (has.by_long, comes.rows_are, comes.no_skip, comes.passes, new) refl;
  })

-- ---- options one after the other

go-on : (s : Shape) (more rows : List Row) (h : Held) (words rest left : List Text) → GoesOn s more h words rest → ((k : Held) → ComesTo s more k → GoesOn s rows k rest left) → GoesOn s rows h words left
go-on s more rows h words rest left first then =
    let next = then first.held first.comes in
    record {
      held = next.held;
      comes = next.comes;
      walk_is = first.walk_is ∙ next.walk_is;
      passes_as = first.passes_as ∙ next.passes_as;
    }

from-nothing : (s : Shape) → ComesTo s [] nothing_held
from-nothing s = record { rows_are = refl; no_skip = refl; passes = refl }

last-option : (s : Shape) (flag : Flag) (value : Text) (own : List Text) (rows : List Row) (h : Held) → HasOption s flag → SpellsOption (flag_text flag) value own → IsPlain value → ComesTo s rows h
    → has_row (name_of flag) rows ≡ false → GoesOn s (used (rule flag) (value ∷ []) rows) h own []
last-option s flag value own rows h has spelled plain comes new =
    subst (λ words. GoesOn s (used (rule flag) (value ∷ []) rows) h words []) (append-nil own) (option-step s flag value own [] rows h has spelled plain comes new)

at-end : (s : Shape) (rows : List Row) (words : List Text) → GoesOn s rows nothing_held words [] → fold with_default rows s.rules ≡ rows → list_all default_passes s.rules ≡ true → is_valid s rows false ≡ true → Level s rows words
unfolding walk_passes
at-end s rows words goes defaults passes valid = record {
  rows_are = rw (goes.walk_is, goes.comes.rows_are) defaults;
  passes = rw (goes.walk_is, goes.passes_as, goes.comes.passes, passes, goes.comes.rows_are, defaults) valid;
}

-- ---- values

plain-from : (c : ℕ) (rest : Text) → (c ≡ 45 → ⊥) → IsPlain (c ∷ rest)
plain-from c rest other =
    let no : (c == 45) ≡ false = false_from_ne_true _ (λ same. other (eqb-true c 45 same)) in
    record { no_end = rw no refl; no_long = rw no refl; no_short = rw no refl }

name-plain : (name : Text) → is_user_name name ≡ true → IsPlain name
name-plain [] is = absurd (cc)
name-plain (c ∷ rest) is = plain-from c rest (λ same.
    let first : is_ascii_alphanumeric c ≡ true = third (nat_le 1 (length (c ∷ rest))) (nat_le (length (c ∷ rest)) 64) (is_ascii_alphanumeric c) (list_all (is_name_byte (codes "-._@+")) (c ∷ rest)) (not (is_role (c ∷ rest))) is in
    let hyphen : is_ascii_alphanumeric 45 ≡ true = subst (λ x. is_ascii_alphanumeric x ≡ true) same first in
    absurd (cc))
  where
    third : (a b x d e : Bool) → (a && b && x && d && e) ≡ true → x ≡ true
    third true true true d e is = refl
    third true true false d e is = absurd (cc)
    third true false x d e is = absurd (cc)
    third false b x d e is = absurd (cc)

numeral-plain : (text : Text) → IsNumeral 10 text → IsPlain text
numeral-plain [] is = absurd (omega (arith, is.0))
numeral-plain (c ∷ rest) is = plain-from c rest (λ same. not-digit c same is.1.0)
  where
    not-digit : (c : ℕ) → c ≡ 45 → digit_value c < 10 → ⊥
    not-digit c same digit =
        let low : digit_value 45 < 10 = subst (λ x. digit_value x < 10) same digit in
        absurd (omega (arith, low))

decimal-plain : (n : ℕ) → n < 2 ^ 64 → IsPlain (decimal n)
decimal-plain n small = numeral-plain (decimal n) (decimal_is_IsNumeral n small).0

-- ---- the commands

abbrev admin-shape : Text → Shape
admin-shape name = built-shape (admin_command name)

abbrev serve-shape : Text → Shape
serve-shape name = built-shape (serve_command name)

abbrev load-shape : Shape
load-shape = built-shape load_command

abbrev alone-shape : Text → Shape
alone-shape name = built-shape (new_app name)

admin-level : (name admin : Text) (words : List Text) → is_user_name admin ≡ true → SpellsOption (codes "--admin") admin words → Level (admin-shape name) (used (rule Admin) (admin ∷ []) []) words
admin-level name admin words is spelled =
    let s = admin-shape name in
    at-end s _ words (last-option s Admin admin words [] nothing_held (record { by_long = refl; by_id = refl }) spelled (name-plain admin is) (from-nothing s) refl) refl refl refl

serve-has : (name : Text) (flag : Flag) → HasOption (serve-shape name) flag
serve-has name Admin = record { by_long = refl; by_id = refl }
serve-has name Workers = record { by_long = refl; by_id = refl }
serve-has name Sessions = record { by_long = refl; by_id = refl }

-- the rows of three options that were given in this order
abbrev three_rows : Flag → Flag → Flag → Text → Text → Text → List Row
three_rows f g h u v w = used (rule h) (w ∷ []) (used (rule g) (v ∷ []) (used (rule f) (u ∷ []) []))

three-go : (name : Text) (f g h : Flag) (u v w : Text) (a b c : List Text) → IsPlain u → IsPlain v → IsPlain w → SpellsOption (flag_text f) u a → SpellsOption (flag_text g) v b → SpellsOption (flag_text h) w c
    → has_row (name_of g) (used (rule f) (u ∷ []) []) ≡ false → has_row (name_of h) (used (rule g) (v ∷ []) (used (rule f) (u ∷ []) [])) ≡ false
    → GoesOn (serve-shape name) (three_rows f g h u v w) nothing_held (a ++ (b ++ c)) []
three-go name f g h u v w a b c pu pv pw first second third new-g new-h =
    let s = serve-shape name in
    go-on s (used (rule f) (u ∷ []) []) _ nothing_held _ (b ++ c) []
    (option-step s f u a (b ++ c) [] nothing_held (serve-has name f) first pu (from-nothing s) refl) (λ k comes.
    go-on s (used (rule g) (v ∷ []) (used (rule f) (u ∷ []) [])) _ k _ c []
    (option-step s g v b c _ k (serve-has name g) second pv comes new-g) (λ l comes2.
    last-option s h w c _ l (serve-has name h) third pw comes2 new-h))

-- the rows of `serve` and `http`, by which their values are read
record ServeLevel (name admin workers sessions : Text) (words : List Text) : Type 0 where
  rows : List Row
  level : Level (serve-shape name) rows words
  reads : (transport : Transport) → serve_by transport (first_of (codes "admin") rows) (first_of (codes "workers") rows) (first_of (codes "sessions") rows) ≡ serve_by transport (Some admin) (Some workers) (Some sessions)

module _ (name admin workers sessions : Text) (a b c : List Text) (pa : IsPlain admin) (pb : IsPlain workers) (pc : IsPlain sessions)
    (sa : SpellsOption (codes "--admin") admin a) (sb : SpellsOption (codes "--workers") workers b) (sc : SpellsOption (codes "--sessions") sessions c) where
  serve-level : (words : List Text) → IsInSomeOrder a b c words → ServeLevel name admin workers sessions words
  serve-level words (inl e) = rw e (record {
    rows = three_rows Admin Workers Sessions admin workers sessions;
    level = at-end (serve-shape name) _ _ (three-go name Admin Workers Sessions admin workers sessions a b c pa pb pc sa sb sc refl refl) refl refl refl;
    reads = λ transport. refl;
  })
  serve-level words (inr (inl e)) = rw e (record {
    rows = three_rows Admin Sessions Workers admin sessions workers;
    level = at-end (serve-shape name) _ _ (three-go name Admin Sessions Workers admin sessions workers a c b pa pc pb sa sc sb refl refl) refl refl refl;
    reads = λ transport. refl;
  })
  serve-level words (inr (inr (inl e))) = rw e (record {
    rows = three_rows Workers Admin Sessions workers admin sessions;
    level = at-end (serve-shape name) _ _ (three-go name Workers Admin Sessions workers admin sessions b a c pb pa pc sb sa sc refl refl) refl refl refl;
    reads = λ transport. refl;
  })
  serve-level words (inr (inr (inr (inl e)))) = rw e (record {
    rows = three_rows Workers Sessions Admin workers sessions admin;
    level = at-end (serve-shape name) _ _ (three-go name Workers Sessions Admin workers sessions admin b c a pb pc pa sb sc sa refl refl) refl refl refl;
    reads = λ transport. refl;
  })
  serve-level words (inr (inr (inr (inr (inl e))))) = rw e (record {
    rows = three_rows Sessions Admin Workers sessions admin workers;
    level = at-end (serve-shape name) _ _ (three-go name Sessions Admin Workers sessions admin workers c a b pc pa pb sc sa sb refl refl) refl refl refl;
    reads = λ transport. refl;
  })
  serve-level words (inr (inr (inr (inr (inr e))))) = rw e (record {
    rows = three_rows Sessions Workers Admin sessions workers admin;
    level = at-end (serve-shape name) _ _ (three-go name Sessions Workers Admin sessions workers admin c b a pc pb pa sc sb sa refl refl) refl refl refl;
    reads = λ transport. refl;
  })

-- a command that serves, by its name
serve-named : (transport : Transport) (value : Text → Option Text) → command_by (serve_word transport) value ≡ serve_by transport (value (codes "admin")) (value (codes "workers")) (value (codes "sessions"))
serve-named Git value = refl
serve-named Http value = refl

-- what `load` holds after its two words
abbrev load_rows : Text → Text → List Row
load_rows count start = used (with_index 2 (filled (word_rule (codes "start")))) (start ∷ []) (used (with_index 1 (filled (word_rule (codes "count")))) (count ∷ []) [])

load-level : (count start : Text) → IsPlain count → IsPlain start → Level load-shape (load_rows count start) (count ∷ start ∷ [])
unfolding clap_on_literals
load-level count start one two = record {
  rows_are = rw (one.no_end, one.no_long, one.no_short, two.no_end, two.no_long, two.no_short) refl;
  passes = rw (one.no_end, one.no_long, one.no_short, two.no_end, two.no_long, two.no_short) refl;
}

alone-level : (name : Text) → Level (alone-shape name) [] []
unfolding clap_on_literals
alone-level name = record { rows_are = refl; passes = refl }

serve-taken : (transport : Transport) (admin : Text) (workers sessions : ℕ) (rest : List Text) → is_user_name admin ≡ true → 1 ≤ workers → workers ≤ 8 → 1 ≤ sessions → sessions ≤ 1000000 → SpellsServe admin workers sessions rest
    → IsCommand (serve_word transport) (serve-shape (serve_word transport)) → IsTaken (Serve transport admin workers sessions) (serve_word transport ∷ rest)
serve-taken transport admin workers sessions rest name w1 w8 s1 s2 spelled is =
    let level = serve-level (serve_word transport) admin (decimal workers) (decimal sessions) spelled.admin_words spelled.worker_words spelled.session_words (name-plain admin name) (decimal-plain workers (omega (arith, w8))) (decimal-plain sessions (omega (arith, s2))) spelled.admin_is spelled.workers_is spelled.sessions_is rest spelled.ordered in
    let k = number_in-decimal 1 8 workers (decimal workers) (omega (arith, w8)) refl w1 w8 in
    let n = number_in-decimal 1 1000000 sessions (decimal sessions) (omega (arith, s2)) refl s1 s2 in
    is-taken (serve_word transport) (serve-shape (serve_word transport)) level.rows rest (Serve transport admin workers sessions) is level.level
    (serve-named transport (λ id. first_of id level.rows) ∙ level.reads transport ∙ rw (k, n, name) refl)

-- `clap` takes the words of a command
pub spelled-taken : (command : Asked) (words : List Text) → Spells command words → IsTaken command words
unfolding clap_on_literals
spelled-taken (Script admin) words (name, (rest, e, spelled)) = rw e (is-taken (codes "script") (admin-shape (codes "script")) _ rest (Script admin) (record { first = refl; turn = refl; found = refl }) (admin-level (codes "script") admin rest name spelled) (rw name refl))
spelled-taken (Serve Git admin workers sessions) words (limits, (rest, e, spelled)) =
    rw e (serve-taken Git admin workers sessions rest limits.0 limits.1 limits.2 limits.3 limits.4 spelled (record { first = refl; turn = refl; found = refl }))
spelled-taken (Serve Http admin workers sessions) words (limits, (rest, e, spelled)) =
    rw e (serve-taken Http admin workers sessions rest limits.0 limits.1 limits.2 limits.3 limits.4 spelled (record { first = refl; turn = refl; found = refl }))
spelled-taken Check words (limits, e) = rw e (is-taken (codes "check") (alone-shape (codes "check")) [] [] Check (record { first = refl; turn = refl; found = refl }) (alone-level (codes "check")) refl)
spelled-taken (Load count start) words ((c1, c2, s2), e) =
    let k = number_in-decimal 1 5000 count (decimal count) (omega (arith, c2)) refl c1 c2 in
    let n = number_in-decimal 0 4294967295 start (decimal start) (omega (arith, s2)) refl (omega arith) s2 in
    rw e (is-taken (codes "load") load-shape _ (decimal count ∷ decimal start ∷ []) (Load count start) (record { first = refl; turn = refl; found = refl }) (load-level (decimal count) (decimal start) (decimal-plain count (omega (arith, c2))) (decimal-plain start (omega (arith, s2)))) (rw (k, n) refl))
spelled-taken (Keep admin) words (name, (rest, e, spelled)) = rw e (is-taken (codes "keep") (admin-shape (codes "keep")) _ rest (Keep admin) (record { first = refl; turn = refl; found = refl }) (admin-level (codes "keep") admin rest name spelled) (rw name refl))
spelled-taken Access words (limits, e) = rw e (is-taken (codes "access") (alone-shape (codes "access")) [] [] Access (record { first = refl; turn = refl; found = refl }) (alone-level (codes "access")) refl)

-- ---- what the functions cite

-- where a test says that there is something, or nothing
some-is : {X : Type 0} (o : Option X) → is_some o ≡ true → (x : X) × (o ≡ Some x)
some-is None e = absurd (cc)
some-is (Some x) e = (x, refl)

pub none-is : {X : Type 0} (o : Option X) → is_some o ≡ false → o ≡ None
none-is None e = refl
none-is (Some x) e = absurd (cc)

pub command-takes : (words : List Text) → is_some (asked words) ≡ true → takes program words ≡ true
command-takes words e =
    let command = some-is (asked words) e in
    (spelled-taken command.0 words (read-spelled command.0 words command.1)).takes_it

pub command-found : (words : List Text) → is_some (asked words) ≡ true → command_of (subcommand_of program words) ≡ asked words
command-found words e =
    let command = some-is (asked words) e in
    (spelled-taken command.0 words (read-spelled command.0 words command.1)).found ∙ sym command.1

-- a fault stays one behind a command's name
pub reads-mapped : {X Y : Type 0} (f : X → Y) (o : Option X) (fault : WordsFault) → Reads o (Err fault) → Reads (option_map f o) (Err fault)
reads-mapped f o Usage e = ap (option_map f) e
reads-mapped f None NoMemory e = absurd (cc)
reads-mapped f (Some x) NoMemory e = refl

pub program-simple : is_simple program ≡ true
unfolding clap_on_literals
program-simple = refl

-- the name and the rows of a subcommand, put together
pub pair-is : {B : Type 0} (f : B → Text) (g : B → List Row) (o : Option B) (name : Text) (rows : List Row) → Some name ≡ option_map f o → Some rows ≡ option_map (λ (p : Text × List Row). p.1) (option_map {U = Text × List Row} (λ b. (f b, g b)) o)
    → option_map {U = Text × List Row} (λ b. (f b, g b)) o ≡ Some (name, rows)
pair-is f g None name rows named found = absurd (cc)
pair-is f g (Some b) name rows named found =
    let name-is : name ≡ f b = cc in
    let rows-are : rows ≡ g b = cc in
    rw (name-is, rows-are) refl

pub none-found : (o : Option (Text × List Row)) → None ≡ option_map (λ (p : Text × List Row). p.1) o → command_of o ≡ None
none-found None e = refl
none-found (Some p) e = absurd (cc)

-- the command by the values, and by the rows
pub by-rows : (f : Found) (name : Text) → command_by name (first_value f) ≡ command_by name (λ id. first_of id (rows_of f))
by-rows f name = rw (first_value-rows f (codes "admin"), first_value-rows f (codes "workers"), first_value-rows f (codes "sessions"), first_value-rows f (codes "count"), first_value-rows f (codes "start")) refl

-- ---- the command as it is made

pub bare-is : (c d e f : Command) → app_of c ≡ new_app (codes "gitolite_shell") → fields_of d ≡ record (fields_of c) { no_binary_name = true } → fields_of e ≡ record (fields_of d) { disable_help_flag = true }
    → fields_of f ≡ record (fields_of e) { disable_help_subcommand = true } → app_of f ≡ bare_program
bare-is c d e f new bare no-flag no-help =
    let named : App → App = λ a. on_top (λ s. record s { no_binary_name = true }) a in
    let flagged : App → App = λ a. on_top (λ s. record s { disable_help_flag = true }) a in
    let helped : App → App = λ a. on_top (λ s. record s { disable_help_subcommand = true }) a in
    ap app_of_fields no-help ∙ ap helped (ap app_of_fields no-flag ∙ ap flagged (ap app_of_fields bare ∙ ap named new))

pub command-added : (old sub new : Command) (a b : App) → AddsSubcommand old sub new → (fields_of sub).has_globals ≡ false → app_of old ≡ a → app_of sub ≡ b → app_of new ≡ with_command a b
command-added old sub new a b adds local is-a is-b = adds.shape local ∙ ap₂ with_command is-a is-b

pub arg-added : (old new : Command) (arg : Arg) (a : App) (r : Rule) → AddsArg old arg new → arg.global ≡ false → app_of old ≡ a → rule_of arg ≡ r → app_of new ≡ with_rule a r
arg-added old new arg a r adds local is-a is-r = adds.shape local ∙ ap₂ with_rule is-a is-r

pub stays-local : (old new : Command) (arg : Arg) → AddsArg old arg new → (fields_of old).has_globals ≡ false → arg.global ≡ false → (fields_of new).has_globals ≡ false
stays-local old new arg adds first second = adds.globals ∙ rw (first, second) refl

-- ---- the commands by their names

module _ (name : Text) (value : Text → Option Text) (admin : Option Text) (is-admin : admin ≡ value (codes "admin")) where
  pub script-ok : (given : Text) → name ≡ codes "script" → admin_by admin ≡ Some given → command_by name value ≡ Some (Script given)
  script-ok given is reads = rw (is, ← is-admin, reads) refl

  pub script-err : (fault : WordsFault) → name ≡ codes "script" → Reads (admin_by admin) (Err fault) → Reads (command_by name value) (Err fault)
  script-err fault is reads =
      let by : command_by name value ≡ option_map Script (admin_by admin) = rw (is, ← is-admin) refl in
      subst (λ (o : Option Asked). Reads o (Err fault)) (sym by) (reads-mapped Script (admin_by admin) fault reads)

  pub keep-ok : (given : Text) → name ≡ codes "keep" → admin_by admin ≡ Some given → command_by name value ≡ Some (Keep given)
  keep-ok given is reads = rw (is, ← is-admin, reads) refl

  pub keep-err : (fault : WordsFault) → name ≡ codes "keep" → Reads (admin_by admin) (Err fault) → Reads (command_by name value) (Err fault)
  keep-err fault is reads =
      let by : command_by name value ≡ option_map Keep (admin_by admin) = rw (is, ← is-admin) refl in
      subst (λ (o : Option Asked). Reads o (Err fault)) (sym by) (reads-mapped Keep (admin_by admin) fault reads)

  pub serve-reads : (transport : Transport) (workers sessions : Option Text) (r : Result Asked WordsFault) → name ≡ serve_word transport → workers ≡ value (codes "workers") → sessions ≡ value (codes "sessions")
      → Reads (serve_by transport admin workers sessions) r → Reads (command_by name value) r
  serve-reads transport workers sessions r is is-workers is-sessions reads =
      let named : command_by name value ≡ serve_by transport (value (codes "admin")) (value (codes "workers")) (value (codes "sessions")) = ap (λ n. command_by n value) is ∙ serve-named transport value in
      let given : serve_by transport admin workers sessions ≡ serve_by transport (value (codes "admin")) (value (codes "workers")) (value (codes "sessions")) = λ i. serve_by transport (is-admin i) (is-workers i) (is-sessions i) in
      subst (λ (o : Option Asked). Reads o r) (given ∙ sym named) reads

pub load-reads : (name : Text) (value : Text → Option Text) (count start : Option Text) (r : Result Asked WordsFault) → name ≡ codes "load" → count ≡ value (codes "count") → start ≡ value (codes "start")
    → Reads (load_by count start) r → Reads (command_by name value) r
load-reads name value count start r is is-count is-start reads =
    let by : command_by name value ≡ load_by count start = rw (is, ← is-count, ← is-start) refl in
    subst (λ (o : Option Asked). Reads o r) (sym by) reads
