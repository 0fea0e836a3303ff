-- The conf of a new hub is spliced to its five lines.
use Rattle.std.proofs.Common.{◌≡◌, ◌≤◌, ◌==◌, ◌+◌, ℕ, List, [], ◌∷◌, ◌++◌, length, true, false, refl, sym, ap, ◌∙◌, arith, append_assoc, append-nil, length-append, map}
use Rattle.std.specs.Prelude.{codes, Ok, nat_lt, if◌then◌else◌, ◌||◌, ◌&&◌}
use Rattle.std.specs.List.{list_all}
use Rattle.std.specs.Ordering.{nat_cmp}
use Rattle.std.specs.Cmp.Lexicographic.{nat_list_cmp_total, slice_cmp}
use Rattle.std.specs.FinMap as named
use Rattle.std.proofs.lemmas.Bool.{le-ltb}
use Rattle.std.proofs.lemmas.List.{nil_from_length}
use Rattle.base_types.specs.Names.{ByName}
use Rattle.conf_lex.specs.Names.{is_user_name}
use Rattle.conf_lex.specs.Permissions.{writes}
use Rattle.conf_lex.specs.Statements.{statement}
use Rattle.conf_lex.specs.declared.perm.Perm.{Perm}
use Rattle.conf_lex.specs.declared.statement.Statement.{Statement}
use Rattle.conf_lex.specs.declared.statement.Statement.TheVariants.{Blank, Repo, Rule}
use Rattle.conf_lex.proofs.WordLemmas.{IsFree}
use Rattle.conf_groups.specs.Files.{by_name}
use Rattle.conf_groups.specs.Laws.{names_no_file, numbered, placed_as}
use Rattle.conf_groups.specs.Lines.{lines_from, lines_of}
use Rattle.conf_groups.specs.Splicing.{is_too_large, main_name, spliced, total_bytes}
use Rattle.conf_groups.specs.declared.limits.TheConstants.{MAX_FILES, MAX_FILE_BYTES}
use Rattle.conf_groups.specs.declared.placed.Placed.{Placed}
use Rattle.conf_groups.specs.declared.placed.Placed.TheVariants as at
use Rattle.conf_groups.specs.declared.placed.Scope.TheVariants.{Main}
use Rattle.conf_groups.proofs.PlainLemmas.{plain_conf}
use Rattle.setup_conf.specs.Setup.{setup_files}
use Rattle.setup_conf.proofs.NameLemmas.{IsPlain, name_is_plain}
use Rattle.setup_conf.proofs.StatementLemmas.{admin_repo, admin_rule, all_rule, nothing, testing_repo}

-- I. The lines of the file

byte_read : (line : List ℕ) (b : ℕ) (bytes : List ℕ) → lines_from line (b ∷ bytes) ≡ (if b == 10 then line ∷ lines_from [] bytes else lines_from (line ++ b ∷ []) bytes)
byte_read [] b bytes = refl
byte_read (c ∷ line) b bytes = refl

-- bytes without a line feed go on with the line, up to the next line feed
line_read : (line bytes rest : List ℕ) → IsFree (λ b. b == 10) bytes → lines_from line (bytes ++ 10 ∷ rest) ≡ (line ++ bytes) ∷ lines_from [] rest
line_read line [] rest free = byte_read line 10 rest ∙ ap (λ l. l ∷ lines_from [] rest) (sym (append-nil line))
line_read line (b ∷ bytes) rest free =
    byte_read line b (bytes ++ 10 ∷ rest)
    ∙ ap (λ c. if c then line ∷ lines_from [] (bytes ++ 10 ∷ rest) else lines_from (line ++ b ∷ []) (bytes ++ 10 ∷ rest)) free.0
    ∙ line_read (line ++ b ∷ []) bytes rest free.1
    ∙ ap (λ l. l ∷ lines_from [] rest) (append_assoc line (b ∷ []) bytes)

abbrev text : List ℕ → List ℕ
text admin = codes "repo gitolite-admin\n    RW+     =   " ++ (admin ++ codes "\n\nrepo testing\n    RW+     =   @all\n")

abbrev lines : List ℕ → List (List ℕ)
lines admin = codes "repo gitolite-admin" ∷ (codes "    RW+     =   " ++ admin) ∷ [] ∷ codes "repo testing" ∷ codes "    RW+     =   @all" ∷ []

lines_are : (admin : List ℕ) → IsPlain admin → lines_of (text admin) ≡ lines admin
lines_are admin plain = ap (λ ls. codes "repo gitolite-admin" ∷ ls) (line_read (codes "    RW+     =   ") admin (codes "\nrepo testing\n    RW+     =   @all\n") plain.one_line)

-- II. The limits

text_is_short : (admin : List ℕ) → IsPlain admin → length (text admin) ≤ 200
text_is_short admin plain = omega (arith, plain.short, length-append (codes "repo gitolite-admin\n    RW+     =   ") (admin ++ codes "\n\nrepo testing\n    RW+     =   @all\n"), length-append admin (codes "\n\nrepo testing\n    RW+     =   @all\n"))

-- a map with one entry
one_entry : (key value : List ℕ) → named.entries (named.insert (named.empty {X = List ℕ} {R = slice_cmp nat_cmp}) key value) ≡ (key, value) ∷ []
one_entry key value =
    let none : named.entries (named.empty {X = List ℕ} {R = slice_cmp nat_cmp}) ≡ [] = nil_from_length _ (sym (named.len-entries (named.empty {X = List ℕ} {R = slice_cmp nat_cmp})) ∙ named.len-empty (slice_cmp nat_cmp) (List ℕ)) in
    named.entries-insert nat_list_cmp_total (named.empty {X = List ℕ} {R = slice_cmp nat_cmp}) key value ∙ ap (named.put (slice_cmp nat_cmp) key value) none

abbrev files : List ℕ → ByName (List ℕ)
files admin = by_name (setup_files admin)

few_bytes : (count bytes : ℕ) → count ≡ 1 → bytes ≤ 200 → (nat_lt MAX_FILES count || nat_lt MAX_FILE_BYTES bytes) ≡ false
few_bytes count bytes e few = rw (e, le-ltb MAX_FILE_BYTES bytes (omega (arith, few))) refl

is_small : (admin : List ℕ) → IsPlain admin → is_too_large (files admin) ≡ false
is_small admin plain =
    let entry = one_entry main_name (text admin) in
    let bytes : total_bytes (named.values (files admin)) ≡ length (text admin) + 0 = ap (λ (es : List (List ℕ × List ℕ)). total_bytes (map (λ e. e.1) es)) entry in
    few_bytes _ _ (named.len-entries (files admin) ∙ ap (λ (es : List (List ℕ × List ℕ)). length es) entry) (omega (arith, bytes, text_is_short admin plain))

-- III. What the lines say

abbrev pub placed_line : ℕ → Statement → Placed
placed_line n said = at.Line (record { scope = Main; file = main_name; line = n; statement = said })

-- the permission of both rules
abbrev pub everything : Perm
everything = writes true false false false

-- the lines at their places
abbrev pub placed : List ℕ → List Placed
placed admin =
    placed_line 1 (Repo (codes "gitolite-admin" ∷ []))
    ∷ placed_line 2 (Rule everything [] (admin ∷ []))
    ∷ placed_line 3 Blank
    ∷ placed_line 4 (Repo (codes "testing" ∷ []))
    ∷ placed_line 5 (Rule everything [] (codes "@all" ∷ []))
    ∷ []

-- Lines, from a number on, are statements at their places, and none of them names a file.
record Say (n : ℕ) (texts : List (List ℕ)) (said : List Placed) : Type 0 where
  so : numbered Main main_name n texts ≡ said
  plain : list_all (λ t. names_no_file (statement t)) texts ≡ true

none_left : (n : ℕ) → Say n [] []
none_left n = record { so = refl; plain = refl }

one_more : (n : ℕ) (line : List ℕ) (more : List (List ℕ)) (said : Statement) (rest : List Placed)
    → statement line ≡ Ok said → names_no_file (Ok said) ≡ true → Say (n + 1) more rest → Say n (line ∷ more) (placed_line n said ∷ rest)
one_more n line more said rest e none later = record {
  so = ap (λ answer. placed_as Main main_name n answer ++ numbered Main main_name (n + 1) more) e ∙ ap (λ (ps : List Placed). placed_line n said ∷ ps) later.so;
  plain = ap (λ answer. names_no_file answer && list_all (λ t. names_no_file (statement t)) more) e ∙ ap (λ b. b && list_all (λ t. names_no_file (statement t)) more) none ∙ later.plain;
}

lines_say : (admin : List ℕ) → is_user_name admin ≡ true → IsPlain admin → Say 1 (lines admin) (placed admin)
lines_say admin e plain =
    one_more 1 _ _ _ _ admin_repo refl
    (one_more 2 _ _ _ _ (admin_rule admin e plain) refl
    (one_more 3 _ _ _ _ nothing refl
    (one_more 4 _ _ _ _ testing_repo refl
    (one_more 5 _ _ _ _ all_rule refl (none_left 6)))))

pub setup_is_spliced : (admin : List ℕ) → is_user_name admin ≡ true → spliced (setup_files admin) ≡ Ok (placed admin)
setup_is_spliced admin e =
    let plain = name_is_plain admin e in
    let say = lines_say admin e plain in
    let are = lines_are admin plain in
    let five : length (lines_of (text admin)) ≡ 5 = ap (λ (ls : List (List ℕ)). length ls) are in
    plain_conf.is (setup_files admin) (text admin) (named.get-insert nat_list_cmp_total named.empty main_name (text admin) main_name)
    (is_small admin plain) (ap (list_all (λ t. names_no_file (statement t))) are ∙ say.plain) (omega (arith, text_is_short admin plain)) (omega (arith, five))
    ∙ ap (λ ls. Ok (numbered Main main_name 1 ls)) are
    ∙ ap (λ (ps : List Placed). Ok ps) say.so
