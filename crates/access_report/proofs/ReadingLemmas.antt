-- How lines are read, one after the other.
use Rattle.std.proofs.Common.{◌≡◌, ◌∙◌, ◌+◌, ◌<◌, ◌≤◌, ℕ, suc, Bool, true, false, cond, List, [], ◌∷◌, ◌++◌, length, length-drop, subst, take, drop, Option, Some, None, ap, refl, sym, arith}
use Rattle.std.specs.Prelude.{◌==◌, nat_lt, not, Err, if◌then◌else◌}
use Rattle.std.specs.List.{onto_first, position_or_len}
use Rattle.std.specs.Option.{option_map_or}
use Rattle.std.specs.Str.{bytes_eq}
use Rattle.std.proofs.lemmas.Bool.Decides.{nat_tests}
use Rattle.std.proofs.lemmas.List.Splits.{length-slice_split, slice_split_first}
use Rattle.std.specs.FinMap as set
use Rattle.git_object.specs.Reader.{◌>>=◌, up_to}
use Rattle.access_report.specs.Reading.{lists_of, once, pieces, reading, ref_line, ref_named, unless_too_many, with_line}
use Rattle.access_report.specs.declared.reading.AskFault.TheVariants.{BadLine}
use Rattle.access_report.specs.declared.reading.Reading.{Reading}

-- ---- pieces

abbrev is_feed : ℕ → Bool
is_feed c = c == 10

-- the bytes before a place, and those behind it
abbrev parts : List ℕ → ℕ → Option (List ℕ × List ℕ)
parts bytes n = Some (take n bytes, drop (n + 1) bytes)

abbrev front : Option (List ℕ × List ℕ) → List ℕ
front None = []
front (Some p) = p.0

abbrev back : Option (List ℕ × List ℕ) → List ℕ
back None = []
back (Some p) = p.1

cut_by : (b : Bool) (bytes line behind : List ℕ) → nat_lt (position_or_len is_feed bytes) (length bytes) ≡ b
    → cond b (parts bytes (position_or_len is_feed bytes)) None ≡ Some (line, behind) → pieces bytes ≡ line ∷ pieces behind
cut_by true bytes line behind within is =
    let first : take (position_or_len is_feed bytes) bytes ≡ line = ap front is in
    let rest : drop (position_or_len is_feed bytes + 1) bytes ≡ behind = ap back is in
    slice_split_first is_feed bytes 0 (let less : position_or_len is_feed bytes < length bytes = grind (arith, nat_tests, within) in less) ∙ ap (λ (l : List ℕ). l ∷ pieces (drop (position_or_len is_feed bytes + 1) bytes)) first ∙ ap (λ (l : List ℕ). line ∷ pieces l) rest
cut_by false bytes line behind within is = absurd (cc)

bound : (b : Bool) (n : ℕ) (bytes : List ℕ) → (cond b (Some n) None >>= parts bytes) ≡ cond b (parts bytes n) None
bound true n bytes = refl
bound false n bytes = refl

-- the bytes before the first line feed are the first piece
pub cut : (bytes line behind : List ℕ) → up_to 10 bytes ≡ Some (line, behind) → pieces bytes ≡ line ∷ pieces behind
unfolding up_to
cut bytes line behind is =
    cut_by (nat_lt (position_or_len is_feed bytes) (length bytes)) bytes line behind refl
    (sym (bound (nat_lt (position_or_len is_feed bytes) (length bytes)) (position_or_len is_feed bytes) bytes) ∙ is)

uncut_one : (b : Bool) (c : ℕ) (bytes : List ℕ) → (nat_lt (position_or_len is_feed bytes) (length bytes) ≡ false → pieces bytes ≡ bytes ∷ [])
    → nat_lt (cond (not b) (1 + position_or_len is_feed bytes) 0) (suc (length bytes)) ≡ false → cond b ([] ∷ pieces bytes) (onto_first c (pieces bytes)) ≡ (c ∷ bytes) ∷ []
uncut_one true c bytes rest none = absurd (grind (arith, nat_tests, none))
uncut_one false c bytes rest none = ap (onto_first c) (rest (grind (arith, nat_tests, none)))

uncut_bytes : (bytes : List ℕ) → nat_lt (position_or_len is_feed bytes) (length bytes) ≡ false → pieces bytes ≡ bytes ∷ []
uncut_bytes [] none = refl
uncut_bytes (c ∷ bytes) none = uncut_one (is_feed c) c bytes (uncut_bytes bytes) none

uncut_by : (b : Bool) (bytes : List ℕ) → nat_lt (position_or_len is_feed bytes) (length bytes) ≡ b → cond b (parts bytes (position_or_len is_feed bytes)) None ≡ None
    → pieces bytes ≡ bytes ∷ []
uncut_by true bytes within is = absurd (cc)
uncut_by false bytes within is = uncut_bytes bytes within

-- where there is none, all are
pub uncut : (bytes : List ℕ) → up_to 10 bytes ≡ None → pieces bytes ≡ bytes ∷ []
unfolding up_to
uncut bytes is =
    uncut_by (nat_lt (position_or_len is_feed bytes) (length bytes)) bytes refl
    (sym (bound (nat_lt (position_or_len is_feed bytes) (length bytes)) (position_or_len is_feed bytes) bytes) ∙ is)

shorter_by : (b : Bool) (bytes line behind : List ℕ) → nat_lt (position_or_len is_feed bytes) (length bytes) ≡ b → cond b (parts bytes (position_or_len is_feed bytes)) None ≡ Some (line, behind) → length behind + 1 ≤ length bytes
shorter_by true bytes line behind within is =
    let rest : drop (position_or_len is_feed bytes + 1) bytes ≡ behind = ap back is in
    let less : position_or_len is_feed bytes < length bytes = grind (arith, nat_tests, within) in
    omega (arith, less, ap length rest, length-drop (position_or_len is_feed bytes + 1) bytes)
shorter_by false bytes line behind within is = absurd (cc)

-- what follows a line is shorter
pub shorter : (bytes line behind : List ℕ) → up_to 10 bytes ≡ Some (line, behind) → length behind + 1 ≤ length bytes
unfolding up_to
shorter bytes line behind is =
    shorter_by (nat_lt (position_or_len is_feed bytes) (length bytes)) bytes line behind refl
    (sym (bound (nat_lt (position_or_len is_feed bytes) (length bytes)) (position_or_len is_feed bytes) bytes) ∙ is)

pub not_empty : (bytes : List ℕ) → ¬ (bytes ≡ []) → bytes_eq bytes [] ≡ false
not_empty [] some = absurd (some refl)
not_empty (b ∷ bytes) some = refl

-- ---- lines

step_of : (r : Reading) (n : ℕ) (line : List ℕ) (ps : List (List ℕ)) → 0 < length ps → reading r n (line ∷ ps) ≡ option_map_or (λ more. reading more (n + 1) ps) (with_line r line) (Err (BadLine n))
step_of r n line [] some = absurd (omega arith)
step_of r n line (p ∷ ps) some = refl

stepped : (r : Reading) (n : ℕ) (line rest : List ℕ) (found : Option Reading) → with_line r line ≡ found → reading r n (line ∷ pieces rest) ≡ option_map_or (λ more. reading more (n + 1) (pieces rest)) found (Err (BadLine n))
stepped r n line rest found is =
    step_of r n line (pieces rest) (omega (arith, length-slice_split is_feed rest))
    ∙ ap (λ (o : Option Reading). option_map_or (λ more. reading more (n + 1) (pieces rest)) o (Err (BadLine n))) is

pub read_on : (r more : Reading) (n : ℕ) (bytes line rest : List ℕ) → up_to 10 bytes ≡ Some (line, rest) → with_line r line ≡ Some more → reading r n (pieces bytes) ≡ reading more (n + 1) (pieces rest)
read_on r more n bytes line rest split is = ap (reading r n) (cut bytes line rest split) ∙ stepped r n line rest (Some more) is

pub read_bad : (r : Reading) (n : ℕ) (bytes line rest : List ℕ) → up_to 10 bytes ≡ Some (line, rest) → with_line r line ≡ None → reading r n (pieces bytes) ≡ Err (BadLine n)
read_bad r n bytes line rest split is = ap (reading r n) (cut bytes line rest split) ∙ stepped r n line rest None is

pub read_last : (r : Reading) (n : ℕ) (bytes : List ℕ) → up_to 10 bytes ≡ None → reading r n (pieces bytes) ≡ (if bytes_eq bytes [] then unless_too_many (lists_of r) else Err (BadLine n))
read_last r n bytes none = ap (reading r n) (uncut bytes none)

pub read_open : (r : Reading) (n : ℕ) (bytes : List ℕ) → up_to 10 bytes ≡ None → ¬ (bytes ≡ []) → reading r n (pieces bytes) ≡ Err (BadLine n)
read_open r n bytes none some = read_last r n bytes none ∙ ap (λ (b : Bool). if b then unless_too_many (lists_of r) else Err (BadLine n)) (not_empty bytes some)

-- ---- a ref more

abbrev or_else : Reading → Option Reading → Reading
or_else r None = r
or_else r (Some found) = found

pub ref_read : (r now : Reading) (line word name : List ℕ) (refs : List (List ℕ)) → ref_named word ≡ Some name → once r line r ≡ Some now → refs ≡ now.refs ++ name ∷ []
    → ref_line r line word ≡ Some (record { repos = now.repos; last = now.last; users = now.users; refs = refs; lines = now.lines })
ref_read r now line word name refs named new grown =
    ap (λ (found : Option (List ℕ)). found >>= λ n. once r line (record r { refs = r.refs ++ n ∷ [] })) named ∙ by (set.contains_key r.lines line) new grown
  where
    by : (b : Bool) → (if b then None else Some (let s : Reading = record r { lines = set.insert r.lines line true } in s)) ≡ Some now → refs ≡ now.refs ++ name ∷ []
        → (if b then None else Some (let s : Reading = record { repos = r.repos; last = r.last; users = r.users; refs = r.refs ++ name ∷ []; lines = set.insert r.lines line true } in s))
        ≡ Some (record { repos = now.repos; last = now.last; users = now.users; refs = refs; lines = now.lines })
    by true e g = absurd (cc)
    by false e g =
        let same : (let s : Reading = record r { lines = set.insert r.lines line true } in s) ≡ now = ap (or_else r) e in
        subst (λ (n : Reading). refs ≡ n.refs ++ name ∷ [] → Some (let s : Reading = record { repos = r.repos; last = r.last; users = r.users; refs = r.refs ++ name ∷ []; lines = set.insert r.lines line true } in s)
        ≡ Some (record { repos = n.repos; last = n.last; users = n.users; refs = refs; lines = n.lines })) same
        (λ more_refs. ap (λ (l : List (List ℕ)). Some (let s : Reading = record { repos = r.repos; last = r.last; users = r.users; refs = l; lines = set.insert r.lines line true } in s)) (sym more_refs)) g
