-- Classes are read as they are written.
use Rattle.std.proofs.Common.{◌≡◌, ◌⊎◌, ℕ, zero, suc, ◌+◌, ◌≤◌, ◌==◌, ◌&&◌, not, cond, if◌then◌else◌, nat_le, List, [], ◌∷◌, ◌++◌, Bool, true, false, None, Some, Option, Result, Ok, Err, IfSome, IfOk, length, take, drop, option_map, inl, inr, refl, sym, ◌∙◌, ap, subst, arith, append_assoc}
use Rattle.std.proofs.lemmas.Bool.Decides.{nat_tests}
use Rattle.std.proofs.lemmas.List.{length-append}
use Rattle.std.proofs.Math.Seq.{drop-append_seam, take-append_seam}
use Rattle.refex.specs.Pattern.{Bytes}
use Rattle.refex.specs.Text.{Item, Atom, Bad, Member, Byte, Kind, range, either_of, every_other, is_alphanumeric, kind, begins_with, bytes_of, item, member, escaped_as, escape_member, span, is_dash, range_from, ranged, class_item, class_items, class_length, class_made, class_of, class, ◌>>=◌}
use Rattle.refex.specs.Text as text
use Rattle.refex.specs.Items.{on_ok}
use Rattle.refex.specs.Classes.{is_plain, is_plain_end, IsMember, itself, escaped, kind_of, IsEntry, alone, from_to, AreEntries, none, dash, more, any_of, IsClass, these, others, ClassesAreRead}
use Rattle.refex.specs.declared.faults.Offence.{Offence}
use Rattle.refex.specs.declared.faults.Offence.TheVariants as offences
use Rattle.refex.proofs.Conditions.{if_true, if_false, and_false}
use Rattle.refex.proofs.Cutting.{items_step, items_fault, length_here, length_more}

-- ---- where the class ends

-- a plain byte is no backslash, and ends no class
abbrev Plain : Bool → (ℕ → Bool) → Type 0
Plain first plain = (b : ℕ) → plain b ≡ true → ((b == 92) ≡ false) × ((b == 93) && (not first && not false) ≡ false)

plain_is : (first : Bool) → Plain first (is_plain first)
plain_is true b e = (grind (arith, nat_tests), and_false (b == 93))
plain_is false b e = (grind (arith, nat_tests), grind (arith, nat_tests))

plain_end : Plain false is_plain_end
plain_end b e = (grind (arith, nat_tests), grind (arith, nat_tests))

-- a backslash takes the next byte with it
escape_length : (first : Bool) (b : ℕ) (behind : List ℕ) (k : ℕ) → class_length false false behind ≡ Some k → class_length first false (92 ∷ b ∷ behind) ≡ Some (2 + k)
escape_length first b behind k e =
    let two : suc (suc k) ≡ 2 + k = omega arith in
    length_more first false 92 (b ∷ behind) refl
    ∙ ap (option_map suc) (length_more false true b behind (and_false (b == 93)) ∙ ap (λ t. option_map suc (class_length false t behind)) (and_false (b == 92)) ∙ ap (option_map suc) e)
    ∙ ap Some two

member_length : {plain : ℕ → Bool} {rest : List ℕ} {m : Member} {word : List ℕ} (first : Bool) → Plain first plain → IsMember plain rest m word
    → (behind : List ℕ) (k : ℕ) → class_length false false behind ≡ Some k → class_length first false (word ++ behind) ≡ Some (length word + k)
member_length first plain (itself {b = b} h free) behind k e =
    let p = plain b h in
    let one : suc k ≡ 1 + k = omega arith in
    length_more first false b behind p.1 ∙ ap (λ t. option_map suc (class_length false (t && true) behind)) p.0 ∙ ap (option_map suc) e ∙ ap Some one
member_length first plain (escaped {b = b} h) behind k e = escape_length first b behind k e
member_length first plain (kind_of {b = b} h) behind k e = escape_length first b behind k e

dash_length : (behind : List ℕ) (k : ℕ) → class_length false false behind ≡ Some k → class_length false false (45 ∷ behind) ≡ Some (1 + k)
dash_length behind k e = let one : suc k ≡ 1 + k = omega arith in length_more false false 45 behind refl ∙ ap (option_map suc) e ∙ ap Some one

entry_length : {first : Bool} {rest : List ℕ} {set : ℕ → Bool} {word : List ℕ} → IsEntry first rest set word
    → (behind : List ℕ) (k : ℕ) → class_length false false behind ≡ Some k → class_length first false (word ++ behind) ≡ Some (length word + k)
entry_length {first = first} (alone m) behind k e = member_length first (plain_is first) m behind k e
entry_length {first = first} (from_to {word = u} {more = v} m n le) behind k e =
    let long : length u + (1 + (length v + k)) ≡ length (u ++ 45 ∷ v) + k = omega (arith, length-append u (45 ∷ v)) in
    ap (class_length first false) (append_assoc u (45 ∷ v) behind)
    ∙ member_length first (plain_is first) m (45 ∷ (v ++ behind)) (1 + (length v + k)) (dash_length (v ++ behind) (length v + k) (member_length false plain_end n behind k e))
    ∙ ap Some long

entries_length : {first : Bool} {sets : List (ℕ → Bool)} {word : List ℕ} → AreEntries first sets word → (behind : List ℕ) → class_length first false (word ++ 93 ∷ behind) ≡ Some (length word)
entries_length none behind = length_here false false 93 behind refl
entries_length dash behind = dash_length (93 ∷ behind) 0 (length_here false false 93 behind refl)
entries_length {first = first} (more {word = word} {rest = rest} i is) behind =
    ap (class_length first false) (append_assoc word rest (93 ∷ behind)) ∙ entry_length i (rest ++ 93 ∷ behind) (length rest) (entries_length is behind)
    ∙ ap Some (sym (length-append word rest))

-- ---- what the entries are read as

pub not_alphanumeric : (b : ℕ) → is_alphanumeric b ≡ false → kind b ≡ None
unfolding kind
not_alphanumeric b e = grind (arith, nat_tests)

member_read : {plain : ℕ → Bool} {rest : List ℕ} {m : Member} {word : List ℕ} → ((b : ℕ) → plain b ≡ true → (b == 92) ≡ false) → IsMember plain rest m word
    → (at : ℕ) → member at (word ++ rest) ≡ Ok (m, length word)
unfolding member text.escaped
member_read {rest = rest} plain (itself {b = b} h free) at =
    if_false (b == 92) _ _ (plain b h) ∙ if_false (b == 91 && begins_with 58 rest) _ _ free
member_read plain (escaped {b = b} h) at =
    ap (λ k. escaped_as k at b >>= λ m. Ok (m, 2)) (not_alphanumeric b h) ∙ ap (λ r. r >>= λ m. Ok (m, 2)) (if_false (is_alphanumeric b) _ _ h)
member_read plain (kind_of {b = b} h) at = ap (λ k. escaped_as k at b >>= λ m. Ok (m, 2)) h

-- behind the first entry no dash makes a range
one_no_dash : (b : ℕ) (bytes : List ℕ) → (b == 45) ≡ false → is_dash (b ∷ bytes) ≡ false
one_no_dash b [] e = refl
one_no_dash b (c ∷ bytes) e = e

member_no_dash : {rest : List ℕ} {m : Member} {word : List ℕ} → IsMember (is_plain false) rest m word → (behind : List ℕ) → is_dash (word ++ behind) ≡ false
member_no_dash (itself {b = b} h free) behind = one_no_dash b behind (grind (arith, nat_tests))
member_no_dash (escaped {b = b} h) behind = one_no_dash 92 (b ∷ behind) refl
member_no_dash (kind_of {b = b} h) behind = one_no_dash 92 (b ∷ behind) refl

entry_no_dash : {first : Bool} {rest : List ℕ} {set : ℕ → Bool} {word : List ℕ} → IsEntry first rest set word → (behind : List ℕ) → not first && is_dash (word ++ behind) ≡ false
entry_no_dash {first = true} i behind = refl
entry_no_dash {first = false} (alone m) behind = member_no_dash m behind
entry_no_dash {first = false} (from_to {word = u} {more = v} m n le) behind = ap is_dash (append_assoc u (45 ∷ v) behind) ∙ member_no_dash m (45 ∷ (v ++ behind))

no_dash : {sets : List (ℕ → Bool)} {word : List ℕ} → AreEntries false sets word → is_dash word ≡ false
no_dash none = refl
no_dash dash = refl
no_dash (more {rest = rest} i is) = entry_no_dash i rest

dash_of_range : {plain : ℕ → Bool} {rest : List ℕ} {m : Member} {word : List ℕ} → IsMember plain rest m word → is_dash (45 ∷ (word ++ rest)) ≡ true
dash_of_range (itself h free) = refl
dash_of_range (escaped h) = refl
dash_of_range (kind_of h) = refl

entry_read : {first : Bool} {rest : List ℕ} {set : ℕ → Bool} {word : List ℕ} → IsEntry first rest set word → is_dash rest ≡ false
    → (at : ℕ) → class_item at first (word ++ rest) ≡ Ok (set, length word)
unfolding class_item ranged range_from span
entry_read {first = first} {rest = rest} (alone {m = m} {word = u} h) free at =
    if_false (not first && is_dash (u ++ rest)) _ _ (entry_no_dash (alone h) rest)
    ∙ ap (λ r. r >>= λ a. ranged at a.0 a.1 (drop a.1 (u ++ rest))) (member_read (λ b e. (plain_is first b e).0) h at)
    ∙ ap (ranged at m (length u)) (drop-append_seam u rest)
    ∙ if_false (is_dash rest) _ _ free
entry_read {first = first} {rest = rest} (from_to {a = a} {b = b} {word = u} {more = v} h k le) free at =
    let behind : List ℕ = 45 ∷ (v ++ rest) in
    let fits : nat_le a b ≡ true = grind (arith, nat_tests) in
    if_false (not first && is_dash ((u ++ 45 ∷ v) ++ rest)) _ _ (entry_no_dash (from_to h k le) rest)
    ∙ ap (λ bytes. member at bytes >>= λ a. ranged at a.0 a.1 (drop a.1 bytes)) (append_assoc u (45 ∷ v) rest)
    ∙ ap (λ r. r >>= λ a. ranged at a.0 a.1 (drop a.1 (u ++ behind))) (member_read (λ b e. (plain_is first b e).0) h at)
    ∙ ap (ranged at (Byte a) (length u)) (drop-append_seam u behind)
    ∙ if_true (is_dash behind) _ _ (dash_of_range k)
    ∙ ap (λ r. r >>= λ b. (span at a b.0 >>= λ f. Ok (f, length u + 1 + b.1))) (member_read (λ b e. (plain_end b e).0) k (at + length u + 1))
    ∙ ap (λ r. r >>= λ f. Ok (f, length u + 1 + length v)) (if_true (nat_le a b) _ _ fits)
    ∙ ap (λ n. Ok (range a b, n)) (omega (arith, length-append u (45 ∷ v)))

member_some : {plain : ℕ → Bool} {rest : List ℕ} {m : Member} {word : List ℕ} → IsMember plain rest m word → (b : ℕ) × (bytes : List ℕ) × (word ≡ b ∷ bytes)
member_some (itself {b = b} h free) = (b, [], refl)
member_some (escaped {b = b} h) = (92, b ∷ [], refl)
member_some (kind_of {b = b} h) = (92, b ∷ [], refl)

entry_some : {first : Bool} {rest : List ℕ} {set : ℕ → Bool} {word : List ℕ} → IsEntry first rest set word → (b : ℕ) × (bytes : List ℕ) × (word ≡ b ∷ bytes)
entry_some (alone m) = member_some m
entry_some (from_to {word = u} {more = v} m n le) = let s = member_some m in (s.0, s.1 ++ 45 ∷ v, ap (λ w. w ++ 45 ∷ v) s.2)

-- the entry is read, and then the rest
step_read : (at : ℕ) (first : Bool) (set : ℕ → Bool) (word rest : List ℕ) (b : ℕ) (bytes : List ℕ) → word ≡ b ∷ bytes → class_item at first (word ++ rest) ≡ Ok (set, length word)
    → class_items at first 0 (word ++ rest) ≡ on_ok (either_of set) (class_items (at + length word) false 0 rest)
step_read at first set word rest b bytes is e =
    let long : length word ≡ suc (length bytes) = ap length is in
    let e' : class_item at first (b ∷ (bytes ++ rest)) ≡ Ok (set, suc (length bytes)) =
    sym (ap (λ w. class_item at first (w ++ rest)) is) ∙ e ∙ ap (λ n. Ok (set, n)) long in
    ap (λ w. class_items at first 0 (w ++ rest)) is
    ∙ items_step at first b (bytes ++ rest) set (length bytes) e'
    ∙ ap (λ w. on_ok (either_of set) (class_items (at + suc (length bytes)) false 0 w)) (drop-append_seam bytes rest)
    ∙ ap (λ n. on_ok (either_of set) (class_items (at + n) false 0 rest)) (sym long)

entries_read : {first : Bool} {sets : List (ℕ → Bool)} {word : List ℕ} → AreEntries first sets word → (at : ℕ) → class_items at first 0 word ≡ Ok (any_of sets)
unfolding class_items class_item member ranged
entries_read none at = refl
entries_read dash at = refl
entries_read {first = first} (more {set = set} {word = word} {rest = rest} i is) at =
    let s = entry_some i in
    step_read at first set word rest s.0 s.1 s.2 (entry_read i (no_dash is) at) ∙ ap (on_ok (either_of set)) (entries_read is (at + length word))

class_read : {sets : List (ℕ → Bool)} {word : List ℕ} → AreEntries true sets word → (at : ℕ) (negated : Bool) (skip : ℕ) (bytes rest : List ℕ) → drop skip bytes ≡ word ++ 93 ∷ rest
    → class at negated skip bytes ≡ (Atom (Bytes (if negated then every_other (any_of sets) else any_of sets)), skip + length word + 1)
unfolding class
class_read {word = word} is at negated skip bytes rest e =
    ap (class_of at negated skip bytes) (ap (class_length true false) e ∙ entries_length is rest)
    ∙ ap (λ r. (class_made negated r, skip + length word + 1)) (ap (class_items (at + skip) true 0) (ap (take (length word)) e ∙ take-append_seam word (93 ∷ rest)) ∙ entries_read is (at + skip))

entries_some : {sets : List (ℕ → Bool)} {word : List ℕ} → AreEntries true sets word → (b : ℕ) × (bytes : List ℕ) × (word ≡ b ∷ bytes)
entries_some (more {rest = rest} i is) = let s = entry_some i in (s.0, s.1 ++ rest, ap (λ w. w ++ rest) s.2)

begins_behind : (c b : ℕ) (word bytes behind : List ℕ) → word ≡ b ∷ bytes → begins_with c (word ++ behind) ≡ begins_with c word
begins_behind c b word bytes behind is = ap (λ w. begins_with c (w ++ behind)) is ∙ sym (ap (begins_with c) is)

pub class_written : {set : ℕ → Bool} {word : List ℕ} → IsClass set word → (at : ℕ) (rest : List ℕ) → item at (word ++ rest) ≡ (Atom (Bytes set), length word)
unfolding item
class_written (these {sets = sets} {word = word} is plain) at rest =
    let s = entries_some is in
    let bytes : List ℕ = word ++ 93 ∷ rest in
    ap (λ w. item at (91 ∷ w)) (append_assoc word (93 ∷ []) rest)
    ∙ if_false (begins_with 94 bytes) _ _ (begins_behind 94 s.0 word s.1 (93 ∷ rest) s.2 ∙ plain)
    ∙ class_read is at false 1 (91 ∷ bytes) rest refl
    ∙ ap (λ n. (Atom (Bytes (any_of sets)), n)) (omega (arith, length-append word (93 ∷ [])))
class_written (others {sets = sets} {word = word} is) at rest =
    let bytes : List ℕ = 94 ∷ (word ++ 93 ∷ rest) in
    ap (λ w. item at (91 ∷ 94 ∷ w)) (append_assoc word (93 ∷ []) rest)
    ∙ class_read is at true 2 (91 ∷ bytes) rest refl
    ∙ ap (λ n. (Atom (Bytes (every_other (any_of sets))), n)) (omega (arith, length-append word (93 ∷ [])))

-- ---- what is read as a class is one

-- the bytes before the end of a class, in which it doesn't end
abbrev Ends : Bool → Bool → List ℕ → Option ℕ → Type 0
Ends first behind bytes o = IfSome o (λ n. (word rest : List ℕ) × (bytes ≡ word ++ 93 ∷ rest) × (n ≡ length word) × (class_length first behind word ≡ None))

ends_later : (first behind : Bool) (b : ℕ) (bytes : List ℕ) → ((b == 93) && (not first && not behind)) ≡ false → (o : Option ℕ)
    → Ends false ((b == 92) && not behind) bytes o → Ends first behind (b ∷ bytes) (option_map suc o)
ends_later first behind b bytes e None h = tt
ends_later first behind b bytes e (Some n) (word, rest, is, long, open_) =
    (b ∷ word, rest, ap (λ w. b ∷ w) is, omega (arith, long), length_more first behind b word e ∙ ap (option_map suc) open_)

ends_here : (first behind : Bool) (b : ℕ) (bytes : List ℕ) → Ends false ((b == 92) && not behind) bytes (class_length false ((b == 92) && not behind) bytes)
    → (t : Bool) → ((b == 93) && (not first && not behind)) ≡ t → Ends first behind (b ∷ bytes) (cond t (Some 0) (option_map suc (class_length false ((b == 92) && not behind) bytes)))
unfolding class_length
ends_here first behind b bytes h true e = let same : b ≡ 93 = grind (arith, nat_tests) in ([], bytes, ap (λ b. b ∷ bytes) same, refl, refl)
ends_here first behind b bytes h false e = ends_later first behind b bytes e (class_length false ((b == 92) && not behind) bytes) h

ends : (first behind : Bool) (bytes : List ℕ) → Ends first behind bytes (class_length first behind bytes)
unfolding class_length
ends first behind [] = tt
ends first behind (b ∷ bytes) = ends_here first behind b bytes (ends false ((b == 92) && not behind) bytes) ((b == 93) && (not first && not behind)) refl

none_behind : (o o' : Option ℕ) (n : ℕ) → ((k : ℕ) → o ≡ Some k → o' ≡ Some (n + k)) → o' ≡ None → o ≡ None
none_behind None o' n h e = refl
none_behind (Some k) o' n h e = absurd (let f : Some (n + k) ≡ None = sym (h k refl) ∙ e in cc)

ok_then : {A B : Type 0} (P : A → Type 0) (Q : B → Type 0) (r : Result A Offence) (f : A → Result B Offence) → IfOk r P → ((x : A) → P x → IfOk (f x) Q) → IfOk (r >>= f) Q
ok_then P Q (Ok x) f p h = h x p
ok_then P Q (Err e) f p h = tt

abbrev any_plain : ℕ → Bool
any_plain b = not (b == 92)

any_plain_is : (b : ℕ) → any_plain b ≡ true → (b == 92) ≡ false
any_plain_is b e = grind (arith, nat_tests)

-- the bytes begin with the member
abbrev MemberAt : List ℕ → Member × ℕ → Type 0
MemberAt bytes x = (word rest : List ℕ) × (bytes ≡ word ++ rest) × (x.1 ≡ length word) × IsMember any_plain rest x.0 word

escape_is : (at c : ℕ) (bytes : List ℕ) (k : Option (ℕ → Bool)) → kind c ≡ k → IfOk (escaped_as k at c >>= λ m. Ok (m, 2)) (MemberAt (92 ∷ c ∷ bytes))
escape_is at c bytes (Some f) e = (92 ∷ c ∷ [], bytes, refl, refl, kind_of e)
escape_is at c bytes None e = one (is_alphanumeric c) refl
  where
    one : (t : Bool) → is_alphanumeric c ≡ t → IfOk ((if t then Err (offences.Unsupported at) else Ok (Byte c)) >>= λ m. Ok (m, 2)) (MemberAt (92 ∷ c ∷ bytes))
    one true g = tt
    one false g = (92 ∷ c ∷ [], bytes, refl, refl, escaped g)

escapes_are : (at : ℕ) (bytes : List ℕ) → IfOk (escape_member at bytes) (MemberAt (92 ∷ bytes))
unfolding text.escaped
escapes_are at [] = tt
escapes_are at (c ∷ bytes) = escape_is at c bytes (kind c) refl

member_is : (at : ℕ) (bytes : List ℕ) → IfOk (member at bytes) (MemberAt bytes)
unfolding member
member_is at [] = tt
member_is at (b ∷ bytes) = one (b == 92) (b == 91 && begins_with 58 bytes) refl refl
  where
    one : (t u : Bool) → (b == 92) ≡ t → (b == 91 && begins_with 58 bytes) ≡ u
        → IfOk (if t then escape_member at bytes else if u then Err (offences.Unsupported at) else Ok (Byte b, 1)) (MemberAt (b ∷ bytes))
    one true u e f = let same : 92 ≡ b = grind (arith, nat_tests) in subst (λ b. IfOk (escape_member at bytes) (MemberAt (b ∷ bytes))) same (escapes_are at bytes)
    one false true e f = tt
    one false false e f = (b ∷ [], bytes, refl, refl, itself (ap not e) f)

-- a member that stands where it may
plainer : {plain : ℕ → Bool} {rest : List ℕ} {m : Member} {word : List ℕ} → IsMember any_plain rest m word → ((b : ℕ) → word ≡ b ∷ [] → any_plain b ≡ true → plain b ≡ true)
    → IsMember plain rest m word
plainer (itself {b = b} h free) f = itself (f b refl h) free
plainer (escaped h) f = escaped h
plainer (kind_of h) f = kind_of h

no_end : (b : ℕ) (rest : List ℕ) → class_length false false (b ∷ rest) ≡ None → (b == 93) ≡ false
no_end b rest e = one (b == 93) refl
  where
    one : (t : Bool) → (b == 93) ≡ t → t ≡ false
    one true h = absurd (let f : Some 0 ≡ None = sym (length_here false false b rest (ap (λ t. t && true) h)) ∙ e in cc)
    one false h = refl

no_range : (b : ℕ) (rest : List ℕ) → is_dash (b ∷ rest) ≡ false → (b ∷ rest ≡ 45 ∷ [] → ⊥) → (b == 45) ≡ false
no_range b [] e last = one (b == 45) refl
  where
    one : (t : Bool) → (b == 45) ≡ t → t ≡ false
    one true h = let same : b ≡ 45 = grind (arith, nat_tests) in absurd (last (ap (λ b. b ∷ []) same))
    one false h = refl
no_range b (c ∷ rest) e last = e

all_plain : (b : ℕ) → any_plain b ≡ true → (b == 93) ≡ false → (b == 45) ≡ false → is_plain false b ≡ true
all_plain b e f g = ap (λ t. t && not (b == 93) && not (b == 45)) e ∙ ap (λ t. not t && not (b == 45)) f ∙ ap not g

plain_first : (first : Bool) (rest : List ℕ) (b : ℕ) → class_length first false (b ∷ rest) ≡ None → not first && is_dash (b ∷ rest) ≡ false → (first ≡ false → b ∷ rest ≡ 45 ∷ [] → ⊥)
    → any_plain b ≡ true → is_plain first b ≡ true
plain_first true rest b open_ free last h = h
plain_first false rest b open_ free last h = all_plain b h (no_end b rest open_) (no_range b rest free (last refl))

-- the bytes begin with the entry, and the class doesn't end in the rest
abbrev EntryAt : Bool → List ℕ → (ℕ → Bool) × ℕ → Type 0
EntryAt first bytes x = (word rest : List ℕ) × (bytes ≡ word ++ rest) × (x.1 ≡ length word) × IsEntry first rest x.0 word × (class_length false false rest ≡ None)

dash_is : (bytes : List ℕ) → is_dash bytes ≡ true → bytes ≡ 45 ∷ drop 1 bytes
dash_is [] e = absurd (let f : false ≡ true = e in cc)
dash_is (b ∷ []) e = absurd (let f : false ≡ true = e in cc)
dash_is (b ∷ c ∷ bytes) e = let same : b ≡ 45 = grind (arith, nat_tests) in ap (λ b. b ∷ c ∷ bytes) same

span_is : (at : ℕ) (first : Bool) (bytes word rest : List ℕ) (a n : ℕ) (x : Member × ℕ) → bytes ≡ word ++ 45 ∷ rest → n ≡ length word → class_length false false rest ≡ None
    → IsMember (is_plain first) (45 ∷ rest) (Byte a) word → MemberAt rest x → IfOk (span at a x.0 >>= λ f. Ok (f, n + 1 + x.1)) (EntryAt first bytes)
unfolding span
span_is at first bytes word rest a n (Kind f, k) is long open_ m h = tt
span_is at first bytes word rest a n (Byte b, k) is long open_ m (v, behind, next, size, m') = one (nat_le a b) refl
  where
    end : IsMember is_plain_end behind (Byte b) v
    end = plainer m' (λ c e h. ap (λ t. t && not (c == 93)) h ∙ ap not (no_end c behind (ap (class_length false false) (sym (next ∙ ap (λ v. v ++ behind) e)) ∙ open_)))

    rest_open : class_length false false behind ≡ None
    rest_open = none_behind (class_length false false behind) (class_length false false rest) (length v) (λ i h. ap (class_length false false) next ∙ member_length false plain_end end behind i h) open_

    one : (t : Bool) → nat_le a b ≡ t → IfOk ((if t then Ok (range a b) else Err (offences.Syntax at)) >>= λ f. Ok (f, n + 1 + k)) (EntryAt first bytes)
    one true e =
        let le : a ≤ b = grind (arith, nat_tests) in (
          word ++ 45 ∷ v,
          behind,
          is ∙ ap (λ xs. word ++ 45 ∷ xs) next ∙ sym (append_assoc word (45 ∷ v) behind),
          omega (arith, long, size, length-append word (45 ∷ v)),
          from_to (subst (λ xs. IsMember (is_plain first) (45 ∷ xs) (Byte a) word) next m) end le,
          rest_open,
        )
    one false e = tt

range_is : (at : ℕ) (first : Bool) (bytes word rest : List ℕ) (m : Member) (n : ℕ) → bytes ≡ word ++ 45 ∷ rest → n ≡ length word → class_length false false rest ≡ None
    → IsMember (is_plain first) (45 ∷ rest) m word → IfOk (range_from at m n (45 ∷ rest)) (EntryAt first bytes)
unfolding range_from
range_is at first bytes word rest (Kind f) n is long open_ m = tt
range_is at first bytes word rest (Byte a) n is long open_ m =
    ok_then (MemberAt rest) (EntryAt first bytes) (member (at + n + 1) rest) (λ b. span at a b.0 >>= λ f. Ok (f, n + 1 + b.1)) (member_is (at + n + 1) rest)
    (λ x h. span_is at first bytes word rest a n x is long open_ m h)

ranged_is : (at : ℕ) (first : Bool) (bytes word rest : List ℕ) (m : Member) (n : ℕ) → bytes ≡ word ++ rest → n ≡ length word → class_length first false bytes ≡ None
    → IsMember (is_plain first) rest m word → IfOk (ranged at m n (drop n bytes)) (EntryAt first bytes)
unfolding ranged
ranged_is at first bytes word rest m n is long open_ h = subst (λ xs. IfOk (ranged at m n xs) (EntryAt first bytes)) (sym behind) (one (is_dash rest) refl)
  where
    behind : drop n bytes ≡ rest
    behind = ap (λ i. drop i bytes) long ∙ ap (drop (length word)) is ∙ drop-append_seam word rest

    rest_open : class_length false false rest ≡ None
    rest_open = none_behind (class_length false false rest) (class_length first false bytes) (length word) (λ i e. ap (class_length first false) is ∙ member_length first (plain_is first) h rest i e) open_

    one : (t : Bool) → is_dash rest ≡ t → IfOk (if t then range_from at m n rest else Ok (bytes_of m, n)) (EntryAt first bytes)
    one true e =
        let d = dash_is rest e in
        let next = none_behind (class_length false false (drop 1 rest)) (class_length false false rest) 1 (λ i e. ap (class_length false false) d ∙ dash_length (drop 1 rest) i e) rest_open in
        subst (λ xs. IfOk (range_from at m n xs) (EntryAt first bytes)) (sym d)
        (range_is at first bytes word (drop 1 rest) m n (is ∙ ap (λ xs. word ++ xs) d) long next (subst (λ xs. IsMember (is_plain first) xs m word) d h))
    one false e = (word, rest, is, long, alone h, rest_open)

entry_is : (at : ℕ) (first : Bool) (bytes : List ℕ) → (first ≡ false → bytes ≡ 45 ∷ [] → ⊥) → class_length first false bytes ≡ None → IfOk (class_item at first bytes) (EntryAt first bytes)
unfolding class_item
entry_is at first bytes last open_ = one (not first && is_dash bytes) refl
  where
    one : (t : Bool) → (not first && is_dash bytes) ≡ t → IfOk (if t then Err (offences.Syntax at) else (member at bytes >>= λ a. ranged at a.0 a.1 (drop a.1 bytes))) (EntryAt first bytes)
    one true e = tt
    one false e = ok_then (MemberAt bytes) (EntryAt first bytes) (member at bytes) (λ a. ranged at a.0 a.1 (drop a.1 bytes)) (member_is at bytes)
        (λ x (word, rest, is, long, m). ranged_is at first bytes word rest x.0 x.1 is long open_ (plainer m (λ b d h.
        let front : bytes ≡ b ∷ rest = is ∙ ap (λ w. w ++ rest) d in
        plain_first first rest b (ap (class_length first false) (sym front) ∙ open_) (ap (λ xs. not first && is_dash xs) (sym front) ∙ e) (λ f g. last f (front ∙ g)) h)))

-- the bytes are entries of these bytes
abbrev EntriesAt : Bool → List ℕ → (ℕ → Bool) → Type 0
EntriesAt first bytes f = (sets : List (ℕ → Bool)) × (f ≡ any_of sets) × AreEntries first sets bytes

-- whatever is read of so few bytes
abbrev AllAre : ℕ → Type 0
AllAre n = (at : ℕ) (first : Bool) (bytes : List ℕ) → length bytes ≤ n → (first ≡ true → 1 ≤ length bytes) → class_length first false bytes ≡ None
    → IfOk (class_items at first 0 bytes) (EntriesAt first bytes)

only_dash : (first : Bool) (b : ℕ) (bytes : List ℕ) → ((first ≡ false) × (b ∷ bytes ≡ 45 ∷ [])) ⊎ (first ≡ false → b ∷ bytes ≡ 45 ∷ [] → ⊥)
only_dash true b bytes = inr (λ e. absurd (let f : true ≡ false = e in cc))
only_dash false b (c ∷ bytes) = inr (λ _ e. absurd (let f : b ∷ c ∷ bytes ≡ 45 ∷ [] = e in cc))
only_dash false b [] = one (b == 45) refl
  where
    one : (t : Bool) → (b == 45) ≡ t → ((false ≡ false) × (b ∷ [] ≡ 45 ∷ [])) ⊎ (false ≡ false → b ∷ [] ≡ 45 ∷ [] → ⊥)
    one true e = let same : b ≡ 45 = grind (arith, nat_tests) in inl (refl, ap (λ b. b ∷ []) same)
    one false e = inr (λ _ f. let g : b ∷ [] ≡ 45 ∷ [] = f in let same : b ≡ 45 = cc in absurd (grind (arith, nat_tests)))

dash_are : (at : ℕ) (first : Bool) (bytes : List ℕ) → first ≡ false → bytes ≡ 45 ∷ [] → IfOk (class_items at first 0 bytes) (EntriesAt first bytes)
dash_are at first bytes e is =
    subst (λ f. IfOk (class_items at f 0 bytes) (EntriesAt f bytes)) (sym e)
    (subst (λ w. IfOk (class_items at false 0 w) (EntriesAt false w)) (sym is)
    (subst (λ r. IfOk r (EntriesAt false (45 ∷ []))) (sym (entries_read dash at)) (range 45 45 ∷ [], refl, dash)))

more_are : {first : Bool} {rest : List ℕ} {set : ℕ → Bool} {word : List ℕ} → IsEntry first rest set word → (r : Result (ℕ → Bool) Offence) → IfOk r (EntriesAt false rest)
    → IfOk (on_ok (either_of set) r) (EntriesAt first (word ++ rest))
more_are {set = set} i (Ok f) (sets, same, is) = (set ∷ sets, ap (either_of set) same, more i is)
more_are i (Err x) h = tt

step_are : (n : ℕ) → AllAre n → (at : ℕ) (first : Bool) (b : ℕ) (bytes : List ℕ) → length (b ∷ bytes) ≤ suc n → (r : Result ((ℕ → Bool) × ℕ) Offence)
    → class_item at first (b ∷ bytes) ≡ r → IfOk r (EntryAt first (b ∷ bytes)) → IfOk (class_items at first 0 (b ∷ bytes)) (EntriesAt first (b ∷ bytes))
step_are n all at first b bytes few (Err x) e h = subst (λ r. IfOk r (EntriesAt first (b ∷ bytes))) (sym (items_fault at first b bytes x e)) tt
step_are n all at first b bytes few (Ok x) e (word, rest, is, long, i, open_) =
    let s = entry_some i in
    let read = step_read at first x.0 word rest s.0 s.1 s.2 (sym (ap (class_item at first) is) ∙ e ∙ ap (λ n. Ok (x.0, n)) long) in
    let fewer : length rest ≤ n = omega (arith, few, ap length is, length-append word rest, ap length s.2) in
    subst (λ w. IfOk (class_items at first 0 w) (EntriesAt first w)) (sym is)
    (subst (λ r. IfOk r (EntriesAt first (word ++ rest))) (sym read)
    (more_are i (class_items (at + length word) false 0 rest)
    (all (at + length word) false rest fewer (λ f. absurd (let g : false ≡ true = f in cc)) open_)))

entries_are : (n : ℕ) → AllAre n
unfolding class_items
entries_are n at false [] few some open_ = ([], refl, none)
entries_are n at true [] few some open_ = absurd (let f : 1 ≤ 0 = some refl in omega arith)
entries_are zero at first (b ∷ bytes) few some open_ = absurd (let f : length (b ∷ bytes) ≤ 0 = few in omega arith)
entries_are (suc n) at first (b ∷ bytes) few some open_ = elim (only_dash first b bytes) [
  | inl d ↦ dash_are at first (b ∷ bytes) d.0 d.1
  | inr last ↦ step_are n (entries_are n) at first b bytes few (class_item at first (b ∷ bytes)) refl (entry_is at first (b ∷ bytes) last open_)
]

-- a class is never empty
class_some : (word rest : List ℕ) (n : ℕ) → class_length true false (word ++ 93 ∷ rest) ≡ Some n → n ≡ length word → 1 ≤ length word
class_some [] rest n e long = absurd (one (class_length false ((93 == 92) && not false) rest) (sym (length_more true false 93 rest refl) ∙ e))
  where
    one : (o : Option ℕ) → option_map suc o ≡ Some n → ⊥
    one None f = let g : None ≡ Some n = f in cc
    one (Some k) f = let g : Some (suc k) ≡ Some n = f in let same : suc k ≡ n = cc in omega (arith, long)
class_some (b ∷ word) rest n e long = omega arith

-- an item that is a set of bytes is a class, and any other is a fault
abbrev pub ClassAs : List ℕ → Item → ℕ → Type 0
ClassAs bytes (Atom (Bytes set)) used = (word rest : List ℕ) × (bytes ≡ word ++ rest) × (used ≡ length word) × IsClass set word
ClassAs bytes (Bad f) used = Unit {0}
ClassAs bytes _ used = ⊥

abbrev set_of : Bool → (ℕ → Bool) → ℕ → Bool
set_of negated f = if negated then every_other f else f

-- what makes a class of its entries
abbrev Makes : Bool → List ℕ → List ℕ → Type 0
Makes negated front bytes = (sets : List (ℕ → Bool)) (word rest : List ℕ) → AreEntries true sets word → bytes ≡ word ++ 93 ∷ rest → IsClass (set_of negated (any_of sets)) (front ++ (word ++ 93 ∷ []))

made_is : (negated : Bool) (skip : ℕ) (front bytes word rest : List ℕ) (n : ℕ) → Makes negated front bytes → skip ≡ length front → bytes ≡ word ++ 93 ∷ rest → n ≡ length word
    → (r : Result (ℕ → Bool) Offence) → IfOk r (EntriesAt true word) → ClassAs (front ++ bytes) (class_made negated r) (skip + n + 1)
made_is negated skip front bytes word rest n make size is long (Err x) h = tt
made_is negated skip front bytes word rest n make size is long (Ok f) (sets, same, es) = (
  front ++ (word ++ 93 ∷ []),
  rest,
  ap (λ w. front ++ w) (is ∙ sym (append_assoc word (93 ∷ []) rest)) ∙ sym (append_assoc front (word ++ 93 ∷ []) rest),
  omega (arith, size, long, length-append front (word ++ 93 ∷ []), length-append word (93 ∷ [])),
  subst (λ f. IsClass (set_of negated f) (front ++ (word ++ 93 ∷ []))) (sym same) (make sets word rest es is),
)

class_is : (at : ℕ) (negated : Bool) (skip : ℕ) (front bytes : List ℕ) → Makes negated front bytes → skip ≡ length front → (o : Option ℕ) → class_length true false bytes ≡ o → Ends true false bytes o
    → ClassAs (front ++ bytes) (class_of at negated skip (front ++ bytes) o).0 (class_of at negated skip (front ++ bytes) o).1
class_is at negated skip front bytes make size None e h = tt
class_is at negated skip front bytes make size (Some n) e (word, rest, is, long, open_) =
    let behind : drop skip (front ++ bytes) ≡ bytes = ap (λ i. drop i (front ++ bytes)) size ∙ drop-append_seam front bytes in
    let inside : take n (drop skip (front ++ bytes)) ≡ word =
    ap (take n) (behind ∙ is) ∙ ap (λ i. take i (word ++ 93 ∷ rest)) long ∙ take-append_seam word (93 ∷ rest) in
    let some = class_some word rest n (ap (class_length true false) (sym is) ∙ e) long in
    let all : AllAre (length word) = entries_are (length word) in
    made_is negated skip front bytes word rest n make size is long (class_items (at + skip) true 0 (take n (drop skip (front ++ bytes))))
    (subst (λ w. IfOk (class_items (at + skip) true 0 w) (EntriesAt true word)) (sym inside) (all (at + skip) true word (omega arith) (λ _. some) open_))

pub class_there : (at : ℕ) (bytes : List ℕ) → ClassAs (91 ∷ bytes) (item at (91 ∷ bytes)).0 (item at (91 ∷ bytes)).1
unfolding item class
class_there at bytes = one (begins_with 94 bytes) refl
  where
    negated : (rest : List ℕ) → ClassAs (91 ∷ 94 ∷ rest) (class at true 2 (91 ∷ 94 ∷ rest)).0 (class at true 2 (91 ∷ 94 ∷ rest)).1
    negated rest = class_is at true 2 (91 ∷ 94 ∷ []) rest (λ sets word behind es is. others es) refl (class_length true false rest) refl (ends true false rest)

    caret : (bytes : List ℕ) → begins_with 94 bytes ≡ true → ClassAs (91 ∷ bytes) (class at true 2 (91 ∷ bytes)).0 (class at true 2 (91 ∷ bytes)).1
    caret [] e = absurd (let f : false ≡ true = e in cc)
    caret (b ∷ rest) e = let same : b ≡ 94 = grind (arith, nat_tests) in
        subst (λ b. ClassAs (91 ∷ b ∷ rest) (class at true 2 (91 ∷ b ∷ rest)).0 (class at true 2 (91 ∷ b ∷ rest)).1) (sym same) (negated rest)

    one : (t : Bool) → begins_with 94 bytes ≡ t
        → ClassAs (91 ∷ bytes) (if t then class at true 2 (91 ∷ bytes) else class at false 1 (91 ∷ bytes)).0 (if t then class at true 2 (91 ∷ bytes) else class at false 1 (91 ∷ bytes)).1
    one true e = caret bytes e
    one false e = class_is at false 1 (91 ∷ []) bytes (λ sets word behind es is.
        let s = entries_some es in
        these es (sym (begins_behind 94 s.0 word s.1 (93 ∷ behind) s.2) ∙ ap (begins_with 94) (sym is) ∙ e)) refl (class_length true false bytes) refl (ends true false bytes)

pub classes_are_read : ClassesAreRead
classes_are_read at bytes set used = (
  λ e. subst (λ (x : Item × ℕ). ClassAs (91 ∷ bytes) x.0 x.1) e (class_there at bytes),
  λ (word, rest, is, long, w). ap (item at) is ∙ class_written w at rest ∙ ap (λ n. (Atom (Bytes set), n)) (sym long),
)
