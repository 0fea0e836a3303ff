-- What is read as a whole pack is a pack of the grammar.
use Rattle.std.proofs.Common.{◌||◌, take-append-drop, ◌≡◌, ℕ, zero, suc, ◌+◌, ◌*◌, ◌/◌, ◌%◌, ◌<◌, ◌≤◌, ◌==◌, nat_lt, Bool, true, false, if◌then◌else◌, List, [], ◌∷◌, ◌++◌, length, take, drop, get_or, Option, None, Some, codes, refl, sym, ◌∙◌, ap, subst, inl, inr, arith, append_assoc}
use Rattle.std.proofs.Math.Seq.{take-add}
use Rattle.std.proofs.lemmas.Bool.{cases_lt, lt-ltb, le-ltb, ltb-false, eqb-true, eqb-false}
use Rattle.std.proofs.lemmas.List.{append-nil, length-take-le, length-drop, get_or_append_left, get_or-append-add, get_or_past}
use Rattle.std.proofs.lemmas.List.Elements.{All-nil, All-cons}
use Rattle.std.specs.Prelude.{All, flat_map}
use Rattle.std.proofs.lemmas.Nat.{be_bytes_4}
use Rattle.std.proofs.lemmas.Slice.Eq.{bytes_eq-Decides}
use Rattle.std.specs.Int.{w32, from_be_bytes, to_be_bytes}
use Rattle.std.specs.Str.{bytes_eq}
use Rattle.sha1.specs.Sha1.{sha1}
use Rattle.base_types.specs.Fronts.{Front, Whole, Broken, Partial}
use Rattle.git_object.specs.Content.{Content}
use Rattle.git_object.specs.Object.{FitOnePack, IsPackable, fault_of, total_bytes}
use Rattle.git_object.specs.declared.kind.Kind.{Kind}
use Rattle.git_object.specs.declared.kind.Kind.TheVariants.{Commit, Tree, Blob, Tag}
use Rattle.git_object.specs.declared.fault.ObjFault.{ObjFault}
use Rattle.raw_pack.specs.Formats.{gives, fails, bytes, ◌>>=◌, front, behind, and_then}
use Rattle.raw_pack.specs.Grammar.{kind_bits, spelled_head, spelled_entry, before_trailer, spelled_pack, ArePackable, IsPack}
use Rattle.raw_pack.specs.Laws.{AreBytes, BeginsWith}
use Rattle.raw_pack.specs.Packs.{word, signature, version, entry_count, header, byte, is_too_large, sized, more_size, kind_of_bits, head_by_kind, entry_head, formed, pack_entry, pack_entries, signed_part, trailer, pack_end, pack_front}
use Rattle.raw_pack.specs.declared.head.Head.{Head}
use Rattle.raw_pack.specs.declared.fault.PackFault.{PackFault}
use Rattle.raw_pack.specs.declared.fault.PackFault.TheVariants.{NotAPack, Version, TooMany, TooLarge, BadHead, BadObject, Delta, Truncated, TrailerDiffers}
use Rattle.raw_pack.proofs.FormatLemmas.{decided_behind, whole_within}
use Rattle.raw_pack.proofs.HeadForms.{SpellsSize, IsHead, head_is_spelled}
use Rattle.raw_pack.proofs.SpellingLemmas.{Spells, gives_spelled, fails_spelled, if_spelled, unless_spelled, whole_alone, bytes_spelled, splits}

-- parts of bytes are bytes
bytes_before : (xs ys : List ℕ) → AreBytes (xs ++ ys) → AreBytes xs
bytes_before [] ys are = λ i. omega arith
bytes_before (x ∷ xs) ys are = λ i.
    elim (cases_lt i (length (x ∷ xs))) [
      | inl within ↦ subst (λ (n : ℕ). n < 256) (get_or_append_left (x ∷ xs) ys 0 i within) (are i)
      | inr past ↦ let none : get_or (x ∷ xs) i 0 ≡ 0 = get_or_past (x ∷ xs) i 0 past in omega arith
    ]

bytes_behind : (xs ys : List ℕ) → AreBytes (xs ++ ys) → AreBytes ys
bytes_behind xs ys are = λ i. subst (λ (n : ℕ). n < 256) (get_or-append-add xs ys i 0) (are (length xs + i))

word_spelled : (xs : List ℕ) (n : ℕ) → AreBytes xs → Spells word xs n → xs ≡ to_be_bytes w32 n
unfolding word
word_spelled xs n are is =
    let parts = splits (λ four. gives (from_be_bytes w32 four)) (bytes 4 (Truncated 0)) xs n is in
    let four = bytes_spelled 4 (Truncated 0) parts.ys parts.v parts.first in
    let last = gives_spelled (from_be_bytes w32 parts.v) n parts.zs parts.second in
    let whole : xs ≡ parts.ys = parts.both ∙ ap (λ (l : List ℕ). parts.ys ++ l) last.0 ∙ append-nil parts.ys in
    sym (be_bytes_4 xs n (ap length whole ∙ four.0) are (sym last.1 ∙ ap (from_be_bytes w32) (four.1 ∙ sym whole)))

signature_spelled : (xs : List ℕ) → Spells signature xs tt → xs ≡ codes "PACK"
unfolding signature
signature_spelled xs is =
    let parts = splits (λ four. if bytes_eq four (codes "PACK") then gives tt else fails NotAPack) (bytes 4 (Truncated 0)) xs tt is in
    let four = bytes_spelled 4 (Truncated 0) parts.ys parts.v parts.first in
    let last = if_spelled (bytes_eq parts.v (codes "PACK")) tt tt NotAPack parts.zs parts.second in
    parts.both ∙ ap (λ (l : List ℕ). parts.ys ++ l) last.1 ∙ append-nil parts.ys ∙ sym four.1 ∙ (bytes_eq-Decides parts.v (codes "PACK")).0 last.0

version_spelled : (xs : List ℕ) → AreBytes xs → Spells version xs tt → xs ≡ to_be_bytes w32 2
unfolding version
version_spelled xs are is =
    let parts = splits (λ number. if number == 2 then gives tt else fails (Version number)) word xs tt is in
    let last = if_spelled (parts.v == 2) tt tt (Version parts.v) parts.zs parts.second in
    let whole : xs ≡ parts.ys = parts.both ∙ ap (λ (l : List ℕ). parts.ys ++ l) last.1 ∙ append-nil parts.ys in
    whole ∙ word_spelled parts.ys parts.v (subst AreBytes whole are) parts.first ∙ ap (to_be_bytes w32) (eqb-true parts.v 2 last.0)

count_spelled : (xs : List ℕ) (count : ℕ) → AreBytes xs → Spells entry_count xs count → (xs ≡ to_be_bytes w32 count) × (count ≤ 100000)
unfolding entry_count
count_spelled xs count are is =
    let parts = splits (λ number. if nat_lt 100000 number then fails (TooMany number) else gives number) word xs count is in
    let last = unless_spelled (nat_lt 100000 parts.v) parts.v count (TooMany parts.v) parts.zs parts.second in
    let whole : xs ≡ parts.ys = parts.both ∙ ap (λ (l : List ℕ). parts.ys ++ l) last.1 ∙ append-nil parts.ys in
    (whole ∙ word_spelled parts.ys parts.v (subst AreBytes whole are) parts.first ∙ ap (to_be_bytes w32) last.2, subst (λ (n : ℕ). n ≤ 100000) last.2 (ltb-false 100000 parts.v last.0))

header_spelled : (xs : List ℕ) (count : ℕ) → AreBytes xs → Spells header xs count → (xs ≡ codes "PACK" ++ to_be_bytes w32 2 ++ to_be_bytes w32 count) × (count ≤ 100000)
unfolding header
header_spelled xs count are is =
    let parts = splits (λ packed. version >>= (λ known. entry_count)) signature xs count is in
    let behind_first = bytes_behind parts.ys parts.zs (subst AreBytes parts.both are) in
    let more = splits (λ known. entry_count) version parts.zs count parts.second in
    let one : parts.ys ≡ codes "PACK" = signature_spelled parts.ys parts.first in
    let two : more.ys ≡ to_be_bytes w32 2 = version_spelled more.ys (bytes_before more.ys more.zs (subst AreBytes more.both behind_first)) more.first in
    let three = count_spelled more.zs count (bytes_behind more.ys more.zs (subst AreBytes more.both behind_first)) more.second in
    (parts.both ∙ ap (λ (l : List ℕ). parts.ys ++ l) more.both ∙ sym (append_assoc parts.ys more.ys more.zs) ∙ rw (one, two, three.0), three.1)

single : (xs : List ℕ) (b : ℕ) → length xs ≡ 1 → get_or xs 0 0 ≡ b → xs ≡ b ∷ []
single [] b len is = absurd (omega (arith, len))
single (x ∷ []) b len is = ap (λ (n : ℕ). n ∷ []) is
single (x ∷ y ∷ xs) b len is = absurd (omega (arith, len))

byte_spelled : (entry : ℕ) (xs : List ℕ) (b : ℕ) → Spells (byte entry) xs b → xs ≡ b ∷ []
unfolding byte
byte_spelled entry xs b is =
    let parts = splits (λ one. gives (get_or one 0 0)) (bytes 1 (Truncated entry)) xs b is in
    let one = bytes_spelled 1 (Truncated entry) parts.ys parts.v parts.first in
    let last = gives_spelled (get_or parts.v 0 0) b parts.zs parts.second in
    let whole : xs ≡ parts.ys = parts.both ∙ ap (λ (l : List ℕ). parts.ys ++ l) last.0 ∙ append-nil parts.ys in
    single xs b (ap length whole ∙ one.0) (ap (λ (l : List ℕ). get_or l 0 0) (whole ∙ sym one.1) ∙ last.1)

-- a head's size, seven bits a byte
pub record HasSize (sum : ℕ) (kind : Kind) (xs : List ℕ) (size unit : ℕ) (head : Head) : Type 0 where
  pub n : ℕ
  pub spelled : SpellsSize xs n
  pub adds : head.size ≡ size + unit * n
  pub same : head.kind ≡ kind
  pub fits : is_too_large sum head.size ≡ false

last_size : (entry sum : ℕ) (kind : Kind) (size unit next : ℕ) (zs : List ℕ) (head : Head) (none : Bool) → (none ≡ false → 0 < next) → next < 128
    → Spells (if none then fails (BadHead entry) else sized entry sum kind (size + unit * next)) zs head → HasSize sum kind (next ∷ zs) size unit head
last_size entry sum kind size unit next zs head true low high is = absurd (fails_spelled (BadHead entry) head zs is)
last_size entry sum kind size unit next zs head false low high is =
    let last = unless_spelled (is_too_large sum (size + unit * next)) (record { kind = kind; size = size + unit * next }) head (TooLarge entry) zs is in
    record {
      n = next;
      spelled = subst (λ (l : List ℕ). SpellsSize (next ∷ l) next) (sym last.1) (refl, low refl, high);
      adds = ap (λ (h : Head). h.size) (sym last.2);
      same = ap (λ (h : Head). h.kind) (sym last.2);
      fits = subst (λ (h : Head). is_too_large sum h.size ≡ false) last.2 last.0;
    }

some_next : (next : ℕ) → (next == 0) ≡ false → 0 < next
some_next next other = let ne : next ≡ 0 → ⊥ = eqb-false next 0 other in omega arith

more_spelled : (sum : ℕ) (kind : Kind) (size unit next : ℕ) (zs : List ℕ) (head : Head) → 127 < next → next < 256 → HasSize sum kind zs (size + unit * (next % 128)) (unit * 128) head → HasSize sum kind (next ∷ zs) size unit head
more_spelled sum kind size unit next [] head high byte rest = absurd rest.spelled
more_spelled sum kind size unit next (c ∷ more) head high byte rest =
    let n = next % 128 + 128 * rest.n in
    let quotient : (next % 128 + 128 * rest.n) / 128 ≡ rest.n = omega arith in
    record {
      n = next % 128 + 128 * rest.n;
      spelled = (omega arith, subst (SpellsSize (c ∷ more)) (sym quotient) rest.spelled);
      adds = rest.adds ∙ omega arith;
      same = rest.same;
      fits = rest.fits;
    }

size_spelled : (left entry sum : ℕ) (kind : Kind) (size unit : ℕ) (xs : List ℕ) (head : Head) → AreBytes xs → Spells (more_size left entry sum kind size unit) xs head → HasSize sum kind xs size unit head
unfolding more_size
size_spelled zero entry sum kind size unit xs head are is = absurd (fails_spelled (TooLarge entry) head xs is)
size_spelled (suc left) entry sum kind size unit xs head are is =
    let parts = splits (λ next. if nat_lt 127 next then more_size left entry sum kind (size + unit * (next % 128)) (unit * 128) else (if next == 0 then fails (BadHead entry) else sized entry sum kind (size + unit * next))) (byte entry) xs head is in
    let whole : xs ≡ parts.v ∷ parts.zs = parts.both ∙ ap (λ (l : List ℕ). l ++ parts.zs) (byte_spelled entry parts.ys parts.v parts.first) in
    let are_here : AreBytes (parts.v ∷ parts.zs) = subst AreBytes whole are in
    subst (λ (l : List ℕ). HasSize sum kind l size unit head) (sym whole)
    (elim (cases_lt 127 parts.v) [
      | inl high ↦
          more_spelled sum kind size unit parts.v parts.zs head high (are_here 0)
          (size_spelled left entry sum kind (size + unit * (parts.v % 128)) (unit * 128) parts.zs head (bytes_behind (parts.v ∷ []) parts.zs are_here) (rw (lt-ltb 127 parts.v high) at parts.second))
      | inr low ↦ last_size entry sum kind size unit parts.v parts.zs head (parts.v == 0) (some_next parts.v) (omega arith) (rw (le-ltb 127 parts.v low) at parts.second)
    ])

kind_by : (bits : ℕ) (kind : Kind) (a b c d : Bool) → (a ≡ true → bits ≡ 1) → (b ≡ true → bits ≡ 2) → (c ≡ true → bits ≡ 3) → (d ≡ true → bits ≡ 4)
    → (if a then Some Commit else if b then Some Tree else if c then Some Blob else if d then Some Tag else None) ≡ Some kind → kind_bits kind ≡ bits
kind_by bits kind true b c d p q r s is = let same : Commit ≡ kind = cc in ap kind_bits (sym same) ∙ sym (p refl)
kind_by bits kind false true c d p q r s is = let same : Tree ≡ kind = cc in ap kind_bits (sym same) ∙ sym (q refl)
kind_by bits kind false false true d p q r s is = let same : Blob ≡ kind = cc in ap kind_bits (sym same) ∙ sym (r refl)
kind_by bits kind false false false true p q r s is = let same : Tag ≡ kind = cc in ap kind_bits (sym same) ∙ sym (s refl)
kind_by bits kind false false false false p q r s is = absurd (cc)

kind_bits_of : (bits : ℕ) (kind : Kind) → kind_of_bits bits ≡ Some kind → kind_bits kind ≡ bits
kind_bits_of bits kind is = kind_by bits kind (bits == 1) (bits == 2) (bits == 3) (bits == 4) (eqb-true bits 1) (eqb-true bits 2) (eqb-true bits 3) (eqb-true bits 4) is

no_kind : (b : Bool) (entry : ℕ) (zs : List ℕ) (head : Head) → Spells (if b then fails (Delta entry) else fails (BadHead entry)) zs head → ⊥
no_kind true entry zs head is = fails_spelled (Delta entry) head zs is
no_kind false entry zs head is = fails_spelled (BadHead entry) head zs is

long_head : (sum first : ℕ) (kind : Kind) (zs : List ℕ) (head : Head) → 128 ≤ first → first < 256 → kind_bits kind ≡ first / 16 % 8 → HasSize sum kind zs (first % 16) 16 head → IsHead (first ∷ zs) head.kind head.size
long_head sum first kind [] head high byte bits has = absurd has.spelled
long_head sum first kind (b ∷ more) head high byte bits has =
    let low : head.size % 16 ≡ first % 16 = omega (arith, has.adds) in
    let rest : head.size / 16 ≡ has.n = omega (arith, has.adds) in
    let same : kind_bits head.kind ≡ first / 16 % 8 = ap kind_bits has.same ∙ bits in
    (omega arith, subst (SpellsSize (b ∷ more)) (sym rest) has.spelled)

-- a head by the grammar, of a body within the limits
record HasHead (sum : ℕ) (xs : List ℕ) (head : Head) : Type 0 where
  is : IsHead xs head.kind head.size
  fits : is_too_large sum head.size ≡ false

head_by : (entry sum first : ℕ) (zs : List ℕ) (head : Head) → AreBytes (first ∷ zs) → (found : Option Kind) → kind_of_bits (first / 16 % 8) ≡ found → Spells (head_by_kind entry sum first found) zs head
    → HasHead sum (first ∷ zs) head
head_by entry sum first zs head are None is spells = absurd (no_kind (nat_lt 5 (first / 16 % 8)) entry zs head spells)
head_by entry sum first zs head are (Some kind) is spells =
    let bits : kind_bits kind ≡ first / 16 % 8 = kind_bits_of (first / 16 % 8) kind is in
    elim (cases_lt first 128) [
      | inl low ↦
          let last = unless_spelled (is_too_large sum (first % 16)) (record { kind = kind; size = first % 16 }) head (TooLarge entry) zs (rw (lt-ltb first 128 low) at spells) in
          let short : IsHead (first ∷ []) kind (first % 16) = (omega arith, omega arith) in
          record {
            is = subst (λ (l : List ℕ). IsHead (first ∷ l) head.kind head.size) (sym last.1) (subst (λ (h : Head). IsHead (first ∷ []) h.kind h.size) last.2 short);
            fits = subst (λ (h : Head). is_too_large sum h.size ≡ false) last.2 last.0;
          }
      | inr high ↦
          let has = size_spelled 4 entry sum kind (first % 16) 16 zs head (bytes_behind (first ∷ []) zs are) (rw (le-ltb first 128 high) at spells) in
          record { is = long_head sum first kind zs head high (are 0) bits has; fits = has.fits }
    ]

head_spelled : (entry sum : ℕ) (xs : List ℕ) (head : Head) → AreBytes xs → Spells (entry_head entry sum) xs head → HasHead sum xs head
unfolding entry_head
head_spelled entry sum xs head are is =
    let parts = splits (λ first. head_by_kind entry sum first (kind_of_bits (first / 16 % 8))) (byte entry) xs head is in
    let whole : xs ≡ parts.v ∷ parts.zs = parts.both ∙ ap (λ (l : List ℕ). l ++ parts.zs) (byte_spelled entry parts.ys parts.v parts.first) in
    subst (λ (l : List ℕ). HasHead sum l head) (sym whole)
    (head_by entry sum parts.v parts.zs head (subst AreBytes whole are) (kind_of_bits (parts.v / 16 % 8)) refl parts.second)

formed_spelled : (entry : ℕ) (made content : Content) (at : Option ObjFault) (xs : List ℕ) → Spells (formed entry made at) xs content → (at ≡ None) × (xs ≡ []) × (made ≡ content)
formed_spelled entry made content None xs is = let both = gives_spelled made content xs is in (refl, both.0, both.1)
formed_spelled entry made content (Some fault) xs is = absurd (fails_spelled (BadObject entry) content xs is)

or_false : (a b : Bool) → (a || b) ≡ false → (a ≡ false) × (b ≡ false)
or_false true b is = absurd (cc)
or_false false b is = (refl, is)

fits_is : (sum size : ℕ) → is_too_large sum size ≡ false → (size ≤ 16777216) × (sum + size ≤ 268435456)
fits_is sum size is =
    let both = or_false (nat_lt 16777216 size) (nat_lt 268435456 (sum + size)) is in
    (ltb-false 16777216 size both.0, ltb-false 268435456 (sum + size) both.1)

-- an entry by the grammar, within the limits
record HasEntry (sum : ℕ) (xs : List ℕ) (content : Content) : Type 0 where
  is : xs ≡ spelled_entry content
  good : IsPackable content
  light : sum + length content.body ≤ 268435456

entry_spelled : (entry sum : ℕ) (xs : List ℕ) (content : Content) → AreBytes xs → Spells (pack_entry entry sum) xs content → HasEntry sum xs content
unfolding pack_entry
entry_spelled entry sum xs content are is =
    let parts = splits (λ head. bytes head.size (Truncated entry) >>= (λ body. formed entry (record { kind = head.kind; body = body }) (fault_of head.kind body))) (entry_head entry sum) xs content is in
    let more = splits (λ body. formed entry (record { kind = parts.v.kind; body = body }) (fault_of parts.v.kind body)) (bytes parts.v.size (Truncated entry)) parts.zs content parts.second in
    let body = bytes_spelled parts.v.size (Truncated entry) more.ys more.v more.first in
    let last = formed_spelled entry (record { kind = parts.v.kind; body = more.v }) content (fault_of parts.v.kind more.v) more.zs more.second in
    let tail : parts.zs ≡ more.v = more.both ∙ ap (λ (l : List ℕ). more.ys ++ l) last.1 ∙ append-nil more.ys ∙ sym body.1 in
    let size : parts.v.size ≡ length more.v = sym body.0 ∙ ap length (sym body.1) in
    let head = head_spelled entry sum parts.ys parts.v (bytes_before parts.ys parts.zs (subst AreBytes parts.both are)) parts.first in
    let fits = fits_is sum (length more.v) (subst (λ (n : ℕ). is_too_large sum n ≡ false) size head.fits) in
    let front : parts.ys ≡ spelled_head parts.v.kind (length more.v) = head_is_spelled parts.ys parts.v.kind (length more.v) fits.0 (subst (IsHead parts.ys parts.v.kind) size head.is) in
    let made : HasEntry sum xs (record { kind = parts.v.kind; body = more.v }) =
    record {
      is = parts.both ∙ ap (λ (l : List ℕ). parts.ys ++ l) tail ∙ ap (λ (l : List ℕ). l ++ more.v) front;
      good = record { short = fits.0; form = last.0 };
      light = fits.1;
    } in
    subst (HasEntry sum xs) last.2 made

record HasEntries (left sum : ℕ) (read : List Content) (xs : List ℕ) (all : List Content) : Type 0 where
  news : List Content
  both : all ≡ read ++ news
  spelled : xs ≡ flat_map spelled_entry news
  count : length news ≡ left
  each : All IsPackable news
  light : sum + total_bytes news ≤ 268435456

entries_spelled : (left entry sum : ℕ) (read : List Content) (xs : List ℕ) (all : List Content) → sum ≤ 268435456 → AreBytes xs → Spells (pack_entries left entry sum read) xs all → HasEntries left sum read xs all
unfolding pack_entries
entries_spelled zero entry sum read xs all low are is =
    let both = gives_spelled read all xs is in
    record { news = []; both = sym both.1 ∙ sym (append-nil read); spelled = both.0; count = refl; each = All-nil IsPackable; light = omega (arith, low) }
entries_spelled (suc left) entry sum read xs all low are is =
    let parts = splits (λ content. pack_entries left (entry + 1) (sum + length content.body) (read ++ content ∷ [])) (pack_entry entry sum) xs all is in
    let are_both : AreBytes (parts.ys ++ parts.zs) = subst AreBytes parts.both are in
    let one = entry_spelled entry sum parts.ys parts.v (bytes_before parts.ys parts.zs are_both) parts.first in
    let rest = entries_spelled left (entry + 1) (sum + length parts.v.body) (read ++ parts.v ∷ []) parts.zs all one.light (bytes_behind parts.ys parts.zs are_both) parts.second in
    record {
      news = parts.v ∷ rest.news;
      both = rest.both ∙ append_assoc read (parts.v ∷ []) rest.news;
      spelled = parts.both ∙ ap (λ (l : List ℕ). l ++ parts.zs) one.is ∙ ap (λ (l : List ℕ). spelled_entry parts.v ++ l) rest.spelled;
      count = omega (arith, rest.count);
      each = All-cons IsPackable parts.v rest.news one.good rest.each;
      light = omega (arith, rest.light);
    }

record HasSigned (xs : List ℕ) (contents : List Content) : Type 0 where
  packable : ArePackable contents
  within : FitOnePack contents
  whole : xs ≡ before_trailer contents

signed_spelled : (xs : List ℕ) (contents : List Content) → AreBytes xs → Spells signed_part xs contents → HasSigned xs contents
unfolding signed_part before_trailer
signed_spelled xs contents are is =
    let parts = splits (λ count. pack_entries count 0 0 []) header xs contents is in
    let are_both : AreBytes (parts.ys ++ parts.zs) = subst AreBytes parts.both are in
    let rest = entries_spelled parts.v 0 0 [] parts.zs contents (omega arith) (bytes_behind parts.ys parts.zs are_both) parts.second in
    let head = header_spelled parts.ys parts.v (bytes_before parts.ys parts.zs are_both) parts.first in
    let count : parts.v ≡ length contents = sym rest.count ∙ ap length (sym rest.both) in
    let few : length contents ≤ 100000 = subst (λ (n : ℕ). n ≤ 100000) count head.1 in
    let entries : parts.zs ≡ flat_map spelled_entry contents = rest.spelled ∙ ap (flat_map spelled_entry) (sym rest.both) in
    let each : All IsPackable contents = subst (All IsPackable) (sym rest.both) rest.each in
    record {
      packable = record { few = omega (arith, few); each = each };
      within = record { few = few; formed = each; light = subst (λ (l : List Content). total_bytes l ≤ 268435456) (sym rest.both) (omega (arith, rest.light)) };
      whole =
          parts.both
          ∙ ap (λ (l : List ℕ). l ++ parts.zs) head.0
          ∙ ap (λ (n : ℕ). codes "PACK" ++ to_be_bytes w32 2 ++ to_be_bytes w32 n ++ parts.zs) count
          ∙ ap (λ (l : List ℕ). codes "PACK" ++ to_be_bytes w32 2 ++ to_be_bytes w32 (length contents) ++ l) entries;
    }

end_spelled : (computed : List ℕ) (found contents : List Content) (xs : List ℕ) → Spells (pack_end computed found) xs contents → (xs ≡ computed) × (found ≡ contents)
unfolding pack_end trailer
end_spelled computed found contents xs is =
    let parts = splits (λ checked. gives found) (trailer computed (length found)) xs contents is in
    let last = gives_spelled found contents parts.zs parts.second in
    let inner = splits (λ read. if bytes_eq read computed then gives tt else fails (TrailerDiffers read computed)) (bytes 20 (Truncated (length found))) parts.ys tt parts.first in
    let read = bytes_spelled 20 (Truncated (length found)) inner.ys inner.v inner.first in
    let test = if_spelled (bytes_eq inner.v computed) tt tt (TrailerDiffers inner.v computed) inner.zs inner.second in (
      parts.both ∙ ap (λ (l : List ℕ). parts.ys ++ l) last.0 ∙ append-nil parts.ys
          ∙ inner.both ∙ ap (λ (l : List ℕ). inner.ys ++ l) test.1 ∙ append-nil inner.ys ∙ sym read.1 ∙ (bytes_eq-Decides inner.v computed).0 test.0,
      last.1,
    )

pack_by : (input : List ℕ) (n : ℕ) (contents : List Content) (at : Front (List Content) PackFault) → AreBytes input → front signed_part input ≡ at → pack_front input ≡ Whole n contents
    → BeginsWith input n contents
unfolding pack_front spelled_pack
pack_by input n contents (Broken m fault) are is whole = absurd (let at : pack_front input ≡ Broken m fault = ap (λ at. and_then at (λ n found. front (pack_end (sha1 (take n input)) found) (drop n input))) is in cc)
pack_by input n contents (Partial fault) are is whole = absurd (let at : pack_front input ≡ Partial fault = ap (λ at. and_then at (λ n found. front (pack_end (sha1 (take n input)) found) (drop n input))) is in cc)
pack_by input n contents (Whole m found) are is whole =
    let here : pack_front input ≡ behind m (front (pack_end (sha1 (take m input)) found) (drop m input)) = ap (λ at. and_then at (λ n found. front (pack_end (sha1 (take n input)) found) (drop n input))) is in
    let inner = decided_behind m n contents (front (pack_end (sha1 (take m input)) found) (drop m input)) (sym here ∙ whole) in
    let k = inner.0 in
    let within : m ≤ length input = whole_within signed_part input m found is in
    let rest : inner.0 ≤ length (drop m input) = whole_within (pack_end (sha1 (take m input)) found) (drop m input) inner.0 contents inner.1 in
    let first : Spells signed_part (take m input) found = whole_alone signed_part input m found is ∙ ap (λ (i : ℕ). Whole i found) (sym (length-take-le m input within)) in
    let second : Spells (pack_end (sha1 (take m input)) found) (take inner.0 (drop m input)) contents =
    whole_alone (pack_end (sha1 (take m input)) found) (drop m input) inner.0 contents inner.1 ∙ ap (λ (i : ℕ). Whole i contents) (sym (length-take-le inner.0 (drop m input) rest)) in
    let signed_is = signed_spelled (take m input) found (bytes_before (take m input) (drop m input) (subst AreBytes (sym (take-append-drop m input)) are)) first in
    let end_is = end_spelled (sha1 (take m input)) found contents (take inner.0 (drop m input)) second in
    let cut : take n input ≡ take m input ++ take inner.0 (drop m input) = ap (λ (i : ℕ). take i input) inner.2 ∙ take-add m inner.0 input in
    let pack : IsPack (take n input) found = (signed_is.packable, cut ∙ ap (λ (l : List ℕ). take m input ++ l) end_is.0 ∙ ap (λ (l : List ℕ). l ++ sha1 l) signed_is.whole) in
    record {
      within = omega (arith, inner.2, rest, within, length-drop m input);
      pack = subst (IsPack (take n input)) end_is.1 pack;
      limits = subst FitOnePack end_is.1 signed_is.within;
    }

pub read_is_pack : (input : List ℕ) (n : ℕ) (contents : List Content) → AreBytes input → pack_front input ≡ Whole n contents → BeginsWith input n contents
read_is_pack input n contents are is = pack_by input n contents (front signed_part input) are refl is
