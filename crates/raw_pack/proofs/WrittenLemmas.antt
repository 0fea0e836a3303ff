-- A pack of the grammar within the limits is read whole.
use Rattle.std.proofs.Common.{◌≡◌, ℕ, zero, suc, ◌+◌, ◌*◌, ◌/◌, ◌%◌, ◌^◌, ◌<◌, ◌≤◌, ◌==◌, nat_lt, true, false, if◌then◌else◌, List, [], ◌∷◌, ◌++◌, length, take, drop, get_or, Some, codes, refl, sym, ◌∙◌, ap, subst, arith, append_assoc, length-append, take-append-drop}
use Rattle.std.proofs.Math.Nat.{mul-le-mul_left}
use Rattle.std.proofs.lemmas.Bool.{lt-ltb, le-ltb, ne_eqb}
use Rattle.std.proofs.lemmas.List.{append-nil, length-take-le}
use Rattle.std.proofs.lemmas.List.Elements.{All-head, All-rest}
use Rattle.std.specs.Prelude.{All, flat_map}
use Rattle.std.proofs.lemmas.Nat.{from_be_bytes-to_be_bytes_4}
use Rattle.std.proofs.lemmas.Slice.Eq.{bytes_eq-Decides}
use Rattle.std.specs.Int.{w32, from_be_bytes, to_be_bytes}
use Rattle.std.specs.Str.{bytes_eq}
use Rattle.sha1.specs.Sha1.{sha1, digest_bytes}
use Rattle.base_types.specs.Fronts.{Whole}
use Rattle.git_object.specs.Content.{Content}
use Rattle.git_object.specs.Object.{FitOnePack, IsPackable, fault_of, total_bytes}
use Rattle.git_object.specs.declared.kind.Kind.{Kind}
use Rattle.git_object.specs.declared.kind.Kind.TheVariants.{Commit, Tree, Blob, Tag}
use Rattle.raw_pack.specs.Formats.{Format, gives, fails, wants, bytes, ◌>>=◌, front, behind}
use Rattle.raw_pack.specs.Grammar.{kind_bits, spelled_head, spelled_entry, before_trailer, spelled_pack, ArePackable}
use Rattle.raw_pack.specs.Laws.{BeginsWith}
use Rattle.raw_pack.specs.Packs.{word, signature, version, entry_count, header, byte, is_too_large, sized, more_size, kind_of_bits, head_by_kind, entry_head, formed, pack_entry, pack_entries, signed_part, trailer, pack_end, pack_front}
use Rattle.raw_pack.specs.declared.fault.PackFault.{PackFault}
use Rattle.raw_pack.specs.declared.fault.PackFault.TheVariants.{NotAPack, Version, TooMany, BadHead, Truncated, TrailerDiffers}
use Rattle.raw_pack.proofs.FormatLemmas.{front-wants}
use Rattle.raw_pack.proofs.HeadForms.{SpellsSize, IsHead, size_positive, spelled_is_head}
use Rattle.raw_pack.proofs.ReadLemmas.{front-both, given_here}
use Rattle.raw_pack.proofs.SpellingLemmas.{Spells}
use Rattle.raw_pack.proofs.PackLemmas.{front-pack, pack_whole_stays}

module _ {V W : Type 0} (f : Format V PackFault) (g : V → Format W PackFault) where
  joins : (ys zs : List ℕ) (v : V) (w : W) → Spells f ys v → Spells (g v) zs w → Spells (f >>= g) (ys ++ zs) w
  joins ys zs v w p q = front-both f g ys zs v p ∙ ap (behind (length ys)) q ∙ ap (λ (n : ℕ). Whole n w) (sym (length-append ys zs))

  joins_end : (ys : List ℕ) (v : V) (w : W) → Spells f ys v → g v ≡ gives w → Spells (f >>= g) ys w
  joins_end ys v w p is =
      ap (front (f >>= g)) (sym (append-nil ys)) ∙ front-both f g ys [] v p ∙ ap (λ h. behind (length ys) (front h [])) is ∙ given_here (length ys) w []

taken : (k : ℕ) (cut : PackFault) (xs : List ℕ) → length xs ≡ k → Spells (bytes k cut) xs xs
unfolding bytes
taken k cut xs len =
    ap (front (wants k cut (λ found. gives found))) (sym (append-nil xs)) ∙ front-wants k cut (λ found. gives found) xs [] len ∙ given_here k xs [] ∙ ap (λ (n : ℕ). Whole n xs) (sym len)

pub word_taken : (n : ℕ) → n < 2 ^ 32 → Spells word (to_be_bytes w32 n) n
unfolding word
word_taken n low =
    joins_end (bytes 4 (Truncated 0)) (λ four. gives (from_be_bytes w32 four)) (to_be_bytes w32 n) (to_be_bytes w32 n) n (taken 4 (Truncated 0) (to_be_bytes w32 n) refl)
    (ap (λ (m : ℕ). gives m) (from_be_bytes-to_be_bytes_4 n low))

signature_taken : Spells signature (codes "PACK") tt
unfolding signature
signature_taken =
    joins_end (bytes 4 (Truncated 0)) (λ four. if bytes_eq four (codes "PACK") then gives tt else fails NotAPack) (codes "PACK") (codes "PACK") tt (taken 4 (Truncated 0) (codes "PACK") refl) refl

version_taken : Spells version (to_be_bytes w32 2) tt
unfolding version
version_taken = joins_end word (λ number. if number == 2 then gives tt else fails (Version number)) (to_be_bytes w32 2) 2 tt (word_taken 2 (omega arith)) refl

count_taken : (count : ℕ) → count ≤ 100000 → Spells entry_count (to_be_bytes w32 count) count
unfolding entry_count
count_taken count few =
    joins_end word (λ number. if nat_lt 100000 number then fails (TooMany number) else gives number) (to_be_bytes w32 count) count count (word_taken count (omega arith)) (rw (le-ltb 100000 count few))

header_taken : (count : ℕ) → count ≤ 100000 → Spells header (codes "PACK" ++ to_be_bytes w32 2 ++ to_be_bytes w32 count) count
unfolding header
header_taken count few =
    joins signature (λ packed. version >>= (λ known. entry_count)) (codes "PACK") (to_be_bytes w32 2 ++ to_be_bytes w32 count) tt count signature_taken
    (joins version (λ known. entry_count) (to_be_bytes w32 2) (to_be_bytes w32 count) tt count version_taken (count_taken count few))

byte_taken : (entry b : ℕ) → Spells (byte entry) (b ∷ []) b
unfolding byte
byte_taken entry b = joins_end (bytes 1 (Truncated entry)) (λ one. gives (get_or one 0 0)) (b ∷ []) (b ∷ []) b (taken 1 (Truncated entry) (b ∷ []) refl) refl

small_is : (sum size : ℕ) → size ≤ 16777216 → sum + size ≤ 268435456 → is_too_large sum size ≡ false
small_is sum size body both = rw (le-ltb 16777216 size body, le-ltb 268435456 (sum + size) both)

-- 128 to a power
abbrev power : ℕ → ℕ
power zero = 1
power (suc left) = 128 * power left

room_more : (unit p : ℕ) → 4294967296 ≤ unit * (128 * p) → 4294967296 ≤ unit * 128 * p
room_more unit p h = omega arith

regroup : (size unit r q : ℕ) → size + unit * r + unit * 128 * q ≡ size + unit * (r + 128 * q)
regroup size unit r q = omega arith

unit_below : (size unit n : ℕ) → 0 < n → size + unit * n ≤ 16777216 → 4294967296 ≤ unit * 1 → ⊥
unit_below size unit n some body room = let more : unit * 1 ≤ unit * n = mul-le-mul_left unit some in omega arith

size_taken : (left entry sum : ℕ) (kind : Kind) (size unit : ℕ) (xs : List ℕ) (n : ℕ) → SpellsSize xs n → 4294967296 ≤ unit * power left → size + unit * n ≤ 16777216 → sum + (size + unit * n) ≤ 268435456
    → Spells (more_size left entry sum kind size unit) xs (record { kind = kind; size = size + unit * n })
unfolding more_size
size_taken zero entry sum kind size unit xs n s room body both = absurd (unit_below size unit n (size_positive xs n s) body room)
size_taken (suc left) entry sum kind size unit [] n s room body both = absurd s
size_taken (suc left) entry sum kind size unit (last ∷ []) n s room body both =
    joins_end (byte entry)
    (λ next. if nat_lt 127 next then more_size left entry sum kind (size + unit * (next % 128)) (unit * 128) else (if next == 0 then fails (BadHead entry) else sized entry sum kind (size + unit * next)))
    (last ∷ []) last (record { kind = kind; size = size + unit * n }) (byte_taken entry last)
    (rw (s.0, le-ltb 127 n (omega (arith, s.2)), ne_eqb n 0 (λ none. omega (arith, s.1, none)), small_is sum (size + unit * n) body both))
size_taken (suc left) entry sum kind size unit (b ∷ c ∷ more) n s room body both =
    let low : b % 128 ≡ n % 128 = omega (arith, s.0) in
    let split : n ≡ n % 128 + 128 * (n / 128) = omega arith in
    let same : size + unit * (b % 128) + unit * 128 * (n / 128) ≡ size + unit * n =
    ap (λ (m : ℕ). size + unit * m + unit * 128 * (n / 128)) low ∙ regroup size unit (n % 128) (n / 128) ∙ ap (λ (m : ℕ). size + unit * m) (sym split) in
    let rest =
    size_taken left entry sum kind (size + unit * (b % 128)) (unit * 128) (c ∷ more) (n / 128) s.1 (room_more unit (power left) room)
    (subst (λ (m : ℕ). m ≤ 16777216) (sym same) body) (subst (λ (m : ℕ). sum + m ≤ 268435456) (sym same) both) in
    let rest_is : Spells (more_size left entry sum kind (size + unit * (b % 128)) (unit * 128)) (c ∷ more) (record { kind = kind; size = size + unit * n }) =
    subst (λ (m : ℕ). Spells (more_size left entry sum kind (size + unit * (b % 128)) (unit * 128)) (c ∷ more) (record { kind = kind; size = m })) same rest in
    joins (byte entry)
    (λ next. if nat_lt 127 next then more_size left entry sum kind (size + unit * (next % 128)) (unit * 128) else (if next == 0 then fails (BadHead entry) else sized entry sum kind (size + unit * next)))
    (b ∷ []) (c ∷ more) b (record { kind = kind; size = size + unit * n }) (byte_taken entry b) (rw (lt-ltb 127 b (omega (arith, s.0))) rest_is)

bits_small : (kind : Kind) → kind_bits kind < 8
bits_small Commit = omega arith
bits_small Tree = omega arith
bits_small Blob = omega arith
bits_small Tag = omega arith

kind_back : (kind : Kind) → kind_of_bits (kind_bits kind) ≡ Some kind
kind_back Commit = refl
kind_back Tree = refl
kind_back Blob = refl
kind_back Tag = refl

head_taken : (entry sum : ℕ) (xs : List ℕ) (kind : Kind) (size : ℕ) → IsHead xs kind size → size ≤ 16777216 → sum + size ≤ 268435456 → Spells (entry_head entry sum) xs (record { kind = kind; size = size })
unfolding entry_head
head_taken entry sum [] kind size is body both = absurd is
head_taken entry sum (first ∷ []) kind size is body both =
    let small = bits_small kind in
    let bits : first / 16 % 8 ≡ kind_bits kind = omega (arith, is.0, is.1, small) in
    let some : kind_of_bits (first / 16 % 8) ≡ Some kind = ap kind_of_bits bits ∙ kind_back kind in
    let low : first % 16 ≡ size = omega (arith, is.0, is.1) in
    joins_end (byte entry) (λ b. head_by_kind entry sum b (kind_of_bits (b / 16 % 8))) (first ∷ []) first (record { kind = kind; size = size }) (byte_taken entry first)
    (rw (some, lt-ltb first 128 (omega (arith, is.0, is.1, small)), low, small_is sum size body both))
head_taken entry sum (first ∷ b ∷ more) kind size is body both =
    let small = bits_small kind in
    let bits : first / 16 % 8 ≡ kind_bits kind = omega (arith, is.0, small) in
    let some : kind_of_bits (first / 16 % 8) ≡ Some kind = ap kind_of_bits bits ∙ kind_back kind in
    let whole : first % 16 + 16 * (size / 16) ≡ size = omega (arith, is.0) in
    let rest =
    size_taken 4 entry sum kind (first % 16) 16 (b ∷ more) (size / 16) is.1 (omega arith) (subst (λ (m : ℕ). m ≤ 16777216) (sym whole) body) (subst (λ (m : ℕ). sum + m ≤ 268435456) (sym whole) both) in
    let rest_is : Spells (more_size 4 entry sum kind (first % 16) 16) (b ∷ more) (record { kind = kind; size = size }) =
    subst (λ (m : ℕ). Spells (more_size 4 entry sum kind (first % 16) 16) (b ∷ more) (record { kind = kind; size = m })) whole rest in
    joins (byte entry) (λ b. head_by_kind entry sum b (kind_of_bits (b / 16 % 8))) (first ∷ []) (b ∷ more) first (record { kind = kind; size = size }) (byte_taken entry first)
    (rw (some, le-ltb first 128 (omega (arith, is.0))) rest_is)

pub entry_taken : (entry sum : ℕ) (content : Content) → IsPackable content → sum + length content.body ≤ 268435456 → Spells (pack_entry entry sum) (spelled_entry content) content
unfolding pack_entry
entry_taken entry sum content good both =
    let head = spelled_head content.kind (length content.body) in
    joins (entry_head entry sum) (λ h. bytes h.size (Truncated entry) >>= (λ b. formed entry (record { kind = h.kind; body = b }) (fault_of h.kind b))) head content.body
    (record { kind = content.kind; size = length content.body }) content
    (head_taken entry sum head content.kind (length content.body) (spelled_is_head content.kind (length content.body) good.short) good.short both)
    (joins_end (bytes (length content.body) (Truncated entry)) (λ b. formed entry (record { kind = content.kind; body = b }) (fault_of content.kind b)) content.body content.body content
    (taken (length content.body) (Truncated entry) content.body refl) (rw good.form))

entries_taken : (contents : List Content) (entry sum : ℕ) (read : List Content) → All IsPackable contents → sum + total_bytes contents ≤ 268435456
    → Spells (pack_entries (length contents) entry sum read) (flat_map spelled_entry contents) (read ++ contents)
unfolding pack_entries front
entries_taken [] entry sum read good light = ap (λ (l : List Content). Whole 0 l) (sym (append-nil read))
entries_taken (content ∷ contents) entry sum read good light =
    let first_light : sum + length content.body ≤ 268435456 = omega (arith, light) in
    let rest_light : sum + length content.body + total_bytes contents ≤ 268435456 = omega (arith, light) in
    let rest_taken = entries_taken contents (entry + 1) (sum + length content.body) (read ++ content ∷ []) (All-rest IsPackable content contents (content ∷ contents) refl good) rest_light in
    joins (pack_entry entry sum) (λ c. pack_entries (length contents) (entry + 1) (sum + length c.body) (read ++ c ∷ [])) (spelled_entry content) (flat_map spelled_entry contents) content (read ++ content ∷ contents)
    (entry_taken entry sum content (All-head IsPackable content contents good) first_light)
    (subst (λ (l : List Content). Spells (pack_entries (length contents) (entry + 1) (sum + length content.body) (read ++ content ∷ [])) (flat_map spelled_entry contents) l) (append_assoc read (content ∷ []) contents) rest_taken)

signed_taken : (contents : List Content) → ArePackable contents → FitOnePack contents → Spells signed_part (before_trailer contents) contents
unfolding signed_part before_trailer
signed_taken contents good within =
    joins header (λ count. pack_entries count 0 0 []) (codes "PACK" ++ to_be_bytes w32 2 ++ to_be_bytes w32 (length contents)) (flat_map spelled_entry contents) (length contents) contents (header_taken (length contents) within.few)
    (entries_taken contents 0 0 [] good.each (omega (arith, within.light)))

twenty : (m : List ℕ) → length (sha1 m) ≡ 20
unfolding sha1 digest_bytes
twenty m = refl

end_taken : (computed : List ℕ) (contents : List Content) → length computed ≡ 20 → Spells (pack_end computed contents) computed contents
unfolding pack_end trailer
end_taken computed contents len =
    let same : bytes_eq computed computed ≡ true = (bytes_eq-Decides computed computed).1 refl in
    joins_end (trailer computed (length contents)) (λ checked. gives contents) computed tt contents
    (joins_end (bytes 20 (Truncated (length contents))) (λ read. if bytes_eq read computed then gives tt else fails (TrailerDiffers read computed)) computed computed tt
    (taken 20 (Truncated (length contents)) computed len) (rw same))
    refl

pack_taken : (contents : List Content) → ArePackable contents → FitOnePack contents → pack_front (spelled_pack contents) ≡ Whole (length (spelled_pack contents)) contents
unfolding spelled_pack
pack_taken contents good within =
    front-pack (before_trailer contents) (sha1 (before_trailer contents)) contents (signed_taken contents good within)
    ∙ ap (behind (length (before_trailer contents))) (end_taken (sha1 (before_trailer contents)) contents (twenty (before_trailer contents)))
    ∙ ap (λ (n : ℕ). Whole n contents) (sym (length-append (before_trailer contents) (sha1 (before_trailer contents))))

-- what is written is read, whatever follows
pub written_is_read : (contents : List Content) (more : List ℕ) → ArePackable contents → FitOnePack contents → pack_front (spelled_pack contents ++ more) ≡ Whole (length (spelled_pack contents)) contents
written_is_read contents more good within = pack_whole_stays (spelled_pack contents) more (length (spelled_pack contents)) contents (pack_taken contents good within)

pub pack_is_read : (input : List ℕ) (n : ℕ) (contents : List Content) → BeginsWith input n contents → pack_front input ≡ Whole n contents
pack_is_read input n contents begins =
    let is : take n input ≡ spelled_pack contents = begins.pack.1 in
    ap pack_front (sym (take-append-drop n input) ∙ ap (λ (l : List ℕ). l ++ drop n input) is)
    ∙ written_is_read contents (drop n input) begins.pack.0 begins.limits
    ∙ ap (λ (m : ℕ). Whole m contents) (sym (ap length is) ∙ length-take-le n input begins.within)
