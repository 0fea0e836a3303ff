-- The bytes of a pack tell its objects and where it ends, whatever follows them.
use Rattle.std.proofs.Common.{◌≡◌, ℕ, List, [], ◌∷◌, ◌++◌, length, codes, refl, sym, ◌∙◌, ap, arith, append_assoc}
use Rattle.std.proofs.lemmas.List.{append-nil, append_cancel_left}
use Rattle.std.proofs.lemmas.List.Elements.{All-head, All-rest}
use Rattle.std.specs.Prelude.{All, flat_map}
use Rattle.std.specs.Int.{w32, to_be_bytes}
use Rattle.sha1.specs.Sha1.{sha1}
use Rattle.base_types.specs.Fronts.{Front, Whole}
use Rattle.git_object.specs.Content.{Content}
use Rattle.raw_pack.specs.Formats.{Format, front}
use Rattle.git_object.specs.Object.{IsPackable}
use Rattle.raw_pack.specs.Grammar.{spelled_entry, before_trailer, spelled_pack, ArePackable, IsPack}
use Rattle.raw_pack.specs.Packs.{word, pack_entry}
use Rattle.raw_pack.specs.declared.fault.PackFault.{PackFault}
use Rattle.raw_pack.proofs.FormatLemmas.{whole_stays}
use Rattle.raw_pack.proofs.SpellingLemmas.{Spells}
use Rattle.raw_pack.proofs.WrittenLemmas.{word_taken, entry_taken}

-- of two spellings, each with something behind it, that are the same bytes, the values are the same
same_value : {V : Type 0} (f : Format V PackFault) (v w : V) (cs ds xs ys : List ℕ) → Spells f cs v → Spells f ds w → cs ++ xs ≡ ds ++ ys → v ≡ w
same_value {V = V} f v w cs ds xs ys p q same =
    let both : ◌≡◌ {A = Front V PackFault} (Whole (length cs) v) (Whole (length ds) w) = sym (whole_stays f cs xs (length cs) v p) ∙ ap (front f) same ∙ whole_stays f ds ys (length ds) w q in
    cc

same_entries : (one other : List Content) (xs ys : List ℕ) → All IsPackable one → All IsPackable other → length one ≡ length other → flat_map spelled_entry one ++ xs ≡ flat_map spelled_entry other ++ ys
    → (one ≡ other) × (xs ≡ ys)
same_entries [] [] xs ys p q len same = (refl, same)
same_entries [] (b ∷ ds) xs ys p q len same = absurd (omega (arith, len))
same_entries (a ∷ cs) [] xs ys p q len same = absurd (omega (arith, len))
same_entries (a ∷ cs) (b ∷ ds) xs ys p q len same =
    let good = All-head IsPackable a cs p in
    let fine = All-head IsPackable b ds q in
    let cut : spelled_entry a ++ (flat_map spelled_entry cs ++ xs) ≡ spelled_entry b ++ (flat_map spelled_entry ds ++ ys) =
    sym (append_assoc (spelled_entry a) (flat_map spelled_entry cs) xs) ∙ same ∙ append_assoc (spelled_entry b) (flat_map spelled_entry ds) ys in
    let first : a ≡ b =
    same_value (pack_entry 0 0) a b (spelled_entry a) (spelled_entry b) (flat_map spelled_entry cs ++ xs) (flat_map spelled_entry ds ++ ys) (entry_taken 0 0 a good (omega (arith, good.short)))
    (entry_taken 0 0 b fine (omega (arith, fine.short))) cut in
    let behind : flat_map spelled_entry cs ++ xs ≡ flat_map spelled_entry ds ++ ys =
    append_cancel_left (spelled_entry b) (flat_map spelled_entry cs ++ xs) (flat_map spelled_entry ds ++ ys) (ap (λ (c : Content). spelled_entry c ++ (flat_map spelled_entry cs ++ xs)) (sym first) ∙ cut) in
    let rest = same_entries cs ds xs ys (All-rest IsPackable a cs (a ∷ cs) refl p) (All-rest IsPackable b ds (b ∷ ds) refl q) (omega (arith, len)) behind in
    (ap (λ (c : Content). c ∷ cs) first ∙ ap (λ (l : List Content). b ∷ l) rest.0, rest.1)

-- the same of what comes before two trailers
same_signed : (one other : List Content) (xs ys : List ℕ) → ArePackable one → ArePackable other → before_trailer one ++ xs ≡ before_trailer other ++ ys → (one ≡ other) × (xs ≡ ys)
unfolding before_trailer
same_signed one other xs ys p q same =
    let counted : to_be_bytes w32 (length one) ++ (flat_map spelled_entry one ++ xs) ≡ to_be_bytes w32 (length other) ++ (flat_map spelled_entry other ++ ys) =
    append_cancel_left (codes "PACK" ++ to_be_bytes w32 2) (to_be_bytes w32 (length one) ++ (flat_map spelled_entry one ++ xs)) (to_be_bytes w32 (length other) ++ (flat_map spelled_entry other ++ ys)) same in
    let len : length one ≡ length other =
    same_value word (length one) (length other) (to_be_bytes w32 (length one)) (to_be_bytes w32 (length other)) (flat_map spelled_entry one ++ xs) (flat_map spelled_entry other ++ ys) (word_taken (length one) (omega (arith, p.few)))
    (word_taken (length other) (omega (arith, q.few))) counted in
    let behind : flat_map spelled_entry one ++ xs ≡ flat_map spelled_entry other ++ ys =
    append_cancel_left (to_be_bytes w32 (length other)) (flat_map spelled_entry one ++ xs) (flat_map spelled_entry other ++ ys)
    (ap (λ (n : ℕ). to_be_bytes w32 n ++ (flat_map spelled_entry one ++ xs)) (sym len) ∙ counted) in
    same_entries one other xs ys p.each q.each len behind

pub begins_no_other : (bytes more : List ℕ) (one other : List Content) → IsPack bytes one → IsPack (bytes ++ more) other → (more ≡ []) × (one ≡ other)
unfolding spelled_pack
begins_no_other bytes more one other p q =
    let same : before_trailer one ++ (sha1 (before_trailer one) ++ more) ≡ before_trailer other ++ sha1 (before_trailer other) =
    sym (append_assoc (before_trailer one) (sha1 (before_trailer one)) more) ∙ ap (λ (l : List ℕ). l ++ more) (sym p.1) ∙ q.1 in
    let found = same_signed one other (sha1 (before_trailer one) ++ more) (sha1 (before_trailer other)) p.0 q.0 same in
    let trailer : sha1 (before_trailer one) ++ more ≡ sha1 (before_trailer one) ++ [] =
    found.1 ∙ ap (λ (l : List Content). sha1 (before_trailer l)) (sym found.0) ∙ sym (append-nil (sha1 (before_trailer one))) in
    (append_cancel_left (sha1 (before_trailer one)) more [] trailer, found.0)
