-- Heads, byte by byte.
use Rattle.std.proofs.Common.{◌≡◌, ℕ, zero, suc, ◌+◌, ◌*◌, ◌%◌, ◌==◌, nat_lt, ◌<◌, ◌≤◌, true, false, Ok, Err, if◌then◌else◌, refl, subst, arith}
use Rattle.std.proofs.lemmas.Bool.{lt-ltb, le-ltb}
use Rattle.std.proofs.lemmas.Bool.Decides.{nat_tests}
use Rattle.sha1.specs.declared.Sha1.{Sha1}
use Rattle.git_object.specs.declared.kind.Kind.{Kind}
use Rattle.pktline_core.specs.LinkState.{LinkState}
use Rattle.pktline_core.specs.Links.{IsLater}
use Rattle.raw_pack.specs.Formats.{Format, fails}
use Rattle.raw_pack.specs.Heads.{unit_of}
use Rattle.raw_pack.specs.Packs.{byte, sized, is_too_large, more_size}
use Rattle.raw_pack.specs.Reading.{Leaves, Reads}
use Rattle.raw_pack.specs.declared.head.Head.{Head}
use Rattle.raw_pack.specs.declared.fault.PackFault.{PackFault}
use Rattle.raw_pack.specs.declared.fault.PackFault.TheVariants.{BadHead, TooLarge}
use Rattle.raw_pack.proofs.ReadLemmas.{leaves_then, leaves_end, reads_first, reads_gives, reads_fails, reads_fault}

part_small : (left bits : ℕ) → bits < 128 → unit_of left * bits + unit_of left ≤ unit_of left * 128
part_small zero bits h = omega arith
part_small (suc zero) bits h = omega arith
part_small (suc (suc zero)) bits h = omega arith
part_small (suc (suc (suc left))) bits h = omega arith

unit_small : (left : ℕ) → unit_of left * 128 ≤ 4294967296
unit_small zero = omega arith
unit_small (suc zero) = omega arith
unit_small (suc (suc zero)) = omega arith
unit_small (suc (suc (suc left))) = omega arith

-- a size with a byte more is below the next unit, which is at most 2 ^ 32
pub size_below : (left unit size bits : ℕ) → unit ≡ unit_of left → bits < 128 → size < unit → (size + unit * bits < unit * 128) × (unit * 128 ≤ 4294967296)
size_below left unit size bits is h below =
    let part : unit * bits + unit ≤ unit * 128 = rw is (part_small left bits h) in
    (omega arith, rw is (unit_small left))

pub unit_more : (left : ℕ) → suc left < 4 → unit_of (suc left) * 128 ≡ unit_of left
unit_more zero h = refl
unit_more (suc zero) h = refl
unit_more (suc (suc zero)) h = refl
unit_more (suc (suc (suc left))) h = absurd (omega arith)

module _ (entry sum : ℕ) (kind : Kind) (whole : Format Head PackFault) (old mid new : LinkState) (before between after : Sha1) (n left size unit : ℕ) (is : n ≡ suc left)
    (so_far : Leaves whole (more_size n entry sum kind size unit) old mid before between) where
  so_far_is : Leaves whole (more_size (suc left) entry sum kind size unit) old mid before between
  so_far_is = subst (λ (k : ℕ). Leaves whole (more_size k entry sum kind size unit) old mid before between) is so_far

  pub size_cut : (fault : PackFault) → IsLater old mid → Reads (byte entry) mid new between after (Err fault) → Reads whole old new before after (Err fault)
  unfolding more_size
  size_cut fault later r = leaves_end whole _ old mid new before between after (Err fault) so_far_is later (reads_first _ _ _ _ _ _ _ fault r)

  pub size_more : (next : ℕ) → 127 < next → Reads (byte entry) mid new between after (Ok next)
      → Leaves whole (more_size left entry sum kind (size + unit * (next % 128)) (unit * 128)) old new before after
  unfolding more_size
  size_more next high r = rw (lt-ltb 127 next high) at (leaves_then whole (byte entry) _ old mid new before between after next so_far_is r)

  pub size_zero : IsLater old mid → Reads (byte entry) mid new between after (Ok 0) → Reads whole old new before after (Err (BadHead entry))
  unfolding more_size
  size_zero later r = leaves_end whole _ old mid new before between after (Err (BadHead entry)) so_far_is later (reads_fails _ _ _ _ _ _ 0 (BadHead entry) refl refl r)

  last_byte : (next : ℕ) → 0 < next → next < 128
      → (if nat_lt 127 next then more_size left entry sum kind (size + unit * (next % 128)) (unit * 128) else (if next == 0 then fails (BadHead entry) else sized entry sum kind (size + unit * next)))
      ≡ sized entry sum kind (size + unit * (next % 128))
  last_byte next low high =
      let same : next % 128 ≡ next = omega arith in
      let other : (next == 0) ≡ false = grind (arith, nat_tests) in
      rw (le-ltb 127 next (omega arith), other, same)

  pub size_large : (next : ℕ) → 0 < next → next < 128 → is_too_large sum (size + unit * (next % 128)) ≡ true → IsLater old mid → Reads (byte entry) mid new between after (Ok next)
      → Reads whole old new before after (Err (TooLarge entry))
  unfolding more_size
  size_large next low high large later r =
      leaves_end whole _ old mid new before between after (Err (TooLarge entry)) so_far_is later (reads_fails _ _ _ _ _ _ next (TooLarge entry) refl (rw (last_byte next low high, large)) r)

  pub size_last : (next : ℕ) → 0 < next → next < 128 → is_too_large sum (size + unit * (next % 128)) ≡ false → IsLater old mid → Reads (byte entry) mid new between after (Ok next)
      → Reads whole old new before after (Ok (record { kind = kind; size = size + unit * (next % 128) }))
  unfolding more_size
  size_last next low high small later r =
      leaves_end whole _ old mid new before between after (Ok (record { kind = kind; size = size + unit * (next % 128) })) so_far_is later (reads_gives _ _ _ _ _ _ next _ (rw (last_byte next low high, small)) r)

-- no byte more may follow
pub size_endless : (entry sum : ℕ) (kind : Kind) (whole : Format Head PackFault) (old mid : LinkState) (before between : Sha1) (n size unit : ℕ) → n ≡ 0
    → Leaves whole (more_size n entry sum kind size unit) old mid before between → IsLater old mid → Reads whole old mid before between (Err (TooLarge entry))
unfolding more_size
size_endless entry sum kind whole old mid before between n size unit is so_far later =
    leaves_end whole (more_size 0 entry sum kind size unit) old mid mid before between between (Err (TooLarge entry))
    (subst (λ (k : ℕ). Leaves whole (more_size k entry sum kind size unit) old mid before between) is so_far) later (reads_fault (TooLarge entry) mid between refl)
