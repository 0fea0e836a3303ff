use Rattle.std.proofs.Common.{◌∙◌, refl, sym, arith}
use Rattle.std.specs.Str.{bytes_eq}
use Rattle.std.proofs.lemmas.Bool.{both_ways}
use Rattle.std.proofs.lemmas.Fmt.{decimal_injective}
use Rattle.std.proofs.lemmas.Slice.Eq.{bytes_eq-Decides}
use Rattle.script_frames.proofs.FrameLemmas.{head_front, head_digits, head_is}
use Rattle.script_frames.proofs.frames.size_in.Goals as goal

pub returns-in_default-clause-none : goal.returns-in_default-clause-none
returns-in_default-clause-none c = λ size is.
    let other = rw (head_front c.args.word.now c.requires _ size is) at c.in_default.ensures.cases in
    absurd (both_ways (bytes_eq c.args.word.now c.args.word.now) other ((bytes_eq-Decides c.args.word.now c.args.word.now).1 refl))

pub returns-in_default-number_in-clause-none : goal.returns-in_default-number_in-clause-none
returns-in_default-number_in-clause-none c = λ size is.
    c.in_default-number_in.ensures.none size (omega (arith, is.small)) (c.in-Some.ensures.cases.1 ∙ head_digits c.args.word.now c.requires _ size is)

pub returns-then-size-gt-LARGEST_BODY-clause-none : goal.returns-then-size-gt-LARGEST_BODY-clause-none
returns-then-size-gt-LARGEST_BODY-clause-none c = λ size is.
    let digits = sym c.in-Some-number_in.ensures.some ∙ c.in-Some.ensures.cases.1 ∙ head_digits c.args.word.now c.requires _ size is in
    let same = decimal_injective _ size (omega arith) (omega (arith, is.small)) digits in
    omega (arith, same, is.small)

pub returns-clause-some : goal.returns-clause-some
returns-clause-some c = head_is c.args.word.now c.requires _ _ (omega arith) ((bytes_eq-Decides _ _).0 c.in-Some.ensures.cases.0) (sym c.in-Some.ensures.cases.1 ∙ c.in-Some-number_in.ensures.some)
