use Rattle.std.proofs.Common.{◌≡◌, ◌∙◌, sym, ap, true, Ok, inl, inr, arith}
use Rattle.std.specs.Prelude.{decimal}
use Rattle.std.specs.Str.{bytes_eq}
use Rattle.std.proofs.lemmas.Bool.{not-false}
use Rattle.std.proofs.lemmas.Slice.Eq.{bytes_eq-Decides}
use Rattle.std.proofs.lemmas.Fmt.{parse-decimal, IsAscii-decimal}
use Rattle.std.proofs.lemmas.Str.{IsUtf8-from_ascii}
use Rattle.shell_words.proofs.NumberLemmas.{number_in-decimal, number_in-none}
use Rattle.shell_words.proofs.numbers.number_in.Goals as goal

pub returns-in_default-clause-value : goal.returns-in_default-clause-value
returns-in_default-clause-value c = sym (number_in-none c.args.least c.args.most c.args.word.now (λ n low high e.
    c.in_default.ensures.cases.0 (rw e (IsUtf8-from_ascii _ (IsAscii-decimal n (omega (arith, c.ranges.most.fits)))))))

pub returns-in_default-parse-clause-value : goal.returns-in_default-parse-clause-value
returns-in_default-parse-clause-value c = sym (number_in-none c.args.least c.args.most c.args.word.now (λ n low high e.
    let spelled = c.in-Ok.ensures.cases.0 ∙ e in
    c.in_default-parse.not-Ok n (parse-decimal 64 n c.in-Ok.text.now c.parse.result (omega (arith, c.ranges.most.fits)) (omega (arith, c.ranges.most.fits)) spelled c.parse.ensures.value.0)))

pub returns-then-ne-clause-value : goal.returns-then-ne-clause-value
returns-then-ne-clause-value c = sym (number_in-none c.args.least c.args.most c.args.word.now (λ n low high e.
    let spelled = c.in-Ok.ensures.cases.0 ∙ e in
    let same : c.parse.result ≡ Ok n = parse-decimal 64 n c.in-Ok.text.now c.parse.result (omega (arith, c.ranges.most.fits)) (omega (arith, c.ranges.most.fits)) spelled c.parse.ensures.value.0 in
    let number : c.in-Ok-parse.number ≡ n = cc in
    let printed : c.format.result.now ≡ c.in-Ok.text.now = c.format.ensures.text ∙ ap decimal number ∙ sym spelled in
    let equal : bytes_eq c.format.result.now c.in-Ok.text.now ≡ true = (bytes_eq-Decides _ _).1 printed in
    let other = rw equal at c.if-ne.ensures in
    absurd (cc)))

pub returns-then-number-least-clause-value : goal.returns-then-number-least-clause-value
returns-then-number-least-clause-value c = sym (number_in-none c.args.least c.args.most c.args.word.now (λ n low high e.
    let spelled = c.in-Ok.ensures.cases.0 ∙ e in
    let same : c.parse.result ≡ Ok n = parse-decimal 64 n c.in-Ok.text.now c.parse.result (omega (arith, c.ranges.most.fits)) (omega (arith, c.ranges.most.fits)) spelled c.parse.ensures.value.0 in
    let number : c.in-Ok-parse.number ≡ n = cc in
    elim c.then-number-least.either [
      | inl below ↦ absurd (omega (arith, below, low, number))
      | inr above ↦ absurd (omega (arith, above.1, high, number))
    ]))

pub returns-clause-value : goal.returns-clause-value
returns-clause-value c =
    let same : c.format.result.now ≡ c.in-Ok.text.now = (bytes_eq-Decides _ _).0 (not-false _ (sym c.if-ne.ensures)) in
    let digits : c.args.word.now ≡ decimal c.in-Ok-parse.number = sym c.in-Ok.ensures.cases.0 ∙ sym same ∙ c.format.ensures.text in
    sym (number_in-decimal c.args.least c.args.most c.in-Ok-parse.number c.args.word.now (omega (arith, c.ranges.most.fits, c.if-number-most.false)) digits c.if-number-least.false c.if-number-most.false)
