use Rattle.std.proofs.Common.{◌≡◌, ◌∙◌, sym, ap, true, Ok, arith}
use Rattle.std.specs.Prelude.{decimal}
use Rattle.std.specs.Str.{bytes_eq}
use Rattle.std.proofs.lemmas.Slice.Eq.{bytes_eq-Decides}
use Rattle.std.proofs.lemmas.Fmt.{parse-decimal, IsAscii-decimal}
use Rattle.std.proofs.lemmas.Str.{IsUtf8-from_ascii}
use Rattle.script_frames.proofs.frames.number_in.Goals as goal

pub returns-in_default-clause-none : goal.returns-in_default-clause-none
returns-in_default-clause-none c = λ n small e. c.in_default.ensures.cases.0 (rw e (IsUtf8-from_ascii _ (IsAscii-decimal n (omega arith))))

pub returns-in_default-parse-clause-none : goal.returns-in_default-parse-clause-none
returns-in_default-parse-clause-none c = λ n small e.
    let spelled = c.in-Ok.ensures.cases.0 ∙ e in
    c.in_default-parse.not-Ok n (parse-decimal 32 n c.in-Ok.text.now c.parse.result small (omega arith) spelled c.parse.ensures.value.0)

pub returns-then-ne-clause-none : goal.returns-then-ne-clause-none
returns-then-ne-clause-none c = λ n small e.
    let spelled = c.in-Ok.ensures.cases.0 ∙ e in
    let same : c.parse.result ≡ Ok n = parse-decimal 32 n c.in-Ok.text.now c.parse.result small (omega arith) spelled c.parse.ensures.value.0 in
    let number : c.in-Ok-parse.number ≡ n = cc in
    let printed : c.format.result.now ≡ c.in-Ok.text.now = c.format.ensures.text ∙ ap decimal number ∙ sym spelled in
    let equal : bytes_eq c.format.result.now c.in-Ok.text.now ≡ true = (bytes_eq-Decides _ _).1 printed in
    let other = rw equal at c.if-ne.ensures in
    absurd (cc)
