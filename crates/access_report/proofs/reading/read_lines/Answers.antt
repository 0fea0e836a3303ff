use Rattle.std.proofs.Common.{◌≡◌, ◌∙◌, Some, None, [], rules, arith, sym}
use Rattle.git_object.specs.Reader.{up_to}
use Rattle.access_report.specs.Reading.{with_line}
use Rattle.access_report.proofs.ReadingLemmas.{read_bad, read_on, read_open, shorter}
use Rattle.access_report.proofs.reading.read_lines.Goals as goal

pub loop-line-preserved : goal.loop-line-preserved
loop-line-preserved c =
    let split : up_to 10 c.loop-line.rest.now ≡ Some (c.in-Some.line.now, c.in-Some.behind.now) = sym (rw c.in-Some.is at c.up_to.ensures) in
    let is : with_line c.loop-line.so_far c.in-Some.line.now ≡ Some c.read_line.new.self = search rules in
    record {
      same = c.loop-line.invariant.same ∙ read_on _ _ c.loop-line.number _ _ _ split is;
      few = omega (arith, c.loop-line.invariant.few, shorter _ _ _ split);
    }

pub loop-line-smaller : goal.loop-line-smaller
loop-line-smaller c =
    let split : up_to 10 c.loop-line.rest.now ≡ Some (c.in-Some.line.now, c.in-Some.behind.now) = sym (rw c.in-Some.is at c.up_to.ensures) in
    omega (arith, shorter _ _ _ split)

pub returns-then-not-branch : goal.returns-then-not-branch
returns-then-not-branch c =
    let split : up_to 10 c.loop-line.rest.now ≡ Some (c.in-Some.line.now, c.in-Some.behind.now) = sym (rw c.in-Some.is at c.up_to.ensures) in
    let is : with_line c.loop-line.so_far c.in-Some.line.now ≡ None = search rules in
    c.loop-line.invariant.same ∙ read_bad _ c.loop-line.number _ _ _ split is

pub returns : goal.returns
returns c =
    let none : up_to 10 c.loop-line.rest.now ≡ None = search rules in
    let some : ¬ (c.loop-line.rest.now ≡ []) = search rules in
    c.loop-line.invariant.same ∙ read_open _ c.loop-line.number _ none some
