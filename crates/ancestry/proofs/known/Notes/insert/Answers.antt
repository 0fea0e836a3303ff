use Rattle.std.proofs.Common.{Option, ℕ, subst}
use Rattle.std.specs.Prelude.{IfSome}
use Rattle.ancestry.specs.declared.verdict.Verdict.{Verdict}
use Rattle.ancestry.specs.Generations.{HasGeneration}
use Rattle.ancestry.specs.Known.{IsRight, IsWhole}
use Rattle.ancestry.proofs.KnownLemmas.{found_more}
use Rattle.ancestry.proofs.known.Notes.insert.Goals as goal

pub returns-in_ok-insert-in-Whole-Some : goal.returns-in_ok-insert-in-Whole-Some
returns-in_ok-insert-in-Whole-Some c = λ objects noted right generation. record {
  whole =
      found_more (IsWhole objects) c.args.self.now.whole c.insert.new.self c.args.id c.in-Whole-Some.generation c.in_ok-insert-in-Whole-Some.ensures.ok
      (subst (λ (v : Verdict). IsRight objects c.args.id v) c.in-Whole-Some.is-0 right, subst (λ (g : Option ℕ). IfSome g (HasGeneration objects c.args.id)) c.in-Whole-Some.is-1 generation) noted.whole;
  amiss = noted.amiss;
}

pub returns-in_ok-insert-in_default : goal.returns-in_ok-insert-in_default
returns-in_ok-insert-in_default c = λ objects noted right generation. record {
  whole = noted.whole;
  amiss = found_more (IsRight objects) c.args.self.now.amiss c.insert-in_default.new.self c.args.id c.args.verdict c.in_ok-insert-in_default.ensures.ok right noted.amiss;
}
