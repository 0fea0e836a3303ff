use Rattle.std.proofs.Common.{◌≡◌, Some, Ok, Err, Option, Result, sym, ◌∙◌, ap}
use Rattle.raw_pack.specs.Readers.{ReaderState}
use Rattle.raw_pack.specs.declared.fault.PackFault.{PackFault}
use Rattle.raw_pack.proofs.ReaderLemmas.{ended_goes, ended_repeats, open_repeats}
use Rattle.raw_pack.proofs.reader.PackReader.advance.Goals as goal

-- how a reader ended, by the reader that it is
end_of : (before inside : ReaderState) (end : Option (Result (Unit {0}) PackFault)) → inside ≡ before → inside.end ≡ end → before.end ≡ end
end_of before inside end is found = ap (λ (r : ReaderState). r.end) (sym is) ∙ found

pub returns-in-Ok-clause-goes_on : goal.returns-in-Ok-clause-goes_on
returns-in-Ok-clause-goes_on g c = ended_goes _ _ _ _ _ (Ok tt) (end_of _ _ _ c.self.view_is (c.in-Some.is ∙ ap (λ end. Some end) c.in-Ok.is))

pub returns-in-Ok-clause-repeats : goal.returns-in-Ok-clause-repeats
returns-in-Ok-clause-repeats g c = ended_repeats _ _ (Ok tt) (end_of _ _ _ c.self.view_is (c.in-Some.is ∙ ap (λ end. Some end) c.in-Ok.is))

pub returns-in-Err-clause-goes_on : goal.returns-in-Err-clause-goes_on
returns-in-Err-clause-goes_on g c = ended_goes _ _ _ _ _ (Err c.in-Err.fault) (end_of _ _ _ c.self.view_is (c.in-Some.is ∙ ap (λ end. Some end) c.in-Err.is))

pub returns-in-Err-clause-repeats : goal.returns-in-Err-clause-repeats
returns-in-Err-clause-repeats g c = ended_repeats _ _ (Err c.in-Err.fault) (end_of _ _ _ c.self.view_is (c.in-Some.is ∙ ap (λ end. Some end) c.in-Err.is))

pub returns-then-self-clause-repeats : goal.returns-then-self-clause-repeats
returns-then-self-clause-repeats g c = open_repeats _ _ _ _ _ (end_of _ _ _ c.self.view_is c.in_default.is)

pub returns-clause-repeats : goal.returns-clause-repeats
returns-clause-repeats g c = open_repeats _ _ _ _ _ (end_of _ _ _ c.self.view_is c.in_default.is)
