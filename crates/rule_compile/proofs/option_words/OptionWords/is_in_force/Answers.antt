use Rattle.std.proofs.Common.{◌∙◌, sym}
use Rattle.std.specs.Option.{option_copied}
use Rattle.rule_compile.specs.Index.{words_of_option}
use Rattle.rule_compile.proofs.IndexLemmas.{option_done, option_goes}
use Rattle.rule_compile.proofs.option_words.OptionWords.is_in_force.Goals as goal

pub loop-number-preserved : goal.loop-number-preserved
loop-number-preserved c = λ ds h.
    let was = c.loop-number.invariant ds h in
    let goes = c.in-Some.ensures.goes (words_of_option ds) c.args.repo.now was.0 was.1 in (
      c.in-Some.number,
      goes.1,
      λ ps ok. was.2 ps ok
          ∙ option_goes ps ds c.args.repo.now (option_copied c.args.creator) c.loop-number.in_force c.unwrap_or-in_force.result was.0 c.in-Some.number _ c.set_by.result goes.0 (c.set_by.ensures ps ok ds h) c.unwrap_or-in_force.ensures,
    )

pub returns : goal.returns
returns c = λ ps ok ds h.
    let was = c.loop-number.invariant ds h in
    let none = (rw c.in_default.is at (c.next.ensures.goes (words_of_option ds) c.args.repo.now was.0 was.1)) in
    sym (was.2 ps ok ∙ option_done ps ds c.args.repo.now (option_copied c.args.creator) c.loop-number.in_force was.0 none.0)
