use Rattle.std.proofs.Common.{◌≡◌, ◌++◌, ◌∷◌, [], ◌+◌, Bool, false, List, take, length, length-append, length-take, get_or, arith, sym, ◌∙◌, ap, subst}
use Rattle.std.specs.Prelude.{Option}
use Rattle.std.specs.List.{AllZip}
use Rattle.std.proofs.lemmas.List.{take_more}
use Rattle.ref_store.specs.declared.command.Command.{Command}
use Rattle.ancestry.specs.declared.facts.Change.TheVariants.{Create}
use Rattle.ancestry.specs.declared.facts.Facts.{Facts}
use Rattle.vref.specs.Facts.{AreFacts}
use Rattle.hub_history.specs.declared.outcome.Outcome.{Outcome}
use Rattle.hub_history.specs.Push.{Judges, is_named_twice}
use Rattle.hub_history.specs.State.{Conf}
use Rattle.push_judging.specs.Judged.{confs_of}
use Rattle.push_judging.specs.Rows.{Tells}
use Rattle.push_judging.proofs.RowLemmas.{as_many, confs_more, judged_more, take_all, zip_at}
use Rattle.push_judging.proofs.judging.judge_each.Goals as goal

pub bounds-all_facts-k : goal.bounds-all_facts-k
bounds-all_facts-k c =
    omega (arith, c.loop-k-test.true, as_many (λ (change : Command) (facts : Facts). AreFacts c.args.lens.now change.name change.old change.new facts) c.args.commands.now c.args.all_facts.now c.requires.facts)

pub judge_command-requires-clause-facts : goal.judge_command-requires-clause-facts
judge_command-requires-clause-facts c =
    let none : Facts = record { change = Create; tag = false; commits = false; forward = false; merge = false } in
    subst (λ (change : Command). AreFacts c.args.lens.now change.name change.old change.new (get_or c.args.all_facts.now c.loop-k.k none)) (sym c.index-commands-k.is)
    (zip_at (λ (change : Command) (facts : Facts). AreFacts c.args.lens.now change.name change.old change.new facts) c.args.commands.now c.args.all_facts.now c.loop-k.k c.index-commands-k.result none c.requires.facts c.loop-k-test.true)

pub loop-k-preserved : goal.loop-k-preserved
loop-k-preserved c =
    let pinned = c.args.pin.now.pinned in
    let pack = c.args.pack.now in
    let commands = c.args.commands.now in
    let command = c.index-commands-k.result in
    let told : Option Outcome = c.in_ok-outcome.field-0.outcome in
    let twice : c.is_named_twice-twice.result ≡ is_named_twice commands command.name = c.is_named_twice-twice.ensures ∙ c.requires.names command.name in
    let outcomes : c.push.new.self.items ≡ c.loop-k.outcomes.items ++ told ∷ [] = c.in_ok-push.ensures.items in
    let confs : c.push-in-loop-k.new.self.items ≡ c.loop-k.confs.items ++ c.in_ok-outcome.field-0.conf ∷ [] = c.in_ok-push-2.ensures.items in
    record {
      told = λ ps ok.
          subst (λ (l : List (Option Outcome)). AllZip (Judges ps pinned pack commands) (take (c.loop-k.k + 1) commands) l) (sym outcomes)
          (judged_more ps pinned pack commands c.loop-k.outcomes.items c.loop-k.k command told c.loop-k-test.true c.index-commands-k.is (c.loop-k.invariant.told ps ok)
          (subst (λ (t : Bool). Tells ps pinned pack t command told) twice (c.in_ok-outcome.ensures.said ps ok)));
      long = ap length outcomes ∙ omega (arith, length-append c.loop-k.outcomes.items (told ∷ []), c.loop-k.invariant.long);
      confs =
          confs
          ∙ ap (λ (l : List (Option Conf)). l ++ c.in_ok-outcome.field-0.conf ∷ []) c.loop-k.invariant.confs
          ∙ ap (λ (f : Option Conf). confs_of pinned pack (take c.loop-k.k commands) c.loop-k.outcomes.items ++ f ∷ []) c.in_ok-outcome.ensures.conf
          ∙ sym (confs_more pinned pack (take c.loop-k.k commands) c.loop-k.outcomes.items command told (omega (arith, length-take c.loop-k.k commands, c.loop-k.invariant.long, c.loop-k-test.true)))
          ∙ ap (λ (l : List Command). confs_of pinned pack l (c.loop-k.outcomes.items ++ told ∷ [])) (ap (λ (d : Command). take c.loop-k.k commands ++ d ∷ []) c.index-commands-k.is ∙ sym (take_more commands c.loop-k.k command c.loop-k-test.true))
          ∙ ap (confs_of pinned pack (take (c.loop-k.k + 1) commands)) (sym outcomes);
      walks = c.in_ok-outcome.ensures.walks ∙ c.loop-k.invariant.walks;
      check = c.in_ok-outcome.ensures.check ∙ c.loop-k.invariant.check;
    }

pub returns-clause-outcomes : goal.returns-clause-outcomes
returns-clause-outcomes c = λ ps ok.
    subst (λ (l : List Command). AllZip (Judges ps c.args.pin.now.pinned c.args.pack.now c.args.commands.now) l c.loop-k.outcomes.items) (take_all c.loop-k.k c.args.commands.now c.loop-k-test.false) (c.loop-k.invariant.told ps ok)
