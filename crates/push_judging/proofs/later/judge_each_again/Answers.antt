use Rattle.std.proofs.Common.{◌≡◌, ◌++◌, ◌∷◌, [], ◌+◌, List, take, length, length-append, length-take, get_or, false, arith, sym, ◌∙◌, ap, subst}
use Rattle.std.specs.Prelude.{Option}
use Rattle.std.specs.List.{AllZip}
use Rattle.std.proofs.lemmas.List.{take_more}
use Rattle.git_object.specs.Content.{Content}
use Rattle.ref_store.specs.declared.command.Command.{Command}
use Rattle.ancestry.specs.declared.facts.Change.TheVariants.{Create}
use Rattle.ancestry.specs.declared.facts.Facts.{Facts}
use Rattle.rule_compile.specs.Patterns.{AreTrue, Patterns}
use Rattle.vref.specs.Facts.{AreFacts}
use Rattle.update_check.specs.Check.{CheckView}
use Rattle.hub_history.specs.declared.outcome.Outcome.{Outcome}
use Rattle.hub_history.specs.Push.{Judges, JudgesAtPush}
use Rattle.hub_history.specs.State.{Conf, InForce}
use Rattle.push_judging.specs.Judged.{AreFactsOf, conf_of, confs_of}
use Rattle.push_judging.specs.Rows.{TellsNow}
use Rattle.push_judging.proofs.LaterLemmas.{conf_here, conf_now, length-confs, told_more}
use Rattle.push_judging.proofs.RowLemmas.{as_many, confs_more, zip_at}
use Rattle.push_judging.proofs.later.judge_each_again.Goals as goal

pub bounds-all_facts-k : goal.bounds-all_facts-k
bounds-all_facts-k c =
    let objects = c.args.pin.now.pinned.repository.objects ++ c.args.pack.now in
    let many : length c.args.judged.now.facts ≡ length c.args.commands.now =
    as_many (λ (change : Command) (facts : Facts). AreFacts objects change.name change.old change.new facts) c.args.commands.now c.args.judged.now.facts c.requires.judged.facts in
    omega (arith, c.loop-k-test.true, many, ap length c.facts-all_facts.ensures)

pub bounds-said-k : goal.bounds-said-k
bounds-said-k c =
    let ps = c.some_patterns_are_true.ensures.0 in
    let many : length c.args.judged.now.outcomes ≡ length c.args.commands.now =
    as_many (Judges ps c.args.pin.now.pinned c.args.pack.now c.args.commands.now) c.args.commands.now c.args.judged.now.outcomes (c.requires.judged.outcomes ps c.some_patterns_are_true.ensures.1) in
    omega (arith, c.loop-k-test.true, many, ap length c.outcomes-said.ensures)

pub bounds-puts-k : goal.bounds-puts-k
bounds-puts-k c =
    let ps = c.some_patterns_are_true.ensures.0 in
    let many : length c.args.judged.now.outcomes ≡ length c.args.commands.now =
    as_many (Judges ps c.args.pin.now.pinned c.args.pack.now c.args.commands.now) c.args.commands.now c.args.judged.now.outcomes (c.requires.judged.outcomes ps c.some_patterns_are_true.ensures.1) in
    omega (arith, c.loop-k-test.true, ap length c.confs-puts.ensures, ap length c.requires.judged.confs, length-confs c.args.pin.now.pinned c.args.pack.now c.args.commands.now c.args.judged.now.outcomes many)

pub judge_command_again-requires : goal.judge_command_again-requires
judge_command_again-requires c =
    let none : Facts = record { change = Create; tag = false; commits = false; forward = false; merge = false } in
    let objects : c.loop-k.check.objects ≡ c.args.pin.now.pinned.repository.objects ++ c.args.pack.now = ap (λ (v : CheckView). v.objects) c.loop-k.invariant.check ∙ c.requires.among ∙ c.requires.judged.objects in
    let all : AreFactsOf (c.args.pin.now.pinned.repository.objects ++ c.args.pack.now) c.args.commands.now c.facts-all_facts.result.now =
    subst (λ (fs : List Facts). AreFactsOf (c.args.pin.now.pinned.repository.objects ++ c.args.pack.now) c.args.commands.now fs) (sym c.facts-all_facts.ensures) c.requires.judged.facts in
    subst (λ (os : List Content). AreFacts os c.index-commands-k.result.name c.index-commands-k.result.old c.index-commands-k.result.new (get_or c.facts-all_facts.result.now c.loop-k.k none)) (sym objects)
    (subst (λ (change : Command). AreFacts (c.args.pin.now.pinned.repository.objects ++ c.args.pack.now) change.name change.old change.new (get_or c.facts-all_facts.result.now c.loop-k.k none)) (sym c.index-commands-k.is)
    (zip_at (λ (change : Command) (facts : Facts). AreFacts (c.args.pin.now.pinned.repository.objects ++ c.args.pack.now) change.name change.old change.new facts) c.args.commands.now c.facts-all_facts.result.now c.loop-k.k c.index-commands-k.result none all c.loop-k-test.true))

pub loop-k-preserved : goal.loop-k-preserved
loop-k-preserved c =
    let pinned = c.args.pin.now.pinned in
    let pack = c.args.pack.now in
    let commands = c.args.commands.now in
    let command = c.index-commands-k.result in
    let force : InForce = record { conf = c.args.conf.now; wild = c.args.wild.now } in
    let said : Option Outcome = c.index-said-k.result in
    let puts : Option Conf = c.index-puts-k.result in
    let told : Option Outcome = c.in_ok-outcome.field-0.outcome in
    let any = c.some_patterns_are_true.ensures.0 in
    let outcomes : c.push.new.self.items ≡ c.loop-k.outcomes.items ++ told ∷ [] = c.in_ok-push.ensures.items in
    let confs : c.push-in-loop-k.new.self.items ≡ c.loop-k.confs.items ++ c.in_ok-outcome.field-0.conf ∷ [] = c.in_ok-push-2.ensures.items in
    let objects : c.args.check.now.objects ≡ pinned.repository.objects ++ pack = c.requires.among ∙ c.requires.judged.objects in
    let says : (ps : Patterns) → AreTrue ps → TellsNow ps c.args.check.now (pinned.repository.objects ++ pack) command said told = λ ps ok.
    subst (λ (os : List Content). TellsNow ps c.args.check.now os command said told) objects
    (subst (λ (v : CheckView). TellsNow ps v v.objects command said told) c.loop-k.invariant.check (c.in_ok-outcome.ensures.said ps ok)) in
    let said_is : said ≡ get_or c.args.judged.now.outcomes c.loop-k.k said = c.index-said-k.is ∙ ap (λ (l : List (Option Outcome)). get_or l c.loop-k.k said) c.outcomes-said.ensures in
    let judges : (ps : Patterns) → AreTrue ps → Judges ps pinned pack commands command said = λ ps ok.
    subst (λ (d : Command). Judges ps pinned pack commands d said) (sym c.index-commands-k.is)
    (subst (λ (o : Option Outcome). Judges ps pinned pack commands (get_or commands c.loop-k.k command) o) (sym said_is)
    (zip_at (Judges ps pinned pack commands) commands c.args.judged.now.outcomes c.loop-k.k command said (c.requires.judged.outcomes ps ok) c.loop-k-test.true)) in
    let many : length c.args.judged.now.outcomes ≡ length commands =
    as_many (Judges any pinned pack commands) commands c.args.judged.now.outcomes (c.requires.judged.outcomes any c.some_patterns_are_true.ensures.1) in
    let puts_is : puts ≡ conf_of pinned pack command said =
    c.index-puts-k.is
    ∙ ap (λ (l : List (Option Conf)). get_or l c.loop-k.k puts) (c.confs-puts.ensures ∙ c.requires.judged.confs)
    ∙ conf_here pinned pack commands c.args.judged.now.outcomes c.loop-k.k command said puts many c.loop-k-test.true
    ∙ (λ i. conf_of pinned pack (sym c.index-commands-k.is i) (sym said_is i)) in
    record {
      told = λ ps ok.
          subst (λ (l : List (Option Outcome)). AllZip (JudgesAtPush ps force pinned pack commands) (take (c.loop-k.k + 1) commands) l) (sym outcomes)
          (told_more ps ok force pinned pack c.args.check.now c.requires.check commands c.loop-k.outcomes.items c.loop-k.k command said told c.loop-k-test.true c.index-commands-k.is (judges ps ok) (says ps ok) (c.loop-k.invariant.told ps ok));
      check = c.in_ok-outcome.ensures.check ∙ c.loop-k.invariant.check;
      long = ap length outcomes ∙ omega (arith, length-append c.loop-k.outcomes.items (told ∷ []), c.loop-k.invariant.long);
      confs =
          confs
          ∙ ap (λ (l : List (Option Conf)). l ++ c.in_ok-outcome.field-0.conf ∷ []) c.loop-k.invariant.confs
          ∙ ap (λ (f : Option Conf). confs_of pinned pack (take c.loop-k.k commands) c.loop-k.outcomes.items ++ f ∷ [])
          (c.in_ok-outcome.ensures.conf ∙ conf_now any c.some_patterns_are_true.ensures.1 force pinned pack c.args.check.now c.requires.check command said told puts puts_is (says any c.some_patterns_are_true.ensures.1))
          ∙ sym (confs_more pinned pack (take c.loop-k.k commands) c.loop-k.outcomes.items command told (omega (arith, length-take c.loop-k.k commands, c.loop-k.invariant.long, c.loop-k-test.true)))
          ∙ ap (λ (l : List Command). confs_of pinned pack l (c.loop-k.outcomes.items ++ told ∷ [])) (ap (λ (d : Command). take c.loop-k.k commands ++ d ∷ []) c.index-commands-k.is ∙ sym (take_more commands c.loop-k.k command c.loop-k-test.true))
          ∙ ap (confs_of pinned pack (take (c.loop-k.k + 1) commands)) (sym outcomes);
    }
