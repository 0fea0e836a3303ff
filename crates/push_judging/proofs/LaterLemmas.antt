-- What commands are told at the push.
use Rattle.std.proofs.Common.{◌≡◌, ℕ, zero, suc, ◌+◌, ◌<◌, List, [], ◌∷◌, ◌++◌, take, length, get_or, refl, sym, ◌∙◌, ap, arith, subst}
use Rattle.std.specs.Prelude.{Option, Some, None}
use Rattle.std.specs.List.{AllZip}
use Rattle.std.proofs.lemmas.List.{take_more}
use Rattle.git_object.specs.Content.{Content}
use Rattle.ref_store.specs.declared.command.Command.{Command}
use Rattle.rule_compile.specs.Patterns.{AreTrue, Patterns}
use Rattle.update_check.specs.Check.{CheckView}
use Rattle.update_check.specs.Table.{Counts, Passes}
use Rattle.hub_history.specs.declared.outcome.Outcome.{Outcome}
use Rattle.hub_history.specs.Opening.{Pinned}
use Rattle.hub_history.specs.Push.{ByRulesNow, Judges, JudgesAtPush}
use Rattle.hub_history.specs.State.{Conf, InForce}
use Rattle.push_judging.specs.Judged.{conf_kept, conf_of, confs_of}
use Rattle.push_judging.specs.Rows.{IsCheckOf, TellsNow}
use Rattle.push_judging.proofs.RowLemmas.{all_zip_pushed, by_check_now, conf_refused, last_row}

-- a conf of the list
pub conf_here : (pinned : Pinned) (pack : List Content) (cs : List Command) (js : List (Option Outcome)) (i : ℕ) (c : Command) (o : Option Outcome) (f : Option Conf) → length js ≡ length cs → i < length cs
    → get_or (confs_of pinned pack cs js) i f ≡ conf_of pinned pack (get_or cs i c) (get_or js i o)
conf_here pinned pack [] js i c o f alike below = absurd (omega (arith, below))
conf_here pinned pack (d ∷ cs) [] i c o f alike below = absurd (omega (arith, alike))
conf_here pinned pack (d ∷ cs) (j ∷ js) zero c o f alike below = refl
conf_here pinned pack (d ∷ cs) (j ∷ js) (suc i) c o f alike below = conf_here pinned pack cs js i c o f (omega (arith, alike)) (omega (arith, below))

pub length-confs : (pinned : Pinned) (pack : List Content) (cs : List Command) (js : List (Option Outcome)) → length js ≡ length cs → length (confs_of pinned pack cs js) ≡ length cs
length-confs pinned pack [] js alike = refl
length-confs pinned pack (c ∷ cs) [] alike = absurd (omega (arith, alike))
length-confs pinned pack (c ∷ cs) (j ∷ js) alike = omega (arith, length-confs pinned pack cs js (omega (arith, alike)))

module _ (ps : Patterns) (ok : AreTrue ps) (force : InForce) (pinned : Pinned) (pack : List Content) (check : CheckView) (is_check : IsCheckOf force pinned check) where
  -- one command
  told_now : (cs : List Command) (c : Command) (said found : Option Outcome) → Judges ps pinned pack cs c said → TellsNow ps check (pinned.repository.objects ++ pack) c said found → JudgesAtPush ps force pinned pack cs c found
  told_now cs c (Some o) found judges is = subst (JudgesAtPush ps force pinned pack cs c) (sym is) (Counts o judges)
  told_now cs c None found judges says =
      Passes found judges (last_row (ByRulesNow ps force pinned (pinned.repository.objects ++ pack) c) found (by_check_now ps ok force pinned check (pinned.repository.objects ++ pack) c found is_check says))

  -- a command that is told nothing at the push was told nothing by the opening
  untold_then : (c : Command) (said found : Option Outcome) → TellsNow ps check (pinned.repository.objects ++ pack) c said found → found ≡ None → said ≡ None
  untold_then c None found says none = refl
  untold_then c (Some o) found is none = let clash : Some o ≡ None = sym is ∙ none in cc

  pub conf_now : (c : Command) (said found : Option Outcome) (puts : Option Conf) → puts ≡ conf_of pinned pack c said → TellsNow ps check (pinned.repository.objects ++ pack) c said found → conf_kept puts found ≡ conf_of pinned pack c found
  conf_now c said (Some o) puts is says = sym (conf_refused pinned pack c o)
  conf_now c said None puts is says = is ∙ ap (conf_of pinned pack c) (untold_then c said None says refl)

  -- one command more
  pub told_more : (cs : List Command) (told : List (Option Outcome)) (i : ℕ) (c : Command) (said found : Option Outcome) → i < length cs → c ≡ get_or cs i c → Judges ps pinned pack cs c said
      → TellsNow ps check (pinned.repository.objects ++ pack) c said found → AllZip (JudgesAtPush ps force pinned pack cs) (take i cs) told → AllZip (JudgesAtPush ps force pinned pack cs) (take (i + 1) cs) (told ++ found ∷ [])
  told_more cs told i c said found below is judges says all =
      subst (λ (l : List Command). AllZip (JudgesAtPush ps force pinned pack cs) l (told ++ found ∷ [])) (sym (take_more cs i c below ∙ ap (λ (d : Command). take i cs ++ d ∷ []) (sym is)))
      (all_zip_pushed (JudgesAtPush ps force pinned pack cs) (take i cs) told c found all (told_now cs c said found judges says))
