-- What a push puts in force, and what it is told.
use Rattle.std.proofs.Common.{◌≡◌, ℕ, ◌+◌, ◌<◌, drop, get_or, add-one, Bool, true, false, ◌&&◌, ◌||◌, List, [], ◌∷◌, ◌++◌, length, refl, sym, ◌∙◌, ap, subst, arith}
use Rattle.std.proofs.Math.Seq.{drop-cons}
use Rattle.std.specs.Prelude.{Option, None, Some, is_none, if◌then◌else◌}
use Rattle.std.specs.List.{AllZip, list_any}
use Rattle.git_object.specs.Content.{Content}
use Rattle.ref_store.specs.Refs.{Name, Refs}
use Rattle.ref_store.specs.declared.command.Command.{Command}
use Rattle.rule_compile.specs.Patterns.{Patterns}
use Rattle.hub_history.specs.declared.outcome.Outcome.{Outcome}
use Rattle.hub_history.specs.Opening.{Pinned}
use Rattle.hub_history.specs.Push.{JudgesAllAtPush, JudgesAtPush, by_refs, conf_put, in_order, is_done, is_of_conf, outcomes_in, refs_after}
use Rattle.hub_history.specs.State.{Conf, InForce, Repository}
use Rattle.hub_history.proofs.JudgeLemmas.{all_along, before_refs, fits_untold, refused, untold}
use Rattle.hub_history.proofs.MovedLogs.{none_put}
use Rattle.hub_history.proofs.PushLemmas.{done_in_order}
use Rattle.push_judging.specs.Judged.{conf_at, conf_of, confs_of}
use Rattle.push_settling.specs.Running.{FitCommands, FitsCommand}
use Rattle.hub.specs.Puts.{conf_by, conf_chosen}

-- ---- judgements fit

module _ (ps : Patterns) (force : InForce) (pinned : Pinned) (pack : List Content) (commands : List Command) where
  judged_fits : (c : Command) (o : Option Outcome) → JudgesAtPush ps force pinned pack commands c o → FitsCommand c o
  judged_fits c None judges = (fits_untold ps force pinned pack commands c (untold ps force pinned pack commands c judges).command).good
  judged_fits c (Some o) judges = refused (Some o) (before_refs ps force pinned pack commands c (Some o) judges)

  fits_each : (cs : List Command) (js : List (Option Outcome)) → AllZip FitsCommand cs js → FitCommands cs js
  fits_each [] [] all = tt
  fits_each [] (j ∷ js) all = absurd all
  fits_each (c ∷ cs) [] all = absurd all
  fits_each (c ∷ cs) (j ∷ js) all = (all.0, fits_each cs js all.1)

  pub judgement_fits : (js : List (Option Outcome)) → JudgesAllAtPush ps force pinned pack commands js → FitCommands commands js
  judgement_fits js all = fits_each commands js (all_along judged_fits commands js all)

-- ---- the conf that is put in force

-- a command that is done was told nothing before the refs were asked
told_none : (refs : Refs) (c : Command) (j : Option Outcome) → FitsCommand c j → is_done (by_refs refs c j) ≡ true → is_none j ≡ true
told_none refs c None fits done = refl
told_none refs c (Some o) fits done = let clash : true ≡ false = sym done ∙ fits in cc

-- where none is done none is chosen
none_chosen : (repo : Name) (cs : List Command) (os : List Outcome) (fs : List (Option Conf)) → list_any is_done os ≡ false → conf_chosen repo cs os fs ≡ None
none_chosen repo [] os fs none = refl
none_chosen repo (c ∷ cs) [] fs none = refl
none_chosen repo (c ∷ cs) (o ∷ os) [] none = refl
none_chosen repo (c ∷ cs) (o ∷ os) (f ∷ fs) none = by_done (is_done o) none (none_chosen repo cs os fs)
  where
    left : (b : Bool) (rest : Option Conf) → (if b && false then f else rest) ≡ rest
    left true rest = refl
    left false rest = refl

    by_done : (d : Bool) → (d || list_any is_done os) ≡ false → (list_any is_done os ≡ false → conf_chosen repo cs os fs ≡ None) → (if is_of_conf repo c.name && d then f else conf_chosen repo cs os fs) ≡ None
    by_done true none rest = absurd cc
    by_done false none rest = left (is_of_conf repo c.name) (conf_chosen repo cs os fs) ∙ rest none

module _ (pinned : Pinned) (pack : List Content) where
  abbrev Chosen : List Command → List Outcome → List (Option Outcome) → Type 0
  Chosen cs os js = conf_chosen pinned.repo cs os (confs_of pinned pack cs js) ≡ conf_by pinned.conf.admin (conf_put pinned pack cs os)

  chosen_in_order : (refs : Refs) (cs : List Command) (js : List (Option Outcome)) → FitCommands cs js → Chosen cs (in_order refs cs js) js
  chosen_in_order refs [] js fits = refl
  chosen_in_order refs (c ∷ cs) [] fits = refl
  chosen_in_order refs (c ∷ cs) (j ∷ js) fits =
      by_tests (is_of_conf pinned.repo c.name) refl (is_done (by_refs refs c j)) refl (chosen_in_order (refs_after refs c (by_refs refs c j)) cs js fits.1)
    where
      by_tests : (b : Bool) → is_of_conf pinned.repo c.name ≡ b → (d : Bool) → is_done (by_refs refs c j) ≡ d → Chosen cs (in_order (refs_after refs c (by_refs refs c j)) cs js) js
          → (if b && d then conf_of pinned pack c j else conf_chosen pinned.repo cs (in_order (refs_after refs c (by_refs refs c j)) cs js) (confs_of pinned pack cs js))
          ≡ conf_by pinned.conf.admin (if b && d then Some (record { objects = pinned.repository.objects ++ pack; commit = c.new }) else conf_put pinned pack cs (in_order (refs_after refs c (by_refs refs c j)) cs js))
      by_tests false other d done later = later
      by_tests true here false left later = later
      by_tests true here true done later =
          ap (λ (b : Bool). if b && is_none j then Some (conf_at pinned pack c) else None) here ∙ ap (λ (b : Bool). if b then Some (conf_at pinned pack c) else None) (told_none refs c j fits.0 done)

  pub chosen_put : (now : Repository) (cs : List Command) (atomic : Bool) (js : List (Option Outcome)) → FitCommands cs js → Chosen cs (outcomes_in now pack cs atomic js) js
  chosen_put now cs atomic js fits = by_done (list_any is_done (outcomes_in now pack cs atomic js)) refl
    where
      by_done : (b : Bool) → list_any is_done (outcomes_in now pack cs atomic js) ≡ b → Chosen cs (outcomes_in now pack cs atomic js) js
      by_done true done = subst (λ (os : List Outcome). Chosen cs os js) (sym (done_in_order now pack cs atomic js done).1) (chosen_in_order now.refs cs js fits)
      by_done false none =
          none_chosen pinned.repo cs (outcomes_in now pack cs atomic js) (confs_of pinned pack cs js) none ∙ ap (conf_by pinned.conf.admin) (sym (none_put pinned pack cs (outcomes_in now pack cs atomic js) none))

-- ---- the choice, command by command

-- what is left begins with the item at the index
drop_here : {X : Type 0} (xs : List X) (i : ℕ) (d : X) → i < length xs → drop i xs ≡ get_or xs i d ∷ drop (i + 1) xs
drop_here xs i d h = drop-cons xs i d h ∙ ap (λ n. get_or xs i d ∷ drop n xs) (sym (add-one i))

pub chosen_here : (repo : Name) (cs : List Command) (os : List Outcome) (fs : List (Option Conf)) (k : ℕ) (c : Command) (o : Outcome) (f : Option Conf) → k < length cs → length os ≡ length cs → length fs ≡ length cs
    → conf_chosen repo (drop k cs) (drop k os) (drop k fs) ≡ (if is_of_conf repo (get_or cs k c).name && is_done (get_or os k o) then get_or fs k f else conf_chosen repo (drop (k + 1) cs) (drop (k + 1) os) (drop (k + 1) fs))
chosen_here repo cs os fs k c o f within many alike =
    λ i. conf_chosen repo (drop_here cs k c within i) (drop_here os k o (omega (arith, within, many)) i) (drop_here fs k f (omega (arith, within, alike)) i)

-- a command that puts no conf in force is passed over
pub chosen_later : (repo : Name) (cs : List Command) (os : List Outcome) (fs : List (Option Conf)) (k : ℕ) (c : Command) (o : Outcome) → k < length cs → length os ≡ length cs → length fs ≡ length cs
    → c ≡ get_or cs k c → o ≡ get_or os k o → (is_of_conf repo c.name && is_done o) ≡ false
    → conf_chosen repo (drop (k + 1) cs) (drop (k + 1) os) (drop (k + 1) fs) ≡ conf_chosen repo (drop k cs) (drop k os) (drop k fs)
chosen_later repo cs os fs k c o within many alike c_is o_is none =
    sym (chosen_here repo cs os fs k c o None within many alike
    ∙ ap (λ (b : Bool). if b then get_or fs k None else conf_chosen repo (drop (k + 1) cs) (drop (k + 1) os) (drop (k + 1) fs)) ((λ i. is_of_conf repo (sym c_is i).name && is_done (sym o_is i)) ∙ none))
