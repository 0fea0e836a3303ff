-- What is returned of a conf.
use Rattle.std.proofs.Common.{◌≡◌, ℕ, true, false, List, Option, None, refl, sym, ◌∙◌, ap, subst, inl, inr, Result, Ok, Err}
use Rattle.std.specs.Prelude.{is_some}
use Rattle.std.specs.FinMap as named
use Rattle.git_object.specs.Content.{Content}
use Rattle.git_object.specs.declared.object_id.ObjectId.{ObjectId}
use Rattle.conf_groups.specs.Files.{Files}
use Rattle.conf_groups.specs.Splicing.{is_too_large, main_name}
use Rattle.conf_groups.specs.declared.conf_file.ConfFile.{ConfFile}
use Rattle.conf_groups.specs.declared.fault.ConfFault.{ConfFault}
use Rattle.conf_groups.specs.declared.fault.ConfKind.{ConfKind}
use Rattle.conf_groups.specs.declared.fault.ConfKind.TheVariants as kind
use Rattle.policy_swap.specs.Conf.{AreFiles, HasNoPlace, HasTooManyRows, IsBeforeAll, IsTooLong, TellsFault, TellsOfConf}
use Rattle.policy_swap.specs.Found.{FindsFiles, IsFault, TellsFaultOfFiles, TellsOfFiles, listed}
use Rattle.policy_swap.proofs.FoundLemmas.{listed_files, same_files}

-- what holds of a fault of a kind, and of out of memory, holds of either
pub told : (k : ConfKind) (e : ConfFault) (P : ConfKind → Type 0) → IsFault k e → (IsBeforeAll e → P k) → (HasNoPlace e → P kind.NoMemory) → P e.kind
told k e P (inl is) here out = subst P (sym is.0) (here is.1)
told k e P (inr is) here out = subst P (sym is.0) (out is.1)

pub told_memory : (e : ConfFault) (P : ConfKind → Type 0) → e.kind ≡ kind.NoMemory → P kind.NoMemory → P e.kind
told_memory e P is here = subst P (sym is) here

module _ (objects : List Content) (tree : Option ObjectId) (files : Files) (find : FindsFiles objects tree files) where
  large : is_too_large files ≡ true → IsTooLong objects tree
  large is = inr (listed (named.entries files), listed_files objects tree files find, ap is_too_large (same_files objects tree (listed (named.entries files)) files (listed_files objects tree files find) find) ∙ is)

  not_large : is_too_large files ≡ false → ¬ IsTooLong objects tree
  not_large is (inl many) = find.0 many
  not_large is (inr other) =
      let clash : true ≡ false = sym other.2 ∙ ap is_too_large (same_files objects tree other.0 files other.1 find) ∙ is in absurd cc

  by_kind : (k : ConfKind) (e : ConfFault) → TellsFaultOfFiles files k e → TellsFault objects tree k e
  by_kind kind.TooLong e is = (large is.0, is.1)
  by_kind (kind.NoFile name) e is = (not_large is.0, sym (find.1 main_name) ∙ is.1, is.2, is.3)
  by_kind kind.NoMemory e is = is
  by_kind (kind.Lex fault) e is = is
  by_kind kind.SubconfInSubconf e is = is

  some_main : is_some (named.get files main_name) ≡ true → (o : Option (List ℕ)) → named.get files main_name ≡ o → o ≡ None → ⊥
  some_main some o is none = let clash : true ≡ false = sym some ∙ ap is_some (is ∙ none) in absurd cc

  -- what is returned of the files is what is returned of the conf
  pub tells_of_conf : (r : Result (List ConfFile) ConfFault) → TellsOfFiles files r → TellsOfConf objects tree r
  tells_of_conf (Ok list) is = (
    not_large is.0,
    λ none. some_main is.1 (named.get files main_name) refl (find.1 main_name ∙ none),
    subst (λ (l : List ConfFile). AreFiles objects tree l) (sym is.2) (listed_files objects tree files find),
  )
  tells_of_conf (Err e) is = by_kind e.kind e is

pub tells_too_many : (objects : List Content) (tree : Option ObjectId) (e : ConfFault) → HasTooManyRows objects tree → IsFault kind.TooLong e → TellsFault objects tree e.kind e
tells_too_many objects tree e many is = told kind.TooLong e (λ k. TellsFault objects tree k e) is (λ place. (inl many, place)) (λ place. place)
