-- Patterns that are appended one after another.
use Rattle.std.proofs.Common.{◌≡◌, ℕ, Bool, true, false, cond, List, [], ◌∷◌, ◌++◌, map, sym, ◌∙◌, ap, subst}
use Rattle.std.specs.FinMap as named
use Rattle.std.proofs.lemmas.List.{append-nil, append_assoc, map-append}
use Rattle.base_types.specs.Names.{ByName}
use Rattle.conf_groups.specs.Groups.{holds, with_item}
use Rattle.conf_groups.proofs.DistinctLemmas.{none_held}
use Rattle.rule_compile.proofs.PatternLemmas.{tells_with}
use Rattle.repo_listing.specs.Steps.{AreAppended}
use Rattle.repo_listing.specs.declared.lines.LookLine.{LookLine}
use Rattle.repo_listing.specs.declared.lines.LookLine.TheVariants.{Pattern}

-- nothing is appended yet
pub none_appended : (list : List LookLine) (seen : ByName Bool) → seen ≡ named.empty → AreAppended list [] list seen
none_appended list seen is = record { lines = sym (append-nil list); told = λ word. ap (λ (m : ByName Bool). named.contains_key m word) is ∙ none_held word }

-- a pattern more
pub one_appended : (before : List LookLine) (texts : List (List ℕ)) (text : List ℕ) (list more : List LookLine) (seen known : ByName Bool) → AreAppended before texts list seen
    → named.contains_key seen text ≡ false → known ≡ named.insert seen text true → more ≡ list ++ Pattern text ∷ [] → AreAppended before (with_item texts text) more known
one_appended before texts text list more seen known are new grown is =
    subst (λ (all : List (List ℕ)). AreAppended before all more known) (sym (ap (λ (b : Bool). cond b texts (texts ++ text ∷ [])) (sym (are.told text) ∙ new)))
    (record {
      lines = is ∙ ap (λ (l : List LookLine). l ++ Pattern text ∷ []) are.lines ∙ append_assoc before (map Pattern texts) (Pattern text ∷ []) ∙ ap (λ (l : List LookLine). before ++ l) (sym (map-append Pattern texts (text ∷ [])));
      told = subst (λ (m : ByName Bool). (word : List ℕ) → named.contains_key m word ≡ holds (texts ++ text ∷ []) word) (sym grown) (tells_with seen texts text are.told);
    })
