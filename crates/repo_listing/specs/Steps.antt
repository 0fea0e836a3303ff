-- Lines that are appended one after another, as the code does it.
use Rattle.std.specs.Prelude.{◌≡◌, ℕ, List, [], ◌++◌, Bool, map}
use Rattle.std.specs.Option.{option_map_or}
use Rattle.base_types.specs.Names.{ByName}
use Rattle.conf_groups.specs.Groups.{with_items}
use Rattle.rule_compile.specs.Flat.{numbered}
use Rattle.rule_compile.specs.Tables.{Tells}
use Rattle.rule_compile.specs.declared.rule.Rule.{Rule}
use Rattle.repo_listing.specs.Listing.{patterns_by}
use Rattle.repo_listing.specs.declared.lines.LookLine.{LookLine}
use Rattle.repo_listing.specs.declared.lines.LookLine.TheVariants.{Pattern}

-- the pattern of the rule of a number, where that lets the user create repositories
abbrev pub patterns_at : List Rule → List ℕ → ℕ → List (List ℕ)
patterns_at rules user seq = option_map_or (patterns_by user) (numbered rules seq) []

-- A line for each of these patterns comes after the lines from before, and the map tells which patterns they
-- are.
pub record AreAppended (before : List LookLine) (texts : List (List ℕ)) (list : List LookLine) (seen : ByName Bool) : Type 0 where
  pub lines : list ≡ before ++ map Pattern texts
  pub told : Tells seen texts

-- What a step does, whatever was appended before: lines for those of these patterns that had none yet.
abbrev pub Appends : List (List ℕ) → List LookLine → ByName Bool → List LookLine → ByName Bool → Type 0
Appends more list seen longer known =
    (before : List LookLine) (texts : List (List ℕ)) → AreAppended before texts list seen → AreAppended before (with_items texts more) longer known
