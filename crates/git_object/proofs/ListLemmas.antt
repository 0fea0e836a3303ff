-- Lists of objects.
use Rattle.std.proofs.Common.{◌≡◌, List}
use Rattle.std.specs.List.{AllZip}
use Rattle.std.proofs.lemmas.List.Elements.{same_from_all_zip}
use Rattle.git_object.specs.Content.{Content}

-- a clone of a list of objects is that list: what `clone` of an `ObjectList` ensures says so
pub same_from_clones : (list copy : List Content) → AllZip (λ object clone. clone ≡ object) list copy → copy ≡ list
same_from_clones list copy each = same_from_all_zip (λ object clone. clone ≡ object) list copy each (λ object clone same. same)
