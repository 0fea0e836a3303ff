-- How counts are spelled behind a `{`, and that `count` reads exactly these.
use Rattle.std.specs.Prelude.{◌≡◌, ◌↔◌, ℕ, ◌≤◌, List, ◌++◌, length, Option, None, Some, codes, decimal}
use Rattle.refex.specs.Text.{count}
use Rattle.refex.specs.declared.limits.TheConstants.{MAX_REPEAT}

-- the count with these bounds is written like this, with its `}`
pub data IsCount : ℕ → Option ℕ → List ℕ → Type 0 where
  exactly : {n : ℕ} → n ≤ MAX_REPEAT → IsCount n (Some n) (decimal n ++ codes "}")
  at_least : {n : ℕ} → n ≤ MAX_REPEAT → IsCount n None (decimal n ++ codes ",}")
  between : {n m : ℕ} → n ≤ m → m ≤ MAX_REPEAT → IsCount n (Some m) (decimal n ++ codes "," ++ decimal m ++ codes "}")

-- a count is found exactly where the bytes begin with one, and it takes just the bytes of that
abbrev pub CountsAreRead : Type 0
CountsAreRead = (bytes : List ℕ) (least : ℕ) (most : Option ℕ) (used : ℕ)
    → (count bytes ≡ Some (least, most, used)) ↔ ((word rest : List ℕ) × (bytes ≡ word ++ rest) × (used ≡ length word) × IsCount least most word)
