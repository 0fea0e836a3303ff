-- Numbers as words.
use Rattle.std.specs.Prelude.{ℕ, ◌&&◌, List, Option, Some, None, decimal, nat_le, if◌then◌else◌}
use Rattle.std.specs.Str.{bytes_eq}
use Rattle.std.specs.Str.Parse.{digits_value}

-- the number whose decimal digits the text is, without a sign or a leading zero, where it is one from `least`
-- to `most`
abbrev pub number_in : ℕ → ℕ → List ℕ → Option ℕ
number_in least most text =
    let n = digits_value 10 text in
    if bytes_eq (decimal n) text && (nat_le least n && nat_le n most) then Some n else None
