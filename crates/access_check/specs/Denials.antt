-- The text of a denial.
use Rattle.std.specs.Prelude.{ℕ, List, ◌++◌, ◌||◌, ◌==◌, nat_lt, map, codes, Option, Some, None, if◌then◌else◌}
use Rattle.std.specs.Fmt.{decimal}
use Rattle.rule_compile.specs.declared.rule.Rule.{Rule}
use Rattle.access_check.specs.Letters.{letter_text}
use Rattle.access_check.specs.declared.denials.Request.{Request}
use Rattle.access_check.specs.declared.denials.Request.TheVariants.{Open, Change}
use Rattle.access_check.specs.declared.verdicts.Want.TheVariants.{Read, Write}

-- A byte below 32, and 127, is printed as `?`.
abbrev pub printed_byte : ℕ → ℕ
printed_byte byte = if nat_lt byte 32 || byte == 127 then 63 else byte

abbrev pub printed : List ℕ → List ℕ
printed name = map printed_byte name

-- `LETTER NAME`: at an opening `any` stands for the name
abbrev pub request_text : Request → List ℕ
request_text (Open Read) = codes "R any"
request_text (Open Write) = codes "W any"
request_text (Change letter name) = letter_text letter ++ (codes " " ++ printed name.now)

-- `REFEX (FILE line N)` of the rule that denies, or `fallthru`
abbrev pub cause_text : Option Rule → List ℕ
cause_text None = codes "fallthru"
cause_text (Some rule) = rule.refex ++ (codes " (" ++ (rule.file ++ (codes " line " ++ (decimal rule.line ++ codes ")"))))

-- `LETTER NAME REPO USER DENIED by CAUSE`
abbrev pub denial_text : Request → List ℕ → List ℕ → Option Rule → List ℕ
denial_text request repo user rule = request_text request ++ (codes " " ++ repo) ++ (codes " " ++ user) ++ codes " DENIED by " ++ cause_text rule
