-- The texts of denials.
use Rattle.std.specs.Prelude.{ℕ, List, ◌++◌, take, codes, Option}
use Rattle.ref_store.specs.Refs.{Name}
use Rattle.rule_compile.specs.declared.rule.Rule.{Rule}
use Rattle.access_check.specs.Denials.{cause_text, printed, request_text}
use Rattle.access_check.specs.Letters.{letter_text}
use Rattle.access_check.specs.declared.denials.Request.TheVariants.{Open}
use Rattle.access_check.specs.declared.letters.Letter.{Letter}
use Rattle.access_check.specs.declared.verdicts.Want.{Want}

-- a name as it is shown: its first 8,192 bytes
abbrev pub shown : List ℕ → List ℕ
shown name = take 8192 name

-- as much of a text as a packet has room for: its first 60,000 bytes
abbrev pub fitting : List ℕ → List ℕ
fitting text = take 60000 text

-- what was asked at an opening
abbrev pub open_text : Want → List ℕ
open_text want = request_text (Open want)

-- what was asked of a ref, or of a virtual ref: `LETTER NAME`
abbrev pub change_text : Letter → Name → List ℕ
change_text letter name = letter_text letter ++ (codes " " ++ printed name)

-- `LETTER NAME REPO USER DENIED by REFEX (FILE line N)`, or `fallthru` where no rule denies
unfoldable pub denial : List ℕ → Name → Name → Option Rule → List ℕ
denial asked repo user rule = fitting (asked ++ (codes " " ++ repo) ++ (codes " " ++ user) ++ codes " DENIED by " ++ cause_text rule)
