-- What holds of the definitions themselves.
use Rattle.std.specs.Prelude.{◌≡◌, ℕ, ◌<◌, List, [], ◌∷◌, length, map, IsTrue, is_some}
use Rattle.std.specs.List.{flat_map, range_with_len}
use Rattle.rule_compile.specs.Flat.{Flat}
use Rattle.rule_compile.specs.Patterns.{Patterns}
use Rattle.access_report.specs.Answers.{place_at, question_at}
use Rattle.access_report.specs.Lists.{QuestionLists, count}
use Rattle.access_report.specs.declared.answers.About.{About}
use Rattle.access_report.specs.declared.answers.About.TheVariants.{Read, Write, Create, Forward, Rewind, Delete}
use Rattle.access_report.specs.declared.answers.Place.{Place}

-- the places of a list
abbrev pub places : {X : Type 0} → List X → List ℕ
places xs = range_with_len 0 (length xs)

-- the changes of a ref
abbrev pub changes_of : ℕ → List About
changes_of ref = Create ref ∷ Forward ref ∷ Rewind ref ∷ Delete ref ∷ []

-- what is asked of each repository and user: reading and writing, and then the changes of each ref
abbrev pub abouts : QuestionLists → List About
abouts q = Read ∷ Write ∷ flat_map changes_of (places q.refs)

abbrev pub of_user : QuestionLists → ℕ → ℕ → List Place
of_user q repo user = map (λ about. record { repo = repo; user = user; about = about }) (abouts q)

abbrev pub of_repo : QuestionLists → ℕ → List Place
of_repo q repo = flat_map (of_user q repo) (places q.users)

-- Every question is asked once: for each repository, for each user, all that is asked of them.
abbrev pub EachIsAskedOnce : Type 0
EachIsAskedOnce = (q : QuestionLists) → map (place_at q) (range_with_len 0 (count q)) ≡ flat_map (of_repo q) (places q.repos)

-- And each is answered: at every place below the number of questions there is one.
abbrev pub EachIsAnswered : Type 0
EachIsAnswered = (patterns : Patterns) (flat : Flat) (q : QuestionLists) (at : ℕ) → at < count q → IsTrue (is_some (question_at patterns flat q at))
