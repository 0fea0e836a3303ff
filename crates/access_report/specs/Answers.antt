-- Which questions are asked, in which order, and what each is answered.
use Rattle.std.specs.Prelude.{◌≡◌, ℕ, zero, suc, ◌*◌, ◌/◌, ◌%◌, Bool, true, false, nat_eq, nat_lt, List, [], ◌∷◌, ◌++◌, length, slice_get, codes, Option, Some, None, IfSome, if◌then◌else◌}
use Rattle.std.specs.List.{starts_with}
use Rattle.std.specs.Option.{option_map}
use Rattle.ancestry.specs.declared.facts.Change.{Change}
use Rattle.ancestry.specs.declared.facts.Change.TheVariants as change
use Rattle.ancestry.specs.declared.facts.Facts.{Facts}
use Rattle.rule_compile.specs.Flat.{Flat}
use Rattle.rule_compile.specs.Patterns.{Patterns}
use Rattle.access_check.specs.Letters.{flags_of, letter_of}
use Rattle.access_check.specs.Users.{Asked, asked}
use Rattle.access_check.specs.Verdicts.{decide, first_stage}
use Rattle.access_check.specs.declared.letters.Base.TheVariants as base
use Rattle.access_check.specs.declared.letters.Flags.{Flags}
use Rattle.access_check.specs.declared.letters.Letter.{Letter}
use Rattle.access_check.specs.declared.verdicts.Want.{Want}
use Rattle.access_check.specs.declared.verdicts.Want.TheVariants as want
use Rattle.access_report.specs.Lists.{QuestionLists, count, per_user}
use Rattle.access_report.specs.declared.answers.About.{About}
use Rattle.access_report.specs.declared.answers.About.TheVariants.{Read, Write, Create, Forward, Rewind, Delete}
use Rattle.access_report.specs.declared.answers.Place.{Place}
use Rattle.access_report.specs.declared.answers.Answer.{Answer}
use Rattle.access_report.specs.declared.answers.KnownFlags.{KnownFlags}
use Rattle.access_report.specs.declared.answers.KnownVerdict.{KnownVerdict}
use Rattle.access_report.specs.declared.answers.Memo.{Memo}
use Rattle.access_report.specs.declared.answers.Question.{Question}
use Rattle.access_report.specs.declared.answers.Subject.{Subject}
use Rattle.access_report.specs.declared.lists.AskedRepo.{AskedRepo}

-- ---- which questions

-- the changes of a ref: that it is created, moved forward, rewound, deleted
abbrev pub change_at : ℕ → ℕ → About
change_at ref zero = Create ref
change_at ref (suc zero) = Forward ref
change_at ref (suc (suc zero)) = Rewind ref
change_at ref (suc (suc (suc n))) = Delete ref

-- of a repository and a user: reading, writing, and then the four changes of each ref
abbrev pub about_at : ℕ → About
about_at zero = Read
about_at (suc zero) = Write
about_at (suc (suc n)) = change_at (n / 4) (n % 4)

-- What stands at a place of all questions, which count from 0: they are repository by repository, in each
-- user by user.
unfoldable pub place_at : QuestionLists → ℕ → Place
place_at q at = record {
  repo = at / (length q.users * per_user q);
  user = (at / per_user q) % length q.users;
  about = about_at (at % per_user q);
}

-- a repository and a user are those at the places
pub record IsOf (q : QuestionLists) (subject : Subject) : Type 0 where
  pub repo : slice_get q.repos subject.place.repo ≡ Some subject.repo.now
  pub user : slice_get q.users subject.place.user ≡ Some subject.user.now

-- a verdict is known of a place, a letter and a ref
pub record IsKnown (known : KnownVerdict) (place : Place) (letter : Letter) (name : ℕ) : Type 0 where
  pub repo : known.repo ≡ place.repo
  pub user : known.user ≡ place.user
  pub name_is : known.name ≡ name
  pub letter_is : known.letter ≡ letter

-- ---- what they are answered

-- the ref is a tag
abbrev pub is_tag : List ℕ → Bool
is_tag name = starts_with nat_eq name (codes "refs/tags/")

-- a change between commits that brings no merge
abbrev pub facts_of : Change → Bool → List ℕ → Facts
facts_of change forward name = record { change = change; tag = is_tag name; commits = true; forward = forward; merge = false }

abbrev pub listed : Option Question → List Question
listed None = []
listed (Some question) = question ∷ []

module _ (patterns : Patterns) (flat : Flat) where
  abbrev pub asker : AskedRepo → List ℕ → Asked
  asker repo user = asked patterns flat repo.wild repo.name user

  -- the letters that are in force in a repository
  abbrev pub flags_in : AskedRepo → Flags
  flags_in repo = flags_of patterns flat.rules repo.name repo.wild.creator

  -- an opening, which has the letter `W`, whatever it is for
  abbrev pub opening : AskedRepo → List ℕ → Want → Answer
  opening repo user wanted = record { letter = record { base = base.Write; merge = false }; verdict = first_stage patterns flat (asker repo user) wanted }

  -- a change of these facts, which needs this letter
  abbrev pub by_letter : AskedRepo → List ℕ → List ℕ → Letter → Answer
  by_letter repo user name letter = record { letter = letter; verdict = decide patterns flat.rules (asker repo user) letter name }

  -- a change of a ref, with the letter that it needs in the repository
  abbrev pub changing : AskedRepo → List ℕ → Change → Bool → List ℕ → Answer
  changing repo user change forward name = by_letter repo user name (letter_of (flags_in repo) (facts_of change forward name))

  module _ (q : QuestionLists) where
    -- a change of the ref at a place
    abbrev pub on_ref : AskedRepo → List ℕ → Change → Bool → ℕ → Option Answer
    on_ref repo user change forward ref = option_map (changing repo user change forward) (slice_get q.refs ref)

    abbrev pub answered : AskedRepo → List ℕ → About → Option Answer
    answered repo user Read = Some (opening repo user want.Read)
    answered repo user Write = Some (opening repo user want.Write)
    answered repo user (Create ref) = on_ref repo user change.Create false ref
    answered repo user (Forward ref) = on_ref repo user change.Update true ref
    answered repo user (Rewind ref) = on_ref repo user change.Update false ref
    answered repo user (Delete ref) = on_ref repo user change.Delete false ref

    abbrev pub with_answer : Place → Answer → Question
    with_answer place answer = record { repo = place.repo; user = place.user; about = place.about; letter = answer.letter; verdict = answer.verdict }

    abbrev pub asked_of : Place → Option AskedRepo → Option (List ℕ) → Option Question
    asked_of place (Some repo) (Some user) = option_map (with_answer place) (answered repo user place.about)
    asked_of place (Some repo) None = None
    asked_of place None user = None

    abbrev pub question_of : Place → Option Question
    question_of place = asked_of place (slice_get q.repos place.repo) (slice_get q.users place.user)

    -- The question at a place, and its answer. There is one at each place below their number.
    unfoldable pub question_at : ℕ → Option Question
    question_at at = if nat_lt at (count q) then question_of (place_at q at) else None

    -- the first so many questions, in order
    abbrev pub questions_below : ℕ → List Question
    questions_below zero = []
    questions_below (suc at) = questions_below at ++ listed (question_at at)

    -- All questions.
    abbrev pub all_questions : List Question
    all_questions = questions_below (count q)

    -- ---- what is remembered from one question to the next

    -- the letters in force in the repository at a place
    abbrev pub KnowsFlags : KnownFlags → Type 0
    KnowsFlags known = (repo : AskedRepo) → slice_get q.repos known.repo ≡ Some repo → known.flags ≡ flags_in repo

    -- what decides over a change of the ref at a place that needs a letter
    abbrev pub KnowsVerdict : KnownVerdict → Type 0
    KnowsVerdict known =
        (repo : AskedRepo) (user name : List ℕ) → slice_get q.repos known.repo ≡ Some repo → slice_get q.users known.user ≡ Some user → slice_get q.refs known.name ≡ Some name
        → known.verdict ≡ decide patterns flat.rules (asker repo user) known.letter name

    pub record Remembers (memo : Memo) : Type 0 where
      pub flags : IfSome memo.flags KnowsFlags
      pub verdict : IfSome memo.verdict KnowsVerdict
