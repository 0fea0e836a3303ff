-- How questions are read: line by line. One space stands between words, and a line feed ends each line.
--
--   repo NAME
--   repo NAME creator USER
--   role ROLE USER          a role in the repository of the last `repo` line
--   user NAME
--   ref REF
use Rattle.std.specs.Prelude.{◌≡◌, ⊤, ℕ, ◌+◌, ◌*◌, ◌==◌, Bool, true, false, ◌&&◌, ◌||◌, nat_le, nat_lt, List, [], ◌∷◌, ◌++◌, length, codes, decimal, Option, Some, None, Result, Ok, Err, if◌then◌else◌}
use Rattle.std.specs.List.{list_all, list_any, slice_split}
use Rattle.std.specs.Option.{option_map_or}
use Rattle.std.specs.Str.{bytes_eq}
use Rattle.std.specs.Char.{is_ascii_alphanumeric}
use Rattle.std.specs.FinMap as set
use Rattle.git_object.specs.Reader.{◌>>=◌, literal, up_to}
use Rattle.conf_lex.specs.Names.{is_repo_name, is_user_name}
use Rattle.ref_store.specs.RefName.{is_ref_name}
use Rattle.wild_perms.specs.Roles.{with_entry}
use Rattle.wild_perms.specs.declared.role.RoleEntry.{RoleEntry}
use Rattle.access_report.specs.Lists.{QuestionLists}
use Rattle.access_report.specs.declared.lists.AskedRepo.{AskedRepo}
use Rattle.access_report.specs.declared.lists.TheConstants.{MOST_ASKED, MOST_QUESTIONS}
use Rattle.access_report.specs.declared.reading.AskFault.{AskFault}
use Rattle.access_report.specs.declared.reading.AskFault.TheVariants.{BadLine, TooMany, NoMemory}
use Rattle.access_report.specs.declared.reading.Reading.{Reading}

-- ---- a line

-- bytes that pass a test
abbrev pub checked : (List ℕ → Bool) → List ℕ → Option (List ℕ)
checked test bytes = if test bytes then Some bytes else None

-- what a word at the front leads to, and what holds where it isn't there
abbrev pub after : {A : Type 0} → Option (List ℕ) → (List ℕ → Option A) → Option A → Option A
after None read other = other
after (Some rest) read other = read rest

-- What the lines so far ask for: the repository of the last `repo` line and those before it, users, refs; and
-- the set of the `repo`, `user` and `ref` lines. Nothing is asked for twice by lines that are equal.
abbrev pub once : Reading → List ℕ → Reading → Option Reading
once r line more = if set.contains_key r.lines line then None else Some (record more { lines = set.insert r.lines line true })

-- the repositories of all `repo` lines
abbrev pub all_repos : List AskedRepo → Option AskedRepo → List AskedRepo
all_repos repos None = repos
all_repos repos (Some repo) = repos ++ repo ∷ []

-- a `repo` line
abbrev pub with_repo : Reading → List ℕ → AskedRepo → Option Reading
with_repo r line repo = once r line (record r { repos = all_repos r.repos r.last; last = Some repo })

abbrev pub plain_repo : Reading → List ℕ → List ℕ → Option Reading
plain_repo r line name = do
  repo ← checked is_repo_name name
  with_repo r line (record { name = repo; wild = record { creator = None; roles = [] } })

-- `NAME creator USER`
abbrev pub created_repo : Reading → List ℕ → List ℕ → List ℕ → Option Reading
created_repo r line name rest = do
  repo ← checked is_repo_name name
  word ← literal (codes "creator ") rest
  creator ← checked is_user_name word
  with_repo r line (record { name = repo; wild = record { creator = Some creator; roles = [] } })

-- `NAME`, or `NAME creator USER`
abbrev pub repo_words : Reading → List ℕ → List ℕ → Option (List ℕ × List ℕ) → Option Reading
repo_words r line words None = plain_repo r line words
repo_words r line words (Some parts) = created_repo r line parts.0 parts.1

unfoldable pub repo_line : Reading → List ℕ → List ℕ → Option Reading
repo_line r line words = repo_words r line words (up_to 32 words)

abbrev pub is_role_byte : ℕ → Bool
is_role_byte c = is_ascii_alphanumeric c || (c == 45 || c == 95)

-- 1 to 64 letters, digits, `-` and `_`
abbrev pub is_role_word : List ℕ → Bool
is_role_word role = nat_le 1 (length role) && nat_le (length role) 64 && list_all is_role_byte role

abbrev pub has_role : List RoleEntry → List ℕ → List ℕ → Bool
has_role roles role user = list_any (λ entry. bytes_eq entry.role role && bytes_eq entry.user user) roles

-- a repository in which a user holds one role more, which its creator gave
abbrev pub with_role : AskedRepo → List ℕ → List ℕ → Option AskedRepo
with_role repo role user = do
  creator ← repo.wild.creator
  if has_role repo.wild.roles role user then None else Some (record repo { wild = record { creator = Some creator; roles = with_entry repo.wild.roles (record { role = role; user = user }) } })

-- `ROLE USER`
unfoldable pub role_line : Reading → List ℕ → Option Reading
role_line r words = do
  parts ← up_to 32 words
  role ← checked is_role_word parts.0
  user ← checked is_user_name parts.1
  repo ← r.last
  more ← with_role repo role user
  Some (record r { last = Some more })

-- `NAME`
abbrev pub user_line : Reading → List ℕ → List ℕ → Option Reading
user_line r line word = do
  name ← checked is_user_name word
  once r line (record r { users = r.users ++ name ∷ [] })

unfoldable pub ref_named : List ℕ → Option (List ℕ)
ref_named word = checked is_ref_name word

-- `REF`
abbrev pub ref_line : Reading → List ℕ → List ℕ → Option Reading
ref_line r line word = do
  name ← ref_named word
  once r line (record r { refs = r.refs ++ name ∷ [] })

-- What the lines ask for with one more; nothing where that is bad.
unfoldable pub with_line : Reading → List ℕ → Option Reading
with_line r line =
    after (literal (codes "repo ") line) (repo_line r line)
    (after (literal (codes "role ") line) (role_line r)
    (after (literal (codes "user ") line) (user_line r line)
    (after (literal (codes "ref ") line) (ref_line r line) None)))

-- ---- all lines

abbrev pub lists_of : Reading → QuestionLists
lists_of r = record { repos = all_repos r.repos r.last; users = r.users; refs = r.refs }

-- there are more than 1,000 of one kind (`MOST_ASKED`), or than 1,000,000 questions (`MOST_QUESTIONS`)
abbrev pub are_too_many_of : ℕ → ℕ → ℕ → Bool
are_too_many_of repos users refs = nat_lt MOST_ASKED repos || (nat_lt MOST_ASKED users || (nat_lt MOST_ASKED refs || nat_lt MOST_QUESTIONS (repos * users * (2 + 4 * refs))))

abbrev pub are_too_many : QuestionLists → Bool
are_too_many q = are_too_many_of (length q.repos) (length q.users) (length q.refs)

abbrev pub unless_too_many : QuestionLists → Result QuestionLists AskFault
unless_too_many q = if are_too_many q then Err TooMany else Ok q

-- What the lines from this number on come to, or the first that is bad: each but the last has its line feed,
-- behind which nothing may be.
abbrev pub reading : Reading → ℕ → List (List ℕ) → Result QuestionLists AskFault
reading r n [] = Err (BadLine n)
reading r n (last ∷ []) = if bytes_eq last [] then unless_too_many (lists_of r) else Err (BadLine n)
reading r n (line ∷ next ∷ rest) = option_map_or (λ more. reading more (n + 1) (next ∷ rest)) (with_line r line) (Err (BadLine n))

abbrev pub nothing : Reading
nothing = record { repos = []; last = None; users = []; refs = []; lines = set.empty }

-- what stands between line feeds
abbrev pub pieces : List ℕ → List (List ℕ)
pieces text = slice_split (λ c. c == 10) text

-- What a text asks for, or why it is refused.
abbrev pub read : List ℕ → Result QuestionLists AskFault
read text = reading nothing 1 (pieces text)

-- the text of a fault
abbrev pub fault_text : AskFault → List ℕ
fault_text (BadLine number) = codes "bad question at line " ++ decimal number
fault_text TooMany = codes "too many questions"
fault_text NoMemory = codes "out of memory"

-- What the answer of a reading says; memory may run out whatever the text is.
abbrev pub Reads : Result QuestionLists AskFault → Result QuestionLists AskFault → Type 0
Reads found (Ok q) = found ≡ Ok q
Reads found (Err NoMemory) = ⊤
Reads found (Err fault) = found ≡ Err fault

-- and before the limits are asked
abbrev pub ReadsLines : Result QuestionLists AskFault → Reading → Result (Unit {0}) AskFault → Type 0
ReadsLines found new (Ok unit) = found ≡ unless_too_many (lists_of new)
ReadsLines found new (Err NoMemory) = ⊤
ReadsLines found new (Err fault) = found ≡ Err fault

-- What an answer says of a line: what it leads to, or that it is bad.
abbrev pub SaysOf : Option Reading → Reading → Bool → Type 0
SaysOf found new true = found ≡ Some new
SaysOf found new false = found ≡ None

-- and of a role in a repository
abbrev pub SaysOfRole : Option AskedRepo → AskedRepo → Bool → Type 0
SaysOfRole found new true = found ≡ Some new
SaysOfRole found new false = found ≡ None
