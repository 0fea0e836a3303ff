-- A session's first packet: a user's name, and what is asked of the server for that user. One space stands
-- between words.
--
--   USER git-receive-pack REPO
--   USER git-upload-pack REPO
--   USER info
--   USER perms REPO + ROLE USER
--   USER perms REPO - ROLE USER
--   USER perms -l REPO
--
-- Round REPO there may be single quotes, before it a slash, and behind it `.git`. ROLE has letters, digits,
-- `-` and `_`, and at most 65,516 bytes.
use Rattle.std.specs.Prelude.{ℕ, Bool, ◌&&◌, ◌||◌, ◌==◌, nat_le, not, List, [], ◌∷◌, length, take, drop, ◌-◌, Option, Some, None, codes, if◌then◌else◌}
use Rattle.std.specs.Option.{option_map, unwrap_or}
use Rattle.std.specs.List.{list_all}
use Rattle.std.specs.Str.{bytes_eq}
use Rattle.std.specs.Char.{is_ascii_alphanumeric}
use Rattle.git_object.specs.Reader.{◌>>=◌, literal, up_to}
use Rattle.conf_lex.specs.Names.{is_repo_name, is_user_name}
use Rattle.conf_lex.specs.RepoWords.{repo_word}
use Rattle.hub_history.specs.History.{HasShortRole}
use Rattle.hub_history.specs.declared.entry.PermChange.{PermChange}
use Rattle.hub_history.specs.declared.entry.PermChange.TheVariants.{Grant, Revoke, List as ListRoles}
use Rattle.session_core.specs.declared.first_packet.Service.{Service}
use Rattle.session_core.specs.declared.first_packet.Service.TheVariants.{Receive, Upload, Permit, Look}
use Rattle.session_core.specs.declared.first_packet.FirstLine.{FirstLine}
use Rattle.session_core.specs.declared.first_packet.FirstLine.TheVariants.{Asks, BadCommand, BadUser}

-- a packet's payload without one line feed at its end
unfoldable pub without_feed : List ℕ → List ℕ
without_feed payload = if bytes_eq (drop (length payload - 1) payload) (10 ∷ []) then take (length payload - 1) payload else payload

-- bytes that pass a test
abbrev pub checked : (List ℕ → Bool) → List ℕ → Option (List ℕ)
checked test bytes = if test bytes then Some bytes else None

-- ---- a repository

-- what stands between two single quotes, where a word begins and ends with one
abbrev pub inside_quotes : List ℕ → Option (List ℕ)
inside_quotes word = do
  text ← literal (codes "'") word
  parts ← up_to 39 text
  if bytes_eq parts.1 [] then Some parts.0 else None

abbrev pub unquoted : List ℕ → List ℕ
unquoted word = unwrap_or (inside_quotes word) word

abbrev pub without_slash : List ℕ → List ℕ
without_slash word = unwrap_or (literal (codes "/") word) word

-- the repository that a word names
unfoldable pub repo_named : List ℕ → Option (List ℕ)
repo_named word = checked is_repo_name (repo_word (without_slash (unquoted word)))

-- ---- what is asked for

abbrev pub is_role_byte : ℕ → Bool
is_role_byte c = is_ascii_alphanumeric c || (c == 45 || c == 95)

abbrev pub is_role_word : List ℕ → Bool
is_role_word role = not (bytes_eq role []) && nat_le (length role) 65516 && list_all is_role_byte role

-- `ROLE USER`
unfoldable pub role_and_user : List ℕ → Option (List ℕ × List ℕ)
role_and_user words = do
  parts ← up_to 32 words
  role ← checked is_role_word parts.0
  user ← checked is_user_name parts.1
  Some (role, user)

-- what a word at the front leads to, and what holds where it isn't there
abbrev pub after : {A : Type 0} → Option (List ℕ) → (List ℕ → Option A) → Option A → Option A
after None read other = other
after (Some rest) read other = read rest

abbrev pub granting : List ℕ → Option PermChange
granting words = option_map (λ r. Grant r.0 r.1) (role_and_user words)

abbrev pub revoking : List ℕ → Option PermChange
revoking words = option_map (λ r. Revoke r.0 r.1) (role_and_user words)

-- `+ ROLE USER` or `- ROLE USER`
unfoldable pub role_change : List ℕ → Option PermChange
role_change words = after (literal (codes "+ ") words) granting (after (literal (codes "- ") words) revoking None)

-- `REPO + ROLE USER` or `REPO - ROLE USER`
unfoldable pub changing : List ℕ → Option Service
changing words = do
  parts ← up_to 32 words
  repo ← repo_named parts.0
  change ← role_change parts.1
  Some (Permit repo change)

abbrev pub listing : List ℕ → Option Service
listing word = option_map (λ repo. Permit repo ListRoles) (repo_named word)

abbrev pub permitting : List ℕ → Option Service
permitting words = after (literal (codes "-l ") words) listing (changing words)

abbrev pub receiving : List ℕ → Option Service
receiving word = option_map (λ repo. Receive repo) (repo_named word)

abbrev pub uploading : List ℕ → Option Service
uploading word = option_map (λ repo. Upload repo) (repo_named word)

abbrev pub looking : List ℕ → Option Service
looking words = if bytes_eq words (codes "info") then Some Look else None

unfoldable pub service : List ℕ → Option Service
service words =
    after (literal (codes "git-receive-pack ") words) receiving
    (after (literal (codes "git-upload-pack ") words) uploading
    (after (literal (codes "perms ") words) permitting (looking words)))

-- ---- the line

-- the bytes up to the first space, or all where there is none; and those behind it
abbrev pub user_word : List ℕ → List ℕ
user_word line = unwrap_or (option_map (λ p. p.0) (up_to 32 line)) line

abbrev pub behind_user : List ℕ → Option (List ℕ)
behind_user line = option_map (λ p. p.1) (up_to 32 line)

abbrev pub asked_by : List ℕ → Option Service → FirstLine
asked_by user None = BadCommand
asked_by user (Some service) = Asks (record { user = user; service = service })

-- what a first line says
unfoldable pub first_line : List ℕ → FirstLine
first_line line = if is_user_name (user_word line) then asked_by (user_word line) (behind_user line >>= service) else BadUser

-- a change of roles is of a role whose text is short enough
abbrev pub HasShortChange : Service → Type 0
HasShortChange (Receive repo) = Unit {0}
HasShortChange (Upload repo) = Unit {0}
HasShortChange (Permit repo change) = HasShortRole change
HasShortChange Look = Unit {0}
