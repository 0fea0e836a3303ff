-- What a client sends that does everything right. Nothing here reads.
use Rattle.std.specs.Prelude.{◌≡◌, ℕ, ◌≤◌, ◌<◌, true, Bool, not, ◌==◌, List, [], ◌∷◌, ◌++◌, length, codes, if◌then◌else◌}
use Rattle.std.specs.List.{flat_map, list_all, AllByRecursion}
use Rattle.pktline_core.specs.Packets.{spelling, Line, Flush}
use Rattle.git_object.specs.Content.{Content}
use Rattle.git_object.specs.Object.{FitOnePack}
use Rattle.git_object.specs.ObjectId.{hex_of}
use Rattle.git_object.specs.Spelling.{IsId}
use Rattle.git_object.specs.declared.object_id.ObjectId.{ObjectId}
use Rattle.raw_pack.specs.Grammar.{spelled_pack}
use Rattle.conf_lex.specs.Cleaning.{joined}
use Rattle.conf_lex.specs.Names.{is_repo_name, is_user_name}
use Rattle.ref_store.specs.declared.command.Command.{Command}
use Rattle.ref_store.specs.Refs.{Name}
use Rattle.hub_history.specs.declared.entry.PermChange.{PermChange}
use Rattle.hub_history.specs.declared.entry.PermChange.TheVariants.{Grant, Revoke, List as ListRoles}
use Rattle.session_core.specs.FirstPacket.{is_role_byte}
use Rattle.receive_pack.specs.Changes.{all_delete}
use Rattle.upload_pack.specs.declared.haves.Inquiry.{Inquiry}
use Rattle.upload_pack.specs.declared.haves.Inquiry.TheVariants as inquiry

-- I. Lines

-- no byte of a text is this one
abbrev pub Lacks : ℕ → List ℕ → Type 0
Lacks byte text = list_all (λ b. not (b == byte)) text ≡ true

-- a packet of a line, whose client ends its lines with a feed or doesn't
abbrev pub line : Bool → List ℕ → List ℕ
line feed text = spelling (Line (text ++ (if feed then 10 ∷ [] else [])))

-- a user and a repository, by their names
pub record AreNames (user repo : Name) : Type 0 where
  pub user_name : is_user_name user ≡ true
  pub repo_name : is_repo_name repo ≡ true

-- Who asks for something at which repository. The client may write a slash before it, `.git` behind it, and
-- a feed at the end of the line.
pub record Asking : Type 0 where
  pub user : Name
  pub repo : Name
  pub slash : Bool
  pub git : Bool
  pub feed : Bool

abbrev pub IsAsking : Asking → Type 0
IsAsking asking = AreNames asking.user asking.repo

abbrev pub path_text : Asking → List ℕ
path_text asking = (if asking.slash then codes "/" else []) ++ (asking.repo ++ (if asking.git then codes ".git" else []))

-- the line of the first packet, of a push or a fetch
abbrev pub asking_for : List ℕ → Asking → List ℕ
asking_for service asking = asking.user ++ (codes " " ++ (service ++ (codes " '" ++ (path_text asking ++ codes "'"))))

-- the first packet
abbrev pub asking_text : List ℕ → Asking → List ℕ
asking_text service asking = line asking.feed (asking_for service asking)

-- A client that wants no more than to see the refs sends a flush behind it.
abbrev pub listing_text : List ℕ → Asking → List ℕ
listing_text service asking = asking_text service asking ++ spelling Flush

-- Words of a client, by which it says what it can do and asks for. One may be empty, so that any number of
-- spaces may stand between two.
abbrev pub AreWords : List (List ℕ) → Type 0
AreWords words = AllByRecursion (λ word. Lacks 32 word × Lacks 10 word) words

-- II. A push

-- `OLD NEW REF`
abbrev pub command_text : Command → List ℕ
command_text command = hex_of command.old ++ (32 ∷ hex_of command.new ++ 32 ∷ command.name)

-- the first one, with the client's words behind a zero byte
abbrev pub first_text : Command → List (List ℕ) → List ℕ
first_text command words = command_text command ++ 0 ∷ joined words

-- a command of two ids and a ref's text: 1 to 1,024 bytes, none of them zero or a feed
pub record IsCommand (command : Command) : Type 0 where
  pub old : IsId command.old
  pub new : IsId command.new
  pub some : 1 ≤ length command.name
  pub short : length command.name ≤ 1024
  pub no_zero : Lacks 0 command.name
  pub no_feed : Lacks 10 command.name

-- feed: whether the client ends the lines of its commands with a feed
pub record Pushing : Type 0 where
  pub asking : Asking
  pub first : Command
  pub others : List Command
  pub words : List (List ℕ)
  pub objects : List Content
  pub feed : Bool

abbrev pub commands_of : Pushing → List Command
commands_of push = push.first ∷ push.others

-- no pack follows where each command deletes its ref
abbrev pub pack_of : Pushing → List Content
pack_of push = if all_delete (commands_of push) then [] else push.objects

abbrev pub pack_text : Pushing → List ℕ
pack_text push = if all_delete (commands_of push) then [] else spelled_pack push.objects

-- who pushes where; the commands; a flush; the pack
unfoldable pub push_text : Pushing → List ℕ
push_text push =
    asking_text (codes "git-receive-pack") push.asking
    ++ (line push.feed (first_text push.first push.words)
    ++ (flat_map (λ command. line push.feed (command_text command)) push.others
    ++ (spelling Flush ++ pack_text push)))

-- 1 to 10,000 commands, of which the first fits a packet with its words, and objects that a pack can have
pub record IsPushing (push : Pushing) : Type 0 where
  pub asking : IsAsking push.asking
  pub first : IsCommand push.first
  pub others : AllByRecursion IsCommand push.others
  pub few : length push.others ≤ 9999
  pub words : AreWords push.words
  pub fits : length (first_text push.first push.words) < 65516
  pub objects : FitOnePack push.objects

-- III. A fetch

abbrev pub want_text : ObjectId → List ℕ
want_text id = codes "want " ++ hex_of id

-- the first want, with a space before each of the client's words
abbrev pub first_want_text : ObjectId → List (List ℕ) → List ℕ
first_want_text id words = want_text id ++ flat_map (λ word. 32 ∷ word) words

-- `have HEX`, or a flush
abbrev pub inquiry_text : Bool → Inquiry → List ℕ
inquiry_text feed (inquiry.Have id) = line feed (codes "have " ++ hex_of id)
inquiry_text feed inquiry.Flush = spelling Flush

abbrev pub IsInquiry : Inquiry → Type 0
IsInquiry (inquiry.Have id) = IsId id
IsInquiry inquiry.Flush = Unit {0}

-- feed: whether the client ends its lines behind the first packet with a feed
pub record Fetching : Type 0 where
  pub asking : Asking
  pub first : ObjectId
  pub others : List ObjectId
  pub words : List (List ℕ)
  pub inquiries : List Inquiry
  pub feed : Bool

abbrev pub wants_of : Fetching → List ObjectId
wants_of fetch = fetch.first ∷ fetch.others

-- who fetches what from where; the wants; a flush; what the client has; `done`
unfoldable pub fetch_text : Fetching → List ℕ
fetch_text fetch =
    asking_text (codes "git-upload-pack") fetch.asking
    ++ (line fetch.feed (first_want_text fetch.first fetch.words)
    ++ (flat_map (λ id. line fetch.feed (want_text id)) fetch.others
    ++ (spelling Flush
    ++ (flat_map (inquiry_text fetch.feed) fetch.inquiries ++ line fetch.feed (codes "done")))))

-- 1 to 10,000 wants, of which the first fits a packet with its words, and at most 100,000 haves and flushes
pub record IsFetching (fetch : Fetching) : Type 0 where
  pub asking : IsAsking fetch.asking
  pub first : IsId fetch.first
  pub others : AllByRecursion IsId fetch.others
  pub few : length fetch.others ≤ 9999
  pub words : AreWords fetch.words
  pub fits : length (first_want_text fetch.first fetch.words) < 65516
  pub inquiries : AllByRecursion IsInquiry fetch.inquiries
  pub some : length fetch.inquiries ≤ 100000

-- IV. Roles, and a listing

-- `REPO + ROLE USER`, `REPO - ROLE USER`, or `-l REPO`
abbrev pub change_text : Name → PermChange → List ℕ
change_text repo (Grant role user) = repo ++ (codes " + " ++ (role ++ 32 ∷ user))
change_text repo (Revoke role user) = repo ++ (codes " - " ++ (role ++ 32 ∷ user))
change_text repo ListRoles = codes "-l " ++ repo

abbrev pub perms_text : Bool → Name → Name → PermChange → List ℕ
perms_text feed user repo change = line feed (user ++ (codes " perms " ++ change_text repo change))

-- a role of letters, digits, `-` and `_`
pub record IsRole (role user : List ℕ) : Type 0 where
  pub some : 1 ≤ length role
  pub role_word : list_all is_role_byte role ≡ true
  pub user_name : is_user_name user ≡ true

abbrev pub IsChange : PermChange → Type 0
IsChange (Grant role user) = IsRole role user
IsChange (Revoke role user) = IsRole role user
IsChange ListRoles = Unit {0}

-- a change that fits a packet
pub record IsPermitting (user repo : Name) (change : PermChange) : Type 0 where
  pub names : AreNames user repo
  pub change_is : IsChange change
  pub fits : length (user ++ (codes " perms " ++ change_text repo change)) < 65516

abbrev pub info_text : Bool → Name → List ℕ
info_text feed user = line feed (user ++ codes " info")
