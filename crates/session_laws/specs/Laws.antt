-- What a client sends is served: it is read whole, the entries that it asks for are made, and the reply is
-- written.
use Rattle.std.specs.Prelude.{◌≡◌, ◌⊎◌, ℕ, ◌+◌, true, false, Bool, List, [], ◌∷◌, ◌++◌, length, filter, codes, None, if◌then◌else◌}
use Rattle.std.specs.List.{list_any, AllByRecursion}
use Rattle.std.specs.Str.{bytes_eq}
use Rattle.git_object.specs.Content.{Content}
use Rattle.git_object.specs.declared.object_id.ObjectId.{ObjectId}
use Rattle.conf_lex.specs.Names.{is_user_name}
use Rattle.ref_store.specs.Objects.{has_object}
use Rattle.ref_store.specs.Refs.{Name}
use Rattle.access_check.specs.declared.verdicts.Want.TheVariants.{Read, Write}
use Rattle.hub_history.specs.declared.entry.EnterKept.TheVariants.{Granted, Created}
use Rattle.hub_history.specs.declared.entry.PermChange.{PermChange}
use Rattle.hub_history.specs.History.{replay}
use Rattle.hub_history.specs.Requests.{Request, Enter, Push, Permit, Look}
use Rattle.hub_history.specs.State.{Repository, repository_at, store_of}
use Rattle.interaction_tree.specs.Requests.{OwnEntry}
use Rattle.interaction_tree.specs.Turns.{Extent, Ended, turn_over}
use Rattle.session_core.specs.declared.end.SessionEnd.TheVariants.{Served}
use Rattle.session_core.specs.Opening.{recorded_answer}
use Rattle.session_core.specs.Packets.{packet}
use Rattle.session_core.specs.Rulebook.{Rulebook}
use Rattle.receive_pack.specs.Receiving.{recorded_outcomes}
use Rattle.receive_pack.specs.Texts as push_texts
use Rattle.upload_pack.specs.Advertising.{advertisement}
use Rattle.upload_pack.specs.Haves.{ack, common_after, no_acknowledgement, reply}
use Rattle.upload_pack.specs.Sending.{pack_bytes}
use Rattle.upload_pack.specs.Wants.{not_ours}
use Rattle.upload_pack.specs.declared.haves.Inquiry.{Inquiry}
use Rattle.upload_pack.specs.declared.haves.Inquiry.TheVariants.{Have, Flush}
use Rattle.git_session.specs.Info.{info_reply, lines_before}
use Rattle.git_session.specs.Perms.{perms_reply, recorded_perms}
use Rattle.git_session.specs.Session.{session}
use Rattle.session_laws.specs.Sending.{Asking, IsAsking, listing_text, Pushing, IsPushing, commands_of, pack_of, push_text, Fetching, IsFetching, wants_of, fetch_text, IsPermitting, perms_text, info_text}

-- it is among a client's words
abbrev pub is_among : List (List ℕ) → List ℕ → Bool
is_among words word = list_any (λ w. bytes_eq w word) words

-- an opening that was granted, or for which its repository was made
abbrev pub IsLetIn : OwnEntry → Type 0
IsLetIn own = (recorded_answer own.entry.event ≡ Granted) ⊎ (recorded_answer own.entry.event ≡ Created)

-- a repository right behind an opening; the admin is the one from whose setup the log is legal
abbrev pub opened_at : Name → OwnEntry → Name → Repository
opened_at admin own repo = repository_at (replay admin (own.before ++ own.entry ∷ [])) repo

-- By this input, and with these own entries, a session reads the input and nothing that follows it, asks for
-- these entries, writes these bytes, and ends served.
abbrev pub Serves : Rulebook → Name → List ℕ → List OwnEntry → List Request → List ℕ → Type 0
Serves book admin input own requests bytes =
    (extent : Extent) (more : List ℕ)
    → turn_over extent (session book admin) (input ++ more) own ≡ record { used = input; requests = requests; bytes = bytes; stop = Ended Served }

-- I. A push

-- the report, by the rules that were in force at the opening, and by those just before the push
abbrev pub report_of : Rulebook → Pushing → OwnEntry → OwnEntry → List ℕ
report_of book push opened pushed =
    push_texts.report (book.rules (length opened.before + 1)).rules (book.rules (length pushed.before)).rules
    (record { user = push.asking.user; repo = push.asking.repo; commands = commands_of push }) (recorded_outcomes pushed.entry.event)

-- A push that a client spells is served. It is made, all or nothing where `atomic` is among the client's
-- words. The advertisement is written and, where `report-status` is among the words, the report.
abbrev pub PushesAreServed : Type 0
PushesAreServed =
    (book : Rulebook) (admin : Name) (push : Pushing) (opened pushed : OwnEntry) → IsPushing push → IsLetIn opened
    → Serves book admin (push_text push) (opened ∷ pushed ∷ [])
    (Enter push.asking.user push.asking.repo Write ∷ Push (length opened.before) (pack_of push) (commands_of push) (is_among push.words (codes "atomic")) ∷ [])
    (push_texts.advertisement (opened_at admin opened push.asking.repo).refs ++ (if is_among push.words (codes "report-status") then report_of book push opened pushed else []))

-- II. A fetch

-- the objects that a client says it has
abbrev pub haves_of : List Inquiry → List ObjectId
haves_of [] = []
haves_of (Have id ∷ inquiries) = id ∷ haves_of inquiries
haves_of (Flush ∷ inquiries) = haves_of inquiries

-- the replies to haves and flushes, one after the other, and to `done`, where these are common before
abbrev pub replies : List Content → List ObjectId → List Inquiry → List ℕ
replies objects common [] = no_acknowledgement common
replies objects common (one ∷ inquiries) = reply objects common one ++ replies objects (common_after objects common one) inquiries

-- the pack of what is wanted and isn't reached from what the client has and the server has too
abbrev pub fetched_pack : List Content → Fetching → List ℕ
fetched_pack objects fetch = pack_bytes objects (wants_of fetch) (filter (has_object objects) (haves_of fetch.inquiries))

-- A fetch that a client spells, each of whose wants is advertised, is served. The advertisement, the replies
-- and the pack are written.
abbrev pub FetchesAreServed : Type 0
FetchesAreServed =
    (book : Rulebook) (admin : Name) (fetch : Fetching) (opened : OwnEntry) → IsFetching fetch → IsLetIn opened
    → not_ours (store_of (opened_at admin opened fetch.asking.repo)) (wants_of fetch) ≡ None
    → Serves book admin (fetch_text fetch) (opened ∷ []) (Enter fetch.asking.user fetch.asking.repo Read ∷ [])
    (advertisement (store_of (opened_at admin opened fetch.asking.repo))
    ++ (replies (opened_at admin opened fetch.asking.repo).objects [] fetch.inquiries ++ fetched_pack (opened_at admin opened fetch.asking.repo).objects fetch))

-- the server has none of the objects that the client says it has
abbrev pub HasNone : List Content → Inquiry → Type 0
HasNone objects (Have id) = has_object objects id ≡ false
HasNone objects Flush = Unit {0}

-- the reply to each flush, that nothing is common
abbrev pub nothing_common : List Inquiry → List ℕ
nothing_common [] = []
nothing_common (Have id ∷ inquiries) = nothing_common inquiries
nothing_common (Flush ∷ inquiries) = packet (codes "NAK\n") ++ nothing_common inquiries

-- Of the objects that the client has, the first that the server has too is acknowledged. To each flush before
-- it the reply is that nothing is common, and behind it there are no replies.
abbrev pub FirstIsAcknowledged : Type 0
FirstIsAcknowledged =
    (objects : List Content) (before inquiries : List Inquiry) (id : ObjectId) → AllByRecursion (HasNone objects) before → has_object objects id ≡ true
    → replies objects [] (before ++ Have id ∷ inquiries) ≡ nothing_common before ++ packet (ack id)

-- Where the server has none of them, that is the reply to each flush and to `done`.
abbrev pub NothingIsCommon : Type 0
NothingIsCommon =
    (objects : List Content) (inquiries : List Inquiry) → AllByRecursion (HasNone objects) inquiries → replies objects [] inquiries ≡ nothing_common inquiries ++ packet (codes "NAK\n")

-- III. What there is to see

-- A client that sends a flush in place of wants, or of commands, gets the advertisement and nothing else.
pub record RefsAreListed : Type 0 where
  pub to_fetch :
      (book : Rulebook) (admin : Name) (asking : Asking) (opened : OwnEntry) → IsAsking asking → IsLetIn opened
      → Serves book admin (listing_text (codes "git-upload-pack") asking) (opened ∷ []) (Enter asking.user asking.repo Read ∷ []) (advertisement (store_of (opened_at admin opened asking.repo)))
  pub to_push :
      (book : Rulebook) (admin : Name) (asking : Asking) (opened : OwnEntry) → IsAsking asking → IsLetIn opened
      → Serves book admin (listing_text (codes "git-receive-pack") asking) (opened ∷ []) (Enter asking.user asking.repo Write ∷ []) (push_texts.advertisement (opened_at admin opened asking.repo).refs)

-- IV. Roles, and a listing of repositories

-- A change or a listing of roles that a client spells is served: the answer is written.
abbrev pub PermsAreServed : Type 0
PermsAreServed =
    (book : Rulebook) (admin user repo : Name) (change : PermChange) (feed : Bool) (own : OwnEntry) → IsPermitting user repo change
    → Serves book admin (perms_text feed user repo change) (own ∷ []) (Permit user repo change ∷ []) (perms_reply (repository_at (replay admin own.before) repo).roles (recorded_perms own.entry.event))

-- So is a request for the repositories that there are to see.
abbrev pub InfoIsServed : Type 0
InfoIsServed =
    (book : Rulebook) (admin user : Name) (feed : Bool) (own : OwnEntry) → is_user_name user ≡ true
    → Serves book admin (info_text feed user) (own ∷ []) (Look user ∷ []) (info_reply user (lines_before book admin own user))

-- V. That there are such

-- a push with a pack, and a fetch, that a client spells
pub record SomeAreSpelled : Type 0 where
  pub push : Pushing
  pub push_is : IsPushing push
  pub fetch : Fetching
  pub fetch_is : IsFetching fetch
