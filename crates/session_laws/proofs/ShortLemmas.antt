-- Sessions of one packet: roles, and a listing.
use Rattle.std.proofs.Common.{◌≡◌, ℕ, ◌<◌, ◌≤◌, Bool, true, false, not, ◌==◌, List, [], ◌∷◌, ◌++◌, length, Some, codes, refl, arith, bytes_eq, append-nil, length-append}
use Rattle.std.proofs.lemmas.Bool.{le-leb}
use Rattle.git_object.specs.Reader.{literal}
use Rattle.git_object.proofs.SpellingLemmas.{literal_again}
use Rattle.conf_lex.specs.Names.{is_name_byte, is_repo_name, is_user_name}
use Rattle.ref_store.specs.Refs.{Name}
use Rattle.hub_history.specs.History.{replay}
use Rattle.hub_history.specs.Requests.{Permit as AskRoles, Look as AskLook}
use Rattle.hub_history.specs.State.{repository_at}
use Rattle.hub_history.specs.declared.entry.PermChange.{PermChange}
use Rattle.hub_history.specs.declared.entry.PermChange.TheVariants.{Grant, Revoke, List as ListRoles}
use Rattle.interaction_tree.specs.Interaction.{ask}
use Rattle.interaction_tree.specs.Requests.{OwnEntry}
use Rattle.interaction_tree.specs.Turns.{Gave, Ended}
use Rattle.session_core.specs.FirstPacket.{changing, is_role_byte, is_role_word, role_and_user, role_change, service}
use Rattle.session_core.specs.FirstPacket as first_packet
use Rattle.session_core.specs.Rulebook.{Rulebook}
use Rattle.session_core.specs.declared.end.SessionEnd.TheVariants as end
use Rattle.session_core.specs.declared.first_packet.Asked.{Asked}
use Rattle.session_core.specs.declared.first_packet.Service.{Service}
use Rattle.session_core.specs.declared.first_packet.Service.TheVariants.{Permit, Look}
use Rattle.git_session.specs.Info.{info_reply, lines_before, looking}
use Rattle.git_session.specs.Perms.{perms_reply, permitting, recorded_perms}
use Rattle.git_session.specs.Session.{session}
use Rattle.session_laws.specs.Sending.{Lacks, IsChange, IsPermitting, IsRole, change_text, info_text, line, perms_text}
use Rattle.session_laws.specs.Laws.{InfoIsServed, PermsAreServed}
use Rattle.session_laws.proofs.LineLemmas.{both_pass, up_to_at}
use Rattle.session_laws.proofs.FirstLemmas.{asking_goes, line_asks, literal_at_name, other_byte, repo_bare, repo_facts, test_lacks, user_facts}
use Rattle.session_laws.proofs.PushLemmas.{session_goes}
use Rattle.session_laws.proofs.TurnLemmas.{Goes, ask_goes, goes_as, then_goes, write_goes}

-- ---- the words

not_empty : (role : List ℕ) → 1 ≤ length role → bytes_eq role [] ≡ false
not_empty [] some = absurd (omega (arith, some))
not_empty (c ∷ role) some = refl

role_word : (role user : List ℕ) → IsRole role user → length role ≤ 65516 → is_role_word role ≡ true
role_word role user is short = rw (not_empty role is.some, le-leb (length role) 65516 short) is.role_word

role_again : (role user : List ℕ) → IsRole role user → length role ≤ 65516 → role_and_user (role ++ 32 ∷ user) ≡ Some (role, user)
unfolding role_and_user
role_again role user is short =
    rw (up_to_at 32 role user (test_lacks is_role_byte 32 role refl is.role_word)) (rw (role_word role user is short, is.user_name) refl)

grant_again : (role user : List ℕ) → IsRole role user → length role ≤ 65516 → role_change (codes "+ " ++ (role ++ 32 ∷ user)) ≡ Some (Grant role user)
unfolding role_change
grant_again role user is short = rw (literal_again (codes "+ ") (role ++ 32 ∷ user)) (rw (role_again role user is short) refl)

revoke_again : (role user : List ℕ) → IsRole role user → length role ≤ 65516 → role_change (codes "- " ++ (role ++ 32 ∷ user)) ≡ Some (Revoke role user)
unfolding role_change
revoke_again role user is short =
    rw (other_byte (codes "+ ") (codes "- " ++ (role ++ 32 ∷ user)) 0 (λ more e. absurd (omega (arith, e))), literal_again (codes "- ") (role ++ 32 ∷ user)) (rw (role_again role user is short) refl)

changing_again : (repo words : List ℕ) (change : PermChange) → is_repo_name repo ≡ true → role_change words ≡ Some change → changing (repo ++ 32 ∷ words) ≡ Some (Permit repo change)
unfolding changing
changing_again repo words change is said =
    rw (up_to_at 32 repo words (test_lacks (is_name_byte (codes "-._@/+")) 32 repo refl (repo_facts repo is).bytes)) (rw (repo_bare repo is, said) refl)

-- what is asked for behind `perms `
asks_perms : (words : List ℕ) (asked : Service) → first_packet.permitting words ≡ Some asked → service (codes "perms " ++ words) ≡ Some asked
unfolding service
asks_perms words asked is =
    rw (
      other_byte (codes "git-receive-pack ") (codes "perms " ++ words) 0 (λ more e. absurd (omega (arith, e))),
      other_byte (codes "git-upload-pack ") (codes "perms " ++ words) 0 (λ more e. absurd (omega (arith, e))),
      literal_again (codes "perms ") words,
    ) is

asks_change : (repo words : List ℕ) (change : PermChange) → is_repo_name repo ≡ true → role_change words ≡ Some change → service (codes "perms " ++ (repo ++ 32 ∷ words)) ≡ Some (Permit repo change)
asks_change repo words change is said =
    asks_perms (repo ++ 32 ∷ words) (Permit repo change)
    (rw (literal_at_name 45 (codes "l ") repo (32 ∷ words) (repo_facts repo is).begins refl) (changing_again repo words change is said))

asks_listing : (repo : List ℕ) → is_repo_name repo ≡ true → service (codes "perms " ++ (codes "-l " ++ repo)) ≡ Some (Permit repo ListRoles)
asks_listing repo is = asks_perms (codes "-l " ++ repo) (Permit repo ListRoles) (rw (literal_again (codes "-l ") repo) (rw (repo_bare repo is) refl))

asks_roles : (user repo : List ℕ) (change : PermChange) → IsPermitting user repo change → service (codes "perms " ++ change_text repo change) ≡ Some (Permit repo change)
asks_roles user repo (Grant role who) is =
    asks_change repo (codes "+ " ++ (role ++ 32 ∷ who)) (Grant role who) is.names.repo_name
    (grant_again role who is.change_is
    (let a = length-append user (codes " perms " ++ (repo ++ (codes " + " ++ (role ++ 32 ∷ who)))) in
    let b = length-append (codes " perms ") (repo ++ (codes " + " ++ (role ++ 32 ∷ who))) in
    let c = length-append repo (codes " + " ++ (role ++ 32 ∷ who)) in
    let d = length-append (codes " + ") (role ++ 32 ∷ who) in
    omega (arith, is.fits, a, b, c, d, length-append role (32 ∷ who))))
asks_roles user repo (Revoke role who) is =
    asks_change repo (codes "- " ++ (role ++ 32 ∷ who)) (Revoke role who) is.names.repo_name
    (revoke_again role who is.change_is
    (let a = length-append user (codes " perms " ++ (repo ++ (codes " - " ++ (role ++ 32 ∷ who)))) in
    let b = length-append (codes " perms ") (repo ++ (codes " - " ++ (role ++ 32 ∷ who))) in
    let c = length-append repo (codes " - " ++ (role ++ 32 ∷ who)) in
    let d = length-append (codes " - ") (role ++ 32 ∷ who) in
    omega (arith, is.fits, a, b, c, d, length-append role (32 ∷ who))))
asks_roles user repo ListRoles is = asks_listing repo is.names.repo_name

asks_info : service (codes "info") ≡ Some Look
unfolding service literal
asks_info = refl

-- ---- no feed among them

user_lacks : (user : List ℕ) → is_user_name user ≡ true → Lacks 10 user
user_lacks user is = test_lacks (is_name_byte (codes "-._@+")) 10 user refl (user_facts user is).bytes

repo_lacks : (repo : List ℕ) → is_repo_name repo ≡ true → Lacks 10 repo
repo_lacks repo is = test_lacks (is_name_byte (codes "-._@/+")) 10 repo refl (repo_facts repo is).bytes

role_lacks : (role who : List ℕ) → IsRole role who → Lacks 10 (role ++ 32 ∷ who)
role_lacks role who is = both_pass (λ b. not (b == 10)) role (32 ∷ who) (test_lacks is_role_byte 10 role refl is.role_word) (user_lacks who is.user_name)

change_lacks : (repo : List ℕ) (change : PermChange) → is_repo_name repo ≡ true → IsChange change → Lacks 10 (change_text repo change)
change_lacks repo (Grant role who) is change = both_pass (λ b. not (b == 10)) repo (codes " + " ++ (role ++ 32 ∷ who)) (repo_lacks repo is) (role_lacks role who change)
change_lacks repo (Revoke role who) is change = both_pass (λ b. not (b == 10)) repo (codes " - " ++ (role ++ 32 ∷ who)) (repo_lacks repo is) (role_lacks role who change)
change_lacks repo ListRoles is change = repo_lacks repo is

info_fits : (user : List ℕ) → is_user_name user ≡ true → length (user ++ codes " info") < 65516
info_fits user is = omega (arith, (user_facts user is).short, length-append user (codes " info"))

-- ---- the sessions

perms_goes : (book : Rulebook) (admin user repo : Name) (change : PermChange) (feed : Bool) (own : OwnEntry) → IsPermitting user repo change
    → Goes (session book admin) (perms_text feed user repo change) (own ∷ []) (AskRoles user repo change ∷ []) (perms_reply (repository_at (replay admin own.before) repo).roles (recorded_perms own.entry.event)) (Ended end.Served)
unfolding permitting
perms_goes book admin user repo change feed own is =
    let text : List ℕ = user ++ (codes " perms " ++ change_text repo change) in
    let asked : Asked = record { user = user; service = Permit repo change } in
    let reply : List ℕ = perms_reply (repository_at (replay admin own.before) repo).roles (recorded_perms own.entry.event) in
    goes_as _ (line feed text ++ []) (line feed text) (own ∷ []) _ reply reply _ (append-nil (line feed text)) refl
    (session_goes book admin feed text asked [] (own ∷ []) (AskRoles user repo change ∷ []) reply
    (asking_goes 0 feed text asked is.fits (both_pass (λ b. not (b == 10)) user (codes " perms " ++ change_text repo change) (user_lacks user is.names.user_name) (change_lacks repo change is.names.repo_name is.change_is))
    (line_asks user (codes "perms " ++ change_text repo change) (Permit repo change) is.names.user_name (asks_roles user repo change is)))
    (then_goes (ask (AskRoles user repo change)) _ [] [] (own ∷ []) [] (AskRoles user repo change ∷ []) [] [] reply own (Gave tt) (ask_goes (AskRoles user repo change) own) (write_goes reply)))

pub perms : PermsAreServed
perms book admin user repo change feed own is extent more = (perms_goes book admin user repo change feed own is).goes extent more []

info_goes : (book : Rulebook) (admin user : Name) (feed : Bool) (own : OwnEntry) → is_user_name user ≡ true
    → Goes (session book admin) (info_text feed user) (own ∷ []) (AskLook user ∷ []) (info_reply user (lines_before book admin own user)) (Ended end.Served)
unfolding looking
info_goes book admin user feed own is =
    let text : List ℕ = user ++ codes " info" in
    let asked : Asked = record { user = user; service = Look } in
    let reply : List ℕ = info_reply user (lines_before book admin own user) in
    goes_as _ (line feed text ++ []) (line feed text) (own ∷ []) _ reply reply _ (append-nil (line feed text)) refl
    (session_goes book admin feed text asked [] (own ∷ []) (AskLook user ∷ []) reply
    (asking_goes 0 feed text asked (info_fits user is) (both_pass (λ b. not (b == 10)) user (codes " info") (user_lacks user is) refl) (line_asks user (codes "info") Look is asks_info))
    (then_goes (ask (AskLook user)) _ [] [] (own ∷ []) [] (AskLook user ∷ []) [] [] reply own (Gave tt) (ask_goes (AskLook user) own) (write_goes reply)))

pub info : InfoIsServed
info book admin user feed own is extent more = (info_goes book admin user feed own is).goes extent more []
