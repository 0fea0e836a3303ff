-- The first packet, as a client spells it.
use Rattle.std.proofs.Common.{◌≡◌, ◌≢◌, ℕ, suc, ◌+◌, ◌-◌, ◌<◌, ◌≤◌, Bool, true, false, not, ◌==◌, if◌then◌else◌, List, [], ◌∷◌, ◌++◌, length, get_or, Some, None, codes, refl, sym, ◌∙◌, ap, arith, nat_eq, length-append}
use Rattle.std.specs.List.{list_all, ends_with}
use Rattle.std.specs.Char.{is_ascii_alphanumeric}
use Rattle.std.proofs.lemmas.Bool.{and_parts, eqb-true, leb-true}
use Rattle.std.proofs.lemmas.List.{append-nil, drop_at, take_at}
use Rattle.git_object.specs.Reader.{literal}
use Rattle.git_object.proofs.SpellingLemmas.{literal_again, literal_not}
use Rattle.conf_lex.specs.Names.{begins_with_letter_or_digit, is_name_byte, is_repo_name, is_user_name}
use Rattle.conf_lex.specs.RepoWords.{repo_word}
use Rattle.pktline_core.specs.Packets.{Line}
use Rattle.interaction_tree.specs.Turns.{Gave}
use Rattle.session_core.specs.Asking.{asked_in, asking}
use Rattle.session_core.specs.Asking.{asking as first_asking}
use Rattle.session_core.specs.Packets.{next_packet}
use Rattle.session_core.specs.FirstPacket.{checked, first_line, inside_quotes, repo_named, service, without_feed, without_slash}
use Rattle.session_core.specs.declared.first_packet.Asked.{Asked}
use Rattle.session_core.specs.declared.first_packet.FirstLine.TheVariants.{Asks}
use Rattle.session_core.specs.declared.first_packet.Service.{Service}
use Rattle.session_core.specs.declared.first_packet.Service.TheVariants.{Receive, Upload}
use Rattle.session_laws.specs.Sending.{Lacks, line, Asking, IsAsking, asking_for, path_text}
use Rattle.session_laws.proofs.LineLemmas.{all_pass, both_pass, feed_is_nothing, up_to_at}
use Rattle.session_laws.proofs.TurnLemmas.{Goes, gives_goes, packet_goes, then_gives}

-- ---- names

passes_differs : (p : ℕ → Bool) (c d : ℕ) → p c ≡ true → p d ≡ false → not (c == d) ≡ true
passes_differs p c d passed fails =
    elim (c == d) as (λ b. (c == d) ≡ b → not b ≡ true) [
      | true ↦ λ e. let clash : true ≡ false = sym passed ∙ ap p (eqb-true c d e) ∙ fails in absurd cc
      | false ↦ λ e. refl
    ] refl

-- what passes a test that a byte doesn't lacks that byte
pub test_lacks : (p : ℕ → Bool) (d : ℕ) (text : List ℕ) → p d ≡ false → list_all p text ≡ true → Lacks d text
test_lacks p d text fails all = all_pass p (λ b. not (b == d)) (λ c passed. passes_differs p c d passed fails) text all

pub record UserFacts (user : List ℕ) : Type 0 where
  pub short : length user ≤ 64
  pub bytes : list_all (is_name_byte (codes "-._@+")) user ≡ true

pub user_facts : (user : List ℕ) → is_user_name user ≡ true → UserFacts user
user_facts user is =
    let a = and_parts _ _ is in
    let b = and_parts _ _ a.0 in
    let c = and_parts _ _ b.0 in
    let d = and_parts _ _ c.0 in
    record { short = leb-true (length user) 64 d.1; bytes = b.1 }

not_so : (b : Bool) → not b ≡ true → b ≡ false
not_so true h = absurd cc
not_so false h = refl

pub record RepoFacts (repo : List ℕ) : Type 0 where
  pub short : length repo ≤ 200
  pub begins : begins_with_letter_or_digit repo ≡ true
  pub bytes : list_all (is_name_byte (codes "-._@/+")) repo ≡ true
  pub no_git : ends_with nat_eq repo (codes ".git") ≡ false

pub repo_facts : (repo : List ℕ) → is_repo_name repo ≡ true → RepoFacts repo
repo_facts repo is =
    let a = and_parts _ _ is in
    let b = and_parts _ _ a.0 in
    let c = and_parts _ _ b.0 in
    let d = and_parts _ _ c.0 in
    let e = and_parts _ _ d.0 in
    let f = and_parts _ _ e.0 in
    let g = and_parts _ _ f.0 in
    record { short = leb-true (length repo) 200 g.1; begins = f.1; bytes = e.1; no_git = not_so (ends_with nat_eq repo (codes ".git")) a.1 }

-- ---- a repository's word

-- a name begins with no other byte than a letter or a digit
pub literal_at_name : (w : ℕ) (word name rest : List ℕ) → begins_with_letter_or_digit name ≡ true → is_ascii_alphanumeric w ≡ false → literal (w ∷ word) (name ++ rest) ≡ None
literal_at_name w word [] rest begins fails = absurd cc
literal_at_name w word (c ∷ name) rest begins fails =
    literal_not (w ∷ word) (c ∷ (name ++ rest)) (λ more e.
    let same : c ≡ w = ap (λ (l : List ℕ). get_or l 0 0) e in
    let clash : true ≡ false = sym begins ∙ ap is_ascii_alphanumeric same ∙ fails in absurd cc)

-- the word of a name, with `.git` behind it or not
word_stays : (git : Bool) (repo : List ℕ) → is_repo_name repo ≡ true → checked is_repo_name (repo_word (repo ++ (if git then codes ".git" else []))) ≡ Some repo
word_stays false repo is = rw (append-nil repo, (repo_facts repo is).no_git, is) refl
word_stays true repo is =
    let short : length (repo ++ codes ".git") - 4 ≡ length repo = omega (arith, length-append repo (codes ".git")) in
    rw (short, drop_at repo (codes ".git") (length repo) refl, take_at repo (codes ".git") (length repo) refl, is, is) refl

-- with a slash before it or not
path_stays : (slash git : Bool) (repo : List ℕ) → is_repo_name repo ≡ true
    → checked is_repo_name (repo_word (without_slash ((if slash then codes "/" else []) ++ (repo ++ (if git then codes ".git" else []))))) ≡ Some repo
path_stays true git repo is = rw (literal_again (codes "/") (repo ++ (if git then codes ".git" else []))) (word_stays git repo is)
path_stays false git repo is = rw (literal_at_name 47 [] repo (if git then codes ".git" else []) (repo_facts repo is).begins refl) (word_stays git repo is)

slash_lacks : (slash : Bool) (byte : ℕ) → not (47 == byte) ≡ true → Lacks byte (if slash then codes "/" else [])
slash_lacks true byte other = rw other refl
slash_lacks false byte other = refl

git_lacks : (git : Bool) (byte : ℕ) → Lacks byte (codes ".git") → Lacks byte (if git then codes ".git" else [])
git_lacks true byte other = other
git_lacks false byte other = refl

path_lacks : (asking : Asking) (byte : ℕ) → IsAsking asking → is_name_byte (codes "-._@/+") byte ≡ false → not (47 == byte) ≡ true → Lacks byte (codes ".git") → Lacks byte (path_text asking)
path_lacks asking byte is other slash git =
    both_pass (λ b. not (b == byte)) (if asking.slash then codes "/" else []) (asking.repo ++ (if asking.git then codes ".git" else [])) (slash_lacks asking.slash byte slash)
    (both_pass (λ b. not (b == byte)) asking.repo (if asking.git then codes ".git" else []) (test_lacks (is_name_byte (codes "-._@/+")) byte asking.repo other (repo_facts asking.repo is.repo_name).bytes) (git_lacks asking.git byte git))

few_more : (b : Bool) (text : List ℕ) → length (if b then text else []) ≤ length text
few_more true text = omega arith
few_more false text = omega arith

path_length : (asking : Asking) → IsAsking asking → length (path_text asking) ≤ 205
path_length asking is =
    let slash : length (if asking.slash then codes "/" else []) ≤ 1 = few_more asking.slash (codes "/") in
    let git : length (if asking.git then codes ".git" else []) ≤ 4 = few_more asking.git (codes ".git") in
    omega (arith, slash, git, (repo_facts asking.repo is.repo_name).short, length-append (if asking.slash then codes "/" else []) (asking.repo ++ (if asking.git then codes ".git" else [])), length-append asking.repo (if asking.git then codes ".git" else []))

repo_quoted : (asking : Asking) → IsAsking asking → repo_named (39 ∷ (path_text asking ++ 39 ∷ [])) ≡ Some asking.repo
unfolding repo_named
repo_quoted asking is =
    let path : List ℕ = path_text asking in
    let inside : inside_quotes (39 ∷ (path ++ 39 ∷ [])) ≡ Some path = rw (literal_again (codes "'") (path ++ 39 ∷ []), up_to_at 39 path [] (path_lacks asking 39 is refl refl refl)) refl in
    rw inside (path_stays asking.slash asking.git asking.repo is.repo_name)

pub repo_bare : (repo : List ℕ) → is_repo_name repo ≡ true → repo_named repo ≡ Some repo
unfolding repo_named
repo_bare repo is =
    let facts = repo_facts repo is in
    let no_quote : literal (codes "'") repo ≡ None = ap (literal (codes "'")) (sym (append-nil repo)) ∙ literal_at_name 39 [] repo [] facts.begins refl in
    rw no_quote (ap (λ (w : List ℕ). checked is_repo_name (repo_word (without_slash w))) (sym (append-nil repo)) ∙ path_stays false false repo is)

-- ---- the line

pub line_asks : (user words : List ℕ) (asked : Service) → is_user_name user ≡ true → service words ≡ Some asked → first_line (user ++ 32 ∷ words) ≡ Asks (record { user = user; service = asked })
unfolding first_line
line_asks user words asked is said =
    rw (up_to_at 32 user words (test_lacks (is_name_byte (codes "-._@+")) 32 user refl (user_facts user is).bytes), is, said) refl

-- words that begin with another byte somewhere
pub other_byte : (word words : List ℕ) (n : ℕ) → ((more : List ℕ) → get_or words n 0 ≢ get_or (word ++ more) n 0) → literal word words ≡ None
other_byte word words n differ = literal_not word words (λ more e. differ more (ap (λ (l : List ℕ). get_or l n 0) e))

pub asks_push : (asking : Asking) → IsAsking asking → service (codes "git-receive-pack" ++ (codes " '" ++ (path_text asking ++ codes "'"))) ≡ Some (Receive asking.repo)
unfolding service
asks_push asking is = rw (literal_again (codes "git-receive-pack ") (39 ∷ (path_text asking ++ 39 ∷ []))) (rw (repo_quoted asking is) refl)

pub asks_fetch : (asking : Asking) → IsAsking asking → service (codes "git-upload-pack" ++ (codes " '" ++ (path_text asking ++ codes "'"))) ≡ Some (Upload asking.repo)
unfolding service
asks_fetch asking is =
    rw (other_byte (codes "git-receive-pack ") (codes "git-upload-pack" ++ (codes " '" ++ (path_text asking ++ codes "'"))) 4 (λ more e. absurd (omega (arith, e))), literal_again (codes "git-upload-pack ") (39 ∷ (path_text asking ++ 39 ∷ [])))
    (rw (repo_quoted asking is) refl)

-- ---- the packet

pub fits_line : (feed : Bool) (text : List ℕ) → length text < 65516 → length (text ++ (if feed then 10 ∷ [] else [])) ≤ 65516
fits_line true text fits = omega (arith, fits, length-append text (10 ∷ []))
fits_line false text fits = omega (arith, fits, length-append text [])

asked_goes : (payload text : List ℕ) (asked : Asked) → without_feed payload ≡ text → first_line text ≡ Asks asked → Goes (asked_in (Line payload)) [] [] [] [] (Gave asked)
asked_goes payload text asked fed is = rw (fed, is) (gives_goes asked)

pub asking_goes : (offset : ℕ) (feed : Bool) (text : List ℕ) (asked : Asked) → length text < 65516 → Lacks 10 text → first_line text ≡ Asks asked
    → Goes (asking offset) (line feed text) [] [] [] (Gave (asked, offset + length (line feed text)))
unfolding asking
asking_goes offset feed text asked fits lacks is =
    let payload : List ℕ = text ++ (if feed then 10 ∷ [] else []) in
    then_gives (next_packet offset) _ (line feed text) [] [] [] (Line payload, offset + length (line feed text)) _ (packet_goes offset (Line payload) (fits_line feed text fits))
    (then_gives (asked_in (Line payload)) _ [] [] [] [] asked _ (asked_goes payload text asked (feed_is_nothing feed text lacks) is) (gives_goes (asked, offset + length (line feed text))))

-- ---- who asks for what

asking_fits : (word : List ℕ) (asking : Asking) → IsAsking asking → length word ≤ 100 → length (asking_for word asking) < 65516
asking_fits word asking is few =
    let u = (user_facts asking.user is.user_name).short in
    let r = path_length asking is in
    let path : List ℕ = path_text asking in
    let last : length (path ++ codes "'") ≡ length path + 1 = length-append path (codes "'") in
    let behind : length (word ++ (codes " '" ++ (path ++ codes "'"))) ≡ length word + suc (suc (length (path ++ codes "'"))) = length-append word (codes " '" ++ (path ++ codes "'")) in
    let all : length (asking_for word asking) ≡ length asking.user + suc (length (word ++ (codes " '" ++ (path ++ codes "'")))) = length-append asking.user (codes " " ++ (word ++ (codes " '" ++ (path ++ codes "'")))) in
    omega (arith, u, r, few, last, behind, all)

asking_lacks : (word : List ℕ) (asking : Asking) → IsAsking asking → Lacks 10 word → Lacks 10 (asking_for word asking)
asking_lacks word asking is lacks =
    both_pass (λ b. not (b == 10)) asking.user (codes " " ++ (word ++ (codes " '" ++ (path_text asking ++ codes "'")))) (test_lacks (is_name_byte (codes "-._@+")) 10 asking.user refl (user_facts asking.user is.user_name).bytes)
    (both_pass (λ b. not (b == 10)) word (codes " '" ++ (path_text asking ++ codes "'")) lacks
    (both_pass (λ b. not (b == 10)) (path_text asking) (codes "'") (path_lacks asking 10 is refl refl refl) refl))

-- a push and a fetch, by their first packets
pub push_asked : (asking : Asking) → IsAsking asking
    → Goes (first_asking 0) (line asking.feed (asking_for (codes "git-receive-pack") asking)) [] [] [] (Gave (record { user = asking.user; service = Receive asking.repo }, 0 + length (line asking.feed (asking_for (codes "git-receive-pack") asking))))
push_asked asking is =
    asking_goes 0 asking.feed (asking_for (codes "git-receive-pack") asking) (record { user = asking.user; service = Receive asking.repo }) (asking_fits (codes "git-receive-pack") asking is (omega arith)) (asking_lacks (codes "git-receive-pack") asking is refl)
    (line_asks asking.user (codes "git-receive-pack" ++ (codes " '" ++ (path_text asking ++ codes "'"))) (Receive asking.repo) is.user_name (asks_push asking is))

pub fetch_asked : (asking : Asking) → IsAsking asking
    → Goes (first_asking 0) (line asking.feed (asking_for (codes "git-upload-pack") asking)) [] [] [] (Gave (record { user = asking.user; service = Upload asking.repo }, 0 + length (line asking.feed (asking_for (codes "git-upload-pack") asking))))
fetch_asked asking is =
    asking_goes 0 asking.feed (asking_for (codes "git-upload-pack") asking) (record { user = asking.user; service = Upload asking.repo }) (asking_fits (codes "git-upload-pack") asking is (omega arith)) (asking_lacks (codes "git-upload-pack") asking is refl)
    (line_asks asking.user (codes "git-upload-pack" ++ (codes " '" ++ (path_text asking ++ codes "'"))) (Upload asking.repo) is.user_name (asks_fetch asking is))
