-- Ids, commands and words, as a client spells them.
use Rattle.std.proofs.Common.{◌≡◌, ℕ, ◌+◌, ◌*◌, ◌<◌, ◌≤◌, Bool, true, false, cond, not, ◌==◌, if◌then◌else◌, List, [], ◌∷◌, ◌++◌, length, Option, Some, None, codes, refl, sym, ◌∙◌, ap, arith, bytes_eq, append_assoc, length-append, zero, suc, unwrap_or, option_map}
use Rattle.std.specs.List.{list_all, list_any, slice_split, flat_map, AllByRecursion}
use Rattle.std.proofs.lemmas.Bool.{le-leb}
use Rattle.std.proofs.lemmas.List.{append-nil, take_at, drop_at}
use Rattle.hex.specs.Hex.{lower_digits}
use Rattle.hex.proofs.HexLemmas.{length-encode_with}
use Rattle.git_object.specs.ObjectId.{hex_of, hex_id, id_of_hex, is_lower_digit}
use Rattle.git_object.specs.Reader.{up_to}
use Rattle.git_object.specs.Spelling.{IsId}
use Rattle.git_object.specs.declared.object_id.ObjectId.{ObjectId}
use Rattle.git_object.proofs.IdLemmas.{id_of_hex-encode_lower}
use Rattle.git_object.proofs.SpellingLemmas.{literal_again}
use Rattle.conf_lex.specs.Cleaning.{joined}
use Rattle.pktline_core.specs.Packets.{Line, Flush, spelling}
use Rattle.ref_store.specs.declared.command.Command.{Command}
use Rattle.interaction_tree.specs.Turns.{Gave}
use Rattle.session_core.specs.FirstPacket.{without_feed}
use Rattle.session_core.specs.Packets.{next_packet, or_malformed}
use Rattle.receive_pack.specs.Changes.{capabilities, change, first_capabilities, first_command, has_word, is_ref_text, parts}
use Rattle.receive_pack.specs.Receiving.{further_in, taking_commands, taking_further, taking_rest}
use Rattle.receive_pack.specs.declared.changes.Capabilities.{Capabilities}
use Rattle.session_laws.specs.Sending.{Lacks, AreWords, IsCommand, command_text, first_text, line}
use Rattle.session_laws.specs.Laws.{is_among}
use Rattle.session_laws.proofs.LineLemmas.{both_pass, feed_is_nothing, split_none, split_at, up_to_at}
use Rattle.session_laws.proofs.FirstLemmas.{fits_line, test_lacks}
use Rattle.session_laws.proofs.TurnLemmas.{Goes, gives_goes, goes_as, packet_goes, said_goes, then_gives, then_goes}

-- ---- ids

pub hex_length : (id : ObjectId) → IsId id → length (hex_of id) ≡ 40
hex_length id is = length-encode_with lower_digits id.bytes ∙ ap (λ n. 2 * n) is.twenty

pub hex_id_again : (id : ObjectId) (rest : List ℕ) → IsId id → hex_id (hex_of id ++ rest) ≡ Some (id, rest)
unfolding hex_id
hex_id_again id rest is =
    let len = hex_length id is in
    let read : id_of_hex (hex_of id) ≡ Some id = id_of_hex-encode_lower id.bytes is.twenty is.bytes in
    rw (take_at (hex_of id) rest 40 len, drop_at (hex_of id) rest 40 len, read) refl

passed_test : {A : Type 0} (b : Bool) (o : Option A) (x : A) → cond b o None ≡ Some x → b ≡ true
passed_test true o x e = refl
passed_test false o x e = absurd cc

hex_lower : (id : ObjectId) → IsId id → list_all is_lower_digit (hex_of id) ≡ true
unfolding id_of_hex
hex_lower id is = passed_test (list_all is_lower_digit (hex_of id)) _ _ (id_of_hex-encode_lower id.bytes is.twenty is.bytes)

pub hex_lacks : (id : ObjectId) (byte : ℕ) → IsId id → is_lower_digit byte ≡ false → Lacks byte (hex_of id)
hex_lacks id byte is other = test_lacks is_lower_digit byte (hex_of id) other (hex_lower id is)

-- ---- a command

command_lacks : (c : Command) (byte : ℕ) → IsCommand c → is_lower_digit byte ≡ false → not (32 == byte) ≡ true → Lacks byte c.name → Lacks byte (command_text c)
command_lacks c byte is other space lacks =
    both_pass (λ b. not (b == byte)) (hex_of c.old) (32 ∷ hex_of c.new ++ 32 ∷ c.name) (hex_lacks c.old byte is.old other)
    (rw space (both_pass (λ b. not (b == byte)) (hex_of c.new) (32 ∷ c.name) (hex_lacks c.new byte is.new other) (rw space lacks)))

is_text : (text : List ℕ) → 1 ≤ length text → length text ≤ 1024 → Lacks 0 text → is_ref_text text ≡ true
is_text text some short lacks = rw (le-leb 1 (length text) some, le-leb (length text) 1024 short) lacks

pub change_again : (c : Command) → IsCommand c → change (command_text c) ≡ Some c
unfolding change parts
change_again c is =
    rw (hex_id_again c.old (32 ∷ hex_of c.new ++ 32 ∷ c.name) is.old, literal_again (codes " ") (hex_of c.new ++ 32 ∷ c.name), hex_id_again c.new (32 ∷ c.name) is.new, literal_again (codes " ") c.name, is_text c.name is.some is.short is.no_zero) refl

command_length : (c : Command) → IsCommand c → length (command_text c) < 65516
command_length c is =
    let new : length (hex_of c.new ++ 32 ∷ c.name) ≡ length (hex_of c.new) + suc (length c.name) = length-append (hex_of c.new) (32 ∷ c.name) in
    let all : length (command_text c) ≡ length (hex_of c.old) + suc (length (hex_of c.new ++ 32 ∷ c.name)) = length-append (hex_of c.old) (32 ∷ hex_of c.new ++ 32 ∷ c.name) in
    omega (arith, new, all, hex_length c.old is.old, hex_length c.new is.new, is.short)

-- ---- words

joined_lacks : (byte : ℕ) (words : List (List ℕ)) → not (32 == byte) ≡ true → AllByRecursion (λ word. Lacks byte word) words → Lacks byte (flat_map (λ word. 32 ∷ word) words)
joined_lacks byte [] space each = refl
joined_lacks byte (w ∷ words) space each = rw space (both_pass (λ b. not (b == byte)) w (flat_map (λ word. 32 ∷ word) words) each.0 (joined_lacks byte words space each.1))

no_feeds : (words : List (List ℕ)) → AreWords words → AllByRecursion (λ word. Lacks 10 word) words
no_feeds [] are = tt
no_feeds (w ∷ words) are = (are.0.1, no_feeds words are.1)

pub spaced_lacks : (words : List (List ℕ)) → AreWords words → Lacks 10 (flat_map (λ word. 32 ∷ word) words)
spaced_lacks words are = joined_lacks 10 words refl (no_feeds words are)

words_lack : (words : List (List ℕ)) → AreWords words → Lacks 10 (joined words)
words_lack [] are = refl
words_lack (w ∷ words) are = both_pass (λ b. not (b == 10)) w (flat_map (λ v. 32 ∷ v) words) are.0.1 (spaced_lacks words are.1)

split_again : (w : List ℕ) (words : List (List ℕ)) → AreWords (w ∷ words) → slice_split (λ b. b == 32) (joined (w ∷ words)) ≡ w ∷ words
split_again w [] are = ap (slice_split (λ b. b == 32)) (append-nil w) ∙ split_none 32 w are.0.0
split_again w (v ∷ words) are = split_at 32 w (v ++ flat_map (λ v. 32 ∷ v) words) are.0.0 ∙ ap (λ (l : List (List ℕ)). w ∷ l) (split_again v words are.1)

-- a word is found where it is among them
pub word_found : (word : List ℕ) (words : List (List ℕ)) → bytes_eq [] word ≡ false → AreWords words → has_word word (joined words) ≡ is_among words word
word_found word [] some are = rw some refl
word_found word (w ∷ words) some are = ap (list_any (λ w. bytes_eq w word)) (split_again w words are)

-- ---- the first command

first_line_lacks : (c : Command) (words : List (List ℕ)) → IsCommand c → AreWords words → Lacks 10 (first_text c words)
first_line_lacks c words is are = both_pass (λ b. not (b == 10)) (command_text c) (0 ∷ joined words) (command_lacks c 10 is refl refl is.no_feed) (words_lack words are)

zero_found : (c : Command) (words : List (List ℕ)) → IsCommand c → up_to 0 (first_text c words) ≡ Some (command_text c, joined words)
zero_found c words is = up_to_at 0 (command_text c) (joined words) (command_lacks c 0 is refl refl is.no_zero)

pub first_again : (c : Command) (words : List (List ℕ)) → IsCommand c → first_command (first_text c words) ≡ Some c
first_again c words is = rw (zero_found c words is) (change_again c is)

-- what is among a client's words
abbrev pub asked_for : List (List ℕ) → Capabilities
asked_for words = record { report_status = is_among words (codes "report-status"); atomic = is_among words (codes "atomic") }

pub capabilities_again : (c : Command) (words : List (List ℕ)) → IsCommand c → AreWords words → first_capabilities (first_text c words) ≡ asked_for words
capabilities_again c words is are =
    ap capabilities (ap (λ o. unwrap_or (option_map (λ p. p.1) o) []) (zero_found c words is))
    ∙ (λ i. record { report_status = word_found (codes "report-status") words refl are i; atomic = word_found (codes "atomic") words refl are i })

-- ---- further commands

further_goes : (offset : ℕ) (payload text : List ℕ) (c : Command) → without_feed payload ≡ text → change text ≡ Some c → Goes (further_in offset (Line payload)) [] [] [] [] (Gave (Some c))
further_goes offset payload text c fed is =
    then_gives (or_malformed offset (change (without_feed payload))) _ [] [] [] [] c _ (said_goes offset (change (without_feed payload)) c (ap change fed ∙ is)) (gives_goes (Some c))

command_goes : (feed : Bool) (offset : ℕ) (c : Command) → IsCommand c → Goes (taking_further offset) (line feed (command_text c)) [] [] [] (Gave (Some c, offset + length (line feed (command_text c))))
unfolding taking_further
command_goes feed offset c is =
    let payload : List ℕ = command_text c ++ (if feed then 10 ∷ [] else []) in
    let behind : ℕ = offset + length (line feed (command_text c)) in
    then_gives (next_packet offset) _ (line feed (command_text c)) [] [] [] (Line payload, behind) _ (packet_goes offset (Line payload) (fits_line feed (command_text c) (command_length c is)))
    (then_gives (further_in offset (Line payload)) _ [] [] [] [] (Some c) _ (further_goes offset payload (command_text c) c (feed_is_nothing feed (command_text c) (command_lacks c 10 is refl refl is.no_feed)) (change_again c is)) (gives_goes (Some c, behind)))

flush_goes : (offset : ℕ) → Goes (taking_further offset) (spelling Flush) [] [] [] (Gave (None, offset + length (spelling Flush)))
unfolding taking_further
flush_goes offset =
    then_gives (next_packet offset) _ (spelling Flush) [] [] [] (Flush, offset + length (spelling Flush)) _ (packet_goes offset Flush tt)
    (then_gives (further_in offset Flush) _ [] [] [] [] None _ (gives_goes None) (gives_goes (None, offset + length (spelling Flush))))

rest_goes : (feed : Bool) (commands : List Command) (left offset : ℕ) → length commands ≤ left → AllByRecursion IsCommand commands
    → Goes (taking_rest left offset) (flat_map (λ command. line feed (command_text command)) commands ++ spelling Flush) [] [] [] (Gave commands)
unfolding taking_rest
rest_goes feed [] zero offset few each = then_gives (taking_further offset) _ (spelling Flush) [] [] [] (None, offset + length (spelling Flush)) _ (flush_goes offset) (gives_goes [])
rest_goes feed [] (suc left) offset few each = then_gives (taking_further offset) _ (spelling Flush) [] [] [] (None, offset + length (spelling Flush)) _ (flush_goes offset) (gives_goes [])
rest_goes feed (c ∷ commands) zero offset few each = absurd (omega (arith, few))
rest_goes feed (c ∷ commands) (suc left) offset few each =
    let first : List ℕ = line feed (command_text c) in
    let more : List ℕ = flat_map (λ command. line feed (command_text command)) commands in
    let behind : ℕ = offset + length first in
    goes_as _ (first ++ (more ++ spelling Flush)) ((first ++ more) ++ spelling Flush) [] [] [] [] _ (sym (append_assoc first more (spelling Flush))) refl
    (then_goes (taking_further offset) _ first (more ++ spelling Flush) [] [] [] [] [] [] (Some c, behind) _ (command_goes feed offset c each.0)
    (then_gives (taking_rest left behind) _ (more ++ spelling Flush) [] [] [] commands _ (rest_goes feed commands left behind (omega (arith, few)) each.1) (gives_goes (c ∷ commands))))

pub commands_go : (feed : Bool) (first : Command) (others : List Command) (offset : ℕ) → length others ≤ 9999 → AllByRecursion IsCommand others
    → Goes (taking_commands first offset) (flat_map (λ command. line feed (command_text command)) others ++ spelling Flush) [] [] [] (Gave (first ∷ others))
unfolding taking_commands
commands_go feed first others offset few each =
    then_gives (taking_rest 9999 offset) _ (flat_map (λ command. line feed (command_text command)) others ++ spelling Flush) [] [] [] others _ (rest_goes feed others 9999 offset few each) (gives_goes (first ∷ others))

pub first_lacks : (c : Command) (words : List (List ℕ)) → IsCommand c → AreWords words → Lacks 10 (first_text c words)
first_lacks c words is are = first_line_lacks c words is are
