-- Turns over an input that an interaction reads whole, one behind the other.
use Rattle.std.proofs.Common.{◌≡◌, ℕ, ◌+◌, ◌<◌, ◌≤◌, Bool, true, false, if◌then◌else◌, List, [], ◌∷◌, ◌++◌, length, drop, Option, Some, Ok, refl, sym, ◌∙◌, ap, ap₂, append_assoc, length-append, arith}
use Rattle.std.proofs.lemmas.List.{append-nil, drop_at}
use Rattle.git_object.specs.Content.{Content}
use Rattle.git_object.specs.Object.{FitOnePack}
use Rattle.pktline_core.specs.Packets.{Packet, packet_front, spelling}
use Rattle.pktline_core.specs.Laws.{IsWritable}
use Rattle.pktline_core.proofs.LawLemmas.{packet_laws}
use Rattle.raw_pack.specs.Grammar.{ArePackable, spelled_pack}
use Rattle.raw_pack.specs.Packs.{pack_front}
use Rattle.raw_pack.proofs.WrittenLemmas.{written_is_read}
use Rattle.hub_history.specs.Requests.{Request}
use Rattle.interaction_tree.specs.Wanted as wanted
use Rattle.interaction_tree.specs.Wanted.{front_of, shown}
use Rattle.interaction_tree.specs.Requests.{OwnEntry}
use Rattle.interaction_tree.specs.Interaction.{Interaction, gives, ends, ◌>>=◌, write, read, ask}
use Rattle.interaction_tree.specs.Turns.{Extent, Turn, Stop, Gave, Ended, turn_over, behind, and_then}
use Rattle.interaction_tree.proofs.CompositionLemmas.{turn_bind}
use Rattle.interaction_tree.proofs.FrontLemmas.{turn_read}
use Rattle.session_core.specs.declared.end.SessionEnd.{SessionEnd}
use Rattle.ref_store.specs.declared.command.Command.{Command}
use Rattle.receive_pack.specs.Changes.{all_delete}
use Rattle.receive_pack.specs.Receiving.{pack_in, pack_unless, reading_pack, refused_pack, taking_pack}
use Rattle.receive_pack.specs.declared.changes.Capabilities.{Capabilities}
use Rattle.session_core.specs.Packets.{cut_short, next_packet, or_malformed, packet_in}

-- Over this input and these entries, whatever follows them, it reads all of the input, makes all of the
-- entries, and writes these bytes.
pub record Goes {A : Type 0} (t : Interaction SessionEnd A) (input : List ℕ) (own : List OwnEntry) (requests : List Request) (bytes : List ℕ) (stop : Stop SessionEnd A) : Type 0 where
  pub as_many : length own ≡ length requests
  pub goes : (extent : Extent) (rest : List ℕ) (more : List OwnEntry) → turn_over extent t (input ++ rest) (own ++ more) ≡ record { used = input; requests = requests; bytes = bytes; stop = stop }

-- ---- one behind the other

pub then_goes : {A B : Type 0} (t : Interaction SessionEnd A) (k : A → Interaction SessionEnd B) (in1 in2 : List ℕ) (own1 own2 : List OwnEntry) (asked1 asked2 : List Request) (out1 out2 : List ℕ) (value : A) (stop : Stop SessionEnd B)
    → Goes t in1 own1 asked1 out1 (Gave value) → Goes (k value) in2 own2 asked2 out2 stop → Goes (t >>= k) (in1 ++ in2) (own1 ++ own2) (asked1 ++ asked2) (out1 ++ out2) stop
then_goes {A} {B} t k in1 in2 own1 own2 asked1 asked2 out1 out2 value stop first second = record {
  as_many = length-append own1 own2 ∙ ap₂ ◌+◌ first.as_many second.as_many ∙ sym (length-append asked1 asked2);
  goes = λ extent rest more.
      ap₂ (turn_over extent (t >>= k)) (append_assoc in1 in2 rest) (append_assoc own1 own2 more)
      ∙ turn_bind extent k t (in1 ++ (in2 ++ rest)) (own1 ++ (own2 ++ more))
      ∙ ap (λ (u : Turn SessionEnd A). and_then u (λ value used requests. turn_over extent (k value) (drop (length used) (in1 ++ (in2 ++ rest))) (drop (length requests) (own1 ++ (own2 ++ more))))) (first.goes extent (in2 ++ rest) (own2 ++ more))
      ∙ (λ i. behind in1 asked1 out1 (turn_over extent (k value) (drop_at in1 (in2 ++ rest) (length in1) refl i) (drop_at own1 (own2 ++ more) (length asked1) first.as_many i)))
      ∙ ap (behind in1 asked1 out1) (second.goes extent rest more);
}

pub goes_as : {A : Type 0} (t : Interaction SessionEnd A) (input input' : List ℕ) (own : List OwnEntry) (asked : List Request) (out out' : List ℕ) (stop : Stop SessionEnd A)
    → input ≡ input' → out ≡ out' → Goes t input own asked out stop → Goes t input' own asked out' stop
goes_as t input input' own asked out out' stop p q goes = record {
  as_many = goes.as_many;
  goes = λ extent rest more. ap (λ (l : List ℕ). turn_over extent t (l ++ rest) (own ++ more)) (sym p) ∙ goes.goes extent rest more ∙ (λ i. record { used = p i; requests = asked; bytes = q i; stop = stop });
}

-- the second reads, asks and writes nothing
pub then_gives : {A B : Type 0} (t : Interaction SessionEnd A) (k : A → Interaction SessionEnd B) (input : List ℕ) (own : List OwnEntry) (asked : List Request) (out : List ℕ) (value : A) (stop : Stop SessionEnd B)
    → Goes t input own asked out (Gave value) → Goes (k value) [] [] [] [] stop → Goes (t >>= k) input own asked out stop
then_gives {A} {B} t k input own asked out value stop first second = record {
  as_many = first.as_many;
  goes = λ extent rest more.
      turn_bind extent k t (input ++ rest) (own ++ more)
      ∙ ap (λ (u : Turn SessionEnd A). and_then u (λ value used requests. turn_over extent (k value) (drop (length used) (input ++ rest)) (drop (length requests) (own ++ more)))) (first.goes extent rest more)
      ∙ (λ i. behind input asked out (turn_over extent (k value) (drop_at input rest (length input) refl i) (drop_at own more (length asked) first.as_many i)))
      ∙ ap (behind input asked out) (second.goes extent rest more)
      ∙ (λ i. record { used = append-nil input i; requests = append-nil asked i; bytes = append-nil out i; stop = stop });
}

-- ---- single steps

pub gives_goes : {A : Type 0} (value : A) → Goes (gives value) [] [] [] [] (Gave value)
unfolding turn_over
gives_goes value = record { as_many = refl; goes = λ extent rest more. refl }

pub ends_goes : {A : Type 0} (end : SessionEnd) → Goes {A = A} (ends end) [] [] [] [] (Ended end)
unfolding turn_over
ends_goes end = record { as_many = refl; goes = λ extent rest more. refl }

pub write_goes : (bytes : List ℕ) → Goes (write bytes) [] [] [] bytes (Gave tt)
unfolding turn_over write
write_goes bytes = record { as_many = refl; goes = λ extent rest more. (λ i. record { used = []; requests = []; bytes = append-nil bytes i; stop = Gave tt }) }

pub ask_goes : (request : Request) (own : OwnEntry) → Goes (ask request) [] (own ∷ []) (request ∷ []) [] (Gave own)
unfolding turn_over ask
ask_goes request own = record { as_many = refl; goes = λ extent rest more. refl }

pub said_goes : {A : Type 0} (offset : ℕ) (said : Option A) (value : A) → said ≡ Some value → Goes (or_malformed offset said) [] [] [] [] (Gave value)
said_goes offset said value is = rw is (gives_goes value)

-- ---- what is read

packet_there : (packet : Packet) → IsWritable packet → front_of wanted.Packet (spelling packet) ≡ shown (length (spelling packet)) (Ok packet)
unfolding front_of
packet_there packet writable = ap packet_front (sym (append-nil (spelling packet))) ∙ packet_laws.written_is_read packet [] writable

pub packet_goes : (offset : ℕ) (packet : Packet) → IsWritable packet → Goes (next_packet offset) (spelling packet) [] [] [] (Gave (packet, offset + length (spelling packet)))
unfolding next_packet read ◌>>=◌ turn_over
packet_goes offset packet writable = record {
  as_many = refl;
  goes = λ extent rest more.
      turn_read extent wanted.Packet cut_short (λ reply. packet_in offset reply.used reply.found) (spelling packet) rest more (Ok packet) (packet_there packet writable)
      ∙ (λ i. record { used = append-nil (spelling packet) i; requests = []; bytes = []; stop = Gave (packet, offset + length (spelling packet)) });
}

pack_there : (objects : List Content) → ArePackable objects → FitOnePack objects → front_of wanted.Pack (spelled_pack objects) ≡ shown (length (spelled_pack objects)) (Ok objects)
unfolding front_of
pack_there objects good fits = ap pack_front (sym (append-nil (spelled_pack objects))) ∙ written_is_read objects [] good fits

few_objects : (n : ℕ) → n ≤ 100000 → n < 4294967296
few_objects n few = omega (arith, few)

reading_goes : (caps : Capabilities) (commands : List Command) (objects : List Content) → FitOnePack objects → Goes (reading_pack caps commands) (spelled_pack objects) [] [] [] (Gave objects)
unfolding reading_pack read ◌>>=◌ turn_over
reading_goes caps commands objects fits = record {
  as_many = refl;
  goes = λ extent rest more.
      turn_read extent wanted.Pack (refused_pack caps commands) (λ reply. pack_in caps commands reply.found) (spelled_pack objects) rest more (Ok objects)
      (pack_there objects (record { few = few_objects (length objects) fits.few; each = fits.formed }) fits)
      ∙ (λ i. record { used = append-nil (spelled_pack objects) i; requests = []; bytes = []; stop = Gave objects });
}

unless_goes : (none : Bool) (caps : Capabilities) (commands : List Command) (objects : List Content) → FitOnePack objects
    → Goes (pack_unless none caps commands) (if none then [] else spelled_pack objects) [] [] [] (Gave (if none then [] else objects))
unless_goes true caps commands objects fits = gives_goes []
unless_goes false caps commands objects fits = reading_goes caps commands objects fits

pub pack_goes : (caps : Capabilities) (commands : List Command) (objects : List Content) → FitOnePack objects
    → Goes (taking_pack caps commands) (if all_delete commands then [] else spelled_pack objects) [] [] [] (Gave (if all_delete commands then [] else objects))
unfolding taking_pack
pack_goes caps commands objects fits = unless_goes (all_delete commands) caps commands objects fits
