-- Calls of a session, one after the other.
use Rattle.std.proofs.Common.{◌≡◌, ◌+◌, inl, inr, ℕ, List, [], ◌++◌, length, Option, Result, Ok, Err, refl, sym, ◌∙◌, ap, subst, arith, append_assoc, length-append}
use Rattle.std.specs.Result.{IsErrAnd}
use Rattle.std.proofs.lemmas.Result.{err_from_is_err_and}
use Rattle.pktline_core.specs.LinkState.{LinkState}
use Rattle.pktline_core.specs.Links.{IsLater, KeepsReading, KeepsWriting, TellsWriting, Writes}
use Rattle.pktline_core.specs.declared.links.WriteFault.{WriteFault}
use Rattle.pktline_core.specs.declared.links.WriteFault.TheVariants as unwritten
use Rattle.pktline_core.specs.Packets as packets
use Rattle.pktline_core.specs.Reading.{ReadsPacket, TellsFault, packet_of, answer_of}
use Rattle.pktline_core.specs.declared.packets.Pkt.{Pkt}
use Rattle.pktline_core.specs.declared.packets.PktFault.{PktFault}
use Rattle.pktline_core.specs.declared.packets.PktFault.TheVariants.{Truncated, BadLength, ReadFault}
use Rattle.hub.specs.Desk.{DeskView}
use Rattle.interaction_tree.specs.Wanted.{Packet, front_of, Reply}
use Rattle.interaction_tree.specs.Requests.{OwnEntry}
use Rattle.interaction_tree.specs.Interaction.{Interaction, gives, ends, writes, ◌>>=◌, write, read}
use Rattle.interaction_tree.specs.Traces.{Reading, Writing, Memory, Halt, Ended, Failed, Begins, FallsShort, IsTrace}
use Rattle.interaction_tree.specs.Runs.{Runs, TakesOnly}
use Rattle.interaction_tree.proofs.RunLemmas.{runs_still, runs_bind, runs_gives, runs_ends, runs_halts, runs_memory, runs_read, runs_failed, runs_cut, runs_written}
use Rattle.session_core.specs.declared.end.SessionEnd.{SessionEnd}
use Rattle.session_core.specs.declared.end.SessionEnd.TheVariants as end
use Rattle.session_core.specs.End.{TellsEnd, TellsLink, halt_of, outcome_of, outcome_at}
use Rattle.session_core.specs.Packets.{EndsBy, cut_short, end_of_write, malformed, next_packet, packet_in, refuse}

-- ---- one after the other

module _ {A B : Type 0} (a b : LinkState) (d e : DeskView) (t : Interaction SessionEnd A) (k : A → Interaction SessionEnd B) (result : Result A SessionEnd) where
  -- a call that ends the session, and with it what would have followed
  pub halts : (end : SessionEnd) → result ≡ Err end → Runs a b d e t (outcome_of result) → Runs a b d e (t >>= k) (Err (halt_of end))
  halts end was ran = runs_halts a b d e t k (halt_of end) (subst (λ (r : Result A SessionEnd). Runs a b d e t (outcome_of r)) was ran)

  -- the same where the end is answered on
  pub exits : (r : Result B SessionEnd) (end y : SessionEnd) → result ≡ Err end → r ≡ Err y → y ≡ end → Runs a b d e t (outcome_of result) → Runs a b d e (t >>= k) (outcome_of r)
  exits r end y was is same ran = subst (λ (r : Result B SessionEnd). Runs a b d e (t >>= k) (outcome_of r)) (sym (is ∙ ap (λ (x : SessionEnd). Err x) same)) (halts end was ran)

  -- a call, and the rest
  pub goes : (c : LinkState) (f : DeskView) (x : A) (out : Result B (Halt SessionEnd)) → result ≡ Ok x → Runs a b d e t (outcome_of result) → Runs b c e f (k x) out → Runs a c d f (t >>= k) out
  goes c f x out was ran rest = runs_bind a b c d e f t x k out (subst (λ (r : Result A SessionEnd). Runs a b d e t (outcome_of r)) was ran) rest

-- a refusal, whatever would have been given
pub refused : {B : Type 0} (a b : LinkState) (d : DeskView) (text : List ℕ) (end : SessionEnd) (halt : Halt SessionEnd) → Runs {A = Unit {0}} a b d d (refuse text end) (Err halt) → Runs {A = B} a b d d (refuse text end) (Err halt)
unfolding ◌>>=◌ write refuse
refused {B} a b d text end halt ran =
    let k : Unit {0} → Interaction SessionEnd B = λ u. ends end in
    runs_halts a b d d (refuse text end) k halt ran

pub malformed_here : {B : Type 0} (a b : LinkState) (d : DeskView) (offset : ℕ) (halt : Halt SessionEnd) → Runs {A = Unit {0}} a b d d (malformed offset) (Err halt) → Runs {A = B} a b d d (malformed offset) (Err halt)
unfolding malformed
malformed_here a b d offset halt ran = refused a b d _ _ halt ran

-- ---- a fault of another type that `?` makes an end

-- what holds of an end holds of it as it is told
pub told_as : {A : Type 0} (end : SessionEnd) (P : Result A SessionEnd → Type 0) → P (Err end) → (r : Result A SessionEnd) → IsErrAnd r (λ (y : SessionEnd). y ≡ end) → P r
told_as end P here r is = let p = err_from_is_err_and r is in subst P (sym (p.1 ∙ ap (λ (x : SessionEnd). Err x) p.2)) here

-- out of memory, before anything is read or written
module _ {A : Type 0} (a : LinkState) (d : DeskView) where
  pub lacks : (t : Interaction SessionEnd A) (r : Result A SessionEnd) → IsErrAnd r (λ (y : SessionEnd). y ≡ end.NoMemory) → Runs a a d d t (outcome_of r)
  lacks t r is = told_as end.NoMemory (λ (r : Result A SessionEnd). Runs a a d d t (outcome_of r)) (runs_memory a d t) r is

  pub lacks_at : (t : Interaction SessionEnd (A × ℕ)) (r : Result A SessionEnd) (offset : ℕ) → IsErrAnd r (λ (y : SessionEnd). y ≡ end.NoMemory) → Runs a a d d t (outcome_at r offset)
  lacks_at t r offset is = told_as end.NoMemory (λ (r : Result A SessionEnd). Runs a a d d t (outcome_at r offset)) (runs_memory a d t) r is

module _ (a b : LinkState) (result : Result (Unit {0}) WriteFault) where
  module _ (d : DeskView) (bytes : List ℕ) (w : Writes a b bytes result) (keeps : KeepsReading a b) (later : IsLater a b) where
    written_by : (cause : WriteFault) → result ≡ Err cause → Runs a b d d (write bytes) (Err (halt_of (end_of_write cause)))
    written_by unwritten.Failed was = runs_written SessionEnd a b d bytes result (Err unwritten.Failed) was w keeps later
    written_by unwritten.NoMemory was = runs_written SessionEnd a b d bytes result (Err unwritten.NoMemory) was w keeps later

    -- bytes that aren't written
    pub write_exits : (cause : WriteFault) → result ≡ Err cause → (r : Result (Unit {0}) SessionEnd) → IsErrAnd r (λ (y : SessionEnd). y ≡ end_of_write cause) → Runs a b d d (write bytes) (outcome_of r)
    write_exits cause was r is = told_as (end_of_write cause) (λ (r : Result (Unit {0}) SessionEnd). Runs a b d d (write bytes) (outcome_of r)) (written_by cause was) r is

    -- bytes that are
    pub write_goes : (u : Unit {0}) → result ≡ Ok u → Runs {E = SessionEnd} a b d d (write bytes) (Ok tt)
    write_goes u was = runs_written SessionEnd a b d bytes result (Ok u) was w keeps later

  -- no failure is hidden by bytes that aren't written
  write_tells_end : (cause : WriteFault) → TellsWriting a b (Err cause) → KeepsReading a b → TellsEnd a b (end_of_write cause)
  write_tells_end unwritten.Failed tells keeps = keeps.read_faults
  write_tells_end unwritten.NoMemory tells keeps = (keeps.read_faults, tells)

  pub write_tells : {A : Type 0} (cause : WriteFault) → result ≡ Err cause → (r : Result A SessionEnd) → IsErrAnd r (λ (y : SessionEnd). y ≡ end_of_write cause) → TellsWriting a b result → KeepsReading a b → TellsLink a b r
  write_tells {A} cause was r is tells keeps = told_as (end_of_write cause) (λ (r : Result A SessionEnd). TellsLink a b r) (write_tells_end cause (subst (TellsWriting a b) was tells) keeps) r is

-- ---- bytes in parts

begins_more : (front bytes more : List ℕ) → Begins front bytes → Begins front (bytes ++ more)
begins_more front bytes more b = (b.0 ++ more, ap (λ (l : List ℕ). l ++ more) b.1 ∙ append_assoc front b.0 more)

short_more : (front bytes more : List ℕ) → FallsShort front bytes → FallsShort front (bytes ++ more)
short_more front bytes more s = (s.0 ++ more, ap (λ (l : List ℕ). l ++ more) s.1 ∙ append_assoc front s.0 more, omega (arith, s.2, length-append s.0 more))

module _ {A : Type 0} (left : Option (List ℕ)) (x y : List ℕ) (t : Interaction SessionEnd A) where
  -- standing in the second part
  still_second : (out : Result A (Halt SessionEnd)) (read written more : List ℕ) (own : List OwnEntry) → written ≡ x ++ more → IsTrace left out (writes y t) read more own → IsTrace left out (writes (x ++ y) t) read written own
  still_second (Ok v) read written more own is (inl p) = absurd p.0
  still_second (Err (Ended e)) read written more own is (inl p) = absurd p.0
  still_second (Err (Failed Reading)) read written more own is (inl p) = absurd p.0
  still_second (Err (Failed Writing)) read written more own is (inl p) =
      inl ((p.0.0, (p.0.1.0, ap (λ (l : List ℕ). x ++ l) p.0.1.1 ∙ sym (append_assoc x more p.0.1.0) ∙ ap (λ (l : List ℕ). l ++ p.0.1.0) (sym is), p.0.1.2)), p.1)
  still_second (Err (Failed Memory)) read written more own is (inl p) =
      inl ((p.0.0, (p.0.1.0, ap (λ (l : List ℕ). x ++ l) p.0.1.1 ∙ sym (append_assoc x more p.0.1.0) ∙ ap (λ (l : List ℕ). l ++ p.0.1.0) (sym is))), p.1)
  still_second out read written more own is (inr p) = inr (p.0, is ∙ ap (λ (l : List ℕ). x ++ l) p.1 ∙ sym (append_assoc x y p.0), p.2)

  trace_joined : (out : Result A (Halt SessionEnd)) (read written : List ℕ) (own : List OwnEntry) → IsTrace left out (writes x (writes y t)) read written own → IsTrace left out (writes (x ++ y) t) read written own
  trace_joined (Ok v) read written own (inl p) = absurd p.0
  trace_joined (Err (Ended e)) read written own (inl p) = absurd p.0
  trace_joined (Err (Failed Reading)) read written own (inl p) = absurd p.0
  trace_joined (Err (Failed Writing)) read written own (inl p) = inl ((p.0.0, short_more written x y p.0.1), p.1)
  trace_joined (Err (Failed Memory)) read written own (inl p) = inl ((p.0.0, begins_more written x y p.0.1), p.1)
  trace_joined out read written own (inr p) = still_second out read written p.0 own p.1 p.2

-- two writes, and the bytes of both
runs_joined : {A : Type 0} (a b : LinkState) (d e : DeskView) (x y : List ℕ) (t : Interaction SessionEnd A) (out : Result A (Halt SessionEnd)) → Runs a b d e (writes x (writes y t)) out → Runs a b d e (writes (x ++ y) t) out
runs_joined a b d e x y t out p = record {
  read = p.read;
  written = p.written;
  own = p.own;
  consumed = p.consumed;
  counted = p.counted;
  appended = p.appended;
  made = p.made;
  trace = trace_joined b.left x y t out p.read p.written p.own p.trace;
  later = p.later;
  caused = p.caused;
}

module _ (a b : LinkState) (d : DeskView) (x y : List ℕ) (result : Result (Unit {0}) SessionEnd) where
  -- the first part isn't written whole
  pub says_halts : (end : SessionEnd) → result ≡ Err end → Runs a b d d (write x) (outcome_of result) → Runs a b d d (write (x ++ y)) (Err (halt_of end))
  unfolding ◌>>=◌ write
  says_halts end was ran = runs_joined a b d d x y (gives tt) (Err (halt_of end)) (halts a b d d (write x) (λ u. write y) result end was ran)

  pub says_exits : (r : Result (Unit {0}) SessionEnd) (end z : SessionEnd) → result ≡ Err end → r ≡ Err z → z ≡ end → Runs a b d d (write x) (outcome_of result) → Runs a b d d (write (x ++ y)) (outcome_of r)
  says_exits r end z was is same ran = subst (λ (r : Result (Unit {0}) SessionEnd). Runs a b d d (write (x ++ y)) (outcome_of r)) (sym (is ∙ ap (λ (q : SessionEnd). Err q) same)) (says_halts end was ran)

  -- the first part, and the second
  pub says : (c : LinkState) (u : Unit {0}) (out : Result (Unit {0}) (Halt SessionEnd)) → result ≡ Ok u → Runs a b d d (write x) (outcome_of result) → Runs b c d d (write y) out → Runs a c d d (write (x ++ y)) out
  unfolding ◌>>=◌ write
  says c u out was ran rest = runs_joined a c d d x y (gives tt) out (goes a b d d (write x) (λ u. write y) result c d u out was ran rest)

-- no bytes at all
pub says_nothing : (a : LinkState) (d : DeskView) → Runs {E = SessionEnd} a a d d (write []) (Ok tt)
unfolding write
says_nothing a d = runs_still a d (write []) (Ok tt) tt (inr ([], refl, ((refl, refl, refl), refl)))

-- the same of a call that gives a value and the offset behind it
module _ {A B : Type 0} (a b : LinkState) (d e : DeskView) (t : Interaction SessionEnd (A × ℕ)) (k : A × ℕ → Interaction SessionEnd B) (result : Result A SessionEnd) (offset : ℕ) where
  pub exits_at : (r : Result B SessionEnd) (end y : SessionEnd) → result ≡ Err end → r ≡ Err y → y ≡ end → Runs a b d e t (outcome_at result offset) → Runs a b d e (t >>= k) (outcome_of r)
  exits_at r end y was is same ran =
      subst (λ (r : Result B SessionEnd). Runs a b d e (t >>= k) (outcome_of r)) (sym (is ∙ ap (λ (x : SessionEnd). Err x) same))
      (runs_halts a b d e t k (halt_of end) (subst (λ (r : Result A SessionEnd). Runs a b d e t (outcome_at r offset)) was ran))

  pub goes_at : (c : LinkState) (f : DeskView) (x : A) (out : Result B (Halt SessionEnd)) → result ≡ Ok x → Runs a b d e t (outcome_at result offset) → Runs b c e f (k (x, offset)) out → Runs a c d f (t >>= k) out
  goes_at c f x out was ran rest = runs_bind a b c d e f t (x, offset) k out (subst (λ (r : Result A SessionEnd). Runs a b d e t (outcome_at r offset)) was ran) rest

-- ---- a packet that is wanted

-- the offset behind a packet
behind_packet : (old new before after taken : ℕ) → new + before ≡ old + after → after ≡ before + taken → new ≡ old + taken
behind_packet old new before after taken moved counted = omega (arith, moved, counted)

module _ {B : Type 0} (a b : LinkState) (d : DeskView) (offset : ℕ) (k : packets.Packet × ℕ → Interaction SessionEnd B) (result : Result Pkt PktFault)
    (r : ReadsPacket a b (answer_of result)) (keeps : KeepsWriting a b) (later : IsLater a b) where
  takes : (answer : Result packets.Packet PktFault) → (s : ReadsPacket a b answer) → TakesOnly a b s.taken
  takes answer s = record { consumed = s.consumed; counted = s.counted; keeps = keeps; later = later }

  answers : (answer : Result packets.Packet PktFault) → answer_of result ≡ answer → ReadsPacket a b answer
  answers answer is = subst (ReadsPacket a b) is r

  -- a packet, and the offset behind it
  pub packet_read : (pkt : Pkt) (behind : ℕ) → result ≡ Ok pkt → behind + a.given ≡ offset + b.given → Runs a b d d (next_packet offset) (Ok (packet_of pkt, behind))
  unfolding front_of next_packet
  packet_read pkt behind is moved =
      let s = answers (Ok (packet_of pkt)) (ap answer_of is) in
      let found : Reply Packet = record { used = length s.taken; found = Ok (packet_of pkt) } in
      subst (λ (n : ℕ). Runs a b d d (next_packet offset) (Ok (packet_of pkt, n))) (sym (behind_packet offset behind a.given b.given (length s.taken) moved s.counted))
      (runs_bind a b b d d d (read Packet cut_short) found (λ reply. packet_in offset reply.used reply.found) (Ok (packet_of pkt, offset + length s.taken))
      (runs_read a b d s.taken (takes (Ok (packet_of pkt)) s) Packet cut_short (Ok (packet_of pkt)) s.decided) (runs_gives b d (packet_of pkt, offset + length s.taken)))

  -- and the rest
  pub packet_then : (c : LinkState) (e : DeskView) (out : Result B (Halt SessionEnd)) (pkt : Pkt) (behind : ℕ) → result ≡ Ok pkt → behind + a.given ≡ offset + b.given
      → Runs b c d e (k (packet_of pkt, behind)) out → Runs a c d e (next_packet offset >>= k) out
  packet_then c e out pkt behind is moved rest = runs_bind a b c d d e (next_packet offset) (packet_of pkt, behind) k out (packet_read pkt behind is moved) rest

  packet_broken : (c : LinkState) (found : SessionEnd) → result ≡ Err BadLength → Runs {A = Unit {0}} b c d d (malformed offset) (Err (halt_of found)) → Runs a c d d (next_packet offset) (Err (halt_of found))
  unfolding front_of next_packet
  packet_broken c found is said =
      let s = answers (Err BadLength) (ap answer_of is) in
      runs_bind a b c d d d (read Packet cut_short) (record { used = length s.taken; found = Err BadLength }) (λ reply. packet_in offset reply.used reply.found) (Err (halt_of found))
      (runs_read a b d s.taken (takes (Err BadLength) s) Packet cut_short (Err BadLength) s.decided) (malformed_here b c d offset (halt_of found) said)

  packet_cut : result ≡ Err Truncated → Runs a b d d (next_packet offset) (Err (Ended end.Truncated))
  unfolding front_of read write ◌>>=◌ next_packet
  packet_cut is =
      let s = answers (Err Truncated) (ap answer_of is) in
      runs_cut a b d s.taken (takes (Err Truncated) s) Packet cut_short (λ reply. packet_in offset reply.used reply.found) b d Truncated (Err (Ended end.Truncated)) s.decided.0 s.decided.1
      (runs_bind b b b d d d (write []) tt (λ u. ends end.Truncated) (Err (Ended end.Truncated)) (says_nothing b d) (runs_ends b d end.Truncated))

  packet_failed : result ≡ Err ReadFault → Runs a b d d (next_packet offset) (Err (Failed Reading))
  unfolding front_of read ◌>>=◌ next_packet
  packet_failed is =
      let s = answers (Err ReadFault) (ap answer_of is) in
      runs_failed a b d s.taken (takes (Err ReadFault) s) Packet cut_short (λ reply. packet_in offset reply.used reply.found) Truncated s.decided.0 (s.decided.1, s.decided.2)

  -- a fault of it ends the session
  pub packet_ends : (c : LinkState) (fault : PktFault) (found : SessionEnd) → result ≡ Err fault → EndsBy fault offset b c found → Runs a c d d (next_packet offset) (Err (halt_of found))
  packet_ends c BadLength found is by = packet_broken c found is (by d)
  packet_ends c Truncated found is by = rw (by.0, by.1) (packet_cut is)
  packet_ends c ReadFault found is by = rw (by.0, by.1) (packet_failed is)

  -- and with it what would have followed
  pub packet_fault : (c : LinkState) (fault : PktFault) (found : SessionEnd) → result ≡ Err fault → EndsBy fault offset b c found → Runs a c d d (next_packet offset >>= k) (Err (halt_of found))
  packet_fault c fault found is by = runs_halts a c d d (next_packet offset) k (halt_of found) (packet_ends c fault found is by)

tells_later : (a b c : LinkState) (found : SessionEnd) → (b.read_faults ≡ a.read_faults) × (b.write_faults ≡ a.write_faults) → TellsEnd b c found → TellsEnd a c found
tells_later a b c end.ReadFault same told = told ∙ same.1
tells_later a b c end.WriteFault same told = told ∙ same.0
tells_later a b c end.Served same told = (told.0 ∙ same.0, told.1 ∙ same.1)
tells_later a b c end.Denied same told = (told.0 ∙ same.0, told.1 ∙ same.1)
tells_later a b c end.NoRepo same told = (told.0 ∙ same.0, told.1 ∙ same.1)
tells_later a b c end.BadCommand same told = (told.0 ∙ same.0, told.1 ∙ same.1)
tells_later a b c end.BadUser same told = (told.0 ∙ same.0, told.1 ∙ same.1)
tells_later a b c (end.Malformed offset) same told = (told.0 ∙ same.0, told.1 ∙ same.1)
tells_later a b c (end.TooLong count) same told = (told.0 ∙ same.0, told.1 ∙ same.1)
tells_later a b c end.Truncated same told = (told.0 ∙ same.0, told.1 ∙ same.1)
tells_later a b c end.NoMemory same told = (told.0 ∙ same.0, told.1 ∙ same.1)
tells_later a b c (end.BadPack fault) same told = (told.0 ∙ same.0, told.1 ∙ same.1)
tells_later a b c (end.NotOurRef id) same told = (told.0 ∙ same.0, told.1 ∙ same.1)

-- no failure is hidden by a packet's fault
pub fault_tells : (a b c : LinkState) (offset : ℕ) (fault : PktFault) (found : SessionEnd) → TellsFault {V = Pkt} a b (Err fault) → KeepsWriting a b → EndsBy fault offset b c found → TellsEnd b c found → TellsEnd a c found
fault_tells a b c offset BadLength found tells keeps by told = tells_later a b c found (tells, keeps.write_faults) told
fault_tells a b c offset Truncated found tells keeps by told = tells_later a b c found (tells, keeps.write_faults) told
fault_tells a b c offset ReadFault found tells keeps by told = rw (by.0, by.1) keeps.write_faults
