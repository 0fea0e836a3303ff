-- Code that runs an interaction, step after step.
use Rattle.std.proofs.Common.{◌≡◌, inl, inr, ℕ, List, [], ◌∷◌, ◌++◌, length, IsTrue, Option, None, Some, Result, Ok, Err, refl, sym, ◌∙◌, ap, subst, arith, length-append}
use Rattle.std.proofs.lemmas.List.{append-nil}
use Rattle.std.specs.Io.KnownBytes.{Consumes, Appends, IsAtEnd}
use Rattle.base_types.specs.Counts.{HasRisen}
use Rattle.base_types.specs.Fronts.{Partial}
use Rattle.pktline_core.specs.LinkState.{LinkState}
use Rattle.pktline_core.specs.Links.{IsLater, KeepsReading, Writes, EndsWriting}
use Rattle.pktline_core.specs.declared.links.WriteFault.{WriteFault}
use Rattle.pktline_core.specs.declared.links.WriteFault.TheVariants as write
use Rattle.pktline_core.proofs.LinkLemmas.{appends_more, consumes_more, later_same, later_more, risen_later}
use Rattle.raw_pack.specs.Reading.{IsNoMore}
use Rattle.hub.specs.Desk.{DeskView, MakesEntry}
use Rattle.interaction_tree.specs.Wanted.{Wanted, Value, Fault, front_of, Reply, shown}
use Rattle.interaction_tree.specs.Requests.{OwnEntry, asked}
use Rattle.interaction_tree.specs.Interaction.{CutOff, Interaction, gives, ends, writes, reads, ◌>>=◌, write, read, ask}
use Rattle.interaction_tree.specs.Traces.{Reading, Writing, Memory, Halt, Ended, Failed, IsTrace}
use Rattle.interaction_tree.specs.Runs.{MakesAll, IsCaused, Runs, TakesOnly, WritesOnly}
use Rattle.interaction_tree.specs.Steps.{written_as}
use Rattle.interaction_tree.proofs.TraceLemmas.{trace_memory, trace_bind, trace_halts}

made_more : (a b c : DeskView) (xs ys : List OwnEntry) → MakesAll a b xs → MakesAll b c ys → MakesAll a c (xs ++ ys)
made_more a b c [] ys p q = rw (sym p) q
made_more a b c (x ∷ xs) ys p q = (p.0, p.1, made_more p.0 b c xs ys p.2 q)

consumes_nothing : (a : Option (List ℕ)) → Consumes a a []
consumes_nothing None = tt
consumes_nothing (Some xs) = refl

appends_nothing : (a : Option (List ℕ)) → Appends a a []
appends_nothing None = tt
appends_nothing (Some xs) = sym (append-nil xs)

caused_later : {E A : Type 0} (a b c : LinkState) (out : Result A (Halt E)) → IsLater a b → IsCaused b c out → IsCaused a c out
caused_later a b c (Ok x) later h = tt
caused_later a b c (Err (Ended e)) later h = tt
caused_later a b c (Err (Failed Reading)) later h = (risen_later a.read_faults b.read_faults c.read_faults later.read_faults h.0, rw later.may_fail at h.1)
caused_later a b c (Err (Failed Writing)) later h = (risen_later a.write_faults b.write_faults c.write_faults later.write_faults h.0, rw later.may_fail at h.1)
caused_later a b c (Err (Failed Memory)) later h = tt

caused_halt : {E : Type 0} (A B : Type 0) (a b : LinkState) (halt : Halt E) → IsCaused {A = A} a b (Err halt) → IsCaused {A = B} a b (Err halt)
caused_halt A B a b (Ended e) h = tt
caused_halt A B a b (Failed Reading) h = h
caused_halt A B a b (Failed Writing) h = h
caused_halt A B a b (Failed Memory) h = tt

-- ---- without a step

pub runs_still : {E A : Type 0} (a : LinkState) (d : DeskView) (t : Interaction E A) (out : Result A (Halt E)) → IsCaused a a out → IsTrace a.left out t [] [] [] → Runs a a d d t out
runs_still a d t out caused trace = record {
  read = [];
  written = [];
  own = [];
  consumed = consumes_nothing a.left;
  counted = omega arith;
  appended = appends_nothing a.written;
  made = refl;
  trace = trace;
  later = later_same a;
  caused = caused;
}

-- memory may lack anywhere
pub runs_memory : {E A : Type 0} (a : LinkState) (d : DeskView) (t : Interaction E A) → Runs a a d d t (Err (Failed Memory))
runs_memory a d t = runs_still a d t (Err (Failed Memory)) tt (trace_memory a.left t)

pub runs_gives : {E A : Type 0} (a : LinkState) (d : DeskView) (x : A) → Runs {E = E} a a d d (gives x) (Ok x)
runs_gives a d x = runs_still a d (gives x) (Ok x) tt ((refl, refl, refl), refl)

pub runs_ends : {E A : Type 0} (a : LinkState) (d : DeskView) (e : E) → Runs {A = A} a a d d (ends e) (Err (Ended e))
runs_ends a d e = runs_still a d (ends e) (Err (Ended e)) tt ((refl, refl, refl), refl)

-- ---- one after the other

pub runs_bind : {E A B : Type 0} (a b c : LinkState) (d e f : DeskView) (t : Interaction E A) (x : A) (k : A → Interaction E B) (out : Result B (Halt E))
    → Runs a b d e t (Ok x) → Runs b c e f (k x) out → Runs a c d f (t >>= k) out
runs_bind a b c d e f t x k out p q = record {
  read = p.read ++ q.read;
  written = p.written ++ q.written;
  own = p.own ++ q.own;
  consumed = consumes_more a.left b.left c.left p.read q.read p.consumed q.consumed;
  counted = omega (arith, p.counted, q.counted, length-append p.read q.read);
  appended = appends_more a.written b.written c.written p.written q.written p.appended q.appended;
  made = made_more d e f p.own q.own p.made q.made;
  trace = trace_bind k b.left c.left x out t p.read p.written p.own q.read q.written q.own p.trace q.trace;
  later = later_more a b c p.later q.later;
  caused = caused_later a b c out p.later q.caused;
}

pub runs_halts : {E A B : Type 0} (a b : LinkState) (d e : DeskView) (t : Interaction E A) (k : A → Interaction E B) (halt : Halt E) → Runs a b d e t (Err halt) → Runs a b d e (t >>= k) (Err halt)
runs_halts {E} {A} {B} a b d e t k halt p = record {
  read = p.read;
  written = p.written;
  own = p.own;
  consumed = p.consumed;
  counted = p.counted;
  appended = p.appended;
  made = p.made;
  trace = trace_halts k b.left halt t p.read p.written p.own p.trace;
  later = p.later;
  caused = caused_halt A B a b halt p.caused;
}

-- ---- a write

module _ (E : Type 0) (a b : LinkState) (d : DeskView) (bytes : List ℕ) where
  write_trace : (left : Option (List ℕ)) (done rest : List ℕ) (result : Result (Unit {0}) WriteFault) → bytes ≡ done ++ rest → EndsWriting a b rest result → IsTrace {E = E} left (written_as result) (write bytes) [] done []
  unfolding write
  write_trace left done rest (Ok unit) split end = inr ([], sym (append-nil bytes ∙ split ∙ ap (λ (l : List ℕ). done ++ l) end ∙ append-nil done), ((refl, refl, refl), refl))
  write_trace left done rest (Err write.Failed) split end = inl ((refl, (rest, split, end.0)), refl)
  write_trace left done rest (Err write.NoMemory) split end = inl ((refl, (rest, split)), refl)

  write_caused : (rest : List ℕ) (result : Result (Unit {0}) WriteFault) → EndsWriting a b rest result → IsCaused {E = E} a b (written_as result)
  write_caused rest (Ok unit) end = tt
  write_caused rest (Err write.Failed) end = (end.1, end.2)
  write_caused rest (Err write.NoMemory) end = tt

  pub runs_write : (result : Result (Unit {0}) WriteFault) → WritesOnly a b bytes result → Runs a b d d (write bytes) (written_as {E = E} result)
  runs_write result w = record {
    read = [];
    written = w.writes.done;
    own = [];
    consumed = subst (λ (left : Option (List ℕ)). Consumes a.left left []) (sym w.keeps.left) (consumes_nothing a.left);
    counted = omega (arith, w.keeps.given);
    appended = w.writes.appended;
    made = refl;
    trace = write_trace b.left w.writes.done w.writes.rest result w.writes.split w.writes.ended;
    later = w.later;
    caused = write_caused w.writes.rest result w.writes.ended;
  }

  -- the same by the answer that a call gave
  pub runs_written : (result answer : Result (Unit {0}) WriteFault) → result ≡ answer → Writes a b bytes result → KeepsReading a b → IsLater a b → Runs a b d d (write bytes) (written_as {E = E} answer)
  runs_written result answer is w keeps later =
      subst (λ (r : Result (Unit {0}) WriteFault). Runs a b d d (write bytes) (written_as {E = E} r)) is (runs_write result (record { writes = w; keeps = keeps; later = later }))

-- ---- a reading

module _ {E A : Type 0} (a b : LinkState) (d : DeskView) (taken : List ℕ) (takes : TakesOnly a b taken) where
  runs_taken : (t : Interaction E A) (out : Result A (Halt E)) → IsCaused a b out → IsTrace b.left out t taken [] [] → Runs a b d d t out
  runs_taken t out caused trace = record {
    read = taken;
    written = [];
    own = [];
    consumed = takes.consumed;
    counted = takes.counted;
    appended = subst (λ (written : Option (List ℕ)). Appends a.written written []) (sym takes.keeps.written) (appends_nothing a.written);
    made = refl;
    trace = trace;
    later = takes.later;
    caused = caused;
  }

  module _ (wanted : Wanted) (cut : Fault wanted → CutOff E) (f : Reply wanted → Interaction E A) where
    -- a read failed inside what is wanted
    pub runs_failed : (fault : Fault wanted) → front_of wanted taken ≡ Partial fault → HasRisen a.read_faults b.read_faults × IsTrue a.may_fail → Runs a b d d (reads wanted cut f) (Err (Failed Reading))
    runs_failed fault is caused = runs_taken (reads wanted cut f) (Err (Failed Reading)) caused (inl ((fault, is, refl), refl))

    -- memory lacked for it
    pub runs_lacked : IsNoMore (front_of wanted taken) (length taken) → Runs a b d d (reads wanted cut f) (Err (Failed Memory))
    runs_lacked few = runs_taken (reads wanted cut f) (Err (Failed Memory)) tt (inl (inl (refl, few), refl))

    -- the input ended inside it: what is due then was written, or a beginning of it
    cut_trace : (left : Option (List ℕ)) (fault : Fault wanted) (out : Result A (Halt E)) (read written : List ℕ) (own : List OwnEntry) → front_of wanted taken ≡ Partial fault → IsAtEnd left
        → IsTrace left out (writes (cut fault).bytes (ends (cut fault).end)) read written own → (read ≡ []) × IsTrace left out (reads wanted cut f) taken written own
    cut_trace left fault (Ok x) read written own is over (inl p) = absurd p.0
    cut_trace left fault (Ok x) read written own is over (inr p) = absurd p.2.0
    cut_trace left fault (Err (Ended e)) read written own is over (inl p) = absurd p.0
    cut_trace left fault (Err (Ended e)) read written own is over (inr p) =
        (p.2.0.1, inl ((fault, (is, over), p.2.0.0, p.1 ∙ ap (λ (l : List ℕ). (cut fault).bytes ++ l) p.2.0.2 ∙ append-nil (cut fault).bytes), p.2.1))
    cut_trace left fault (Err (Failed Reading)) read written own is over (inl p) = absurd p.0
    cut_trace left fault (Err (Failed Reading)) read written own is over (inr p) = absurd p.2.0
    cut_trace left fault (Err (Failed Writing)) read written own is over (inl p) = (p.0.0, inl ((fault, (is, over), p.0.1), p.1))
    cut_trace left fault (Err (Failed Writing)) read written own is over (inr p) = absurd p.2.0
    cut_trace left fault (Err (Failed Memory)) read written own is over (inl p) = (p.0.0, inl (inr (fault, (is, over), p.0.1), p.1))
    cut_trace left fault (Err (Failed Memory)) read written own is over (inr p) =
        (p.2.0.0, inl (inr (fault, (is, over), ([], sym (append-nil written ∙ p.1 ∙ ap (λ (l : List ℕ). (cut fault).bytes ++ l) p.2.0.1 ∙ append-nil (cut fault).bytes))), p.2.1))

    pub runs_cut : (c : LinkState) (e : DeskView) (fault : Fault wanted) (out : Result A (Halt E)) → front_of wanted taken ≡ Partial fault → IsAtEnd c.left
        → Runs b c d e (writes (cut fault).bytes (ends (cut fault).end)) out → Runs a c d e (reads wanted cut f) out
    runs_cut c e fault out is over p =
        let t = cut_trace c.left fault out p.read p.written p.own is over p.trace in
        record {
          read = taken ++ p.read;
          written = p.written;
          own = p.own;
          consumed = consumes_more a.left b.left c.left taken p.read takes.consumed p.consumed;
          counted = omega (arith, takes.counted, p.counted, length-append taken p.read);
          appended = subst (λ (written : Option (List ℕ)). Appends written c.written p.written) takes.keeps.written p.appended;
          made = p.made;
          trace = subst (λ (l : List ℕ). IsTrace c.left out (reads wanted cut f) l p.written p.own) (sym (append-nil taken) ∙ ap (λ (l : List ℕ). taken ++ l) (sym t.0)) t.1;
          later = later_more a b c takes.later p.later;
          caused = caused_later a b c out takes.later p.caused;
        }

module _ {E : Type 0} (a b : LinkState) (d : DeskView) (taken : List ℕ) (takes : TakesOnly a b taken) (wanted : Wanted) (cut : Fault wanted → CutOff E) where
  -- what was taken decides the reply
  pub runs_read : (found : Result (Value wanted) (Fault wanted)) → front_of wanted taken ≡ shown (length taken) found → Runs a b d d (read wanted cut) (Ok (record { used = length taken; found = found }))
  unfolding read
  runs_read found is = runs_taken a b d taken takes (read wanted cut) (Ok (record { used = length taken; found = found })) tt (inr (taken, [], found, sym (append-nil taken), is, ((refl, refl, refl), refl)))

-- ---- an entry

pub runs_ask : {E : Type 0} (a : LinkState) (d e : DeskView) (one : OwnEntry) → MakesEntry d e one.before one.entry → Runs {E = E} a a d e (ask (asked one)) (Ok one)
unfolding ask
runs_ask a d e one makes = record {
  read = [];
  written = [];
  own = one ∷ [];
  consumed = consumes_nothing a.left;
  counted = omega arith;
  appended = appends_nothing a.written;
  made = (e, makes, refl);
  trace = inr (one, [], refl, refl, ((refl, refl, refl), refl));
  later = later_same a;
  caused = tt;
}
