-- What a request that ran its interaction keeps.
use Rattle.std.proofs.Common.{◌≡◌, inl, inr, ℕ, ◌+◌, List, [], ◌++◌, length, Result, Ok, Err, refl, sym, ◌∙◌, ap, subst, arith, length-append, le_refl}
use Rattle.std.specs.Io.KnownBytes.{Consumes, Appends, IsAtEnd}
use Rattle.std.proofs.KnownBytes.{Appends-nil}
use Rattle.base_types.specs.Fronts.{Front, Whole, Broken, Partial}
use Rattle.pktline_core.specs.LinkState.{LinkState}
use Rattle.pktline_core.specs.Links.{IsLater, KeepsReading, KeepsWriting, Writes}
use Rattle.pktline_core.specs.declared.links.WriteFault.{WriteFault}
use Rattle.pktline_core.specs.declared.links.WriteFault.TheVariants as cause
use Rattle.pktline_core.proofs.LinkLemmas.{consumes_more, later_more}
use Rattle.ref_store.specs.Refs.{Name}
use Rattle.request_head.specs.Heads.{head_front, head_length}
use Rattle.request_head.specs.Table.{Says}
use Rattle.request_head.specs.declared.fault.HttpFault.{HttpFault}
use Rattle.request_head.specs.declared.fault.HttpFault.TheVariants.{BadHead}
use Rattle.request_head.specs.declared.head.HeadFault.{HeadFault}
use Rattle.request_head.specs.declared.head.HeadFault.TheVariants as head
use Rattle.request_head.specs.declared.request.HttpRequest.{HttpRequest}
use Rattle.request_head.proofs.LawLemmas.{whole_stays, broken_stays}
use Rattle.raw_pack.specs.Reading.{IsNoMore}
use Rattle.hub.specs.Desk.{DeskView, IsSound}
use Rattle.interaction_tree.specs.Wanted.{front_of, shown}
use Rattle.interaction_tree.specs.Requests.{OwnEntry}
use Rattle.interaction_tree.specs.Interaction.{ends, write, read, ◌>>=◌}
use Rattle.interaction_tree.specs.Traces.{Reading, Writing, Memory, Halt, Ended, Failed}
use Rattle.interaction_tree.specs.Runs.{IsCaused, Runs}
use Rattle.interaction_tree.specs.Growth.{GrowsBy, own_since}
use Rattle.interaction_tree.proofs.DeskLemmas.{made_since, makes_grows}
use Rattle.interaction_tree.proofs.EndingLemmas.{runs_turn_read}
use Rattle.interaction_tree.proofs.RunLemmas.{runs_bind, runs_ends, runs_halts, runs_written}
use Rattle.session_core.specs.End.{HaltHasCause, HaltIsSure}
use Rattle.session_core.specs.Rulebook.{ByRulebook, IsRulebook, Rulebook}
use Rattle.session_core.proofs.RulebookLemmas.{made_on}
use Rattle.smart_http.specs.declared.end.HttpEnd.{HttpEnd}
use Rattle.smart_http.specs.declared.end.HttpEnd.TheVariants as end
use Rattle.smart_http.specs.End.{halt_behind, http_halt}
use Rattle.smart_http.specs.Requests.{answering, by_head, requesting}
use Rattle.smart_http.specs.Running.{IsSteady, LacksAtOnce, RunsPart, RunsRequest, TakesRequest}
use Rattle.smart_http.proofs.PartLemmas.{caused_later}
use Rattle.smart_http.proofs.OrderLemmas.{is_ordered}

-- ---- a response

pub answered : (a b : LinkState) (d : DeskView) (bytes : List ℕ) (end : HttpEnd) (result : Result (Unit {0}) WriteFault) → Writes a b bytes result → KeepsReading a b → IsLater a b → Runs a b d d (answering bytes end) (Err (halt_behind end result))
unfolding answering
answered a b d bytes end (Ok u) w keeps later =
    runs_bind a b b d d d (write bytes) tt (λ u. ends end) (Err (Ended end)) (runs_written HttpEnd a b d bytes (Ok u) (Ok u) refl w keeps later) (runs_ends b d end)
answered a b d bytes end (Err cause.Failed) w keeps later = runs_halts a b d d (write bytes) (λ u. ends end) (Failed Writing) (runs_written HttpEnd a b d bytes _ _ refl w keeps later)
answered a b d bytes end (Err cause.NoMemory) w keeps later = runs_halts a b d d (write bytes) (λ u. ends end) (Failed Memory) (runs_written HttpEnd a b d bytes _ _ refl w keeps later)

-- ---- the head

not_whole : (fault : HeadFault) (n : ℕ) (it : List ℕ) → ◌≡◌ {A = Front (List ℕ) HeadFault} (Partial fault) (Whole n it) → ⊥
not_whole fault n it is = absurd cc

not_broken : (fault : HeadFault) (m n : ℕ) (it : List ℕ) → ◌≡◌ {A = Front (List ℕ) HeadFault} (Broken m fault) (Whole n it) → ⊥
not_broken fault m n it is = absurd cc

same_head : (m n : ℕ) (one other : List ℕ) → ◌≡◌ {A = Front (List ℕ) HeadFault} (Whole m one) (Whole n other) → one ≡ other
same_head m n one other is = cc

pub none_more : (taken : List ℕ) → taken ≡ [] → IsNoMore (head_front taken) (length taken)
unfolding head_front head_length
none_more taken is = subst (λ (l : List ℕ). IsNoMore (head_front l) (length l)) (sym is) tt

-- what decides it is no more than that
pub all_taken : (taken it : List ℕ) → head_front taken ≡ Whole (length taken) it → IsNoMore (head_front taken) (length taken)
all_taken taken it is = subst (λ (at : Front (List ℕ) HeadFault). IsNoMore at (length taken)) (sym is) (le_refl (length taken))

module _ (a b : LinkState) (d : DeskView) (keeps : KeepsWriting a b) (later : IsLater a b) where
  unwritten : Appends a.written b.written []
  unwritten = subst (λ (w : _). Appends a.written w []) (sym keeps.written) (Appends-nil a.written)

  module _ (taken : List ℕ) (consumed : Consumes a.left b.left taken) (counted : b.given ≡ a.given + length taken) where
    -- the input ended, or a read failed, inside it
    pub head_cut : head_front taken ≡ Partial head.Truncated → IsAtEnd b.left → RunsRequest a b d d end.Truncated
    unfolding requesting ◌>>=◌ read front_of
    head_cut is over = record {
      answer = Err BadHead;
      ran = record {
        read = taken;
        written = [];
        own = [];
        consumed = λ steady. consumed;
        counted = counted;
        appended = unwritten;
        made = refl;
        trace = λ book of. inl ((head.Truncated, (is, over), refl, refl), refl);
        later = later;
        caused = tt;
      };
      says = λ n it whole. absurd (not_whole head.Truncated n it (sym is ∙ whole));
    }

    pub head_failed : head_front taken ≡ Partial head.Truncated → IsCaused {E = HttpEnd} {A = Unit {0}} a b (Err (Failed Reading)) → RunsRequest a b d d end.ReadFault
    unfolding requesting ◌>>=◌ read front_of
    head_failed is caused = record {
      answer = Err BadHead;
      ran = record {
        read = taken;
        written = [];
        own = [];
        consumed = λ steady. consumed;
        counted = counted;
        appended = unwritten;
        made = refl;
        trace = λ book of. inl ((head.Truncated, is, refl), refl);
        later = later;
        caused = caused;
      };
      says = λ n it whole. absurd (not_whole head.Truncated n it (sym is ∙ whole));
    }

    -- memory lacked for it, or for what it says
    pub head_lacks : IsNoMore (head_front taken) (length taken) → RunsRequest a b d d end.NoMemory
    unfolding requesting ◌>>=◌ read front_of
    head_lacks few = record {
      answer = Err BadHead;
      ran = record {
        read = taken;
        written = [];
        own = [];
        consumed = λ steady. consumed;
        counted = counted;
        appended = unwritten;
        made = refl;
        trace = λ book of. inl (inl (refl, few), refl);
        later = later;
        caused = tt;
      };
      says = λ n it whole. inr (record { end_is = refl; none = refl; unwritten = unwritten });
    }

    module _ (c : LinkState) (e : DeskView) (answer : Result HttpRequest HttpFault) (last : HttpEnd) where
      behind : (found : Result (List ℕ) HeadFault) → head_front taken ≡ shown (length taken) found → (rest : RunsPart b c d e (λ book. by_head answer book d.admin found) (http_halt last))
          → RunsPart a c d e (λ book. requesting answer book d.admin) (http_halt last)
      unfolding requesting ◌>>=◌ read front_of
      behind found is rest = record {
        read = taken ++ rest.read;
        written = rest.written;
        own = rest.own;
        consumed = λ steady. elim steady [
          | inl none ↦ subst (λ (l : _). Consumes l c.left (taken ++ rest.read)) (sym none) tt
          | inr tells ↦ consumes_more a.left b.left c.left taken rest.read consumed (rest.consumed (inr (later.tells ∙ tells)))
        ];
        counted = omega (arith, counted, rest.counted, length-append taken rest.read);
        appended = subst (λ (w : _). Appends w c.written rest.written) keeps.written rest.appended;
        made = rest.made;
        trace = λ book of. inr (taken, rest.read, found, refl, is, rest.trace book of);
        later = later_more a b c later rest.later;
        caused = caused_later a b c (http_halt last) later rest.caused;
      }

      pub head_read : (it : List ℕ) → head_front taken ≡ Whole (length taken) it → Says it answer → RunsPart b c d e (λ book. by_head answer book d.admin (Ok it)) (http_halt last) → RunsRequest a c d e last
      unfolding behind
      head_read it is says rest = record {
        answer = answer;
        ran = behind (Ok it) is rest;
        says = λ n other whole. inl (subst (λ (h : List ℕ). Says h answer) (same_head (length taken) n it other (sym (whole_stays taken rest.read (length taken) it is) ∙ whole)) says);
      }

      pub head_broken : head_front taken ≡ Broken (length taken) head.TooLong → RunsPart b c d e (λ book. by_head answer book d.admin (Err head.TooLong)) (http_halt last) → RunsRequest a c d e last
      unfolding behind
      head_broken is rest = record {
        answer = answer;
        ran = behind (Err head.TooLong) is rest;
        says = λ n other whole. absurd (not_broken head.TooLong (length taken) n other (sym (broken_stays taken rest.read (length taken) head.TooLong is) ∙ whole));
      }

-- ---- the whole of it

halt_caused : (a b : LinkState) (halt : Halt HttpEnd) → IsCaused {A = Unit {0}} a b (Err halt) → HaltHasCause a b halt
halt_caused a b (Ended end) p = tt
halt_caused a b (Failed Reading) p = p
halt_caused a b (Failed Writing) p = p
halt_caused a b (Failed Memory) p = tt

halt_sure : (a b : LinkState) (halt : Halt HttpEnd) → HaltHasCause a b halt → HaltIsSure a b halt
halt_sure a b (Ended end) p reads writes = inl (end, refl)
halt_sure a b (Failed Reading) p reads writes = absurd (reads p.0)
halt_sure a b (Failed Writing) p reads writes = absurd (writes p.0)
halt_sure a b (Failed Memory) p reads writes = inr refl

pub record RequestKeeps (a b : LinkState) (d e : DeskView) (last : HttpEnd) : Type 0 where
  pub turn : ByRulebook d.admin e.seen (λ book. IsSteady a → TakesRequest book d.admin a b (own_since d e) last)
  pub grows : GrowsBy d e (own_since d e)
  pub sound : IsSound e
  pub causes : HaltHasCause a b (http_halt last)
  pub sure : HaltIsSure a b (http_halt last)
  pub later : IsLater a b

module _ (a b : LinkState) (d e : DeskView) (last : HttpEnd) (p : RunsRequest a b d e last) where
  runs_so : IsSteady a → (book : Rulebook) → IsRulebook e.admin e.seen book → Runs a b d e (requesting p.answer book d.admin) (Err (http_halt last))
  runs_so steady book of = record {
    read = p.ran.read;
    written = p.ran.written;
    own = p.ran.own;
    consumed = p.ran.consumed steady;
    counted = p.ran.counted;
    appended = p.ran.appended;
    made = p.ran.made;
    trace = p.ran.trace book of;
    later = p.ran.later;
    caused = p.ran.caused;
  }

  own_is : (at : HttpEnd) → LacksAtOnce a b p.ran.own at → LacksAtOnce a b (own_since d e) at
  own_is at it = subst (λ (own : List OwnEntry). LacksAtOnce a b own at) (made_since d e p.ran.own p.ran.made) it

  takes_request : IsSteady a → (book : Rulebook) → IsRulebook e.admin e.seen book → TakesRequest book d.admin a b (own_since d e) last
  unfolding runs_so
  takes_request steady book of =
      let it = runs_turn_read a b d e (requesting p.answer book d.admin) (http_halt last) (is_ordered p.answer book d.admin) (runs_so steady book of) in
      record {
        answer = p.answer;
        turn = it.0;
        says = λ n head whole. elim (p.says n head (ap head_front (sym it.1) ∙ whole)) [
          | inl says ↦ inl says
          | inr lacks ↦ inr (own_is last lacks)
        ];
      }

  pub request_keeps : IsSound d → RequestKeeps a b d e last
  request_keeps sound =
      let cause = halt_caused a b (http_halt last) p.ran.caused in
      let grown = makes_grows d e p.ran.own sound p.ran.made in
      record {
        turn = λ book of steady. takes_request steady book (subst (λ (n : Name). IsRulebook n e.seen book) (sym (made_on d e p.ran.own p.ran.made).0) of);
        grows = subst (λ (own : List OwnEntry). GrowsBy d e own) (made_since d e p.ran.own p.ran.made) grown.1;
        sound = grown.0;
        causes = cause;
        sure = halt_sure a b (http_halt last) cause;
        later = p.ran.later;
      }
