-- The refs, and the rest of a session as the body of a request.
use Rattle.std.proofs.Common.{◌≡◌, ℕ, nat_eq, Bool, true, false, Result, Ok, Err, ◌∙◌, ap, subst}
use Rattle.std.specs.Borrow.{GName}
use Rattle.pktline_core.specs.LinkState.{LinkState}
use Rattle.request_head.specs.Limits.{limited}
use Rattle.request_head.specs.Responses.{response_head}
use Rattle.request_head.specs.declared.response.Media.TheVariants.{Answer}
use Rattle.request_head.specs.declared.target.Service.{Service}
use Rattle.hub.specs.Desk.{DeskView}
use Rattle.hub_history.specs.Opening.{Opening}
use Rattle.hub_history.specs.State.{store_of}
use Rattle.interaction_tree.specs.Interaction.{ends, ending_as, limits, ◌>>=◌, write}
use Rattle.interaction_tree.specs.Traces.{Reading, Writing, Memory, Halt, Ended, Failed, halt_as, outcome_as}
use Rattle.interaction_tree.specs.Runs.{Runs}
use Rattle.interaction_tree.proofs.OtherEnds.{runs_as}
use Rattle.interaction_tree.proofs.RunLemmas.{runs_bind, runs_ends, runs_halts}
use Rattle.session_core.specs.declared.end.SessionEnd.{SessionEnd}
use Rattle.session_core.specs.declared.end.SessionEnd.TheVariants as session
use Rattle.session_core.specs.End.{TellsLink, halt_of, outcome_of}
use Rattle.session_core.specs.Rulebook.{RunsByRulebook}
use Rattle.session_core.proofs.RulebookLemmas.{halts_by, runs_always}
use Rattle.receive_pack.specs.Receiving.{commanding, pushed_end}
use Rattle.upload_pack.specs.Uploading.{fetched_end, wanting}
use Rattle.upload_pack.specs.declared.uploading.FetchEnd.{FetchEnd}
use Rattle.upload_pack.specs.declared.uploading.FetchEnd.TheVariants as fetch
use Rattle.smart_http.specs.declared.end.HttpEnd.{HttpEnd}
use Rattle.smart_http.specs.declared.end.HttpEnd.TheVariants as end
use Rattle.smart_http.specs.End.{TellsRequest, http_halt, received_end, uploaded_end}
use Rattle.smart_http.specs.Requests.{advertising, body_of, calling, receiving, uploading, writing_advertisement, writing_line, writing_refs}
use Rattle.smart_http.specs.Running.{RunsPart}
use Rattle.smart_http.proofs.PartLemmas.{ended_by, halted_by, limits_part, limits_unread, part_bind, part_of}

-- ---- the refs

module _ (a b : LinkState) (d : DeskView) (service : Service) (opening : Opening) (result : Result (Unit {0}) SessionEnd) where
  pub advertised : (u : Unit {0}) → result ≡ Ok u → Runs a b d d (writing_advertisement {E = SessionEnd} service opening) (outcome_of result) → Runs a b d d (advertising service opening) (Err (Ended end.Advertised))
  unfolding advertising writing_advertisement writing_line writing_refs ◌>>=◌ write ending_as
  advertised u was ran =
      let ok = subst (λ (r : Result (Unit {0}) SessionEnd). Runs a b d d (writing_advertisement {E = SessionEnd} service opening) (outcome_of r)) was ran in
      runs_bind a b b d d d (writing_advertisement {E = HttpEnd} service opening) u (λ done. ends end.Advertised) (Err (Ended end.Advertised))
      (runs_as end.Received a b d d (writing_advertisement {E = SessionEnd} service opening) (Ok u) ok) (runs_ends b d end.Advertised)

  pub unadvertised : (why : SessionEnd) → result ≡ Err why → Runs a b d d (writing_advertisement {E = SessionEnd} service opening) (outcome_of result) → Runs a b d d (advertising service opening) (Err (halt_as end.Received (halt_of why)))
  unfolding advertising writing_advertisement writing_line writing_refs ◌>>=◌ write ending_as
  unadvertised why was ran =
      let left = subst (λ (r : Result (Unit {0}) SessionEnd). Runs a b d d (writing_advertisement {E = SessionEnd} service opening) (outcome_of r)) was ran in
      runs_halts a b d d (writing_advertisement {E = HttpEnd} service opening) (λ done. ends end.Advertised) (halt_as end.Received (halt_of why))
      (runs_as end.Received a b d d (writing_advertisement {E = SessionEnd} service opening) (Err (halt_of why)) left)

-- ---- the head of a response, and the rest

module _ (a b : LinkState) (d : DeskView) (service : Service) (opening : Opening) (most : ℕ) (result : Result (Unit {0}) SessionEnd) where
  as_request : (out : Result (Unit {0}) (Halt SessionEnd)) → Runs a b d d (write {E = SessionEnd} (response_head 200 (Answer service))) out → Runs a b d d (write {E = HttpEnd} (response_head 200 (Answer service))) (outcome_as end.Received out)
  unfolding write ending_as
  as_request out ran = runs_as end.Received a b d d (write {E = SessionEnd} (response_head 200 (Answer service))) out ran

  pub call_goes : (c : LinkState) (e : DeskView) (halt : Halt HttpEnd) (u : Unit {0}) → result ≡ Ok u → Runs a b d d (write {E = SessionEnd} (response_head 200 (Answer service))) (outcome_of result)
      → RunsPart b c d e (λ book. limits most (body_of book service opening)) halt → RunsPart a c d e (λ book. calling book service opening most) halt
  unfolding calling
  call_goes c e halt u was ran rest =
      part_bind a b c d d e (λ book. write (response_head 200 (Answer service))) (λ book done. limits most (body_of book service opening)) u halt
      (runs_always a b d d (write (response_head 200 (Answer service))) (Ok u) (as_request (Ok u) (subst (λ (r : Result (Unit {0}) SessionEnd). Runs a b d d (write {E = SessionEnd} (response_head 200 (Answer service))) (outcome_of r)) was ran))) rest

  pub call_exits : (why : SessionEnd) → result ≡ Err why → Runs a b d d (write {E = SessionEnd} (response_head 200 (Answer service))) (outcome_of result) → RunsPart a b d d (λ book. calling book service opening most) (halt_as end.Received (halt_of why))
  unfolding calling
  call_exits why was ran =
      part_of a b d d (λ book. calling book service opening most) (halt_as end.Received (halt_of why))
      (halts_by a b d d (λ book. write (response_head 200 (Answer service))) (λ book done. limits most (body_of book service opening)) (halt_as end.Received (halt_of why))
      (runs_always a b d d (write (response_head 200 (Answer service))) (Err (halt_as end.Received (halt_of why)))
      (as_request (Err (halt_of why)) (subst (λ (r : Result (Unit {0}) SessionEnd). Runs a b d d (write {E = SessionEnd} (response_head 200 (Answer service))) (outcome_of r)) was ran))))

-- ---- a body

ended_apart : (at : HttpEnd) → ◌≡◌ {A = Result (Unit {0}) (Halt HttpEnd)} (Err (Ended at)) (Err (Failed Reading)) → ⊥
ended_apart at is = absurd cc

writing_apart : ◌≡◌ {A = Result (Unit {0}) (Halt HttpEnd)} (Err (Failed Writing)) (Err (Failed Reading)) → ⊥
writing_apart is = absurd cc

memory_apart : ◌≡◌ {A = Result (Unit {0}) (Halt HttpEnd)} (Err (Failed Memory)) (Err (Failed Reading)) → ⊥
memory_apart is = absurd cc

not_spent : (rest : ℕ) → false ≡ nat_eq rest 0 → rest ≡ 0 → ⊥
not_spent rest spent none = let wrong : false ≡ true = spent ∙ ap (λ (n : ℕ). nat_eq n 0) none in absurd cc

module _ (name name' : GName) (most most' : ℕ) (a b : LinkState) (d e : DeskView) where
  module _ (opening : Opening) where
    -- as the limited link's, by its end
    Ran : Result (Unit {0}) SessionEnd → Type 0
    Ran served = RunsByRulebook (limited name most a) (limited name' most' b) d e (λ book. commanding book opening 0) (outcome_of served)

    halted : (why : SessionEnd) → Ran (Err why) → (◌≡◌ {A = Result (Unit {0}) (Halt HttpEnd)} (Err (halt_as end.Received (halt_of why))) (Err (Failed Reading)) → ⊥)
        → RunsPart a b d e (λ book. limits most (receiving book opening)) (halt_as end.Received (halt_of why))
    unfolding receiving Ran
    halted why ran apart =
        limits_part name name' most most' a b d e (λ book. receiving book opening) (halt_as end.Received (halt_of why))
        (halted_by end.Received (λ done. end.Received (pushed_end done)) _ _ d e (λ book. commanding book opening 0) (halt_of why) ran) (λ none is. apart is)

    pub received_part : (served : Result (Unit {0}) SessionEnd) (spent : Bool) → spent ≡ nat_eq most' 0 → RunsByRulebook (limited name most a) (limited name' most' b) d e (λ book. commanding book opening 0) (outcome_of served)
        → RunsPart a b d e (λ book. limits most (receiving book opening)) (http_halt (received_end served spent))
    unfolding receiving Ran
    received_part (Ok u) spent is ran =
        limits_part name name' most most' a b d e (λ book. receiving book opening) (Ended (end.Received session.Served))
        (ended_by end.Received (λ done. end.Received (pushed_end done)) _ _ d e (λ book. commanding book opening 0) u ran) (λ none same. ended_apart (end.Received session.Served) same)
    received_part (Err session.ReadFault) true is ran =
        limits_unread name name' most most' a b d e (λ book. receiving book opening)
        (halted_by end.Received (λ done. end.Received (pushed_end done)) _ _ d e (λ book. commanding book opening 0) (Failed Reading) ran)
    received_part (Err session.ReadFault) false is ran =
        limits_part name name' most most' a b d e (λ book. receiving book opening) (Failed Reading)
        (halted_by end.Received (λ done. end.Received (pushed_end done)) _ _ d e (λ book. commanding book opening 0) (Failed Reading) ran) (λ none same. not_spent most' is none)
    received_part (Err session.WriteFault) spent is ran = halted session.WriteFault ran (λ same. writing_apart same)
    received_part (Err session.NoMemory) spent is ran = halted session.NoMemory ran (λ same. memory_apart same)
    received_part (Err session.Served) spent is ran = halted session.Served ran (λ same. ended_apart _ same)
    received_part (Err session.Denied) spent is ran = halted session.Denied ran (λ same. ended_apart _ same)
    received_part (Err session.NoRepo) spent is ran = halted session.NoRepo ran (λ same. ended_apart _ same)
    received_part (Err session.BadCommand) spent is ran = halted session.BadCommand ran (λ same. ended_apart _ same)
    received_part (Err session.BadUser) spent is ran = halted session.BadUser ran (λ same. ended_apart _ same)
    received_part (Err (session.Malformed offset)) spent is ran = halted (session.Malformed offset) ran (λ same. ended_apart _ same)
    received_part (Err (session.TooLong count)) spent is ran = halted (session.TooLong count) ran (λ same. ended_apart _ same)
    received_part (Err session.Truncated) spent is ran = halted session.Truncated ran (λ same. ended_apart _ same)
    received_part (Err (session.BadPack fault)) spent is ran = halted (session.BadPack fault) ran (λ same. ended_apart _ same)
    received_part (Err (session.NotOurRef id)) spent is ran = halted (session.NotOurRef id) ran (λ same. ended_apart _ same)

  module _ (opening : Opening) where
    stopped : (why : SessionEnd) → RunsByRulebook (limited name most a) (limited name' most' b) d e (λ book. wanting (store_of opening.pinned.repository) 0) (Err (halt_of why))
        → (◌≡◌ {A = Result (Unit {0}) (Halt HttpEnd)} (Err (halt_as end.Uploaded (halt_of why))) (Err (Failed Reading)) → ⊥)
        → RunsPart a b d e (λ book. limits most (uploading opening)) (halt_as end.Uploaded (halt_of why))
    unfolding uploading
    stopped why ran apart =
        limits_part name name' most most' a b d e (λ book. uploading opening) (halt_as end.Uploaded (halt_of why))
        (halted_by end.Uploaded (λ done. end.Uploaded (fetched_end done)) _ _ d e (λ book. wanting (store_of opening.pinned.repository) 0) (halt_of why) ran) (λ none is. apart is)

    gave : (done : FetchEnd) → RunsByRulebook (limited name most a) (limited name' most' b) d e (λ book. wanting (store_of opening.pinned.repository) 0) (Ok done)
        → RunsPart a b d e (λ book. limits most (uploading opening)) (Ended (end.Uploaded (fetched_end done)))
    unfolding uploading
    gave done ran =
        limits_part name name' most most' a b d e (λ book. uploading opening) (Ended (end.Uploaded (fetched_end done)))
        (ended_by end.Uploaded (λ done. end.Uploaded (fetched_end done)) _ _ d e (λ book. wanting (store_of opening.pinned.repository) 0) done ran) (λ none same. ended_apart _ same)

    pub uploaded_part : (served : Result FetchEnd SessionEnd) (spent : Bool) → spent ≡ nat_eq most' 0 → RunsByRulebook (limited name most a) (limited name' most' b) d e (λ book. wanting (store_of opening.pinned.repository) 0) (outcome_of served)
        → RunsPart a b d e (λ book. limits most (uploading opening)) (http_halt (uploaded_end served spent))
    unfolding uploading
    uploaded_part (Ok fetch.Served) spent is ran = gave fetch.Served ran
    uploaded_part (Ok (fetch.NotOurRef id)) spent is ran = gave (fetch.NotOurRef id) ran
    uploaded_part (Err session.ReadFault) true is ran =
        limits_unread name name' most most' a b d e (λ book. uploading opening)
        (halted_by end.Uploaded (λ done. end.Uploaded (fetched_end done)) _ _ d e (λ book. wanting (store_of opening.pinned.repository) 0) (Failed Reading) ran)
    uploaded_part (Err session.ReadFault) false is ran =
        limits_part name name' most most' a b d e (λ book. uploading opening) (Failed Reading)
        (halted_by end.Uploaded (λ done. end.Uploaded (fetched_end done)) _ _ d e (λ book. wanting (store_of opening.pinned.repository) 0) (Failed Reading) ran) (λ none same. not_spent most' is none)
    uploaded_part (Err session.WriteFault) spent is ran = stopped session.WriteFault ran (λ same. writing_apart same)
    uploaded_part (Err session.NoMemory) spent is ran = stopped session.NoMemory ran (λ same. memory_apart same)
    uploaded_part (Err session.Served) spent is ran = stopped session.Served ran (λ same. ended_apart _ same)
    uploaded_part (Err session.Denied) spent is ran = stopped session.Denied ran (λ same. ended_apart _ same)
    uploaded_part (Err session.NoRepo) spent is ran = stopped session.NoRepo ran (λ same. ended_apart _ same)
    uploaded_part (Err session.BadCommand) spent is ran = stopped session.BadCommand ran (λ same. ended_apart _ same)
    uploaded_part (Err session.BadUser) spent is ran = stopped session.BadUser ran (λ same. ended_apart _ same)
    uploaded_part (Err (session.Malformed offset)) spent is ran = stopped (session.Malformed offset) ran (λ same. ended_apart _ same)
    uploaded_part (Err (session.TooLong count)) spent is ran = stopped (session.TooLong count) ran (λ same. ended_apart _ same)
    uploaded_part (Err session.Truncated) spent is ran = stopped session.Truncated ran (λ same. ended_apart _ same)
    uploaded_part (Err (session.BadPack fault)) spent is ran = stopped (session.BadPack fault) ran (λ same. ended_apart _ same)
    uploaded_part (Err (session.NotOurRef id)) spent is ran = stopped (session.NotOurRef id) ran (λ same. ended_apart _ same)

-- ---- no failure is hidden

module _ (a b : LinkState) where
  pub tells_received : (served : Result (Unit {0}) SessionEnd) (spent : Bool) → TellsLink a b served → TellsRequest a b (received_end served spent)
  tells_received (Ok u) spent p = p
  tells_received (Err session.ReadFault) true p = p
  tells_received (Err session.ReadFault) false p = p
  tells_received (Err session.WriteFault) spent p = p
  tells_received (Err session.NoMemory) spent p = p
  tells_received (Err session.Served) spent p = p
  tells_received (Err session.Denied) spent p = p
  tells_received (Err session.NoRepo) spent p = p
  tells_received (Err session.BadCommand) spent p = p
  tells_received (Err session.BadUser) spent p = p
  tells_received (Err (session.Malformed offset)) spent p = p
  tells_received (Err (session.TooLong count)) spent p = p
  tells_received (Err session.Truncated) spent p = p
  tells_received (Err (session.BadPack fault)) spent p = p
  tells_received (Err (session.NotOurRef id)) spent p = p

  pub tells_uploaded : (served : Result FetchEnd SessionEnd) (spent : Bool) → TellsLink a b served → TellsRequest a b (uploaded_end served spent)
  tells_uploaded (Ok fetch.Served) spent p = p
  tells_uploaded (Ok (fetch.NotOurRef id)) spent p = p
  tells_uploaded (Err session.ReadFault) true p = p
  tells_uploaded (Err session.ReadFault) false p = p
  tells_uploaded (Err session.WriteFault) spent p = p
  tells_uploaded (Err session.NoMemory) spent p = p
  tells_uploaded (Err session.Served) spent p = p
  tells_uploaded (Err session.Denied) spent p = p
  tells_uploaded (Err session.NoRepo) spent p = p
  tells_uploaded (Err session.BadCommand) spent p = p
  tells_uploaded (Err session.BadUser) spent p = p
  tells_uploaded (Err (session.Malformed offset)) spent p = p
  tells_uploaded (Err (session.TooLong count)) spent p = p
  tells_uploaded (Err session.Truncated) spent p = p
  tells_uploaded (Err (session.BadPack fault)) spent p = p
  tells_uploaded (Err (session.NotOurRef id)) spent p = p
