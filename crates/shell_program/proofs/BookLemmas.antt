-- What a session reads, and asks for, doesn't depend on the rules by which its denials are told.
use Rattle.std.proofs.Common.{◌≡◌, ℕ, List, [], ◌∷◌, ◌++◌, length, drop, Result, Ok, Err, refl}
use Rattle.base_types.specs.Fronts.{Front, Whole, Broken, Partial}
use Rattle.git_object.specs.Content.{Content}
use Rattle.pktline_core.specs.Packets as packets
use Rattle.ref_store.specs.Refs.{Name}
use Rattle.ref_store.specs.declared.command.Command.{Command}
use Rattle.rule_compile.specs.declared.rule.Rule.{Rule}
use Rattle.access_check.specs.declared.verdicts.Want.{Want}
use Rattle.access_check.specs.declared.verdicts.Want.TheVariants.{Read, Write}
use Rattle.hub_history.specs.declared.entry.EnterKept.{EnterKept}
use Rattle.hub_history.specs.declared.entry.EnterKept.TheVariants as answer
use Rattle.hub_history.specs.declared.entry.Entry.{Entry}
use Rattle.hub_history.specs.Opening.{Opening}
use Rattle.hub_history.specs.Requests.{Request}
use Rattle.interaction_tree.specs.Wanted.{Fault, Reply, Wanted, by_front, front_of}
use Rattle.interaction_tree.specs.Requests.{Answers, OwnEntry}
use Rattle.interaction_tree.specs.Interaction.{CutOff, Interaction, gives, ends, writes, reads, asks, ◌>>=◌, ask, write}
use Rattle.interaction_tree.specs.Alone.{TurnAlone, turn_alone}
use Rattle.session_core.specs.declared.end.SessionEnd.TheVariants as end
use Rattle.session_core.specs.declared.first_packet.Service.{Service}
use Rattle.session_core.specs.declared.first_packet.Service.TheVariants.{Receive, Upload, Permit, Look}
use Rattle.session_core.specs.Asking.{asking}
use Rattle.session_core.specs.FirstPacket.{without_feed}
use Rattle.session_core.specs.Opening.{entering, opened_by, opening, opening_behind, recorded_answer, unless_refused}
use Rattle.session_core.specs.Packets.{next_packet, or_malformed, refuse}
use Rattle.session_core.specs.Rulebook.{Rulebook}
use Rattle.receive_pack.specs.declared.changes.Capabilities.{Capabilities}
use Rattle.receive_pack.specs.Changes.{first_capabilities, first_command}
use Rattle.receive_pack.specs.Receiving.{commanded, commanding, pushing, receiving, taking_commands, taking_pack, taking_push}
use Rattle.receive_pack.specs.Texts.{advertisement}
use Rattle.upload_pack.specs.Uploading.{uploading}
use Rattle.git_session.specs.Info.{looking}
use Rattle.git_session.specs.Perms.{permitting}
use Rattle.git_session.specs.Session.{fetched, fetching_from, pushing_into, served, serving, session}

-- the same but for what it writes
pub data Alike {E A : Type 0} : Interaction E A → Interaction E A → Type 0 where
  Gives : (a : A) → Alike (gives a) (gives a)
  Ends : (e : E) → Alike (ends e) (ends e)
  Writes : (one other : List ℕ) (t u : Interaction E A) → Alike t u → Alike (writes one t) (writes other u)
  Reads : (wanted : Wanted) (cut : Fault wanted → CutOff E) (f g : Reply wanted → Interaction E A) → ((reply : Reply wanted) → Alike (f reply) (g reply)) → Alike (reads wanted cut f) (reads wanted cut g)
  Asks : (request : Request) (f g : OwnEntry → Interaction E A) → ((own : OwnEntry) → Alike (f own) (g own)) → Alike (asks request f) (asks request g)

alike_same : {E A : Type 0} (t : Interaction E A) → Alike t t
alike_same (gives a) = Gives a
alike_same (ends e) = Ends e
alike_same (writes bytes t) = Writes bytes bytes t t (alike_same t)
alike_same (reads wanted cut f) = Reads wanted cut f f (λ reply. alike_same (f reply))
alike_same (asks request f) = Asks request f f (λ own. alike_same (f own))

alike_then : {E A B : Type 0} (t u : Interaction E A) (k l : A → Interaction E B) → Alike t u → ((a : A) → Alike (k a) (l a)) → Alike (t >>= k) (u >>= l)
unfolding ◌>>=◌
alike_then t u k l (Gives a) behind = behind a
alike_then t u k l (Ends e) behind = Ends e
alike_then t u k l (Writes one other t' u' same) behind = Writes one other (t' >>= k) (u' >>= l) (alike_then t' u' k l same behind)
alike_then t u k l (Reads wanted cut f g same) behind = Reads wanted cut (λ reply. f reply >>= k) (λ reply. g reply >>= l) (λ reply. alike_then (f reply) (g reply) k l (same reply) behind)
alike_then t u k l (Asks request f g same) behind = Asks request (λ own. f own >>= k) (λ own. g own >>= l) (λ own. alike_then (f own) (g own) k l (same own) behind)

-- what follows one part is alike
then_alike : {E A B : Type 0} (t : Interaction E A) (k l : A → Interaction E B) → ((a : A) → Alike (k a) (l a)) → Alike (t >>= k) (t >>= l)
then_alike t k l behind = alike_then t t k l (alike_same t) behind

-- ---- the log

front_log : {V F E A : Type 0} (front : Front V F) (cut : F → TurnAlone E A) (f g : ℕ → Result V F → TurnAlone E A) → ((used : ℕ) (found : Result V F) → (f used found).log ≡ (g used found).log)
    → (by_front front cut f).log ≡ (by_front front cut g).log
front_log (Whole used value) cut f g same = same used (Ok value)
front_log (Broken used fault) cut f g same = same used (Err fault)
front_log (Partial fault) cut f g same = refl

pub log_alike : {E A : Type 0} (answers : Answers) (t u : Interaction E A) → Alike t u → (input : List ℕ) (log : List Entry) → (turn_alone answers t input log).log ≡ (turn_alone answers u input log).log
unfolding turn_alone
log_alike answers t u (Gives a) input log = refl
log_alike answers t u (Ends e) input log = refl
log_alike answers t u (Writes one other t' u' same) input log = log_alike answers t' u' same input log
log_alike answers t u (Reads wanted cut f g same) input log = front_log (front_of wanted input) _ _ _ (λ used found. log_alike answers (f (record { used = used; found = found })) (g (record { used = used; found = found })) (same (record { used = used; found = found })) (drop used input) log)
log_alike answers t u (Asks request f g same) input log =
    let entry : Entry = record { caller = 0; event = answers log request } in
    log_alike answers (f (record { before = log; entry = entry })) (g (record { before = log; entry = entry })) (same (record { before = log; entry = entry })) input (log ++ entry ∷ [])

-- ---- a session

module _ (book other : Rulebook) (admin : Name) where
  alike_refused : (user repo : Name) (want : Want) (rules rules' : List Rule) (kept : EnterKept) (opened : Opening) → Alike (unless_refused user repo want (opened_by rules kept opened)) (unless_refused user repo want (opened_by rules' kept opened))
  unfolding ◌>>=◌ write refuse
  alike_refused user repo want rules rules' answer.Granted opened = Gives opened
  alike_refused user repo want rules rules' answer.Created opened = Gives opened
  alike_refused user repo want rules rules' (answer.Denied verdict) opened = Writes _ _ _ _ (Ends end.Denied)
  alike_refused user repo want rules rules' answer.NoRepo opened = Writes _ _ _ _ (Ends end.NoRepo)

  alike_entering : (user repo : Name) (want : Want) → Alike (entering book admin user repo want) (entering other admin user repo want)
  unfolding entering opening ask ◌>>=◌
  alike_entering user repo want =
      Asks _ _ _ (λ own. alike_refused user repo want (book.rules (length own.before)).rules (other.rules (length own.before)).rules (recorded_answer own.entry.event) (opening_behind admin own user repo want))

  alike_pushing : (opened : Opening) (caps : Capabilities) (commands : List Command) (pack : List Content) → Alike (pushing book opened caps commands pack) (pushing other opened caps commands pack)
  unfolding pushing ask write ◌>>=◌
  alike_pushing opened caps commands pack = Asks _ _ _ (λ own. Writes _ _ _ _ (Gives tt))

  alike_push : (opened : Opening) (caps : Capabilities) (first : Command) (offset : ℕ) → Alike (taking_push book opened caps first offset) (taking_push other opened caps first offset)
  unfolding taking_push
  alike_push opened caps first offset = then_alike (taking_commands first offset) _ _ (λ commands. then_alike (taking_pack caps commands) _ _ (λ pack. alike_pushing opened caps commands pack))

  alike_commanded : (opened : Opening) (offset : ℕ) (packet : packets.Packet) (behind : ℕ) → Alike (commanded book opened offset packet behind) (commanded other opened offset packet behind)
  alike_commanded opened offset packets.Flush behind = Gives tt
  alike_commanded opened offset (packets.Line payload) behind =
      then_alike (or_malformed offset (first_command (without_feed payload))) _ _ (λ first. alike_push opened (first_capabilities (without_feed payload)) first behind)

  alike_receiving : (opened : Opening) (offset : ℕ) → Alike (receiving book opened offset) (receiving other opened offset)
  unfolding receiving commanding
  alike_receiving opened offset = then_alike (write (advertisement opened.pinned.repository.refs)) _ _ (λ u. then_alike (next_packet offset) _ _ (λ next. alike_commanded opened offset next.0 next.1))

  alike_looking : (user : Name) → Alike (looking book admin user) (looking other admin user)
  unfolding looking ask write ◌>>=◌
  alike_looking user = Asks _ _ _ (λ own. Writes _ _ _ _ (Gives tt))

  alike_serving : (user : Name) (service : Service) (offset : ℕ) → Alike (serving book admin user service offset) (serving other admin user service offset)
  unfolding pushing_into fetching_from
  alike_serving user (Receive repo) offset = alike_then (entering book admin user repo Write) (entering other admin user repo Write) _ _ (alike_entering user repo Write) (λ opened. alike_receiving opened offset)
  alike_serving user (Upload repo) offset = alike_then (entering book admin user repo Read) (entering other admin user repo Read) _ _ (alike_entering user repo Read) (λ opened. alike_same (uploading opened offset >>= fetched))
  alike_serving user (Permit repo change) offset = alike_same (permitting admin user repo change)
  alike_serving user Look offset = alike_looking user

  pub alike_session : Alike (session book admin) (session other admin)
  unfolding session served
  alike_session = alike_then (asking 0 >>= λ first. serving book admin first.0.user first.0.service first.1) (asking 0 >>= λ first. serving other admin first.0.user first.0.service first.1) _ _
      (then_alike (asking 0) _ _ (λ first. alike_serving first.0.user first.0.service first.1)) (λ u. Ends end.Served)
