-- Ends told apart, and posts whose protocol was set.
use Rattle.std.proofs.Common.{◌≡◌, ◌⊎◌, ◌<◌, ℕ, Bool, List, length, get_or, inl, inr, ap, sym, subst, ◌∙◌}
use Rattle.std.specs.Prelude.{All, IfNone, IfSome, None, Option, Some}
use Rattle.pktline_core.specs.LinkState.{LinkState}
use Rattle.edge_links.specs.Door.{DoorState}
use Rattle.hub_history.specs.declared.entry.Entry.{Entry}
use Rattle.hub.specs.Hub.{HubView}
use Rattle.interaction_tree.specs.Traces.{Ended, Failed, Halt, Memory, Reading, Writing, halt_as}
use Rattle.session_core.specs.End.{HaltHasCause, HaltIsSure}
use Rattle.session_core.specs.Protocol.{Meaning}
use Rattle.session_workers.specs.declared.post.Post.{Post}
use Rattle.session_workers.specs.ServesAll.{PostServed, ServesAll}

-- a cause of an end is one of the same end under another name
pub caused_as : {E F : Type 0} (f : E → F) (old new : LinkState) (halt : Halt E) → HaltHasCause old new halt → HaltHasCause old new (halt_as f halt)
caused_as f old new (Ended end) cause = cause
caused_as f old new (Failed Reading) cause = cause
caused_as f old new (Failed Writing) cause = cause
caused_as f old new (Failed Memory) cause = cause

pub sure_as : {E F : Type 0} (f : E → F) (old new : LinkState) (halt : Halt E) → HaltIsSure old new halt → HaltIsSure old new (halt_as f halt)
sure_as {E} {F} f old new halt sure = λ reads writes. go (sure reads writes) where
  go : ((end : E) × (halt ≡ Ended end)) ⊎ (halt ≡ Failed Memory) → ((end : F) × (halt_as f halt ≡ Ended end)) ⊎ (halt_as f halt ≡ Failed Memory)
  go (inl one) = inl (f one.0, ap (halt_as f) one.1)
  go (inr lack) = inr (ap (halt_as f) lack)

pub if_some_is : {X : Type 0} (o : Option X) (P Q : X → Type 0) → ((x : X) → P x → Q x) → IfSome o P → IfSome o Q
if_some_is None P Q weaker holds = tt
if_some_is (Some x) P Q weaker holds = weaker x holds

pub if_none_is : {X : Type 0} (o : Option X) (P Q : Type 0) → (P → Q) → IfNone o P → IfNone o Q
if_none_is None P Q weaker holds = weaker holds
if_none_is (Some x) P Q weaker holds = tt

-- posts that were served once their protocol was set were served by it
pub served_as_set : {L D G P E : Type 0} (meaning : P → Meaning E) (state : L → LinkState) (door : D → DoorState L) (may_stop : Bool) (hub after : HubView) (protocol : P) (old set new : List (Post D G HubView P)) (each sessions : ℕ) (failed lacked : Bool)
    → length set ≡ length old → ((k : ℕ) (d : Post D G HubView P) → (get_or set k d).door ≡ (get_or old k d).door) → ((k : ℕ) (d : Post D G HubView P) → k < length old → (get_or set k d).protocol ≡ protocol)
    → ServesAll meaning state door may_stop hub after set new each sessions failed lacked → ServesAll (λ (p : P). meaning protocol) state door may_stop hub after old new each sessions failed lacked
served_as_set {L} {D} {G} {P} {E} meaning state door may_stop hub after protocol old set new each sessions failed lacked len doors protocols all = record {
  admin = all.admin;
  legal = all.legal;
  since = all.since;
  begins = all.begins;
  places = subst (λ n. All (λ (e : Entry). e.caller < n) all.since) len all.places;
  did = all.did;
  each_did = all.each_did ∙ len;
  posts = λ k d c less.
      let served = all.posts k d c (subst (λ n. k < n) (sym len) less) in
      subst (λ (t : P × D). PostServed (meaning t.0) state may_stop hub.admin k (length hub.log) after.log each (door t.1) (door (get_or new k d).door) (get_or all.did k c))
      (λ i. (protocols k d less i, doors k d i)) served;
  sessions_is = all.sessions_is;
  failed_is = all.failed_is;
  lacked_is = all.lacked_is;
}
