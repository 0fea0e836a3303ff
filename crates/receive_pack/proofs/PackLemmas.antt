-- The pack of a push.
use Rattle.std.proofs.Common.{◌≡◌, List, length, Result, Ok, Err, refl, subst}
use Rattle.git_object.specs.Content.{Content}
use Rattle.pktline_core.specs.LinkState.{LinkState}
use Rattle.pktline_core.specs.Links.{IsLater, KeepsReading, KeepsWriting}
use Rattle.raw_pack.specs.Packs.{pack_front}
use Rattle.raw_pack.specs.Reading.{ReadsFront}
use Rattle.raw_pack.specs.declared.fault.PackFault.{PackFault}
use Rattle.raw_pack.specs.declared.fault.PackFault.TheVariants.{ReadFault, NoMemory}
use Rattle.ref_store.specs.declared.command.Command.{Command}
use Rattle.hub.specs.Desk.{DeskView}
use Rattle.interaction_tree.specs.Wanted.{Pack}
use Rattle.interaction_tree.specs.Interaction.{◌>>=◌, write, read}
use Rattle.interaction_tree.specs.Traces.{Reading, Memory, Halt, Failed}
use Rattle.interaction_tree.specs.Runs.{Runs}
use Rattle.interaction_tree.specs.Steps.{IsOfPack}
use Rattle.interaction_tree.proofs.RunLemmas.{runs_bind, runs_halts, runs_gives}
use Rattle.interaction_tree.proofs.StepLemmas.{runs_pack, runs_pack_failed, runs_pack_lacked, runs_pack_refused}
use Rattle.session_core.specs.declared.end.SessionEnd.{SessionEnd}
use Rattle.receive_pack.specs.declared.changes.Capabilities.{Capabilities}
use Rattle.receive_pack.specs.Receiving.{pack_in, reading_pack, refused_pack, refusing_pack}

module _ (a b : LinkState) (d : DeskView) (caps : Capabilities) (commands : List Command) (result : Result (List Content) PackFault) (r : ReadsFront pack_front a b result) (keeps : KeepsWriting a b) (later : IsLater a b) where
  -- it is taken
  pub pack_taken : (objects : List Content) → result ≡ Ok objects → Runs a b d d (reading_pack caps commands) (Ok objects)
  unfolding reading_pack
  pack_taken objects is =
      let s : ReadsFront pack_front a b (Ok objects) = subst (ReadsFront pack_front a b) is r in
      runs_bind a b b d d d (read Pack (refused_pack caps commands)) (record { used = length s.taken; found = Ok objects }) (λ reply. pack_in caps commands reply.found) (Ok objects)
      (runs_pack a b d keeps later (refused_pack caps commands) (length s.taken) objects s s.counted) (runs_gives b d objects)

  -- a read failed inside it
  pub pack_failed : result ≡ Err ReadFault → Runs a b d d (reading_pack caps commands) (Err (Failed Reading))
  unfolding reading_pack
  pack_failed is = runs_halts a b d d (read Pack (refused_pack caps commands)) (λ reply. pack_in caps commands reply.found) (Failed Reading) (runs_pack_failed a b d keeps later (refused_pack caps commands) (subst (ReadsFront pack_front a b) is r))

  -- memory lacked for it
  pub pack_lacked : result ≡ Err NoMemory → Runs a b d d (reading_pack caps commands) (Err (Failed Memory))
  unfolding reading_pack
  pack_lacked is = runs_halts a b d d (read Pack (refused_pack caps commands)) (λ reply. pack_in caps commands reply.found) (Failed Memory) (runs_pack_lacked a b d keeps later (refused_pack caps commands) (subst (ReadsFront pack_front a b) is r))

  -- it is refused, whether by what was read of it or since the input ended inside it
  pub pack_refused : (c : LinkState) (fault : PackFault) (out : Result (List Content) (Halt SessionEnd)) → result ≡ Err fault → IsOfPack fault → KeepsReading b c → Runs b c d d (refusing_pack caps commands fault) out → Runs a c d d (reading_pack caps commands) out
  unfolding reading_pack refusing_pack write ◌>>=◌
  pack_refused c fault out is of still said =
      runs_pack_refused a b d keeps later (refused_pack caps commands) (λ reply. pack_in caps commands reply.found) c d fault out of (subst (ReadsFront pack_front a b) is r) still (λ used. refl) said

-- a fault that isn't of the reading, nor of memory
pub of_pack : (fault : PackFault) → (fault ≡ ReadFault → ⊥) → (fault ≡ NoMemory → ⊥) → IsOfPack fault
of_pack ReadFault unread room = absurd (unread refl)
of_pack NoMemory unread room = absurd (room refl)
of_pack fault unread room = tt
