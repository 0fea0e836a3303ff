use Rattle.std.proofs.Common.{ℕ, List, [], ◌∷◌}
use denote.Exit.{no}
use denote.Param.{param}
use denote.Param.Send.{IsSend, IsSync, arg_send, param_send, recorded_send, sendable, struct_send}
use denote.RattleType.{RattleType}
use denote.Ref.{NamedLft}
use denote.Struct.Declared.{shape}
use denote.Struct.Tuple.{TupleAt, type_at}
use mir.Syntax.{named}
use Rattle.std.proofs.Crossing as heap
use Rattle.std.specs.contracts.alloc.Global as Global
use Rattle.hub_tests.specs.contracts.shared_hub_tests.caller.Act as Act
use Rattle.hub_tests.specs.contracts.shared_hub_tests.caller.Caller as Caller
use Rattle.hub_tests.proofs.shared_hub_tests.Crosses.{caller_send}
use Rattle.shared_hub.specs.declared.event_hub.EventHub.{Ghosts}
use Rattle.hub_tests.proofs.shared_hub_tests.at_once.Goals as goal

-- what a closure has taken that has one caller act
taken_send : (name : List ℕ) (κ : NamedLft) (R H : RattleType) (ghosts : Ghosts H.Denot) → IsSync R → IsSend H → IsSend (TupleAt name (Caller.the_row κ R H ghosts ∷ Global.the_row ∷ Act.the_row ∷ []))
taken_send name κ R H ghosts y h =
    let taken = Caller.the_row κ R H ghosts ∷ Global.the_row ∷ Act.the_row ∷ [] in
    let fields = struct_send (shape (type_at name taken)) (
      caller_send κ R H ghosts y h,
      (search (heap.crosses, sendable) depth 30, (search sendable depth 30, tt)),
    ) in
    recorded_send _ _ _ (type_at name taken).to_one fields

pub join-requires-send-F : goal.join-requires-send-F
join-requires-send-F g c κs within = param_send 1 _ (arg_send _ no _ (taken_send _ _ (param 0 g.row.R) (param 1 g.row.H) g.H.EventHub c.type_bounds.sync-R c.type_bounds.send-H))

pub join-requires-send-A : goal.join-requires-send-A
join-requires-send-A g c κs within = param_send 3 _ (arg_send _ no _ (caller_send (record { mir = named 2; lft = _ }) (param 0 g.row.R) (param 1 g.row.H) g.H.EventHub c.type_bounds.sync-R c.type_bounds.send-H))
