use Rattle.std.proofs.Common.{ℕ, List, [], ◌∷◌}
use denote.Exit.{no}
use denote.Param.{param}
use denote.Param.Send.{IsSend, IsSync, arg_send, param_send, recorded_send, sendable, struct_send}
use denote.RattleType.{RattleType}
use denote.Ref.{NamedLft}
use denote.Struct.Declared.{shape}
use denote.Struct.Field.{shr_ref_field}
use denote.Struct.Tuple.{TupleAt, type_at}
use mir.Syntax.{named}
use Rattle.std.proofs.Crossing as heap
use Rattle.std.specs.contracts.alloc.Global as Global
use Rattle.hub_tests.specs.contracts.shared_hub_tests.caller.Act as Act
use Rattle.hub_tests.specs.contracts.shared_hub_tests.caller.Caller as Caller
use Rattle.hub_tests.proofs.shared_hub_tests.Crosses.{caller_send}
use Rattle.shared_hub.specs.declared.event_hub.EventHub.{Ghosts}
use Rattle.hub_tests.proofs.shared_hub_tests.all_at_once.Goals as goal

pair_send : (name : List ℕ) (κ ν : NamedLft) (R H : RattleType) (ghosts : Ghosts H.Denot) → IsSync R → IsSend H → IsSend (TupleAt name (Caller.the_row κ R H ghosts ∷ Caller.the_row ν R H ghosts ∷ []))
pair_send name κ ν R H ghosts y h =
    let two = Caller.the_row κ R H ghosts ∷ Caller.the_row ν R H ghosts ∷ [] in
    recorded_send _ _ _ (type_at name two).to_one
    (struct_send (shape (type_at name two)) (caller_send κ R H ghosts y h, (caller_send ν R H ghosts y h, tt)))

-- what a closure has taken that has a pair of callers act
abbrev pub taken : List ℕ → NamedLft → NamedLft → NamedLft → (R H : RattleType) → Ghosts H.Denot → List RattleType
taken pair a κ ν R H ghosts =
    (shr_ref_field a (param 0 R) tt).row ∷ Global.the_row ∷ TupleAt pair (Caller.the_row κ (param 0 R) (param 1 H) ghosts ∷ Caller.the_row ν (param 0 R) (param 1 H) ghosts ∷ []) ∷ Act.the_row ∷ []

taken_send : (name pair : List ℕ) (a κ ν : NamedLft) (R H : RattleType) (ghosts : Ghosts H.Denot) → IsSync (param 0 R) → IsSend (param 1 H) → IsSend (TupleAt name (taken pair a κ ν R H ghosts))
taken_send name pair a κ ν R H ghosts y h =
    let fields = struct_send (shape (type_at name (taken pair a κ ν R H ghosts))) (
      search (y, sendable) depth 30,
      (search (heap.crosses, sendable) depth 30, (pair_send pair κ ν (param 0 R) (param 1 H) ghosts y h, (search sendable depth 30, tt))),
    ) in
    recorded_send _ _ _ (type_at name (taken pair a κ ν R H ghosts)).to_one fields

pub join-requires-send-F : goal.join-requires-send-F
join-requires-send-F g c κs within = param_send 1 _ (arg_send _ no _ (taken_send _ _ _ _ _ g.row.R g.row.H g.H.EventHub c.type_bounds.sync-R c.type_bounds.send-H))

pub join-requires-send-A : goal.join-requires-send-A
join-requires-send-A g c κs within =
    let one : NamedLft = record { mir = named 7; lft = κs.1.1.1.1.1.1.1.0 } in
    let other : NamedLft = record { mir = named 8; lft = κs.1.1.1.1.1.1.1.1.0 } in
    param_send 3 _ (arg_send _ no _ (pair_send _ one other (param 0 g.row.R) (param 1 g.row.H) g.H.EventHub c.type_bounds.sync-R c.type_bounds.send-H))
