use denote.Exit.{no}
use denote.Param.Send.{arg_send, param_send}
use Rattle.std.proofs.Common.{◌≡◌, ◌*◌, ◌<◌, ◌^◌, ◌∙◌, false, arith, length, subst, sym}
use Rattle.shared_hub.proofs.Crosses.{hub_send}
use Rattle.shell_program.specs.Protocols.{meaning_of}
use Rattle.shell_program.proofs.ProtocolLemmas.{if_some_is, if_none_is, served_as_set}
use Rattle.shell_program.proofs.serve.serve_by.Goals as goal

pub serve_all-requires-send-H : goal.serve_all-requires-send-H
serve_all-requires-send-H g c κs within = param_send 4 _ (arg_send _ no _ hub_send)

pub serve_all-requires-clause-few : goal.serve_all-requires-clause-few
serve_all-requires-clause-few g c = let same : length c.set_protocols.new.posts ≡ length c.args.posts.now = c.set_protocols.auto.posts in omega (arith, c.requires.few, same)

pub serve_all-requires-clause-fits : goal.serve_all-requires-clause-fits
serve_all-requires-clause-fits g c = λ lifetimes outlive. subst (λ n. n * c.args.each < 2 ^ 64) (sym c.set_protocols.auto.posts) c.requires.fits

pub returns-clause-served : goal.returns-clause-served
returns-clause-served g c =
    let all = c.serve_all.result in
    if_some_is all.hub _ _ (λ after served. served_as_set meaning_of g.L.Endpoint.state g.D.Door.state false c.args.hub after c.args.protocol c.args.posts.now c.set_protocols.new.posts c.serve_all.new.posts c.args.each all.sessions all.door_failed all.no_memory
    c.set_protocols.auto.posts c.set_protocols.ensures.doors c.set_protocols.ensures.protocols served) c.serve_all.ensures.served

pub returns-clause-unasked : goal.returns-clause-unasked
returns-clause-unasked g c = if_none_is c.serve_all.result.hub _ _ (λ same k d. same k d ∙ c.set_protocols.ensures.doors k d) c.serve_all.ensures.unasked
