use Rattle.session_core.specs.End.{halt_of}
use Rattle.smart_http.specs.End.{http_halt}
use Rattle.shell_program.specs.declared.protocols.ServerEnd.TheVariants as end
use Rattle.shell_program.proofs.ProtocolLemmas.{caused_as, sure_as}
use Rattle.shell_program.proofs.protocols.ServerProtocolProtocol.serve.Goals as goal

pub returns-in-Git-clause-causes : goal.returns-in-Git-clause-causes
returns-in-Git-clause-causes g c = caused_as end.Git (g.L.Endpoint.state c.args.link.now) (g.L.Endpoint.state c.serve-end.new.link) (halt_of c.serve-end.result) c.serve-end.ensures.causes

pub returns-in-Git-clause-sure : goal.returns-in-Git-clause-sure
returns-in-Git-clause-sure g c = sure_as end.Git (g.L.Endpoint.state c.args.link.now) (g.L.Endpoint.state c.serve-end.new.link) (halt_of c.serve-end.result) c.serve-end.ensures.sure

pub returns-in-Http-clause-causes : goal.returns-in-Http-clause-causes
returns-in-Http-clause-causes g c = caused_as end.Http (g.L.Endpoint.state c.args.link.now) (g.L.Endpoint.state c.serve-end-in-Http.new.link) (http_halt c.serve-end-in-Http.result) c.serve-end-in-Http.ensures.causes

pub returns-in-Http-clause-sure : goal.returns-in-Http-clause-sure
returns-in-Http-clause-sure g c = sure_as end.Http (g.L.Endpoint.state c.args.link.now) (g.L.Endpoint.state c.serve-end-in-Http.new.link) (http_halt c.serve-end-in-Http.result) c.serve-end-in-Http.ensures.sure
