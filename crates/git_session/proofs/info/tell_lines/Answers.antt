use Rattle.std.proofs.Common.{◌++◌, map}
use Rattle.std.specs.List.{flat_map}
use Rattle.pktline_core.specs.Packets.{spelling, Flush}
use Rattle.std.proofs.lemmas.Result.{err_from_is_err_and}
use Rattle.session_core.proofs.StepLemmas.{says, says_exits}
use Rattle.session_core.specs.Packets.{packet}
use Rattle.git_session.specs.Info.{hello, info_reply, look_line}
use Rattle.git_session.proofs.info.tell_lines.Goals as goal

pub returns-in_err-say_hello-clause-runs : goal.returns-in_err-say_hello-clause-runs
unfolding info_reply
returns-in_err-say_hello-clause-runs g c = λ desk.
    let p = err_from_is_err_and c.from_residual.result c.from_residual.ensures.1 in
    says_exits _ _ desk (packet (hello c.args.user.now)) (flat_map packet (map look_line c.args.lines.now) ++ spelling Flush) c.say_hello.result _ _ _ c.in_err-say_hello.was p.1 p.2 (c.say_hello.ensures.runs desk)

pub returns-in_err-say_lines-clause-runs : goal.returns-in_err-say_lines-clause-runs
unfolding info_reply
returns-in_err-say_lines-clause-runs g c = λ desk.
    let p = err_from_is_err_and c.from_residual-in_err-say_lines.result c.from_residual-in_err-say_lines.ensures.1 in
    says _ _ desk (packet (hello c.args.user.now)) (flat_map packet (map look_line c.args.lines.now) ++ spelling Flush) c.say_hello.result _ _ _ c.in_ok-say_hello.was (c.say_hello.ensures.runs desk) (says_exits _ _ desk (flat_map packet (map look_line c.args.lines.now)) (spelling Flush) c.say_lines.result _ _ _ c.in_err-say_lines.was p.1 p.2 (c.say_lines.ensures.runs desk))

pub returns-clause-runs : goal.returns-clause-runs
unfolding info_reply
returns-clause-runs g c = λ desk.
    says _ _ desk (packet (hello c.args.user.now)) (flat_map packet (map look_line c.args.lines.now) ++ spelling Flush) c.say_hello.result _ _ _ c.in_ok-say_hello.was (c.say_hello.ensures.runs desk) (says _ _ desk (flat_map packet (map look_line c.args.lines.now)) (spelling Flush) c.say_lines.result _ _ _ c.in_ok-say_lines.was (c.say_lines.ensures.runs desk) (c.say_flush.ensures.runs desk))
