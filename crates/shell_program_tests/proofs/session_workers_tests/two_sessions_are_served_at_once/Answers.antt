use denote.Exit.{no}
use denote.Param.Send.{arg_send, param_send}
use Rattle.shared_hub.proofs.Crosses.{hub_send}
use Rattle.shell_program_tests.proofs.session_workers_tests.two_sessions_are_served_at_once.Goals as goal

pub serve_all-served-requires-send-H : goal.serve_all-served-requires-send-H
serve_all-served-requires-send-H c κs within = param_send 4 _ (arg_send _ no _ hub_send)
