use Rattle.std.proofs.Common.{◌≡◌, Err, rules}
use Rattle.pktline_core.proofs.LinkLemmas.{later_more}
use Rattle.shell_program.proofs.AccessLemmas.{ask_is_word, ask_stopped, conf_is_word, conf_stopped, read_whole, rest_stopped}
use Rattle.shell_program.proofs.access.read_input.Goals as goal

pub read_wanted-requires : goal.read_wanted-requires
read_wanted-requires g c = ask_is_word

pub read_wanted-requires-2 : goal.read_wanted-requires-2
read_wanted-requires-2 g c = conf_is_word

pub returns-in_err-ask-clause-err : goal.returns-in_err-ask-clause-err
returns-in_err-ask-clause-err g c =
    let answer : c.from_residual.result ≡ Err c.in_err-ask.field-0.0 = search rules in
    rw answer (ask_stopped _ _ c.in_err-ask.field-0.0 c.in_err-ask.ensures.err)

pub returns-in_err-conf-clause-err : goal.returns-in_err-conf-clause-err
returns-in_err-conf-clause-err g c =
    let answer : c.from_residual-in_err-conf.result ≡ Err c.in_err-conf.field-0.0 = search rules in
    rw answer (conf_stopped _ _ _ c.in_ok-ask.ask.taken c.in_ok-ask.ask.body.items c.in_err-conf.field-0.0 c.in_ok-ask.ensures.ok c.read_wanted.ensures.later c.in_err-conf.ensures.err)

pub returns-in_err-other-clause-err : goal.returns-in_err-other-clause-err
returns-in_err-other-clause-err g c =
    let answer : c.from_residual-in_err-other.result ≡ Err c.in_err-other.field-0.0 = search rules in
    let later = later_more _ _ _ c.read_wanted.ensures.later c.read_wanted-2.ensures.later in
    rw answer (rest_stopped _ _ _ c.in_ok-ask.ask.taken c.in_ok-conf.conf.taken c.in_ok-ask.ask.body.items c.in_ok-conf.conf.body.items c.in_ok-ask.ensures.ok c.in_ok-conf.ensures.ok _ c.in_err-other.field-0.0 later c.in_err-other.ensures.err)

pub returns-clause-ok : goal.returns-clause-ok
returns-clause-ok g c =
    read_whole _ _ _ c.in_ok-ask.ask.taken c.in_ok-conf.conf.taken c.in_ok-ask.ask.body.items c.in_ok-conf.conf.body.items c.in_ok-ask.ensures.ok c.in_ok-conf.ensures.ok _ _ c.in_ok-other.other c.in_ok-other.ensures.some c.in_ok-other.ensures.none
