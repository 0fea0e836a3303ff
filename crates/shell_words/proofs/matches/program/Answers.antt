use Rattle.std.proofs.lemmas.Result.{IfOk-weaker}
use Rattle.shell_words.proofs.MatchLemmas.{bare-is, command-added}
use Rattle.shell_words.proofs.matches.program.Goals as goal

pub returns : goal.returns
returns c =
    let bare = bare-is _ _ _ _ c.new.ensures.app c.no_binary_name.ensures c.disable_help_flag.ensures c.disable_help_subcommand.ensures in
    let script = command-added _ _ _ _ _ c.in_ok-subcommand.ensures c.in_ok-admin_command.ensures.local bare c.in_ok-admin_command.ensures.app in
    let serve = command-added _ _ _ _ _ c.in_ok-subcommand-2.ensures c.in_ok-serve_command.ensures.local script c.in_ok-serve_command.ensures.app in
    let http = command-added _ _ _ _ _ c.in_ok-subcommand-3.ensures c.in_ok-serve_command-2.ensures.local serve c.in_ok-serve_command-2.ensures.app in
    let check = command-added _ _ _ _ _ c.in_ok-subcommand-4.ensures c.new-2.ensures.local http c.new-2.ensures.app in
    let load = command-added _ _ _ _ _ c.in_ok-subcommand-5.ensures c.in_ok-load_command.ensures.local check c.in_ok-load_command.ensures.app in
    let keep = command-added _ _ _ _ _ c.in_ok-subcommand-6.ensures c.in_ok-admin_command-2.ensures.local load c.in_ok-admin_command-2.ensures.app in
    IfOk-weaker c.subcommand-7.result _ _ (λ r adds. command-added _ _ r _ _ adds c.new-3.ensures.local keep c.new-3.ensures.app) c.subcommand-7.ensures
