-- The command line as `clap` is told of it, and the command that its matches are.
use Rattle.std.specs.Prelude.{true, List, Option, Some, None, codes, if◌then◌else◌, option_and_then}
use Rattle.std.specs.Option.{option_map}
use Rattle.std.specs.Str.{bytes_eq}
use Rattle.clap.specs.Words.{App, Row, Rule, Text, first_of, new_app, new_rule, with_rule, with_subcommand}
use Rattle.conf_lex.specs.Names.{is_user_name}
use Rattle.shell_words.specs.Numbers.{number_in}
use Rattle.shell_words.specs.Commands.{load_with, serve_by}
use Rattle.shell_words.specs.declared.commands.Transport.TheVariants.{Git, Http}
use Rattle.shell_words.specs.declared.commands.Asked.{Asked}
use Rattle.shell_words.specs.declared.commands.Asked.TheVariants.{Script, Check, Keep, Access}

-- `--NAME VALUE`, which has to be given
abbrev pub option_rule : Text → Rule
option_rule name = record (new_rule name) { long = Some name; required = true }

-- a word, which has to be given
abbrev pub word_rule : Text → Rule
word_rule name = record (new_rule name) { required = true }

-- a command with the option `--admin` alone
abbrev pub admin_command : Text → App
admin_command name = with_rule (new_app name) (option_rule (codes "admin"))

-- a command with the options `--admin`, `--workers` and `--sessions`
abbrev pub serve_command : Text → App
serve_command name = with_rule (with_rule (admin_command name) (option_rule (codes "workers"))) (option_rule (codes "sessions"))

abbrev pub load_command : App
load_command = with_rule (with_rule (new_app (codes "load")) (word_rule (codes "count"))) (word_rule (codes "start"))

-- the program without its commands, which has no help and is called by the words behind its name
abbrev pub bare_program : App
bare_program = record (new_app (codes "gitolite_shell")) {
  top = record (new_app (codes "gitolite_shell")).top {
    no_binary_name = true;
    disable_help_flag = true;
    disable_help_subcommand = true;
  };
}

abbrev pub with_command : App → App → App
with_command program command = with_subcommand program command.top

abbrev pub program : App
program =
    with_command (with_command (with_command (with_command (with_command (with_command (with_command bare_program
    (admin_command (codes "script"))) (serve_command (codes "serve"))) (serve_command (codes "http"))) (new_app (codes "check"))) load_command)
    (admin_command (codes "keep"))) (new_app (codes "access"))

-- the user's name that was given
abbrev pub admin_by : Option Text → Option Text
admin_by admin = option_and_then (λ name. if is_user_name name then Some name else None) admin

-- `load` by the two words that were given
abbrev pub load_by : Option Text → Option Text → Option Asked
load_by (Some count) (Some start) = load_with (number_in 1 5000 count) (number_in 0 4294967295 start)
load_by (Some count) None = None
load_by None start = None

-- the command by its name and the values of its arguments
abbrev pub command_by : Text → (Text → Option Text) → Option Asked
command_by name value =
    if bytes_eq name (codes "script") then option_map Script (admin_by (value (codes "admin")))
    else if bytes_eq name (codes "serve") then serve_by Git (value (codes "admin")) (value (codes "workers")) (value (codes "sessions"))
    else if bytes_eq name (codes "http") then serve_by Http (value (codes "admin")) (value (codes "workers")) (value (codes "sessions"))
    else if bytes_eq name (codes "check") then Some Check
    else if bytes_eq name (codes "load") then load_by (value (codes "count")) (value (codes "start"))
    else if bytes_eq name (codes "keep") then option_map Keep (admin_by (value (codes "admin")))
    else if bytes_eq name (codes "access") then Some Access
    else None

-- the command that matches are
abbrev pub command_of : Option (Text × List Row) → Option Asked
command_of found = option_and_then (λ p. command_by p.0 (λ id. first_of id p.1)) found
