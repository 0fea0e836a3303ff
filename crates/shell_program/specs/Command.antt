-- The command that is done.
use Rattle.std.specs.Prelude.{ℕ, zero, suc, List, Option, Some, None, codes, nat_le, if◌then◌else◌, option_and_then}
use Rattle.ref_store.specs.Refs.{Name}
use Rattle.shell_words.specs.declared.commands.Asked.{Asked}
use Rattle.shell_words.specs.declared.commands.Asked.TheVariants.{Script, Serve, Check, Load, Keep, Access}
use Rattle.shell_words.specs.declared.commands.Transport.{Transport}
use Rattle.shell_words.specs.Commands.{asked}
use Rattle.shell_program.specs.Load.{loader}

-- `serve` and `http` want a post for each worker, and one at least
abbrev pub served_at : ℕ → Transport → Name → ℕ → ℕ → Option Asked
served_at zero transport admin workers sessions = None
served_at (suc posts) transport admin workers sessions = if nat_le workers (suc posts) then Some (Serve transport admin workers sessions) else None

-- a command that is asked for, where there are so many posts
abbrev pub built : ℕ → Asked → Option Asked
built posts (Script admin) = Some (Script admin)
built posts (Serve transport admin workers sessions) = served_at posts transport admin workers sessions
built posts Check = Some Check
built posts (Load count start) = Some (Load count start)
built posts (Keep admin) = Some (Keep admin)
built posts Access = Some Access

-- the command that these words are, where it is done; other words are refused
abbrev pub command : ℕ → List (List ℕ) → Option Asked
command posts words = option_and_then (built posts) (asked words)

-- the admin of its hub
abbrev pub admin_of : Option Asked → Option Name
admin_of None = None
admin_of (Some (Script admin)) = Some admin
admin_of (Some (Serve transport admin workers sessions)) = Some admin
admin_of (Some Check) = None
admin_of (Some (Load count start)) = Some loader
admin_of (Some (Keep admin)) = Some admin
admin_of (Some Access) = None

-- what is printed where the words are refused
abbrev pub usage_line : List ℕ
usage_line = codes "usage: gitolite_shell script --admin NAME | serve --admin NAME --workers K --sessions N | http --admin NAME --workers K --sessions N | check | load N START | keep --admin NAME | access\n"
