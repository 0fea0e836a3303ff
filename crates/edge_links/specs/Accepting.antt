-- Which errors of accept(2) are of the connection that was to be accepted. The system has then taken it off its
-- queue, and may accept the next.
use Rattle.std.specs.Prelude.{ℤ, pos, Bool, true, false, ◌||◌, List, [], ◌∷◌}
use Rattle.std.specs.List.{list_any}
use Rattle.std.specs.IoError.{error_kind, raw_os_error}
use Rattle.std.specs.declared.option.Option.{Option}
use Rattle.std.specs.declared.option.Option.TheVariants.{None, Some}
use Rattle.std.specs.declared.io.Error.{Error}
use Rattle.std.specs.declared.io.ErrorKind.{ErrorKind}
use Rattle.std.specs.declared.io.ErrorKind.TheVariants as kind
use Rattle.std.specs.Ordering.{int_eq}

-- A signal came, the client was gone, or what came for it from the network is passed on: ECONNABORTED,
-- ECONNRESET, EHOSTUNREACH, ENETUNREACH and ENETDOWN of accept(2).
abbrev pub is_kind_of_one_connection : ErrorKind → Bool
is_kind_of_one_connection kind.Interrupted = true
is_kind_of_one_connection kind.ConnectionAborted = true
is_kind_of_one_connection kind.ConnectionReset = true
is_kind_of_one_connection kind.HostUnreachable = true
is_kind_of_one_connection kind.NetworkUnreachable = true
is_kind_of_one_connection kind.NetworkDown = true
is_kind_of_one_connection _ = false

-- The errors of the network that accept(2) names too and that have no kind: ENONET, EPROTO, ENOPROTOOPT,
-- EOPNOTSUPP and EHOSTDOWN, by their numbers in Linux.
abbrev pub one_connection_numbers : List ℤ
one_connection_numbers = pos 64 ∷ pos 71 ∷ pos 92 ∷ pos 95 ∷ pos 112 ∷ []

abbrev pub is_number_of_one_connection : Option ℤ → Bool
is_number_of_one_connection None = false
is_number_of_one_connection (Some number) = list_any (λ n. int_eq n number) one_connection_numbers

abbrev pub is_of_one_connection : Error → Bool
is_of_one_connection error = is_kind_of_one_connection (error_kind error) || is_number_of_one_connection (raw_os_error error)
