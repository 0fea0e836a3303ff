use Rattle.std.proofs.Common.{◌≡◌, ◌++◌, filter}
use Rattle.conf_groups.specs.Files.{fits}
use Rattle.conf_groups.specs.Indexes.{bytes_of, names_of}
use Rattle.conf_groups.proofs.files.Files.fitting.Given as goal

abbrev pub invariant-loop-file : goal.invariant-loop-file
invariant-loop-file l = filter (fits l.pattern) (names_of l.initial.file-iterator) ≡ bytes_of l.names.items ++ filter (fits l.pattern) (names_of l.file-iterator)
