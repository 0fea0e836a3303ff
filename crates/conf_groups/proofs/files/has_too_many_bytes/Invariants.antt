use Rattle.std.proofs.Common.{◌≡◌, ◌+◌}
use Rattle.std.specs.FinMap as named
use Rattle.conf_groups.specs.Indexes.{bytes_in}
use Rattle.conf_groups.specs.declared.limits.TheConstants.{MAX_FILE_BYTES}
use Rattle.conf_groups.proofs.files.has_too_many_bytes.Given as goal

-- what is left is the limit without the files so far
abbrev pub invariant-loop-file : goal.invariant-loop-file
invariant-loop-file l = l.left + bytes_in (named.entries l.index) ≡ MAX_FILE_BYTES + bytes_in l.file-iterator
