use Rattle.std.proofs.Common.{◌≡◌, ◌++◌, drop}
use Rattle.std.specs.Prelude.{flat_map, map}
use Rattle.raw_pack.specs.Grammar.{spelled_entry}
use Rattle.installation.specs.Sending.{content_of}
use Rattle.installation.proofs.sending.add_entries.Given as goal

abbrev pub invariant-loop-packed : goal.invariant-loop-packed
invariant-loop-packed l =
    l.initial.pack.items ++ flat_map spelled_entry (map content_of l.contents) ≡ l.pack.items ++ flat_map spelled_entry (map content_of (drop l.packed-index l.contents))
