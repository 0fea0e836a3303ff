-- A link over memory, seen as what it has left and what it has done.
use Rattle.std.specs.Prelude.{drop}
use Rattle.pktline_core.specs.MemoryLinks.{MemoryState}
use Rattle.pktline_core.specs.declared.memory_link.MemoryLink.{MemoryLink}

abbrev pub memory_of : MemoryLink → MemoryState
memory_of m = record {
  left = drop m.at m.input.items;
  given = m.at;
  written = m.output.items;
  most = m.most;
  takes = m.takes;
  puts = m.puts;
  failing_takes = m.failing_takes.items;
  failing_puts = m.failing_puts.items;
  read_faults = m.read_faults;
  write_faults = m.write_faults;
}
