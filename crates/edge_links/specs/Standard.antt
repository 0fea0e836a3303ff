-- What a reader and a writer of the system are to contracts: each may fail, and neither lacks memory.
use Rattle.std.specs.Prelude.{ℕ, true, false, List, None}
use Rattle.std.specs.declared.option.Option.{Option}
use Rattle.base_types.specs.Counts.{one_more}
use Rattle.pktline_core.specs.LinkState.{LinkState, Whole}
use Rattle.pktline_core.specs.declared.links.Taken.{Taken}
use Rattle.pktline_core.specs.declared.links.Taken.TheVariants as taken
use Rattle.pktline_core.specs.declared.links.Put.{Put}
use Rattle.pktline_core.specs.declared.links.Put.TheVariants as put

-- a reader with these bytes left, where it tells them, that has given so many bytes and failed so often
abbrev pub reader_state : Option (List ℕ) → ℕ → ℕ → LinkState
reader_state left given faults = record {
  left = left;
  given = given;
  read_faults = faults;
  written = None;
  write_faults = 0;
  may_lack = false;
  may_fail = true;
  tells = false;
  limits = Whole;
}

-- a writer with these bytes written, where it tells them, that has failed so often
abbrev pub writer_state : Option (List ℕ) → ℕ → LinkState
writer_state written faults = record {
  left = None;
  given = 0;
  read_faults = 0;
  written = written;
  write_faults = faults;
  may_lack = false;
  may_fail = true;
  tells = false;
  limits = Whole;
}

-- the count of faults after a read with this answer
abbrev pub faults_after_take : ℕ → Taken → ℕ
faults_after_take faults (taken.Got n) = faults
faults_after_take faults taken.End = faults
faults_after_take faults taken.Failed = one_more faults

-- the count of faults after a write with this answer
abbrev pub faults_after_put : ℕ → Put → ℕ
faults_after_put faults (put.Took n) = faults
faults_after_put faults put.Failed = one_more faults
faults_after_put faults put.NoMemory = faults
