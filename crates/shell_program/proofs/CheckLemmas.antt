-- How a check ends.
use Rattle.std.proofs.Common.{◌≡◌, ◌≤◌, ◌∙◌, ◌++◌, length, take, List, ℕ, Bool, true, false, inl, inr, refl, arith}
use Rattle.std.specs.Prelude.{Err, IsTrue}
use Rattle.std.specs.Io.KnownBytes.{Keeps}
use Rattle.std.proofs.KnownBytes.{Consumes-kept}
use Rattle.std.proofs.lemmas.List.{take-append-le, take-take}
use Rattle.base_types.specs.Counts.{HasRisen}
use Rattle.pktline_core.specs.Links.{IsLater}
use Rattle.pktline_core.proofs.LinkLemmas.{risen_later}
use Rattle.script_frames.specs.ReadingFrames.{Takes}
use Rattle.pktline_core.specs.LinkState.{LinkState}
use Rattle.conf_check.specs.Report.{IsPrinted}
use Rattle.shell_program.specs.RunningScripts.{StopsWriting, TellsOutput}
use Rattle.shell_program.specs.Check.{EndsCheck, FailsInput, PrintsConf, ReadsAll, StopsReading, TellsReadAll, conf_status, read_status}
use Rattle.shell_program.specs.Lone.{EndsUsage, TellsStatus}
use Rattle.shell_program.specs.Status.{status_number, status_of}
use Rattle.shell_program.specs.Command.{usage_line}
use Rattle.shell_program.specs.declared.check.ReadAllFault.{ReadAllFault}
use Rattle.shell_program.specs.declared.check.ReadAllFault.TheVariants as reading
use Rattle.shell_program.specs.declared.script.ScriptFault.{ScriptFault}
use Rattle.shell_program.specs.declared.script.ScriptFault.TheVariants as fault

-- the front of what stands at the front of a room
pub front_of : (n room : ℕ) (xs ys : List ℕ) → n ≤ length xs → n ≤ room → take n (take room (xs ++ ys)) ≡ take n xs
front_of n room xs ys short fits = take-take n room (xs ++ ys) fits ∙ take-append-le n xs ys short

-- a call that took nothing more
pub takes_kept : (a b c : LinkState) (xs : List ℕ) → Takes a b xs → Keeps b.left c.left → c.given ≡ b.given → Takes a c xs
takes_kept a b c xs takes kept given = record {
  consumed = Consumes-kept a.left b.left c.left xs takes.consumed kept;
  counted = omega (arith, takes.counted, given);
}

pub read_failed : (a b c : LinkState) (xs : List ℕ) → Takes a b xs → IsLater a b → Keeps b.left c.left → c.given ≡ b.given
    → HasRisen b.read_faults c.read_faults → IsTrue b.may_fail → FailsInput a c
read_failed a b c xs takes later kept given risen may = record {
  part = xs;
  fails = record {
    takes = takes_kept a b c xs takes kept given;
    risen = risen_later a.read_faults b.read_faults c.read_faults later.read_faults risen;
    may_fail = rw later.may_fail at may;
  };
}

module _ (source source' sink sink' : LinkState) where
  -- the input was not read to its end
  pub read_stopped : (f : ReadAllFault) → StopsReading source source' f → EndsCheck source source' sink sink (read_status f)
  read_stopped reading.Failed stops = (stops, refl)
  read_stopped reading.NoMemory stops = inl (stops, refl)

  pub read_told : (f : ReadAllFault) → TellsReadAll {V = List ℕ} source source' (Err f) → TellsStatus source source' sink sink (status_number (read_status f))
  read_told reading.Failed tells = (inl refl, inr refl)
  read_told reading.NoMemory tells = (inr tells, inr refl)

  pub printed_whole : (has_rules : Bool) → PrintsConf source source' sink sink' has_rules → EndsCheck source source' sink sink' (conf_status has_rules)
  printed_whole true p = p
  printed_whole false p = p

  pub printed_part : (input text : List ℕ) (has_rules : Bool) (f : ScriptFault) → ReadsAll source source' input → IsPrinted input has_rules text
      → StopsWriting sink sink' text f → EndsCheck source source' sink sink' (status_of (Err f))
  printed_part input text has_rules fault.BadScript reads due stops = absurd stops
  printed_part input text has_rules fault.InputFault reads due stops = absurd stops
  printed_part input text has_rules fault.DiskFault reads due stops = absurd stops
  printed_part input text has_rules fault.OutputFault reads due stops =
      (record { input = input; text = text; has_rules = has_rules; reads = reads; due = due; part = stops.0 }, stops.1)
  printed_part input text has_rules fault.NoMemory reads due stops =
      inr (record { input = input; text = text; has_rules = has_rules; reads = reads; due = due; part = stops.0 }, stops.1)

  pub part_told : (text : List ℕ) (f : ScriptFault) → StopsWriting sink sink' text f → TellsOutput {V = Unit {0}} sink sink' (Err f) → source'.read_faults ≡ source.read_faults
      → TellsStatus source source' sink sink' (status_number (status_of (Err f)))
  part_told text fault.BadScript stops tells read = absurd stops
  part_told text fault.InputFault stops tells read = absurd stops
  part_told text fault.DiskFault stops tells read = absurd stops
  part_told text fault.OutputFault stops tells read = (inr read, inl refl)
  part_told text fault.NoMemory stops tells read = (inr read, inr tells)

-- the usage was not printed whole
pub usage_stopped : (sink sink' : LinkState) (f : ScriptFault) → StopsWriting sink sink' usage_line f → EndsUsage sink sink' (status_of (Err f))
usage_stopped sink sink' fault.BadScript stops = absurd stops
usage_stopped sink sink' fault.InputFault stops = absurd stops
usage_stopped sink sink' fault.DiskFault stops = absurd stops
usage_stopped sink sink' fault.OutputFault stops = stops
usage_stopped sink sink' fault.NoMemory stops = (stops.0, inr stops.1)

-- and memory lacked only at a sink that may lack it
pub usage_lacks : (sink sink' : LinkState) (f : ScriptFault) → StopsWriting sink sink' usage_line f → status_number (status_of (Err f)) ≡ 4 → IsTrue sink.may_lack
usage_lacks sink sink' fault.BadScript stops four = absurd stops
usage_lacks sink sink' fault.InputFault stops four = absurd stops
usage_lacks sink sink' fault.DiskFault stops four = absurd stops
usage_lacks sink sink' fault.OutputFault stops four = absurd (omega arith)
usage_lacks sink sink' fault.NoMemory stops four = stops.1
