-- How a run ends.
use Rattle.std.proofs.Common.{◌≡◌, ℕ, List, [], ◌++◌, inl, inr, refl, sym, arith, length-append}
use Rattle.std.specs.Prelude.{◌<◌, codes, decimal, length, Result, Ok, Err}
use Rattle.std.proofs.KnownBytes.{Appends-nil}
use Rattle.pktline_core.specs.LinkState.{LinkState}
use Rattle.rule_compile.specs.Patterns.{AreTrue, Patterns}
use Rattle.access_report.specs.Access.{Prints}
use Rattle.access_report.specs.Writing.{StopsInside, TellsWrites}
use Rattle.access_report.specs.declared.access.Printed.{Printed}
use Rattle.access_report.specs.declared.access.Printed.TheVariants as printed
use Rattle.access_report.specs.declared.report.ReportFault.{ReportFault}
use Rattle.access_report.specs.declared.report.ReportFault.TheVariants as report
use Rattle.report_input.specs.Ends.{EndsReport, PrintsDue, PrintsPart, TellsBad, TellsEnd, WritesPart, due, fault_text, report_end}
use Rattle.report_input.specs.Input.{FindsBad, ReadsInput}
use Rattle.report_input.specs.declared.confs.Confs.{Confs}
use Rattle.report_input.specs.declared.report.ReportEnd.{ReportEnd}
use Rattle.report_input.specs.declared.report.ReportEnd.TheVariants as end

part_written : (sink sink' : LinkState) (text : List ℕ) (f : ReportFault) → StopsInside sink sink' text f → WritesPart sink sink' text
part_written sink sink' text f stops = record { bytes = stops.bytes; rest = stops.rest; written = stops.written; split = stops.split; short = stops.short }

module _ (source source' sink sink' : LinkState) (ask : List ℕ) (confs : Confs) (reads : ReadsInput source source' ask confs) (some : (ps : Patterns) × AreTrue ps) where
  printed_due : (what : Printed) → ((ps : Patterns) → AreTrue ps → Prints sink sink' (due ps ask confs) (Ok what)) → PrintsDue source source' sink sink' what
  printed_due what prints = record { ask = ask; confs = confs; reads = reads; what_is = λ ps are. sym (prints ps are).0; printed = λ ps are. (prints ps are).1 }

  printed_part : (f : ReportFault) → ((ps : Patterns) → AreTrue ps → Prints sink sink' (due ps ask confs) (Err f)) → PrintsPart source source' sink sink'
  printed_part f prints = record { ask = ask; confs = confs; reads = reads; part = λ ps are. part_written sink sink' (due ps ask confs).text f (prints ps are) }

  pub report_ended : (r : Result Printed ReportFault) → ((ps : Patterns) → AreTrue ps → Prints sink sink' (due ps ask confs) r) → EndsReport source source' sink sink' (report_end r)
  report_ended (Ok printed.Report) prints = printed_due printed.Report prints
  report_ended (Ok printed.BadQuestion) prints = printed_due printed.BadQuestion prints
  report_ended (Ok printed.ConfFault) prints = printed_due printed.ConfFault prints
  report_ended (Err report.WriteFault) prints = (inl (printed_part report.WriteFault prints), (prints some.0 some.1).failed)
  report_ended (Err report.NoMemory) prints = inr (inl (printed_part report.NoMemory prints))

pub report_told : (source source' sink sink' : LinkState) (r : Result Printed ReportFault) → TellsWrites sink sink' r → source'.read_faults ≡ source.read_faults → TellsEnd source source' sink sink' (report_end r)
report_told source source' sink sink' (Ok printed.Report) tells read = (inr read, inr tells)
report_told source source' sink sink' (Ok printed.BadQuestion) tells read = (inr read, inr tells)
report_told source source' sink sink' (Ok printed.ConfFault) tells read = (inr read, inr tells)
report_told source source' sink sink' (Err report.WriteFault) tells read = (inr read, inl refl)
report_told source source' sink sink' (Err report.NoMemory) tells read = (inr read, inr tells)

-- an input that is bad
pub bad_ended : (source source' sink sink' : LinkState) (offset : ℕ) (e : ReportEnd) → FindsBad source source' offset → TellsBad sink sink' offset e → EndsReport source source' sink sink' e
bad_ended source source' sink sink' offset end.BadScript finds tells = record { offset = offset; finds = finds; printed = tells }
bad_ended source source' sink sink' offset end.OutputFault finds tells = (inr (record { offset = offset; finds = finds; part = tells.0 }), tells.1)
bad_ended source source' sink sink' offset end.NoMemory finds tells = inr (inr (record { offset = offset; finds = finds; part = tells }))
bad_ended source source' sink sink' offset end.Done finds tells = absurd tells
bad_ended source source' sink sink' offset end.InputFault finds tells = absurd tells
bad_ended source source' sink sink' offset end.ConfRefused finds tells = absurd tells
bad_ended source source' sink sink' offset end.BadQuestion finds tells = absurd tells

some_fault : (offset : ℕ) → 0 < length (fault_text offset)
unfolding fault_text
some_fault offset = omega (arith, length-append (codes "bad script at ") (decimal offset ++ codes "\n"))

-- the line of a bad input had no room
pub bad_untold : (sink : LinkState) (offset : ℕ) → WritesPart sink sink (fault_text offset)
bad_untold sink offset = record { bytes = []; rest = fault_text offset; written = Appends-nil sink.written; split = refl; short = some_fault offset }
