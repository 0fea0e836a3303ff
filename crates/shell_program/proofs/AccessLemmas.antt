-- How a run of `access` ends.
use Rattle.std.proofs.Common.{◌≡◌, ◌∙◌, ◌+◌, ℕ, List, [], ◌∷◌, ◌++◌, Option, Some, None, ap, inl, inr, refl, subst, sym, arith, append_assoc, length-append}
use Rattle.std.specs.Prelude.{IfNone, IfSome, Result, Ok, Err}
use Rattle.std.specs.Option.{option_map}
use Rattle.std.proofs.lemmas.List.{append-nil}
use Rattle.std.proofs.KnownBytes.{Appends-nil}
use Rattle.std.specs.Io.KnownBytes.{IsAtEnd}
use Rattle.pktline_core.specs.LinkState.{LinkState}
use Rattle.pktline_core.specs.Links.{IsLater}
use Rattle.pktline_core.proofs.LinkLemmas.{risen_later}
use Rattle.rule_compile.specs.Patterns.{AreTrue, Patterns}
use Rattle.script_frames.specs.Frames.{BeginsNoFrame, IsWord, frame_text}
use Rattle.script_frames.specs.ReadingFrames.{StopsAtByte, StopsInFrame, Takes, TakesByte, TakesFrame}
use Rattle.script_frames.specs.declared.frames.FrameFault.{FrameFault}
use Rattle.script_frames.specs.declared.frames.FrameFault.TheVariants as frame
use Rattle.script_frames.proofs.FrameLemmas.{begins_none}
use Rattle.script_frames.proofs.ReadingLemmas.{no_rest, takes_more}
use Rattle.conf_check.specs.Report.{only_file}
use Rattle.access_report.specs.Access.{Prints}
use Rattle.access_report.specs.Reading.{read}
use Rattle.access_report.proofs.DueLemmas.{some_of}
use Rattle.access_report.proofs.WritingLemmas.{stops_first}
use Rattle.access_report.specs.Writing.{StopsInside, TellsWrites}
use Rattle.access_report.specs.declared.access.Printed.{Printed}
use Rattle.access_report.specs.declared.access.Printed.TheVariants as printed
use Rattle.access_report.specs.declared.report.ReportFault.{ReportFault}
use Rattle.access_report.specs.declared.report.ReportFault.TheVariants as report
use Rattle.shell_program.specs.Lone.{TellsStatus}
use Rattle.shell_program.specs.RunningScripts.{StopsWriting, WritesPart}
use Rattle.shell_program.specs.Script.{fault_text}
use Rattle.shell_program.specs.Status.{status_number, status_of}
use Rattle.shell_program.specs.declared.script.ScriptFault.{ScriptFault}
use Rattle.shell_program.specs.declared.script.ScriptFault.TheVariants as script
use Rattle.shell_program.specs.declared.status.Status.{Status}
use Rattle.shell_program.specs.declared.status.Status.TheVariants as status
use Rattle.shell_program.specs.Access.{EndsAccess, PrintsAccess, PrintsPart, TellsBad, access_status, due, FailsInput, FindsBad, FindsNoFrame, GoesWrong, LacksInput, ReadsInput, StopsAtEnd, StopsAtFrame, StopsAtOther, StopsInput, TakesLast, ask_word, conf_word, input_fault, input_text}
use Rattle.shell_program.specs.declared.access.InputFault.{InputFault}
use Rattle.shell_program.specs.declared.access.InputFault.TheVariants as fault
use Rattle.shell_program.proofs.ScriptLemmas.{some_fault}

pub ask_is_word : IsWord ask_word
ask_is_word = record { no_feed = ((λ e. omega (arith, e)), ((λ e. omega (arith, e)), ((λ e. omega (arith, e)), ((λ e. omega (arith, e)), tt)))); short = omega arith }

pub conf_is_word : IsWord conf_word
conf_is_word = record { no_feed = ((λ e. omega (arith, e)), ((λ e. omega (arith, e)), ((λ e. omega (arith, e)), ((λ e. omega (arith, e)), ((λ e. omega (arith, e)), tt))))); short = omega arith }

-- ---- a frame

-- no frame stands where the input ends
pub ended_here : (word : List ℕ) → IsWord word → (a b : LinkState) → Takes a b [] → IsAtEnd b.left → FindsNoFrame word a b
ended_here word is_word a b takes end = record {
  part = [];
  takes = takes;
  none = λ rest is. subst (BeginsNoFrame word) (sym (no_rest b.left rest end is)) (begins_none word is_word);
}

pub frame_stopped : (word : List ℕ) (a b : LinkState) (offset : ℕ) (f : FrameFault) → StopsInFrame word a b f → StopsAtFrame word a b offset (input_fault f offset)
frame_stopped word a b offset frame.Bad stops = (refl, record { part = stops.part; takes = stops.takes; none = stops.bad })
frame_stopped word a b offset frame.ReadFault stops = record { part = stops.part; fails = stops.fails }
frame_stopped word a b offset frame.NoMemory stops = record { part = stops.part; takes = stops.takes }

pub other_stopped : (a b : LinkState) (offset : ℕ) (f : FrameFault) → StopsInFrame conf_word a b f → StopsAtOther a b offset (input_fault f offset)
other_stopped a b offset frame.Bad stops = inl (refl, record { found = record { part = stops.part; takes = stops.takes; none = stops.bad }; some = stops.some })
other_stopped a b offset frame.ReadFault stops = record { part = stops.part; fails = stops.fails }
other_stopped a b offset frame.NoMemory stops = record { part = stops.part; takes = stops.takes }

pub end_stopped : (a b : LinkState) (offset : ℕ) (f : FrameFault) → StopsAtByte a b f → StopsAtEnd a b offset (input_fault f offset)
end_stopped a b offset frame.Bad stops = absurd stops
end_stopped a b offset frame.ReadFault stops = record { part = []; fails = stops }
end_stopped a b offset frame.NoMemory stops = absurd stops

-- ---- one part behind another

fails_behind : (a b c : LinkState) (xs : List ℕ) → Takes a b xs → IsLater a b → FailsInput b c → FailsInput a c
fails_behind a b c xs takes later fails = record {
  part = xs ++ fails.part;
  fails = record {
    takes = takes_more a b c xs fails.part takes fails.fails.takes;
    risen = risen_later a.read_faults b.read_faults c.read_faults later.read_faults fails.fails.risen;
    may_fail = rw later.may_fail at fails.fails.may_fail;
  };
}

lacks_behind : (a b c : LinkState) (xs : List ℕ) → Takes a b xs → LacksInput b c → LacksInput a c
lacks_behind a b c xs takes lacks = record { part = xs ++ lacks.part; takes = takes_more a b c xs lacks.part takes lacks.takes }

-- the second conf, and then the end
pub taken_last : (a b c : LinkState) (taken : ℕ) (conf : List ℕ) → TakesFrame conf_word a b taken conf → TakesByte b c None → TakesLast a c conf
taken_last a b c taken conf frame end = record {
  small = frame.small;
  takes = subst (Takes a c) (append-nil (frame_text conf_word conf)) (takes_more a b c (frame_text conf_word conf) [] frame.takes end.0);
  ended = end.1;
}

pub more_stopped : (a b c : LinkState) (taken offset : ℕ) (conf : List ℕ) (f : InputFault) → TakesFrame conf_word a b taken conf → IsLater a b → StopsAtEnd b c (offset + taken) f → StopsAtOther a c offset f
more_stopped a b c taken offset conf (fault.Bad at) frame later stops = inr (record {
  conf = conf;
  byte = stops.1.0;
  small = frame.small;
  takes = takes_more a b c (frame_text conf_word conf) (stops.1.0 ∷ []) frame.takes stops.1.1;
  place = omega (arith, stops.0, frame.counted);
})
more_stopped a b c taken offset conf fault.Failed frame later stops = fails_behind a b c (frame_text conf_word conf) frame.takes later stops
more_stopped a b c taken offset conf fault.NoMemory frame later stops = absurd stops

-- ---- the whole input

-- no questions
pub ask_stopped : (a b : LinkState) (f : InputFault) → StopsAtFrame ask_word a b 0 f → StopsInput a b f
ask_stopped a b (fault.Bad at) stops = record {
  part = stops.1.part;
  takes = stops.1.takes;
  bad = λ rest is. record { frames = []; rest = stops.1.part ++ rest; split = refl; place = stops.0; wrong = GoesWrong.no_questions (stops.1.none rest is) };
}
ask_stopped a b fault.Failed stops = stops
ask_stopped a b fault.NoMemory stops = stops

-- no conf behind them
pub conf_stopped : (a b c : LinkState) (taken : ℕ) (ask : List ℕ) (f : InputFault) → TakesFrame ask_word a b taken ask → IsLater a b → StopsAtFrame conf_word b c taken f → StopsInput a c f
conf_stopped a b c taken ask (fault.Bad at) frame later stops = record {
  part = frame_text ask_word ask ++ stops.1.part;
  takes = takes_more a b c (frame_text ask_word ask) stops.1.part frame.takes stops.1.takes;
  bad = λ rest is. record {
    frames = frame_text ask_word ask;
    rest = stops.1.part ++ rest;
    split = append_assoc (frame_text ask_word ask) stops.1.part rest;
    place = stops.0 ∙ frame.counted;
    wrong = GoesWrong.no_conf ask (frame.small, tt) (stops.1.none rest is);
  };
}
conf_stopped a b c taken ask fault.Failed frame later stops = fails_behind a b c (frame_text ask_word ask) frame.takes later stops
conf_stopped a b c taken ask fault.NoMemory frame later stops = lacks_behind a b c (frame_text ask_word ask) frame.takes stops

module _ (a b c : LinkState) (taken more : ℕ) (ask conf : List ℕ) (first : TakesFrame ask_word a b taken ask) (second : TakesFrame conf_word b c more conf) where
  both : Takes a c (frame_text ask_word ask ++ frame_text conf_word conf)
  both = takes_more a b c (frame_text ask_word ask) (frame_text conf_word conf) first.takes second.takes

  -- neither a second conf behind them, nor the end
  pub rest_stopped : (d : LinkState) (f : InputFault) → IsLater a c → StopsAtOther c d (taken + more) f → StopsInput a d f
  rest_stopped d (fault.Bad at) later (inl (place, found)) = record {
    part = (frame_text ask_word ask ++ frame_text conf_word conf) ++ found.found.part;
    takes = takes_more a c d (frame_text ask_word ask ++ frame_text conf_word conf) found.found.part both found.found.takes;
    bad = λ rest is. record {
      frames = frame_text ask_word ask ++ frame_text conf_word conf;
      rest = found.found.part ++ rest;
      split = append_assoc (frame_text ask_word ask ++ frame_text conf_word conf) found.found.part rest;
      place = omega (arith, place, first.counted, second.counted, length-append (frame_text ask_word ask) (frame_text conf_word conf));
      wrong = GoesWrong.no_other ask conf (first.small, (second.small, tt)) (omega (arith, found.some, length-append found.found.part rest)) (found.found.none rest is);
    };
  }
  rest_stopped d (fault.Bad at) later (inr found) =
      let frames = input_text ask conf (Some found.conf) in
      let whole : (frame_text ask_word ask ++ frame_text conf_word conf) ++ (frame_text conf_word found.conf ++ found.byte ∷ []) ≡ frames ++ found.byte ∷ [] =
      sym (append_assoc (frame_text ask_word ask ++ frame_text conf_word conf) (frame_text conf_word found.conf) (found.byte ∷ []))
      ∙ ap (λ (l : List ℕ). l ++ found.byte ∷ []) (append_assoc (frame_text ask_word ask) (frame_text conf_word conf) (frame_text conf_word found.conf)) in
      record {
        part = frames ++ found.byte ∷ [];
        takes = subst (Takes a d) whole (takes_more a c d (frame_text ask_word ask ++ frame_text conf_word conf) (frame_text conf_word found.conf ++ found.byte ∷ []) both found.takes);
        bad = λ rest is. record {
          frames = frames;
          rest = found.byte ∷ rest;
          split = append_assoc frames (found.byte ∷ []) rest;
          place = omega (arith, found.place, first.counted, second.counted, length-append (frame_text ask_word ask) (frame_text conf_word conf ++ frame_text conf_word found.conf), length-append (frame_text conf_word conf) (frame_text conf_word found.conf));
          wrong = GoesWrong.no_end ask conf found.conf (first.small, (second.small, (found.small, tt))) (omega arith);
        };
      }
  rest_stopped d fault.Failed later stops = fails_behind a c d (frame_text ask_word ask ++ frame_text conf_word conf) both later stops
  rest_stopped d fault.NoMemory later stops = lacks_behind a c d (frame_text ask_word ask ++ frame_text conf_word conf) both stops

  -- one conf
  pub read_one : (d : LinkState) → TakesByte c d None → ReadsInput a d ask conf None
  read_one d end = record {
    small = (first.small, (second.small, tt));
    takes = subst (Takes a d) (append_assoc (frame_text ask_word ask) (frame_text conf_word conf) []) (takes_more a c d (frame_text ask_word ask ++ frame_text conf_word conf) [] both end.0);
    ended = end.1;
  }

  -- two confs
  pub read_two : (d : LinkState) (other : List ℕ) → TakesLast c d other → ReadsInput a d ask conf (Some other)
  read_two d other last = record {
    small = (first.small, (second.small, (last.small, tt)));
    takes = subst (Takes a d) (append_assoc (frame_text ask_word ask) (frame_text conf_word conf) (frame_text conf_word other)) (takes_more a c d (frame_text ask_word ask ++ frame_text conf_word conf) (frame_text conf_word other) both last.takes);
    ended = last.ended;
  }

  pub read_whole : {X : Type 0} (items : X → List ℕ) (d : LinkState) (other : Option X) → IfSome other (λ x. TakesLast c d (items x)) → IfNone other (TakesByte c d None) → ReadsInput a d ask conf (option_map items other)
  read_whole items d None some none = read_one d none
  read_whole items d (Some x) some none = read_two d (items x) some

-- ---- the end

-- nothing was printed
pub nothing_printed : (sink : LinkState) (ps : Patterns) (ask conf : List ℕ) (other : Option (List ℕ)) → Prints sink sink (due ps ask conf other) (Err report.NoMemory)
nothing_printed sink ps ask conf other = stops_first sink (due ps ask conf other).text (some_of ps (read ask) (only_file conf) (option_map only_file other))

part_written : (sink sink' : LinkState) (text : List ℕ) (f : ReportFault) → StopsInside sink sink' text f → WritesPart sink sink' text
part_written sink sink' text f stops = record { bytes = stops.bytes; short = (stops.rest, stops.split, stops.short); written = stops.written }

module _ (source source' sink sink' : LinkState) (ask conf : List ℕ) (other : Option (List ℕ)) (reads : ReadsInput source source' ask conf other) (some : (ps : Patterns) × AreTrue ps) where
  printed_due : (what : Printed) → ((ps : Patterns) → AreTrue ps → Prints sink sink' (due ps ask conf other) (Ok what)) → PrintsAccess source source' sink sink' what
  printed_due what prints = record { ask = ask; conf = conf; other = other; reads = reads; what_is = λ ps are. sym (prints ps are).0; printed = λ ps are. (prints ps are).1 }

  printed_part : (f : ReportFault) → ((ps : Patterns) → AreTrue ps → Prints sink sink' (due ps ask conf other) (Err f)) → PrintsPart source source' sink sink'
  printed_part f prints = record { ask = ask; conf = conf; other = other; reads = reads; part = λ ps are. part_written sink sink' (due ps ask conf other).text f (prints ps are) }

  pub access_ended : (r : Result Printed ReportFault) → ((ps : Patterns) → AreTrue ps → Prints sink sink' (due ps ask conf other) r) → EndsAccess source source' sink sink' (access_status r)
  access_ended (Ok printed.Report) prints = printed_due printed.Report prints
  access_ended (Ok printed.BadQuestion) prints = printed_due printed.BadQuestion prints
  access_ended (Ok printed.ConfFault) prints = printed_due printed.ConfFault prints
  access_ended (Err report.WriteFault) prints = (inl (printed_part report.WriteFault prints), (prints some.0 some.1).failed)
  access_ended (Err report.NoMemory) prints = inr (inl (printed_part report.NoMemory prints))

pub access_told : (source source' sink sink' : LinkState) (r : Result Printed ReportFault) → TellsWrites sink sink' r → source'.read_faults ≡ source.read_faults → TellsStatus source source' sink sink' (status_number (access_status r))
access_told source source' sink sink' (Ok printed.Report) tells read = (inr read, inr tells)
access_told source source' sink sink' (Ok printed.BadQuestion) tells read = (inr read, inr tells)
access_told source source' sink sink' (Ok printed.ConfFault) tells read = (inr read, inr tells)
access_told source source' sink sink' (Err report.WriteFault) tells read = (inr read, inl refl)
access_told source source' sink sink' (Err report.NoMemory) tells read = (inr read, inr tells)

-- an input that is bad
pub bad_ended : (source source' sink sink' : LinkState) (offset : ℕ) (s : Status) → FindsBad source source' offset → TellsBad sink sink' offset s → EndsAccess source source' sink sink' s
bad_ended source source' sink sink' offset status.BadScript finds tells = record { offset = offset; finds = finds; printed = tells }
bad_ended source source' sink sink' offset status.OutputFault finds tells = (inr (record { offset = offset; finds = finds; part = tells.0 }), tells.1)
bad_ended source source' sink sink' offset status.NoMemory finds tells = inr (inr (record { offset = offset; finds = finds; part = tells }))
bad_ended source source' sink sink' offset status.Done finds tells = absurd tells
bad_ended source source' sink sink' offset status.Usage finds tells = absurd tells
bad_ended source source' sink sink' offset status.InputFault finds tells = absurd tells
bad_ended source source' sink sink' offset status.DoorFault finds tells = absurd tells
bad_ended source source' sink sink' offset status.ConfRefused finds tells = absurd tells
bad_ended source source' sink sink' offset status.DiskFault finds tells = absurd tells
bad_ended source source' sink sink' offset status.BadJournal finds tells = absurd tells
bad_ended source source' sink sink' offset status.BadQuestion finds tells = absurd tells

-- the line of a bad input had no room
pub bad_untold : (sink : LinkState) (offset : ℕ) → WritesPart sink sink (fault_text offset)
bad_untold sink offset = record { bytes = []; short = (fault_text offset, refl, some_fault offset); written = Appends-nil sink.written }

-- it wasn't written whole
pub bad_stopped : (sink sink' : LinkState) (offset : ℕ) (f : ScriptFault) → StopsWriting sink sink' (fault_text offset) f → TellsBad sink sink' offset (status_of (Err f))
bad_stopped sink sink' offset script.BadScript stops = absurd stops
bad_stopped sink sink' offset script.InputFault stops = absurd stops
bad_stopped sink sink' offset script.DiskFault stops = absurd stops
bad_stopped sink sink' offset script.OutputFault stops = stops
bad_stopped sink sink' offset script.NoMemory stops = stops.0
