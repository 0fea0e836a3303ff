-- How a text is written, part after part.
use Rattle.std.proofs.Common.{◌≡◌, ◌∙◌, ◌<◌, ℕ, List, [], ◌++◌, length, ap, refl, subst, sym, arith, append_assoc, length-append}
use Rattle.std.proofs.lemmas.List.{append-nil}
use Rattle.std.proofs.KnownBytes.{Appends-nil}
use Rattle.std.specs.Io.KnownBytes.{Appends}
use Rattle.pktline_core.specs.LinkState.{LinkState}
use Rattle.pktline_core.specs.Links.{IsLater}
use Rattle.pktline_core.proofs.LinkLemmas.{appends_more, risen_later}
use Rattle.access_report.specs.Writing.{HandsOn, HasFailed, StopsInside}
use Rattle.access_report.specs.declared.report.ReportFault.{ReportFault}
use Rattle.access_report.specs.declared.report.ReportFault.TheVariants.{WriteFault, NoMemory}

-- nothing
pub hands_nothing : (a : LinkState) (waiting : List ℕ) → HandsOn a a waiting waiting []
hands_nothing a waiting = record { bytes = []; written = Appends-nil a.written; split = append-nil waiting }

-- a text that only waits
pub hands_waiting : (a : LinkState) (waiting text : List ℕ) → HandsOn a a waiting (waiting ++ text) text
hands_waiting a waiting text = record { bytes = []; written = Appends-nil a.written; split = refl }

-- a text that is written with all that waited
pub hands_written : (a b : LinkState) (waiting text : List ℕ) → Appends a.written b.written (waiting ++ text) → HandsOn a b waiting [] text
hands_written a b waiting text written = record { bytes = waiting ++ text; written = written; split = sym (append-nil (waiting ++ text)) }

split_more : (w w' w'' p q xs ys : List ℕ) → w ++ xs ≡ p ++ w' → w' ++ ys ≡ q ++ w'' → w ++ (xs ++ ys) ≡ (p ++ q) ++ w''
split_more w w' w'' p q xs ys first second =
    sym (append_assoc w xs ys) ∙ ap (λ (l : List ℕ). l ++ ys) first ∙ append_assoc p w' ys ∙ ap (λ (l : List ℕ). p ++ l) second ∙ sym (append_assoc p q w'')

pub hands_more : (a b c : LinkState) (w w' w'' xs ys : List ℕ) → HandsOn a b w w' xs → HandsOn b c w' w'' ys → HandsOn a c w w'' (xs ++ ys)
hands_more a b c w w' w'' xs ys first second = record {
  bytes = first.bytes ++ second.bytes;
  written = appends_more a.written b.written c.written first.bytes second.bytes first.written second.written;
  split = split_more w w' w'' first.bytes second.bytes xs ys first.split second.split;
}

failed_later : (a b c : LinkState) (fault : ReportFault) → IsLater a b → HasFailed b c fault → HasFailed a c fault
failed_later a b c WriteFault later failed = risen_later a.write_faults b.write_faults c.write_faults later.write_faults failed
failed_later a b c NoMemory later failed = tt

-- behind a text that was handed on
pub stops_later : (a b c : LinkState) (w w' xs ys : List ℕ) (fault : ReportFault) → IsLater a b → HandsOn a b w w' xs → StopsInside b c (w' ++ ys) fault → StopsInside a c (w ++ (xs ++ ys)) fault
stops_later a b c w w' xs ys fault later first stops = record {
  bytes = first.bytes ++ stops.bytes;
  rest = stops.rest;
  written = appends_more a.written b.written c.written first.bytes stops.bytes first.written stops.written;
  split = split_more w w' stops.rest first.bytes stops.bytes xs ys first.split stops.split;
  short = stops.short;
  failed = failed_later a b c fault later stops.failed;
}

-- before a text
pub stops_before : (a b : LinkState) (xs ys : List ℕ) (fault : ReportFault) → StopsInside a b xs fault → StopsInside a b (xs ++ ys) fault
stops_before a b xs ys fault stops = record {
  bytes = stops.bytes;
  rest = stops.rest ++ ys;
  written = stops.written;
  split = ap (λ (l : List ℕ). l ++ ys) stops.split ∙ append_assoc stops.bytes stops.rest ys;
  short = omega (arith, stops.short, length-append stops.rest ys);
  failed = stops.failed;
}

-- before anything was written
pub stops_first : (a : LinkState) (text : List ℕ) → 0 < length text → StopsInside a a text NoMemory
stops_first a text some = record { bytes = []; rest = text; written = Appends-nil a.written; split = refl; short = some; failed = tt }

-- the last part
pub writes_last : (a b c : LinkState) (w w' xs ys : List ℕ) → HandsOn a b w w' xs → Appends b.written c.written (w' ++ ys) → Appends a.written c.written (w ++ (xs ++ ys))
writes_last a b c w w' xs ys first written =
    subst (Appends a.written c.written) (sym (sym (append_assoc w xs ys) ∙ ap (λ (l : List ℕ). l ++ ys) first.split ∙ append_assoc first.bytes w' ys))
    (appends_more a.written b.written c.written first.bytes (w' ++ ys) first.written written)
