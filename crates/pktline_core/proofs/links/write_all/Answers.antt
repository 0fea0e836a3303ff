use Rattle.std.proofs.Common.{◌++◌, ℕ, List, take, drop, sym, ◌∙◌, ap, append_assoc, take-append-drop}
use Rattle.pktline_core.proofs.LinkLemmas.{appends_more, later_more, reading_more}
use Rattle.pktline_core.proofs.links.write_all.Goals as goal

pub loop-rest-preserved : goal.loop-rest-preserved
loop-rest-preserved g c =
    let before = c.loop-rest.invariant.bytes in
    let put = c.in-Took.ensures.put in
    let rest = c.loop-rest.rest.now in
    record {
      bytes = (
        before.0 ++ take c.in-Took.count rest,
        before.1 ∙ ap (λ (l : List ℕ). before.0 ++ l) (sym (take-append-drop c.in-Took.count rest)) ∙ sym (append_assoc before.0 (take c.in-Took.count rest) (drop c.in-Took.count rest)) ∙ ap (λ (l : List ℕ). (before.0 ++ take c.in-Took.count rest) ++ l) (sym c.split_at.ensures.back),
        appends_more _ _ _ before.0 (take c.in-Took.count rest) before.2 put.2,
      );
      tells = c.in-Took.ensures.tells ∙ c.loop-rest.invariant.tells;
      reading = reading_more _ _ _ c.loop-rest.invariant.reading c.put.ensures.reading;
      later = later_more _ _ _ c.loop-rest.invariant.later c.put.ensures.later;
    }
