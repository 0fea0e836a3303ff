use Rattle.std.proofs.Common.{◌≡◌, ◌-◌, ◌+◌, ◌++◌, ◌∷◌, ◌≤◌, [], Err, None, rules, refl, ap, arith, length, length-append, subst, ◌∙◌}
use Rattle.std.proofs.lemmas.List.Elements.{All-nil, All-push}
use Rattle.git_object.specs.Object.{IsPackable, fault_of}
use Rattle.pktline_core.proofs.LinkLemmas.{later_same, later_more, writing_more}
use Rattle.raw_pack.specs.declared.fault.PackFault.TheVariants.{NoMemory}
use Rattle.raw_pack.proofs.ReadLemmas.{leaves_whole, leaves_lacks}
use Rattle.raw_pack.proofs.EntryLemmas.{entries_end, entries_cut, entries_more, total_bytes-more}
use Rattle.raw_pack.proofs.reading.read_entries.Goals as goal

pub loop-entry-init : goal.loop-entry-init
loop-entry-init g c =
    let all : c.args.count - 0 ≡ c.args.count = omega arith in
    record {
      leaves = rw (all, c.new-objects.ensures) (leaves_whole _ _ _);
      tells = refl;
      writing = record { written = refl; write_faults = refl };
      later = later_same _;
      sum = omega arith;
      all = rw c.new-objects.ensures;
      light = rw c.new-objects.ensures refl;
      formed = rw c.new-objects.ensures (All-nil IsPackable);
    }

pub returns-in_err-object-clause-reads : goal.returns-in_err-object-clause-reads
returns-in_err-object-clause-reads g c =
    let answer : c.from_residual.result ≡ Err c.in_err-object.field-0.0 = search rules in
    rw answer
    (entries_cut _ _ _ _ _ _ _ _ _ c.loop-entry.invariant.leaves (c.args.count - (c.loop-entry.entry + 1)) (omega arith) _ _ c.in_err-object.field-0.0 c.loop-entry.invariant.later
    c.in_err-object.ensures.reads)

pub returns-in_err-push-clause-reads : goal.returns-in_err-push-clause-reads
returns-in_err-push-clause-reads g c =
    let answer : c.from_residual-in_err-push.result ≡ Err NoMemory = search rules in
    rw answer
    (leaves_lacks _ _ _ _ _ _ _ (entries_more _ _ _ _ _ _ _ _ _ c.loop-entry.invariant.leaves (c.args.count - (c.loop-entry.entry + 1)) (omega arith) _ _ c.in_ok-object.object c.in_ok-object.ensures.reads))

pub loop-entry-preserved : goal.loop-entry-preserved
loop-entry-preserved g c =
    let pushed : c.push.new.self ≡ c.loop-entry.objects ++ c.in_ok-object.object ∷ [] = search rules in
    record {
      leaves = rw (pushed, c.body.ensures.body)
          (entries_more _ _ _ _ _ _ _ _ _ c.loop-entry.invariant.leaves (c.args.count - (c.loop-entry.entry + 1)) (omega arith) _ _ c.in_ok-object.object c.in_ok-object.ensures.reads);
      tells = c.in_ok-object.ensures.tells ∙ c.loop-entry.invariant.tells;
      writing = writing_more _ _ _ c.loop-entry.invariant.writing c.read_object.ensures.writing;
      later = later_more _ _ _ c.loop-entry.invariant.later c.read_object.ensures.later;
      sum = rw c.body.ensures.body c.in_ok-object.ensures.small;
      all = rw pushed (omega (arith, length-append c.loop-entry.objects (c.in_ok-object.object ∷ []), c.loop-entry.invariant.all));
      light = rw (pushed, c.body.ensures.body) (total_bytes-more c.loop-entry.objects c.in_ok-object.object ∙ ap (λ n. n + length c.in_ok-object.object.body) c.loop-entry.invariant.light);
      formed = rw pushed (All-push IsPackable c.loop-entry.objects c.in_ok-object.object c.loop-entry.invariant.formed (record {
        short = subst (λ l. length l ≤ 16777216) c.body.ensures.body c.body.ensures.small;
        form = subst (λ l. fault_of c.in_ok-object.object.kind l ≡ None) c.body.ensures.body c.body.ensures.form;
      }));
    }

pub returns-clause-reads : goal.returns-clause-reads
returns-clause-reads g c = entries_end _ _ _ _ _ _ _ _ _ c.loop-entry.invariant.leaves (omega arith) c.loop-entry.invariant.later

pub returns-clause-light : goal.returns-clause-light
returns-clause-light g c = omega (arith, c.loop-entry.invariant.light, c.loop-entry.invariant.sum)
