use Rattle.std.proofs.Common.{ℕ, List, ◌++◌, ◌∙◌, ap, map, arith, Result, Ok, Err, OnErr}
use Rattle.repo_listing.specs.declared.lines.LookLine.TheVariants.{Pattern}
use Rattle.repo_listing.proofs.NumberLemmas.{all_appended, some_appended}
use Rattle.repo_listing.proofs.StepLemmas.{none_appended}
use Rattle.repo_listing.proofs.listing.push_patterns.Goals as goal

pub loop-seq-init : goal.loop-seq-init
loop-seq-init c = none_appended c.args.list.now c.new-seen.result c.new-seen.ensures

on_err : {X E : Type 0} (r : Result X E) (P : Type 0) → P → OnErr r P
on_err (Ok x) P is = tt
on_err (Err e) P is = is

pub returns-in_err-push_numbered-clause-err : goal.returns-in_err-push_numbered-clause-err
returns-in_err-push_numbered-clause-err c =
    on_err c.from_residual.result _
    (some_appended c.args.policy.now.rules c.args.user.now c.pattern_numbers-seq-items.result.now c.loop-seq.seq-index c.rules-rules.ensures.numbered c.pattern_numbers-seq-items.ensures
    c.args.list.now c.loop-seq.list c.push_numbered.new.list c.loop-seq.invariant.lines c.in_err-push_numbered.ensures.err)

pub returns-clause-ok : goal.returns-clause-ok
returns-clause-ok c =
    c.loop-seq.invariant.lines
    ∙ ap (λ (texts : List (List ℕ)). c.args.list.now ++ map Pattern texts)
    (all_appended c.args.policy.now.rules c.args.user.now c.pattern_numbers-seq-items.result.now c.loop-seq.seq-index c.rules-rules.ensures.numbered c.pattern_numbers-seq-items.ensures (omega arith))
