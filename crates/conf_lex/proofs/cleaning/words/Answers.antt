use Rattle.std.proofs.Common.{◌++◌, ◌+◌, ◌∙◌, ap, sym, arith, map, drop, append_assoc, List, ℕ}
use Rattle.conf_lex.specs.Cleaning.{is_white, nonempty, pieces}
use Rattle.conf_lex.proofs.CuttingLemmas.{cut_at_end, cut_at_white, free_anew, still_free}
use Rattle.conf_lex.proofs.cleaning.words.Goals as goal

pub loop-at-preserved-then-not-is_white : goal.loop-at-preserved-then-not-is_white
loop-at-preserved-then-not-is_white c = record {
  order = omega arith;
  free = still_free c.args.line.now c.loop-at.start c.loop-at.at c.loop-at.invariant.order c.loop-at-test.true c.loop-at.invariant.free (sym c.is_white.ensures ∙ c.if-not-is_white.true);
  done = c.loop-at.invariant.done;
}

pub loop-at-preserved : goal.loop-at-preserved
loop-at-preserved c =
    let words : List (List ℕ) = map (λ w. w.now) c.loop-at.words.items in
    let after : List (List ℕ) = pieces is_white (drop (c.loop-at.at + 1) c.args.line.now) in
    let cut = cut_at_white c.args.line.now c.loop-at.start c.loop-at.at c.loop-at.invariant.order c.loop-at-test.true c.loop-at.invariant.free (sym c.is_white.ensures ∙ c.if-not-is_white.false) in
    record {
      order = omega arith;
      free = free_anew c.args.line.now (c.loop-at.at + 1);
      done = c.loop-at.invariant.done ∙ ap (λ l. words ++ l) cut ∙ sym (append_assoc words _ after) ∙ ap (λ l. l ++ after) (sym c.in_ok-push_word.ensures);
    }

pub returns : goal.returns
returns c =
    let words : List (List ℕ) = map (λ w. w.now) c.loop-at.words.items in
    let cut = cut_at_end c.args.line.now c.loop-at.start c.loop-at.at c.loop-at.invariant.order (omega arith) c.loop-at.invariant.free in
    c.in_ok-push_word-2.ensures ∙ ap (λ l. words ++ nonempty l) c.split_at.ensures.back ∙ sym (c.loop-at.invariant.done ∙ ap (λ l. words ++ l) cut)
