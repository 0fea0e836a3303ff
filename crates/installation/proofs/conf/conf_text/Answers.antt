use Rattle.std.proofs.Common.{◌∙◌, ◌%◌, ap, arith, sym}
use Rattle.std.specs.Prelude.{codes}
use Rattle.installation.specs.Draws.{drawn_behind}
use Rattle.installation.proofs.ConfLemmas.{drawn_twice, text_more}
use Rattle.installation.proofs.conf.conf_text.Goals as goal

pub loop-repo-preserved : goal.loop-repo-preserved
loop-repo-preserved c =
    let before = c.loop-repo.invariant in
    let owner = c.next-owner.ensures in
    let writer = c.next-writer.ensures in
    record {
      text = text_more c.args.start c.loop-repo.repo _ _ c.loop-repo.draws.last (codes "repo gitolite-admin\n    RW+ = admin\n") c.loop-repo.text.items c.add_block.new.text.items before.text before.draws
          (ap (λ n. n % 10) owner.drawn) (ap (λ n. n % 10) (writer.drawn ∙ ap drawn_behind owner.last)) c.in_ok-add_block.ensures.text;
      short = omega (arith, c.in_ok-add_block.ensures.short);
      draws = writer.last ∙ ap drawn_behind (owner.last ∙ ap drawn_behind before.draws) ∙ sym (drawn_twice c.args.start c.loop-repo.repo);
    }
