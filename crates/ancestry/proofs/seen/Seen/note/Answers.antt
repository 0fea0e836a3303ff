use Rattle.std.proofs.Common.{◌∙◌, ap, Option}
use Rattle.git_object.specs.Content.{Content}
use Rattle.ancestry.specs.Verdict.{alone, worse}
use Rattle.ancestry.proofs.SeenLemmas.{notes_one}
use Rattle.ancestry.proofs.seen.Seen.note.Goals as goal

pub returns : goal.returns
returns c = notes_one c.args.lens.now c.args.self.now _ c.args.id c.args.wanted c.in_ok-insert.ensures.keys (c.worse-self.ensures ∙ ap (worse c.args.self.now.verdict) (c.alone.ensures ∙ ap (λ (f : Option Content). alone f (c.args.id, c.args.wanted)) c.get.ensures))
