use Rattle.std.proofs.Common.{sym, subst, [], ◌∷◌, ◌++◌}
use Rattle.refex.specs.Parsing.{HasRead}
use Rattle.refex.specs.Text as text
use Rattle.refex.specs.declared.items.Last.TheVariants as last
use Rattle.refex.proofs.Reading.{read_count}
use Rattle.refex.proofs.parsing.Parser.repeat_last.Goals as goal

pub returns-clause-read : goal.returns-clause-read
returns-clause-read c = λ xs h.
    subst (λ ns. HasRead (xs ++ text.Repetition c.args.bounds.least c.args.bounds.most c.args.suffix ∷ []) ns c.args.self.now.groups.items c.args.self.now.branches last.Counted)
    (sym c.in_ok-push.ensures.items)
    (read_count xs c.args.self.now.steps.items c.args.self.now.groups.items c.args.self.now.branches c.args.bounds c.args.suffix
    (subst (λ l. HasRead xs c.args.self.now.steps.items c.args.self.now.groups.items c.args.self.now.branches l) c.requires h))
