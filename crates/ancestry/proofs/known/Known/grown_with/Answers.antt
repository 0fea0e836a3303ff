use Rattle.std.proofs.Common.{List, subst}
use Rattle.ancestry.specs.declared.verdict.Verdict.{Verdict}
use Rattle.ancestry.specs.Known.{IsWhole}
use Rattle.ancestry.specs.Tables.{Entries, HasOne}
use Rattle.ancestry.proofs.ListLemmas.{contains_none}
use Rattle.ancestry.proofs.KnownLemmas.{whole_grows, known_of}
use Rattle.ancestry.proofs.known.Known.grown_with.Goals as goal

pub returns : goal.returns
returns c = λ fewer among more extends extends_among known found. record {
  whole =
      known_of (IsWhole more) c.args.self.now.whole c.args.findings.now.whole c.in_ok-beside.field-0 c.in_ok-beside.ensures
      (λ id generation has. whole_grows fewer more id generation extends (known.whole id generation has))
      (λ id generation has. whole_grows among more id generation extends_among (found.whole id generation has));
  amiss = λ id verdict has. let none = subst (λ (ts : List (Entries Verdict)). HasOne ts id verdict) c.none.ensures has in absurd (contains_none none.0 none.1);
}
