use Rattle.std.proofs.Common.{List, subst, ℕ}
use Rattle.ancestry.specs.declared.verdict.Verdict.{Verdict}
use Rattle.ancestry.specs.Tables.{Entries, HasOne}
use Rattle.ancestry.proofs.ListLemmas.{contains_none}
use Rattle.ancestry.proofs.KnownLemmas.{whole_grows}
use Rattle.ancestry.proofs.known.Known.grown.Goals as goal

pub returns : goal.returns
returns c = λ fewer more extends known. record {
  whole = λ id generation has.
      whole_grows fewer more id generation extends (known.whole id generation (subst (λ (ts : List (Entries ℕ)). HasOne ts id generation) c.in_ok-clone.ensures.cases has));
  amiss = λ id verdict has. let none = subst (λ (ts : List (Entries Verdict)). HasOne ts id verdict) c.none.ensures has in absurd (contains_none none.0 none.1);
}
