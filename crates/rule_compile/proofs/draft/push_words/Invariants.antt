use Rattle.std.proofs.Common.{◌≡◌, drop}
use Rattle.rule_compile.specs.Flat.{pushed, for_words}
use Rattle.rule_compile.proofs.draft.push_words.Given as goal

abbrev pub invariant-loop-repo : goal.invariant-loop-repo
invariant-loop-repo l = pushed l.line l.perm l.fn.rules (for_words l.words l.refexes l.users) ≡ pushed l.line l.perm l.rules (for_words (drop l.repo-index l.words) l.refexes l.users)
