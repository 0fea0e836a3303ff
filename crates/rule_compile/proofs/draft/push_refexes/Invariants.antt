use Rattle.std.proofs.Common.{◌≡◌, drop}
use Rattle.rule_compile.specs.Flat.{pushed, for_refexes}
use Rattle.rule_compile.proofs.draft.push_refexes.Given as goal

abbrev pub invariant-loop-refex : goal.invariant-loop-refex
invariant-loop-refex l = pushed l.line l.perm l.fn.rules (for_refexes l.repo l.refexes l.users) ≡ pushed l.line l.perm l.rules (for_refexes l.repo (drop l.refex-index l.refexes) l.users)
