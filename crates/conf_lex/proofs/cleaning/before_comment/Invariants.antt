use Rattle.std.proofs.Common.{◌≡◌, ◌++◌, take, drop, false}
use Rattle.conf_lex.specs.Cleaning.{before_comment}
use Rattle.conf_lex.proofs.cleaning.before_comment.Given as goal

-- what was passed stands before the comment
abbrev pub invariant-loop-at : goal.invariant-loop-at
invariant-loop-at l = before_comment false l.line ≡ take l.at l.line ++ before_comment l.quoted (drop l.at l.line)
