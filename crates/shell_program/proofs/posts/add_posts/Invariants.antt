use Rattle.std.proofs.Common.{◌≡◌, ◌+◌, length}
use Rattle.shell_program.proofs.posts.add_posts.Given as goal

abbrev pub invariant-loop : goal.invariant-loop
invariant-loop g l = length l.posts.items ≡ length l.initial.posts.items + l.counter
