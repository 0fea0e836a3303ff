-- What was added is the sum of the posts so far, as far as the type reaches.
use Rattle.std.proofs.Common.{◌≡◌, ◌-◌, ◌^◌, min, take}
use Rattle.std.specs.List.{sum_by}
use Rattle.edge_links.specs.Sockets.{unsent_links}
use Rattle.shell_program.proofs.posts.unsent_at.Given as goal

abbrev pub invariant-loop-post : goal.invariant-loop-post
invariant-loop-post g l = l.unsent ≡ min (sum_by (λ post. unsent_links post.door) (take l.post-index l.posts)) (2 ^ 64 - 1)
