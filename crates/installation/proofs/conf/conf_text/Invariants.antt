use Rattle.std.proofs.Common.{◌≡◌, ◌+◌, ◌*◌, ◌≤◌, ◌++◌, length}
use Rattle.std.specs.Prelude.{codes}
use Rattle.std.specs.List.{flat_map, range_with_len}
use Rattle.installation.specs.Draws.{drawn}
use Rattle.installation.specs.Conf.{drawn_block}
use Rattle.installation.proofs.conf.conf_text.Given as goal

abbrev pub invariant-loop-repo : goal.invariant-loop-repo
invariant-loop-repo l = record {
  text : l.text.items ≡ codes "repo gitolite-admin\n    RW+ = admin\n" ++ flat_map (drawn_block l.start) (range_with_len 0 l.repo);
  short : length l.text.items ≤ 100 + 200 * l.repo;
  draws : l.draws.last ≡ drawn l.start (2 * l.repo);
}
