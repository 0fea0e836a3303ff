use Rattle.std.proofs.Common.{◌≡◌, Some, None, sym, ◌∙◌}
use Rattle.installation.specs.Conf.{repo_name}
use Rattle.installation.proofs.NameLemmas.{is_parsed}
use Rattle.installation.proofs.conf.repo_name.Goals as goal

pub unreachable-requires : goal.unreachable-requires
unreachable-requires c =
    let found : Some (repo_name c.args.repo) ≡ None = sym (is_parsed c.args.repo c.in_ok-bytes.bytes.items c.deref.result.now c.in_ok-name.field-0 c.ranges.repo.fits c.in_ok-bytes.ensures.name c.deref.ensures.value c.in_ok-name.ensures) ∙ c.in_default.is in
    cc

pub returns : goal.returns
returns c =
    let found : Some c.in-Some.name ≡ Some (repo_name c.args.repo) = sym c.in-Some.is ∙ is_parsed c.args.repo c.in_ok-bytes.bytes.items c.deref.result.now c.in_ok-name.field-0 c.ranges.repo.fits c.in_ok-bytes.ensures.name c.deref.ensures.value c.in_ok-name.ensures in
    cc
