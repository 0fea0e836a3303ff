use Rattle.std.proofs.Common.{◌≡◌, List, ℕ, subst}
use Rattle.std.specs.Prelude.{IfOk}
use Rattle.installation.proofs.ObjectLemmas.{conf_is_sent}
use Rattle.installation.proofs.sessions.push_conf.Goals as goal

pub returns : goal.returns
returns c =
    let sent = conf_is_sent c.args.text.now c.in_ok-folder.folder.items c.in_ok-root.root.items c.in_ok-commit.commit.items c.deref.result.now c.deref-2.result.now c.deref-5.result.now c.deref-4.result.now c.deref-3.result.now
    c.name_of.result c.name_of-2.result c.name_of-3.result c.name_of.ensures c.in_ok-folder.ensures.body c.deref.ensures.value c.name_of-2.ensures c.in_ok-root.ensures.body c.deref-2.ensures.value c.name_of-3.ensures c.in_ok-commit.ensures.body
    c.deref-5.ensures.value c.deref-4.ensures.value c.deref-3.ensures.value in
    subst (λ (l : List ℕ). IfOk c.send_conf.result (λ input. input.items ≡ l)) sent c.send_conf.ensures
