use Rattle.std.proofs.Common.{length, ◌∙◌, ap, subst, arith, sym, Some}
use Rattle.std.specs.Prelude.{IfOk}
use Rattle.ref_store.specs.Refs.{Name, IsGreatestTo}
use Rattle.ref_store.specs.Odds.{common, TellsOfDirectory}
use Rattle.ref_store.proofs.ApartLemmas.{none_before, none_at_end, all_told_there}
use Rattle.ref_store.proofs.odds.directory.Goals as goal

pub returns-in_default : goal.returns-in_default
returns-in_default c = none_before c.args.refs.now c.args.name.now c.in_default.ensures

pub returns-then-end-name : goal.returns-then-end-name
returns-then-end-name c =
    let end = c.common_len-end.ensures ∙ ap (λ (n : Name). common n c.bytes-name.result.now) c.bytes.ensures ∙ ap (common c.in-Some.nearest.now) c.bytes-name.ensures in
    none_at_end c.args.refs.now c.args.name.now c.in-Some.nearest.now c.requires c.in-Some.ensures (omega (arith, end, c.if-end-name.true, ap length c.bytes-name.ensures))

pub returns : goal.returns
returns c =
    let name = c.bytes-name.result.now in
    let greatest : IsGreatestTo c.args.refs.now name (Some c.in-Some.nearest.now) = subst (λ (n : Name). IsGreatestTo c.args.refs.now n (Some c.in-Some.nearest.now)) (sym c.bytes-name.ensures) c.in-Some.ensures in
    let end = c.common_len-end.ensures ∙ ap (λ (n : Name). common n name) c.bytes.ensures in
    subst (λ (n : Name). IfOk c.dir_at.result (TellsOfDirectory c.args.refs.now n)) c.bytes-name.ensures
    (all_told_there c.args.refs.now name c.in-Some.nearest.now c.common_len-end.result c.requires greatest end c.if-end-name.false c.dir_at.result c.dir_at.ensures)
