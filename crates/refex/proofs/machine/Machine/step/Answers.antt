use Rattle.std.proofs.Common.{rules, ◌≡◌, ◌<◌, length, get_or, subst}
use Rattle.std.specs.Prelude.{IsTrue, bit_and}
use Rattle.std.proofs.lemmas.List.{get_or_read}
use Rattle.refex.specs.Machine.{IsUnion}
use Rattle.refex.proofs.SetLemmas.{step_made}
use Rattle.refex.proofs.machine.Machine.step.Goals as goal

pub returns : goal.returns
returns c =
    let small : c.args.letter < length c.args.self.now.masks.items = search rules in
    let read : c.index.result.now ≡ get_or c.args.self.now.masks.items c.args.letter 0 = get_or_read c.args.self.now.masks.items c.args.letter c.index.result.now small c.index.ensures 0 in
    let reached : IsUnion c.args.self.now.follow.items (bit_and c.args.state.set (get_or c.args.self.now.masks.items c.args.letter 0)) 127 c.union_of-reached.result =
    subst (λ f. IsUnion f (bit_and c.args.state.set (get_or c.args.self.now.masks.items c.args.letter 0)) 127 c.union_of-reached.result) c.deref.ensures.value
    (subst (λ m. IsUnion c.deref.result.now (bit_and c.args.state.set m) 127 c.union_of-reached.result) read c.union_of-reached.ensures) in
    step_made c.args.self.now.masks.items c.args.self.now.follow.items c.args.name.now c.args.self.now.holes c.args.self.now.after
    c.args.state.set c.args.state.parts c.args.letter c.union_of-reached.result c.added-entered.result c.parts_after-parts.result c.added-left.result c.added.result
    (IsTrue c.meets.result) (IsTrue c.has.result) (IsTrue c.skips.result)
    c.requires.name c.requires.letter reached
    c.meets.ensures.1 c.meets.ensures.0
    c.added-entered.ensures.keeps c.added-entered.ensures.adds c.added-entered.ensures.only
    c.parts_after-parts.ensures.goes_on c.parts_after-parts.ensures.only
    c.has.ensures.1 c.has.ensures.0
    c.added-left.ensures.keeps c.added-left.ensures.adds c.added-left.ensures.only
    (λ none m. c.skips.ensures.1 (none, m)) c.skips.ensures.0
    c.added.ensures.keeps c.added.ensures.adds c.added.ensures.only
