use Rattle.std.proofs.Common.{◌≡◌, ◌<◌, ℕ, arith, ◌∙◌, ap, sym, subst}
use Rattle.std.specs.Prelude.{Contains}
use Rattle.std.proofs.lemmas.List.Elements.{Contains-append_left}
use Rattle.turn_lock.specs.Lock.{GrowsByOthers, kept, seen}
use Rattle.turn_lock.specs.Rule.{IsAtRest, state_of}
use Rattle.turn_lock.proofs.RuleKept.{joins, tell_allows}
use Rattle.turn_lock.proofs.TurnMade.{join_tells, grows, keeps}
use Rattle.turn_lock.proofs.lock.TurnLock.join.Goals as goal

pub join_seat-requires : goal.join_seat-requires
join_seat-requires g c =
    let into = c.into.inside.seat in
    let other = c.other.inside.seat in
    let words : 0 < c.self.inside.table.shared.table_id.words = omega (arith, c.self.invariant.0) in (
      ap (λ p. p.lock) c.into.view_is ∙ (c.requires.of_lock.0 ∙ sym c.self.view_is),
      ap (λ p. p.lock) c.other.view_is ∙ (c.requires.of_lock.1 ∙ sym c.self.view_is),
      c.other.invariant.empty,
      words,
      joins g.T.Kept.entries g.T.Kept.caller into.id into.me.0 other.me.0 other.id c.into.invariant.idle c.other.invariant.idle c.into.invariant.own (λ zero. c.requires.later (sym (ap (λ p. p.caller) c.other.view_is) ∙ zero)),
    )

pub load-requires : goal.load-requires
load-requires g c =
    let seat = c.join_seat.new.seat in
    let words : 0 < c.self.inside.table.shared.table_id.words = omega (arith, c.self.invariant.0) in
    (c.join_seat.ensures.0 ∙ (ap (λ p. p.lock) c.into.view_is ∙ (c.requires.of_lock.0 ∙ sym c.self.view_is)), words, tell_allows g.T.Kept.entries g.T.Kept.caller seat.id c.self.inside.table.shared.table_id.slots seat.me.0 seat.me.1)

pub invariant_of-into : goal.invariant_of-into
invariant_of-into g c =
    let rest = c.into.invariant in
    let v = c.into.inside.seat.me.0 in
    let w = c.other.inside.seat.me.0 in
    subst (λ m. IsAtRest m c.into.inside.caller c.into.inside.passes) (sym (c.load.ensures.2.0 ∙ c.join_seat.ensures.2)) (record {
      empty = rest.empty;
      idle = rest.idle;
      own = Contains-append_left v.knowledge.numbers.value w.knowledge.numbers.value v.caller rest.own;
      caller_is = rest.caller_is;
      passes_is = rest.passes_is;
    })

pub returns-clause-one_start : goal.returns-clause-one_start
returns-clause-one_start g c =
    let t = join_tells g.T.Kept.caller c.into.inside.seat.me.0 c.other.inside.seat.me.0 c.join_seat.new.seat.me c.load.new.seat.me (ap (λ m. m.0) c.join_seat.ensures.2) c.load.ensures.2 in
    sym (ap (λ p. p.at_new) c.other.view_is) ∙ (t.2.starts c.other.inside.seat.me.0.caller c.other.invariant.own ∙ (ap (λ v. v.knowledge.at_new.value) t.0 ∙ ap (λ p. p.at_new) c.into.view_is))

pub returns-clause-grows : goal.returns-clause-grows
returns-clause-grows g c =
    let t = join_tells g.T.Kept.caller c.into.inside.seat.me.0 c.other.inside.seat.me.0 c.join_seat.new.seat.me c.load.new.seat.me (ap (λ m. m.0) c.join_seat.ensures.2) c.load.ensures.2 in
    let lock = c.into.inside.seat.table_id in
    let now = c.load.new.seat.me.0 in
    subst (λ p. GrowsByOthers g.T.Kept.caller p.numbers (seen p) (seen (state_of lock now))) c.into.view_is (grows g.T.Kept.caller lock c.into.inside.seat.me.0 now t.1 c.into.inside.seat.me.0.caller c.into.invariant.own)

pub returns-clause-other_grows : goal.returns-clause-other_grows
returns-clause-other_grows g c =
    let t = join_tells g.T.Kept.caller c.into.inside.seat.me.0 c.other.inside.seat.me.0 c.join_seat.new.seat.me c.load.new.seat.me (ap (λ m. m.0) c.join_seat.ensures.2) c.load.ensures.2 in
    let lock = c.other.inside.seat.table_id in
    let now = c.load.new.seat.me.0 in
    subst (λ p. GrowsByOthers g.T.Kept.caller p.numbers (seen p) (seen (state_of lock now))) c.other.view_is (grows g.T.Kept.caller lock c.other.inside.seat.me.0 now t.2 c.other.inside.seat.me.0.caller c.other.invariant.own)

pub returns-clause-keeps : goal.returns-clause-keeps
returns-clause-keeps g c =
    let t = join_tells g.T.Kept.caller c.into.inside.seat.me.0 c.other.inside.seat.me.0 c.join_seat.new.seat.me c.load.new.seat.me (ap (λ m. m.0) c.join_seat.ensures.2) c.load.ensures.2 in
    let lock = c.into.inside.seat.table_id in
    let now = c.load.new.seat.me.0 in
    subst (λ p. (n : ℕ) → Contains p.numbers n → kept g.T.Kept.caller (state_of lock now) n ≡ kept g.T.Kept.caller p n) c.into.view_is (keeps g.T.Kept.caller lock c.into.inside.seat.me.0 now t.1)

pub returns-clause-other_keeps : goal.returns-clause-other_keeps
returns-clause-other_keeps g c =
    let t = join_tells g.T.Kept.caller c.into.inside.seat.me.0 c.other.inside.seat.me.0 c.join_seat.new.seat.me c.load.new.seat.me (ap (λ m. m.0) c.join_seat.ensures.2) c.load.ensures.2 in
    let lock = c.other.inside.seat.table_id in
    let now = c.load.new.seat.me.0 in
    subst (λ p. (n : ℕ) → Contains p.numbers n → kept g.T.Kept.caller (state_of lock now) n ≡ kept g.T.Kept.caller p n) c.other.view_is (keeps g.T.Kept.caller lock c.other.inside.seat.me.0 now t.2)
