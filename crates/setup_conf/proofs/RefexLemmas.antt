-- `refs/.*` is a pattern.
use Rattle.std.proofs.Common.{◌≡◌, false, refl, arith}
use Rattle.std.specs.Prelude.{codes, None}
use Rattle.refex.specs.Pattern.{Pattern, Bytes, Nothing, Repeat, Then}
use Rattle.refex.specs.Text.{item, items, items_from, every_other, range}
use Rattle.refex.specs.Faults.{first_fault}
use Rattle.refex.specs.Grammar.{Reads, alternation, simple, plain, repeated, empty, joined, one}
use Rattle.refex.specs.Refex.{IsRefex, forms, offence}
use Rattle.refex.specs.declared.faults.Hole.TheVariants.{User}

-- the bytes of `refs/`, and any number of bytes other than a line feed
abbrev all_refs : Pattern
all_refs =
    Then (Then (Then (Then (Then (Then Nothing (Bytes (range 114 114))) (Bytes (range 101 101))) (Bytes (range 102 102))) (Bytes (range 115 115))) (Bytes (range 47 47)))
    (Repeat (Bytes (every_other (range 10 10))) 0 None)

no_offence : offence User (codes "refs/.*") ≡ None
unfolding items items_from item first_fault
no_offence = refl

reads : Reads alternation (forms (items User (codes "refs/.*"))) all_refs
unfolding items items_from item
reads = one (joined (joined (joined (joined (joined (joined empty (plain simple)) (plain simple)) (plain simple)) (plain simple)) (plain simple)) (repeated false simple))

pub all_refs_are_a_pattern : (p : Pattern) × IsRefex User (codes "refs/.*") p
all_refs_are_a_pattern = (all_refs, record { spells = record { sound = no_offence; reads = reads }; fits = omega arith })
