use Rattle.std.proofs.Common.{◌≡◌, ℕ, List, drop, false}
use Rattle.std.specs.Option.{option_copied}
use Rattle.rule_compile.specs.OptionWords.{IsOption}
use Rattle.rule_compile.specs.Index.{OptionWord, last_on, words_of_option}
use Rattle.rule_compile.specs.Numbers.{left_of}
use Rattle.rule_compile.specs.Patterns.{AreTrue, Patterns}
use Rattle.rule_compile.specs.WordIndex.{IsAt}
use Rattle.rule_compile.proofs.option_words.OptionWords.is_in_force.Given as goal

abbrev pub invariant-loop-number : goal.invariant-loop-number
invariant-loop-number l = (ds : List OptionWord) → IsOption l.self ds → (place : ℕ) × IsAt l.cursor (words_of_option ds) l.repo place
    × ((ps : Patterns) → AreTrue ps → last_on ps l.repo (option_copied l.creator) false ds ≡ last_on ps l.repo (option_copied l.creator) l.in_force (drop place ds))

abbrev pub decreases-loop-number : goal.decreases-loop-number
decreases-loop-number l = left_of l.cursor
