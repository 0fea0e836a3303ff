use Rattle.std.proofs.Common.{◌≡◌, drop}
use Rattle.std.specs.Prelude.{fold}
use Rattle.conf_groups.specs.Tables.{meanings, with_word}
use Rattle.conf_groups.proofs.groups.meanings.Given as goal

abbrev pub invariant-loop-word : goal.invariant-loop-word
invariant-loop-word l = meanings l.groups l.scope l.place l.words ≡ fold (with_word l.groups l.scope l.place) l.members (drop l.word-index l.words)
