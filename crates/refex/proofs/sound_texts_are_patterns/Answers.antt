use Rattle.refex.specs.Text.{items}
use Rattle.refex.proofs.SoundIsRead.{sound_is_read}
use Rattle.refex.proofs.sound_texts_are_patterns.Goals as goal

pub returns : goal.returns
returns c = λ hole text e. let r = sound_is_read (items hole text) e in (r.0, record { sound = e; reads = r.1 })
