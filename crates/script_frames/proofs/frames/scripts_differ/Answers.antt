use Rattle.std.proofs.Common.{◌∙◌, sym}
use Rattle.script_frames.proofs.FrameLemmas.{script_same}
use Rattle.script_frames.proofs.frames.scripts_differ.Goals as goal

pub returns : goal.returns
returns c = λ word input bodies others rest more is_word p q. script_same word is_word bodies others rest more p.small q.small p.stops q.stops (sym p.frames ∙ q.frames)
