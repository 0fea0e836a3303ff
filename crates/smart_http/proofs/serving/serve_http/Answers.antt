use Rattle.smart_http.proofs.EndLemmas.{request_keeps}
use Rattle.smart_http.proofs.serving.serve_http.Goals as goal

pub returns-clause-turn : goal.returns-clause-turn
returns-clause-turn g c = (request_keeps _ _ _ _ _ c.serve.ensures.runs c.sound.ensures).turn

pub returns-clause-grows : goal.returns-clause-grows
returns-clause-grows g c = (request_keeps _ _ _ _ _ c.serve.ensures.runs c.sound.ensures).grows

pub returns-clause-sound : goal.returns-clause-sound
returns-clause-sound g c = (request_keeps _ _ _ _ _ c.serve.ensures.runs c.sound.ensures).sound

pub returns-clause-causes : goal.returns-clause-causes
returns-clause-causes g c = (request_keeps _ _ _ _ _ c.serve.ensures.runs c.sound.ensures).causes

pub returns-clause-sure : goal.returns-clause-sure
returns-clause-sure g c = (request_keeps _ _ _ _ _ c.serve.ensures.runs c.sound.ensures).sure

pub returns-clause-later : goal.returns-clause-later
returns-clause-later g c = (request_keeps _ _ _ _ _ c.serve.ensures.runs c.sound.ensures).later
