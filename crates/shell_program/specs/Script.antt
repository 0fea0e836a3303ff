-- A script: its sessions, one after the other on one log, and what is printed of them.
use Rattle.std.specs.Prelude.{ℕ, ◌+◌, List, [], ◌∷◌, ◌++◌, length, Option, Some, None, codes, decimal}
use Rattle.std.specs.List.{flat_map}
use Rattle.hub_history.specs.declared.entry.Entry.{Entry}
use Rattle.ref_store.specs.Refs.{Name}
use Rattle.interaction_tree.specs.Turns.{Stop, Gave, Ended, Unanswered, Waiting}
use Rattle.interaction_tree.specs.Alone.{TurnAlone, turn_alone}
use Rattle.session_core.specs.declared.end.SessionEnd.{SessionEnd}
use Rattle.session_core.specs.declared.end.SessionEnd.TheVariants as end
use Rattle.session_core.specs.Recorded.{Recorded}
use Rattle.git_session.specs.Session.{session}
use Rattle.shell_program.specs.SessionFrames.{frame_text}

-- I. What is printed

-- the word for an end; a session never ends by itself with one of the last three
abbrev pub end_word : SessionEnd → List ℕ
end_word end.Served = codes "served"
end_word end.Denied = codes "denied"
end_word end.NoRepo = codes "no-repo"
end_word end.BadCommand = codes "bad-command"
end_word end.BadUser = codes "bad-user"
end_word (end.Malformed offset) = codes "malformed"
end_word (end.TooLong count) = codes "too-long"
end_word end.Truncated = codes "truncated"
end_word (end.BadPack fault) = codes "bad-pack"
end_word (end.NotOurRef id) = codes "not-our-ref"
end_word end.ReadFault = []
end_word end.WriteFault = []
end_word end.NoMemory = []

-- a session comes to an end, and stops nowhere else
abbrev pub stop_word : Stop SessionEnd (Unit {0}) → List ℕ
stop_word (Gave value) = []
stop_word (Ended e) = end_word e
stop_word Unanswered = []
stop_word Waiting = []

-- a line with the session's number, the word for its end and how long its reply is, the reply, and a line
-- feed
unfoldable pub reply_text : ℕ → List ℕ → List ℕ → List ℕ
reply_text number word reply = codes "session " ++ decimal number ++ 32 ∷ word ++ 32 ∷ decimal (length reply) ++ 10 ∷ reply ++ 10 ∷ []

-- the line that says where a frame is bad
unfoldable pub fault_text : ℕ → List ℕ
fault_text offset = codes "bad script at " ++ decimal offset ++ 10 ∷ []

-- II. Sessions one after the other, at a hub of this admin's setup that answers so, by rules in force that
-- are these, and that nobody else asks

-- a session with this input, on this log
unfoldable pub served_alone : Recorded → Name → List ℕ → List Entry → TurnAlone SessionEnd (Unit {0})
served_alone recorded admin input log = turn_alone recorded.answers (session recorded.book admin) input log

pub record Printed : Type 0 where
  -- what is printed
  pub output : List ℕ
  -- the log afterwards
  pub log : List Entry

-- The sessions with these inputs, of which the first has this number, each on the log that the one before it
-- left.
unfoldable pub sessions : Recorded → Name → ℕ → List (List ℕ) → List Entry → Printed
sessions recorded admin number [] log = record { output = []; log = log }
sessions recorded admin number (body ∷ bodies) log =
    let turn = served_alone recorded admin body log in
    let more = sessions recorded admin (number + 1) bodies turn.log in
    record { output = reply_text number (stop_word turn.stop) turn.bytes ++ more.output; log = more.log }

-- III. A script

-- where what follows the frames begins, unless nothing follows them
abbrev pub bad_offset : List (List ℕ) → List ℕ → Option ℕ
bad_offset bodies [] = None
bad_offset bodies (b ∷ rest) = Some (length (flat_map frame_text bodies))

-- the last line
abbrev pub last_line : Option ℕ → List ℕ
last_line None = []
last_line (Some offset) = fault_text offset

-- A script of frames with these bodies and of what follows them, at the log before it: the sessions from
-- number 1 on, and a line where a frame is bad.
unfoldable pub script : Recorded → Name → List (List ℕ) → List ℕ → List Entry → Printed
script recorded admin bodies rest log =
    let all = sessions recorded admin 1 bodies log in
    record { output = all.output ++ last_line (bad_offset bodies rest); log = all.log }
