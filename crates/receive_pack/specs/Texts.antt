-- What a push is told.
use Rattle.std.specs.Prelude.{ℕ, List, [], ◌∷◌, ◌++◌, map, codes, decimal}
use Rattle.std.specs.List.{flat_map, slice_get}
use Rattle.std.specs.Option.{option_map_or}
use Rattle.std.specs.FinMap.{entries}
use Rattle.git_object.specs.declared.object_id.ObjectId.{ObjectId}
use Rattle.git_object.specs.ObjectId.{hex_of}
use Rattle.pktline_core.specs.Packets.{spelling, Flush}
use Rattle.raw_pack.specs.declared.fault.PackFault.{PackFault}
use Rattle.raw_pack.specs.Faults.{fault_text}
use Rattle.ref_store.specs.declared.command.Command.{Command}
use Rattle.hub_history.specs.declared.outcome.Outcome.{Outcome}
use Rattle.hub_history.specs.declared.outcome.Outcome.TheVariants.{Done, BadName, Twice, NoChange, NotAdvertised, Missing, WrongKind, Denied, ManyPaths, ConfRefused, DeniedNow, ManyPathsNow, Stale, DirFile, AtomicOther, Collided, Full}
use Rattle.access_check.specs.Verdicts.{rule_of}
use Rattle.rule_compile.specs.Faults.{policy_text}
use Rattle.rule_compile.specs.declared.rule.Rule.{Rule}
use Rattle.ref_store.specs.Refs.{Name, Refs, zero_id}
use Rattle.session_core.specs.Denials.{change_text, denial, shown}
use Rattle.session_core.specs.Packets.{packet}
use Rattle.receive_pack.specs.declared.reports.ReportedPush.{ReportedPush}

-- I. The advertisement, as Git's pack-protocol has it under "Reference Discovery"

abbrev pub capabilities : List ℕ
capabilities = codes "report-status delete-refs no-thin atomic"

-- an id, a space, a name
abbrev pub ref_text : Name × ObjectId → List ℕ
ref_text ref = hex_of ref.1 ++ 32 ∷ ref.0

-- what is advertised of refs; where there are none, a line without a ref bears the capabilities
abbrev pub advertised : List (Name × ObjectId) → List (Name × ObjectId)
advertised [] = (codes "capabilities^{}", zero_id) ∷ []
advertised (ref ∷ refs) = ref ∷ refs

abbrev pub first_line : Name × ObjectId → List ℕ
first_line ref = ref_text ref ++ 0 ∷ capabilities ++ 10 ∷ []

abbrev pub more_line : Name × ObjectId → List ℕ
more_line ref = ref_text ref ++ 10 ∷ []

abbrev pub advertised_lines : List (Name × ObjectId) → List (List ℕ)
advertised_lines [] = []
advertised_lines (ref ∷ refs) = first_line ref ∷ map more_line refs

-- a line for each ref in the byte order of the names, the capabilities on the first, and a flush
unfoldable pub advertisement : Refs → List ℕ
advertisement refs = flat_map packet (advertised_lines (advertised (entries refs))) ++ spelling Flush

-- II. The report of a push, as Git's pack-protocol has it under "Report Status"

-- the ref of the command of a place
abbrev pub ref_at : List Command → ℕ → List ℕ
ref_at commands place = option_map_or (λ (c : Command). c.name) (slice_get commands place) []

-- why a command isn't done, by the rules that were in force at the push's opening, and by those just before
-- it
abbrev pub reason : List Rule → List Rule → ReportedPush → Outcome → List ℕ
reason rules later push Done = []
reason rules later push BadName = codes "bad ref name"
reason rules later push Twice = codes "named twice"
reason rules later push NoChange = codes "no change"
reason rules later push (NotAdvertised id) = codes "not advertised, it was " ++ hex_of id
reason rules later push (Missing id) = codes "missing object " ++ hex_of id
reason rules later push (WrongKind id) = codes "wrong kind of object " ++ hex_of id
reason rules later push (Denied verdict letter name) = denial (change_text letter name) push.repo push.user (rule_of rules verdict)
reason rules later push ManyPaths = codes "too many paths"
reason rules later push (ConfRefused fault) = codes "conf refused: " ++ shown (policy_text fault)
reason rules later push (DeniedNow verdict letter name) = denial (change_text letter name) push.repo push.user (rule_of later verdict) ++ codes " (rules at push)"
reason rules later push ManyPathsNow = codes "too many paths (rules at push)"
reason rules later push (Stale id) = codes "stale, it is " ++ hex_of id
reason rules later push (DirFile ref) = codes "conflicts with " ++ ref
reason rules later push (AtomicOther place) = codes "atomic push refused with " ++ ref_at push.commands place
reason rules later push (Collided id) = codes "name collision " ++ hex_of id
reason rules later push (Full count) = codes "repository would have " ++ decimal count ++ codes " objects"

-- what is reported of a ref
abbrev pub status_text : List Rule → List Rule → ReportedPush → Name → Outcome → List ℕ
status_text rules later push ref Done = codes "ok " ++ ref ++ 10 ∷ []
status_text rules later push ref outcome = codes "ng " ++ ref ++ 32 ∷ reason rules later push outcome ++ 10 ∷ []

-- a line for each of these commands of a push
abbrev pub status_lines : List Rule → List Rule → ReportedPush → List Command → List Outcome → List (List ℕ)
status_lines rules later push [] outcomes = []
status_lines rules later push (c ∷ cs) [] = []
status_lines rules later push (c ∷ cs) (o ∷ os) = status_text rules later push c.name o ∷ status_lines rules later push cs os

-- that the pack was taken, a line for each command, and a flush
unfoldable pub report : List Rule → List Rule → ReportedPush → List Outcome → List ℕ
report rules later push outcomes = flat_map packet (codes "unpack ok\n" ∷ status_lines rules later push push.commands outcomes) ++ spelling Flush

-- why a pack isn't taken
abbrev pub unpack_text : PackFault → List ℕ
unpack_text fault = codes "unpack " ++ fault_text fault ++ 10 ∷ []

-- what is reported of the ref of a command whose pack isn't taken
abbrev pub unpacker_error : Command → List ℕ
unpacker_error command = codes "ng " ++ command.name ++ codes " unpacker error\n"

-- why the pack wasn't taken, a line for each command, and a flush
unfoldable pub bad_report : List Command → PackFault → List ℕ
bad_report commands fault = flat_map packet (unpack_text fault ∷ map unpacker_error commands) ++ spelling Flush
