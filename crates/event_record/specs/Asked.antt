-- What was asked of a hub, seen as a request.
use Rattle.std.specs.Prelude.{ℕ}
use Rattle.hub_history.specs.Requests as request
use Rattle.event_record.specs.declared.request.Request.{Request}
use Rattle.event_record.specs.declared.request.Request.TheVariants.{Enter, Push, Permit, Look}
use Rattle.event_record.specs.declared.request.CallerRequest.{CallerRequest}

abbrev pub asked : Request → request.Request
asked (Enter user repo want) = request.Enter user repo want
asked (Push place pack commands atomic) = request.Push place pack commands atomic
asked (Permit user repo change) = request.Permit user repo change
asked (Look user) = request.Look user

-- who asked, and what
abbrev pub asked_by : CallerRequest → ℕ × request.Request
asked_by r = (r.caller, asked r.request)
