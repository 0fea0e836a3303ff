-- What a request does over a link and a desk.
use Rattle.std.specs.Prelude.{◌≡◌, ◌⊎◌, ℕ, ◌+◌, true, List, [], length, None, Result, Err}
use Rattle.std.specs.Io.KnownBytes.{Consumes, Appends}
use Rattle.base_types.specs.Fronts.{Whole}
use Rattle.pktline_core.specs.LinkState.{LinkState}
use Rattle.pktline_core.specs.Links.{IsLater}
use Rattle.ref_store.specs.Refs.{Name}
use Rattle.hub.specs.Desk.{DeskView}
use Rattle.request_head.specs.Heads.{head_front}
use Rattle.request_head.specs.Table.{Says}
use Rattle.request_head.specs.declared.fault.HttpFault.{HttpFault}
use Rattle.request_head.specs.declared.request.HttpRequest.{HttpRequest}
use Rattle.interaction_tree.specs.Requests.{OwnEntry}
use Rattle.interaction_tree.specs.Interaction.{Interaction}
use Rattle.interaction_tree.specs.Traces.{Halt, IsTrace}
use Rattle.interaction_tree.specs.Runs.{IsCaused, MakesAll, Runs}
use Rattle.interaction_tree.specs.Endings.{TakesTurn, used_of}
use Rattle.session_core.specs.Rulebook.{ByRulebook, Rulebook}
use Rattle.smart_http.specs.End.{http_halt}
use Rattle.smart_http.specs.Requests.{requesting}
use Rattle.smart_http.specs.declared.end.HttpEnd.{HttpEnd}
use Rattle.smart_http.specs.declared.end.HttpEnd.TheVariants.{NoMemory}

-- A link that tells nothing of what is left, or goes on telling it.
abbrev pub IsSteady : LinkState → Type 0
IsSteady link = (link.left ≡ None) ⊎ (link.tells ≡ true)

-- Memory lacked before a head was read as what it says: no entry was made, and nothing written.
pub record LacksAtOnce (link link' : LinkState) (own : List OwnEntry) (end : HttpEnd) : Type 0 where
  pub end_is : end ≡ NoMemory
  pub none : own ≡ []
  pub unwritten : Appends link.written link'.written []

-- What was read, entered and written is the turn of a request with this end, for what its head says, if what
-- was used of the input begins with a whole one.
pub record TakesRequest (book : Rulebook) (admin : Name) (link link' : LinkState) (own : List OwnEntry) (end : HttpEnd) : Type 0 where
  pub answer : Result HttpRequest HttpFault
  pub turn : TakesTurn link link' own (requesting answer book admin) (http_halt end)
  pub says : (n : ℕ) (head : List ℕ) → head_front (used_of link link' own (requesting answer book admin) (http_halt end) turn) ≡ Whole n head → Says head answer ⊎ LacksAtOnce link link' own end

-- As `RunsByRulebook` of `session_core`, of a part of a request; what was taken of the input is known where
-- the link is steady.
pub record RunsPart (link link' : LinkState) (desk desk' : DeskView) (t : Rulebook → Interaction HttpEnd (Unit {0})) (halt : Halt HttpEnd) : Type 0 where
  pub read : List ℕ
  pub written : List ℕ
  pub own : List OwnEntry
  pub consumed : IsSteady link → Consumes link.left link'.left read
  pub counted : link'.given ≡ link.given + length read
  pub appended : Appends link.written link'.written written
  pub made : MakesAll desk desk' own
  pub trace : ByRulebook desk'.admin desk'.seen (λ book. IsTrace link'.left (Err halt) (t book) read written own)
  pub later : IsLater link link'
  pub caused : IsCaused {A = Unit {0}} link link' (Err halt)

-- a part that asks nothing of the hub was run up to this end
abbrev pub EndsLink : LinkState → LinkState → Interaction HttpEnd (Unit {0}) → HttpEnd → Type 0
EndsLink link link' part end = (desk : DeskView) → Runs link link' desk desk part (Err (http_halt end))

-- a request was run up to this end
pub record RunsRequest (link link' : LinkState) (desk desk' : DeskView) (end : HttpEnd) : Type 0 where
  pub answer : Result HttpRequest HttpFault
  pub ran : RunsPart link link' desk desk' (λ book. requesting answer book desk.admin) (http_halt end)
  pub says : (n : ℕ) (head : List ℕ) → head_front ran.read ≡ Whole n head → Says head answer ⊎ LacksAtOnce link link' ran.own end
