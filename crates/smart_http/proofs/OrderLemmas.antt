-- A request makes no entry between what it wrote and what it reads next.
use Rattle.std.proofs.Common.{ℕ, Bool, true, false, Option, None, Some, Result, Ok, Err, List, refl}
use Rattle.std.specs.Bool.{⊤}
use Rattle.ref_store.specs.Refs.{Name}
use Rattle.hub_history.specs.Opening.{Opening}
use Rattle.hub_history.specs.State.{store_of}
use Rattle.request_head.specs.declared.fault.HttpFault.{HttpFault}
use Rattle.request_head.specs.declared.head.HeadFault.{HeadFault}
use Rattle.request_head.specs.declared.request.HttpRequest.{HttpRequest}
use Rattle.request_head.specs.declared.target.Service.{Service}
use Rattle.request_head.specs.declared.target.Service.TheVariants.{ReceivePack, UploadPack}
use Rattle.interaction_tree.specs.Interaction.{ends, ending_as, ◌>>=◌, read, write, ask}
use Rattle.interaction_tree.specs.Order.{EntriesFirst, IsOrdered}
use Rattle.interaction_tree.proofs.OrderLemmas.{order_then}
use Rattle.interaction_tree.proofs.OtherEnds.{order_as}
use Rattle.interaction_tree.proofs.LimitLemmas.{order_limits}
use Rattle.session_core.specs.Opening.{Opened, LetIn, Refused, Absent, opening}
use Rattle.session_core.specs.Rulebook.{Rulebook}
use Rattle.receive_pack.specs.Receiving.{commanding, pushed_end}
use Rattle.receive_pack.proofs.OrderLemmas.{order_commanding}
use Rattle.upload_pack.specs.Uploading.{fetched_end, wanting}
use Rattle.upload_pack.proofs.OrderLemmas as uploads
use Rattle.upload_pack.proofs.OrderLemmas.{order_wanting}
use Rattle.smart_http.specs.declared.end.HttpEnd.{HttpEnd}
use Rattle.smart_http.specs.declared.end.HttpEnd.TheVariants as end
use Rattle.smart_http.specs.Requests.{answering, advertising, writing_advertisement, writing_line, writing_refs, receiving, uploading, body_of, calling, responding, by_opened, entering, by_answer, by_head, requesting}

abbrev Any : Bool → Unit {0} → Type 0
Any wrote done = ⊤

order_answering : (wrote : Bool) (bytes : List ℕ) (end : HttpEnd) → EntriesFirst wrote (answering bytes end) Any
unfolding EntriesFirst answering ◌>>=◌ write
order_answering wrote bytes end = tt

order_advertising : (wrote : Bool) (service : Service) (opening : Opening) → EntriesFirst wrote (advertising service opening) Any
unfolding EntriesFirst advertising writing_advertisement writing_line writing_refs ◌>>=◌ write
order_advertising wrote service opening = tt

order_body : (wrote : Bool) (book : Rulebook) (service : Service) (opening : Opening) → EntriesFirst wrote (body_of book service opening) Any
unfolding EntriesFirst receiving uploading uploads.Always
order_body wrote book ReceivePack opening =
    order_then wrote (ending_as end.Received (commanding book opening 0)) (λ done. ends (end.Received (pushed_end done))) (λ w a. ⊤) Any
    (order_as end.Received wrote (commanding book opening 0) (λ w a. ⊤) (order_commanding book wrote opening 0)) (λ w a all. tt)
order_body wrote book UploadPack opening =
    order_then wrote (ending_as end.Uploaded (wanting (store_of opening.pinned.repository) 0)) (λ done. ends (end.Uploaded (fetched_end done))) (λ w a. ⊤) Any
    (order_as end.Uploaded wrote (wanting (store_of opening.pinned.repository) 0) (λ w a. ⊤) (order_wanting wrote (store_of opening.pinned.repository) 0)) (λ w a all. tt)

order_calling : (wrote : Bool) (book : Rulebook) (service : Service) (opening : Opening) (most : ℕ) → EntriesFirst wrote (calling book service opening most) Any
unfolding EntriesFirst calling ◌>>=◌ write
order_calling wrote book service opening most = order_limits true (body_of book service opening) Any most (order_body true book service opening)

order_responding : (wrote : Bool) (book : Rulebook) (service : Service) (opening : Opening) (body : Option ℕ) → EntriesFirst wrote (responding book service opening body) Any
order_responding wrote book service opening None = order_advertising wrote service opening
order_responding wrote book service opening (Some most) = order_calling wrote book service opening most

order_opened : (wrote : Bool) (book : Rulebook) (request : HttpRequest) (opened : Opened) → EntriesFirst wrote (by_opened book request opened) Any
order_opened wrote book request (LetIn opening) = order_responding wrote book request.service opening request.body
order_opened wrote book request (Refused rule) = order_answering wrote _ _
order_opened wrote book request Absent = order_answering wrote _ _

order_answer : (answer : Result HttpRequest HttpFault) (book : Rulebook) (admin : Name) → EntriesFirst false (by_answer answer book admin) Any
unfolding EntriesFirst entering opening ◌>>=◌ ask
order_answer (Err fault) book admin = order_answering false _ _
order_answer (Ok request) book admin = (refl, λ own. order_opened false book request _)

order_head : (answer : Result HttpRequest HttpFault) (book : Rulebook) (admin : Name) (found : Result (List ℕ) HeadFault) → EntriesFirst false (by_head answer book admin found) Any
order_head answer book admin (Ok head) = order_answer answer book admin
order_head answer book admin (Err fault) = order_answering false _ _

pub is_ordered : (answer : Result HttpRequest HttpFault) (book : Rulebook) (admin : Name) → IsOrdered (requesting answer book admin)
unfolding EntriesFirst requesting ◌>>=◌ read
is_ordered answer book admin = λ reply. order_head answer book admin reply.found
