-- A session makes no entry between what it wrote and what it reads next.
use Rattle.std.proofs.Common.{ℕ, Bool, false, refl}
use Rattle.std.specs.Bool.{⊤}
use Rattle.ref_store.specs.Refs.{Name}
use Rattle.access_check.specs.declared.verdicts.Want.TheVariants.{Read, Write}
use Rattle.hub_history.specs.declared.entry.PermChange.{PermChange}
use Rattle.interaction_tree.specs.Interaction.{◌>>=◌, write, ask}
use Rattle.interaction_tree.specs.Order.{EntriesFirst, IsOrdered}
use Rattle.interaction_tree.proofs.OrderLemmas.{order_then}
use Rattle.session_core.specs.declared.first_packet.Service.{Service}
use Rattle.session_core.specs.declared.first_packet.Service.TheVariants.{Receive, Upload, Permit, Look}
use Rattle.session_core.specs.Asking.{asking}
use Rattle.session_core.specs.Opening.{entering}
use Rattle.session_core.specs.Rulebook.{Rulebook}
use Rattle.session_core.proofs.OrderLemmas.{ReadLast, order_asking, order_entering}
use Rattle.receive_pack.proofs.OrderLemmas.{order_receiving}
use Rattle.upload_pack.specs.Uploading.{uploading}
use Rattle.upload_pack.specs.declared.uploading.FetchEnd.{FetchEnd}
use Rattle.upload_pack.specs.declared.uploading.FetchEnd.TheVariants as fetch
use Rattle.upload_pack.proofs.OrderLemmas.{order_uploading}
use Rattle.git_session.specs.Info.{looking}
use Rattle.git_session.specs.Perms.{permitting}
use Rattle.git_session.specs.Session.{fetched, fetching_from, pushing_into, served, serving, session}

order_pushing : (book : Rulebook) (admin user repo : Name) (offset : ℕ) → EntriesFirst false (pushing_into book admin user repo offset) (λ w a. ⊤)
unfolding pushing_into ReadLast
order_pushing book admin user repo offset =
    order_then false (entering book admin user repo Write) _ ReadLast _ (order_entering book admin user repo Write) (λ w opening last. rw last (order_receiving book opening offset))

order_permitting : (admin user repo : Name) (change : PermChange) → EntriesFirst false (permitting admin user repo change) (λ w a. ⊤)
unfolding EntriesFirst ◌>>=◌ ask write permitting
order_permitting admin user repo change = (refl, λ own. tt)

order_looking : (book : Rulebook) (admin user : Name) → EntriesFirst false (looking book admin user) (λ w a. ⊤)
unfolding EntriesFirst ◌>>=◌ ask write looking
order_looking book admin user = (refl, λ own. tt)

order_fetched : (wrote : Bool) (end : FetchEnd) → EntriesFirst wrote (fetched end) (λ w a. ⊤)
unfolding EntriesFirst
order_fetched wrote fetch.Served = tt
order_fetched wrote (fetch.NotOurRef id) = tt

order_fetching : (book : Rulebook) (admin user repo : Name) (offset : ℕ) → EntriesFirst false (fetching_from book admin user repo offset) (λ w a. ⊤)
unfolding fetching_from ReadLast
order_fetching book admin user repo offset =
    order_then false (entering book admin user repo Read) _ ReadLast _ (order_entering book admin user repo Read)
    (λ w opening last. rw last (order_then false (uploading opening offset) _ (λ w' end. ⊤) _ (order_uploading opening offset) (λ w' end all. order_fetched w' end)))

order_serving : (book : Rulebook) (admin user : Name) (service : Service) (offset : ℕ) → EntriesFirst false (serving book admin user service offset) (λ w a. ⊤)
order_serving book admin user (Receive repo) offset = order_pushing book admin user repo offset
order_serving book admin user (Upload repo) offset = order_fetching book admin user repo offset
order_serving book admin user (Permit repo change) offset = order_permitting admin user repo change
order_serving book admin user Look offset = order_looking book admin user

order_served : (book : Rulebook) (admin : Name) (offset : ℕ) → EntriesFirst false (served book admin offset) (λ w a. ⊤)
unfolding served ReadLast
order_served book admin offset = order_then false (asking offset) _ ReadLast _ (order_asking offset) (λ w first last. rw last (order_serving book admin first.0.user first.0.service first.1))

pub is_ordered : (book : Rulebook) (admin : Name) → IsOrdered (session book admin)
unfolding EntriesFirst session
is_ordered book admin = order_then false (served book admin 0) _ (λ w a. ⊤) _ (order_served book admin 0) (λ w u all. tt)
