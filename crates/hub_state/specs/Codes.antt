-- Codes, by which a proof tells values apart. They say nothing of what the values mean.
use Rattle.std.specs.Prelude.{ℕ, List, refl, Option}
use Rattle.std.specs.Coded.{Coded, code_by, coded×, coded_ℕ, coded_list, coded_option}
use Rattle.git_object.specs.Content.{Content}
use Rattle.git_object.specs.declared.object_id.ObjectId.{ObjectId}
use Rattle.ref_store.specs.Codes.{coded_content, coded_name, coded_store}
use Rattle.ref_store.specs.RefCodes.{coded_id}
use Rattle.ref_store.specs.Store.{Store}
use Rattle.wild_perms.specs.declared.role.RoleEntry.{RoleEntry}
use Rattle.wild_perms.specs.contracts.role.RoleEntry as role
use Rattle.access_check.specs.declared.verdicts.Want.{Want}
use Rattle.access_check.specs.contracts.verdicts.Want as want
use Rattle.hub_history.specs.Opening.{Opening, Pinned}
use Rattle.hub_history.specs.State.{CommitAmong, Conf, Repository}

abbrev pub coded_repository : Coded Repository
coded_repository =
    code_by (Store × (Option (List ℕ) × List RoleEntry)) (coded× coded_store (coded× (coded_option coded_name) (coded_list role.the_row.coded)))
    (λ r. (record { objects = r.objects; refs = r.refs }, (r.creator, r.roles))) (λ p. record { objects = p.0.objects; refs = p.0.refs; creator = p.1.0; roles = p.1.1 }) (λ _. refl)

abbrev pub coded_commit : Coded CommitAmong
coded_commit = code_by (List Content × ObjectId) (coded× (coded_list coded_content) coded_id) (λ c. (c.objects, c.commit)) (λ p. record { objects = p.0; commit = p.1 }) (λ _. refl)

abbrev pub coded_conf : Coded Conf
coded_conf = code_by (List ℕ × Option CommitAmong) (coded× coded_name (coded_option coded_commit)) (λ c. (c.admin, c.pushed)) (λ p. record { admin = p.0; pushed = p.1 }) (λ _. refl)

abbrev pub coded_pinned : Coded Pinned
coded_pinned =
    code_by ((List ℕ × List ℕ) × (Want × (Conf × Repository))) (coded× (coded× coded_name coded_name) (coded× want.the_row.coded (coded× coded_conf coded_repository)))
    (λ p. ((p.user, p.repo), (p.want, (p.conf, p.repository)))) (λ t. record { user = t.0.0; repo = t.0.1; want = t.1.0; conf = t.1.1.0; repository = t.1.1.1 }) (λ _. refl)

abbrev pub coded_opening : Coded Opening
coded_opening = code_by (ℕ × Pinned) (coded× coded_ℕ coded_pinned) (λ o. (o.place, o.pinned)) (λ t. record { place = t.0; pinned = t.1 }) (λ _. refl)
