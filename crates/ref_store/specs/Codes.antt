-- Codes, by which a proof tells values apart. They say nothing of what the values mean.
use Rattle.std.specs.Prelude.{ℕ, List, refl}
use Rattle.std.specs.Coded.{Coded, code_by, coded×, coded_ℕ, coded_list}
use Rattle.std.specs.FinMap as map
use Rattle.base_types.specs.Names.{ByName}
use Rattle.git_object.specs.Content.{Content}
use Rattle.git_object.specs.declared.object_id.ObjectId.{ObjectId}
use Rattle.git_object.specs.declared.kind.Kind.{Kind}
use Rattle.git_object.specs.contracts.kind.Kind as kind
use Rattle.ref_store.specs.RefCodes.{coded_id}
use Rattle.ref_store.specs.Store.{Store}

abbrev pub coded_name : Coded (List ℕ)
coded_name = coded_list coded_ℕ

abbrev pub coded_content : Coded Content
coded_content = code_by (Kind × List ℕ) (coded× kind.the_row.coded coded_name) (λ c. (c.kind, c.body)) (λ p. record { kind = p.0; body = p.1 }) (λ _. refl)

abbrev pub coded_store : Coded Store
coded_store = code_by (List Content × ByName ObjectId) (coded× (coded_list coded_content) (map.code coded_name coded_id)) (λ s. (s.objects, s.refs)) (λ p. record { objects = p.0; refs = p.1 }) (λ _. refl)
