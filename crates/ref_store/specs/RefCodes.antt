-- The code of an id, by which a proof tells values apart.
use Rattle.std.specs.Prelude.{ℕ, List, refl}
use Rattle.std.specs.Coded.{Coded, code_by, coded_ℕ, coded_list}
use Rattle.git_object.specs.declared.object_id.ObjectId.{ObjectId}

abbrev pub coded_id : Coded ObjectId
coded_id = code_by (List ℕ) (coded_list coded_ℕ) (λ i. i.bytes) (λ b. record { bytes = b }) (λ _. refl)
