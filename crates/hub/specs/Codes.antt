-- Codes, by which a proof tells values apart. They say nothing of what the values mean.
use Rattle.std.specs.Prelude.{ℕ, refl}
use Rattle.std.specs.Coded.{Coded, code_by, coded×, coded_list, coded_ℕ}
use Rattle.std.specs.FinMap as map
use Rattle.base_types.specs.Names.{ByName}
use Rattle.hub.specs.Since.{SinceView}

abbrev pub coded_since : Coded SinceView
coded_since = code_by (ℕ × ByName ℕ) (coded× coded_ℕ (map.code (coded_list coded_ℕ) coded_ℕ)) (λ s. (s.conf, s.wilds)) (λ p. record { conf = p.0; wilds = p.1 }) (λ _. refl)
