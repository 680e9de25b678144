-- Values by their names: what contracts see of a map.
use Rattle.std.specs.Prelude.{ℕ, List, refl}
use Rattle.std.specs.Coded.{Coded, code_by, coded_list, coded_ℕ, coded×}

-- the members, each a name and a value, in ascending byte order of the names
pub record ByName (X : Type 0) : Type 0 where
  pub entries : List (List ℕ × X)

abbrev pub by_name_code : {X : Type 0} → Coded X → Coded (ByName X)
by_name_code {X} value = code_by (List (List ℕ × X)) (coded_list (coded× (coded_list coded_ℕ) value)) (λ m. m.entries) (λ es. record { entries = es }) (λ _. refl)
