-- The entries of a map in memory, with each value as its datum.
use Rattle.std.specs.Prelude.{ℕ, List, map}
use Rattle.entry_model.specs.declared.value.Value.{Value}
use Rattle.entry_model.specs.Datum.{Datum, datum, null}

abbrev pub seen : List (List ℕ × Value) → List (List ℕ × Datum)
seen entries = map {B = List ℕ × Datum} (λ entry. (entry.0, datum entry.1)) entries

-- the names of these members, with nothing at each
abbrev pub unset_of : List (List ℕ × Datum) → List (List ℕ × Datum)
unset_of members = map {B = List ℕ × Datum} (λ member. (member.0, null)) members
