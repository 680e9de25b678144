-- What becomes of a map once the borrow of one of its values ends.
use Rattle.std.specs.Prelude.{◌≡◌, ℕ, List, Option}
use Rattle.std.specs.BTreeMap.{is_at}
use Rattle.std.specs.Borrow.{Fml, Lends, LendsSo, MutBor}
use Rattle.std.specs.Map.{set_value}
use denote.RattleType.{RattleType}
use Rattle.entry_model.specs.ByName.{ByName}
use Rattle.entry_model.specs.Places.{name_cmp, NamesAscend, value_set_at}
use Rattle.entry_model.specs.contracts.fields.TextMap.{the_row}

-- the map ends with the last value behind r at the place
abbrev pub LendsValueAt : (V : RattleType) → MutBor (ByName V.Denot) → ℕ → MutBor V.Denot → Fml
LendsValueAt V m at r = Lends (the_row V) V m r (λ w. record { entries = value_set_at m.now.entries at w })

-- n has w at the name where m has a value, and else what m has
abbrev pub HasValue : {X : Type 0} → ByName X → List ℕ → ByName X → X → Type 0
HasValue m name n w = (n.entries ≡ set_value (is_at (name_cmp name)) m.entries w) × NamesAscend n.entries

-- the map ends with the last value behind r at the name, and as it was where r is None
abbrev pub LendsValue : (V : RattleType) → MutBor (ByName V.Denot) → List ℕ → Option (MutBor V.Denot) → Fml
LendsValue V m name r = LendsSo (the_row V) V m r (HasValue m.now name) (λ n. n ≡ m.now)
