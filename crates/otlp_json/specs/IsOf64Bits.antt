-- A record whose numbers are of 64 bits, as each entry's are.
use Rattle.std.specs.Prelude.{ℕ, ℤ, pos, negsuc, ◌<◌, ◌^◌, Option, None, Some, ⊤}
use Rattle.entry_model.specs.Datum.{Datum, null, boolean, int, text, list, fields, Items, no_items, item, Members, no_members, member}
use Rattle.entry_model.specs.LogRecord.{LogRecord}

abbrev pub IsInteger : ℤ → Type 0
IsInteger (pos n) = n < 2 ^ 63
IsInteger (negsuc n) = n < 2 ^ 63

abbrev mutual
  -- each integer in a value
  pub HasIntegers : Datum → Type 0
  HasIntegers null = ⊤
  HasIntegers (boolean b) = ⊤
  HasIntegers (int z) = IsInteger z
  HasIntegers (text bytes) = ⊤
  HasIntegers (list items) = ItemsHaveIntegers items
  HasIntegers (fields members) = MembersHaveIntegers members

  pub ItemsHaveIntegers : Items → Type 0
  ItemsHaveIntegers no_items = ⊤
  ItemsHaveIntegers (item first rest) = HasIntegers first × ItemsHaveIntegers rest

  pub MembersHaveIntegers : Members → Type 0
  MembersHaveIntegers no_members = ⊤
  MembersHaveIntegers (member key value rest) = HasIntegers value × MembersHaveIntegers rest

abbrev pub IsTime : Option ℕ → Type 0
IsTime None = ⊤
IsTime (Some nanoseconds) = nanoseconds < 2 ^ 64

pub record IsOf64Bits (entry : LogRecord) : Type 0 where
  pub body : HasIntegers entry.body
  pub attributes : MembersHaveIntegers entry.attributes
  pub resource : MembersHaveIntegers entry.resource
  pub timestamp : IsTime entry.timestamp
  pub severity : entry.severity < 2 ^ 64
