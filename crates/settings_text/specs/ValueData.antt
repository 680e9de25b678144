-- What a JSON value is as a value of an entry.
use Rattle.std.specs.Prelude.{◌^◌, pos, Bool, true, false, ◌||◌, nat_lt, if◌then◌else◌, decimal}
use Rattle.serde_json.specs.Data.{Num, unsigned, negative, float, Data, null, boolean, number, string, array, object, Items, no_items, item, Members, no_members, member}
use Rattle.entry_model.specs.Datum as datum

-- A whole number above the greatest i64 is the text of its digits. A fraction has no value, and none is asked for.
abbrev pub number_data : Num → datum.Datum
number_data (unsigned n) = if nat_lt n (2 ^ 63) then datum.int (pos n) else datum.text (decimal n)
number_data (negative z) = datum.int z
number_data (float x) = datum.null

abbrev mutual
  pub value_data : Data → datum.Datum
  value_data null = datum.null
  value_data (boolean b) = datum.boolean b
  value_data (number n) = number_data n
  value_data (string s) = datum.text s
  value_data (array ds) = datum.list (items_data ds)
  value_data (object ms) = datum.fields (members_data ms)

  pub items_data : Items → datum.Items
  items_data no_items = datum.no_items
  items_data (item d ds) = datum.item (value_data d) (items_data ds)

  pub members_data : Members → datum.Members
  members_data no_members = datum.no_members
  members_data (member key d ds) = datum.member key (value_data d) (members_data ds)

abbrev pub is_fraction : Num → Bool
is_fraction (unsigned n) = false
is_fraction (negative z) = false
is_fraction (float x) = true

-- whether a fraction stands anywhere in it
abbrev mutual
  pub has_fraction : Data → Bool
  has_fraction null = false
  has_fraction (boolean b) = false
  has_fraction (number n) = is_fraction n
  has_fraction (string s) = false
  has_fraction (array ds) = items_have_fraction ds
  has_fraction (object ms) = members_have_fraction ms

  pub items_have_fraction : Items → Bool
  items_have_fraction no_items = false
  items_have_fraction (item d ds) = has_fraction d || items_have_fraction ds

  pub members_have_fraction : Members → Bool
  members_have_fraction no_members = false
  members_have_fraction (member key d ds) = has_fraction d || members_have_fraction ds
