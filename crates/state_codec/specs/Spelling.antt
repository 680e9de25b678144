-- The one spelling of each number, text, value and entry. Numbers are big-endian.
use Rattle.std.specs.Prelude.{ℕ, suc, true, false, List, [], ◌∷◌, ◌++◌, length, Option, None, Some}
use Rattle.std.specs.Int.{w32, w64, to_be_bytes, cast_unsigned}
use Rattle.entry_model.specs.Datum.{Datum, null, boolean, int, text, list, fields, Items, no_items, item, Members, no_members, member}
use Rattle.entry_model.specs.LogRecord.{LogRecord}

-- four bytes of length, and that many bytes
abbrev pub bytes_spelling : List ℕ → List ℕ
bytes_spelling bytes = to_be_bytes w32 (length bytes) ++ bytes

abbrev pub item_count : Items → ℕ
item_count no_items = 0
item_count (item first rest) = suc (item_count rest)

abbrev pub member_count : Members → ℕ
member_count no_members = 0
member_count (member key value rest) = suc (member_count rest)

abbrev mutual
  -- a tag, and what it says
  pub value_spelling : Datum → List ℕ
  value_spelling null = 0 ∷ []
  value_spelling (boolean false) = 1 ∷ []
  value_spelling (boolean true) = 2 ∷ []
  -- in two's complement
  value_spelling (int z) = 3 ∷ to_be_bytes w64 (cast_unsigned w64 z)
  value_spelling (text bytes) = 4 ∷ bytes_spelling bytes
  value_spelling (list items) = 5 ∷ (to_be_bytes w32 (item_count items) ++ items_spelling items)
  value_spelling (fields members) = 6 ∷ (to_be_bytes w32 (member_count members) ++ members_spelling members)

  pub items_spelling : Items → List ℕ
  items_spelling no_items = []
  items_spelling (item first rest) = value_spelling first ++ items_spelling rest

  pub members_spelling : Members → List ℕ
  members_spelling no_members = []
  members_spelling (member key value rest) = bytes_spelling key ++ (value_spelling value ++ members_spelling rest)

-- a flag, and the time where there is one
abbrev pub time_spelling : Option ℕ → List ℕ
time_spelling None = 0 ∷ []
time_spelling (Some time) = 1 ∷ to_be_bytes w64 time

abbrev pub entry_spelling : LogRecord → List ℕ
entry_spelling r =
    value_spelling r.body
    ++ (value_spelling (fields r.attributes)
    ++ (value_spelling (fields r.resource) ++ (r.severity ∷ (bytes_spelling r.severity_text ++ time_spelling r.timestamp))))
