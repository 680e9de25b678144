-- What stands at the front of some bytes: a value with the bytes behind it, or where it can't go on. The place of a
-- fault is told by the number of bytes that are left from there on.
use Rattle.std.specs.Prelude.{ℕ, zero, suc, ◌+◌, ◌-◌, Bool, true, false, if◌then◌else◌, List, [], ◌∷◌, length, take, drop, slice_index, slice_get, option_map, nat_lt, nat_le, ◌==◌, Option, None, Some, Result, Ok, Err}
use Rattle.std.specs.Int.{Width, w32, w64, byte_len, from_be_bytes, cast_signed}
use Rattle.std.specs.Str.Lossy.{utf8_valid_len, utf8_error_len}
use Rattle.std.specs.Ordering.{nat_cmp, is_lt}
use Rattle.std.specs.Cmp.Lexicographic.{slice_cmp}
use Rattle.entry_model.specs.Datum.{Datum, null, boolean, int, text, list, fields, items_of, members_of}
use Rattle.entry_model.specs.LogRecord.{LogRecord}
use Rattle.state_codec.specs.Limits.{levels}

abbrev pub Reading : Type 0 → Type 0
Reading A = Result (A × List ℕ) ℕ

infixl 10 ◌>>=◌
abbrev pub ◌>>=◌ : {A B : Type 0} → Result A ℕ → (A → Result B ℕ) → Result B ℕ
(Ok x) >>= f = f x
(Err left) >>= f = Err left

-- where bytes end too early, none are left
unfoldable pub number_at : Width → List ℕ → Reading ℕ
number_at w bytes = if nat_lt (length bytes) (byte_len w) then Err 0 else Ok (from_be_bytes w (take (byte_len w) bytes), drop (byte_len w) bytes)

unfoldable pub bytes_at : List ℕ → Reading (List ℕ)
bytes_at bytes = do
  n ← number_at w32 bytes
  if nat_lt (length n.1) n.0 then Err 0 else Ok (take n.0 n.1, drop n.0 n.1)

-- how many bytes a character has that begins with this byte; 0 where none does (RFC 3629 section 4)
abbrev pub character_len : ℕ → ℕ
character_len lead =
    if nat_lt lead 0x80 then 1 else if nat_lt lead 0xC2 then 0 else if nat_lt lead 0xE0 then 2 else if nat_lt lead 0xF0 then 3 else if nat_lt lead 0xF5 then 4 else 0

-- the first of these bytes that can't stand in a text of so many bytes, or their number where more is missing:
-- a first byte that begins no character or one for which there is no room, or else the byte that can't follow it
abbrev pub text_fault : ℕ → List ℕ → ℕ
text_fault size bytes =
    let valid = utf8_valid_len bytes in
    let room = character_len (slice_index bytes valid) in
    if nat_le (length bytes) valid then length bytes
    else if room == 0 then valid
    else if nat_lt (size - valid) room then valid
    else fault_behind valid (length bytes) (utf8_error_len (drop valid bytes))
  where
    fault_behind : ℕ → ℕ → Option ℕ → ℕ
    fault_behind valid end None = end
    fault_behind valid end (Some behind) = valid + behind

unfoldable pub text_at : List ℕ → Reading (List ℕ)
text_at bytes = do
  n ← number_at w32 bytes
  if utf8_valid_len (take n.0 n.1) == n.0 then Ok (take n.0 n.1, drop n.0 n.1) else Err (length n.1 - text_fault n.0 (take n.0 n.1))

-- ---- values

abbrev pub DatumReader : Type 0
DatumReader = List ℕ → Reading Datum

-- so many values
abbrev pub items_at : DatumReader → ℕ → List ℕ → Reading (List Datum)
items_at read zero bytes = Ok ([], bytes)
items_at read (suc n) bytes = do
  first ← read bytes
  rest ← items_at read n first.1
  Ok (first.0 ∷ rest.0, rest.1)

abbrev pub is_behind : Option (List ℕ) → List ℕ → Bool
is_behind None key = true
is_behind (Some before) key = is_lt (slice_cmp nat_cmp before key)

-- the last key of a map, if it has one
abbrev pub last_key : {X : Type 0} → List (List ℕ × X) → Option (List ℕ)
last_key members = option_map (λ member. member.0) (slice_get members (length members - 1))

-- so many members with ascending keys; one that doesn't stand behind the key before it can't be there at all
abbrev pub members_at : DatumReader → Option (List ℕ) → ℕ → List ℕ → Reading (List (List ℕ × Datum))
members_at read before zero bytes = Ok ([], bytes)
members_at read before (suc n) bytes = do
  key ← text_at bytes
  value ← (if is_behind before key.0 then read key.1 else Err (length bytes))
  rest ← members_at read (Some key.0) n value.1
  Ok ((key.0, value.0) ∷ rest.0, rest.1)

-- behind the tag
unfoldable pub list_at : DatumReader → List ℕ → Reading (List Datum)
list_at read bytes = do
  n ← number_at w32 bytes
  items_at read n.0 n.1

unfoldable pub map_at : DatumReader → List ℕ → Reading (List (List ℕ × Datum))
map_at read bytes = do
  n ← number_at w32 bytes
  members_at read None n.0 n.1

-- a value with nothing inside, by its tag
unfoldable pub leaf_at : ℕ → List ℕ → Reading Datum
leaf_at tag rest =
    if tag == 0 then Ok (null, rest)
    else if tag == 1 then Ok (boolean false, rest)
    else if tag == 2 then Ok (boolean true, rest)
    else if tag == 3 then (number_at w64 rest >>= λ n. Ok (int (cast_signed w64 n.0), n.1))
    else if tag == 4 then (text_at rest >>= λ t. Ok (text t.0, t.1))
    else Err (suc (length rest))

-- a value in which so many lists and maps may still be opened
unfoldable pub value_at : ℕ → DatumReader
value_at room [] = Err 0
value_at zero (tag ∷ rest) = leaf_at tag rest
value_at (suc room) (tag ∷ rest) =
    if tag == 5 then (list_at (λ bytes. value_at room bytes) rest >>= λ x. Ok (list (items_of x.0), x.1))
    else if tag == 6 then (map_at (λ bytes. value_at room bytes) rest >>= λ x. Ok (fields (members_of x.0), x.1))
    else leaf_at tag rest

-- a map in which so many may be opened
unfoldable pub fields_at : ℕ → List ℕ → Reading (List (List ℕ × Datum))
fields_at room [] = Err 0
fields_at room (tag ∷ rest) = if tag == 6 then map_at (value_at room) rest else Err (suc (length rest))

-- ---- entries

unfoldable pub severity_at : List ℕ → Reading ℕ
severity_at [] = Err 0
severity_at (n ∷ rest) = if nat_le n 24 then Ok (n, rest) else Err (suc (length rest))

unfoldable pub time_at : List ℕ → Reading (Option ℕ)
time_at [] = Err 0
time_at (flag ∷ rest) =
    if flag == 0 then Ok (None, rest)
    else if flag == 1 then (number_at w64 rest >>= λ n. Ok (Some n.0, n.1))
    else Err (suc (length rest))

-- an entry whose body may open `levels` lists and maps, and whose two maps one less inside
unfoldable pub entry_within : ℕ → ℕ → List ℕ → Reading LogRecord
entry_within levels inside bytes = do
  body ← value_at levels bytes
  attributes ← fields_at inside body.1
  resource ← fields_at inside attributes.1
  severity ← severity_at resource.1
  name ← text_at severity.1
  time ← time_at name.1
  Ok (
    record {
      body = body.0;
      attributes = members_of attributes.0;
      resource = members_of resource.0;
      timestamp = time.0;
      severity = severity.0;
      severity_text = name.0;
    },
    time.1,
  )

abbrev pub entry_at : List ℕ → Reading LogRecord
entry_at bytes = entry_within levels (levels - 1) bytes
