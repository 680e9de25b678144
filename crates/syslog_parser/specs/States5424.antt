-- The states in which the reader goes over what stands behind the time of a message of RFC 5424.
use Rattle.std.specs.Prelude.{ℕ, suc, ◌-◌, ◌==◌, ◌&&◌, nat_lt, Bool, true, false, if◌then◌else◌, List, [], ◌∷◌, ◌++◌, length, Option, None, Some, Result}
use Rattle.syslog_parser.specs.Bytes.{is_printable, is_name_byte, is_special}
use Rattle.syslog_parser.specs.Machines as machines
use Rattle.syslog_parser.specs.Rfc5424.{Limited, Valued, Tail, header_fields, without_mark}
use Rattle.syslog_parser.specs.Structured.{Param, Element}

-- what was read before an element: fields and elements
pub record Before : Type 0 where
  pub values : List Valued
  pub elements : List Element

-- what was read before a parameter: its element's id and parameters too
pub record Within : Type 0 where
  pub before : Before
  pub id : List ℕ
  pub params : List Param

pub data State : Type 0 where
  -- a field of this name and at most so many bytes behind its first, the fields behind it, and the bytes so far
  in_field : List ℕ → ℕ → List Limited → List Valued → List ℕ → State
  wants_data : List Valued → State
  behind_none : List Valued → State
  wants_element : Before → State
  in_id : Before → List ℕ → State
  in_name : Within → List ℕ → State
  wants_quote : Within → List ℕ → State
  in_value : Within → List ℕ → List ℕ → State
  in_escape : Within → List ℕ → List ℕ → State
  behind_value : Within → State
  behind_element : Before → State
  in_message : Before → List ℕ → State

abbrev pub fields_on : List Limited → List Valued → State
fields_on [] values = wants_data values
fields_on (field ∷ fields) values = in_field field.0 (field.1 - 1) fields values []

abbrev pub with_element : Within → Before
with_element within = record { values = within.before.values; elements = within.before.elements ++ (within.id, within.params) ∷ [] }

abbrev pub with_param : Within → List ℕ → List ℕ → Within
with_param within name value = record within { params = within.params ++ (name, value) ∷ [] }

abbrev pub is_begun : List ℕ → Bool
is_begun [] = false
is_begun (byte ∷ own) = true

abbrev pub field_step : List ℕ → ℕ → List Limited → List Valued → List ℕ → ℕ → Option State
field_step name spare fields values own byte =
    (if is_printable byte && nat_lt (length own) (suc spare) then Some (in_field name spare fields values (own ++ byte ∷ []))
    else (if (byte == 32) && is_begun own then Some (fields_on fields (values ++ (name, own) ∷ [])) else None))

abbrev pub element_step : Before → ℕ → Option State
element_step before byte = (if byte == 91 then Some (in_id before []) else None)

abbrev pub data_step : List Valued → ℕ → Option State
data_step values byte =
    (if byte == 45 then Some (behind_none values) else element_step (record { values = values; elements = [] }) byte)

abbrev pub message_step : Before → ℕ → Option State
message_step before byte = (if byte == 32 then Some (in_message before []) else None)

abbrev pub param_step : Within → ℕ → Option State
param_step within byte =
    (if byte == 32 then Some (in_name within [])
    else (if byte == 93 then Some (behind_element (with_element within)) else None))

abbrev pub id_step : Before → List ℕ → ℕ → Option State
id_step before own byte =
    (if is_name_byte byte && nat_lt (length own) 32 then Some (in_id before (own ++ byte ∷ []))
    else (if is_begun own then param_step (record { before = before; id = own; params = [] }) byte else None))

abbrev pub name_step : Within → List ℕ → ℕ → Option State
name_step within own byte =
    (if is_name_byte byte && nat_lt (length own) 32 then Some (in_name within (own ++ byte ∷ []))
    else (if (byte == 61) && is_begun own then Some (wants_quote within own) else None))

abbrev pub quote_step : Within → List ℕ → ℕ → Option State
quote_step within name byte = (if byte == 34 then Some (in_value within name []) else None)

abbrev pub value_step : Within → List ℕ → List ℕ → ℕ → Option State
value_step within name own byte =
    (if byte == 34 then Some (behind_value (with_param within name own))
    else (if byte == 92 then Some (in_escape within name own)
    else (if byte == 93 then None else Some (in_value within name (own ++ byte ∷ [])))))

abbrev pub escape_step : Within → List ℕ → List ℕ → ℕ → Option State
escape_step within name own byte =
    (if is_special byte then Some (in_value within name (own ++ byte ∷ []))
    else Some (in_value within name ((own ++ 92 ∷ []) ++ byte ∷ [])))

abbrev pub step : State → ℕ → Option State
step (in_field name spare fields values own) byte = field_step name spare fields values own byte
step (wants_data values) byte = data_step values byte
step (behind_none values) byte = message_step (record { values = values; elements = [] }) byte
step (wants_element before) byte = element_step before byte
step (in_id before own) byte = id_step before own byte
step (in_name within own) byte = name_step within own byte
step (wants_quote within name) byte = quote_step within name byte
step (in_value within name own) byte = value_step within name own byte
step (in_escape within name own) byte = escape_step within name own byte
step (behind_value within) byte = param_step within byte
step (behind_element before) byte = (if byte == 91 then Some (in_id before []) else message_step before byte)
step (in_message before own) byte = Some (in_message before (own ++ byte ∷ []))

abbrev pub tail_of : Before → List ℕ → Tail
tail_of before message = record { values = before.values; elements = before.elements; message = message }

-- what was read, where the text may end here
abbrev pub value_at : State → Option Tail
value_at (in_field name spare fields values own) = None
value_at (wants_data values) = None
value_at (behind_none values) = Some (record { values = values; elements = []; message = [] })
value_at (wants_element before) = None
value_at (in_id before own) = None
value_at (in_name within own) = None
value_at (wants_quote within name) = None
value_at (in_value within name own) = None
value_at (in_escape within name own) = None
value_at (behind_value within) = None
value_at (behind_element before) = Some (tail_of before [])
value_at (in_message before own) = Some (tail_of before (without_mark own))

abbrev pub outcome : State → List ℕ → Result Tail ℕ
outcome s text = machines.outcome step value_at s text

abbrev pub start : State
start = fields_on header_fields []
