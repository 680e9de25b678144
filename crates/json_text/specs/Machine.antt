-- The states in which the reader goes over a text byte by byte. What a text means is `IsText`.
use Rattle.std.specs.Prelude.{ℕ, zero, suc, ◌+◌, ◌*◌, ◌==◌, ◌&&◌, Bool, true, false, if◌then◌else◌, List, [], ◌∷◌, ◌++◌, codes, Option, None, Some}
use Rattle.std.specs.BTreeMap.{insert_entry}
use Rattle.std.specs.Char.Utf16.{is_high_surrogate, is_low_surrogate}
use Rattle.std.specs.Cmp.Lexicographic.{slice_cmp}
use Rattle.std.specs.Ordering.{nat_cmp}
use Rattle.entry_model.specs.Datum.{Datum, null, boolean, text, list, fields, items_of, members_of, no_items, no_members}
use Rattle.json_text.specs.declared.content.Piece.{Piece}
use Rattle.json_text.specs.declared.content.Piece.TheVariants as piece
use Rattle.json_text.specs.declared.number.Part.{Part}
use Rattle.json_text.specs.declared.number.Part.TheVariants as part
use Rattle.json_text.specs.Bytes.{is_blank, is_digit, is_digit_from_one, is_power_mark, is_sign, is_plain, escaped, hex_value}
use Rattle.json_text.specs.Grammar.{Member}
use Rattle.json_text.specs.Numbers.{number_of}
use Rattle.json_text.specs.Pieces.{lone_unit, pair_of_units}

-- what is read of a string: a unit waits until it is known whether the next piece makes it a pair
pub record Content : Type 0 where
  pub done : List ℕ
  pub waiting : Option ℕ

abbrev pub no_content : Content
no_content = record { done = []; waiting = None }

-- what is read if the string ends here
abbrev pub settled : List ℕ → Option ℕ → List ℕ
settled done None = done
settled done (Some unit) = done ++ lone_unit unit

abbrev pub text_so_far : Content → List ℕ
text_so_far content = settled content.done content.waiting

abbrev pub with_unit : List ℕ → Option ℕ → ℕ → Content
with_unit done None unit = record { done = done; waiting = Some unit }
with_unit done (Some before) unit =
    (if is_high_surrogate before && is_low_surrogate unit
    then record { done = done ++ pair_of_units before unit; waiting = None }
    else record { done = done ++ lone_unit before; waiting = Some unit })

abbrev pub with_piece : Content → Piece → Content
with_piece content (piece.Byte byte) = record { done = text_so_far content ++ byte ∷ []; waiting = None }
with_piece content (piece.Unit unit) = with_unit content.done content.waiting unit

-- with bytes that stand for themselves
abbrev pub with_run : Content → List ℕ → Content
with_run content [] = content
with_run content (byte ∷ run) = record { done = text_so_far content ++ byte ∷ run; waiting = None }

-- what a string is: a value, or the name behind these members
pub data Role : Type 0 where
  a_value : Role
  a_key : List Member → Role

pub data Phase : Type 0 where
  wants_value : Phase
  opened_list : Phase
  opened_map : Phase
  has_value : Datum → Phase
  wants_name : List Member → Phase
  has_name : List Member → List ℕ → Phase
  -- this byte comes next, and then these
  in_word : ℕ → List ℕ → Datum → Phase
  in_number : Part → List ℕ → Phase
  in_text : Role → Content → Phase
  in_escape : Role → Content → Phase
  -- so many hexadecimal digits come behind the next one
  in_unit : Role → Content → ℕ → ℕ → Phase

-- what is open around the value: a list with its values, or an object with its members and the name of the next
pub data Frame : Type 0 where
  in_list : List Datum → Frame
  in_map : List Member → List ℕ → Frame

pub record State : Type 0 where
  pub phase : Phase
  pub frames : List Frame
  -- how many levels can still be opened
  pub room : ℕ

abbrev pub state : Phase → List Frame → ℕ → State
state phase frames room = record { phase = phase; frames = frames; room = room }

pub data Move : Type 0 where
  goes : State → Move
  stops : Move
  -- a level too many
  sinks : Move

abbrev pub put : List Member → List ℕ → Datum → List Member
put members name value = insert_entry (slice_cmp nat_cmp) members name value

abbrev pub opens : Phase → List Frame → ℕ → Move
opens phase frames zero = sinks
opens phase frames (suc room) = goes (state phase frames room)

abbrev pub next_part : Part → ℕ → Option Part
next_part part.Start byte =
    (if byte == 45 then Some part.Minus else (if byte == 48 then Some part.Zero else (if is_digit_from_one byte then Some part.Whole else None)))
next_part part.Minus byte = (if byte == 48 then Some part.Zero else (if is_digit_from_one byte then Some part.Whole else None))
next_part part.Zero byte = (if byte == 46 then Some part.Point else (if is_power_mark byte then Some part.Power else None))
next_part part.Whole byte =
    (if is_digit byte then Some part.Whole else (if byte == 46 then Some part.Point else (if is_power_mark byte then Some part.Power else None)))
next_part part.Point byte = (if is_digit byte then Some part.Fraction else None)
next_part part.Fraction byte = (if is_digit byte then Some part.Fraction else (if is_power_mark byte then Some part.Power else None))
next_part part.Power byte = (if is_sign byte then Some part.Sign else (if is_digit byte then Some part.Exponent else None))
next_part part.Sign byte = (if is_digit byte then Some part.Exponent else None)
next_part part.Exponent byte = (if is_digit byte then Some part.Exponent else None)

-- whether the number may end here
abbrev pub can_end : Part → Bool
can_end part.Start = false
can_end part.Minus = false
can_end part.Zero = true
can_end part.Whole = true
can_end part.Point = false
can_end part.Fraction = true
can_end part.Power = false
can_end part.Sign = false
can_end part.Exponent = true

abbrev pub number_step : Option Part → List ℕ → Move → List Frame → ℕ → Move
number_step None spelled ended frames room = ended
number_step (Some part) spelled ended frames room = goes (state (in_number part spelled) frames room)

abbrev pub value_step : List Frame → ℕ → ℕ → Move
value_step frames room byte =
    (if is_blank byte then goes (state wants_value frames room) else
    (if byte == 34 then goes (state (in_text a_value no_content) frames room) else
    (if byte == 91 then opens opened_list frames room else
    (if byte == 123 then opens opened_map frames room else
    (if byte == 110 then goes (state (in_word 117 (codes "ll") null) frames room) else
    (if byte == 116 then goes (state (in_word 114 (codes "ue") (boolean true)) frames room) else
    (if byte == 102 then goes (state (in_word 97 (codes "lse") (boolean false)) frames room) else
    number_step (next_part part.Start byte) (byte ∷ []) stops frames room)))))))

abbrev pub list_step : List Frame → ℕ → ℕ → Move
list_step frames room byte =
    (if is_blank byte then goes (state opened_list frames room) else
    (if byte == 93 then goes (state (has_value (list no_items)) frames (suc room)) else
    value_step (in_list [] ∷ frames) room byte))

abbrev pub name_step : List Member → List Frame → ℕ → ℕ → Move
name_step members frames room byte =
    (if is_blank byte then goes (state (wants_name members) frames room) else
    (if byte == 34 then goes (state (in_text (a_key members) no_content) frames room) else stops))

abbrev pub map_step : List Frame → ℕ → ℕ → Move
map_step frames room byte =
    (if is_blank byte then goes (state opened_map frames room) else
    (if byte == 125 then goes (state (has_value (fields no_members)) frames (suc room)) else
    name_step [] frames room byte))

abbrev pub colon_step : List Member → List ℕ → List Frame → ℕ → ℕ → Move
colon_step members name frames room byte =
    (if is_blank byte then goes (state (has_name members name) frames room) else
    (if byte == 58 then goes (state wants_value (in_map members name ∷ frames) room) else stops))

abbrev pub after_step : Datum → List Frame → ℕ → ℕ → Move
after_step value [] room byte = (if is_blank byte then goes (state (has_value value) [] room) else stops)
after_step value (in_list items ∷ frames) room byte =
    (if is_blank byte then goes (state (has_value value) (in_list items ∷ frames) room) else
    (if byte == 44 then goes (state wants_value (in_list (items ++ value ∷ []) ∷ frames) room) else
    (if byte == 93 then goes (state (has_value (list (items_of (items ++ value ∷ [])))) frames (suc room)) else stops)))
after_step value (in_map members name ∷ frames) room byte =
    (if is_blank byte then goes (state (has_value value) (in_map members name ∷ frames) room) else
    (if byte == 44 then goes (state (wants_name (put members name value)) frames room) else
    (if byte == 125 then goes (state (has_value (fields (members_of (put members name value)))) frames (suc room)) else stops)))

abbrev pub word_on : List ℕ → Datum → Phase
word_on [] value = has_value value
word_on (next ∷ rest) value = in_word next rest value

abbrev pub word_step : ℕ → List ℕ → Datum → List Frame → ℕ → ℕ → Move
word_step next rest value frames room byte = (if byte == next then goes (state (word_on rest value) frames room) else stops)

abbrev pub digits_step : Part → List ℕ → List Frame → ℕ → ℕ → Move
digits_step part spelled frames room byte =
    number_step (next_part part byte) (spelled ++ byte ∷ [])
    (if can_end part then after_step (number_of spelled) frames room byte else stops) frames room

abbrev pub text_read : Role → List ℕ → Phase
text_read a_value bytes = has_value (text bytes)
text_read (a_key members) bytes = has_name members bytes

abbrev pub text_step : Role → Content → List Frame → ℕ → ℕ → Move
text_step role content frames room byte =
    (if is_plain byte then goes (state (in_text role (with_piece content (piece.Byte byte))) frames room) else
    (if byte == 34 then goes (state (text_read role (text_so_far content)) frames room) else
    (if byte == 92 then goes (state (in_escape role content) frames room) else stops)))

abbrev pub meant_step : Role → Content → List Frame → ℕ → Option ℕ → Move
meant_step role content frames room None = stops
meant_step role content frames room (Some meant) = goes (state (in_text role (with_piece content (piece.Byte meant))) frames room)

abbrev pub escape_step : Role → Content → List Frame → ℕ → ℕ → Move
escape_step role content frames room byte =
    (if byte == 117 then goes (state (in_unit role content 3 0) frames room) else meant_step role content frames room (escaped byte))

-- so many hexadecimal digits are still to come
abbrev pub unit_phase : Role → Content → ℕ → ℕ → Phase
unit_phase role content zero value = in_text role (with_piece content (piece.Unit value))
unit_phase role content (suc left) value = in_unit role content left value

abbrev pub hex_step : Role → Content → ℕ → ℕ → List Frame → ℕ → Option ℕ → Move
hex_step role content left value frames room None = stops
hex_step role content left value frames room (Some one) = goes (state (unit_phase role content left (value * 16 + one)) frames room)

abbrev pub step_from : Phase → List Frame → ℕ → ℕ → Move
step_from wants_value frames room byte = value_step frames room byte
step_from opened_list frames room byte = list_step frames room byte
step_from opened_map frames room byte = map_step frames room byte
step_from (has_value value) frames room byte = after_step value frames room byte
step_from (wants_name members) frames room byte = name_step members frames room byte
step_from (has_name members name) frames room byte = colon_step members name frames room byte
step_from (in_word next rest value) frames room byte = word_step next rest value frames room byte
step_from (in_number part spelled) frames room byte = digits_step part spelled frames room byte
step_from (in_text role content) frames room byte = text_step role content frames room byte
step_from (in_escape role content) frames room byte = escape_step role content frames room byte
step_from (in_unit role content left value) frames room byte = hex_step role content left value frames room (hex_value byte)

abbrev pub step : State → ℕ → Move
step s byte = step_from s.phase s.frames s.room byte

-- the value, where the text may end here
abbrev pub value_in : Phase → List Frame → Option Datum
value_in wants_value frames = None
value_in opened_list frames = None
value_in opened_map frames = None
value_in (has_value value) [] = Some value
value_in (has_value value) (frame ∷ frames) = None
value_in (wants_name members) frames = None
value_in (has_name members name) frames = None
value_in (in_word next rest value) frames = None
value_in (in_number part spelled) [] = (if can_end part then Some (number_of spelled) else None)
value_in (in_number part spelled) (frame ∷ frames) = None
value_in (in_text role content) frames = None
value_in (in_escape role content) frames = None
value_in (in_unit role content left value) frames = None

abbrev pub value_at : State → Option Datum
value_at s = value_in s.phase s.frames

abbrev pub start : ℕ → State
start levels = state wants_value [] levels

-- what comes of a text: its value, or a fault and its place
pub data Outcome : Type 0 where
  reads : Datum → Outcome
  syntax_at : ℕ → Outcome
  too_deep_at : ℕ → Outcome

abbrev pub ended : ℕ → Option Datum → Outcome
ended at None = syntax_at at
ended at (Some one) = reads one

abbrev pub followed : (State → Outcome) → ℕ → Move → Outcome
followed next at (goes s) = next s
followed next at stops = syntax_at at
followed next at sinks = too_deep_at at

-- what comes of the bytes from a state, the first of them at a place
unfoldable pub outcome : State → List ℕ → ℕ → Outcome
outcome s [] at = ended at (value_at s)
outcome s (byte ∷ bytes) at = followed (λ next. outcome next bytes (at + 1)) at (step s byte)
