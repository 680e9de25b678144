-- What a part of the reader does: what comes of the text from a place on, in whatever surroundings, is what comes of it
-- behind what was read.
use Rattle.std.specs.Prelude.{◌≡◌, ℕ, ◌+◌, ◌-◌, ◌<◌, ◌≤◌, true, false, ◌==◌, List, ◌∷◌, length, drop, slice_index, nat_lt, if◌then◌else◌, Option, None, Result, Ok, Err, ⊤}
use Rattle.std.specs.List.{take_while}
use Rattle.entry_model.specs.declared.value.Value.{Value}
use Rattle.entry_model.specs.Datum.{Datum, datum}
use Rattle.json_text.specs.declared.fault.JsonFault.{JsonFault}
use Rattle.json_text.specs.declared.fault.JsonFault.TheVariants.{Syntax, TooDeep, Memory}
use Rattle.json_text.specs.declared.number.Part.{Part}
use Rattle.json_text.specs.Bytes.{is_blank}
use Rattle.json_text.specs.Grammar.{Member}
use Rattle.json_text.specs.Machine.{State, state, Content, Role, wants_value, has_value, wants_name, in_number, in_text, in_escape, text_read, word_on, next_part, Frame, in_map, goes, stops, step, value_at, syntax_at, too_deep_at, outcome}

module _ {Around : Type 0} where
  -- reading goes from the one place to the other
  abbrev pub Leads : List ℕ → ℕ → (Around → State) → ℕ → (Around → State) → Type 0
  Leads text at before next after = (at ≤ next) × (next ≤ length text)
      × ((around : Around) → outcome (before around) (drop at text) at ≡ outcome (after around) (drop next text) next)

  abbrev pub Refuses : List ℕ → ℕ → (Around → State) → JsonFault → Type 0
  Refuses text at before (Syntax place) = (around : Around) → outcome (before around) (drop at text) at ≡ syntax_at place
  Refuses text at before (TooDeep place) = (around : Around) → outcome (before around) (drop at text) at ≡ too_deep_at place
  Refuses text at before Memory = ⊤

  -- to where what was read ends, and with it
  abbrev pub Reads : {T : Type 0} → List ℕ → ℕ → (Around → State) → (Around → T → State) → Result (T × ℕ) JsonFault → Type 0
  Reads text at before after (Ok read) = Leads text at before read.1 (λ around. after around read.0)
  Reads text at before after (Err fault) = Refuses text at before fault

-- what a string is, and what is around it
abbrev pub AroundText : Type 0
AroundText = Role × (List Frame × ℕ)

abbrev pub text_from : Content → AroundText → State
text_from content around = state (in_text around.0 content) around.1.0 around.1.1

abbrev pub text_read_as : AroundText → List ℕ → State
text_read_as around bytes = state (text_read around.0 bytes) around.1.0 around.1.1

abbrev pub value_from : ℕ → List Frame → State
value_from room frames = state wants_value frames room

abbrev pub value_read_as : ℕ → List Frame → Value → State
value_read_as room frames value = state (has_value (datum value)) frames room

-- what is around the digits of a number, or of a word
abbrev pub Around : Type 0
Around = List Frame × ℕ

abbrev pub scalar_from : Around → State
scalar_from around = state wants_value around.0 around.1

abbrev pub word_from : List ℕ → Datum → Around → State
word_from word value around = state (word_on word value) around.0 around.1

abbrev pub number_from : Part → List ℕ → Around → State
number_from part spelled around = state (in_number part spelled) around.0 around.1

abbrev pub behind : Datum → Around → State
behind value around = state (has_value value) around.0 around.1

-- the part that the byte at a place leads to, where one stands there
abbrev pub part_at : Part → List ℕ → ℕ → Option Part
part_at part text at = (if nat_lt at (length text) then next_part part (slice_index text at) else None)

abbrev pub piece_from : Content → AroundText → State
piece_from content around = state (in_escape around.0 content) around.1.0 around.1.1

-- what is around a member: the members before it, and what is around them
abbrev pub AroundMember : Type 0
AroundMember = List Member × List Frame

abbrev pub member_from : ℕ → AroundMember → State
member_from room around = state (wants_name around.0) around.1 room

abbrev pub named_as : ℕ → AroundMember → List ℕ → State
named_as room around name = state wants_value (in_map around.0 name ∷ around.1) room

-- the first place from `at` on where no blank stands
abbrev pub past_blanks : List ℕ → ℕ → ℕ
past_blanks text at = at + length (take_while is_blank (drop at text))

-- a character of ASCII stands before the place
abbrev pub IsBehindAscii : List ℕ → ℕ → Type 0
IsBehindAscii text at = (0 < at) × (slice_index text (at - 1) < 128)

-- a state that blanks leave, that goes on with this byte, and that any other byte stops
pub record Wanting (byte : ℕ) : Type 0 where
  pub before : State
  pub after : State
  pub stays : (other : ℕ) → is_blank other ≡ true → step before other ≡ goes before
  pub goes_on : step before byte ≡ goes after
  pub stops_else : (other : ℕ) → is_blank other ≡ false → (other == byte) ≡ false → step before other ≡ stops
  pub unfinished : value_at before ≡ None
