-- Texts that are one JSON object.
use Rattle.std.specs.Prelude.{◌≡◌, ℕ, false, List, ◌⊎◌, ⊤}
use Rattle.entry_model.specs.Datum.{Datum, fields, Members, is_map_datum}
use Rattle.json_text.specs.Fault.{IsFault}
use Rattle.json_text.specs.Grammar.{IsText}
use Rattle.json_text.specs.declared.fault.JsonFault.{JsonFault}
use Rattle.json_text.specs.declared.fault.JsonFault.TheVariants as json
use Rattle.text_parsers.specs.declared.fault.ParseFault.{ParseFault}
use Rattle.text_parsers.specs.declared.fault.ParseFault.TheVariants.{NotText, NoMatch, Syntax, FieldCount, NoDelimiter, Memory}

-- the text is an object of these members, nested at most 64 deep
abbrev pub IsObjectText : Members → List ℕ → Type 0
IsObjectText members text = IsText 64 text (fields members)

-- the text is a JSON value that is no object
abbrev pub IsOtherValue : List ℕ → Type 0
IsOtherValue text = (value : Datum) × IsText 64 text value × (is_map_datum value ≡ false)

-- the text is no JSON from this place on, or nested too deep there; or it is JSON, but no object
abbrev pub IsObjectFault : List ℕ → ParseFault → Type 0
IsObjectFault text NotText = ⊥
IsObjectFault text NoMatch = ⊥
IsObjectFault text (Syntax at) = IsFault text (json.Syntax at) ⊎ (IsFault text (json.TooDeep at) ⊎ ((at ≡ 0) × IsOtherValue text))
IsObjectFault text (FieldCount want got) = ⊥
IsObjectFault text (NoDelimiter at) = ⊥
IsObjectFault text Memory = ⊤

-- what is told of a text that is no JSON
abbrev pub IsToldOfJson : JsonFault → ParseFault → Type 0
IsToldOfJson (json.Syntax at) fault = fault ≡ Syntax at
IsToldOfJson (json.TooDeep at) fault = fault ≡ Syntax at
IsToldOfJson json.Memory fault = fault ≡ Memory
