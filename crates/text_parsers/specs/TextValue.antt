-- What a parser is given: a value, of which it parses the text.
use Rattle.std.specs.Prelude.{ℕ, List, ⊤}
use Rattle.entry_model.specs.Datum.{Datum, null, boolean, int, text, list, fields}
use Rattle.text_parsers.specs.declared.fault.ParseFault.{ParseFault}
use Rattle.text_parsers.specs.declared.fault.ParseFault.TheVariants.{NotText, NoMatch, Syntax, FieldCount, NoDelimiter, Memory}

-- the value is a text of which this holds
abbrev pub IsTextWith : Datum → (List ℕ → Type 0) → Type 0
IsTextWith null P = ⊥
IsTextWith (boolean b) P = ⊥
IsTextWith (int z) P = ⊥
IsTextWith (text bytes) P = P bytes
IsTextWith (list items) P = ⊥
IsTextWith (fields under) P = ⊥

-- the one fault of a value that is no text
abbrev pub IsOfNoText : ParseFault → Type 0
IsOfNoText NotText = ⊤
IsOfNoText NoMatch = ⊥
IsOfNoText (Syntax at) = ⊥
IsOfNoText (FieldCount want got) = ⊥
IsOfNoText (NoDelimiter at) = ⊥
IsOfNoText Memory = ⊤

-- why a value isn't parsed: it is no text, or its text has this fault
abbrev pub IsValueFault : (List ℕ → ParseFault → Type 0) → Datum → ParseFault → Type 0
IsValueFault IsTextFault null fault = IsOfNoText fault
IsValueFault IsTextFault (boolean b) fault = IsOfNoText fault
IsValueFault IsTextFault (int z) fault = IsOfNoText fault
IsValueFault IsTextFault (text bytes) fault = IsTextFault bytes fault
IsValueFault IsTextFault (list items) fault = IsOfNoText fault
IsValueFault IsTextFault (fields under) fault = IsOfNoText fault
