-- The lines of texts that share their file, their observed time, their resource and their attributes, but for the
-- number of the record.
use Rattle.std.specs.Prelude.{◌≡◌, ℕ, pos, List, [], ◌∷◌, ◌++◌, Bool, if◌then◌else◌, Option, None, Some, codes, decimal}
use Rattle.entry_model.specs.Datum.{text, int, Members}
use Rattle.entry_model.specs.LogRecord.{LogRecord}
use Rattle.field_paths.specs.Members.{with_member}
use Rattle.otlp_json.specs.Escaped.{escaped}
use Rattle.otlp_json.specs.OutputLine.{output_line}
use Rattle.otlp_json.specs.Scope.{end_text}
use Rattle.otlp_json.specs.declared.template.Template.{Template}

-- ---- what the lines are

-- the attributes, with the record's number under a name where the records have one
abbrev pub numbered : Option (List ℕ) → ℕ → Members → Members
numbered None n members = members
numbered (Some name) n members = with_member name (int (pos n)) members

-- a record that has these attributes and a text, and nothing else
abbrev pub text_record : Members → Members → List ℕ → LogRecord
text_record resource attributes body = record {
  body = text body;
  attributes = attributes;
  resource = resource;
  timestamp = None;
  severity = 0;
  severity_text = [];
}

-- ---- how a template gives them

-- the record's number, where the records have one, and what stands between it and the text
abbrev pub number_text : Bool → List ℕ → ℕ → List ℕ
number_text has_number behind n = if has_number then decimal n ++ behind else []

-- what stands between some members and one behind them
abbrev pub comma_behind : {X : Type 0} → List X → List ℕ
comma_behind [] = []
comma_behind (x ∷ xs) = codes ","

abbrev pub filled : Template → ℕ → ℕ → List ℕ → List ℕ
filled template number n body =
    template.front.items ++ number_text template.numbered template.behind.items n ++ escaped body ++ template.back.items ++ end_text number

-- whatever the line's number, the record's number and the text are, what is filled in gives the line of that record
pub record IsTemplate (id : ℕ) (observed : Option ℕ) (resource attributes : Members) (name : Option (List ℕ)) (template : Template) : Type 0 where
  pub lines : (number n : ℕ) (body : List ℕ) → filled template number n body ≡ output_line id number observed (text_record resource (numbered name n attributes) body)
