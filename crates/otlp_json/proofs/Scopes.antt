-- A line is the text of its entry, what the lines of its file share, and its number.
use Rattle.std.proofs.Common.{◌≡◌, ℕ, List, ◌++◌, ◌∙◌, Option, ap, codes, decimal}
use Rattle.std.proofs.lemmas.List.{append_assoc}
use Rattle.entry_model.specs.LogRecord.{LogRecord}
use Rattle.otlp_json.specs.OutputLine.{output_line, line_front, line_tail}
use Rattle.otlp_json.specs.RecordText.{attributes_text, body_text, severity_number_text, severity_name_text, observed_text, time_text, record_text}
use Rattle.otlp_json.specs.Scope.{record_members, entry_text, scope_text, end_text}

joined : (start resource records opened attributes body observed severity name time over scope file id line number last : List ℕ)
    → start ++ resource ++ (records ++ opened) ++ (attributes ++ body ++ observed ++ severity ++ name ++ time) ++ ((over ++ (scope ++ file)) ++ id ++ line) ++ (number ++ last)
    ≡ (start ++ resource ++ records ++ (opened ++ attributes ++ body ++ observed ++ severity ++ name ++ time ++ over) ++ scope) ++ (file ++ id ++ line ++ number ++ last)
joined start resource records opened attributes body observed severity name time over scope file id line number last = simp append_assoc

line_in_parts : (id number : ℕ) (observed : Option ℕ) (entry : LogRecord) → entry_text observed entry ++ scope_text id ++ end_text number ≡ output_line id number observed entry
unfolding output_line line_front line_tail record_text entry_text record_members scope_text
line_in_parts id number observed entry =
    joined (codes "{\"resourceLogs\":[{\"resource\":{\"attributes\":") (attributes_text entry.resource) (codes "},\"scopeLogs\":[{\"logRecords\":[")
    (codes "{\"attributes\":") (attributes_text entry.attributes) (body_text entry.body) (observed_text observed) (severity_number_text entry.severity) (severity_name_text entry.severity_text) (time_text entry.timestamp) (codes "}")
    (codes "],\"scope\":{\"attributes\":[{\"key\":") (codes "\"agent.file\",\"value\":{\"intValue\":\"") (decimal id) (codes "\"}},{\"key\":\"agent.line\",\"value\":{\"intValue\":\"") (decimal number) (codes "\"}}],\"name\":\"stanza_agent\"}}]}]}\n")

behind : (start first second third : List ℕ) → start ++ first ++ second ++ third ≡ start ++ (first ++ second ++ third)
behind start first second third = simp append_assoc

-- the parts of a line behind what was there
pub line_appended : (start : List ℕ) (id number : ℕ) (observed : Option ℕ) (entry : LogRecord)
    → start ++ entry_text observed entry ++ scope_text id ++ end_text number ≡ start ++ output_line id number observed entry
line_appended start id number observed entry =
    behind start (entry_text observed entry) (scope_text id) (end_text number) ∙ ap (λ text. start ++ text) (line_in_parts id number observed entry)
