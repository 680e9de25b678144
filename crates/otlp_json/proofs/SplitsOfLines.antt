-- A line tells the record, its observed time, the file and the number.
use Rattle.std.proofs.Common.{◌≡◌, ℕ, ◌<◌, ◌^◌, List, [], ◌∷◌, ◌++◌, ◌∙◌, Option, refl, sym, ap, codes, decimal, drop}
use Rattle.std.proofs.lemmas.List.{append_assoc, append_cancel_left}
use Rattle.entry_model.specs.Datum.{Datum, Members}
use Rattle.entry_model.specs.LogRecord.{LogRecord}
use Rattle.otlp_json.specs.IsOf64Bits.{IsTime, IsOf64Bits}
use Rattle.otlp_json.specs.OutputLine.{output_line, line_front, line_tail}
use Rattle.otlp_json.specs.RecordText.{attributes_text, record_text}
use Rattle.otlp_json.proofs.Splits.{goes_on, number_splits}
use Rattle.otlp_json.proofs.SplitsOfRecords.{attributes_splits, record_splits}

-- the line from its numbers on
abbrev from_number : ℕ → List ℕ → List ℕ
from_number number x = decimal number ++ (codes "\"}}],\"name\":\"stanza_agent\"}}]}]}\n" ++ x)

abbrev from_id : ℕ → ℕ → List ℕ → List ℕ
from_id id number x = decimal id ++ (codes "\"}},{\"key\":\"agent.line\",\"value\":{\"intValue\":\"" ++ from_number number x)

-- the line from its record on
abbrev from_record : Option ℕ → LogRecord → ℕ → ℕ → List ℕ → List ℕ
from_record observed entry id number x = record_text observed entry ++ (codes "],\"scope\":{\"attributes\":[{\"key\":\"agent.file\",\"value\":{\"intValue\":\"" ++ from_id id number x)

regroup_five : (a b c d e f : List ℕ) → (a ++ b ++ c ++ d ++ e) ++ f ≡ a ++ (b ++ (c ++ (d ++ (e ++ f))))
regroup_five a b c d e f = simp append_assoc

line_regroup : (id number : ℕ) (observed : Option ℕ) (entry : LogRecord) (x : List ℕ) → output_line id number observed entry ++ x
    ≡ codes "{\"resourceLogs\":[{\"resource\":{\"attributes\":" ++ (attributes_text entry.resource ++ (codes "},\"scopeLogs\":[{\"logRecords\":[" ++ from_record observed entry id number x))
unfolding output_line line_front line_tail
line_regroup id number observed entry x =
    let first = codes "{\"resourceLogs\":[{\"resource\":{\"attributes\":" in
    let second = codes "},\"scopeLogs\":[{\"logRecords\":[" in
    let third = codes "],\"scope\":{\"attributes\":[{\"key\":" in
    append_assoc (line_front observed entry) (line_tail id number) x
    ∙ regroup_five first (attributes_text entry.resource) second (record_text observed entry) third (line_tail id number ++ x)
    ∙ ap (λ tail. first ++ (attributes_text entry.resource ++ (second ++ (record_text observed entry ++ (third ++ tail)))))
    (regroup_five (codes "\"agent.file\",\"value\":{\"intValue\":\"") (decimal id) (codes "\"}},{\"key\":\"agent.line\",\"value\":{\"intValue\":\"") (decimal number) (codes "\"}}],\"name\":\"stanza_agent\"}}]}]}\n") x)

-- records with equal parts are equal
abbrev made : Datum → Members → Members → Option ℕ → ℕ → List ℕ → LogRecord
made body attributes resource timestamp severity severity_text = record {
  body = body;
  attributes = attributes;
  resource = resource;
  timestamp = timestamp;
  severity = severity;
  severity_text = severity_text;
}

same_record : (a b : LogRecord) → a.body ≡ b.body → a.attributes ≡ b.attributes → a.resource ≡ b.resource → a.timestamp ≡ b.timestamp → a.severity ≡ b.severity → a.severity_text ≡ b.severity_text → a ≡ b
same_record a b body attributes resource timestamp severity severity_text =
    let same : made a.body a.attributes a.resource a.timestamp a.severity a.severity_text ≡ made b.body b.attributes b.resource b.timestamp b.severity b.severity_text =
    rw (body, attributes, resource, timestamp, severity, severity_text) refl in
    same

pub line_splits : (id number other_id other_number : ℕ) (observed other_observed : Option ℕ) (entry other : LogRecord) (x y : List ℕ)
    → id < 2 ^ 64 → number < 2 ^ 64 → other_id < 2 ^ 64 → other_number < 2 ^ 64 → IsTime observed → IsTime other_observed → IsOf64Bits entry → IsOf64Bits other
    → output_line id number observed entry ++ x ≡ output_line other_id other_number other_observed other ++ y
    → (id ≡ other_id) × (number ≡ other_number) × (observed ≡ other_observed) × (entry ≡ other) × (x ≡ y)
line_splits id number other_id other_number observed other_observed entry other x y i n j m g h p q e =
    let mine = from_record observed entry id number x in
    let yours = from_record other_observed other other_id other_number y in
    let scope = codes "},\"scopeLogs\":[{\"logRecords\":[" in
    let inner = append_cancel_left (codes "{\"resourceLogs\":[{\"resource\":{\"attributes\":") (attributes_text entry.resource ++ (scope ++ mine)) (attributes_text other.resource ++ (scope ++ yours))
    (sym (line_regroup id number observed entry x) ∙ e ∙ line_regroup other_id other_number other_observed other y) in
    let resource = attributes_splits entry.resource other.resource (scope ++ mine) (scope ++ yours) p.resource q.resource inner in
    let file = codes "],\"scope\":{\"attributes\":[{\"key\":\"agent.file\",\"value\":{\"intValue\":\"" in
    let records = record_splits observed other_observed entry other (file ++ from_id id number x) (file ++ from_id other_id other_number y) g h p q (append_cancel_left scope mine yours resource.1) in
    let line = codes "}},{\"key\":\"agent.line\",\"value\":{\"intValue\":\"" in
    let ids = number_splits id other_id (34 ∷ (line ++ from_number number x)) (34 ∷ (line ++ from_number other_number y)) i j (goes_on 34 _ refl) (goes_on 34 _ refl)
    (append_cancel_left file (from_id id number x) (from_id other_id other_number y) records.rest) in
    let end = codes "}}],\"name\":\"stanza_agent\"}}]}]}\n" in
    let numbers = number_splits number other_number (34 ∷ (end ++ x)) (34 ∷ (end ++ y)) n m (goes_on 34 _ refl) (goes_on 34 _ refl)
    (append_cancel_left line (from_number number x) (from_number other_number y) (ap (drop 1) ids.1)) in (
      ids.0,
      numbers.0,
      records.observed,
      same_record entry other records.body records.attributes resource.0 records.timestamp records.severity records.severity_text,
      append_cancel_left end x y (ap (drop 1) numbers.1),
    )

pub line_tells : (id number other_id other_number : ℕ) (observed other_observed : Option ℕ) (entry other : LogRecord)
    → id < 2 ^ 64 → number < 2 ^ 64 → other_id < 2 ^ 64 → other_number < 2 ^ 64 → IsTime observed → IsTime other_observed → IsOf64Bits entry → IsOf64Bits other
    → output_line id number observed entry ≡ output_line other_id other_number other_observed other
    → (id ≡ other_id) × (number ≡ other_number) × (observed ≡ other_observed) × (entry ≡ other)
line_tells id number other_id other_number observed other_observed entry other i n j m g h p q e =
    let same = line_splits id number other_id other_number observed other_observed entry other [] [] i n j m g h p q (ap (λ line. line ++ []) e) in
    (same.0, same.1, same.2, same.3)
