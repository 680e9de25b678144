-- No LF in what stands before the end of a line.
use Rattle.std.proofs.Common.{◌≡◌, ◌≢◌, ℕ, ℤ, pos, negsuc, zero, suc, Bool, true, false, not, ◌==◌, ◌&&◌, List, [], ◌∷◌, ◌++◌, ◌∙◌, Option, None, Some, refl, sym, ap, arith, codes, decimal, All}
use Rattle.std.proofs.lemmas.Bool.Decides.{nat_tests}
use Rattle.std.proofs.lemmas.List.{append_assoc}
use Rattle.std.proofs.lemmas.List.Folds.{list_all-append}
use Rattle.std.specs.List.{list_all}
use Rattle.std.specs.Bool.{if◌then◌else◌}
use Rattle.std.specs.Fmt.{signed_decimal}
use Rattle.entry_model.specs.Datum.{Datum, null, boolean, int, text, list, fields, Items, no_items, item, Members, no_members, member}
use Rattle.entry_model.specs.LogRecord.{LogRecord}
use Rattle.otlp_json.specs.Escaped.{escaped_byte, escaped}
use Rattle.otlp_json.specs.IsOneLine.{IsOneLine}
use Rattle.otlp_json.specs.OutputLine.{output_line, line_front, line_tail}
use Rattle.otlp_json.specs.RecordText.{attributes_text, body_text, severity_number_text, severity_name_text, nanoseconds_text, observed_text, time_text, record_text}
use Rattle.otlp_json.specs.ValueText.{value_text, items_text, members_text, key_value_text}
use Rattle.otlp_json.proofs.Digits.{decimal_pass}

abbrev pub is_inside : ℕ → Bool
is_inside byte = not (byte == 10)

abbrev pub NoLf : List ℕ → Type 0
NoLf bytes = list_all is_inside bytes ≡ true

pub joined : (a b : List ℕ) → NoLf a → NoLf b → NoLf (a ++ b)
joined a b first second = list_all-append is_inside a b ∙ rw (first, second) refl

pub between : (a b c : List ℕ) → NoLf a → NoLf b → NoLf c → NoLf (a ++ b ++ c)
between a b c first second third = joined (a ++ b) c (joined a b first second) third

number_inside : (n : ℕ) → NoLf (decimal n)
number_inside n = decimal_pass is_inside (λ d small. grind (arith, nat_tests)) n

integer_inside : (z : ℤ) → NoLf (signed_decimal z)
integer_inside (pos n) = number_inside n
integer_inside (negsuc n) = number_inside (suc n)

byte_inside : (byte : ℕ) → NoLf (escaped_byte byte)
unfolding escaped_byte
byte_inside byte = grind (arith, nat_tests)

string_inside : (bytes : List ℕ) → NoLf (escaped bytes)
string_inside [] = refl
string_inside (first ∷ rest) = joined (escaped_byte first) (escaped rest) (byte_inside first) (string_inside rest)

mutual
  value_inside : (value : Datum) → NoLf (value_text value)
  value_inside null = refl
  value_inside (boolean true) = refl
  value_inside (boolean false) = refl
  value_inside (int z) = between (codes "{\"intValue\":\"") (signed_decimal z) (codes "\"}") refl (integer_inside z) refl
  value_inside (text bytes) = between (codes "{\"stringValue\":\"") (escaped bytes) (codes "\"}") refl (string_inside bytes) refl
  value_inside (list items) = between (codes "{\"arrayValue\":{\"values\":[") (items_text [] items) (codes "]}}") refl (items_inside [] items refl) refl
  value_inside (fields members) = between (codes "{\"kvlistValue\":{\"values\":[") (members_text [] members) (codes "]}}") refl (members_inside [] members refl) refl

  items_inside : (before : List ℕ) (items : Items) → NoLf before → NoLf (items_text before items)
  items_inside before no_items clear = refl
  items_inside before (item first rest) clear = between before (value_text first) (items_text (codes ",") rest) clear (value_inside first) (items_inside (codes ",") rest refl)

  members_inside : (before : List ℕ) (members : Members) → NoLf before → NoLf (members_text before members)
  members_inside before no_members clear = refl
  members_inside before (member key value rest) clear =
      between before (key_value_text key (value_text value)) (members_text (codes ",") rest) clear
      (joined (codes "{\"key\":\"" ++ escaped key ++ codes "\",\"value\":" ++ value_text value) (codes "}")
      (joined (codes "{\"key\":\"" ++ escaped key ++ codes "\",\"value\":") (value_text value) (between (codes "{\"key\":\"") (escaped key) (codes "\",\"value\":") refl (string_inside key) refl) (value_inside value)) refl)
      (members_inside (codes ",") rest refl)

attributes_inside : (members : Members) → NoLf (attributes_text members)
attributes_inside members = between (codes "[") (members_text [] members) (codes "]") refl (members_inside [] members refl) refl

body_inside : (body : Datum) → NoLf (body_text body)
body_inside null = refl
body_inside (boolean b) = joined (codes ",\"body\":") (value_text (boolean b)) refl (value_inside (boolean b))
body_inside (int z) = joined (codes ",\"body\":") (value_text (int z)) refl (value_inside (int z))
body_inside (text bytes) = joined (codes ",\"body\":") (value_text (text bytes)) refl (value_inside (text bytes))
body_inside (list items) = joined (codes ",\"body\":") (value_text (list items)) refl (value_inside (list items))
body_inside (fields members) = joined (codes ",\"body\":") (value_text (fields members)) refl (value_inside (fields members))

severity_inside : (severity : ℕ) → NoLf (severity_number_text severity)
severity_inside severity = told (severity == 0)
  where
    told : (b : Bool) → NoLf (if b then [] else codes ",\"severityNumber\":" ++ decimal severity)
    told true = refl
    told false = joined (codes ",\"severityNumber\":") (decimal severity) refl (number_inside severity)

name_inside : (name : List ℕ) → NoLf (severity_name_text name)
name_inside [] = refl
name_inside (first ∷ rest) = between (codes ",\"severityText\":\"") (escaped (first ∷ rest)) (codes "\"") refl (string_inside (first ∷ rest)) refl

time_inside : (opening : List ℕ) (time : Option ℕ) → NoLf opening → NoLf (nanoseconds_text opening time)
time_inside opening None clear = refl
time_inside opening (Some n) clear = between opening (decimal n) (codes "\"") clear (number_inside n) refl

record_inside : (observed : Option ℕ) (entry : LogRecord) → NoLf (record_text observed entry)
unfolding record_text
record_inside observed entry =
    let start = codes "{\"attributes\":" ++ attributes_text entry.attributes in
    let with_body = start ++ body_text entry.body in
    let with_observed = with_body ++ observed_text observed in
    let with_severity = with_observed ++ severity_number_text entry.severity in
    let with_name = with_severity ++ severity_name_text entry.severity_text in
    let started : NoLf start = joined (codes "{\"attributes\":") (attributes_text entry.attributes) refl (attributes_inside entry.attributes) in
    let bodied : NoLf with_body = joined start (body_text entry.body) started (body_inside entry.body) in
    let timed : NoLf with_observed = joined with_body (observed_text observed) bodied (time_inside (codes ",\"observedTimeUnixNano\":\"") observed refl) in
    let graded : NoLf with_severity = joined with_observed (severity_number_text entry.severity) timed (severity_inside entry.severity) in
    let named : NoLf with_name = joined with_severity (severity_name_text entry.severity_text) graded (name_inside entry.severity_text) in
    between with_name (time_text entry.timestamp) (codes "}") named (time_inside (codes ",\"timeUnixNano\":\"") entry.timestamp refl) refl

front_inside : (observed : Option ℕ) (entry : LogRecord) → NoLf (line_front observed entry)
unfolding line_front
front_inside observed entry =
    let resource = codes "{\"resourceLogs\":[{\"resource\":{\"attributes\":" ++ attributes_text entry.resource ++ codes "},\"scopeLogs\":[{\"logRecords\":[" in
    let clear : NoLf resource = between (codes "{\"resourceLogs\":[{\"resource\":{\"attributes\":") (attributes_text entry.resource) (codes "},\"scopeLogs\":[{\"logRecords\":[") refl (attributes_inside entry.resource) refl in
    between resource (record_text observed entry) (codes "],\"scope\":{\"attributes\":[{\"key\":") clear (record_inside observed entry) refl

rest : (a b : Bool) → (a && b) ≡ true → b ≡ true
rest true b e = e
rest false b e = cc

-- a text without LF has an LF nowhere
nowhere : (bytes : List ℕ) → NoLf bytes → All (λ byte. byte ≢ 10) bytes
nowhere [] clear k d within = absurd (omega arith)
nowhere (x ∷ xs) clear zero d within = λ is_lf. let clash : (is_inside 10 && list_all is_inside xs) ≡ true = rw is_lf at clear in cc
nowhere (x ∷ xs) clear (suc k) d within = nowhere xs (rest (is_inside x) (list_all is_inside xs) clear) k d (omega arith)

-- the tail without its LF
abbrev tail_content : ℕ → ℕ → List ℕ
tail_content id number =
    codes "\"agent.file\",\"value\":{\"intValue\":\"" ++ decimal id
    ++ codes "\"}},{\"key\":\"agent.line\",\"value\":{\"intValue\":\"" ++ decimal number
    ++ codes "\"}}],\"name\":\"stanza_agent\"}}]}]}"

tail_inside : (id number : ℕ) → NoLf (tail_content id number)
tail_inside id number =
    let file = codes "\"agent.file\",\"value\":{\"intValue\":\"" ++ decimal id ++ codes "\"}},{\"key\":\"agent.line\",\"value\":{\"intValue\":\"" in
    let clear : NoLf file = between (codes "\"agent.file\",\"value\":{\"intValue\":\"") (decimal id) (codes "\"}},{\"key\":\"agent.line\",\"value\":{\"intValue\":\"") refl (number_inside id) refl in
    between file (decimal number) (codes "\"}}],\"name\":\"stanza_agent\"}}]}]}") clear (number_inside number) refl

tail_ends : (id number : ℕ) → line_tail id number ≡ tail_content id number ++ 10 ∷ []
unfolding line_tail
tail_ends id number = simp append_assoc

pub tail_one_line : (id number : ℕ) → IsOneLine (line_tail id number)
tail_one_line id number = record { content = tail_content id number; ends = tail_ends id number; no_other = nowhere (tail_content id number) (tail_inside id number) }

pub one_line : (id number : ℕ) (observed : Option ℕ) (entry : LogRecord) → IsOneLine (output_line id number observed entry)
unfolding output_line
one_line id number observed entry = record {
  content = line_front observed entry ++ tail_content id number;
  ends = ap (λ tail. line_front observed entry ++ tail) (tail_ends id number) ∙ sym (append_assoc (line_front observed entry) (tail_content id number) (10 ∷ []));
  no_other = nowhere (line_front observed entry ++ tail_content id number) (joined (line_front observed entry) (tail_content id number) (front_inside observed entry) (tail_inside id number));
}
