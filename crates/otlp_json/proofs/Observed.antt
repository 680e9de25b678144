-- What opens the observed time stands nowhere else in a line: there a comma and a quote have no `o` behind them.
use Rattle.std.proofs.Common.{◌≡◌, ℕ, ℤ, pos, negsuc, suc, Bool, true, false, not, ◌==◌, ◌&&◌, List, [], ◌∷◌, ◌++◌, ◌∙◌, ◌⊎◌, inl, inr, Option, None, Some, refl, sym, ap, arith, codes, decimal, get_or, drop}
use Rattle.std.proofs.Math.Bool.{and-false, and_assoc}
use Rattle.std.proofs.lemmas.Bool.{and_parts, cases_eq, not-true}
use Rattle.std.proofs.lemmas.Bool.Decides.{nat_tests}
use Rattle.std.proofs.lemmas.List.{append_assoc}
use Rattle.std.specs.List.{list_all}
use Rattle.std.specs.Bool.{if◌then◌else◌}
use Rattle.std.specs.Fmt.{signed_decimal}
use Rattle.entry_model.specs.Datum.{Datum, null, boolean, int, text, list, fields, Items, no_items, item, Members, no_members, member}
use Rattle.entry_model.specs.LogRecord.{LogRecord}
use Rattle.otlp_json.specs.Escaped.{escaped_byte, escaped}
use Rattle.otlp_json.specs.ObservedTime.{HasObservedTime}
use Rattle.otlp_json.specs.OutputLine.{output_line, line_front, line_tail}
use Rattle.otlp_json.specs.RecordText.{attributes_text, body_text, severity_number_text, severity_name_text, observed_opening, observed_text, time_text, record_text}
use Rattle.otlp_json.specs.ValueText.{value_text, items_text, members_text, key_value_text}
use Rattle.otlp_json.proofs.Digits.{decimal_pass}

-- ---- commas and quotes

-- whether the last byte is a comma, and whether the last two are a comma and a quote
abbrev Seen : Type 0
Seen = Bool × Bool

abbrev seen_next : Seen → ℕ → Seen
seen_next seen byte = (byte == 44, (byte == 34) && seen.0)

abbrev seen_after : Seen → List ℕ → Seen
seen_after seen [] = seen
seen_after seen (byte ∷ bytes) = seen_after (seen_next seen byte) bytes

abbrev clear : Seen → List ℕ → Bool
clear seen [] = true
clear seen (byte ∷ bytes) = not ((byte == 111) && seen.1) && clear (seen_next seen byte) bytes

-- no `o` stands behind a comma and a quote, whatever stands before the text
abbrev Clear : List ℕ → Type 0
Clear bytes = (seen : Seen) → clear seen bytes ≡ true

clear_append : (seen : Seen) (a b : List ℕ) → clear seen (a ++ b) ≡ (clear seen a && clear (seen_after seen a) b)
clear_append seen [] b = refl
clear_append seen (x ∷ xs) b =
    let here = not ((x == 111) && seen.1) in
    ap (λ later. here && later) (clear_append (seen_next seen x) xs b) ∙ sym (and_assoc here (clear (seen_next seen x) xs) (clear (seen_after (seen_next seen x) xs) b))

joined : (a b : List ℕ) → Clear a → Clear b → Clear (a ++ b)
joined a b first second seen = clear_append seen a b ∙ rw (first seen, second (seen_after seen a)) refl

between : (a b c : List ℕ) → Clear a → Clear b → Clear c → Clear (a ++ b ++ c)
between a b c first second third = joined (a ++ b) c (joined a b first second) third

-- ---- numbers and strings

abbrev is_other : ℕ → Bool
is_other byte = not (byte == 111)

plain_clear : (bytes : List ℕ) → list_all is_other bytes ≡ true → Clear bytes
plain_clear [] e seen = refl
plain_clear (x ∷ xs) e seen =
    let parts = and_parts (is_other x) (list_all is_other xs) e in
    rw (not-true (x == 111) parts.0) (plain_clear xs parts.1 (seen_next seen x))

number_clear : (n : ℕ) → Clear (decimal n)
number_clear n = plain_clear (decimal n) (decimal_pass is_other (λ d small. grind (arith, nat_tests)) n)

integer_clear : (z : ℤ) → Clear (signed_decimal z)
integer_clear (pos n) = number_clear n
integer_clear (negsuc n) = joined (45 ∷ []) (decimal (suc n)) (λ seen. refl) (number_clear (suc n))

abbrev is_unquoted : ℕ → Bool
is_unquoted byte = not (byte == 34)

unquoted : (bytes : List ℕ) → list_all is_unquoted bytes ≡ true → (comma : Bool) → (clear (comma, false) bytes ≡ true) × ((seen_after (comma, false) bytes).1 ≡ false)
unquoted [] e comma = (refl, refl)
unquoted (x ∷ xs) e comma =
    let parts = and_parts (is_unquoted x) (list_all is_unquoted xs) e in
    let next : seen_next (comma, false) x ≡ (x == 44, false) = rw (not-true (x == 34) parts.0) refl in
    let later = unquoted xs parts.1 (x == 44) in
    (rw (and-false (x == 111)) (ap (λ seen. clear seen xs) next ∙ later.0), ap (λ seen. (seen_after seen xs).1) next ∙ later.1)

byte_unquoted : (byte : ℕ) → (byte ≡ 34 → ⊥) → list_all is_unquoted (escaped_byte byte) ≡ true
unfolding escaped_byte
byte_unquoted byte other = grind (arith, nat_tests)

quote_escaped : escaped_byte 34 ≡ 92 ∷ 34 ∷ []
unfolding escaped_byte
quote_escaped = refl

behind_no_quote : (seen : Seen) (bytes : List ℕ) → seen.1 ≡ false → ((comma : Bool) → clear (comma, false) bytes ≡ true) → clear seen bytes ≡ true
behind_no_quote (comma, false) bytes e each = each comma
behind_no_quote (comma, true) bytes e each = cc

string_clear : (bytes : List ℕ) (comma : Bool) → clear (comma, false) (escaped bytes) ≡ true
string_clear [] comma = refl
string_clear (first ∷ rest) comma = go (string_clear rest) (cases_eq first 34)
  where
    go : ((before : Bool) → clear (before, false) (escaped rest) ≡ true) → (first ≡ 34) ⊎ (first ≡ 34 → ⊥) → clear (comma, false) (escaped_byte first ++ escaped rest) ≡ true
    go later (inl quote) = rw (quote, quote_escaped) (later false)
    go later (inr other) =
        let here = unquoted (escaped_byte first) (byte_unquoted first other) comma in
        clear_append (comma, false) (escaped_byte first) (escaped rest)
        ∙ rw here.0 (behind_no_quote (seen_after (comma, false) (escaped_byte first)) (escaped rest) here.1 later)

-- a string behind a text whose last byte is a quote without a comma ahead of it
opened_string : (opening bytes : List ℕ) → Clear opening → ((seen : Seen) → seen_after seen opening ≡ (false, false)) → Clear (opening ++ escaped bytes)
opened_string opening bytes started ends seen = clear_append seen opening (escaped bytes) ∙ rw (started seen, ends seen) (string_clear bytes false)

-- ---- the parts of a line

mutual
  value_clear : (value : Datum) → Clear (value_text value)
  value_clear null = λ seen. refl
  value_clear (boolean true) = λ seen. refl
  value_clear (boolean false) = λ seen. refl
  value_clear (int z) = between (codes "{\"intValue\":\"") (signed_decimal z) (codes "\"}") (λ seen. refl) (integer_clear z) (λ seen. refl)
  value_clear (text bytes) =
      joined (codes "{\"stringValue\":\"" ++ escaped bytes) (codes "\"}") (opened_string (codes "{\"stringValue\":\"") bytes (λ seen. refl) (λ seen. refl)) (λ seen. refl)
  value_clear (list items) = between (codes "{\"arrayValue\":{\"values\":[") (items_text [] items) (codes "]}}") (λ seen. refl) (items_clear [] items (λ seen. refl)) (λ seen. refl)
  value_clear (fields members) = between (codes "{\"kvlistValue\":{\"values\":[") (members_text [] members) (codes "]}}") (λ seen. refl) (members_clear [] members (λ seen. refl)) (λ seen. refl)

  items_clear : (before : List ℕ) (items : Items) → Clear before → Clear (items_text before items)
  items_clear before no_items started = λ seen. refl
  items_clear before (item first rest) started = between before (value_text first) (items_text (codes ",") rest) started (value_clear first) (items_clear (codes ",") rest (λ seen. refl))

  members_clear : (before : List ℕ) (members : Members) → Clear before → Clear (members_text before members)
  members_clear before no_members started = λ seen. refl
  members_clear before (member key value rest) started =
      let named = codes "{\"key\":\"" ++ escaped key in
      between before (key_value_text key (value_text value)) (members_text (codes ",") rest) started
      (between (named ++ codes "\",\"value\":") (value_text value) (codes "}")
      (joined named (codes "\",\"value\":") (opened_string (codes "{\"key\":\"") key (λ seen. refl) (λ seen. refl)) (λ seen. refl)) (value_clear value) (λ seen. refl))
      (members_clear (codes ",") rest (λ seen. refl))

attributes_clear : (members : Members) → Clear (attributes_text members)
attributes_clear members = between (codes "[") (members_text [] members) (codes "]") (λ seen. refl) (members_clear [] members (λ seen. refl)) (λ seen. refl)

body_clear : (body : Datum) → Clear (body_text body)
body_clear null = λ seen. refl
body_clear (boolean b) = joined (codes ",\"body\":") (value_text (boolean b)) (λ seen. refl) (value_clear (boolean b))
body_clear (int z) = joined (codes ",\"body\":") (value_text (int z)) (λ seen. refl) (value_clear (int z))
body_clear (text bytes) = joined (codes ",\"body\":") (value_text (text bytes)) (λ seen. refl) (value_clear (text bytes))
body_clear (list items) = joined (codes ",\"body\":") (value_text (list items)) (λ seen. refl) (value_clear (list items))
body_clear (fields members) = joined (codes ",\"body\":") (value_text (fields members)) (λ seen. refl) (value_clear (fields members))

severity_clear : (severity : ℕ) → Clear (severity_number_text severity)
severity_clear severity = told (severity == 0)
  where
    told : (b : Bool) → Clear (if b then [] else codes ",\"severityNumber\":" ++ decimal severity)
    told true = λ seen. refl
    told false = joined (codes ",\"severityNumber\":") (decimal severity) (λ seen. refl) (number_clear severity)

name_clear : (name : List ℕ) → Clear (severity_name_text name)
name_clear [] = λ seen. refl
name_clear (first ∷ rest) =
    joined (codes ",\"severityText\":\"" ++ escaped (first ∷ rest)) (codes "\"") (opened_string (codes ",\"severityText\":\"") (first ∷ rest) (λ seen. refl) (λ seen. refl)) (λ seen. refl)

time_clear : (time : Option ℕ) → Clear (time_text time)
time_clear None = λ seen. refl
time_clear (Some n) = between (codes ",\"timeUnixNano\":\"") (decimal n) (codes "\"") (λ seen. refl) (number_clear n) (λ seen. refl)

-- ---- what stands before and behind the observed time

abbrev front_of : LogRecord → List ℕ
front_of entry =
    codes "{\"resourceLogs\":[{\"resource\":{\"attributes\":" ++ attributes_text entry.resource ++ codes "},\"scopeLogs\":[{\"logRecords\":["
    ++ codes "{\"attributes\":" ++ attributes_text entry.attributes ++ body_text entry.body

abbrev back_of : ℕ → ℕ → LogRecord → List ℕ
back_of id number entry =
    severity_number_text entry.severity ++ severity_name_text entry.severity_text ++ time_text entry.timestamp ++ codes "}"
    ++ codes "],\"scope\":{\"attributes\":[{\"key\":" ++ line_tail id number

regrouped : (start resource records opened attributes body observed severity name time over scope tail : List ℕ)
    → (start ++ resource ++ records ++ (opened ++ attributes ++ body ++ observed ++ severity ++ name ++ time ++ over) ++ scope) ++ tail
    ≡ (start ++ resource ++ records ++ opened ++ attributes ++ body) ++ observed ++ (severity ++ name ++ time ++ over ++ scope ++ tail)
regrouped start resource records opened attributes body observed severity name time over scope tail = simp append_assoc

line_parts : (id number : ℕ) (observed : Option ℕ) (entry : LogRecord) → output_line id number observed entry ≡ front_of entry ++ observed_text observed ++ back_of id number entry
unfolding output_line line_front record_text
line_parts id number observed entry =
    regrouped (codes "{\"resourceLogs\":[{\"resource\":{\"attributes\":") (attributes_text entry.resource) (codes "},\"scopeLogs\":[{\"logRecords\":[")
    (codes "{\"attributes\":") (attributes_text entry.attributes) (body_text entry.body) (observed_text observed)
    (severity_number_text entry.severity) (severity_name_text entry.severity_text) (time_text entry.timestamp) (codes "}") (codes "],\"scope\":{\"attributes\":[{\"key\":") (line_tail id number)

front_clear : (entry : LogRecord) → Clear (front_of entry)
front_clear entry =
    let resource = codes "{\"resourceLogs\":[{\"resource\":{\"attributes\":" ++ attributes_text entry.resource in
    let opened = resource ++ codes "},\"scopeLogs\":[{\"logRecords\":[" ++ codes "{\"attributes\":" in
    between opened (attributes_text entry.attributes) (body_text entry.body)
    (between resource (codes "},\"scopeLogs\":[{\"logRecords\":[") (codes "{\"attributes\":")
    (joined (codes "{\"resourceLogs\":[{\"resource\":{\"attributes\":") (attributes_text entry.resource) (λ seen. refl) (attributes_clear entry.resource)) (λ seen. refl) (λ seen. refl))
    (attributes_clear entry.attributes) (body_clear entry.body)

tail_clear : (id number : ℕ) → Clear (line_tail id number)
unfolding line_tail
tail_clear id number =
    let file = codes "\"agent.file\",\"value\":{\"intValue\":\"" ++ decimal id ++ codes "\"}},{\"key\":\"agent.line\",\"value\":{\"intValue\":\"" in
    between file (decimal number) (codes "\"}}],\"name\":\"stanza_agent\"}}]}]}\n")
    (between (codes "\"agent.file\",\"value\":{\"intValue\":\"") (decimal id) (codes "\"}},{\"key\":\"agent.line\",\"value\":{\"intValue\":\"") (λ seen. refl) (number_clear id) (λ seen. refl))
    (number_clear number) (λ seen. refl)

back_clear : (id number : ℕ) (entry : LogRecord) → Clear (back_of id number entry)
back_clear id number entry =
    let graded = severity_number_text entry.severity ++ severity_name_text entry.severity_text in
    let over = graded ++ time_text entry.timestamp ++ codes "}" in
    between over (codes "],\"scope\":{\"attributes\":[{\"key\":") (line_tail id number)
    (between graded (time_text entry.timestamp) (codes "}")
    (joined (severity_number_text entry.severity) (severity_name_text entry.severity_text) (severity_clear entry.severity) (name_clear entry.severity_text)) (time_clear entry.timestamp) (λ seen. refl))
    (λ seen. refl) (tail_clear id number)

-- ---- where the opening stands

found : (before more : List ℕ) (seen : Seen) → clear seen (before ++ 44 ∷ 34 ∷ 111 ∷ more) ≡ false
found [] more seen = refl
found (x ∷ xs) more seen =
    let here = not ((x == 111) && seen.1) in
    ap (λ later. here && later) (found xs more (seen_next seen x)) ∙ and-false here

begins : (first : ℕ) (front rest more : List ℕ) (seen : Seen) → clear seen (first ∷ front ++ 44 ∷ 34 ∷ []) ≡ true → first ∷ front ++ 44 ∷ 34 ∷ 111 ∷ rest ≡ 44 ∷ 34 ∷ 111 ∷ more → ⊥
begins first [] rest more seen p e = let same : 44 ≡ 34 = ap (λ l. get_or l 1 0) e in absurd (omega (arith, same))
begins first (b ∷ []) rest more seen p e = let same : 44 ≡ 111 = ap (λ l. get_or l 2 0) e in absurd (omega (arith, same))
begins first (b ∷ c ∷ front) rest more seen p e =
    let one : first ≡ 44 = ap (λ l. get_or l 0 0) e in
    let two : b ≡ 34 = ap (λ l. get_or l 1 0) e in
    let three : c ≡ 111 = ap (λ l. get_or l 2 0) e in
    let clash : false ≡ true = rw (one, two, three) at p in cc

one_place : (front other rest more : List ℕ) (seen : Seen) → clear seen (front ++ 44 ∷ 34 ∷ []) ≡ true → clear (false, false) rest ≡ true
    → front ++ 44 ∷ 34 ∷ 111 ∷ rest ≡ other ++ 44 ∷ 34 ∷ 111 ∷ more → other ≡ front
one_place [] [] rest more seen p q e = refl
one_place [] (b ∷ other) rest more seen p q e =
    let clash : true ≡ false = sym q ∙ ap (λ l. clear (false, false) (drop 1 l)) e ∙ found other more (false, false) in cc
one_place (a ∷ front) [] rest more seen p q e = absurd (begins a front rest more seen p e)
one_place (a ∷ front) (b ∷ other) rest more seen p q e =
    let same : a ≡ b = ap (λ l. get_or l 0 0) e in
    let later = one_place front other rest more (seen_next seen a) (and_parts (not ((a == 111) && seen.1)) (clear (seen_next seen a) (front ++ 44 ∷ 34 ∷ [])) p).1 q (ap (drop 1) e) in
    rw (same, later) refl

right : (a b c d e : List ℕ) → a ++ (b ++ c ++ d) ++ e ≡ a ++ (b ++ (c ++ (d ++ e)))
right a b c d e = simp append_assoc

left : (a b c d e : List ℕ) → a ++ (b ++ c ++ d) ++ e ≡ a ++ b ++ c ++ d ++ e
left a b c d e = simp append_assoc

pub observed_told : (id number : ℕ) (observed : Option ℕ) (entry : LogRecord) → HasObservedTime observed (output_line id number observed entry)
observed_told id number None entry = λ before after e.
    let none : clear (false, false) (front_of entry ++ [] ++ back_of id number entry) ≡ true =
    between (front_of entry) [] (back_of id number entry) (front_clear entry) (λ seen. refl) (back_clear id number entry) (false, false) in
    let clash : true ≡ false = sym none ∙ ap (clear (false, false)) (sym (line_parts id number None entry) ∙ e ∙ append_assoc before observed_opening after) ∙ found before (drop 3 observed_opening ++ after) (false, false) in
    cc
observed_told id number (Some time) entry = record {
  before = front_of entry;
  after = back_of id number entry;
  stands = line_parts id number (Some time) entry ∙ left (front_of entry) observed_opening (decimal time) (codes "\"") (back_of id number entry);
  only = λ other more e.
      let rest = drop 3 observed_opening ++ (decimal time ++ (codes "\"" ++ back_of id number entry)) in
      let clear_rest : clear (false, false) rest ≡ true =
      joined (drop 3 observed_opening) (decimal time ++ (codes "\"" ++ back_of id number entry)) (λ seen. refl)
      (joined (decimal time) (codes "\"" ++ back_of id number entry) (number_clear time) (joined (codes "\"") (back_of id number entry) (λ seen. refl) (back_clear id number entry))) (false, false) in
      one_place (front_of entry) other rest (drop 3 observed_opening ++ more) (false, false) (joined (front_of entry) (codes ",\"") (front_clear entry) (λ seen. refl) (false, false)) clear_rest
      (sym (right (front_of entry) observed_opening (decimal time) (codes "\"") (back_of id number entry)) ∙ sym (line_parts id number (Some time) entry) ∙ e ∙ append_assoc other observed_opening more);
}
