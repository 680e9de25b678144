-- How long the lines of the output are that the lines of a script give.
use Rattle.std.proofs.Common.{ℕ, ◌+◌, ◌*◌, ◌-◌, ◌≤◌, ◌==◌, not, List, [], ◌∷◌, ◌++◌, length, map, arith, length-append, length-drop}
use Rattle.std.specs.Prelude.{None, codes, decimal, flat_map}
use Rattle.std.specs.List.{suffix_len}
use Rattle.std.proofs.lemmas.Bool.Decides.{nat_tests}
use Rattle.std.proofs.lemmas.Fmt.{length-decimal-le}
use Rattle.std.proofs.lemmas.List.Elements.{All-head, All-tail}
use Rattle.demo_run.proofs.Given.{entry_of}
use Rattle.demo_run.proofs.Lines.{text_of_round, text_short}
use Rattle.demo_run.proofs.Ruled.{AreRounds, widest}
use Rattle.demo_run.proofs.Said.{script_settings}
use Rattle.entry_model.specs.Datum.{Members, text}
use Rattle.otlp_json.specs.Escaped.{escaped, escaped_byte}
use Rattle.otlp_json.specs.OutputLine.{line_front, line_tail, output_line}
use Rattle.otlp_json.specs.RecordText.{attributes_text, record_text}
use Rattle.otlp_json.specs.ValueText.{key_value_text, value_text}
use Rattle.pipeline.specs.Entries.{base_name, file_attributes}
use Rattle.standing.specs.Limits.{row_limit}
use Rattle.standing.specs.Marks.{Mark, numbered}

byte_short : (byte : ℕ) → length (escaped_byte byte) ≤ 6
unfolding escaped_byte
byte_short byte = grind (arith, nat_tests)

escaped_short : (bytes : List ℕ) → length (escaped bytes) ≤ 6 * length bytes
escaped_short [] = omega arith
escaped_short (byte ∷ bytes) = omega (arith, byte_short byte, escaped_short bytes, length-append (escaped_byte byte) (escaped bytes))

text_value_short : (bytes : List ℕ) → length (value_text (text bytes)) ≤ 6 * length bytes + 40
text_value_short bytes =
    omega (arith, escaped_short bytes, length-append (codes "{\"stringValue\":\"" ++ escaped bytes) (codes "\"}"))

key_value_short : (key value : List ℕ) → length (key_value_text key value) ≤ 6 * length key + length value + 40
key_value_short key value =
    let named : List ℕ = codes "{\"key\":\"" ++ escaped key in
    let before : List ℕ = named ++ codes "\",\"value\":" in
    omega (arith, escaped_short key, length-append (before ++ value) (codes "}"), length-append before value, length-append named (codes "\",\"value\":"))

base_short : (path : List ℕ) → length (base_name path) ≤ length path
base_short path = omega (arith, length-drop (length path - suffix_len (λ byte. not (byte == 47)) path) path)

-- ---- the parts of a line

module _ (path : List ℕ) (short : length path ≤ 16) where
  abbrev attributes : Members
  attributes = file_attributes script_settings path

  attributes_short : length (attributes_text attributes) ≤ 1000
  attributes_short =
      let value : List ℕ = value_text (text (base_name path)) in
      let pair : List ℕ = key_value_text (codes "log.file.name") value in
      omega (
        arith,
        short,
        base_short path,
        text_value_short (base_name path),
        key_value_short (codes "log.file.name") value,
        length-append pair [],
        length-append (codes "[" ++ (pair ++ [])) (codes "]"),
      )

  record_short : (round : ℕ) → round ≤ 1000 → length (record_text None (entry_of path round)) ≤ 2000
  unfolding record_text
  record_short round few =
      let start : List ℕ = codes "{\"attributes\":" ++ attributes_text attributes in
      let body : List ℕ = codes ",\"body\":" ++ value_text (text (text_of_round round)) in
      let whole : List ℕ = start ++ body in
      omega (
        arith,
        attributes_short,
        text_short round few,
        text_value_short (text_of_round round),
        length-append start body,
        length-append whole [],
        length-append (whole ++ []) [],
        length-append ((whole ++ []) ++ []) [],
        length-append (((whole ++ []) ++ []) ++ []) [],
        length-append ((((whole ++ []) ++ []) ++ []) ++ []) (codes "}"),
      )

  front_short : (round : ℕ) → round ≤ 1000 → length (line_front None (entry_of path round)) ≤ 3000
  unfolding line_front
  front_short round few =
      let before : List ℕ = codes "{\"resourceLogs\":[{\"resource\":{\"attributes\":[]},\"scopeLogs\":[{\"logRecords\":[" in
      omega (arith, record_short round few, length-append (before ++ record_text None (entry_of path round)) (codes "],\"scope\":{\"attributes\":[{\"key\":"))

  tail_short : (id number : ℕ) → id ≤ row_limit → number ≤ 2000 → length (line_tail id number) ≤ 1000
  unfolding line_tail
  tail_short id number few few_lines =
      let file : List ℕ = codes "\"agent.file\",\"value\":{\"intValue\":\"" ++ decimal id in
      let named : List ℕ = file ++ codes "\"}},{\"key\":\"agent.line\",\"value\":{\"intValue\":\"" in
      omega (
        arith,
        length-decimal-le 5 id (omega arith) (omega (arith, few)) (omega (arith, few)),
        length-decimal-le 4 number (omega arith) (omega (arith, few_lines)) (omega (arith, few_lines)),
        length-append file (codes "\"}},{\"key\":\"agent.line\",\"value\":{\"intValue\":\""),
        length-append named (decimal number),
        length-append (named ++ decimal number) (codes "\"}}],\"name\":\"stanza_agent\"}}]}]}\n"),
      )

  line_short : (id number round : ℕ) → id ≤ row_limit → number ≤ 2000 → round ≤ 1000 → length (output_line id number None (entry_of path round)) ≤ widest
  unfolding output_line
  line_short id number round few_files few_lines few =
      omega (arith, front_short round few, tail_short id number few_files few_lines, length-append (line_front None (entry_of path round)) (line_tail id number))

  abbrev line_of_mark : Mark → List ℕ
  line_of_mark mark = output_line mark.id mark.number mark.observed mark.entry

  pub output_short : (id : ℕ) → id ≤ row_limit → (rounds : List ℕ) → AreRounds rounds → (number : ℕ) → number + length rounds ≤ 2000
      → length (flat_map line_of_mark (numbered id number None (map (entry_of path) rounds))) ≤ length rounds * widest
  output_short id few [] are number few_lines = omega arith
  output_short id few (round ∷ rounds) are number few_lines =
      let later = output_short id few rounds (All-tail (λ (n : ℕ). n ≤ 1000) round rounds are) (number + 1) (omega (arith, few_lines)) in
      let first = line_short id number round few (omega (arith, few_lines)) (All-head (λ (n : ℕ). n ≤ 1000) round rounds are) in
      omega (arith, first, later, length-append (output_line id number None (entry_of path round)) (flat_map line_of_mark (numbered id (number + 1) None (map (entry_of path) rounds))))
