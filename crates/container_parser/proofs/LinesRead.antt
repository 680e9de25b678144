-- What the lines of containers say, by their grammars and computed.
use Rattle.std.proofs.Common.{◌≡◌, ◌≢◌, ℕ, pos, List, ◌∷◌, ◌++◌, length, take, drop, Bool, true, false, cond, Option, None, Some, Ok, inl, inr, refl, sym, ap, subst, ◌∙◌}
use Rattle.std.specs.Prelude.{nat_lt, codes, option_map, option_and_then}
use Rattle.std.specs.List.{position_or_len, before_first, after_first}
use Rattle.std.specs.Str.{bytes_eq}
use Rattle.std.proofs.lemmas.Bool.{ltb-true, lt-ltb}
use Rattle.std.proofs.lemmas.List.{take-append-drop}
use Rattle.std.proofs.lemmas.Slice.Eq.{bytes_eq-Decides}
use Rattle.container_parser.specs.CriLines.{Content, IsContent, Said, IsSaid, IsCriLine, tagged_partial}
use Rattle.container_parser.specs.DockerLines.{IsDockerRecord, text_at}
use Rattle.container_parser.specs.Lines.{said_by, IsLine, IsLineFault}
use Rattle.container_parser.specs.Times.{IsTime}
use Rattle.container_parser.specs.Words.{is_space}
use Rattle.container_parser.specs.declared.fault.ContainerFault.{ContainerFault}
use Rattle.container_parser.specs.declared.fault.ContainerFault.TheVariants.{Memory}
use Rattle.container_parser.specs.declared.format.Format.{Format}
use Rattle.container_parser.specs.declared.format.Format.TheVariants.{Docker, Crio, Containerd}
use Rattle.container_parser.specs.declared.line.ContainerLine.{ContainerLine}
use Rattle.container_parser.proofs.OneLine.{no_fault}
use Rattle.entry_model.specs.Datum.{Datum, null, boolean, int, text, list, fields, Members}
use Rattle.json_text.proofs.Faults.{syntax_fault, depth_fault, read_text, one_value}
use Rattle.json_text.specs.Grammar.{IsText}
use Rattle.json_text.specs.Machine.{Outcome, reads, syntax_at, too_deep_at, outcome, start}
use Rattle.time_layout.specs.Iso.{rfc3339_parts}
use Rattle.time_layout.specs.Meaning.{Meaning}
use Rattle.time_layout.specs.Parts.{layout_read}
use Rattle.time_severity.proofs.Told.{layout_told, tells}
use Rattle.time_severity.specs.declared.time_op.TimeKind.TheVariants.{Layout}
use Rattle.container_parser.specs.Computed.{instant_in, line_with, tagged, streamed, cri_line, with_log, with_stream, with_instant, docker_record, record_in, of_outcome, docker_line, line_read}
use Rattle.container_parser.specs.Told.{read_as}
use Rattle.container_parser.proofs.Options.{none_some, then_from, map_from}

-- ---- times

instant_is : (word : List ℕ) (instant : ℕ) → IsTime word instant → instant_in word ≡ Some instant
unfolding instant_in
instant_is word instant is = sym (layout_told (layout_read (rfc3339_parts 9) (pos 0) word) (Ok instant) is)

abbrev in_utc : Meaning
in_utc = record { parts = rfc3339_parts 9; location = pos 0 }

is_instant : (word : List ℕ) (instant : ℕ) → instant_in word ≡ Some instant → IsTime word instant
unfolding instant_in
is_instant word instant e = tells (Layout in_utc) (text word) instant e

-- ---- lines of the Container Runtime Interface

abbrev content : Bool → List ℕ → Content
content partial words = record { partial = partial; text = words }

abbrev said : List ℕ → Content → Said
said stream c = record { stream = stream; content = c }

-- what a computed line says behind its time
record Says (stream rest : List ℕ) (instant : ℕ) (line : ContainerLine) : Type 0 where
  timestamp : line.timestamp ≡ instant
  stream_is : line.stream ≡ stream
  content_is : IsContent rest (content line.partial line.text)

tagged_is : (stream rest : List ℕ) (instant : ℕ) (c : Content) → IsContent rest c → tagged stream rest instant ≡ Some (line_with stream c.text c.partial instant)
tagged_is stream rest instant c is =
    ap (option_map (λ (partial : Bool). line_with stream (after_first is_space rest) partial instant)) is.tag
    ∙ ap (λ (t : List ℕ). Some (line_with stream t c.partial instant)) (sym is.text)

is_tagged : (stream rest : List ℕ) (instant : ℕ) (line : ContainerLine) → tagged stream rest instant ≡ Some line → Says stream rest instant line
is_tagged stream rest instant line e =
    let found = map_from (λ (partial : Bool). line_with stream (after_first is_space rest) partial instant) (tagged_partial (before_first is_space rest)) line e in
    subst (Says stream rest instant) found.2 (record { timestamp = refl; stream_is = refl; content_is = record { tag = found.1; text = refl } })

out_streamed : (rest : List ℕ) (instant : ℕ) → streamed (codes "stdout" ++ 32 ∷ rest) instant ≡ tagged (codes "stdout") rest instant
out_streamed rest instant = refl

err_streamed : (rest : List ℕ) (instant : ℕ) → streamed (codes "stderr" ++ 32 ∷ rest) instant ≡ tagged (codes "stderr") rest instant
err_streamed rest instant = refl

streamed_is : (behind : List ℕ) (instant : ℕ) (s : Said) → IsSaid behind s → streamed behind instant ≡ Some (line_with s.stream s.content.text s.content.partial instant)
streamed_is behind instant s is = elim is.stream [
  | inl out ↦ ap (λ (b : List ℕ). streamed b instant) (is.is ∙ ap (λ (n : List ℕ). n ++ 32 ∷ is.rest) out) ∙ out_streamed is.rest instant
      ∙ tagged_is (codes "stdout") is.rest instant s.content is.content ∙ ap (λ (n : List ℕ). Some (line_with n s.content.text s.content.partial instant)) (sym out)
  | inr err ↦ ap (λ (b : List ℕ). streamed b instant) (is.is ∙ ap (λ (n : List ℕ). n ++ 32 ∷ is.rest) err) ∙ err_streamed is.rest instant
      ∙ tagged_is (codes "stderr") is.rest instant s.content is.content ∙ ap (λ (n : List ℕ). Some (line_with n s.content.text s.content.partial instant)) (sym err)
]

record SaysBehind (behind : List ℕ) (instant : ℕ) (line : ContainerLine) : Type 0 where
  timestamp : line.timestamp ≡ instant
  said_is : IsSaid behind (said_by line)

begins_with : (word behind : List ℕ) → bytes_eq (take 7 behind) word ≡ true → behind ≡ word ++ drop 7 behind
begins_with word behind e = sym (take-append-drop 7 behind) ∙ ap (λ (t : List ℕ). t ++ drop 7 behind) ((bytes_eq-Decides (take 7 behind) word).0 e)

is_streamed : (behind : List ℕ) (instant : ℕ) (line : ContainerLine) → streamed behind instant ≡ Some line → SaysBehind behind instant line
is_streamed behind instant line = by (bytes_eq (take 7 behind) (codes "stdout ")) (bytes_eq (take 7 behind) (codes "stderr ")) refl refl
  where
    by : (out err : Bool) → bytes_eq (take 7 behind) (codes "stdout ") ≡ out → bytes_eq (take 7 behind) (codes "stderr ") ≡ err
        → cond out (tagged (codes "stdout") (drop 7 behind) instant) (cond err (tagged (codes "stderr") (drop 7 behind) instant) None) ≡ Some line → SaysBehind behind instant line
    by true err is other e =
        let s = is_tagged (codes "stdout") (drop 7 behind) instant line e in
        let whole : behind ≡ codes "stdout" ++ 32 ∷ drop 7 behind = begins_with (codes "stdout ") behind is in
        record { timestamp = s.timestamp; said_is = record { stream = inl s.stream_is; rest = drop 7 behind; is = whole ∙ ap (λ (n : List ℕ). n ++ 32 ∷ drop 7 behind) (sym s.stream_is); content = s.content_is } }
    by false true is other e =
        let s = is_tagged (codes "stderr") (drop 7 behind) instant line e in
        let whole : behind ≡ codes "stderr" ++ 32 ∷ drop 7 behind = begins_with (codes "stderr ") behind other in
        record { timestamp = s.timestamp; said_is = record { stream = inr s.stream_is; rest = drop 7 behind; is = whole ∙ ap (λ (n : List ℕ). n ++ 32 ∷ drop 7 behind) (sym s.stream_is); content = s.content_is } }
    by false false is other e = absurd (none_some line e)

cri_is : (line : List ℕ) (instant : ℕ) (s : Said) → IsCriLine line instant s → cri_line line ≡ Some (line_with s.stream s.content.text s.content.partial instant)
unfolding cri_line
cri_is line instant s is =
    ap (λ (b : Bool). cond b (option_and_then (streamed (after_first is_space line)) (instant_in (before_first is_space line))) None) (lt-ltb (position_or_len is_space line) (length line) is.goes_on)
    ∙ ap (option_and_then (streamed (after_first is_space line))) (instant_is (before_first is_space line) instant is.time)
    ∙ streamed_is (after_first is_space line) instant s is.behind

is_cri : (line : List ℕ) (made : ContainerLine) → cri_line line ≡ Some made → IsCriLine line made.timestamp (said_by made)
unfolding cri_line
is_cri line made = by (nat_lt (position_or_len is_space line) (length line)) refl
  where
    by : (b : Bool) → nat_lt (position_or_len is_space line) (length line) ≡ b
        → cond b (option_and_then (streamed (after_first is_space line)) (instant_in (before_first is_space line))) None ≡ Some made → IsCriLine line made.timestamp (said_by made)
    by true on e =
        let found = then_from (streamed (after_first is_space line)) (instant_in (before_first is_space line)) made e in
        let s = is_streamed (after_first is_space line) found.0 made found.2 in
        record {
          goes_on = ltb-true (position_or_len is_space line) (length line) on;
          time = is_instant (before_first is_space line) made.timestamp (found.1 ∙ ap (λ (n : ℕ). Some n) (sym s.timestamp));
          behind = s.said_is;
        }
    by false on e = absurd (none_some made e)

-- ---- lines of Docker

record_is : (members : Members) (instant : ℕ) (stream log : List ℕ) → IsDockerRecord members instant stream log → docker_record members ≡ Some (line_with stream log false instant)
record_is members instant stream log is =
    ap (λ (t : Option (List ℕ)). option_and_then (with_instant members) (option_and_then instant_in t)) is.time_is
    ∙ ap (option_and_then (with_instant members)) (instant_is is.time_text instant is.time)
    ∙ ap (option_and_then (with_stream members instant)) is.stream_is
    ∙ ap (option_map (with_log stream instant)) is.log_is

record IsOfRecord (members : Members) (line : ContainerLine) : Type 0 where
  says : IsDockerRecord members line.timestamp line.stream line.text
  whole : line.partial ≡ false

is_record : (members : Members) (line : ContainerLine) → docker_record members ≡ Some line → IsOfRecord members line
is_record members line e =
    let instant = then_from (with_instant members) (option_and_then instant_in (text_at (codes "time") members)) line e in
    let time = then_from instant_in (text_at (codes "time") members) instant.0 instant.1 in
    let stream = then_from (with_stream members instant.0) (text_at (codes "stream") members) line instant.2 in
    let log = map_from (with_log stream.0 instant.0) (text_at (codes "log") members) line stream.2 in
    subst (IsOfRecord members) log.2
    (record { says = record { log_is = log.1; stream_is = stream.1; time_text = time.0; time_is = time.1; time = is_instant time.0 instant.0 time.2 }; whole = refl })

-- a text that spells a value is read as it
outcome_of : (bytes : List ℕ) (value : Datum) → IsText 64 bytes value → outcome (start 64) bytes 0 ≡ reads value
outcome_of bytes value is = by (outcome (start 64) bytes 0) refl
  where
    by : (out : Outcome) → outcome (start 64) bytes 0 ≡ out → out ≡ reads value
    by (reads other) read = ap reads (one_value 64 bytes other value (read_text bytes other read) is)
    by (syntax_at at) read = absurd ((syntax_fault bytes at read).leftmost.none value is)
    by (too_deep_at at) read = absurd ((depth_fault bytes at read).leftmost.none value is)

docker_is : (line : List ℕ) (made : ContainerLine) → IsLine Docker line made → docker_line line ≡ Some made
unfolding docker_line
docker_is line made is =
    ap of_outcome (outcome_of line (fields is.0.members) is.0.object)
    ∙ record_is is.0.members made.timestamp made.stream made.text is.0.record_is
    ∙ ap (λ (b : Bool). Some (line_with made.stream made.text b made.timestamp)) (sym is.1)

of_value : (line : List ℕ) (value : Datum) (made : ContainerLine) → IsText 64 line value → record_in value ≡ Some made → IsLine Docker line made
of_value line null made is e = absurd (none_some made e)
of_value line (boolean b) made is e = absurd (none_some made e)
of_value line (int z) made is e = absurd (none_some made e)
of_value line (text bytes) made is e = absurd (none_some made e)
of_value line (list items) made is e = absurd (none_some made e)
of_value line (fields members) made is e =
    let r = is_record members made e in
    (record { members = members; object = is; record_is = r.says }, r.whole)

is_docker : (line : List ℕ) (made : ContainerLine) → docker_line line ≡ Some made → IsLine Docker line made
unfolding docker_line
is_docker line made = by (outcome (start 64) line 0) refl
  where
    by : (out : Outcome) → outcome (start 64) line 0 ≡ out → of_outcome out ≡ Some made → IsLine Docker line made
    by (reads value) read e = of_value line value made (read_text line value read) e
    by (syntax_at at) read e = absurd (none_some made e)
    by (too_deep_at at) read e = absurd (none_some made e)

-- ---- lines of any format

pub line_is : (format : Format) (line : List ℕ) (made : ContainerLine) → IsLine format line made → line_read format line ≡ Some made
line_is Docker line made is = docker_is line made is
line_is Crio line made is = cri_is line made.timestamp (said_by made) is
line_is Containerd line made is = cri_is line made.timestamp (said_by made) is

pub is_line : (format : Format) (line : List ℕ) (made : ContainerLine) → line_read format line ≡ Some made → IsLine format line made
is_line Docker line made e = is_docker line made e
is_line Crio line made e = is_cri line made e
is_line Containerd line made e = is_cri line made e

abbrev paired : Format → ContainerLine → Format × ContainerLine
paired format read = (format, read)

pub line_is_read : (format : Format) (line : List ℕ) (made : ContainerLine) → IsLine format line made → read_as format line ≡ Some (format, made)
line_is_read format line made is = ap (option_map (paired format)) (line_is format line made is)

pub line_is_none : (format : Format) (line : List ℕ) (fault : ContainerFault) → IsLineFault format line fault → fault ≢ Memory → read_as format line ≡ None
line_is_none format line fault is some = by (line_read format line) refl
  where
    by : (found : Option ContainerLine) → line_read format line ≡ found → option_map (paired format) (line_read format line) ≡ None
    by None e = ap (option_map (paired format)) e
    by (Some made) e = absurd (some (no_fault format line made fault (is_line format line made e) is))
