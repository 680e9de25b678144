-- A stream that is taken in pieces gives the lines of all its bytes.
use Rattle.std.proofs.Common.{◌≡◌, ℕ, ◌+◌, ◌≤◌, List, [], ◌∷◌, ◌++◌, length, drop, sym, ap, subst, ◌∙◌, arith, append_assoc}
use Rattle.std.proofs.lemmas.List.{append-nil, map-append, drop_all, drop-append-le, drop-drop}
use Rattle.std.proofs.lemmas.List.Sums.{sum_by-append}
use Rattle.std.specs.Prelude.{Option}
use Rattle.entry_model.specs.LogRecord.{LogRecord}
use Rattle.graph_core.specs.Traces.{closings, outputs, start_states}
use Rattle.idle_flush.specs.Rests.{rest_cuts}
use Rattle.line_splitter.specs.Cuts.{Cut, CutsUpTo, cuts, texts, used_by}
use Rattle.op_kinds.specs.Kept.{Kept}
use Rattle.otlp_json.specs.OutputLine.{output_line}
use Rattle.otlp_json.specs.OutputLines.{output_lines}
use Rattle.pipeline.specs.Closed.{Finished, last_tokens}
use Rattle.pipeline.specs.Fed.{GoesOn}
use Rattle.pipeline.specs.GraphOutput.{given_from, kept_from, StandsFor}
use Rattle.pipeline.specs.Parts.{settings_of, network}
use Rattle.pipeline.specs.Tokens.{first_cut_of, tokens_of, used_of}
use Rattle.pipeline.specs.declared.Pipeline.{Pipeline}
use Rattle.pipeline.specs.declared.state.FileState.{FileState}
use Rattle.standing.specs.Marks.{Mark, numbered}
use Rattle.standing.proofs.MarkLemmas.{numbered-append}
use Rattle.file_pass.specs.Full.{lines_text}
use Rattle.stream_lines.specs.Inner.HasTaken.{HasTaken}
use Rattle.stream_lines.specs.StreamLines.{given_for, held_back, open_lines, open_records, stream_origin, stream_path, whole_lines}
use Rattle.stream_lines.specs.declared.stream.Stream.{Stream}

-- the laws of lines in a row, of cuts, and of tokens behind tokens, as the crates that make them state them
pub record LineLaws : Type 0 where
  pub none : (id number : ℕ) (observed : Option ℕ) → output_lines id number observed [] ≡ []
  pub more : (id number : ℕ) (observed : Option ℕ) (first : LogRecord) (rest : List LogRecord)
      → output_lines id number observed (first ∷ rest) ≡ output_line id number observed first ++ output_lines id (number + 1) observed rest
  pub append : (id number : ℕ) (observed : Option ℕ) (front back : List LogRecord)
      → output_lines id number observed (front ++ back) ≡ output_lines id number observed front ++ output_lines id (number + length front) observed back

pub record CutLaws (first : List ℕ → Option Cut) : Type 0 where
  pub go_on : (b : List ℕ) (taken behind : List Cut) → cuts first b ≡ taken ++ behind → cuts first (drop (used_by taken) b) ≡ behind
  pub all : (b : List ℕ) → CutsUpTo first b (used_by (cuts first b)) (cuts first b)
  pub within : (b : List ℕ) (n : ℕ) (taken : List Cut) → CutsUpTo first b n taken → n ≤ length b
  pub lasting : (b more : List ℕ) (n : ℕ) (taken : List Cut) → CutsUpTo first b n taken → CutsUpTo first (b ++ more) n taken

pub record OutputLaws (pipeline : Pipeline) : Type 0 where
  pub none : (path : List ℕ) (before : ℕ) (states : List Kept) → kept_from (settings_of pipeline) (network pipeline) path before states [] ≡ states
  pub nothing : (path : List ℕ) (before : ℕ) (states : List Kept) → given_from (settings_of pipeline) (network pipeline) path before states [] ≡ []
  pub kept : (path : List ℕ) (before : ℕ) (states : List Kept) (earlier later : List (List ℕ))
      → kept_from (settings_of pipeline) (network pipeline) path before states (earlier ++ later)
      ≡ kept_from (settings_of pipeline) (network pipeline) path (before + length earlier) (kept_from (settings_of pipeline) (network pipeline) path before states earlier) later
  pub given : (path : List ℕ) (before : ℕ) (states : List Kept) (earlier later : List (List ℕ))
      → given_from (settings_of pipeline) (network pipeline) path before states (earlier ++ later)
      ≡ given_from (settings_of pipeline) (network pipeline) path before states earlier
      ++ given_from (settings_of pipeline) (network pipeline) path (before + length earlier) (kept_from (settings_of pipeline) (network pipeline) path before states earlier) later

-- lines of records, as text and as marks
pub lines_are : LineLaws → (observed : Option ℕ) (id n : ℕ) (records : List LogRecord) → output_lines id n observed records ≡ lines_text (numbered id n observed records)
lines_are laws observed id n [] = laws.none id n observed
lines_are laws observed id n (first ∷ rest) = laws.more id n observed first rest ∙ ap (λ (l : List ℕ). output_line id n observed first ++ l) (lines_are laws observed id (n + 1) rest)

-- the lines of records and of more
pub numbered_on : (observed : Option ℕ) (front back : List LogRecord) → numbered 1 1 observed (front ++ back) ≡ numbered 1 1 observed front ++ numbered 1 (length front + 1) observed back
numbered_on observed front back =
    let place : 1 + length front ≡ length front + 1 = omega arith in
    numbered-append 1 1 observed front back ∙ ap (λ (n : ℕ). numbered 1 1 observed front ++ numbered 1 n observed back) place

module _ (pipeline : Pipeline) (laws : CutLaws (first_cut_of (settings_of pipeline))) where
  abbrev first : List ℕ → Option Cut
  first = first_cut_of (settings_of pipeline)

  -- what no token used
  abbrev pub unused : List ℕ → List ℕ
  unused given = drop (used_of (settings_of pipeline) given) given

  used_within : (given : List ℕ) → used_of (settings_of pipeline) given ≤ length given
  used_within given = laws.within given (used_of (settings_of pipeline) given) (cuts first given) (laws.all given)

  pub used_few : (bytes : List ℕ) → used_of (settings_of pipeline) bytes ≤ length bytes
  used_few = used_within

  behind_is : (given piece : List ℕ) → drop (used_of (settings_of pipeline) given) (given ++ piece) ≡ unused given ++ piece
  behind_is given piece = drop-append-le (used_of (settings_of pipeline) given) given piece (used_within given)

  cuts_on : (given piece : List ℕ) → cuts first (given ++ piece) ≡ cuts first given ++ cuts first (unused given ++ piece)
  cuts_on given piece =
      let last = laws.lasting given piece (used_of (settings_of pipeline) given) (cuts first given) (laws.all given) in
      let goes : cuts first (drop (used_of (settings_of pipeline) given) (given ++ piece)) ≡ last.behind = laws.go_on (given ++ piece) (cuts first given) last.behind last.split in
      last.split ∙ ap (λ (cs : List Cut). cuts first given ++ cs) (sym goes ∙ ap (cuts first) (behind_is given piece))

  pub tokens_on : (given piece : List ℕ) → tokens_of (settings_of pipeline) (given ++ piece) ≡ tokens_of (settings_of pipeline) given ++ tokens_of (settings_of pipeline) (unused given ++ piece)
  tokens_on given piece = ap texts (cuts_on given piece) ∙ map-append (λ (c : Cut). c.text) (cuts first given) (cuts first (unused given ++ piece))

  pub unused_on : (given piece : List ℕ) → unused (given ++ piece) ≡ unused (unused given ++ piece)
  unused_on given piece =
      let used_on : used_of (settings_of pipeline) (given ++ piece) ≡ used_of (settings_of pipeline) given + used_of (settings_of pipeline) (unused given ++ piece) =
      ap used_by (cuts_on given piece) ∙ sum_by-append (λ (c : Cut). c.used) (cuts first given) (cuts first (unused given ++ piece)) in
      ap (λ (n : ℕ). drop n (given ++ piece)) used_on
      ∙ sym (drop-drop (used_of (settings_of pipeline) (unused given ++ piece)) (used_of (settings_of pipeline) given) (given ++ piece))
      ∙ ap (drop (used_of (settings_of pipeline) (unused given ++ piece))) (behind_is given piece)

  -- no token comes of what no token used
  idle : (given : List ℕ) → cuts first (unused given) ≡ []
  idle given = laws.go_on given (cuts first given) [] (sym (append-nil (cuts first given)))

  pub last_on : (given : List ℕ) → last_tokens (settings_of pipeline) given ≡ tokens_of (settings_of pipeline) given ++ last_tokens (settings_of pipeline) (unused given)
  last_on given =
      let max : ℕ = (settings_of pipeline).max_log_size in
      ap (λ (ts : List (List ℕ)). tokens_of (settings_of pipeline) given ++ ts)
      (sym (ap (λ (cs : List Cut). texts cs ++ texts (rest_cuts max (drop (used_by cs) (unused given)))) (idle given)))

  pub nothing_taken : cuts first [] ≡ []
  nothing_taken = sym (ap (cuts first) (drop_all (used_of (settings_of pipeline) []) [] (omega arith))) ∙ idle []

module _ (pipeline : Pipeline) (laws : CutLaws (first_cut_of (settings_of pipeline))) (out : OutputLaws pipeline) (observed : Option ℕ) where
  abbrev starts : List Kept
  starts = start_states (network pipeline)

  abbrev tokens : List ℕ → List (List ℕ)
  tokens given = tokens_of (settings_of pipeline) given

  -- what the operators keep once the tokens of these bytes were taken
  abbrev kept_then : List ℕ → List Kept
  kept_then given = kept_from (settings_of pipeline) (network pipeline) stream_path 0 starts (tokens given)

  -- the lines of what comes out behind those of the bytes before
  pub open_on : (given piece : List ℕ) (made : List LogRecord)
      → given_for pipeline (tokens given ++ tokens (unused pipeline laws given ++ piece)) ≡ open_records pipeline given ++ made
      → open_lines pipeline observed (given ++ piece) ≡ open_lines pipeline observed given ++ numbered 1 (length (open_records pipeline given) + 1) observed made
  open_on given piece made past =
      ap (numbered 1 1 observed) (ap (given_for pipeline) (tokens_on pipeline laws given piece) ∙ past) ∙ numbered_on observed (open_records pipeline given) made

  pub open_grows : (given piece : List ℕ) → (more : List Mark) × (open_lines pipeline observed (given ++ piece) ≡ open_lines pipeline observed given ++ more)
  open_grows given piece =
      let made : List LogRecord = given_from (settings_of pipeline) (network pipeline) stream_path (0 + length (tokens given)) (kept_then given) (tokens (unused pipeline laws given ++ piece)) in
      (numbered 1 (length (open_records pipeline given) + 1) observed made, open_on given piece made (out.given stream_path 0 starts (tokens given) (tokens (unused pipeline laws given ++ piece))))

  -- what comes out of the last tokens, and what is held back till then
  abbrev last_made : List ℕ → List LogRecord
  last_made given = given_from (settings_of pipeline) (network pipeline) stream_path (0 + length (tokens given)) (kept_then given) (last_tokens (settings_of pipeline) (unused pipeline laws given))

  abbrev at_last : List ℕ → List LogRecord
  at_last given = last_made given ++ held_back pipeline (last_tokens (settings_of pipeline) given)

  pub whole_on : (given : List ℕ) → whole_lines pipeline observed given ≡ open_lines pipeline observed given ++ numbered 1 (length (open_records pipeline given) + 1) observed (at_last given)
  whole_on given =
      let held : List LogRecord = held_back pipeline (last_tokens (settings_of pipeline) given) in
      let parts : given_for pipeline (last_tokens (settings_of pipeline) given) ≡ open_records pipeline given ++ last_made given =
      ap (given_for pipeline) (last_on pipeline laws given) ∙ out.given stream_path 0 starts (tokens given) (last_tokens (settings_of pipeline) (unused pipeline laws given)) in
      ap (numbered 1 1 observed) (ap (λ (r : List LogRecord). r ++ held) parts ∙ append_assoc (open_records pipeline given) (last_made given) held) ∙ numbered_on observed (open_records pipeline given) (at_last given)

  pub none_open : open_lines pipeline observed [] ≡ []
  none_open = ap (λ (cs : List Cut). numbered 1 1 observed (given_for pipeline (texts cs))) (nothing_taken pipeline laws) ∙ ap (numbered 1 1 observed) (out.nothing stream_path 0 starts)

  module _ (lines : LineLaws) (given : List ℕ) (stream : Stream) (taken : HasTaken pipeline observed given stream) where
    pub fed_text : (made : List LogRecord) (text : List ℕ) → text ≡ output_lines 1 (length (open_records pipeline given) + 1) observed made
        → text ≡ lines_text (numbered 1 (length (open_records pipeline given) + 1) observed made)
    fed_text made text is = is ∙ lines_are lines observed 1 (length (open_records pipeline given) + 1) made

    -- the next bytes were fed behind those that waited
    module _ (piece bytes : List ℕ) (after : FileState) (old new : List ℕ) (behind : bytes ≡ stream.waiting.items ++ piece) (none : old ≡ [])
        (goes_on : GoesOn (settings_of pipeline) (network pipeline) (stream_origin observed) (tokens given) (tokens bytes) after old new) where
      bytes_are : bytes ≡ unused pipeline laws given ++ piece
      bytes_are = behind ∙ ap (λ (l : List ℕ). l ++ piece) taken.waits

      abbrev pub fed_marks : List Mark
      fed_marks = numbered 1 (length (open_records pipeline given) + 1) observed goes_on.made

      pub fed_all : open_lines pipeline observed (given ++ piece) ≡ open_lines pipeline observed given ++ fed_marks
      fed_all = open_on given piece goes_on.made (ap (λ (b : List ℕ). given_for pipeline (tokens given ++ tokens b)) (sym bytes_are) ∙ goes_on.past)

      pub fed_lines : new ≡ lines_text fed_marks
      fed_lines = fed_text goes_on.made new (goes_on.written ∙ ap (λ (l : List ℕ). l ++ output_lines 1 (length (open_records pipeline given) + 1) observed goes_on.made) none)

      pub fed_stands : StandsFor (settings_of pipeline) (network pipeline) stream_path (tokens (given ++ piece)) after
      fed_stands =
          let joined : tokens given ++ tokens bytes ≡ tokens (given ++ piece) = ap (λ (b : List ℕ). tokens given ++ tokens b) bytes_are ∙ sym (tokens_on pipeline laws given piece) in
          subst (λ (ts : List (List ℕ)). StandsFor (settings_of pipeline) (network pipeline) stream_path ts after) joined goes_on.stands

      pub fed_waits : unused pipeline laws bytes ≡ unused pipeline laws (given ++ piece)
      fed_waits = ap (unused pipeline laws) bytes_are ∙ sym (unused_on pipeline laws given piece)

    records_are : stream.state.records ≡ 0 + length (tokens given)
    records_are = omega (arith, taken.stands.records)

    pub finished_text : (after : FileState) (text : List ℕ) → Finished pipeline (stream_origin observed) stream.waiting.items (stream.state, []) (after, text)
        → text ≡ lines_text (numbered 1 (length (open_records pipeline given) + 1) observed (at_last given))
    finished_text after text finished =
        let state : FileState = stream.state in
        let between : FileState = finished.between in
        let settings = settings_of pipeline in
        let net = network pipeline in
        let made_is : finished.fed.made ≡ last_made given =
        finished.fed.served.items
        ∙ ap (λ (n : ℕ). given_from settings net stream_path n state.states.items (last_tokens settings stream.waiting.items)) records_are
        ∙ ap (λ (kept : List Kept). given_from settings net stream_path (0 + length (tokens given)) kept (last_tokens settings stream.waiting.items)) taken.stands.states
        ∙ ap (λ (b : List ℕ). given_from settings net stream_path (0 + length (tokens given)) (kept_then given) (last_tokens settings b)) taken.waits in
        let kept_is : between.states.items ≡ kept_from settings net stream_path 0 starts (last_tokens settings given) =
        finished.fed.served.states
        ∙ ap (λ (n : ℕ). kept_from settings net stream_path n state.states.items (last_tokens settings stream.waiting.items)) records_are
        ∙ ap (λ (kept : List Kept). kept_from settings net stream_path (0 + length (tokens given)) kept (last_tokens settings stream.waiting.items)) taken.stands.states
        ∙ ap (λ (b : List ℕ). kept_from settings net stream_path (0 + length (tokens given)) (kept_then given) (last_tokens settings b)) taken.waits
        ∙ sym (out.kept stream_path 0 starts (tokens given) (last_tokens settings (unused pipeline laws given)))
        ∙ ap (kept_from settings net stream_path 0 starts) (sym (last_on pipeline laws given)) in
        let held_is : finished.closed.made ≡ held_back pipeline (last_tokens settings given) =
        finished.closed.served.items ∙ ap (λ (kept : List Kept). outputs net kept (closings net)) kept_is in
        let n : ℕ = state.lines in
        let count_is : n ≡ length (open_records pipeline given) = taken.stands.lines in
        let joined : text ≡ output_lines 1 (n + 1) observed (finished.fed.made ++ finished.closed.made) =
        finished.closed.written ∙ ap (λ (l : List ℕ). l ++ output_lines 1 (between.lines + 1) observed finished.closed.made) finished.fed.written
        ∙ ap (λ (k : ℕ). output_lines 1 (n + 1) observed finished.fed.made ++ output_lines 1 k observed finished.closed.made) (omega (arith, finished.fed.lines))
        ∙ sym (lines.append 1 (n + 1) observed finished.fed.made finished.closed.made) in
        fed_text (at_last given) text (joined ∙ ap (λ (k : ℕ). output_lines 1 (k + 1) observed (finished.fed.made ++ finished.closed.made)) count_is
        ∙ ap (λ (r : List LogRecord). output_lines 1 (length (open_records pipeline given) + 1) observed (r ++ finished.closed.made)) made_is
        ∙ ap (λ (r : List LogRecord). output_lines 1 (length (open_records pipeline given) + 1) observed (last_made given ++ r)) held_is)
