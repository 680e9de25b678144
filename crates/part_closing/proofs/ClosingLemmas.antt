-- What comes out of files that are closed.
use Rattle.std.proofs.Common.{◌≡◌, ℕ, ◌+◌, ◌<◌, ◌≤◌, List, [], ◌∷◌, ◌++◌, length, map, take, Some, refl, sym, ap, ◌∙◌, arith}
use Rattle.std.proofs.lemmas.List.{length-append, map-append, take_more, append-nil}
use Rattle.std.proofs.lemmas.List.Concat.{flat_map-append}
use Rattle.std.proofs.lemmas.Option.{slice_get_within, get_or_from_slice_get}
use Rattle.std.specs.Prelude.{Option, slice_get}
use Rattle.entry_model.specs.LogRecord.{LogRecord}
use Rattle.file_pass.specs.Full.{line_of, lines_text}
use Rattle.file_tracker.specs.declared.row.Row.{Row}
use Rattle.graph_core.specs.Traces.{outputs, closings}
use Rattle.op_kinds.proofs.StateTexts.{told_in}
use Rattle.op_kinds.specs.Kept.{Kept}
use Rattle.op_kinds.specs.StateTexts.{states_in}
use Rattle.op_kinds.specs.States.{kinds_of}
use Rattle.otlp_json.specs.IsOneLine.{IsOneLine}
use Rattle.otlp_json.specs.OutputLines.{output_lines}
use Rattle.pipeline.proofs.Rows.{RowLines}
use Rattle.pipeline.specs.AsRules.{rules_of}
use Rattle.pipeline.specs.Closed.{Closed}
use Rattle.pipeline.specs.Parts.{network}
use Rattle.pipeline.specs.RowStates.{IsStateOfRow}
use Rattle.pipeline.specs.declared.Pipeline.{Pipeline}
use Rattle.pipeline.specs.declared.state.FileState.{FileState}
use Rattle.part_closing.specs.Closing.{HasClosed, lines_of_all, rules_by}
use Rattle.part_closing.specs.declared.closing.Closer.{Closer}
use Rattle.part_closing.specs.declared.closing.Closing.{Closing}
use Rattle.standing.specs.Adopted.{lines_closed, row_adopted}
use Rattle.standing.specs.Marks.{Mark, numbered}
use Rattle.standing.specs.Rules.{Rules}
use Rattle.file_pass.proofs.SaneLemmas.{text_long}
use Rattle.file_pass.proofs.FeedingOn.{length-numbered}

-- ---- one more

pub take_next : {X : Type 0} (xs : List X) (place : ℕ) (x : X) → slice_get xs place ≡ Some x → take (place + 1) xs ≡ take place xs ++ x ∷ []
take_next xs place x is =
    take_more xs place x (slice_get_within xs place x is) ∙ ap (λ y. take place xs ++ y ∷ []) (get_or_from_slice_get xs place x x is)

-- ---- one file

marks_are_lines : RowLines → (id number : ℕ) (time : Option ℕ) (made : List LogRecord) → output_lines id number time made ≡ lines_text (numbered id number time made)
marks_are_lines laws id number time [] = laws.none id number time
marks_are_lines laws id number time (first ∷ rest) = laws.more id number time first rest ∙ ap (λ t. line_of (record { id = id; number = number; observed = time; entry = first }) ++ t) (marks_are_lines laws id (number + 1) time rest)

-- what closing gives of a row's state is what the rules say
pub record GivesHeld (pipeline : Pipeline) (text : List ℕ) (time : Option ℕ) (row : Row) (after : FileState) (out_before out_after : List ℕ) : Type 0 where
  pub lines : after.lines ≡ row.lines + length ((rules_of text pipeline).closed row.state)
  pub written : out_after ≡ out_before ++ lines_text (lines_closed (rules_of text pipeline) time row)

pub gives_held : RowLines → (pipeline : Pipeline) (text : List ℕ) (time : Option ℕ) (row : Row) (before after : FileState) (out_before out_after : List ℕ)
    → IsStateOfRow pipeline row before → Closed (network pipeline) row.id time before after out_before out_after → GivesHeld pipeline text time row after out_before out_after
gives_held laws pipeline text time row before after out_before out_after is closed =
    let nodes = pipeline.graph in
    let net = network pipeline in
    let from = states_in (kinds_of nodes) row.state in
    let begun : before.states.items ≡ from = sym (told_in nodes row.state before.states.items is.states) in
    let given : closed.made ≡ outputs net from (closings net) = closed.served.items ∙ ap (λ (ks : List Kept). outputs net ks (closings net)) begun in
    record {
      lines = closed.lines ∙ ap (λ n. n + length closed.made) is.lines_are ∙ ap (λ (m : List LogRecord). row.lines + length m) given;
      written =
          closed.written
          ∙ ap (λ t. out_before ++ t)
          (ap (λ n. output_lines row.id (n + 1) time closed.made) is.lines_are ∙ ap (λ (m : List LogRecord). output_lines row.id (row.lines + 1) time m) given
          ∙ marks_are_lines laws row.id (row.lines + 1) time (outputs net from (closings net)));
    }

-- ---- counts

-- no line is empty
pub some_bytes : ((mark : Mark) → IsOneLine (line_of mark)) → (mark : Mark) → 0 < length (line_of mark)
some_bytes one_line mark =
    let one = one_line mark in
    omega (arith, ap (λ (t : List ℕ). length t) one.ends, length-append one.content (10 ∷ []))

-- the rules that begin with this state
beginning : Rules → List ℕ → Rules
beginning rules fresh = record rules { fresh = fresh }

pub lines_ended : (closer : Closer) (row ended : Row) → ((text : List ℕ) (next : Rules) → next.fresh ≡ closer.fresh.now → ended ≡ row_adopted (rules_by closer text) next row)
    → (text : List ℕ) → ended.lines ≡ row.lines + length ((rules_by closer text).closed row.state)
unfolding beginning
lines_ended closer row ended is text = ap (λ (r : Row). r.lines) (is text (beginning (rules_by closer text) closer.fresh.now) refl)

-- what is appended has no fewer bytes than lines
pub bytes_more : ((mark : Mark) → IsOneLine (line_of mark)) → (closer : Closer) (row : Row) (old new : List ℕ) (text : List ℕ) → new ≡ old ++ lines_text (lines_closed (rules_by closer text) closer.observed row)
    → length old + length ((rules_by closer text).closed row.state) ≤ length new
bytes_more one_line closer row old new text is =
    let more = lines_closed (rules_by closer text) closer.observed row in
    omega (arith, ap (λ (t : List ℕ). length t) is, length-append old (lines_text more), text_long (some_bytes one_line) more, length-numbered row.id (row.lines + 1) closer.observed ((rules_by closer text).closed row.state))

-- ---- one file more

flat_one : (closer : Closer) (text : List ℕ) (before : List Row) (row : Row) → lines_of_all closer text (before ++ row ∷ []) ≡ lines_of_all closer text before ++ lines_closed (rules_by closer text) closer.observed row
flat_one closer text before row =
    flat_map-append (lines_closed (rules_by closer text) closer.observed) before (row ∷ []) ∙ ap (λ (m : List Mark). lines_of_all closer text before ++ m) (append-nil (lines_closed (rules_by closer text) closer.observed row))

-- what closing one file more leaves
pub record HasClosedNext (closer : Closer) (row : Row) (old new : Closing) : Type 0 where
  pub ended : Row
  pub rows : new.rows.items ≡ old.rows.items ++ ended ∷ []
  pub ended_is : (text : List ℕ) (next : Rules) → next.fresh ≡ closer.fresh.now → ended ≡ row_adopted (rules_by closer text) next row
  pub lines : (text : List ℕ) → new.lines.items ≡ old.lines.items ++ lines_text (lines_closed (rules_by closer text) closer.observed row)
  pub count : (text : List ℕ) → new.count ≡ old.count + length ((rules_by closer text).closed row.state)

pub closed_more : (closer : Closer) (before : List Row) (row : Row) (old new : Closing) → HasClosed closer before old → HasClosedNext closer row old new → HasClosed closer (before ++ row ∷ []) new
closed_more closer before row old new has step = record {
  rows_are = λ text next fresh.
      let f = row_adopted (rules_by closer text) next in
      step.rows ∙ ap (λ (rs : List Row). rs ++ step.ended ∷ []) (has.rows_are text next fresh)
      ∙ ap (λ (r : Row). map f before ++ r ∷ []) (step.ended_is text next fresh) ∙ sym (map-append f before (row ∷ []));
  lines_are = λ text.
      let more = lines_closed (rules_by closer text) closer.observed row in
      step.lines text ∙ ap (λ t. t ++ lines_text more) (has.lines_are text)
      ∙ sym (flat_map-append line_of (lines_of_all closer text before) more) ∙ ap (λ (m : List Mark). lines_text m) (sym (flat_one closer text before row));
  count_is = λ text.
      let more = lines_closed (rules_by closer text) closer.observed row in
      omega (
        arith,
        step.count text,
        has.count_is text,
        length-numbered row.id (row.lines + 1) closer.observed ((rules_by closer text).closed row.state),
        length-append (lines_of_all closer text before) more,
        ap (λ (m : List Mark). length m) (flat_one closer text before row),
      );
}

pub closed_none : (closer : Closer) (closing : Closing) → closing.rows.items ≡ [] → closing.lines.items ≡ [] → closing.count ≡ 0 → HasClosed closer [] closing
closed_none closer closing rows lines count = record { rows_are = λ text next fresh. rows; lines_are = λ text. lines; count_is = λ text. count }

pub few : ((mark : Mark) → IsOneLine (line_of mark)) → (closer : Closer) (rows : List Row) (closing : Closing) → HasClosed closer rows closing → closing.count ≤ length closing.lines.items
few one_line closer rows closing has =
    omega (arith, has.count_is [], ap (λ (t : List ℕ). length t) (has.lines_are []), text_long (some_bytes one_line) (lines_of_all closer [] rows))
