-- What adopting is to make of a session's checkpoint.
use Rattle.std.proofs.Common.{◌≡◌, ◌≢◌, ℕ, ◌+◌, ◌<◌, ◌≤◌, ◌^◌, List, [], ◌∷◌, ◌++◌, length, map, Option, refl, ap, ◌∙◌, arith}
use Rattle.std.specs.List.{flat_map}
use Rattle.std.specs.Prelude.{Some, slice_get, IsTrue}
use Rattle.checkpoint_store.specs.Limits.{newest, output_limit}
use Rattle.checkpoint_store.specs.Rules.{beside_of}
use Rattle.checkpoint_store.specs.declared.Checkpoint.{Checkpoint}
use Rattle.file_pass.specs.Full.{line_of, lines_text}
use Rattle.file_tracker.specs.declared.row.Row.{Row}
use Rattle.otlp_json.specs.IsOneLine.{IsOneLine}
use Rattle.pipeline.specs.AsRules.{rules_of}
use Rattle.pipeline.specs.Parts.{settings_of}
use Rattle.pipeline.specs.declared.Pipeline.{Pipeline}
use Rattle.poll_core.proofs.AdoptDisk.{HasOwnJournal, IsOwnAdoption}
use Rattle.poll_core.proofs.AdoptLaws.{IsLonger, HasPlace, longer_lawful}
use Rattle.part_closing.proofs.ClosingLemmas.{some_bytes}
use Rattle.poll_core.proofs.MakingLemmas.{short_text}
use Rattle.poll_core.proofs.PollLines.{within_own}
use Rattle.poll_core.proofs.PollRows.{state_at}
use Rattle.poll_core.proofs.TakenLemmas.{row_kept}
use Rattle.poll_core.specs.Adoption.{HasClosedAll, HasRoom, IsAdoptionOf, MayFollowOn, lines_held}
use Rattle.part_closing.specs.Closing.{HasClosed, lines_of_all, rules_by}
use Rattle.poll_core.specs.IsSession.{IsSession}
use Rattle.pipeline.specs.MadeOf.{IsMadeOf}
use Rattle.poll_core.specs.SessionParts.{checkpoint_of_session, kept_of, limit_of, rules_of_session, settings_of_session, stamp_at}
use Rattle.poll_core.specs.declared.adopted.Adopted.{Adopted}
use Rattle.poll_core.specs.declared.adoption.Adoption.{Adoption}
use Rattle.part_closing.specs.declared.closing.Closer.{Closer}
use Rattle.part_closing.specs.declared.closing.Closing.{Closing}
use Rattle.poll_core.specs.declared.session.Session.{Session}
use Rattle.standing.specs.Adopted.{closing_time, lines_closed, row_adopted}
use Rattle.standing.specs.Marks.{Mark}
use Rattle.standing.specs.Rules.{Rules}

-- ---- files that are closed

-- by what the files of a session are closed
pub record ClosesFor (session : Session) (next : Pipeline) (closer : Closer) : Type 0 where
  pub pipeline : closer.pipeline.now ≡ session.pipeline
  pub observed : closer.observed ≡ stamp_at (settings_of session.pipeline).include_observed_time session.observed
  pub fresh : (text : List ℕ) → (rules_of text next).fresh ≡ closer.fresh.now
  pub short : length closer.fresh.now < 2 ^ 32

pub closed_all : (session : Session) (next : Pipeline) (closer : Closer) (closing : Closing) → ClosesFor session next closer → HasClosed closer session.tracker closing → HasClosedAll session next closing
closed_all session next closer closing for has =
    let text : List ℕ = settings_of_session session in
    let rules : Rules = rules_by closer text in
    let rules_is : rules ≡ rules_of_session session = ap (λ (p : Pipeline). rules_of text p) for.pipeline in
    let lines_is : lines_of_all closer text session.tracker ≡ lines_held session =
    ap (λ (r : Rules). flat (lines_closed r closer.observed)) rules_is ∙ ap (λ (t : Option ℕ). flat (lines_closed (rules_of_session session) t)) for.observed in
    record {
      rows_are = λ other. has.rows_are text (rules_of other next) (for.fresh other) ∙ ap (λ (r : Rules). map (row_adopted r (rules_of other next)) session.tracker) rules_is;
      lines_are = has.lines_are text ∙ ap (λ (m : List Mark). lines_text m) lines_is;
      count_is = has.count_is text ∙ ap (λ (m : List Mark). length m) lines_is;
      short = λ other. omega (arith, for.short, ap (λ (t : List ℕ). length t) (for.fresh other));
    }
  where
    flat : (Row → List Mark) → List Mark
    flat f = flat_map f session.tracker

-- ---- the checkpoint

-- the parts of which it is made
pub record IsBuiltOf (session : Session) (text : List ℕ) (closing : Closing) (adoption : Adoption) : Type 0 where
  pub eras : adoption.checkpoint.eras ≡ session.eras ++ text ∷ []
  pub output : adoption.checkpoint.output_length ≡ kept_of session + length closing.lines.items
  pub observed : adoption.checkpoint.observed ≡ session.observed
  pub next_id : adoption.checkpoint.next_id ≡ length session.tracker + 1
  pub rows : adoption.checkpoint.rows ≡ closing.rows.items
  pub lines : adoption.lines.items ≡ closing.lines.items
  pub count : adoption.count ≡ closing.count

module _ (one_line : (mark : Mark) → IsOneLine (line_of mark)) (session : Session) (is : IsSession session) (text : List ℕ) (next : Pipeline) (made : IsMadeOf text next) where
  pub adoption_is : MayFollowOn session next → (closing : Closing) → HasClosedAll session next closing → HasRoom session closing.lines.items → (adoption : Adoption) → IsBuiltOf session text closing adoption → IsAdoptionOf session text next adoption
  adoption_is follows closing closed room adoption built =
      let before : Checkpoint = checkpoint_of_session session in
      let after : Checkpoint = adoption.checkpoint in
      let rules : Rules = rules_of_session session in
      let more : Rules = rules_of text next in
      let size : length closing.lines.items ≡ length (lines_text (lines_held session)) = ap (λ (t : List ℕ). length t) closed.lines_are in
      let rows : after.rows ≡ map (row_adopted rules more) before.rows = built.rows ∙ closed.rows_are text in
      let longer : IsLonger rules more (closing_time rules before.observed) before after = record {
        texts = built.eras;
        rows = rows;
        next_id = built.next_id;
        observed = built.observed;
        output_length = built.output ∙ ap (λ n. kept_of session + n) size;
      } in
      let place : HasPlace more before after = record {
        short_text = omega (arith, short_text text (settings_of next) made.said);
        short_state = closed.short text;
        few = follows.few;
        within = omega (arith, built.output, room.within, is.limit, is.lawful.output_length);
      } in
      record {
        adopts = record {
          texts = built.eras;
          rows = rows;
          next_id = built.next_id;
          observed = built.observed;
          lines = refl;
          output_length = built.output ∙ ap (λ n. kept_of session + n) size;
        };
        lines_are = built.lines ∙ closed.lines_are;
        count_is = built.count ∙ closed.count_is;
        one_front_size = follows.one_front_size;
        lawful = longer_lawful (some_bytes one_line) rules more (closing_time rules before.observed) before after longer place is.lawful;
        within = within_own (some_bytes one_line) (limit_of session) (kept_of session) after.output_length (lines_held session) (built.output ∙ ap (λ n. kept_of session + n) size) (omega (arith, built.output, room.within));
        not_worn = room.not_worn;
      }

-- what is told of it
pub record IsToldOf (adoption : Adoption) (adopted : Adopted) : Type 0 where
  pub rows : adopted.rows ≡ length adoption.checkpoint.rows
  pub lines : adopted.lines ≡ adoption.count
  pub eras : adopted.eras ≡ length adoption.checkpoint.eras
  pub output : adopted.output ≡ adoption.checkpoint.output_length

pub own_adoption : (session : Session) (own : HasOwnJournal session) → IsSession session → (text : List ℕ) (next : Pipeline) → IsMadeOf text next → settings_of_session session ≢ text
    → (adoption : Adoption) → IsAdoptionOf session text next adoption → (adopted : Adopted) → IsToldOf adoption adopted → IsOwnAdoption session own text adoption.checkpoint (lines_held session) adopted
own_adoption session own is text next made other adoption ready adopted told = record {
  adoption = record {
    other_text = other;
    rules = rules_of_session session;
    rules_are = (session.pipeline, is.made, refl);
    next = rules_of text next;
    next_are = (next, made, refl);
    one_front_size = ready.one_front_size;
    adopts = ready.adopts;
    lawful = ready.lawful;
  };
  within = ready.within;
  not_worn = ready.not_worn;
  told = record {
    rows = told.rows;
    lines = told.lines ∙ ready.count_is;
    eras = told.eras;
    output = told.output;
  };
}

-- ---- the rows of a session

pub state_of_row : (session : Session) → IsSession session → (text : List ℕ) (place : ℕ) (row : Row) → slice_get session.tracker place ≡ Some row → IsTrue ((rules_of text session.pipeline).is_state row.state)
state_of_row session is text place row at = state_at (rules_of_session session) session.tracker place row is.states at

pub lines_of_row : (session : Session) → IsSession session → (place : ℕ) (row : Row) → slice_get session.tracker place ≡ Some row → row.lines ≤ output_limit
lines_of_row session is place row at =
    let keeps = row_kept (beside_of newest session.eras session.kept) 1 session.tracker place row is.lawful.rows at in
    omega (arith, keeps.lines, is.lawful.output_length)
