-- One more piece of a file that is read on.
use Rattle.std.proofs.Common.{◌≡◌, ℕ, ◌+◌, ◌<◌, ◌≤◌, List, [], ◌∷◌, ◌++◌, length, drop, IsTrue, append_assoc, zero, suc, refl, sym, ap, subst, ◌∙◌, arith, length-append}
use Rattle.std.proofs.lemmas.List.{append-nil, drop-drop, drop-append-le}
use Rattle.std.proofs.lemmas.Grind.{flat_map-append}
use Rattle.outside.specs.World.{Told}
use Rattle.outside.proofs.Telling.{told_same, told_then}
use Rattle.standing.specs.Poll.{Poll}
use Rattle.standing.specs.AreRules.{AreRules}
use Rattle.standing.specs.Look.{fed, lines_of}
use Rattle.standing.specs.Marks.{Mark}
use Rattle.standing.specs.Rows.{Row}
use Rattle.standing.specs.Tokens.{used}
use Rattle.file_pass.specs.DiskTerms.{Appends}
use Rattle.file_pass.specs.Fed.{poll_of, IsReading, HasRead, FillsPart, feeding_row, rules_in, last_in, piece_in}
use Rattle.file_pass.specs.Full.{Crosses, line_of, lines_text}
use Rattle.file_pass.specs.Moment.{Meanings, FeedingAt, feeding_at, moment}
use Rattle.file_pass.specs.Reads.{Reads, piece_at, piece_of}
use Rattle.file_pass.specs.TreeTerms.{HasEnding}
use Rattle.file_pass.specs.declared.ending.Ending.{Ending}
use Rattle.file_pass.specs.declared.ending.Ending.TheVariants.{Whole}
use Rattle.file_pass.specs.declared.setup.Setup.{Setup}
use Rattle.file_pass.proofs.DiskLemmas.{appends_none, appends_then, appends_same}
use Rattle.file_pass.proofs.FeedingOn.{unused, fed_none, lines_none, used_on, fed_on, lines_on}
use Rattle.file_pass.proofs.ReadingLemmas.{reads_idle, reads_then, reads_within}

pub text_append : (marks more : List Mark) → lines_text (marks ++ more) ≡ lines_text marks ++ lines_text more
text_append marks more = flat_map-append line_of marks more

-- the bytes that no token used, after one more piece
rest_on : (poll : Poll) → AreRules poll.rules → (read more : List ℕ) → drop (used poll.rules (unused poll read more)) (unused poll read more) ≡ drop (used poll.rules (read ++ more)) (read ++ more)
rest_on poll laws read more =
    ap (drop (used poll.rules (unused poll read more))) (sym (drop-append-le (used poll.rules read) read more (laws.tokens.within read)))
    ∙ drop-drop (used poll.rules (unused poll read more)) (used poll.rules read) (read ++ more)
    ∙ ap (λ n. drop n (read ++ more)) (sym (used_on poll laws read more))

no_rest : (n : ℕ) → ◌≡◌ {A = List ℕ} (drop n []) []
no_rest zero = refl
no_rest (suc n) = refl

-- marks before others keep to the limit, and those cross it
pub crosses_later : (limit end between : ℕ) (earlier marks : List Mark) (size : ℕ) → between ≡ end + length (lines_text earlier) → Crosses limit between marks size → Crosses limit end (earlier ++ marks) size
crosses_later limit end between earlier marks size at crosses = record {
  front = earlier ++ crosses.front;
  last = crosses.last;
  back = crosses.back;
  split = ap (λ (l : List Mark). earlier ++ l) crosses.split ∙ sym (append_assoc earlier crosses.front (crosses.last ∷ crosses.back));
  within_before = omega (arith, at, crosses.within_before, ap length (text_append earlier crosses.front), length-append (lines_text earlier) (lines_text crosses.front));
  size_then = omega (arith, at, crosses.size_then, ap length (ap lines_text (append_assoc earlier crosses.front (crosses.last ∷ [])) ∙ text_append earlier (crosses.front ++ crosses.last ∷ [])), length-append (lines_text earlier) (lines_text (crosses.front ++ crosses.last ∷ [])));
  too_much = crosses.too_much;
}

module _ {T D : Type 0} (means : Meanings T D) (setup : Setup) (laws : AreRules (rules_in setup)) where
  pub reading_begins : (start : FeedingAt T D) → IsTrue ((rules_in setup).is_state (feeding_row start.feeding).state) → start.feeding.offset ≤ last_in start.feeding → start.feeding.carried.items ≡ []
      → IsReading means setup start.feeding.offset start start
  reading_begins start good le none = record {
    given = [];
    from_is = omega arith;
    within = le;
    row = sym (fed_none (poll_of setup) laws (feeding_row start.feeding) good);
    rest = none ∙ sym (no_rest (used (rules_in setup) []));
    flushed = refl;
    appends = appends_same means.disks [] (lines_text (lines_of (poll_of setup) [] (feeding_row start.feeding))) start.end start.end start.outside.disk start.outside.disk
        (sym (ap lines_text (lines_none (poll_of setup) laws (feeding_row start.feeding) good))) (appends_none means.disks start.end start.outside.disk);
    world = told_same (Reads (piece_in start.feeding [] Whole)) (means.trees.world start.outside.tree) (λ world. reads_idle start.feeding.file.handle.0 start.feeding.offset start.feeding.file.size world);
    cause = refl;
  }

  module _ (before mid now : FeedingAt T D) (from last : ℕ) (piece : List ℕ) (tells : means.disks.images.tells mid.outside.disk ≡ means.disks.images.tells before.outside.disk)
      (good : IsTrue ((rules_in setup).is_state (feeding_row before.feeding).state)) (so_far : IsReading means setup from before mid) where
    abbrev began : Row
    began = feeding_row before.feeding

    -- what is fed now
    abbrev bytes : List ℕ
    bytes = mid.feeding.carried.items ++ piece

    pub fed_now : bytes ≡ unused (poll_of setup) so_far.given piece
    fed_now = ap (λ l. l ++ piece) so_far.rest

    world_on : (ending : Ending) → from + length piece ≤ last → last ≤ before.feeding.file.size → Told (Reads (piece_at before.feeding.file.handle.0 from last piece ending)) (means.trees.world mid.outside.tree) (means.trees.world now.outside.tree)
        → Told (Reads (piece_in before.feeding (so_far.given ++ piece) ending)) (means.trees.world before.outside.tree) (means.trees.world now.outside.tree)
    world_on ending within le read =
        let file = before.feeding.file in
        told_then (Reads (piece_in before.feeding so_far.given Whole)) (Reads (piece_at file.handle.0 from last piece ending)) (Reads (piece_in before.feeding (so_far.given ++ piece) ending)) (means.trees.world before.outside.tree) (means.trees.world mid.outside.tree) (means.trees.world now.outside.tree)
        (λ x y z first second.
        reads_then file.handle.0 before.feeding.offset file.size so_far.given piece ending x y z (omega (arith, so_far.from_is, within, le)) first
        (subst (λ n. Reads (piece_of file n piece ending) y z) so_far.from_is (reads_within file.handle.0 from last file.size piece ending y z le second)))
        so_far.world read

    row_on : feeding_row now.feeding ≡ fed (rules_in setup) bytes (feeding_row mid.feeding) → feeding_row now.feeding ≡ fed (rules_in setup) (so_far.given ++ piece) began
    row_on row =
        row ∙ ap (λ l. fed (rules_in setup) l (feeding_row mid.feeding)) fed_now
        ∙ ap (λ r. fed (rules_in setup) (unused (poll_of setup) so_far.given piece) r) so_far.row
        ∙ sym (fed_on (poll_of setup) laws so_far.given piece began good)

    lines_now : lines_of (poll_of setup) so_far.given began ++ lines_of (poll_of setup) bytes (feeding_row mid.feeding) ≡ lines_of (poll_of setup) (so_far.given ++ piece) began
    lines_now =
        ap (λ l. lines_of (poll_of setup) so_far.given began ++ lines_of (poll_of setup) l (feeding_row mid.feeding)) fed_now
        ∙ ap (λ r. lines_of (poll_of setup) so_far.given began ++ lines_of (poll_of setup) (unused (poll_of setup) so_far.given piece) r) so_far.row
        ∙ sym (lines_on (poll_of setup) laws so_far.given piece began good)

    pub reading_on : from + length piece ≤ last → last ≡ last_in before.feeding → Told (Reads (piece_at before.feeding.file.handle.0 from last piece Whole)) (means.trees.world mid.outside.tree) (means.trees.world now.outside.tree)
        → means.trees.faults now.outside.tree ≡ means.trees.faults mid.outside.tree → feeding_row now.feeding ≡ fed (rules_in setup) bytes (feeding_row mid.feeding) → now.feeding.carried.items ≡ drop (used (rules_in setup) bytes) bytes
        → now.feeding.flushed ≡ mid.feeding.flushed → Appends means.disks (lines_text (lines_of (poll_of setup) bytes (feeding_row mid.feeding))) mid.end now.end mid.outside.disk now.outside.disk
        → IsReading means setup (from + length piece) before now
    reading_on within last_is read stood row rest flushed appends = record {
      given = so_far.given ++ piece;
      from_is = omega (arith, so_far.from_is, length-append so_far.given piece);
      within = omega (arith, within, last_is);
      row = row_on row;
      flushed = flushed ∙ so_far.flushed;
      rest = rest ∙ ap (λ l. drop (used (rules_in setup) l) l) fed_now ∙ rest_on (poll_of setup) laws so_far.given piece;
      appends = appends_same means.disks (lines_text (lines_of (poll_of setup) so_far.given began) ++ lines_text (lines_of (poll_of setup) bytes (feeding_row mid.feeding))) (lines_text (lines_of (poll_of setup) (so_far.given ++ piece) began)) before.end now.end before.outside.disk now.outside.disk
          (sym (text_append (lines_of (poll_of setup) so_far.given began) (lines_of (poll_of setup) bytes (feeding_row mid.feeding))) ∙ ap lines_text lines_now)
          (appends_then means.disks _ _ before.end mid.end now.end before.outside.disk mid.outside.disk now.outside.disk tells so_far.appends appends);
      world = world_on Whole within (omega (arith, last_is)) read;
      cause = stood ∙ so_far.cause;
    }

    -- the line with which the output is too long
    pub fills_up : (size : ℕ) → from + length piece ≤ last → last ≡ last_in before.feeding → Told (Reads (piece_at before.feeding.file.handle.0 from last piece Whole)) (means.trees.world mid.outside.tree) (means.trees.world now.outside.tree)
        → means.trees.faults now.outside.tree ≡ means.trees.faults mid.outside.tree → Crosses setup.limit mid.end (lines_of (poll_of setup) bytes (feeding_row mid.feeding)) size → FillsPart means.trees setup size before now.outside.tree
    fills_up size within last_is read stood crosses = record {
      given = so_far.given ++ piece;
      within = omega (arith, so_far.from_is, length-append so_far.given piece, within, last_is);
      crosses = subst (λ l. Crosses setup.limit before.end l size) lines_now (crosses_later setup.limit before.end mid.end (lines_of (poll_of setup) so_far.given began) (lines_of (poll_of setup) bytes (feeding_row mid.feeding)) size so_far.appends.end_is crosses);
      world = world_on Whole within (omega (arith, last_is)) read;
      stood = stood ∙ so_far.cause;
    }

    -- a read that gave nothing
    pub reads_on : (ending : Ending) → piece ≡ [] → last ≡ last_in before.feeding → (ending ≡ Whole → from ≡ last) → ((ending ≡ Whole → ⊥) → from < last) → from ≤ last
        → Told (Reads (piece_at before.feeding.file.handle.0 from last piece ending)) (means.trees.world mid.outside.tree) (means.trees.world now.outside.tree) → HasEnding ending (means.trees.faults mid.outside.tree) (means.trees.faults now.outside.tree)
        → HasRead means setup ending before (feeding_at mid.feeding mid.end (moment now.outside.tree mid.outside.disk))
    reads_on ending none last_is whole partly le read cause = record {
      given = so_far.given;
      goes = record { within = omega (arith, so_far.from_is, last_is, le); whole = λ is. omega (arith, so_far.from_is, last_is, whole is); partly = λ not. omega (arith, so_far.from_is, last_is, partly not) };
      row = so_far.row;
      rest = so_far.rest;
      stood = so_far.flushed;
      appends = so_far.appends;
      world = subst (λ l. Told (Reads (piece_in before.feeding l ending)) (means.trees.world before.outside.tree) (means.trees.world now.outside.tree)) (ap (λ (p : List ℕ). so_far.given ++ p) none ∙ append-nil so_far.given)
          (world_on ending (omega (arith, ap length none, le)) (omega (arith, last_is)) read);
      cause = subst (λ n. HasEnding ending n (means.trees.faults now.outside.tree)) so_far.cause cause;
    }
