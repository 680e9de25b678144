-- From bytes that would make the output too long to a look that would.
use Rattle.std.proofs.Common.{◌≡◌, ℕ, ◌+◌, ◌-◌, ◌<◌, ◌≤◌, List, [], ◌∷◌, ◌++◌, length, take, drop, min, false, refl, sym, ap, subst, ◌∙◌, inl, inr, arith, append_assoc}
use Rattle.std.proofs.lemmas.Option.{same_Some}
use Rattle.std.proofs.lemmas.List.{take-append-drop, take-take}
use Rattle.std.specs.Prelude.{None, Some, slice_get, IsTrue}
use Rattle.file_tracker.specs.Places.{place_of, with_front}
use Rattle.outside.specs.World.{World}
use Rattle.standing.specs.Poll.{Poll}
use Rattle.standing.specs.AreRules.{AreRules}
use Rattle.standing.specs.Limits.{most_taken, is_compressed}
use Rattle.standing.specs.Look.{Look, content, front, size, piece, after_look, lines_of}
use Rattle.standing.specs.Marks.{Mark}
use Rattle.standing.specs.Rows.{Row}
use Rattle.file_pass.specs.Fed.{poll_of, rules_in, last_of, CrossesRead}
use Rattle.file_pass.specs.Flushed.{lines_read}
use Rattle.file_pass.specs.Full.{Crosses, Overflow}
use Rattle.file_pass.specs.LookTaken.{look_at}
use Rattle.file_pass.specs.Overflow.{RowFills, SeenFills}
use Rattle.file_pass.specs.Seen.{progress_of}
use Rattle.file_pass.specs.Inner.Settled.{IsKnown, Settles, admitted}
use Rattle.file_pass.specs.declared.ending.Ending.TheVariants.{Whole}
use Rattle.file_pass.specs.declared.ending.OpenFile.{OpenFile}
use Rattle.file_pass.specs.declared.ending.SeenFile.{SeenFile}
use Rattle.file_pass.specs.declared.setup.Setup.{Setup}
use Rattle.file_pass.proofs.Bridging.{piece_is, stood_then, new_is}
use Rattle.file_pass.proofs.FeedingOn.{lines_on}
use Rattle.file_pass.proofs.FlushLemmas.{lines_begin, lines_others}
use Rattle.file_pass.proofs.Listing.{get_set, push_there}
use Rattle.file_pass.proofs.Looking.{added_known, added_new}

crosses_more : (limit end : ℕ) (marks more : List Mark) (full : ℕ) → Crosses limit end marks full → Crosses limit end (marks ++ more) full
crosses_more limit end marks more full crosses = record {
  front = crosses.front;
  last = crosses.last;
  back = crosses.back ++ more;
  split = ap (λ (l : List Mark). l ++ more) crosses.split ∙ append_assoc crosses.front (crosses.last ∷ crosses.back) more;
  within_before = crosses.within_before;
  size_then = crosses.size_then;
  too_much = crosses.too_much;
}

-- what was read begins the piece that a look takes which can read all
piece_begins : (here : Look) (offset : ℕ) (given : List ℕ) → here.end ≡ size here → given ≡ take (length given) (drop offset (content here)) → offset + length given ≤ last_of (size here) offset
    → piece here offset ≡ given ++ drop (length given) (piece here offset)
piece_begins here offset given end stood within =
    let few : length given ≤ min here.end (offset + most_taken) - offset = omega (arith, end, within) in
    sym (take-append-drop (length given) (piece here offset))
    ∙ ap (λ (l : List ℕ). l ++ drop (length given) (piece here offset)) (take-take (length given) (min here.end (offset + most_taken) - offset) (drop offset (content here)) few ∙ sym stood)

row_fills : (poll : Poll) (laws : AreRules poll.rules) (here : Look) (row : Row) (given : List ℕ) (limit end full : ℕ) → IsTrue (poll.rules.is_state row.state) → here.end ≡ size here
    → given ≡ take (length given) (drop row.offset (content here)) → row.offset + length given ≤ last_of (size here) row.offset → Crosses limit end (lines_of poll given row) full
    → Crosses limit end (lines_of poll (piece here row.offset) row) full
row_fills poll laws here row given limit end full good all stood within crosses =
    let rest : List ℕ = drop (length given) (piece here row.offset) in
    let begins = ap (λ (p : List ℕ). lines_of poll p row) (piece_begins here row.offset given all stood within) in
    subst (λ (l : List Mark). Crosses limit end l full) (sym (begins ∙ lines_on poll laws given rest row good)) (crosses_more limit end (lines_of poll given row) _ full crosses)

-- what was read as far as a pass goes is that piece
piece_all : (here : Look) (offset : ℕ) (given : List ℕ) → here.end ≡ size here → given ≡ take (length given) (drop offset (content here)) → offset + length given ≡ last_of (size here) offset → given ≡ piece here offset
piece_all here offset given end stood whole = piece_is here offset given stood (omega (arith, end, whole))

-- and so the lines of the look cross the limit
look_fills : (poll : Poll) (laws : AreRules poll.rules) (over : Overflow) (here : Look) (file : OpenFile) (row : Row) (given : List ℕ) → IsTrue (poll.rules.is_state row.state) → here.end ≡ size here → file.size ≡ size here
    → given ≡ take (length given) (drop row.offset (content here)) → row.offset + length given ≤ last_of (size here) row.offset
    → CrossesRead poll over file given row → Crosses over.limit over.end (lines_read poll (size here) Whole (piece here row.offset) row) over.size
look_fills poll laws over here file row given good all size_is stood within (inl part) =
    let begin = lines_begin poll (size here) Whole (piece here row.offset) row in
    subst (λ (l : List Mark). Crosses over.limit over.end l over.size) (sym begin.1)
    (crosses_more over.limit over.end (lines_of poll (piece here row.offset) row) begin.0 over.size (row_fills poll laws here row given over.limit over.end over.size good all stood within part))
look_fills poll laws over here file row given good all size_is stood within (inr whole) =
    let is : given ≡ piece here row.offset = piece_all here row.offset given all stood (omega (arith, whole.whole, size_is)) in
    subst (λ (l : List Mark). Crosses over.limit over.end l over.size) (ap (λ n. lines_read poll n Whole given row) size_is ∙ ap (λ (g : List ℕ). lines_read poll (size here) Whole g row) is) whole.crosses

module _ (setup : Setup) (laws : AreRules (rules_in setup)) (at : SeenFile) (plain : is_compressed at.front.now ≡ false) (some : 0 < at.file.size)
    (before mid : List Row) (place : ℕ) (over : Overflow) (old new : World) (good : (row : Row) → slice_get mid place ≡ Some row → IsTrue ((rules_in setup).is_state row.state)) where
  pub seen_fills : Settles setup at before (Some place) mid → RowFills (poll_of setup) over (record { file = at.file; place = place }) mid old new → SeenFills (poll_of setup) over at before old new
  seen_fills settles fills = record {
    handles = fills.reads.handles;
    moves = fills.reads.moves;
    looks = λ seen moment seen_at.
        let here = look_at at.path.now seen moment at.file.size false in
        let is_front : at.front.now ≡ front (rules_in setup) here = seen_at.front_is in
        let all : at.file.size ≡ size here = seen_at.open_at.size_then in
        let stood = stood_then at.file seen moment old new fills.row.offset fills.given Whole seen_at.open_at (omega (arith, fills.within)) fills.reads in
        let here_plain : is_compressed (front (rules_in setup) here) ≡ false = subst (λ (f : List ℕ). is_compressed f ≡ false) is_front plain in
        let crosses : Crosses over.limit over.end (lines_read (poll_of setup) (size here) Whole (piece here fills.row.offset) fills.row) over.size =
        look_fills (poll_of setup) laws over here at.file fills.row fills.given (good fills.row fills.there) all all stood (omega (arith, all, fills.within)) fills.crosses in
        let same : (after_look (poll_of setup) here (progress_of before [])).added ≡ lines_read (poll_of setup) (size here) Whole (piece here fills.row.offset) fills.row =
        elim settles [
          | inl known_there ↦
              (let known : IsKnown (front (rules_in setup) here) before place mid = subst (λ (f : List ℕ). IsKnown f before place mid) is_front known_there in
              let same_row : fills.row ≡ with_front (front (rules_in setup) here) known.row =
              same_Some fills.row (with_front (front (rules_in setup) here) known.row) (sym fills.there ∙ ap (λ (l : List Row). slice_get l place) known.grown ∙ get_set before place known.row (with_front (front (rules_in setup) here) known.row) known.at) in
              added_known (poll_of setup) here before refl (omega (arith, some, all)) here_plain place known.row known.at known.first_one (omega (arith, fills.begins, all, ap (λ (r : Row). r.offset) same_row)) all
              ∙ sym (lines_others (poll_of setup) (size here) Whole (piece here known.row.offset) (front (rules_in setup) here) known.row.start known.row.born known.row.ends known.row)
              ∙ ap (λ (r : Row). lines_read (poll_of setup) (size here) Whole (piece here r.offset) r) (sym same_row))
          | inr fresh ↦
              (let added_row : Row = admitted setup at.file.size at.path.now at.front.now (length before + 1) in
              let same_row : fills.row ≡ added_row = same_Some fills.row added_row (sym fills.there ∙ ap (λ (l : List Row). slice_get l place) fresh.added ∙ ap (slice_get (before ++ added_row ∷ [])) fresh.last ∙ push_there before added_row) in
              added_new (poll_of setup) here before refl (omega (arith, some, all)) here_plain fills.row (same_row ∙ new_is setup at.path.now at.front.now at.file.size (length before + 1) here refl all is_front)
              (subst (λ (f : List ℕ). place_of f before ≡ None) is_front fresh.none) fresh.room (omega (arith, fills.begins, all)) all)
        ] in
        subst (λ (l : List Mark). Crosses over.limit over.end l over.size) (sym same) crosses;
  }
