-- From what was read of an open file to a look at it.
use Rattle.std.proofs.Common.{◌≡◌, ℕ, ◌+◌, ◌-◌, ◌<◌, ◌≤◌, ◌==◌, List, [], ◌∷◌, ◌++◌, length, take, drop, min, Bool, true, false, cond, ◌&&◌, refl, sym, ap, subst, ◌∙◌, inl, inr, arith, eq-eqb, length-append}
use Rattle.std.proofs.lemmas.Option.{same_Some}
use Rattle.std.proofs.lemmas.Bool.{ne_eqb, le-ltb}
use Rattle.std.specs.Prelude.{None, Some, slice_get, slice_set, nat_lt}
use Rattle.file_tracker.specs.Places.{place_of, with_front}
use Rattle.file_tracker.specs.Limits.{row_limit}
use Rattle.outside.proofs.Moving.{moves_none}
use Rattle.outside.specs.Moment.{Moves}
use Rattle.outside.specs.World.{World, History, bytes}
use Rattle.standing.proofs.MomentLemmas.{bytes_grow}
use Rattle.standing.specs.Poll.{Poll}
use Rattle.standing.specs.Limits.{most_taken, is_compressed}
use Rattle.standing.specs.Look.{Look, Outcome, finds_new, finds_row, content, front, size, piece, new_row, offset_found, outcome}
use Rattle.standing.specs.Marks.{Mark}
use Rattle.standing.specs.Rows.{Row}
use Rattle.standing.specs.Sums.{is_passed_as_compressed, is_left_out}
use Rattle.file_pass.specs.Fed.{poll_of, rules_in}
use Rattle.file_pass.specs.Cost.{cost_on}
use Rattle.file_pass.specs.Flushed.{row_read, lines_read}
use Rattle.file_pass.specs.Gain.{Gain, gain_of, one_if, with_taken}
use Rattle.file_pass.specs.LookTaken.{IsGainOf, TakesLook, IsOpenAt, SeenTaken, look_at}
use Rattle.file_pass.specs.Reads.{HasBytes, Reads, piece_of}
use Rattle.file_pass.specs.Inner.RowTaken.{IsShorter, IsReadOn, RowTaken}
use Rattle.file_pass.specs.Inner.Settled.{IsKnown, IsAdmitted, Settles, admitted}
use Rattle.file_pass.specs.Step.{Step, step}
use Rattle.file_pass.specs.declared.ending.Ending.{Ending}
use Rattle.file_pass.specs.declared.ending.Ending.TheVariants.{Whole, Failed, Shrunk}
use Rattle.file_pass.specs.declared.ending.OpenFile.{OpenFile}
use Rattle.file_pass.specs.declared.ending.RowFile.{RowFile}
use Rattle.file_pass.specs.declared.ending.SeenFile.{SeenFile}
use Rattle.file_pass.specs.declared.found.Found.{Found}
use Rattle.file_pass.specs.declared.found.Found.TheVariants.{Read, Shorter}
use Rattle.file_pass.specs.declared.setup.Setup.{Setup}
use Rattle.file_pass.proofs.Listing.{get_set, push_there}
use Rattle.file_pass.proofs.FlushLemmas.{lines_others}
use Rattle.file_pass.proofs.Looking.{EndsAt, filled_some, short_not, short_end, is_known, is_fresh, look_with, takes_short, takes_on, takes_new}
use Rattle.file_pass.proofs.ReadingLemmas.{same_piece}

-- the place up to which the file could be read
abbrev pub end_for : Ending → ℕ → ℕ → ℕ
end_for Whole all reached = all
end_for Failed all reached = reached
end_for Shrunk all reached = reached

-- an open file had these bytes at its look, and has them now
pub still_open : (file : OpenFile) (seen : ℕ) (moment : History) (world : World) → IsOpenAt file seen moment world → HasBytes file.handle.0 file.size world seen
still_open file seen moment world at =
    let grown = bytes_grow moment world.history seen at.later in
    record { is = at.is; long = omega (arith, at.size_then, ap length grown.1, length-append (bytes moment seen) grown.0) }

-- bytes that were read stood in the file at its look
pub stood_then : (file : OpenFile) (seen : ℕ) (moment : History) (old new : World) (from : ℕ) (given : List ℕ) (ending : Ending) → IsOpenAt file seen moment old → from + length given ≤ file.size → Reads (piece_of file from given ending) old new
    → given ≡ take (length given) (drop from (bytes moment seen))
stood_then file seen moment old new from given ending at within reads =
    let grown = bytes_grow moment old.history seen at.later in
    reads.are seen (still_open file seen moment old at)
    ∙ ap (λ l. take (length given) (drop from l)) grown.1
    ∙ same_piece from (length given) (bytes moment seen) grown.0 (omega (arith, within, at.size_then))

pub piece_is : (here : Look) (offset : ℕ) (given : List ℕ) → given ≡ take (length given) (drop offset (content here)) → min here.end (offset + most_taken) - offset ≡ length given → given ≡ piece here offset
piece_is here offset given stood many = stood ∙ ap (λ n. take n (drop offset (content here))) (sym many)

-- what a file that was read on adds to the counts
module _ (poll : Poll) (here : Look) (found : Outcome) (offset : ℕ) (at : offset_found poll here found ≡ Some offset)
    (no_gzip : is_passed_as_compressed here found ≡ false) (has_room : is_left_out here found ≡ false)
    (read : here.skipped ≡ false) (some : 0 < size here) (begins : offset ≤ size here) (added : List Mark) (more : Bool) where
  gain_whole : here.end ≡ size here → more ≡ nat_lt (offset + most_taken) (size here) → IsGainOf poll here found added (gain_of (Read Whole more (length added)))
  gain_whole end is = record {
    files = sym (ap one_if (filled_some here some));
    lines = refl;
    left = let whole : (here.end == size here) ≡ true = eq-eqb here.end (size here) end in rw (at, whole) (ap one_if is);
    gone = refl;
    failed = sym (ap one_if (short_not here read (omega (arith, end))));
    compressed = sym (ap one_if no_gzip);
    shrunk = let long : nat_lt (size here) offset ≡ false = le-ltb (size here) offset begins in rw (at, long) refl;
    full = sym (ap one_if has_room);
  }

  gain_failed : here.end < size here → more ≡ false → IsGainOf poll here found added (gain_of (Read Failed more (length added)))
  gain_failed early is = record {
    files = sym (ap one_if (filled_some here some));
    lines = refl;
    left = let part : (here.end == size here) ≡ false = ne_eqb here.end (size here) (λ e. omega (arith, e, early)) in rw (at, part) (ap one_if is);
    gone = refl;
    failed = sym (ap one_if (short_end here early));
    compressed = sym (ap one_if no_gzip);
    shrunk = let long : nat_lt (size here) offset ≡ false = le-ltb (size here) offset begins in rw (at, long) refl;
    full = sym (ap one_if has_room);
  }

pub look_same : (poll : Poll) (here : Look) (before : List Row) {after other : List Row} {added other_added : List Mark} {gain other_gain : Gain}
    → after ≡ other → added ≡ other_added → gain ≡ other_gain → TakesLook poll here (step before other other_gain other_added) → TakesLook poll here (step before after gain added)
look_same poll here before rows lines counts taken = rw (rows, lines, counts) taken

pub start_within : (at_end : Bool) (all : ℕ) → cond at_end all 0 ≤ all
start_within true all = omega arith
start_within false all = omega arith

-- how far the bytes go that were read on
record Reaches (poll : Poll) (here : Look) (offset : ℕ) (ending : Ending) (given : List ℕ) (gain : Gain) (added : List Mark) : Type 0 where
  ends : EndsAt here ending
  reaches : offset ≤ here.end
  are : given ≡ piece here offset
  sums : (found : Outcome) → offset_found poll here found ≡ Some offset → is_passed_as_compressed here found ≡ false → is_left_out here found ≡ false → IsGainOf poll here found added gain

module _ (poll : Poll) (path : List ℕ) (known : RowFile) (row : Row) (now : Step) (found : Found) (old new : World)
    (on : IsReadOn poll known row now old new) (is_found : found ≡ Read on.ending on.more (length now.added)) (seen : ℕ) (moment : History) (at : IsOpenAt known.file seen moment old) (some : 0 < known.file.size) where
  abbrev the_look : Look
  the_look = look_at path seen moment (end_for on.ending known.file.size (row.offset + length on.given)) false

  reaches_for : (ending : Ending) → on.ending ≡ ending → Reaches poll the_look row.offset on.ending on.given (gain_of found) now.added
  reaches_for Whole is =
      let end : the_look.end ≡ known.file.size = ap (λ e. end_for e known.file.size (row.offset + length on.given)) is in
      record {
        ends = record { within = omega (arith, end, at.size_then); whole = λ _. omega (arith, end, at.size_then); partly = λ not. absurd (not is) };
        reaches = omega (arith, end, on.begins);
        are = piece_is the_look row.offset on.given (stood_then known.file seen moment old new row.offset on.given on.ending at (omega (arith, on.goes.within)) on.reads) (omega (arith, end, on.goes.whole is));
        sums = λ o offset no_gzip has_room.
            subst (λ (g : Gain). IsGainOf poll the_look o now.added g) (sym (ap gain_of is_found ∙ ap (λ (e : Ending). gain_of (Read e on.more (length now.added))) is))
            (gain_whole poll the_look o row.offset offset no_gzip has_room refl (omega (arith, some, at.size_then)) (omega (arith, on.begins, at.size_then)) now.added on.more (end ∙ at.size_then) (on.left is ∙ ap (nat_lt (row.offset + most_taken)) at.size_then));
      }
  reaches_for Failed is =
      let end : the_look.end ≡ row.offset + length on.given = ap (λ e. end_for e known.file.size (row.offset + length on.given)) is in
      let not_whole : on.ending ≡ Whole → ⊥ = λ e. (let never : Failed ≡ Whole = sym is ∙ e in cc) in
      let part = on.goes.partly not_whole in
      record {
        ends = record { within = omega (arith, end, part, at.size_then); whole = λ e. absurd (not_whole e); partly = λ _. omega (arith, end, part, at.size_then) };
        reaches = omega (arith, end);
        are = piece_is the_look row.offset on.given (stood_then known.file seen moment old new row.offset on.given on.ending at (omega (arith, on.goes.within)) on.reads) (omega (arith, end, part));
        sums = λ o offset no_gzip has_room.
            subst (λ (g : Gain). IsGainOf poll the_look o now.added g) (sym (ap gain_of is_found ∙ ap (λ (e : Ending). gain_of (Read e on.more (length now.added))) is))
            (gain_failed poll the_look o row.offset offset no_gzip has_room refl (omega (arith, some, at.size_then)) (omega (arith, on.begins, at.size_then)) now.added on.more (omega (arith, end, part, at.size_then)) (on.not_left not_whole));
      }
  reaches_for Shrunk is = absurd (on.reads.grows seen (still_open known.file seen moment old at) is)

-- what was read of a file whose row is known, or is made
module _ (poll : Poll) (here : Look) (before : List Row) (read : here.skipped ≡ false) (some : 0 < size here) (plain : is_compressed (front poll.rules here) ≡ false) (count : ℕ) where
  cost_known : (place : ℕ) (row : Row) → slice_get before place ≡ Some row → place_of (front poll.rules here) before ≡ Some place → count ≤ min most_taken (size here - row.offset) → count ≤ cost_on here (outcome poll.rules before here)
  cost_known place row at known few = subst (λ (o : Outcome). count ≤ cost_on here o) (sym (is_known poll here before read some plain place row at known)) few

  cost_new : place_of (front poll.rules here) before ≡ None → length before < row_limit → (offset : ℕ) → count ≤ min most_taken (size here - offset) → count ≤ cost_on here (outcome poll.rules before here)
  cost_new none room offset few = subst (λ (o : Outcome). count ≤ cost_on here o) (sym (is_fresh poll here before read some plain none room)) (omega (arith, few))

-- a row that is made
pub new_is : (setup : Setup) (path seen_front : List ℕ) (all id : ℕ) (here : Look) → here.path ≡ path → all ≡ size here → seen_front ≡ front (rules_in setup) here
    → admitted setup all path seen_front id ≡ new_row (poll_of setup) here id
new_is setup path seen_front all id here same_path full is_front = rw (sym same_path, is_front, full) refl

-- a row that is found, or made, and then read on
module _ (setup : Setup) (of_file : SeenFile) (plain : is_compressed of_file.front.now ≡ false) (some : 0 < of_file.file.size)
    (before mid after : List Row) (place : ℕ) (added : List Mark) (found : Found) (count : ℕ) (old new : World) where
  abbrev gain : Gain
  gain = with_taken count (gain_of found)

  abbrev known_file : RowFile
  known_file = record { file = of_file.file; place = place }

  abbrev read_step : Step
  read_step = step mid after gain added

  abbrev Seen : Type 0
  Seen = SeenTaken (poll_of setup) of_file (step before after gain added) old new

  known_short : (row : Row) → slice_get mid place ≡ Some row → IsShorter of_file.file row read_step old new → found ≡ Shorter → count ≤ min most_taken (of_file.file.size - row.offset) → IsKnown of_file.front.now before place mid → Seen
  known_short row at shorter is_found few known =
      let same_row : row ≡ with_front of_file.front.now known.row =
      same_Some row (with_front of_file.front.now known.row) (sym at ∙ ap (λ (l : List Row). slice_get l place) known.grown ∙ get_set before place known.row (with_front of_file.front.now known.row) known.at) in
      let short : of_file.file.size < known.row.offset = omega (arith, shorter.short, ap (λ (r : Row). r.offset) same_row) in
      record {
        handles = ap (λ (w : World). w.handles) shorter.still;
        moves = subst (λ (w : World). Moves old.history w.history) (sym shorter.still) (moves_none old.history);
        end = of_file.file.size;
        looks = λ seen moment seen_at.
            let here = look_at of_file.path.now seen moment of_file.file.size false in
            let is_front : of_file.front.now ≡ front (rules_in setup) here = seen_at.front_is in
            let full : of_file.file.size ≡ size here = seen_at.open_at.size_then in
            let taken = takes_short (poll_of setup) here before refl (omega (arith, some, full)) (subst (λ (f : List ℕ). is_compressed f ≡ false) is_front plain) place known.row known.at
            (subst (λ (f : List ℕ). place_of f before ≡ Some place) is_front known.first_one) (omega (arith, short, full)) full in
            look_with (poll_of setup) here before after added (gain_of found) count
            (look_same (poll_of setup) here before (shorter.same ∙ known.grown ∙ ap (λ (f : List ℕ). slice_set before place (with_front f known.row)) is_front) shorter.none (ap gain_of is_found) taken);
        cost = λ seen moment seen_at.
            let here = look_at of_file.path.now seen moment of_file.file.size false in
            let is_front : of_file.front.now ≡ front (rules_in setup) here = seen_at.front_is in
            let full : of_file.file.size ≡ size here = seen_at.open_at.size_then in
            cost_known (poll_of setup) here before refl (omega (arith, some, full)) (subst (λ (f : List ℕ). is_compressed f ≡ false) is_front plain) count place known.row known.at
            (subst (λ (f : List ℕ). place_of f before ≡ Some place) is_front known.first_one) (omega (arith, few, full, ap (λ (r : Row). r.offset) same_row));
      }

  known_on : (row : Row) → slice_get mid place ≡ Some row → (on : IsReadOn (poll_of setup) known_file row read_step old new) → found ≡ Read on.ending on.more (length added) → count ≤ min most_taken (of_file.file.size - row.offset) → IsKnown of_file.front.now before place mid → Seen
  known_on row at on is_found few known = record {
    handles = on.reads.handles;
    moves = on.reads.moves;
    end = end_for on.ending of_file.file.size (row.offset + length on.given);
    looks = λ seen moment seen_at.
        let here = look_at of_file.path.now seen moment (end_for on.ending of_file.file.size (row.offset + length on.given)) false in
        let is_front : of_file.front.now ≡ front (rules_in setup) here = seen_at.front_is in
        let full : of_file.file.size ≡ size here = seen_at.open_at.size_then in
        let seen_known : IsKnown (front (rules_in setup) here) before place mid = subst (λ (f : List ℕ). IsKnown f before place mid) is_front known in
        let same_row : row ≡ with_front (front (rules_in setup) here) seen_known.row =
        same_Some row (with_front (front (rules_in setup) here) seen_known.row) (sym at ∙ ap (λ (l : List Row). slice_get l place) seen_known.grown ∙ get_set before place seen_known.row (with_front (front (rules_in setup) here) seen_known.row) seen_known.at) in
        let same_offset : row.offset ≡ seen_known.row.offset = ap (λ (r : Row). r.offset) same_row in
        let far = reaches_for (poll_of setup) of_file.path.now known_file row read_step found old new on is_found seen moment seen_at.open_at some on.ending refl in
        look_with (poll_of setup) here before after added (gain_of found) count
        (takes_on (poll_of setup) here before refl (omega (arith, some, full)) (subst (λ (f : List ℕ). is_compressed f ≡ false) is_front plain) place seen_known.row seen_known.at seen_known.first_one
        on.ending on.given after added (gain_of found) (omega (arith, same_offset, on.begins, full)) far.ends (omega (arith, same_offset, far.reaches)) (far.are ∙ ap (piece here) same_offset)
        (on.read_row ∙ ap (λ (l : List Row). slice_set l place (row_read (rules_in setup) of_file.file.size on.ending on.given row)) seen_known.grown
        ∙ ap (λ (r : Row). slice_set (slice_set before place (with_front (front (rules_in setup) here) seen_known.row)) place (row_read (rules_in setup) of_file.file.size on.ending on.given r)) same_row
        ∙ ap (λ n. slice_set (slice_set before place (with_front (front (rules_in setup) here) seen_known.row)) place (row_read (rules_in setup) n on.ending on.given (with_front (front (rules_in setup) here) seen_known.row))) full)
        (on.lines ∙ ap (λ (r : Row). lines_read (poll_of setup) of_file.file.size on.ending on.given r) same_row
        ∙ ap (λ n. lines_read (poll_of setup) n on.ending on.given (with_front (front (rules_in setup) here) seen_known.row)) full
        ∙ lines_others (poll_of setup) (size here) on.ending on.given (front (rules_in setup) here) seen_known.row.start seen_known.row.born seen_known.row.ends seen_known.row)
        (far.sums (finds_row place seen_known.row) (ap Some (sym same_offset)) refl refl));
    cost = λ seen moment seen_at.
        let here = look_at of_file.path.now seen moment (end_for on.ending of_file.file.size (row.offset + length on.given)) false in
        let is_front : of_file.front.now ≡ front (rules_in setup) here = seen_at.front_is in
        let full : of_file.file.size ≡ size here = seen_at.open_at.size_then in
        let same_row : row ≡ with_front of_file.front.now known.row =
        same_Some row (with_front of_file.front.now known.row) (sym at ∙ ap (λ (l : List Row). slice_get l place) known.grown ∙ get_set before place known.row (with_front of_file.front.now known.row) known.at) in
        cost_known (poll_of setup) here before refl (omega (arith, some, full)) (subst (λ (f : List ℕ). is_compressed f ≡ false) is_front plain) count place known.row known.at
        (subst (λ (f : List ℕ). place_of f before ≡ Some place) is_front known.first_one) (omega (arith, few, full, ap (λ (r : Row). r.offset) same_row));
  }

  new_short : (row : Row) → slice_get mid place ≡ Some row → IsShorter of_file.file row read_step old new → IsAdmitted setup of_file before place mid → ⊥
  new_short row at shorter fresh =
      let added_row : Row = admitted setup of_file.file.size of_file.path.now of_file.front.now (length before + 1) in
      let same_row : row ≡ added_row = same_Some row added_row (sym at ∙ ap (λ (l : List Row). slice_get l place) fresh.added ∙ ap (slice_get (before ++ added_row ∷ [])) fresh.last ∙ push_there before added_row) in
      omega (arith, shorter.short, ap (λ (r : Row). r.offset) same_row, start_within (setup.first && (rules_in setup).from_end) of_file.file.size)

  new_on : (row : Row) → slice_get mid place ≡ Some row → (on : IsReadOn (poll_of setup) known_file row read_step old new) → found ≡ Read on.ending on.more (length added) → count ≤ min most_taken (of_file.file.size - row.offset) → IsAdmitted setup of_file before place mid → Seen
  new_on row at on is_found few fresh = record {
    handles = on.reads.handles;
    moves = on.reads.moves;
    end = end_for on.ending of_file.file.size (row.offset + length on.given);
    looks = λ seen moment seen_at.
        let here = look_at of_file.path.now seen moment (end_for on.ending of_file.file.size (row.offset + length on.given)) false in
        let is_front : of_file.front.now ≡ front (rules_in setup) here = seen_at.front_is in
        let full : of_file.file.size ≡ size here = seen_at.open_at.size_then in
        let added_row : Row = admitted setup of_file.file.size of_file.path.now of_file.front.now (length before + 1) in
        let same_row : row ≡ added_row = same_Some row added_row (sym at ∙ ap (λ (l : List Row). slice_get l place) fresh.added ∙ ap (slice_get (before ++ added_row ∷ [])) fresh.last ∙ push_there before added_row) in
        let far = reaches_for (poll_of setup) of_file.path.now known_file row read_step found old new on is_found seen moment seen_at.open_at some on.ending refl in
        let is : row ≡ new_row (poll_of setup) here (length before + 1) = same_row ∙ new_is setup of_file.path.now of_file.front.now of_file.file.size (length before + 1) here refl full is_front in
        look_with (poll_of setup) here before after added (gain_of found) count
        (takes_new (poll_of setup) here before refl (omega (arith, some, full)) (subst (λ (f : List ℕ). is_compressed f ≡ false) is_front plain)
        row on.ending on.given after added (gain_of found) is (subst (λ (f : List ℕ). place_of f before ≡ None) is_front fresh.none) fresh.room (omega (arith, on.begins, full)) far.ends far.reaches far.are
        (on.read_row ∙ ap (λ n. slice_set mid n (row_read (rules_in setup) of_file.file.size on.ending on.given row)) fresh.last
        ∙ ap (λ (l : List Row). slice_set l (length before) (row_read (rules_in setup) of_file.file.size on.ending on.given row)) (fresh.added ∙ ap (λ (r : Row). before ++ r ∷ []) (sym same_row))
        ∙ ap (λ n. slice_set (before ++ row ∷ []) (length before) (row_read (rules_in setup) n on.ending on.given row)) full)
        (on.lines ∙ ap (λ n. lines_read (poll_of setup) n on.ending on.given row) full)
        (far.sums finds_new (ap (λ (r : Row). Some r.offset) (sym is)) refl refl));
    cost = λ seen moment seen_at.
        let here = look_at of_file.path.now seen moment (end_for on.ending of_file.file.size (row.offset + length on.given)) false in
        let is_front : of_file.front.now ≡ front (rules_in setup) here = seen_at.front_is in
        let full : of_file.file.size ≡ size here = seen_at.open_at.size_then in
        cost_new (poll_of setup) here before refl (omega (arith, some, full)) (subst (λ (f : List ℕ). is_compressed f ≡ false) is_front plain) count
        (subst (λ (f : List ℕ). place_of f before ≡ None) is_front fresh.none) fresh.room row.offset (omega (arith, few, full));
  }

  pub seen_taken : Settles setup of_file before (Some place) mid → RowTaken (poll_of setup) known_file found read_step old new → Seen
  seen_taken settles taken = elim taken.how [
    | inl shorter ↦ elim settles [
      | inl known ↦ known_short taken.row taken.there shorter.0 shorter.1 taken.cost known
      | inr fresh ↦ absurd (new_short taken.row taken.there shorter.0 fresh)
    ]
    | inr on ↦ elim settles [
      | inl known ↦ known_on taken.row taken.there on.0 on.1 taken.cost known
      | inr fresh ↦ new_on taken.row taken.there on.0 on.1 taken.cost fresh
    ]
  ]
