-- A row that is read on.
use Rattle.std.proofs.Common.{◌≡◌, ℕ, ◌+◌, ◌-◌, ◌<◌, ◌≤◌, ◌^◌, List, [], length, min, Bool, false, true, nat_lt, refl, sym, ap, subst, ◌∙◌, inl, inr, arith}
use Rattle.std.proofs.lemmas.Option.{same_Some}
use Rattle.std.proofs.lemmas.List.{length-set}
use Rattle.std.proofs.lemmas.Bool.Decides.{nat_tests}
use Rattle.std.specs.Prelude.{Some, slice_get, slice_set, IsTrue}
use Rattle.file_tracker.specs.Places.{with_look, with_progress, HasGone}
use Rattle.op_kinds.specs.StateTexts.{state_text}
use Rattle.outside.proofs.Telling.{told_same, told_weaker}
use Rattle.outside.specs.Count.{raised}
use Rattle.outside.specs.World.{World, Told}
use Rattle.standing.specs.AreRules.{AreRules}
use Rattle.standing.specs.Limits.{most_taken}
use Rattle.standing.specs.Look.{fed, lines_of}
use Rattle.standing.specs.Marks.{Mark}
use Rattle.standing.specs.Rows.{Row}
use Rattle.file_pass.specs.DiskTerms.{Appends}
use Rattle.file_pass.specs.Fed.{poll_of, CrossesRead, GoesTo, IsSane, ReadsOn, FillsUp, feeding_row, last_in, last_of, piece_in, rules_in}
use Rattle.file_pass.specs.Flushed.{row_read, lines_read, is_flushed}
use Rattle.file_pass.specs.Full.{Crosses, lines_text, overflow}
use Rattle.file_pass.specs.Gain.{failures}
use Rattle.file_pass.specs.Grown.{LosesNothing, HasGrown}
use Rattle.file_pass.specs.Moment.{Meanings, Moment, FeedingAt, RowsAt, feeding_at}
use Rattle.file_pass.specs.Inner.Noted.{MayBeNoted, noted_row}
use Rattle.file_pass.specs.Overflow.{RowFills}
use Rattle.file_pass.specs.Reads.{Reads, piece_of}
use Rattle.file_pass.specs.Inner.RowTaken.{RowTaken}
use Rattle.file_pass.specs.Sane.{IsSaneTaking}
use Rattle.file_pass.specs.Taken.{Finds}
use Rattle.file_pass.specs.TreeTerms.{HasEnding}
use Rattle.file_pass.specs.declared.counts.Counts.{Counts}
use Rattle.file_pass.specs.declared.taking.Taking.{Taking}
use Rattle.file_pass.specs.declared.ending.Ending.{Ending}
use Rattle.file_pass.specs.declared.ending.Ending.TheVariants.{Whole, Failed, Shrunk}
use Rattle.file_pass.specs.declared.ending.OpenFile.{OpenFile}
use Rattle.file_pass.specs.declared.ending.RowFile.{RowFile}
use Rattle.file_pass.specs.declared.feeding.Feeding.{Feeding}
use Rattle.file_pass.specs.declared.found.Found.TheVariants.{Shorter, Read}
use Rattle.file_pass.specs.declared.setup.Setup.{Setup}
use Rattle.file_pass.proofs.DiskLemmas.{appends_none, appends_same}
use Rattle.file_pass.proofs.FlushLemmas.{RowRead, read_row, never_looked, others, read_others, lines_others, flushed_others, lines_counted}
use Rattle.file_pass.proofs.SaneLemmas.{sane_progress}

-- where the row's file is read on from
abbrev pub begins_of : Row → Row
begins_of row = others [] 0 0 [] row

raised_by : (ending : Ending) (before after : ℕ) → HasEnding ending before after → raised before (failures ending) ≤ after
raised_by Whole before after same = omega (arith, same)
raised_by Failed before after rose = rose.1
raised_by Shrunk before after same = omega (arith, same)

-- a state that was restored of the row
pub restored_row : (row : Row) (feeding : Feeding) → feeding.id ≡ row.id → feeding.path ≡ row.path → feeding.offset ≡ row.offset → feeding.state.records ≡ row.records → feeding.state.lines ≡ row.lines
    → row.state ≡ state_text feeding.state.states.items → feeding.idle.seen ≡ row.seen → feeding.idle.quiet ≡ row.quiet → feeding_row feeding ≡ begins_of row
restored_row row feeding id path offset records lines state seen quiet = cc

module _ (setup : Setup) (laws : AreRules (rules_in setup)) (size : ℕ) (row : Row) (before after : Feeding) (ending : Ending) (given : List ℕ)
    (good : IsTrue ((rules_in setup).is_state row.state)) (inside : row.offset + length given ≤ size) (begins : feeding_row before ≡ begins_of row)
    (feeds : feeding_row after ≡ row_read (rules_in setup) size ending given (feeding_row before)) where
  abbrev then_row : Row
  then_row = row_read (rules_in setup) size ending given row

  on_row : feeding_row after ≡ begins_of then_row
  on_row = feeds ∙ ap (row_read (rules_in setup) size ending given) begins ∙ read_others (rules_in setup) size ending given [] 0 0 [] row

  facts : RowRead (rules_in setup) size row (is_flushed (rules_in setup) size ending given row) then_row
  facts = read_row (poll_of setup) laws size given row good inside ending

  offset_then : after.offset ≡ then_row.offset
  offset_then = ap (λ (r : Row). r.offset) on_row

  records_then : after.state.records ≡ then_row.records
  records_then = ap (λ (r : Row). r.records) on_row

  lines_then : after.state.lines ≡ then_row.lines
  lines_then = ap (λ (r : Row). r.lines) on_row

  state_then : state_text after.state.states.items ≡ then_row.state
  state_then = ap (λ (r : Row). r.state) on_row

  seen_then : after.idle.seen ≡ then_row.seen
  seen_then = ap (λ (r : Row). r.seen) on_row

  quiet_then : after.idle.quiet ≡ then_row.quiet
  quiet_then = ap (λ (r : Row). r.quiet) on_row

  progress_then : noted_row after row ≡ with_progress then_row.offset then_row.records then_row.lines then_row.state row
  progress_then =
      ap (λ n. with_progress n after.state.records after.state.lines (state_text after.state.states.items) row) offset_then
      ∙ ap (λ n. with_progress then_row.offset n after.state.lines (state_text after.state.states.items) row) records_then
      ∙ ap (λ n. with_progress then_row.offset then_row.records n (state_text after.state.states.items) row) lines_then
      ∙ ap (λ s. with_progress then_row.offset then_row.records then_row.lines s row) state_then

  pub noted_is : with_look after.idle.seen after.idle.quiet (noted_row after row) ≡ then_row
  noted_is =
      ap (λ n. with_look n after.idle.quiet (noted_row after row)) seen_then
      ∙ ap (λ n. with_look then_row.seen n (noted_row after row)) quiet_then
      ∙ ap (with_look then_row.seen then_row.quiet) progress_then
      ∙ sym facts.same

  pub good_then : IsTrue ((rules_in setup).is_state (state_text after.state.states.items))
  good_then = subst (λ (state : List ℕ). IsTrue ((rules_in setup).is_state state)) (sym state_then) facts.good

  pub rises : HasGone row after.offset after.state.records after.state.lines
  rises = record {
    offset_rises = omega (arith, offset_then, facts.rises.offset_rises);
    records_rise = omega (arith, records_then, facts.rises.records_rise);
    lines_rise = omega (arith, lines_then, facts.rises.lines_rise);
  }

  pub holds : LosesNothing (rules_in setup) row (noted_row after row)
  holds = subst (LosesNothing (rules_in setup) row) (sym progress_then) facts.held

  same_flag : is_flushed (rules_in setup) size ending given (feeding_row before) ≡ is_flushed (rules_in setup) size ending given row
  same_flag = ap (is_flushed (rules_in setup) size ending given) begins ∙ flushed_others (rules_in setup) size ending given [] 0 0 [] row

  pub grows : after.flushed ≡ is_flushed (rules_in setup) size ending given (feeding_row before) → after.flushed ≡ true → HasGrown (rules_in setup) row (noted_row after row)
  grows flag is = subst (HasGrown (rules_in setup) row) (sym progress_then) (facts.grown (sym same_flag ∙ sym flag ∙ is))

  -- where it came no further, and nothing was flushed, nothing is noted
  pub stays : after.flushed ≡ is_flushed (rules_in setup) size ending given (feeding_row before) → after.flushed ≡ false → after.offset ≤ row.offset → noted_row after row ≡ row
  stays flag is no_further = progress_then ∙ facts.stays (sym same_flag ∙ sym flag ∙ is) (omega (arith, offset_then, no_further))

  -- where nothing is ever flushed, no look is remembered
  pub look_stays : (rules_in setup).flush_after ≡ 0 → with_look after.idle.seen after.idle.quiet (noted_row after row) ≡ noted_row after row
  look_stays never =
      let plain : then_row ≡ fed (rules_in setup) given row = never_looked (rules_in setup) size ending given row never in
      ap (λ n. with_look n after.idle.quiet (noted_row after row)) (seen_then ∙ ap (λ (r : Row). r.seen) plain)
      ∙ ap (λ n. with_look row.seen n (noted_row after row)) (quiet_then ∙ ap (λ (r : Row). r.quiet) plain)

  pub lines_are : lines_read (poll_of setup) size ending given (feeding_row before) ≡ lines_read (poll_of setup) size ending given row
  lines_are = ap (lines_read (poll_of setup) size ending given) begins ∙ lines_others (poll_of setup) size ending given [] 0 0 [] row

  pub lines_more : after.state.lines ≡ row.lines + length (lines_read (poll_of setup) size ending given row)
  lines_more = lines_then ∙ lines_counted (poll_of setup) size ending given row

  pub lines_later : row.lines + (after.state.lines - row.lines) ≡ after.state.lines
  lines_later = omega (arith, lines_more)

  -- the numbers that are noted
  pub far_within : size ≤ 2 ^ 62 → after.offset ≤ 2 ^ 62
  far_within small = omega (arith, offset_then, facts.within, small)

module _ {T D : Type 0} (means : Meanings T D) (setup : Setup) (at : RowFile) (row : Row) (start : RowsAt T D) (there : slice_get start.rows at.place ≡ Some row) where
  -- the file is shorter than the row's offset
  pub takes_shorter : at.file.size < row.offset → Finds means (RowTaken (poll_of setup) at Shorter) Shorter start start
  takes_shorter short = record {
    bytes = 0;
    takes = record {
      added = [];
      lines = refl;
      appends = appends_none means.disks start.end start.outside.disk;
      rose = omega arith;
      read = omega arith;
      world = told_same _ (means.trees.world start.outside.tree) (λ world. record { row = row; there = there; cost = omega arith; how = inl (record { short = short; same = refl; none = refl; still = refl }, refl) });
    };
  }

  -- from where this file, which is the one that is open, is read on
  module _ (laws : AreRules (rules_in setup)) (good : IsTrue ((rules_in setup).is_state row.state)) (feeding : Feeding) (is_open : feeding.file ≡ at.file) (begins : feeding_row feeding ≡ begins_of row) (inside : row.offset ≤ at.file.size) where
    abbrev before : FeedingAt T D
    before = feeding_at feeding start.end start.outside

    same_begin : feeding.offset ≡ row.offset
    same_begin = ap (λ (r : Row). r.offset) begins

    same_size : feeding.file.size ≡ at.file.size
    same_size = ap (λ (f : OpenFile). f.size) is_open

    same_reads : (given : List ℕ) (ending : Ending) (old new : World) → Reads (piece_in feeding given ending) old new → Reads (piece_of at.file row.offset given ending) old new
    same_reads given ending old new reads = subst (λ (f : OpenFile). Reads (piece_of f row.offset given ending) old new) is_open (subst (λ from. Reads (piece_of feeding.file from given ending) old new) same_begin reads)

    -- with a line of it the output would be too long
    pub row_full : (full : ℕ) (tree_after : T) → FillsUp means.trees setup full before tree_after → Told (RowFills (poll_of setup) (overflow setup.limit start.end full) at start.rows) (means.trees.world start.outside.tree) (means.trees.world tree_after)
    row_full full tree_after fills =
        told_weaker _ _ (means.trees.world start.outside.tree) (means.trees.world tree_after) (λ x y reads. record {
          row = row;
          there = there;
          begins = inside;
          given = fills.given;
          within = omega (arith, fills.within, same_begin, same_size);
          crosses = subst (λ (f : OpenFile). CrossesRead (poll_of setup) (overflow setup.limit start.end full) f fills.given row) is_open (fills_row fills.crosses);
          reads = same_reads fills.given Whole x y reads;
        }) fills.world
      where
        fills_row : CrossesRead (poll_of setup) (overflow setup.limit start.end full) feeding.file fills.given (feeding_row feeding) → CrossesRead (poll_of setup) (overflow setup.limit start.end full) feeding.file fills.given row
        fills_row (inl part) = inl (subst (λ (r : Row). Crosses setup.limit start.end (lines_of (poll_of setup) fills.given r) full) begins part)
        fills_row (inr all) =
            inr (record {
              whole = omega (arith, all.whole, same_begin);
              crosses = subst (λ (l : List Mark). Crosses setup.limit start.end l full) (ap (lines_read (poll_of setup) feeding.file.size Whole fills.given) begins ∙ lines_others (poll_of setup) feeding.file.size Whole fills.given [] 0 0 [] row) all.crosses;
            })

    -- it was read on
    pub takes_on_row : (ending : Ending) (after : FeedingAt T D) (more : Bool) (lines : ℕ) (rows_after : List Row) (end_after : ℕ) (on : ReadsOn means setup ending before after) → end_after ≡ after.end
        → (ending ≡ Whole → more ≡ nat_lt most_taken (at.file.size - row.offset)) → ((ending ≡ Whole → ⊥) → more ≡ false) → row.lines + lines ≡ after.feeding.state.lines
        → rows_after ≡ slice_set start.rows at.place (with_look after.feeding.idle.seen after.feeding.idle.quiet (noted_row after.feeding row))
        → means.trees.taken after.outside.tree ≤ means.trees.taken start.outside.tree + (last_in feeding - feeding.offset)
        → Finds means (RowTaken (poll_of setup) at (Read ending more lines)) (Read ending more lines) start (record { rows = rows_after; end = end_after; outside = after.outside })
    takes_on_row ending after more lines rows_after end_after on ends left not_left many noted read =
        let added : List Mark = lines_read (poll_of setup) feeding.file.size ending on.given row in
        let far : row.offset + length on.given ≤ feeding.file.size = omega (arith, on.goes.within, same_begin) in
        let count : lines ≡ length added = omega (arith, many, lines_more setup laws feeding.file.size row feeding after.feeding ending on.given good far begins on.row) in
        record {
          bytes = min most_taken (at.file.size - row.offset);
          takes = record {
            added = added;
            lines = count;
            appends = subst (λ (n : ℕ). Appends means.disks (lines_text added) start.end n start.outside.disk after.outside.disk) (sym ends)
                (appends_same means.disks (lines_text (lines_read (poll_of setup) feeding.file.size ending on.given (feeding_row feeding))) (lines_text added) start.end after.end start.outside.disk after.outside.disk
                (ap lines_text (lines_are setup laws feeding.file.size row feeding after.feeding ending on.given good far begins on.row)) on.appends);
            rose = raised_by ending (means.trees.faults start.outside.tree) (means.trees.faults after.outside.tree) on.cause;
            read = omega (arith, read, same_begin, same_size, inside);
            world = told_weaker _ _ (means.trees.world start.outside.tree) (means.trees.world after.outside.tree) (λ x y reads. record {
              row = row;
              there = there;
              cost = omega arith;
              how = inr (
                record {
                  begins = inside;
                  given = on.given;
                  ending = ending;
                  more = more;
                  goes = subst (λ n. GoesTo (last_of at.file.size n) n on.given ending) same_begin (subst (λ n. GoesTo (last_of n feeding.offset) feeding.offset on.given ending) same_size on.goes);
                  read_row = noted
                      ∙ ap (slice_set start.rows at.place) (noted_is setup laws feeding.file.size row feeding after.feeding ending on.given good far begins on.row ∙ ap (λ n. row_read (rules_in setup) n ending on.given row) same_size);
                  lines = ap (λ n. lines_read (poll_of setup) n ending on.given row) same_size;
                  left = λ is. left is ∙ past row.offset at.file.size inside;
                  not_left = not_left;
                  reads = same_reads on.given ending x y reads;
                },
                ap (Read ending more) count,
              );
            }) on.world;
          };
        }
      where
        past : (offset all : ℕ) → offset ≤ all → nat_lt most_taken (all - offset) ≡ nat_lt (offset + most_taken) all
        past offset all le = grind (arith, nat_tests)

-- the numbers after a file was read on
module _ {T D : Type 0} (means : Meanings T D) (setup : Setup) (laws : AreRules (rules_in setup)) (place : ℕ) (row : Row) (taking next : Taking) (sane : IsSaneTaking setup taking) (at : slice_get taking.tracker place ≡ Some row)
    (feeding : Feeding) (small : feeding.file.size ≤ 2 ^ 62) (begins : feeding_row feeding ≡ begins_of row) (outside : Moment T D) (ending : Ending) (then : FeedingAt T D) (on : ReadsOn means setup ending (feeding_at feeding taking.end outside) then) where
  abbrev after : Feeding
  after = then.feeding

  good : IsTrue ((rules_in setup).is_state row.state)
  good = (sane.rows place row at).state

  started : feeding.offset ≡ row.offset
  started = ap (λ (r : Row). r.offset) begins

  inside : row.offset + length on.given ≤ feeding.file.size
  inside = omega (arith, on.goes.within, started)

  pub may_note : (other : Row) → slice_get taking.tracker place ≡ Some other → MayBeNoted (rules_in setup) after other
  may_note other there = subst (MayBeNoted (rules_in setup) after) (same_Some row other (sym at ∙ there)) (record {
    rises = rises setup laws feeding.file.size row feeding after ending on.given good inside begins on.row;
    held = holds setup laws feeding.file.size row feeding after ending on.given good inside begins on.row;
    grown = grows setup laws feeding.file.size row feeding after ending on.given good inside begins on.row on.flushed;
    same = stays setup laws feeding.file.size row feeding after ending on.given good inside begins on.row on.flushed;
  })

  pub note_look : (rules_in setup).flush_after ≡ 0 → with_look after.idle.seen after.idle.quiet (noted_row after row) ≡ noted_row after row
  note_look = look_stays setup laws feeding.file.size row feeding after ending on.given good inside begins on.row

  pub note_lines : row.lines + (after.state.lines - row.lines) ≡ after.state.lines
  note_lines = lines_later setup laws feeding.file.size row feeding after ending on.given good inside begins on.row

  pub sane_on_row : IsSane setup after then.end → (length row.state < 2 ^ 32 → length (state_text after.state.states.items) < 2 ^ 32) → next.tracker ≡ slice_set taking.tracker place (with_look after.idle.seen after.idle.quiet (noted_row after row))
      → length next.changed.items ≡ length taking.changed.items → next.end ≡ then.end → next.counts ≡ taking.counts → IsSaneTaking setup next
  sane_on_row fed_sane short noted flags end counts =
      let was = sane.rows place row at in
      let later : taking.end ≤ next.end = omega (arith, end, on.appends.end_is) in
      let gone = rises setup laws feeding.file.size row feeding after ending on.given good inside begins on.row in
      let read_then : feeding.state.records ≡ row.records = ap (λ (r : Row). r.records) begins in
      record {
        rows = sane_progress (poll_of setup) taking.end next.end taking.tracker next.tracker place row after.offset after.state.records after.state.lines (state_text after.state.states.items) after.idle.seen after.idle.quiet sane.rows later at noted
            fed_sane.seen fed_sane.quiet gone.offset_rises
            (far_within setup laws feeding.file.size row feeding after ending on.given good inside begins on.row small)
            (omega (arith, on.few, started, read_then, was.records, gone.offset_rises))
            gone.records_rise gone.lines_rise
            (omega (arith, fed_sane.lines, end)) (good_then setup laws feeding.file.size row feeding after ending on.given good inside begins on.row) (short was.short);
        few = omega (arith, sane.few, ap (λ (rows : List Row). length rows) noted, length-set taking.tracker place (with_look after.idle.seen after.idle.quiet (noted_row after row)));
        era = sane.era;
        flags = flags ∙ sane.flags ∙ sym (ap (λ (rows : List Row). length rows) noted ∙ length-set taking.tracker place (with_look after.idle.seen after.idle.quiet (noted_row after row)));
        end_within = omega (arith, fed_sane.end_within, end);
        lines = omega (arith, sane.lines, later, ap (λ (c : Counts). c.lines) counts);
      }
