-- What waits behind the tokens of a file that was read on, and is flushed.
use Rattle.std.proofs.Common.{◌≡◌, ℕ, ◌+◌, ◌≤◌, List, [], ◌++◌, length, Bool, true, false, sym, ap, subst, ◌∙◌, inl, inr, arith, length-drop}
use Rattle.std.proofs.lemmas.List.{append-nil}
use Rattle.outside.specs.TreeMeaning.{TreeMeaning}
use Rattle.outside.specs.World.{Told}
use Rattle.standing.specs.AreRules.{AreRules}
use Rattle.standing.specs.Look.{fed, lines_of}
use Rattle.standing.specs.Marks.{Mark}
use Rattle.standing.specs.Rows.{Row}
use Rattle.standing.specs.Tokens.{used}
use Rattle.file_pass.specs.DiskTerms.{Appends}
use Rattle.file_pass.specs.Fed.{poll_of, rules_in, feeding_row, piece_in, HasRead, ReadsOn, FillsPart, FillsUp}
use Rattle.file_pass.specs.Flushed.{waiting, looks_on, look_of, row_looked, lines_looked, row_read, lines_read}
use Rattle.file_pass.specs.Full.{Crosses, lines_text}
use Rattle.file_pass.specs.Moment.{Meanings, FeedingAt, feeding_at, moment}
use Rattle.file_pass.specs.Reads.{Reads}
use Rattle.file_pass.specs.TreeTerms.{HasEnding}
use Rattle.file_pass.specs.declared.ending.Ending.{Ending}
use Rattle.file_pass.specs.declared.feeding.Feeding.{Feeding}
use Rattle.file_pass.specs.declared.setup.Setup.{Setup}
use Rattle.file_pass.proofs.DiskLemmas.{appends_same, appends_then}
use Rattle.file_pass.proofs.FlushLemmas.{on_whole, read_looked, read_plain, lines_with_look, lines_plain, flushed_looked, flushed_plain}
use Rattle.file_pass.proofs.GoingOn.{crosses_later, text_append}
use Rattle.file_pass.proofs.FeedingOn.{few_tokens}

-- with a line of some of the bytes
pub fills_part : {T D : Type 0} (trees : TreeMeaning T) (setup : Setup) (size : ℕ) (before : FeedingAt T D) (tree_after : T) → FillsPart trees setup size before tree_after → FillsUp trees setup size before tree_after
fills_part trees setup size before tree_after part = record { given = part.given; within = part.within; crosses = inl part.crosses; world = part.world; stood = part.stood }

module _ {T D : Type 0} (means : Meanings T D) (setup : Setup) (laws : AreRules (rules_in setup)) (ending : Ending) (before mid : FeedingAt T D) (has : HasRead means setup ending before mid) where
  abbrev began : Row
  began = feeding_row before.feeding

  abbrev whole_size : ℕ
  whole_size = before.feeding.file.size

  abbrev on : Bool
  on = looks_on (rules_in setup) whole_size ending before.feeding.offset

  -- what waits
  abbrev left : List ℕ
  left = waiting (rules_in setup) has.given

  records_mid : mid.feeding.state.records + before.feeding.offset ≤ before.feeding.state.records + mid.feeding.offset
  records_mid = omega (arith, ap (λ (r : Row). r.records) has.row, ap (λ (r : Row). r.offset) has.row, few_tokens (poll_of setup) laws has.given)

  -- it waits up to the file's end
  pub size_is : on ≡ true → mid.feeding.offset + length mid.feeding.carried.items ≡ whole_size
  size_is looks =
      let far = on_whole (rules_in setup) whole_size ending before.feeding.offset looks in
      omega (arith, has.goes.whole far.0, far.2, ap (λ (r : Row). r.offset) has.row, ap length has.rest, length-drop (used (rules_in setup) has.given) has.given, laws.tokens.within has.given)

  -- and no token of it is one that more bytes can't change
  pub no_cuts : (rules_in setup).cuts mid.feeding.carried.items ≡ []
  no_cuts = ap (rules_in setup).cuts has.rest ∙ laws.tokens.going_on has.given ((rules_in setup).cuts has.given) [] (sym (append-nil ((rules_in setup).cuts has.given)))

  -- where it isn't looked on
  pub reads_plain : before.feeding.flushed ≡ false → on ≡ false → ReadsOn means setup ending before mid
  reads_plain not_yet off = record {
    given = has.given;
    goes = has.goes;
    row = has.row ∙ sym (read_plain (poll_of setup) whole_size ending has.given began off);
    flushed = has.stood ∙ not_yet ∙ sym (flushed_plain (poll_of setup) whole_size ending has.given began off);
    few = records_mid;
    appends = appends_same means.disks (lines_text (lines_of (poll_of setup) has.given began)) _ before.end mid.end before.outside.disk mid.outside.disk (ap lines_text (sym (lines_plain (poll_of setup) whole_size ending has.given began off))) has.appends;
    world = has.world;
    cause = has.cause;
  }

  module _ (looks : on ≡ true) where
    abbrev size_mid : ℕ
    size_mid = mid.feeding.offset + length mid.feeding.carried.items

    abbrev bytes : List ℕ
    bytes = mid.feeding.carried.items

    look_same : look_of (rules_in setup) size_mid (feeding_row mid.feeding) ≡ look_of (rules_in setup) whole_size (fed (rules_in setup) has.given began)
    look_same = ap (λ n. look_of (rules_in setup) n (feeding_row mid.feeding)) (size_is looks) ∙ ap (look_of (rules_in setup) whole_size) has.row

    row_same : row_looked (rules_in setup) size_mid bytes (feeding_row mid.feeding) ≡ row_read (rules_in setup) whole_size ending has.given began
    row_same =
        ap (λ n. row_looked (rules_in setup) n bytes (feeding_row mid.feeding)) (size_is looks) ∙ ap (λ b. row_looked (rules_in setup) whole_size b (feeding_row mid.feeding)) has.rest ∙ ap (row_looked (rules_in setup) whole_size left) has.row
        ∙ sym (read_looked (poll_of setup) whole_size ending has.given began looks)

    lines_same : lines_of (poll_of setup) has.given began ++ lines_looked (poll_of setup) size_mid bytes (feeding_row mid.feeding) ≡ lines_read (poll_of setup) whole_size ending has.given began
    lines_same =
        ap (λ (ms : List Mark). lines_of (poll_of setup) has.given began ++ ms)
        (ap (λ n. lines_looked (poll_of setup) n bytes (feeding_row mid.feeding)) (size_is looks) ∙ ap (λ b. lines_looked (poll_of setup) whole_size b (feeding_row mid.feeding)) has.rest ∙ ap (lines_looked (poll_of setup) whole_size left) has.row)
        ∙ sym (lines_with_look (poll_of setup) whole_size ending has.given began looks)

    -- where it is
    pub reads_looked : (after : Feeding) (end_after : ℕ) (disk_after : D) → means.disks.images.tells mid.outside.disk ≡ means.disks.images.tells before.outside.disk
        → feeding_row after ≡ row_looked (rules_in setup) size_mid bytes (feeding_row mid.feeding) → after.flushed ≡ (look_of (rules_in setup) size_mid (feeding_row mid.feeding)).1 → after.state.records + mid.feeding.offset ≤ mid.feeding.state.records + after.offset
        → Appends means.disks (lines_text (lines_looked (poll_of setup) size_mid bytes (feeding_row mid.feeding))) mid.end end_after mid.outside.disk disk_after
        → ReadsOn means setup ending before (feeding_at after end_after (moment mid.outside.tree disk_after))
    reads_looked after end_after disk_after tells row flag few appends = record {
      given = has.given;
      goes = has.goes;
      row = row ∙ row_same;
      flushed = flag ∙ ap (λ l. l.1) look_same ∙ sym (flushed_looked (poll_of setup) whole_size ending has.given began looks);
      few = omega (arith, few, records_mid);
      appends = appends_same means.disks _ _ before.end end_after before.outside.disk disk_after
          (sym (text_append (lines_of (poll_of setup) has.given began) (lines_looked (poll_of setup) size_mid bytes (feeding_row mid.feeding))) ∙ ap lines_text lines_same)
          (appends_then means.disks (lines_text (lines_of (poll_of setup) has.given began)) (lines_text (lines_looked (poll_of setup) size_mid bytes (feeding_row mid.feeding))) before.end mid.end end_after before.outside.disk mid.outside.disk disk_after tells has.appends appends);
      world = has.world;
      cause = has.cause;
    }

    -- with a line of what was flushed the output would be too long
    pub fills_looked : (size : ℕ) → Crosses setup.limit mid.end (lines_looked (poll_of setup) size_mid bytes (feeding_row mid.feeding)) size → FillsUp means.trees setup size before mid.outside.tree
    fills_looked size crosses =
        let far = on_whole (rules_in setup) whole_size ending before.feeding.offset looks in
        let all : Crosses setup.limit before.end (lines_read (poll_of setup) whole_size ending has.given began) size =
        subst (λ (ms : List Mark). Crosses setup.limit before.end ms size) lines_same
        (crosses_later setup.limit before.end mid.end (lines_of (poll_of setup) has.given began) (lines_looked (poll_of setup) size_mid bytes (feeding_row mid.feeding)) size has.appends.end_is crosses) in
        record {
          given = has.given;
          within = has.goes.within;
          crosses = inr (record { whole = has.goes.whole far.0; crosses = subst (λ (e : Ending). Crosses setup.limit before.end (lines_read (poll_of setup) whole_size e has.given began) size) far.0 all });
          world = subst (λ (e : Ending). Told (Reads (piece_in before.feeding has.given e)) (means.trees.world before.outside.tree) (means.trees.world mid.outside.tree)) far.0 has.world;
          stood = subst (λ (e : Ending). HasEnding e (means.trees.faults before.outside.tree) (means.trees.faults mid.outside.tree)) far.0 has.cause;
        }
