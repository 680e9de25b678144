-- All looks of a poll keep what stands.
use Rattle.std.proofs.Common.{◌≡◌, ℕ, ◌≤◌, List, [], ◌∷◌, ◌++◌, length, take, Bool, true, false, cond, IsTrue, refl, sym, ap, subst, ◌∙◌, inl, inr, arith, append_assoc}
use Rattle.std.proofs.lemmas.List.{append-nil}
use Rattle.std.proofs.lemmas.List.Concat.{flat_map-append}
use Rattle.std.proofs.lemmas.List.Elements.{All-append, All-nil, All-weaker}
use Rattle.std.specs.List.{All, flat_map}
use Rattle.std.specs.Prelude.{Option, None, Some, IfSome, nat_lt}
use Rattle.outside.specs.World.{History, look}
use Rattle.standing.specs.Apart.{Apart}
use Rattle.standing.specs.Eras.{Eras, AreEras, last_era, texts_of}
use Rattle.standing.specs.Look.{Look, Outcome, skips, finds_nothing, finds_compressed, finds_no_room, finds_new, finds_row, Progress, ComesAt, new_row, piece, size, outcome, progress_after, lines_added, lines_of, all_taken}
use Rattle.standing.specs.Looks.{progress_by, Come}
use Rattle.standing.specs.Pass.{Stretch, Pass, start_at, time_of}
use Rattle.standing.specs.Prefixes.{IsPrefix}
use Rattle.standing.specs.Standing.{Found, nothing, damaged, found, kept, checkpoint_of, Lengthens, Sound, Standing}
use Rattle.standing.specs.Marks.{Mark, numbered}
use Rattle.standing.specs.Poll.{Poll, poll_in, IsPlainIn}
use Rattle.standing.specs.Rows.{Row, Checkpoint, no_checkpoint, IsRowAt, AreNumbered}
use Rattle.standing.specs.Rules.{Rules, output_text}
use Rattle.standing.specs.Stands.{LinesStand, Stands, IsSound, CheckpointStands}
use Rattle.standing.specs.Times.{AreBefore, NoneLater}
use Rattle.standing.proofs.EraLemmas.{last_laws, last_line}
use Rattle.standing.proofs.LookLemmas.{known_stands, new_stands}
use Rattle.standing.proofs.MomentLemmas.{at_look, past_look, look_later, apart_before}
use Rattle.standing.proofs.PrefixLemmas.{prefix-append}
use Rattle.standing.proofs.SoundLemmas.{looks_keep_order}
use Rattle.standing.proofs.OutcomeLemmas.{finds_row-tells, finds_new-tells}
use Rattle.standing.proofs.StandsLemmas.{lines_last}
use Rattle.standing.proofs.TakenLemmas.{taken_is}
use Rattle.standing.proofs.TimeLemmas.{numbered_times, same_before, before_append, kept_before, none_later}

-- ---- the times of the lines that are added

abbrev pub HaveTime : Poll → List Mark → Type 0
HaveTime poll marks = All (λ (mark : Mark). mark.observed ≡ poll.stamp) marks

more_have : (poll : Poll) (marks more : List Mark) → HaveTime poll marks → HaveTime poll more → HaveTime poll (marks ++ more)
more_have poll marks more have also = All-append (λ (mark : Mark). mark.observed ≡ poll.stamp) marks more have also

added_have : (poll : Poll) (here : Look) (row : Row) → HaveTime poll (lines_added poll here row)
unfolding lines_added
added_have poll here row =
    let piece_has : HaveTime poll (lines_of poll (piece here row.offset) row) = numbered_times _ _ _ _ in
    elim (nat_lt (size here) row.offset) as (λ t. HaveTime poll (cond t [] (all_taken poll here row).lines)) [
      | true ↦ All-nil (λ (mark : Mark). mark.observed ≡ poll.stamp)
      | false ↦ taken_is (λ taken. HaveTime poll taken.lines) poll here row (record {
        plain = piece_has;
        looked_at = λ idle. piece_has;
        at_flush = λ idle. more_have poll (lines_of poll (piece here row.offset) row) (numbered _ _ _ _) piece_has (numbered_times _ _ _ _);
      })
    ]

look_has : (poll : Poll) (here : Look) (now : Progress) (found : Outcome) → HaveTime poll now.added → HaveTime poll (progress_after poll here now found).added
look_has poll here now skips have = have
look_has poll here now finds_nothing have = have
look_has poll here now finds_compressed have = have
look_has poll here now finds_no_room have = have
look_has poll here now finds_new have = more_have poll now.added (lines_added poll here (new_row poll here now.next_id)) have (added_have poll here (new_row poll here now.next_id))
look_has poll here now (finds_row place row) have = more_have poll now.added (lines_added poll here row) have (added_have poll here row)

pub looks_have : (poll : Poll) (looks : List Look) (start : Progress) → HaveTime poll start.added → HaveTime poll (progress_by poll looks start).added
looks_have poll [] start have = have
looks_have poll (here ∷ earlier) start have =
    let now : Progress = progress_by poll earlier start in
    look_has poll here now (outcome poll.rules now.rows here) (looks_have poll earlier start have)

-- ---- the looks

-- the rows stand, with the lines from before and those of this poll
abbrev pub ProgressStands : Eras → History → List Mark → Progress → Type 0
ProgressStands eras history before now = LinesStand eras history now.rows now.next_id (before ++ now.added)

module _ (eras : Eras) (laws : AreEras eras) (first : Bool) (stamp : Option ℕ) (asked : IsPlainIn eras first stamp) (before : List Mark) (kept_times : AreBefore stamp before) where
  abbrev poll : Poll
  poll = poll_in eras first stamp

  abbrev size_of_fronts : ℕ
  size_of_fronts = eras.first.front_size

  all_before : (now : Progress) → HaveTime poll now.added → AreBefore stamp (before ++ now.added)
  all_before now have = before_append stamp before now.added kept_times (same_before stamp now.added have)

  stay : (here : Look) (now : Progress) → ProgressStands eras here.moment before now → ProgressStands eras (look here.file ∷ here.moment) before now
  stay here now stands = lines_last eras laws here.moment (look here.file ∷ here.moment) now.rows now.next_id (before ++ now.added) (at_look here.file here.moment) stands

  pub look_stands : (here : Look) (now : Progress) (found : Outcome) (history : History) → outcome poll.rules now.rows here ≡ found → Apart size_of_fronts (look here.file ∷ here.moment) → ComesAt poll.rules here history → HaveTime poll now.added
      → ProgressStands eras here.moment before now → ProgressStands eras (look here.file ∷ here.moment) before (progress_after poll here now found)
  look_stands here now skips history is apart comes have stands = stay here now stands
  look_stands here now finds_nothing history is apart comes have stands = stay here now stands
  look_stands here now finds_compressed history is apart comes have stands = stay here now stands
  look_stands here now finds_no_room history is apart comes have stands = stay here now stands
  look_stands here now finds_new history is apart comes have stands =
      let next : Progress = progress_after poll here now finds_new in
      let P : List Mark → Type 0 = λ ms. LinesStand eras (look here.file ∷ here.moment) next.rows next.next_id ms in
      rw append_assoc at (new_stands eras laws first stamp asked here apart now.rows now.next_id (before ++ now.added) stands (all_before now have) (finds_new-tells poll.rules now.rows here is) history comes)
  look_stands here now (finds_row place row) history is apart comes have stands =
      rw append_assoc at (known_stands eras laws first stamp asked here apart now.rows now.next_id (before ++ now.added) stands (all_before now have) place row (finds_row-tells poll.rules now.rows here place row is))

  pub looks_stand : (looks : List Look) (old new : History) (start : Progress) → Come poll.rules looks old new → Apart size_of_fronts new → HaveTime poll start.added
      → ProgressStands eras old before start → ProgressStands eras new before (progress_by poll looks start)
  looks_stand [] old new start come apart have stands = lines_last eras laws old new start.rows start.next_id (before ++ start.added) come stands
  looks_stand (here ∷ earlier) old new start come apart have stands =
      let now : Progress = progress_by poll earlier start in
      let past = past_look new here.file here.moment come.1.looks in
      let at_moment = looks_stand earlier old here.moment start come.0 (apart_before size_of_fronts here.moment new (look_later new here.file here.moment come.1.looks) apart) have stands in
      let after = look_stands here now (outcome poll.rules now.rows here) new refl (apart_before size_of_fronts (look here.file ∷ here.moment) new past apart) come.1 (looks_have poll earlier start have) at_moment in
      let next : Progress = progress_after poll here now (outcome poll.rules now.rows here) in
      lines_last eras laws (look here.file ∷ here.moment) new next.rows next.next_id (before ++ next.added) past after

-- the text of some lines is the same under the first settings and under the last
same_text : (eras : Eras) → AreEras eras → (marks : List Mark) → output_text (last_era eras) marks ≡ output_text eras.first marks
same_text eras laws marks = ap (λ (line : Mark → List ℕ). flat_map line marks) (last_line eras laws)

pub longer_text : (eras : Eras) → AreEras eras → (output : List ℕ) (marks added : List Mark) → output ≡ output_text eras.first marks → output ++ output_text (last_era eras) added ≡ output_text eras.first (marks ++ added)
longer_text eras laws output marks added is =
    ap (λ (o : List ℕ). o ++ output_text (last_era eras) added) is ∙ ap (λ (o : List ℕ). output_text eras.first marks ++ o) (same_text eras laws added) ∙ sym (flat_map-append eras.first.line marks added)

pub none_added : (poll : Poll) → HaveTime poll []
none_added poll = All-nil (λ (mark : Mark). mark.observed ≡ poll.stamp)

-- one look, with the output as a text
pub look_output : (eras : Eras) → AreEras eras → (first : Bool) (stamp : Option ℕ) → IsPlainIn eras first stamp → (here : Look) (history : History) (rows : List Row) (next_id : ℕ) (output : List ℕ)
    → ComesAt (last_era eras) here history → Apart eras.first.front_size (look here.file ∷ here.moment) → (stands : Stands eras here.moment rows next_id output) → AreBefore stamp stands.marks
    → let start : Progress = record { rows = rows; next_id = next_id; added = [] } in
    let after = progress_after (poll_in eras first stamp) here start (outcome (last_era eras) rows here) in
    Stands eras (look here.file ∷ here.moment) after.rows after.next_id (output ++ output_text (last_era eras) after.added)
look_output eras laws first stamp asked here history rows next_id output comes apart stands times =
    let start : Progress = record { rows = rows; next_id = next_id; added = [] } in
    let after : Progress = progress_after (poll_in eras first stamp) here start (outcome (last_era eras) rows here) in
    let P : List Mark → Type 0 = λ ms. LinesStand eras here.moment rows next_id ms in
    record {
      marks = stands.marks ++ after.added;
      whole_lines = longer_text eras laws output stands.marks after.added stands.whole_lines;
      lines_stand = look_stands eras laws first stamp asked stands.marks times here start (outcome (last_era eras) rows here) history refl apart comes (none_added (poll_in eras first stamp)) (subst P (sym (append-nil stands.marks)) stands.lines_stand);
    }

-- a checkpoint that stands, and the poll that begins with it
module _ (eras : Eras) (laws : AreEras eras) (first : Bool) (stamp : Option ℕ) (asked : IsPlainIn eras first stamp) (stretch : Stretch) (looks : List Look) (before after : Checkpoint) (added : List Mark) (pass : Pass (poll_in eras first stamp) stretch looks before after added) where
  abbrev poll_here : Poll
  poll_here = poll_in eras first stamp

  abbrev at_end : Progress
  at_end = progress_by poll_here looks (start_at before)

  pub rows_stand : (marks : List Mark) → Apart eras.first.front_size stretch.new → AreBefore stamp marks → LinesStand eras stretch.old before.rows before.next_id marks → LinesStand eras stretch.new after.rows after.next_id (marks ++ added)
  rows_stand marks apart times stand =
      let P : List Mark → Type 0 = λ ms. LinesStand eras stretch.old before.rows before.next_id ms in
      let done : LinesStand eras stretch.new at_end.rows at_end.next_id (marks ++ at_end.added) = looks_stand eras laws first stamp asked marks times looks stretch.old stretch.new (start_at before) pass.come apart (none_added poll_here) (subst P (sym (append-nil marks)) stand) in
      let Q : List Row → Type 0 = λ rows. LinesStand eras stretch.new rows at_end.next_id (marks ++ at_end.added) in
      let R : ℕ → Type 0 = λ id. LinesStand eras stretch.new after.rows id (marks ++ at_end.added) in
      let S : List Mark → Type 0 = λ ms. LinesStand eras stretch.new after.rows after.next_id (marks ++ ms) in
      subst S (sym pass.leads_to.lines) (subst R (sym pass.leads_to.next_id) (subst Q (sym pass.leads_to.rows) done))

  pub pass_stands : (output : List ℕ) → Apart eras.first.front_size stretch.new → (stands : Stands eras stretch.old before.rows before.next_id output) → AreBefore stamp stands.marks
      → Stands eras stretch.new after.rows after.next_id (output ++ output_text (last_era eras) added)
  pass_stands output apart stands times = record {
    marks = stands.marks ++ added;
    whole_lines = longer_text eras laws output stands.marks added stands.whole_lines;
    lines_stand = rows_stand stands.marks apart times stands.lines_stand;
  }

  added_here : HaveTime poll_here added
  added_here = subst (HaveTime poll_here) (sym pass.leads_to.lines) (looks_have poll_here looks (start_at before) (none_added poll_here))

  pub pass_sound : (file file_after : List ℕ) → IsSound eras before file → after.output_length ≤ length file_after → IsSound eras after file_after
  pass_sound file file_after sound long =
      let order = looks_keep_order poll_here (last_laws eras laws) looks (start_at before) (record { ids = sound.ids; states = sound.states }) in
      let P : List Row → Type 0 = λ rows. All (λ (row : Row). IsTrue ((last_era eras).is_state row.state)) rows in
      let Q : List Row → Type 0 = λ rows. AreNumbered rows at_end.next_id in
      record {
        texts = pass.leads_to.eras ∙ sound.texts;
        states = subst P (sym pass.leads_to.rows) order.states;
        ids = subst (AreNumbered after.rows) (sym pass.leads_to.next_id) (subst Q (sym pass.leads_to.rows) order.ids);
        long_enough = long;
      }

  -- no line has a later time than the checkpoint tells
  pass_times : (marks : List Mark) → NoneLater before.observed marks → NoneLater after.observed (marks ++ added)
  pass_times marks none =
      elim pass.leads_to.observed.is [
        | inl quiet ↦
            let P : List Mark → Type 0 = λ ms. NoneLater after.observed (marks ++ ms) in
            let Q : List Mark → Type 0 = λ ms. NoneLater after.observed ms in
            let R : ℕ → Type 0 = λ time. NoneLater time marks in
            subst P (sym quiet.0.2) (subst Q (sym (append-nil marks)) (subst R (sym quiet.1) none))
        | inr kept_now ↦ subst (λ time. NoneLater time (marks ++ added)) (sym kept_now.1) (by_stamp marks added stamp before.observed pass.leads_to.observed.later none added_here)
      ]
    where
      by_stamp : (ms more : List Mark) (time : Option ℕ) (observed : ℕ) → IfSome time (λ t. observed ≤ t) → NoneLater observed ms → All (λ (mark : Mark). mark.observed ≡ time) more → NoneLater (time_of time observed) (ms ++ more)
      by_stamp ms more None observed later none_yet have = All-append (λ (m : Mark). IfSome m.observed (λ t. t ≤ observed)) ms more none_yet
          (All-weaker (λ (m : Mark). m.observed ≡ None) (λ (m : Mark). IfSome m.observed (λ t. t ≤ observed)) (λ mark is. subst (λ t. IfSome t (λ u. u ≤ observed)) (sym is) tt) more have)
      by_stamp ms more (Some t) observed later none_yet have = before_append (Some t) ms more (none_later observed t ms later none_yet) (same_before (Some t) more have)

  pub pass_checkpoint : (file file_after : List ℕ) → Apart eras.first.front_size stretch.new → Lengthens (last_era eras) (take before.output_length file) after added file_after → CheckpointStands eras stretch.old before file → CheckpointStands eras stretch.new after file_after
  pass_checkpoint file file_after apart longer stands =
      let times = kept_before stamp before.observed stands.stands.marks pass.leads_to.observed.later stands.times in
      let made : Stands eras stretch.new after.rows after.next_id (take before.output_length file ++ output_text (last_era eras) added) = pass_stands (take before.output_length file) apart stands.stands times in
      record {
        sound = pass_sound file file_after stands.sound longer.long_enough;
        stands = record {
          marks = stands.stands.marks ++ added;
          whole_lines = longer.longer ∙ longer_text eras laws (take before.output_length file) stands.stands.marks added stands.stands.whole_lines;
          lines_stand = rows_stand stands.stands.marks apart times stands.stands.lines_stand;
        };
        times = pass_times stands.stands.marks stands.times;
      }

-- with nothing read all stands
pub nothing_stands : (eras : Eras) (history : History) (file : List ℕ) → CheckpointStands eras history (no_checkpoint (texts_of eras)) file
nothing_stands eras history file =
    let no_row : (place : ℕ) (row : Row) → IsRowAt [] place row → ⊥ = λ place row at. let never : None ≡ Some row = at in cc in
    let ids : AreNumbered [] 1 = record { ids = λ place row at. absurd (no_row place row at); next = omega arith } in
    record {
      sound = record { texts = refl; states = λ k row within. absurd (omega (arith, within)); ids = ids; long_enough = omega arith };
      stands = record {
        marks = [];
        whole_lines = refl;
        lines_stand = record {
          ids = ids;
          each_row = λ place row at. absurd (no_row place row at);
          fronts_apart = λ place other row other_row at other_at differs prefix. no_row place row at;
          no_other_line = λ k mark within. absurd (omega (arith, within));
        };
      };
      times = λ k mark within. absurd (omega (arith, within));
    }

pub pass_keeps_standing : (eras : Eras) → AreEras eras → (first : Bool) (stamp : Option ℕ) → IsPlainIn eras first stamp → (stretch : Stretch) (looks : List Look) (there : Found) (after : Checkpoint) (added : List Mark) (file file_after : List ℕ)
    → Pass (poll_in eras first stamp) stretch looks (checkpoint_of eras there) after added → Lengthens (last_era eras) (kept there file) after added file_after → Apart eras.first.front_size stretch.new
    → Standing eras stretch.old there file → Standing eras stretch.new (found after) file_after
pass_keeps_standing eras laws first stamp asked stretch looks nothing after added file file_after pass longer apart standing =
    pass_checkpoint eras laws first stamp asked stretch looks (no_checkpoint (texts_of eras)) after added pass file file_after apart longer (nothing_stands eras stretch.old file)
pass_keeps_standing eras laws first stamp asked stretch looks damaged after added file file_after pass longer apart standing = absurd standing
pass_keeps_standing eras laws first stamp asked stretch looks (found checkpoint) after added file file_after pass longer apart standing =
    pass_checkpoint eras laws first stamp asked stretch looks checkpoint after added pass file file_after apart longer standing

pub pass_keeps_sound : (eras : Eras) → AreEras eras → (first : Bool) (stamp : Option ℕ) → IsPlainIn eras first stamp → (stretch : Stretch) (looks : List Look) (there : Found) (after : Checkpoint) (added : List Mark) (file file_after : List ℕ)
    → Pass (poll_in eras first stamp) stretch looks (checkpoint_of eras there) after added → Lengthens (last_era eras) (kept there file) after added file_after
    → Sound eras there file → Sound eras (found after) file_after
pass_keeps_sound eras laws first stamp asked stretch looks nothing after added file file_after pass longer sound =
    pass_sound eras laws first stamp asked stretch looks (no_checkpoint (texts_of eras)) after added pass file file_after (nothing_stands eras stretch.old file).sound longer.long_enough
pass_keeps_sound eras laws first stamp asked stretch looks damaged after added file file_after pass longer sound = absurd sound
pass_keeps_sound eras laws first stamp asked stretch looks (found checkpoint) after added file file_after pass longer sound =
    pass_sound eras laws first stamp asked stretch looks checkpoint after added pass file file_after sound longer.long_enough

-- a text that the old output begins with begins the new one
pub kept_grows : (rules : Rules) (old : List ℕ) (after : Checkpoint) (added : List Mark) (file_after : List ℕ) → Lengthens rules old after added file_after → IsPrefix old (kept (found after) file_after)
kept_grows rules old after added file_after longer = subst (IsPrefix old) (sym longer.longer) (prefix-append old (output_text rules added))
