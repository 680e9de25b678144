-- Files only grow, so no row that stands is past its file's end.
use Rattle.std.proofs.Common.{◌≡◌, ℕ, List, [], ◌∷◌, ◌++◌, Bool, false, cond, refl, sym, ap, subst, arith}
use Rattle.std.proofs.lemmas.Bool.{le-ltb}
use Rattle.std.proofs.lemmas.List.{append-nil}
use Rattle.std.specs.Prelude.{Option}
use Rattle.outside.specs.World.{History, bytes, look}
use Rattle.standing.specs.Apart.{Apart}
use Rattle.standing.specs.Eras.{Eras, AreEras, last_era}
use Rattle.standing.specs.Look.{Look, Outcome, skips, finds_nothing, finds_compressed, finds_no_room, finds_new, finds_row, Progress, size, start_of, outcome}
use Rattle.standing.specs.Looks.{progress_by, Come, count_of}
use Rattle.standing.specs.Marks.{Mark}
use Rattle.standing.specs.Part.{HasTaken, last_part}
use Rattle.standing.specs.Pass.{Stretch, Pass, start_at}
use Rattle.standing.specs.Poll.{Poll, poll_in, IsPlainIn}
use Rattle.standing.specs.Rows.{Checkpoint}
use Rattle.standing.specs.Stands.{LinesStand, Stands}
use Rattle.standing.specs.Sums.{Sums, AreSums, is_shrunk}
use Rattle.standing.specs.Times.{AreBefore}
use Rattle.standing.proofs.LookLemmas.{found_owner, start_within}
use Rattle.standing.proofs.MomentLemmas.{past_look, look_later, apart_before}
use Rattle.standing.proofs.OutcomeLemmas.{finds_row-tells}
use Rattle.standing.proofs.PassLemmas.{ProgressStands, HaveTime, none_added, looks_have, looks_stand}
use Rattle.standing.proofs.TimeLemmas.{same_before, before_append}

module _ (eras : Eras) (laws : AreEras eras) (first : Bool) (stamp : Option ℕ) (asked : IsPlainIn eras first stamp) (before : List Mark) (kept_times : AreBefore stamp before) where
  abbrev poll : Poll
  poll = poll_in eras first stamp

  all_before : (now : Progress) → HaveTime poll now.added → AreBefore stamp (before ++ now.added)
  all_before now have = before_append stamp before now.added kept_times (same_before stamp now.added have)

  look_not_shrunk : (here : Look) (now : Progress) (found : Outcome) → Apart eras.first.front_size (look here.file ∷ here.moment) → HaveTime poll now.added → ProgressStands eras here.moment before now → outcome poll.rules now.rows here ≡ found → is_shrunk poll here found ≡ false
  look_not_shrunk here now skips apart have stands is = refl
  look_not_shrunk here now finds_nothing apart have stands is = refl
  look_not_shrunk here now finds_compressed apart have stands is = refl
  look_not_shrunk here now finds_no_room apart have stands is = refl
  look_not_shrunk here now finds_new apart have stands is = le-ltb (size here) (start_of poll here) (start_within eras laws first stamp asked here apart now.rows now.next_id (before ++ now.added) stands (all_before now have))
  look_not_shrunk here now (finds_row place row) apart have stands is =
      let found = finds_row-tells poll.rules now.rows here place row is in
      let mine = stands.each_row place row found.at in
      let same : mine.file ≡ here.file = found_owner eras laws first stamp asked here apart row mine.file mine.owner found.prefix in
      let taken = subst (λ file. HasTaken (last_era eras) (last_part (last_era eras) row) (bytes here.moment file) mine.tokens row) same mine.taken in
      le-ltb (size here) row.offset taken.within

  pub none_shrunk : (looks : List Look) (old new : History) (start : Progress) → Come poll.rules looks old new → Apart eras.first.front_size new → HaveTime poll start.added → ProgressStands eras old before start → count_of poll (is_shrunk poll) looks start ≡ 0
  none_shrunk [] old new start come apart have stands = refl
  none_shrunk (here ∷ earlier) old new start come apart have stands =
      let now : Progress = progress_by poll earlier start in
      let past = past_look new here.file here.moment come.1.looks in
      let apart_then = apart_before eras.first.front_size here.moment new (look_later new here.file here.moment come.1.looks) apart in
      let at_moment = looks_stand eras laws first stamp asked before kept_times earlier old here.moment start come.0 apart_then have stands in
      let not_here = look_not_shrunk here now (outcome poll.rules now.rows here) (apart_before eras.first.front_size (look here.file ∷ here.moment) new past apart) (looks_have poll earlier start have) at_moment refl in
      let rest = none_shrunk earlier old here.moment start come.0 apart_then have stands in
      omega (arith, rest, ap {B = ℕ} (λ t. cond t 1 0) not_here)

pub sums_tell_none_shrunk : (eras : Eras) → AreEras eras → (first : Bool) (stamp : Option ℕ) → IsPlainIn eras first stamp → (stretch : Stretch) (looks : List Look) (before after : Checkpoint) (added : List Mark)
    (pass : Pass (poll_in eras first stamp) stretch looks before after added) (output : List ℕ) (sums : Sums) → Apart eras.first.front_size stretch.new → (stands : Stands eras stretch.old before.rows before.next_id output) → AreBefore stamp stands.marks
    → AreSums (poll_in eras first stamp) stretch looks before after added pass sums → sums.shrunk ≡ 0
sums_tell_none_shrunk eras laws first stamp asked stretch looks before after added pass output sums apart stands times are =
    let P : List Mark → Type 0 = λ ms. LinesStand eras stretch.old before.rows before.next_id ms in
    let none = none_shrunk eras laws first stamp asked stands.marks times looks stretch.old stretch.new (start_at before) pass.come apart (none_added (poll_in eras first stamp)) (subst P (sym (append-nil stands.marks)) stands.lines_stand) in
    omega (arith, are.shrunk, none)
