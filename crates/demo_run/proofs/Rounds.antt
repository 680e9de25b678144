-- The rows of a script's last checkpoint have a line for each round.
use Rattle.std.proofs.Common.{◌≡◌, ℕ, zero, suc, ◌≤◌, List, Option, Some, None, refl, ap, subst, ◌∙◌}
use Rattle.std.specs.Prelude.{map, reverse, sum_by}
use Rattle.checkpoint_journal.proofs.JournalLaws.{one_said}
use Rattle.checkpoint_journal.specs.JournalOf.{HasCheckpoint}
use Rattle.checkpoint_store.specs.declared.Checkpoint.{Checkpoint}
use Rattle.demo_run.specs.Moves.{move_of}
use Rattle.demo_run.specs.Script.{script, settings_text}
use Rattle.demo_run.specs.Shown.{lines_of, rows_in}
use Rattle.demo_run.specs.Steps.{IsOfRounds}
use Rattle.demo_run.proofs.Contents.{file_of_round}
use Rattle.demo_run.proofs.FileSums.{all_rounds, are_once, files_of, has_file, lines_by, same_sum, written}
use Rattle.demo_run.proofs.Fronts.{apart_by_rounds}
use Rattle.demo_run.proofs.Ruled.{IsRuled}
use Rattle.demo_run.proofs.SeenLeft.{seen_left}
use Rattle.demo_run.proofs.SmallRounds.{not_large, small}
use Rattle.demo_run.proofs.Undisturbed.{early, undisturbed}
use Rattle.demo_run.proofs.WholeRows.{owned, rows_differ, whole_of_round}
use Rattle.lifetimes.proofs.CreatedLemmas.{Has}
use Rattle.lifetimes.proofs.EraLemmas.{rules_own, standing_by_one}
use Rattle.lifetimes.specs.Ended.{IsEndingBy, history_of}
use Rattle.lifetimes.specs.OneEra.{IsSoundBy, one_era}
use Rattle.lifetimes.specs.Small.{AreWhole}
use Rattle.lifetimes.specs.Whole.{TakesWhole}
use Rattle.lifetimes.specs.declared.ending.Ending.{Ending}
use Rattle.lifetimes.specs.declared.event.Event.{Event}
use Rattle.mem_world.specs.MemDisk.{seen_of}
use Rattle.outside.specs.Image.{Image}
use Rattle.outside.specs.World.{History}
use Rattle.outside.specs.declared.disk.DiskFile.{DiskFile}
use Rattle.outside.specs.declared.disk.DiskFile.TheVariants.{Output}
use Rattle.poll_core.proofs.ImageLemmas.{no_journal, one_found}
use Rattle.pipeline.proofs.OfText.{OneSet}
use Rattle.pipeline.specs.MadeOf.{HasRules}
use Rattle.poll_core.specs.Polled.{IsStanding}
use Rattle.standing.proofs.OwnerLemmas.{one_owner}
use Rattle.standing.specs.Apart.{Apart}
use Rattle.standing.specs.Marks.{Mark}
use Rattle.standing.specs.Owner.{IsOwner}
use Rattle.standing.specs.Rows.{Row}
use Rattle.standing.specs.Rules.{Rules}
use Rattle.standing.specs.Standing.{Found, found, Standing}
use Rattle.standing.specs.Stands.{CheckpointStands, LinesStand}

-- ---- the sum over the rows

module _ (n : ℕ) (few : n ≤ 1000) (history : History) (of : IsOfRounds n history) (rules : Rules) (ruled : IsRuled rules) (apart : Apart rules.front_size history) where
  abbrev Owns : Row → ℕ → Type 0
  Owns row file = IsOwner (one_era rules) history row file × (row.lines ≡ written n file)

  rows_give : (rows : List Row) (next_id : ℕ) (marks : List Mark) → LinesStand (one_era rules) history rows next_id marks → AreWhole (one_era rules) history rows → sum_by lines_by rows ≡ n
  rows_give rows next_id marks stand whole =
      let each = owned n few history of rules ruled rows next_id marks apart stand whole in
      let all = files_of Owns rows each in
      let differ = rows_differ n few history of rules ruled rows next_id marks apart stand whole in
      let alone = are_once Owns rows all.files (λ place other row other_row file at other_at differs owns owns_too. differ place other row other_row file at other_at differs owns.0 owns_too.0) all.own in
      let has : (round : ℕ) → 1 ≤ round → round ≤ n → Has all.files (file_of_round round) = λ round some within.
      let its = whole_of_round n few history of rules ruled rows next_id marks apart stand whole round some within in
      let owner = each its.place its.row its.at in
      let same : owner.0 ≡ file_of_round round = one_owner (one_era rules) history its.row owner.0 (file_of_round round) apart owner.1.0 its.owner in
      subst (Has all.files) same
      (has_file Owns rows all.files (λ row file other owns owns_too. one_owner (one_era rules) history row file other apart owns.0 owns_too.0) all.own its.place its.row owner.0 its.at owner.1)
      in
      same_sum Owns n rows all.files (λ row file owns. owns.1) all.own ∙ all_rounds n all.files alone has

  -- what stands in an image that has the checkpoint
  checkpoint_gives : OneSet → HasRules rules.settings rules → (image : Image DiskFile) (checkpoint : Checkpoint) → HasCheckpoint (Some checkpoint) image → IsSoundBy rules image → IsStanding history image → AreWhole (one_era rules) history checkpoint.rows → lines_of checkpoint.rows ≡ n
  checkpoint_gives one_set own image checkpoint has sound standing whole =
      let there : standing.there ≡ found checkpoint = one_found image standing.there (found checkpoint) standing.found has in
      let stands : CheckpointStands (one_era rules) history checkpoint (image Output) = subst (λ (f : Found). Standing (one_era rules) history f (image Output)) there (standing_by_one one_set rules own history image sound standing) in
      rows_give checkpoint.rows checkpoint.next_id stands.stands.marks stands.stands.lines_stand whole

-- ---- the last checkpoint

by_checkpoint : (image : Image DiskFile) (n : ℕ) (saved : Checkpoint) (checkpoint : Option Checkpoint) → HasCheckpoint (Some saved) image → HasCheckpoint checkpoint image → lines_of saved.rows ≡ n → lines_of (rows_in checkpoint) ≡ n
by_checkpoint image n saved None has none lines = absurd (no_journal image has.0 saved none has.1)
by_checkpoint image n saved (Some checkpoint) has has_too lines = ap (λ (c : Checkpoint). lines_of c.rows) (one_said image has.0 has_too.0 saved checkpoint has.1 has_too.1) ∙ lines

no_rows : (image : Image DiskFile) (checkpoint : Option Checkpoint) → HasCheckpoint None image → HasCheckpoint checkpoint image → lines_of (rows_in checkpoint) ≡ 0
no_rows image None none has = refl
no_rows image (Some checkpoint) none has = absurd (no_journal image has.0 checkpoint none has.1)

pub lines_are_rounds : OneSet → (rounds : ℕ) → rounds ≤ 1000 → (rules : Rules) → HasRules settings_text rules → IsRuled rules → (events : List Event) → map move_of events ≡ script rounds → (ending : Ending) → IsEndingBy rules (reverse events) ending
    → IsOfRounds rounds (history_of ending.tree) → (checkpoint : Option Checkpoint) → HasCheckpoint checkpoint (seen_of ending.disk) → lines_of (rows_in checkpoint) ≡ rounds
lines_are_rounds one_set zero few rules has_rules ruled events played ending ends of checkpoint has =
    no_rows (seen_of ending.disk) checkpoint ((ends.none_open (early events played)).each (seen_of ending.disk) (seen_left ending.disk)) has
lines_are_rounds one_set (suc n) few rules has_rules ruled events played ending ends of checkpoint has =
    let history : History = history_of ending.tree in
    let image : Image DiskFile = seen_of ending.disk in
    let apart : Apart rules.front_size history = apart_by_rounds (suc n) rules.front_size history few ruled.front_size of in
    let takes : TakesWhole rules history = record { never = ruled.never; apart = apart } in
    let standing : IsStanding history image = (ends.standing takes).each image (seen_left ending.disk) in
    let reached = (ends.reached takes (undisturbed n events played) (small (suc n) few history of) (not_large (suc n) few history of rules ruled)).each image (seen_left ending.disk) in
    by_checkpoint image (suc n) reached.checkpoint checkpoint reached.has has
    (checkpoint_gives (suc n) few history of rules ruled apart one_set (rules_own settings_text rules has_rules) image reached.checkpoint reached.has (ends.sound.each image (seen_left ending.disk)) standing reached.whole)
