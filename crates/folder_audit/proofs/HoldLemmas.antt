-- What was found of a row, by what its checkpoint stands for.
use Rattle.std.proofs.Common.{◌≡◌, ℕ, ◌+◌, ◌-◌, ◌<◌, ◌≤◌, List, length, take, sym, ap, subst, inl, inr, arith, length-take, length-drop}
use Rattle.std.proofs.lemmas.Bool.{cases_eq}
use Rattle.auditor.proofs.Keeping.{stands_holds}
use Rattle.auditor.proofs.Moving.{holds_on, held_before}
use Rattle.auditor.specs.RowHolds.{AreErasFrom, RowHolds}
use Rattle.auditor.specs.declared.Verdict.TheVariants.{Same, Differs}
use Rattle.checkpoint_store.specs.Limits.{newest}
use Rattle.checkpoint_store.specs.Rules.{IsCheckpoint}
use Rattle.outside.specs.World.{History, World, bytes}
use Rattle.pipeline.specs.Parts.{settings_of}
use Rattle.pipeline.specs.declared.Pipeline.{Pipeline}
use Rattle.standing.proofs.MomentLemmas.{bytes_grow, look_later}
use Rattle.standing.proofs.StandsLemmas.{checkpoint_lasts}
use Rattle.standing.specs.Apart.{Apart}
use Rattle.standing.specs.Eras.{Eras}
use Rattle.standing.specs.Moments.{LookAt}
use Rattle.standing.specs.Owner.{IsOwner}
use Rattle.standing.specs.Prefixes.{IsPrefix}
use Rattle.standing.specs.Rows.{Checkpoint, IsRowAt, Row}
use Rattle.standing.specs.Stands.{CheckpointStands}
use Rattle.folder_audit.specs.Judged.{Judged, JudgedBytes, pipes_of}
use Rattle.folder_audit.specs.KeptFiles.{IsFitRow, IsLast}
use Rattle.folder_audit.specs.Limits.{largest_kept}
use Rattle.pipeline.specs.MadeOf.{AreErasOf}
use Rattle.folder_audit.specs.Made.{ArePipesOf}
use Rattle.folder_audit.proofs.EraLemmas.{eras_from, last_front_size}
use Rattle.pipeline.proofs.OfText.{OneSet}

-- a row's pipelines are one for each of its parts
pub row_many : (pipes : List Pipeline) (place : ℕ) (row : Row) → IsFitRow (length pipes) place row → length (pipes_of pipes row) ≡ length row.ends + 1
row_many pipes place row fit = omega (arith, fit.born, fit.parts, length-drop (row.born - 1) pipes)

module _ (one_set : OneSet) (eras : Eras) (texts : List (List ℕ)) (pipes : List Pipeline) (place : ℕ) (row : Row) (are : AreErasOf texts eras) (made : ArePipesOf texts pipes) (fit : IsFitRow (length pipes) place row) where
  from_born : AreErasFrom eras row.born (pipes_of pipes row)
  from_born = eras_from one_set texts eras pipes are made row.born fit.born (omega (arith, fit.parts))

  pub holds_whole : (last : Pipeline) (output : List ℕ) (old new : World) (judged : Judged (pipes_of pipes row) last row output Same old new) → RowHolds eras (bytes new.history judged.file) row output
  holds_whole last output old new judged =
      let its = judged.by_bytes in
      let then_holds : RowHolds eras (bytes judged.moment judged.file) row output =
      subst (λ (b : List ℕ). RowHolds eras b row output) (sym its.split)
      (holds_on eras (pipes_of pipes row) its.content its.behind row output from_born (row_many pipes place row fit) (its.says eras from_born)) in
      let grown = bytes_grow judged.moment new.history judged.file (look_later new.history judged.file judged.moment judged.looked.looked) in
      subst (λ (b : List ℕ). RowHolds eras b row output) (sym grown.1)
      (holds_on eras (pipes_of pipes row) (bytes judged.moment judged.file) grown.0 row output from_born (row_many pipes place row fit) then_holds)

  -- a row that holds by all bytes that its file had isn't found to differ
  not_by_bytes : (output whole : List ℕ) (line : ℕ) → JudgedBytes (pipes_of pipes row) row output (Differs line) whole → RowHolds eras whole row output → ⊥
  not_by_bytes output whole line its holds =
      let verdict = its.says eras from_born in
      elim its.enough [
        | inl all ↦ verdict.0 (subst (λ (b : List ℕ). RowHolds eras b row output) (sym all) holds)
        | inr rest ↦ verdict.0 (held_before eras (pipes_of pipes row) its.content its.behind row output from_born (row_many pipes place row fit) rest its.within
            (subst (λ (b : List ℕ). RowHolds eras b row output) its.split holds))
      ]

-- a file that is opened and begins with a row's front is the row's own
same_owner : (eras : Eras) (row : Row) (moment new : History) (file owner : ℕ) → Apart eras.first.front_size new → LookAt new file moment → IsOwner eras moment row owner
    → IsPrefix row.front (take eras.first.front_size (bytes moment file)) → file ≡ owner
same_owner eras row moment new file owner apart looked owns begins = elim (cases_eq file owner) [
  | inl same ↦ same
  | inr differs ↦ (
      let filled : 0 < length (bytes owns.seen_at owner) = omega (arith, owns.not_empty, ap length owns.saw, length-take eras.first.front_size (bytes owns.seen_at owner)) in
      let are_apart = apart file owner moment owns.seen_at looked owns.seen (λ e. differs (sym e)) filled in
      absurd (are_apart.not_grown (subst (λ (b : List ℕ). IsPrefix b (take eras.first.front_size (bytes moment file))) owns.saw begins)))
]

pub never_differs : OneSet → (eras : Eras) (checkpoint : Checkpoint) (file : List ℕ) (pipes : List Pipeline) (last : Pipeline) (place : ℕ) (row : Row) (line : ℕ) (old new : World)
    → AreErasOf checkpoint.eras eras → CheckpointStands eras old.history checkpoint file → IsCheckpoint newest checkpoint
    → checkpoint.output_length ≤ largest_kept → Apart eras.first.front_size new.history → ArePipesOf checkpoint.eras pipes → IsLast pipes last
    → IsRowAt checkpoint.rows place row → IsFitRow (length pipes) place row
    → Judged (pipes_of pipes row) last row (take checkpoint.output_length file) (Differs line) old new → ⊥
never_differs one_set eras checkpoint file pipes last place row line old new are stands lawful small apart made is_last at fit judged =
    let output = take checkpoint.output_length file in
    let moment = judged.moment in
    let then_stands : CheckpointStands eras moment checkpoint file = checkpoint_lasts eras are.laws old.history moment checkpoint file judged.looked.later stands in
    let stood = then_stands.stands.lines_stand.each_row place row at in
    let from = from_born one_set eras checkpoint.eras pipes place row are made fit in
    let size : (settings_of last).fingerprint_size ≡ eras.first.front_size = last_front_size one_set checkpoint.eras eras pipes are made last is_last in
    let begins : IsPrefix row.front (take eras.first.front_size (bytes moment judged.file)) = subst (λ (n : ℕ). IsPrefix row.front (take n (bytes moment judged.file))) size judged.begins in
    let same : judged.file ≡ stood.file = same_owner eras row moment new.history judged.file stood.file apart judged.looked.looked stood.owner begins in
    let observed = lawful.observed.told (omega arith) in
    let holds : RowHolds eras (bytes moment stood.file) row output =
    stands_holds eras (pipes_of pipes row) moment checkpoint file place row then_stands at are.laws from
    (omega (arith, row_many pipes place row fit)) (omega (arith, observed.1)) (omega (arith, lawful.count, lawful.next_id))
    (omega (arith, small, length-take checkpoint.output_length file)) in
    not_by_bytes one_set eras checkpoint.eras pipes place row are made fit output (bytes moment judged.file) line judged.by_bytes
    (subst (λ (f : ℕ). RowHolds eras (bytes moment f) row output) (sym same) holds)
