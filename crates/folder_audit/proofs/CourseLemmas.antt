-- What was found, by the output itself.
use Rattle.std.proofs.Common.{◌≡◌, ℕ, zero, suc, ◌+◌, ◌<◌, ◌≤◌, List, [], ◌∷◌, length, map, take, Some, refl, sym, ap, subst, arith}
use Rattle.std.specs.Prelude.{Option, slice_get}
use Rattle.std.proofs.lemmas.Option.{slice_get_within}
use Rattle.auditor.proofs.Owning.{own_alone, verdict_by_own}
use Rattle.auditor.specs.declared.Verdict.{Verdict}
use Rattle.auditor.specs.declared.Verdict.TheVariants as verdict
use Rattle.kept_lines.specs.Lines.{whole_lines}
use Rattle.kept_lines.specs.OwnLines.{AreOf}
use Rattle.kept_lines.specs.Split.{IsText}
use Rattle.outside.proofs.Telling.{told_weaker}
use Rattle.outside.specs.Image.{Image}
use Rattle.outside.specs.TreeMeaning.{TreeMeaning}
use Rattle.outside.specs.World.{World, Told}
use Rattle.outside.specs.declared.disk.DiskFile.{DiskFile}
use Rattle.outside.specs.declared.disk.DiskFile.TheVariants.{Output}
use Rattle.pipeline.specs.AsRules.{rules_of}
use Rattle.pipeline.specs.declared.Pipeline.{Pipeline}
use Rattle.standing.specs.Rows.{Row, IsRowAt}
use Rattle.standing.specs.Stands.{LinesStand}
use Rattle.tree_walk.specs.Calls.{KeepsHandles}
use Rattle.folder_audit.specs.Audited.{Course, FewAbsent, Hold, IsAudited, IsDiffering}
use Rattle.folder_audit.specs.Findings.{AreFindings, AreFound, AreFoundAt, HasFound}
use Rattle.folder_audit.specs.Judged.{IsFound, Judged, JudgedBytes, pipes_of}
use Rattle.folder_audit.specs.KeptFiles.{AreFitRows, IsFit, texts_of}
use Rattle.folder_audit.specs.Absences.{AreAbsences}
use Rattle.folder_audit.specs.Inner.KeptOf.{IsKept}
use Rattle.folder_audit.specs.Inner.Tried.{FindsAll, FindsDue, IsDue, RoseBy}
use Rattle.folder_audit.specs.Tally.{IsLeastOther, IsTallied}
use Rattle.folder_audit.specs.declared.audited.Audited.{Audited}
use Rattle.folder_audit.specs.declared.findings.Finding.{Finding}
use Rattle.folder_audit.specs.declared.findings.Finding.TheVariants.{Absent, Same, Differs}
use Rattle.folder_audit.specs.declared.kept.Kept.{Kept}
use Rattle.folder_audit.proofs.AbsenceLemmas.{few_absences}
use Rattle.pipeline.proofs.OfText.{OneSet}
use Rattle.folder_audit.proofs.UnlessLemmas.{told_and}

-- a row's own lines are enough
by_output : (output : List ℕ) (pipes : List Pipeline) (row : Row) (text whole : List ℕ) (found : Verdict) → IsText output row.id text → JudgedBytes pipes row text found whole → JudgedBytes pipes row output found whole
by_output output pipes row text whole found is judged = record {
  content = judged.content;
  behind = judged.behind;
  split = judged.split;
  within = judged.within;
  enough = judged.enough;
  says = λ eras from.
      let alone : AreOf row.id (whole_lines text) is.own = subst (λ (t : List ℕ). AreOf row.id (whole_lines t) is.own) (sym is.is) (own_alone row.id output is.own is.are) in
      verdict_by_own eras (map (rules_of []) pipes) judged.content row text output is.own found alone is.are (judged.says eras from);
}

judged_by : (output : List ℕ) (pipes : List Pipeline) (last : Pipeline) (row : Row) (text : List ℕ) (found : Verdict) (old new : World) → IsText output row.id text → Judged pipes last row text found old new → Judged pipes last row output found old new
judged_by output pipes last row text found old new is judged = record {
  file = judged.file;
  moment = judged.moment;
  looked = judged.looked;
  begins = judged.begins;
  by_bytes = by_output output pipes row text _ found is judged.by_bytes;
}

found_by : (output : List ℕ) (pipes : List Pipeline) (last : Pipeline) (row : Row) (text : List ℕ) (finding : Finding) (old new : World) → IsText output row.id text → IsFound pipes last text row finding old new → IsFound pipes last output row finding old new
found_by output pipes last row text Absent old new is found = tt
found_by output pipes last row text (Same lines) old new is found = judged_by output (pipes_of pipes row) last row text verdict.Same old new is found
found_by output pipes last row text (Differs line) old new is found = judged_by output (pipes_of pipes row) last row text (verdict.Differs line) old new is found

some_text : (texts : List (List ℕ)) (k : ℕ) → k < length texts → (text : List ℕ) × (slice_get texts k ≡ Some text)
some_text [] k within = absurd (omega (arith, within))
some_text (text ∷ texts) zero within = (text, refl)
some_text (text ∷ texts) (suc k) within = some_text texts k (omega (arith, within))

module _ (image : Image DiskFile) (kept : Kept) (is : IsKept image kept) (fit : IsFit kept) (found : List Finding) where
  pub course_of : AreFindings kept.rows found → Course image
  course_of are = record {
    checkpoint = is.checkpoint;
    lawful = is.lawful;
    pipes = kept.pipes.items;
    last = is.last;
    whole = is.whole;
    flush_off = is.flush_off;
    small = is.small;
    fit = subst (λ (rs : List Row). AreFitRows (length kept.pipes.items) rs) is.rows fit.rows;
    found = found;
    are = subst (λ (rs : List Row). AreFindings rs found) is.rows are;
  }

  hold_in : (x y : World) → AreFoundAt kept found x y → AreFound kept.pipes.items is.last (take is.checkpoint.output_length (image Output)) is.checkpoint.rows found x y
  hold_in x y holds = λ place row finding at there.
      let own_at : IsRowAt kept.rows place row = subst (λ (rs : List Row). IsRowAt rs place row) (sym is.rows) at in
      let fits = fit.rows place row own_at in
      let within : place < length is.checkpoint.rows = slice_get_within is.checkpoint.rows place row at in
      let text = some_text (texts_of kept) place (omega (arith, within, is.texts.many)) in
      let its : IsText (take is.checkpoint.output_length (image Output)) (place + 1) text.0 = is.texts.each place text.0 (omega (arith, within, ap length is.rows, fit.few)) text.1 in
      found_by (take is.checkpoint.output_length (image Output)) kept.pipes.items is.last row text.0 finding x y
      (subst (λ (n : ℕ). IsText (take is.checkpoint.output_length (image Output)) n text.0) (sym fits.id) its) (holds place finding there row text.0 is.last own_at text.1 is.whole.ready.is_last)

  pub hold_of : (old new : Option World) (has : HasFound kept found old new) → Told (Hold (course_of has.are)) old new
  unfolding course_of
  hold_of old new has = told_weaker (AreFoundAt kept found) (Hold (course_of has.are)) old new hold_in has.hold

  module _ {T : Type 0} (meaning : TreeMeaning T) (old new : T) (has : HasFound kept found (meaning.world old) (meaning.world new)) where
    few_absent : OneSet → (x y : World) → KeepsHandles x y × FindsAll kept found (IsDue kept x y) (RoseBy meaning old new) x y → FewAbsent (course_of has.are) (meaning.faults old) (meaning.faults new) x y
    unfolding course_of
    few_absent one_set x y both = λ eras places are stands apart absences.
        let own : AreAbsences eras kept.rows found places x.history y.history = subst (λ (rs : List Row). AreAbsences eras rs found places x.history y.history) (sym is.rows) absences in
        let marks = stands.stands.marks in
        let stand : LinesStand eras x.history kept.rows is.checkpoint.next_id marks = subst (λ (rs : List Row). LinesStand eras x.history rs is.checkpoint.next_id marks) (sym is.rows) stands.stands.lines_stand in
        let fewer : length places ≤ length both.1.failed =
        few_absences one_set kept is.last is.whole.ready.is_last eras is.checkpoint.eras are is.whole.ready.made x y both.0.later is.checkpoint.next_id marks stand apart found (RoseBy meaning old new) both.1 places own in
        omega (arith, fewer, both.1.counted)

    pub audited_of : OneSet → Told KeepsHandles (meaning.world old) (meaning.world new) → FindsDue meaning kept found old new → (audited : Audited) → IsTallied kept.rows found audited → IsAudited meaning image audited old new
    unfolding course_of
    audited_of one_set keeps due audited tallied = record {
      course = course_of has.are;
      tallied = subst (λ (rs : List Row). IsTallied rs found audited) is.rows tallied;
      hold = hold_of (meaning.world old) (meaning.world new) has;
      few_absent = told_weaker (λ x y. KeepsHandles x y × FindsAll kept found (IsDue kept x y) (RoseBy meaning old new) x y) (FewAbsent (course_of has.are) (meaning.faults old) (meaning.faults new)) (meaning.world old) (meaning.world new)
          (few_absent one_set) (told_and KeepsHandles (λ x y. FindsAll kept found (IsDue kept x y) (RoseBy meaning old new) x y) (meaning.world old) (meaning.world new) keeps due);
    }

    pub differing_of : (id line : ℕ) → IsLeastOther kept.rows found id line → IsDiffering meaning image id line old new
    unfolding course_of
    differing_of id line least = record {
      course = course_of has.are;
      least = subst (λ (rs : List Row). IsLeastOther rs found id line) is.rows least;
      hold = hold_of (meaning.world old) (meaning.world new) has;
    }
