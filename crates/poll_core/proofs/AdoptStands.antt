-- What stood stands once settings were adopted.
use Rattle.std.proofs.Common.{◌≡◌, ℕ, ◌+◌, ◌≤◌, List, [], ◌∷◌, ◌++◌, length, take, Some, sym, ap, subst, ◌∙◌, arith, inl, inr}
use Rattle.std.proofs.lemmas.List.{append-nil, length-append, length-take, length-take-le, map-append, take_all}
use Rattle.std.proofs.lemmas.List.Elements.{All-append, All-cons, All-head, All-nil}
use Rattle.std.specs.List.{All}
use Rattle.checkpoint_journal.specs.JournalOf.{HasCheckpoint}
use Rattle.checkpoint_store.specs.declared.Checkpoint.{Checkpoint}
use Rattle.file_pass.specs.Full.{line_of, lines_text}
use Rattle.outside.specs.Crash.{Passes}
use Rattle.outside.specs.Image.{Image, Same}
use Rattle.outside.specs.Images.{Images}
use Rattle.outside.specs.World.{History}
use Rattle.outside.specs.declared.disk.DiskFile.{DiskFile}
use Rattle.outside.specs.declared.disk.DiskFile.TheVariants.{Output}
use Rattle.poll_core.proofs.EraLemmas.{last_is, at_last}
use Rattle.pipeline.proofs.OfText.{OneSet}
use Rattle.poll_core.proofs.StandingLemmas.{StandsBy, moved, stands_by}
use Rattle.poll_core.specs.Adopting.{IsAdopted, IsAdoption, KeepsAll, KeepsStandingIn, MayAdopt, sole_era}
use Rattle.poll_core.specs.Found.{IsFound}
use Rattle.pipeline.specs.MadeOf.{HasRules}
use Rattle.poll_core.specs.Polled.{AreErasIn, IsStanding}
use Rattle.poll_core.specs.SessionParts.{last_text}
use Rattle.poll_core.specs.declared.adopted.Adopted.{Adopted}
use Rattle.standing.proofs.AdoptLemmas.{adopting_keeps}
use Rattle.standing.proofs.EraLemmas.{last_size}
use Rattle.standing.specs.Adopted.{Adopts, with_era}
use Rattle.standing.specs.AreRules.{AreRules}
use Rattle.standing.specs.Eras.{AreEras, Eras, all_eras, last_era, texts_of}
use Rattle.standing.specs.Marks.{Mark}
use Rattle.standing.specs.Rules.{Rules, output_text}
use Rattle.standing.specs.Standing.{Found, nothing, damaged, found, Lengthens, Standing}

-- ---- an image that keeps all

pub long_enough : (n : ℕ) (file : List ℕ) → length (take n file) ≡ n → n ≤ length file
long_enough n file is = omega (arith, is, length-take n file)

still : (history : History) (old new : Image DiskFile) → KeepsAll old new → IsStanding history old → IsStanding history new
still history old new keeps stood = by stood.there stood.found stood.are stood.stands
  where
    by : (there : Found) → IsFound old there → AreErasIn there stood.eras → Standing stood.eras history there (old Output) → IsStanding history new
    by nothing has are stands = record { there = nothing; found = keeps.there nothing has; eras = stood.eras; are = tt; stands = tt }
    by damaged has are stands = absurd stands
    by (found own) has are stands =
        let same : take own.output_length (new Output) ≡ take own.output_length (old Output) = keeps.output (found own) has in
        let long : own.output_length ≤ length (new Output) = long_enough own.output_length (new Output)
        (ap (λ (t : List ℕ). length t) same ∙ length-take-le own.output_length (old Output) stands.sound.long_enough) in
        record {
          there = found own;
          found = keeps.there (found own) has;
          eras = stood.eras;
          are = are;
          stands = moved stood.eras history own (old Output) (new Output) long same stands;
        }

-- ---- an image with one era more

-- all lines are spelled in one way
line_is : (text : List ℕ) (rules : Rules) → HasRules text rules → rules.line ≡ line_of
line_is text rules has = ap (λ (r : Rules). r.line) has.2

pub text_is : (text : List ℕ) (rules : Rules) (marks : List Mark) → HasRules text rules → output_text rules marks ≡ lines_text marks
text_is text rules marks has = ap (λ (r : Rules). output_text r marks) has.2

pub settings_are : (text : List ℕ) (rules : Rules) → HasRules text rules → rules.settings ≡ text
settings_are text rules has = ap (λ (r : Rules). r.settings) has.2

texts_more : (eras : Eras) (next : Rules) → texts_of (with_era eras next) ≡ texts_of eras ++ next.settings ∷ []
texts_more eras next = map-append (λ (rules : Rules). rules.settings) (all_eras eras) (next ∷ [])

module _ (one_set : OneSet) (text : List ℕ) (next : Rules) (next_are : HasRules text next) (next_laws : AreRules next) where
  eras_more : (eras : Eras) → AreEras eras → All (λ (rules : Rules). HasRules rules.settings rules) (all_eras eras) → next.front_size ≡ eras.first.front_size → AreEras (with_era eras next)
  eras_more eras laws each size =
      let first_line : eras.first.line ≡ line_of = line_is eras.first.settings eras.first (All-head (λ (rules : Rules). HasRules rules.settings rules) eras.first eras.later each) in
      let P : Rules → Type 0 = λ rules. rules.line ≡ eras.first.line in
      let Q : Rules → Type 0 = λ rules. rules.front_size ≡ eras.first.front_size in
      record {
        each = All-append AreRules (all_eras eras) (next ∷ []) laws.each (All-cons AreRules next [] next_laws (All-nil AreRules));
        one_line = All-append P (all_eras eras) (next ∷ []) laws.one_line (All-cons P next [] (line_is text next next_are ∙ sym first_line) (All-nil P));
        one_front_size = All-append Q (all_eras eras) (next ∷ []) laws.one_front_size (All-cons Q next [] size (All-nil Q));
      }

  -- an image with the next checkpoint, where the one before stood by these eras
  grown : (history : History) (before after : Checkpoint) (added : List Mark) (old new : Image DiskFile) → IsAdoption text before after added → HasCheckpoint (Some after) new → before.output_length ≤ length (old Output)
      → new Output ≡ take before.output_length (old Output) ++ lines_text added → StandsBy history before (old Output) → IsStanding history new
  grown history before after added old new adoption has enough output by =
      let eras : Eras = by.eras in
      let R : Rules → Type 0 = λ rules. HasRules rules.settings rules in
      let last_has : HasRules (last_era eras).settings (last_era eras) = at_last R eras.first eras.later by.are.each in
      let last_text_is : last_text before.eras ≡ (last_era eras).settings = ap last_text by.are.texts_are ∙ last_is eras in
      let rules_is : adoption.rules ≡ last_era eras = one_set (last_era eras).settings adoption.rules (last_era eras) (subst (λ (t : List ℕ). HasRules t adoption.rules) last_text_is adoption.rules_are) last_has in
      let next_is : adoption.next ≡ next = one_set text adoption.next next adoption.next_are next_are in
      let size : next.front_size ≡ eras.first.front_size =
      ap (λ (r : Rules). r.front_size) (sym next_is) ∙ adoption.one_front_size ∙ ap (λ (r : Rules). r.front_size) rules_is ∙ last_size eras by.are.laws in
      let more_laws : AreEras (with_era eras next) = eras_more eras by.are.laws by.are.each size in
      let adopts : Adopts eras next before after added = by_rules eras adoption.rules adoption.next rules_is next_is adoption.adopts in
      let added_is : output_text (last_era eras) added ≡ lines_text added = text_is (last_era eras).settings (last_era eras) added last_has in
      let length_is : after.output_length ≡ before.output_length + length (lines_text added) = adopts.output_length ∙ ap (λ (t : List ℕ). before.output_length + length t) added_is in
      let whole : length (new Output) ≡ after.output_length =
      ap (λ (t : List ℕ). length t) output ∙ length-append (take before.output_length (old Output)) (lines_text added)
      ∙ ap (λ n. n + length (lines_text added)) (length-take-le before.output_length (old Output) enough) ∙ sym length_is in
      let lengthens : Lengthens (last_era eras) (take before.output_length (old Output)) after added (new Output) = record {
        long_enough = omega (arith, whole);
        longer = take_all after.output_length (new Output) (omega (arith, whole)) ∙ output ∙ ap (λ (t : List ℕ). take before.output_length (old Output) ++ t) (sym added_is);
      } in
      record {
        there = found after;
        found = has;
        eras = with_era eras next;
        are = record {
          texts_are = adopts.texts ∙ ap (λ (ts : List (List ℕ)). ts ++ next.settings ∷ []) by.are.texts_are ∙ sym (texts_more eras next);
          each = All-append R (all_eras eras) (next ∷ []) by.are.each (All-cons R next [] (subst (λ (t : List ℕ). HasRules t next) (sym (settings_are text next next_are)) next_are) (All-nil R));
          laws = more_laws;
        };
        stands = adopting_keeps eras by.are.laws next more_laws history before after added (old Output) (new Output) adopts lengthens by.stands;
      }
    where
      by_rules : (eras : Eras) (rules other : Rules) → rules ≡ last_era eras → other ≡ next → Adopts (sole_era rules) other before after added → Adopts eras next before after added
      by_rules eras rules other rules_is other_is adopts =
          let P : Rules → Type 0 = λ r. Adopts (sole_era r) next before after added in
          let Q : Rules → Type 0 = λ o. Adopts (sole_era rules) o before after added in
          let moved_to : Adopts (sole_era (last_era eras)) next before after added = subst P rules_is (subst Q other_is adopts) in
          record { texts = moved_to.texts; rows = moved_to.rows; next_id = moved_to.next_id; observed = moved_to.observed; lines = moved_to.lines; output_length = moved_to.output_length }

  adopted_stands : (history : History) (limit : ℕ) (adopted : Adopted) (old new : Image DiskFile) → IsAdopted text limit adopted old new → IsStanding history old → IsStanding history new
  adopted_stands history limit adopted old new is stood =
      let by : StandsBy history is.before (old Output) = stands_by history old is.before is.had stood in
      elim is.change [
        | inl force ↦ (
            let none : new Output ≡ take is.before.output_length (old Output) = is.output ∙ ap (λ (m : List Mark). take is.before.output_length (old Output) ++ lines_text m) force.none ∙ append-nil (take is.before.output_length (old Output)) in
            let size : length (new Output) ≡ is.before.output_length = ap (λ (t : List ℕ). length t) none ∙ length-take-le is.before.output_length (old Output) is.enough in
            let same : take is.before.output_length (new Output) ≡ take is.before.output_length (old Output) = take_all is.before.output_length (new Output) (omega (arith, size)) ∙ none in
            let has : HasCheckpoint (Some is.before) new = subst (λ (c : Checkpoint). HasCheckpoint (Some c) new) force.same is.has in
            record {
              there = found is.before;
              found = has;
              eras = by.eras;
              are = by.are;
              stands = moved by.eras history is.before (old Output) (new Output) (omega (arith, size)) same by.stands;
            }
            )
        | inr adoption ↦ grown history is.before is.after is.added old new adoption.0 is.has is.enough is.output by
      ]

  pub adopting_stands : {D : Type 0} {images : Images DiskFile D} {disk disk_after : D} (counts_now : (from : ℕ) (image : Image DiskFile) → from ≤ images.moment disk → images.may_leave disk image → images.left_since disk from image)
      → (limit : ℕ) → Passes images (MayAdopt text limit) disk disk_after → (history : History) → KeepsStandingIn images history disk disk_after
  adopting_stands counts_now limit passes history from early stood image left = elim (passes.since from image early left) [
    | inl sooner ↦ stood image sooner
    | inr past ↦ (
        let before : IsStanding history past.0 = stood past.0 (counts_now from past.0 early past.1) in
        elim past.2.choice [
          | inl keeps ↦ still history past.0 image keeps before
          | inr adopted ↦ adopted_stands history limit adopted.0 past.0 image adopted.1 before
        ]
        )
  ]

pub same_stands : {D : Type 0} {images : Images DiskFile D} {disk disk_after : D} (counts_now : (from : ℕ) (image : Image DiskFile) → from ≤ images.moment disk → images.may_leave disk image → images.left_since disk from image)
    → Passes images Same disk disk_after → (history : History) → KeepsStandingIn images history disk disk_after
same_stands counts_now passes history from early stood image left = elim (passes.since from image early left) [
  | inl sooner ↦ stood image sooner
  | inr past ↦ (let P : Image DiskFile → Type 0 = λ i. IsStanding history i in subst P (sym past.2) (stood past.0 (counts_now from past.0 early past.1)))
]
