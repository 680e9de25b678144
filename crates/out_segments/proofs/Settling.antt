-- Parts that are settled, over several calls.
use Rattle.std.proofs.Common.{◌≡◌, ℕ, ◌+◌, ◌<◌, ◌≤◌, List, length, IsTrue, sym, ◌∙◌, subst, arith, inl, inr}
use Rattle.std.proofs.lemmas.Bool.{cases_eq}
use Rattle.outside.specs.Crash.{IsDurable}
use Rattle.outside.specs.Image.{Image}
use Rattle.outside.specs.Images.{Images}
use Rattle.out_segments.specs.declared.parts.PartFile.{PartFile}
use Rattle.out_segments.specs.declared.parts.PartFile.TheVariants.{Part}
use Rattle.out_segments.specs.Inner.AtOutput.{AtOutput}
use Rattle.out_segments.specs.Inner.Keeping.{OnlyRead, Changes}
use Rattle.out_segments.specs.PartsMeaning.{PartsMeaning}
use Rattle.out_segments.specs.Inner.Settled.{AreSettled}
use Rattle.out_segments.proofs.Changing.{durable_read}

module _ {P : Type 0} (images : Images PartFile P) (parts : P) (size : ℕ) where
  -- one more, which was synced and is full
  pub settled_more : (before : ℕ) → AreSettled images size before parts → IsDurable images (Part before) parts → (IsTrue (images.tells parts) → size ≤ length (images.seen parts (Part before))) → AreSettled images size (before + 1) parts
  settled_more before settled durable full number early = elim (cases_eq number before) [
    | inl here ↦
        (let Q : ℕ → Type 0 = λ n. IsDurable images (Part n) parts × (IsTrue (images.tells parts) → size ≤ length (images.seen parts (Part n))) in
        subst Q (sym here) (durable, full))
    | inr apart ↦ settled number (omega (arith, early, apart))
  ]

  pub settled_fewer : (less before : ℕ) → less ≤ before → AreSettled images size before parts → AreSettled images size less parts
  settled_fewer less before fewer settled number early = settled number (omega (arith, fewer, early))

module _ {P : Type 0} {meaning : PartsMeaning P} (size : ℕ) where
  pub settled_read : (before : ℕ) {old new : P} → AreSettled meaning.images size before old → OnlyRead meaning old new → AreSettled meaning.images size before new
  settled_read before {old} {new} settled read number early = (
    durable_read (settled number early).0 read,
    λ told. let Q : Image PartFile → Type 0 = λ image. size ≤ length (image (Part number)) in subst Q (sym read.seen) ((settled number early).1 (subst IsTrue read.terms.tells told)),
  )

  -- A change of later Parts leaves them.
  pub settled_changes : {change : List ℕ → List ℕ → Type 0} (before first : ℕ) {old new : P} → before ≤ first → ((image : Image PartFile) → meaning.images.may_leave new image → IsTrue (meaning.images.tells new)) → AreSettled meaning.images size before old → Changes meaning (AtOutput size first change) old new → AreSettled meaning.images size before new
  settled_changes before first {old} {new} later told settled changes number early =
      let early_there : number < first = omega (arith, later, early) in
      let seen_same : IsTrue (meaning.images.tells new) → meaning.images.seen new (Part number) ≡ meaning.images.seen old (Part number) = λ now. (changes.begun (subst IsTrue changes.terms.tells now)).before number early_there in (
        λ image left.
            let past = changes.crash.now_left image left in
            past.2.before number early_there ∙ (settled number early).0 past.0 past.1 ∙ sym (seen_same (told image left)),
        λ now. rw (seen_same now) ((settled number early).1 (subst IsTrue changes.terms.tells now)),
      )
