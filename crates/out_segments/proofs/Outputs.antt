-- Changes of one Part, as changes of the output.
use Rattle.std.proofs.Common.{◌≡◌, ◌≢◌, ◌⊎◌, ℕ, suc, ◌+◌, ◌*◌, ◌-◌, ◌<◌, ◌≤◌, max, List, ◌++◌, length, take, refl, sym, ◌∙◌, ap, subst, arith, length-append, inl, inr}
use Rattle.std.proofs.lemmas.Bool.{cases_eq}
use Rattle.std.proofs.lemmas.List.{take_all, length-take, get_or-take, get_or-append-add}
use Rattle.std.proofs.lemmas.Grind.{same_number_lists}
use Rattle.outside.specs.Image.{Image, AtFile, Torn, Holds, IsCut}
use Rattle.outside.proofs.Tearing.{torn_idle}
use Rattle.outside.specs.declared.disk.DiskFile.{DiskFile}
use Rattle.outside.specs.declared.disk.DiskFile.TheVariants as disk
use Rattle.out_segments.specs.declared.parts.PartFile.{PartFile}
use Rattle.out_segments.specs.declared.parts.PartFile.TheVariants.{Settings, SlotA, SlotB, Part}
use Rattle.out_segments.specs.Joined.{joined, output_of, image_of}
use Rattle.out_segments.specs.Inner.AtOutput.{AtOutput, IsKept, IsShort, HasRoom}
use Rattle.out_segments.proofs.Tears.{torn_behind, same_behind}
use Rattle.out_segments.proofs.Joining.{split, joined_alike, joined_last, joined_long, joined_most, joined_short, begins_here, cut_here, torn_here, holds_here}

abbrev numbered : Image PartFile → ℕ → List ℕ
numbered image number = image (Part number)

same_part : (a b : ℕ) → Part a ≡ Part b → a ≡ b
same_part a b same = cc

pub part_alike : {place : ℕ} {change : List ℕ → List ℕ → Type 0} {old new : Image PartFile} → AtFile (Part place) change old new → (number : ℕ) → number ≢ place → new (Part number) ≡ old (Part number)
part_alike {place} at number apart = at.others (Part number) (λ same. apart (same_part number place same))

-- the first bytes, behind what stands in front
take_behind : (front rest : List ℕ) (size count : ℕ) → length front ≡ size → take (size + count) (front ++ rest) ≡ front ++ take count rest
take_behind front rest size count long =
    same_number_lists (take (size + count) (front ++ rest)) (front ++ take count rest)
    (omega (arith, length-take (size + count) (front ++ rest), length-append front rest, length-append front (take count rest), length-take count rest))
    (λ k within.
    let near : k < size + count = omega (arith, length-take (size + count) (front ++ rest)) in
    get_or-take (size + count) (front ++ rest) k 0 near ∙ same_behind front (take count rest) rest k (λ j at. sym (get_or-take count rest j 0 (omega arith))))

-- so much of the output lies in the Parts before this one
abbrev OutputSplits : ℕ → Image PartFile → Image PartFile → ℕ → Type 0
OutputSplits size old new place =
    ((length (output_of size old) < place * size) × (output_of size new ≡ output_of size old))
    ⊎ ((front : List ℕ) × (length front ≡ place * size)
    × (output_of size old ≡ front ++ joined size (numbered old) place (suc (4294967295 - place)))
    × (output_of size new ≡ front ++ joined size (numbered new) place (suc (4294967295 - place))))

split_output : (size place : ℕ) (old new : Image PartFile) → place < 4294967296 → ((number : ℕ) → number < place → new (Part number) ≡ old (Part number)) → OutputSplits size old new place
unfolding output_of
split_output size place old new within alike =
    let P : ℕ → ℕ → Type 0 = λ total start. ((length (joined size (numbered old) 0 total) < place * size) × (joined size (numbered new) 0 total ≡ joined size (numbered old) 0 total)) ⊎ ((front : List ℕ) × (length front ≡ place * size) × (joined size (numbered old) 0 total ≡ front ++ joined size (numbered old) start (suc (4294967295 - place))) × (joined size (numbered new) 0 total ≡ front ++ joined size (numbered new) start (suc (4294967295 - place)))) in
    let total : place + suc (4294967295 - place) ≡ 4294967296 = omega arith in
    let start : 0 + place ≡ place = omega arith in
    subst (λ t. P t place) total (subst (λ s. P (place + suc (4294967295 - place)) s) start (split size (numbered old) (numbered new) 0 place (suc (4294967295 - place)) (λ number early. alike number (omega arith))))

module _ (size place : ℕ) (some : 1 ≤ size) (within : place < 4294967296) {old new : Image PartFile} where
  pub output_torn : (offset count : ℕ) → offset + count ≤ size → HasRoom size place (offset + count) old → AtFile (Part place) (Torn offset count) old new → Torn (place * size + offset) count (output_of size old) (output_of size new)
  output_torn offset count fits room at = elim (split_output size place old new within (λ number early. part_alike at number (omega arith))) [
    | inl hidden ↦ rw hidden.1 (torn_idle (place * size + offset) count (output_of size old))
    | inr shown ↦
        (let torn = torn_here size some (numbered old) (numbered new) place (4294967295 - place) (λ number late. part_alike at number (omega arith)) offset count fits room at.here in
        rw (shown.2, shown.3, ← shown.1) (torn_behind shown.0 (joined size (numbered old) place (suc (4294967295 - place))) (joined size (numbered new) place (suc (4294967295 - place))) offset count torn))
  ]

  pub output_holds : (offset : ℕ) (bytes : List ℕ) → offset + length bytes ≤ size → place * size + offset ≤ length (output_of size old) → HasRoom size place (offset + length bytes) old → AtFile (Part place) (Holds offset bytes) old new → Holds (place * size + offset) bytes (output_of size old) (output_of size new)
  output_holds offset bytes fits begins room at = elim (split_output size place old new within (λ number early. part_alike at number (omega arith))) [
    | inl hidden ↦ absurd (omega (arith, hidden.0, begins))
    | inr shown ↦
        (let old_rest = joined size (numbered old) place (suc (4294967295 - place)) in
        let new_rest = joined size (numbered new) place (suc (4294967295 - place)) in
        let holds = holds_here size some (numbered old) (numbered new) place (4294967295 - place) (λ number late. part_alike at number (omega arith)) offset bytes fits room at.here in
        rw (shown.2, shown.3, ← shown.1)
        (record {
          outside = torn_behind shown.0 old_rest new_rest offset (length bytes) holds.outside;
          inside = λ k short. (let e : length shown.0 + offset + k ≡ length shown.0 + (offset + k) = omega arith in rw e (get_or-append-add shown.0 new_rest (offset + k) 0 ∙ holds.inside k short));
          reaches = omega (arith, holds.reaches, length-append shown.0 new_rest);
        }))
  ]

  -- a cut of one Part
  pub output_cut : (offset : ℕ) → offset < size → AtFile (Part place) (IsCut offset) old new → IsCut (place * size + offset) (output_of size old) (output_of size new)
  output_cut offset inside at = elim (split_output size place old new within (λ number early. part_alike at number (omega arith))) [
    | inl hidden ↦ (hidden.1 ∙ sym (take_all (place * size + offset) (output_of size old) (omega (arith, hidden.0))))
    | inr shown ↦
        (let old_rest = joined size (numbered old) place (suc (4294967295 - place)) in
        let cut = cut_here size (numbered old) place (4294967295 - place) (numbered new) offset inside at.here in
        shown.3 ∙ ap (λ rest. shown.0 ++ rest) cut ∙ sym (ap (take (place * size + offset)) shown.2 ∙ take_behind shown.0 old_rest (place * size) offset shown.1))
  ]

module _ (size place : ℕ) (within : place < 4294967296) (image : Image PartFile) where
  -- a place in the output is one in its Part
  pub output_begins : (offset : ℕ) → offset ≤ size → place * size + offset ≤ length (output_of size image) → offset ≤ length (image (Part place))
  output_begins offset fits begins = elim (split_output size place image image within (λ number early. refl)) [
    | inl hidden ↦ absurd (omega (arith, hidden.0, begins))
    | inr shown ↦
        (let rest = joined size (numbered image) place (suc (4294967295 - place)) in
        begins_here size (numbered image) place (4294967295 - place) offset fits (omega (arith, begins, ap length shown.2, length-append shown.0 rest, shown.1)))
  ]

  -- the output ends in the first Part that isn't full
  pub output_ends : IsShort size place image → place * size ≤ length (output_of size image) → length (output_of size image) ≡ place * size + length (image (Part place))
  output_ends short reached = elim (split_output size place image image within (λ number early. refl)) [
    | inl hidden ↦ absurd (omega (arith, hidden.0, reached))
    | inr shown ↦
        (let rest = joined size (numbered image) place (suc (4294967295 - place)) in
        omega (arith, ap length shown.2, length-append shown.0 rest, shown.1, ap length (joined_last size (numbered image) place (4294967295 - place) short)))
  ]

  -- its bytes in this Part
  pub output_rest : place * size ≤ length (output_of size image) → (front : List ℕ) × (length front ≡ place * size) × (output_of size image ≡ front ++ joined size (numbered image) place (suc (4294967295 - place)))
  output_rest reached = elim (split_output size place image image within (λ number early. refl)) [
    | inl hidden ↦ absurd (omega (arith, hidden.0, reached))
    | inr shown ↦ (shown.0, shown.1, shown.2)
  ]

-- What stands behind a Part that isn't full isn't seen.
pub output_kept : (size place : ℕ) (old new : Image PartFile) → place < 4294967296 → IsShort size place old → ((number : ℕ) → number ≤ place → new (Part number) ≡ old (Part number)) → output_of size new ≡ output_of size old
output_kept size place old new within short alike = elim (split_output size place old new within (λ number early. alike number (omega arith))) [
  | inl hidden ↦ hidden.1
  | inr shown ↦
      (let here : new (Part place) ≡ old (Part place) = alike place (omega arith) in
      shown.3
      ∙ ap (λ rest. shown.0 ++ rest) (joined_last size (numbered new) place (4294967295 - place) (rw here short) ∙ here ∙ sym (joined_last size (numbered old) place (4294967295 - place) short))
      ∙ sym shown.2)
]

pub output_alike : (size : ℕ) (old new : Image PartFile) → ((number : ℕ) → number < 4294967296 → new (Part number) ≡ old (Part number)) → output_of size new ≡ output_of size old
unfolding output_of
output_alike size old new alike = joined_alike size (numbered old) (numbered new) 0 4294967296 (λ number above below. alike number (omega arith))

pub output_most : (size : ℕ) (image : Image PartFile) → length (output_of size image) ≤ 4294967296 * size
unfolding output_of
output_most size image = joined_most size (numbered image) 0 4294967296

-- all Parts before this one are full
pub output_reached : (size place : ℕ) (image : Image PartFile) → place ≤ 4294967296 → ((number : ℕ) → number < place → size ≤ length (image (Part number))) → place * size ≤ length (output_of size image)
unfolding output_of
output_reached size place image within full =
    let total : place + (4294967296 - place) ≡ 4294967296 = omega arith in
    subst (λ t. place * size ≤ length (joined size (numbered image) 0 t)) total (joined_long size (numbered image) 0 place (4294967296 - place) (λ number early. full number (omega arith)))

-- one of them isn't
pub output_unreached : (size place number : ℕ) (image : Image PartFile) → place ≤ 4294967296 → number < place → IsShort size number image → length (output_of size image) < place * size
unfolding output_of
output_unreached size place number image within early short =
    let total : place + (4294967296 - place) ≡ 4294967296 = omega arith in
    subst (λ t. length (joined size (numbered image) 0 t) < place * size) total (joined_short size (numbered image) 0 place (4294967296 - place) number (omega arith) (omega arith) short)

-- a Part that changed, among the others
part_length : (size place number : ℕ) (old new : Image PartFile) → length (new (Part place)) ≤ max size (length (old (Part place))) → (number ≢ place → new (Part number) ≡ old (Part number)) → length (new (Part number)) ≤ max size (length (old (Part number)))
part_length size place number old new fits alike = elim (cases_eq number place) [
  | inl same ↦
      (let P : ℕ → Type 0 = λ n. length (new (Part n)) ≤ max size (length (old (Part n))) in
      subst P (sym same) fits)
  | inr apart ↦ omega (arith, ap length (alike apart))
]

-- A change of one Part, which doesn't become longer than a full one, leaves what isn't output.
pub at_output : {size place : ℕ} {first change : List ℕ → List ℕ → Type 0} {old new : Image PartFile} → (first (old (Part place)) (new (Part place)) → length (new (Part place)) ≤ max size (length (old (Part place)))) → AtFile (Part place) first old new → change (output_of size old) (output_of size new) → AtOutput size place change old new
at_output {size} {place} {first} {change} {old} {new} fits at here = record {
  here = here;
  before = λ number early. part_alike at number (omega arith);
  settings = at.others Settings (λ e. cc);
  slot_a = at.others SlotA (λ e. cc);
  slot_b = at.others SlotB (λ e. cc);
  lengths = λ number. part_length size place number old new (fits at.here) (λ apart. part_alike at number apart);
}

-- the output as a file of a disk
pub at_file : {size first : ℕ} {change : List ℕ → List ℕ → Type 0} {old new : Image PartFile} → AtOutput size first change old new → AtFile disk.Output change (image_of size old) (image_of size new)
at_file {size} {first} {change} {old} {new} at = record { here = at.here; others = at_others }
  where
    at_others : (other : DiskFile) → other ≢ disk.Output → image_of size new other ≡ image_of size old other
    at_others disk.Settings apart = at.settings
    at_others disk.Output apart = absurd (apart refl)
    at_others disk.SlotA apart = at.slot_a
    at_others disk.SlotB apart = at.slot_b

pub at_output_then : {size first : ℕ} {one second whole : List ℕ → List ℕ → Type 0} {old mid new : Image PartFile} → AtOutput size first one old mid → AtOutput size first second mid new → (one (output_of size old) (output_of size mid) → second (output_of size mid) (output_of size new) → whole (output_of size old) (output_of size new)) → AtOutput size first whole old new
at_output_then a b join = record {
  here = join a.here b.here;
  before = λ number early. b.before number early ∙ a.before number early;
  settings = b.settings ∙ a.settings;
  slot_a = b.slot_a ∙ a.slot_a;
  slot_b = b.slot_b ∙ a.slot_b;
  lengths = λ number. omega (arith, a.lengths number, b.lengths number);
}

pub at_output_weaker : {size first : ℕ} {change weaker : List ℕ → List ℕ → Type 0} {old new : Image PartFile} → AtOutput size first change old new → (change (output_of size old) (output_of size new) → weaker (output_of size old) (output_of size new)) → AtOutput size first weaker old new
at_output_weaker at weaken = record { here = weaken at.here; before = at.before; settings = at.settings; slot_a = at.slot_a; slot_b = at.slot_b; lengths = at.lengths }

-- fewer Parts before it
pub at_output_from : {size less first : ℕ} {change : List ℕ → List ℕ → Type 0} {old new : Image PartFile} → less ≤ first → AtOutput size first change old new → AtOutput size less change old new
at_output_from fewer at = record { here = at.here; before = λ number early. at.before number (omega arith); settings = at.settings; slot_a = at.slot_a; slot_b = at.slot_b; lengths = at.lengths }

pub output_idle : (size first : ℕ) (change : List ℕ → List ℕ → Type 0) (image : Image PartFile) → change (output_of size image) (output_of size image) → AtOutput size first change image image
output_idle size first change image idle = record { here = idle; before = λ _ _. refl; settings = refl; slot_a = refl; slot_b = refl; lengths = λ number. omega arith }

pub kept_then : {size first : ℕ} {change : List ℕ → List ℕ → Type 0} {old mid new : Image PartFile} → AtOutput size first IsKept old mid → AtOutput size first change mid new → AtOutput size first change old new
kept_then {size} {first} {change} {old} {mid} {new} kept at = at_output_then kept at (λ same step. subst (λ bytes. change bytes (output_of size new)) same step)
