-- Cuts of the output.
use Rattle.std.proofs.Common.{◌≡◌, ◌∙◌, ◌/◌, ℕ, ◌+◌, ◌*◌, ◌<◌, ◌≤◌, max, List, [], ◌∷◌, length, take, refl, arith, inl, inr, ap, sym, subst}
use Rattle.std.proofs.lemmas.Bool.{cases_eq, cases_lt}
use Rattle.std.proofs.lemmas.List.{length-take, take_all}
use Rattle.std.proofs.lemmas.Nat.{le-div}
use Rattle.outside.specs.Image.{Image, AtFile, MayCut, IsCut}
use Rattle.outside.proofs.Tearing.{at_file_idle}
use Rattle.out_segments.specs.declared.parts.PartFile.{PartFile}
use Rattle.out_segments.specs.declared.parts.PartFile.TheVariants.{Part}
use Rattle.out_segments.specs.Joined.{output_of}
use Rattle.out_segments.specs.Inner.AtOutput.{AtOutput, IsKept, IsShort, EmptiedTo, EmptiesBehind}
use Rattle.out_segments.proofs.Outputs.{output_cut, output_kept, output_alike, at_output, at_output_from, part_alike, output_idle}

-- a cut makes nothing longer
cut_fits : (size offset : ℕ) (old new : List ℕ) → IsCut offset old new → length new ≤ max size (length old)
cut_fits size offset old new cut = omega (arith, ap length cut, length-take offset old)

pub may_cut_fits : (size offset : ℕ) (old new : List ℕ) → MayCut offset old new → length new ≤ max size (length old)
may_cut_fits size offset old new (inl same) = omega (arith, ap length same)
may_cut_fits size offset old new (inr cut) = cut_fits size offset old new cut

-- each Part as it was
module _ (size place offset : ℕ) (some : 1 ≤ size) (within : place < 4294967296) (inside : offset < size) (old new : Image PartFile) where
  pub is_cut : AtFile (Part place) (IsCut offset) old new → AtOutput size place (IsCut (place * size + offset)) old new
  is_cut at = at_output (cut_fits size offset (old (Part place)) (new (Part place))) at (output_cut size place some within offset inside at)

  kept_whole : new (Part place) ≡ old (Part place) → AtFile (Part place) (MayCut offset) old new → output_of size new ≡ output_of size old
  kept_whole same at = output_alike size old new (λ number _. elim (cases_eq number place) [
    | inl here ↦ (let P : ℕ → Type 0 = λ n. new (Part n) ≡ old (Part n) in subst P (sym here) same)
    | inr apart ↦ part_alike at number apart
  ])

  pub may_cut : AtFile (Part place) (MayCut offset) old new → AtOutput size place (MayCut (place * size + offset)) old new
  may_cut at = elim at.here [
    | inl same ↦ at_output (may_cut_fits size offset (old (Part place)) (new (Part place))) at (inl (kept_whole same at))
    | inr cut ↦ at_output (may_cut_fits size offset (old (Part place)) (new (Part place))) at (inr (output_cut size place some within offset inside (record { here = cut; others = at.others })))
  ]

-- a change of a later Part
module _ (size place number : ℕ) (behind : place < number) (within : number < 4294967296) {change : List ℕ → List ℕ → Type 0} (old new : Image PartFile) where
  pub kept_behind : (change (old (Part number)) (new (Part number)) → length (new (Part number)) ≤ max size (length (old (Part number)))) → IsShort size place old → AtFile (Part number) change old new → AtOutput size place IsKept old new
  kept_behind fits short at = at_output_from (omega (arith, behind)) (at_output fits at (output_kept size place old new (omega (arith, behind, within)) short (λ early below. part_alike at early (omega (arith, behind, below)))))

  pub short_still : IsShort size place old → AtFile (Part number) change old new → IsShort size place new
  short_still short at =
      let same : new (Part place) ≡ old (Part place) = part_alike at place (omega (arith, behind)) in
      rw same short

pub short_cut : (size offset : ℕ) (first cut left : List ℕ) → offset < size → cut ≡ take offset first → left ≡ cut → length left < size
short_cut size offset first cut left inside is same = omega (arith, ap length same, ap length is, length-take offset first)

pub kept : (size first : ℕ) (image : Image PartFile) → AtOutput size first IsKept image image
kept size first image = output_idle size first IsKept image refl

pub no_bytes : (bytes : List ℕ) → length bytes ≡ 0 → bytes ≡ []
no_bytes [] none = refl
no_bytes (byte ∷ bytes) none = absurd (omega (arith, none))

-- A cut behind the end leaves what there is.
pub cut_behind : (size offset : ℕ) (image : Image PartFile) → length (output_of size image) ≤ offset → AtOutput size (offset / size) (IsCut offset) image image
cut_behind size offset image behind = output_idle size (offset / size) (IsCut offset) image (sym (take_all offset (output_of size image) behind))

-- ---- the Parts behind a cut

-- a cut that wasn't begun, or that came after a read
pub cut_read_none : (number : ℕ) (old new : Image PartFile) → new ≡ old → AtFile (Part number) (MayCut 0) old new
cut_read_none number old new same = subst (λ (image : Image PartFile). AtFile (Part number) (MayCut 0) old image) (sym same) (at_file_idle (Part number) (MayCut 0) old (inl refl))

pub cut_read_then : (number : ℕ) (old mid new : Image PartFile) → mid ≡ old → AtFile (Part number) (MayCut 0) mid new → AtFile (Part number) (MayCut 0) old new
cut_read_then number old mid new same at = subst (λ (image : Image PartFile). AtFile (Part number) (MayCut 0) image new) same at

-- Parts of which one is emptied
pub emptied_none : (place : ℕ) (image : Image PartFile) → EmptiedTo place place image image
emptied_none place image = record { empty = λ number late early. absurd (omega arith); later = λ number late. refl }

pub emptied_more : (place last : ℕ) (old mid new : Image PartFile) → EmptiedTo place last old mid → new (Part (last + 1)) ≡ [] → AtFile (Part (last + 1)) (MayCut 0) mid new → EmptiedTo place (last + 1) old new
emptied_more place last old mid new so_far here at = record {
  empty = λ number behind early. elim (cases_eq number (last + 1)) [
    | inl same ↦ (let P : ℕ → Type 0 = λ n. new (Part n) ≡ [] in subst P (sym same) here)
    | inr apart ↦ (part_alike at number apart ∙ so_far.empty number behind (omega (arith, apart)))
  ];
  later = λ number late. part_alike at number (λ same. absurd (omega (arith, same, late))) ∙ so_far.later number (omega (arith, late));
}

-- The first that was empty ends the search.
pub emptied_up : (place last : ℕ) (old new : Image PartFile) → place < last → old (Part last) ≡ [] → EmptiedTo place last old new → EmptiesBehind place old new
emptied_up place last old new later was emptied number behind within none = elim (cases_lt last number) [
  | inl late ↦ absurd (none last later late was)
  | inr early ↦ emptied.empty number behind early
]

pub emptied_whole : (place last : ℕ) (old new : Image PartFile) → 4294967295 ≤ last → EmptiedTo place last old new → EmptiesBehind place old new
emptied_whole place last old new late emptied number behind within none = emptied.empty number behind (omega (arith, late, within))

-- a Part was cut, and then those behind it
pub emptied_behind : (place first : ℕ) {change : List ℕ → List ℕ → Type 0} (old mid new : Image PartFile) → place ≡ first → AtFile (Part place) change old mid → EmptiesBehind place mid new → EmptiesBehind first old new
emptied_behind place first old mid new is at emptied number behind within none =
    emptied number (omega (arith, is, behind)) within (λ between late early empty. none between (omega (arith, is, late)) early (sym (part_alike at between (λ same. absurd (omega (arith, same, late)))) ∙ empty))

-- Behind all Parts there is none.
pub emptied_past : (size offset : ℕ) (old new : Image PartFile) → 1 ≤ size → 4294967296 * size ≤ offset → EmptiesBehind (offset / size) old new
emptied_past size offset old new some late number behind within none = absurd (omega (arith, le-div 4294967296 offset size some late, behind, within))
