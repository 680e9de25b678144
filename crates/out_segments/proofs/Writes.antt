-- Writes to the output.
use Rattle.std.proofs.Common.{◌≡◌, ℕ, ◌+◌, ◌*◌, ◌-◌, ◌/◌, ◌%◌, ◌<◌, ◌≤◌, ◌^◌, List, ◌++◌, inl, inr, length, take, drop, sym, ◌∙◌, ap, subst, arith, take-append-drop}
use Rattle.std.proofs.lemmas.Bool.{cases_lt}
use Rattle.std.proofs.lemmas.List.{take-take, drop-take, length-take-le, length-take, length-drop}
use Rattle.std.proofs.lemmas.Nat.{div-add-mod', div_below, le-div}
use Rattle.outside.specs.Image.{Image, AtFile, Torn, Holds}
use Rattle.outside.proofs.Tearing.{torn_idle}
use Rattle.out_segments.specs.declared.parts.PartFile.{PartFile}
use Rattle.out_segments.specs.declared.parts.PartFile.TheVariants.{Part}
use Rattle.out_segments.specs.Inner.AtOutput.{AtOutput, IsKept, HasRoom}
use Rattle.out_segments.specs.Joined.{IsPartSize, output_of}
use Rattle.out_segments.proofs.Tears.{torn_wider, torn_then, holds_then}
use Rattle.out_segments.proofs.Outputs.{output_torn, output_holds, at_output, at_output_from, at_output_then, at_output_weaker}

-- a write of bytes that lie in one Part, at this place of the output
module _ (size at count : ℕ) (some : 1 ≤ size) (within : at / size < 4294967296) (fits : at % size + count ≤ size) (old new : Image PartFile) where
  pub torn_part : HasRoom size (at / size) (at % size + count) old → AtFile (Part (at / size)) (Torn (at % size) count) old new → AtOutput size (at / size) (Torn at count) old new
  torn_part room torn =
      let Q : ℕ → Type 0 = λ place. AtOutput size (at / size) (Torn place count) old new in
      subst Q (div-add-mod' at size) (at_output (λ t. omega (arith, t.no_longer, fits)) torn (output_torn size (at / size) some within (at % size) count fits room torn))

pub holds_part : (size at : ℕ) (bytes : List ℕ) (old new : Image PartFile) → 1 ≤ size → at / size < 4294967296 → at % size + length bytes ≤ size → at ≤ length (output_of size old) → HasRoom size (at / size) (at % size + length bytes) old → AtFile (Part (at / size)) (Holds (at % size) bytes) old new → AtOutput size (at / size) (Holds at bytes) old new
holds_part size at bytes old new some within fits begins room holds =
    let Q : ℕ → Type 0 = λ place. AtOutput size (at / size) (Holds place bytes) old new in
    let whole = div-add-mod' at size in
    subst Q whole (at_output (λ h. omega (arith, h.outside.no_longer, fits)) holds (output_holds size (at / size) some within (at % size) bytes fits (omega (arith, whole, begins)) room holds))

-- nothing of it was written yet
pub torn_kept : (size first at count : ℕ) (old new : Image PartFile) → AtOutput size first IsKept old new → AtOutput size first (Torn at count) old new
torn_kept size first at count old new kept = at_output_weaker kept (λ same. subst (λ bytes. Torn at count (output_of size old) bytes) (sym same) (torn_idle at count (output_of size old)))

-- a later place lies in no earlier Part
part_later : (size offset at : ℕ) → 1 ≤ size → offset ≤ at → offset / size ≤ at / size
part_later size offset at some later = le-div (offset / size) at size (omega arith) (omega (arith, div-add-mod' offset size))

-- one more write within the range
pub torn_more : (size offset count at part : ℕ) (old mid new : Image PartFile) → offset ≤ at → at + part ≤ offset + count → 1 ≤ size → AtOutput size (offset / size) (Torn offset count) old mid → AtOutput size (at / size) (Torn at part) mid new → AtOutput size (offset / size) (Torn offset count) old new
torn_more size offset count at part old mid new above below some a b =
    at_output_then a (at_output_from (part_later size offset at some above) b) (λ first second. torn_then offset count (output_of size old) (output_of size mid) (output_of size new) first (torn_wider offset count at part (output_of size mid) (output_of size new) above below second))

pub take_in_two : (xs : List ℕ) (first second : ℕ) → take (first + second) xs ≡ take first xs ++ take second (drop first xs)
take_in_two xs first second =
    sym (take-append-drop first (take (first + second) xs))
    ∙ ap (λ front. front ++ drop first (take (first + second) xs)) (take-take first (first + second) xs (omega arith))
    ∙ ap (λ back. take first xs ++ back) (drop-take first second xs)

pub holds_more : (size offset written last : ℕ) (bytes : List ℕ) (old mid new : Image PartFile) → written ≤ length bytes → written ≤ last → 1 ≤ size → AtOutput size (offset / size) (Holds offset (take written bytes)) old mid → AtOutput size ((offset + written) / size) (Holds (offset + written) (take (last - written) (drop written bytes))) mid new → AtOutput size (offset / size) (Holds offset (take last bytes)) old new
holds_more size offset written last bytes old mid new within later some a b =
    let Q : List ℕ → Type 0 = λ whole. Holds offset whole (output_of size old) (output_of size new) in
    let piece = take (last - written) (drop written bytes) in
    let joined : take written bytes ++ piece ≡ take last bytes = (let P : ℕ → Type 0 = λ n. take written bytes ++ piece ≡ take n bytes in subst P (omega arith) (sym (take_in_two bytes written (last - written)))) in
    at_output_then a (at_output_from (part_later size offset (offset + written) some (omega arith)) b) (λ first second.
    let at : offset + written ≡ offset + length (take written bytes) = omega (arith, length-take-le written bytes within) in
    let next : Holds (offset + length (take written bytes)) piece (output_of size mid) (output_of size new) = subst (λ (p : ℕ). Holds p piece (output_of size mid) (output_of size new)) at second in
    subst Q joined (holds_then offset (take written bytes) piece (output_of size old) (output_of size mid) (output_of size new) first next))

-- The greatest output has fewer than 2^32 Parts.
pub place_fits : (size at count : ℕ) → IsPartSize size → 0 < count → at + count ≤ 2 ^ 40 → at / size < 4294967296
place_fits size at count fits some ends =
    let within : at < 4294967296 * size = elim (cases_lt at (4294967296 * size)) [
      | inl early ↦ early
      | inr late ↦ absurd (omega (arith, fits.fits, le-div 4294967296 (2 ^ 40) size (omega (arith, fits.some)) (omega (arith, late, ends))))
    ] in
    div_below at size 4294967296 (omega (arith, fits.some)) within

-- a piece of the bytes
pub piece_within : (bytes : List ℕ) (written count : ℕ) → written ≤ length bytes → written + length (take count (drop written bytes)) ≤ length bytes
piece_within bytes written count within = omega (arith, length-take count (drop written bytes), length-drop written bytes)
