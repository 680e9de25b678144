-- Where the output ends, and what reads of it give.
use Rattle.std.proofs.Common.{◌≡◌, ℕ, suc, ◌+◌, ◌*◌, ◌-◌, ◌/◌, ◌<◌, ◌≤◌, min, List, ◌++◌, length, take, drop, get_or, refl, sym, ◌∙◌, ap, subst, arith, length-append, inl, inr}
use Rattle.std.proofs.lemmas.Bool.{cases_eq}
use Rattle.std.proofs.lemmas.Grind.{same_number_lists}
use Rattle.std.proofs.lemmas.List.{length-take, length-drop, take-append-le, get_or-take, get_or-drop, get_or-append-add}
use Rattle.outside.specs.Content.{Gives}
use Rattle.outside.specs.Image.{Image}
use Rattle.out_segments.specs.declared.parts.PartFile.{PartFile}
use Rattle.out_segments.specs.declared.parts.PartFile.TheVariants.{Part}
use Rattle.out_segments.specs.Inner.AtOutput.{IsShort}
use Rattle.out_segments.specs.Joined.{output_of, joined}
use Rattle.out_segments.proofs.Joining.{first_here, long_here}
use Rattle.out_segments.proofs.Outputs.{output_ends, output_rest, output_reached, output_most}

pub short_then : (size number last : ℕ) (now before : Image PartFile) → now ≡ before → last ≡ length (now (Part number)) → last < size → IsShort size number before
short_then size number last now before same is short = subst (λ (image : Image PartFile). IsShort size number image) same (omega (arith, is, short))

-- all Parts are full
pub output_whole : (size full : ℕ) (image : Image PartFile) → 4294967296 ≤ full → full ≤ 4294967296 → ((number : ℕ) → number < full → size ≤ length (image (Part number))) → full * size ≡ length (output_of size image)
output_whole size full image late within filled =
    let e : full ≡ 4294967296 = omega arith in
    let reached = output_reached size full image within filled in
    let product : full * size ≡ 4294967296 * size = ap (λ n. n * size) e in
    omega (arith, reached, product, output_most size image)

-- What is read from a Part that the output reaches.
module _ (size place inside : ℕ) (image : Image PartFile) (within : place < 4294967296) (early : inside < size) (reached : place * size ≤ length (output_of size image)) where
  reaches_so_far : (count : ℕ) → inside + count ≤ size → inside + count ≤ length (image (Part place)) → place * size + (inside + count) ≤ length (output_of size image)
  reaches_so_far count fits short =
      let rest = output_rest size place within image reached in
      let behind = joined size (λ number. image (Part number)) place (suc (4294967295 - place)) in
      omega (arith, ap length rest.2, length-append rest.0 behind, rest.1, long_here size (λ number. image (Part number)) place (4294967295 - place) (inside + count) fits short)

  byte_at : (k : ℕ) → inside + k < size → inside + k < length (image (Part place)) → get_or (output_of size image) (place * size + inside + k) 0 ≡ get_or (image (Part place)) (inside + k) 0
  byte_at k fits short =
      let rest = output_rest size place within image reached in
      let behind = joined size (λ number. image (Part number)) place (suc (4294967295 - place)) in
      let at : place * size + inside + k ≡ length rest.0 + (inside + k) = omega (arith, rest.1) in
      ap (λ bytes. get_or bytes (place * size + inside + k) 0) rest.2
      ∙ ap (λ i. get_or (rest.0 ++ behind) i 0) at
      ∙ get_or-append-add rest.0 behind (inside + k) 0
      ∙ first_here size (λ number. image (Part number)) place (4294967295 - place) (inside + k) fits short

  pub gives_output : (piece : List ℕ) (count : ℕ) → length piece ≤ size - inside → Gives (image (Part place)) inside piece count → Gives (output_of size image) (place * size + inside) piece count
  gives_output piece count fits gives =
      let part = image (Part place) in
      let out = output_of size image in
      let offset = place * size + inside in
      let long : count ≤ length part - inside = omega (arith, gives.reaches, length-drop inside part) in
      let given : count ≤ length (drop offset out) = elim (cases_eq count 0) [
        | inl none ↦ omega (arith, none)
        | inr some ↦ omega (arith, length-drop offset out, reaches_so_far count (omega (arith, gives.within, fits, early)) (omega (arith, some, long)))
      ] in
      record {
        within = gives.within;
        reaches = given;
        bytes = gives.bytes ∙ same_number_lists (take count (drop inside part)) (take count (drop offset out))
            (omega (arith, length-take count (drop inside part), length-take count (drop offset out), gives.reaches, given))
            (λ k near.
            let below : k < count = omega (arith, near, length-take count (drop inside part)) in
            get_or-take count (drop inside part) k 0 below
            ∙ get_or-drop inside part k 0
            ∙ sym (byte_at k (omega (arith, below, gives.within, fits, early)) (omega (arith, below, long)))
            ∙ sym (get_or-drop offset out k 0)
            ∙ sym (get_or-take count (drop offset out) k 0 below));
        ends = λ none some.
            let last : length part ≤ inside = gives.ends none some in
            omega (arith, output_ends size place within image (omega (arith, last, early)) reached, last);
      }

-- nothing is given where nothing is
pub gives_none : (content buffer : List ℕ) (offset : ℕ) → length content ≤ offset → Gives content offset buffer 0
gives_none content buffer offset behind = record {
  within = omega arith;
  reaches = omega arith;
  bytes = refl;
  ends = λ _ _. behind;
}

-- what was read, at the front of a buffer
pub gives_front : (content piece buffer : List ℕ) (offset count most room : ℕ) → length piece ≡ most → most ≡ min room (length buffer) → 0 < room → Gives content offset piece count → Gives content offset (piece ++ drop most buffer) count
gives_front content piece buffer offset count most room long is some gives = record {
  within = omega (arith, gives.within, length-append piece (drop most buffer));
  reaches = gives.reaches;
  bytes = take-append-le count piece (drop most buffer) gives.within ∙ gives.bytes;
  ends = λ none more. gives.ends none (omega (arith, long, is, some, more, length-append piece (drop most buffer), length-drop most buffer));
}
