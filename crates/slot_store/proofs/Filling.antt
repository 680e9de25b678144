-- A buffer that is filled piece by piece.
use Rattle.std.proofs.Common.{◌≡◌, ℕ, ◌+◌, ◌-◌, ◌<◌, ◌≤◌, List, ◌++◌, length, take, drop, refl, sym, ◌∙◌, ap, arith, length-append, length-drop, take-append-drop}
use Rattle.std.proofs.lemmas.List.{take-take, drop-take, drop-drop, take_at, drop_at, length-take-le}
use Rattle.std.proofs.lemmas.Slice.{take-put_mid}
use Rattle.outside.specs.Content.{Gives}
use borrow.Rule.Slice.PartMut.{put_mid}

pub take_in_two : (xs : List ℕ) (first second : ℕ) → take (first + second) xs ≡ take first xs ++ take second (drop first xs)
take_in_two xs first second =
    sym (take-append-drop first (take (first + second) xs))
    ∙ ap (λ front. front ++ drop first (take (first + second) xs)) (take-take first (first + second) xs (omega arith))
    ∙ ap (λ back. take first xs ++ back) (drop-take first second xs)

-- the front of a buffer that was written from `filled` on
pub take_filled : (buffer piece : List ℕ) (filled count : ℕ) → filled ≤ length buffer → length piece ≡ length buffer - filled → count ≤ length piece → take (filled + count) (put_mid filled (length buffer - filled) buffer piece) ≡ take filled buffer ++ take count piece
take_filled buffer piece filled count within long some =
    let whole = put_mid filled (length buffer - filled) buffer piece in
    let front : length (take filled buffer) ≡ filled = length-take-le filled buffer within in
    sym (take-take (filled + count) (filled + length piece) whole (omega arith))
    ∙ ap (λ w. take (filled + count) w) (take-put_mid filled (length buffer - filled) buffer piece (filled + length piece) refl within)
    ∙ take_in_two (take filled buffer ++ piece) filled count
    ∙ ap (λ f. f ++ take count (drop filled (take filled buffer ++ piece))) (take_at (take filled buffer) piece filled front)
    ∙ ap (λ b. take filled buffer ++ take count b) (drop_at (take filled buffer) piece filled front)

-- what is filled is the front of the content
pub fills_more : (content buffer piece : List ℕ) (filled count : ℕ) → filled ≤ length buffer → length piece ≡ length buffer - filled → count ≤ length piece → take filled buffer ≡ take filled content → take count piece ≡ take count (drop filled content) → take (filled + count) (put_mid filled (length buffer - filled) buffer piece) ≡ take (filled + count) content
fills_more content buffer piece filled count within long some front more =
    take_filled buffer piece filled count within long some
    ∙ ap (λ f. f ++ take count piece) front
    ∙ ap (λ b. take filled content ++ b) more
    ∙ sym (take_in_two content filled count)

pub length_filled : (buffer piece : List ℕ) (filled : ℕ) → filled ≤ length buffer → length piece ≡ length buffer - filled → length (put_mid filled (length buffer - filled) buffer piece) ≡ length buffer
length_filled buffer piece filled within long =
    let rest : length (drop (length buffer - filled) (drop filled buffer)) ≡ 0 = omega (arith, length-drop (length buffer - filled) (drop filled buffer), length-drop filled buffer) in
    omega (arith, length-append (take filled buffer) (piece ++ drop (length buffer - filled) (drop filled buffer)), length-append piece (drop (length buffer - filled) (drop filled buffer)), length-take-le filled buffer within, rest)

-- The buffer's front is that of the content from a place on.
pub record IsFilled (offset : ℕ) (content buffer : List ℕ) (filled : ℕ) : Type 0 where
  pub reached : filled ≤ length (drop offset content)
  pub bytes : take filled buffer ≡ take filled (drop offset content)

pub filled_none : (offset : ℕ) (content buffer : List ℕ) → IsFilled offset content buffer 0
filled_none offset content buffer = record { reached = omega arith; bytes = refl }

pub filled_on : (offset : ℕ) (content buffer piece : List ℕ) (filled count : ℕ) → filled ≤ length buffer → length piece ≡ length buffer - filled → IsFilled offset content buffer filled → Gives content (offset + filled) piece count → IsFilled offset content (put_mid filled (length buffer - filled) buffer piece) (filled + count)
filled_on offset content buffer piece filled count within long front gives = record {
  reached = omega (arith, gives.reaches, length-drop (offset + filled) content, length-drop offset content, front.reached);
  bytes = fills_more (drop offset content) buffer piece filled count within long gives.within front.bytes (gives.bytes ∙ ap (λ rest. take count rest) (sym (drop-drop filled offset content)));
}
