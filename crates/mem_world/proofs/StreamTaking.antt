-- Bytes that are taken from the front of an input.
use Rattle.std.proofs.Common.{◌≡◌, ℕ, ◌+◌, ◌-◌, ◌<◌, ◌≤◌, List, ◌++◌, length, take, drop, min, refl, sym, ◌∙◌, ap, arith, length-append, length-drop, length-take}
use Rattle.std.proofs.lemmas.List.{take-append-drop, drop-drop, take-append-le}
use Rattle.std.proofs.Math.ListN.{drop_of_length-le}
use Rattle.std.proofs.Math.Seq.{take-length}
use Rattle.outside.specs.Stream.{Takes}

taken_front : (given rest : List ℕ) (count : ℕ) → length given ≡ count → take count (given ++ rest) ≡ given
taken_front given rest count long = rw (← long, take-append-le (length given) given rest (omega arith), take-length given) refl

pub takes_piece : (bytes buffer given : List ℕ) (position count piece : ℕ) → given ≡ take count (drop position bytes) → position ≤ length bytes → 0 < piece → count ≡ min (min piece (length buffer)) (length bytes - position) → Takes (given ++ drop count buffer) count (drop position bytes) (drop (position + count) bytes)
takes_piece bytes buffer given position count piece is within gives size =
    let long : length given ≡ count = ap length is ∙ omega (arith, length-take count (drop position bytes), length-drop position bytes) in
    record {
      taken = rw (taken_front given (drop count buffer) count long, is, ← drop-drop count position bytes) (sym (take-append-drop count (drop position bytes)));
      ends = λ none room. drop_of_length-le bytes (omega (arith, length-append given (drop count buffer), length-drop count buffer));
    }
