-- The row whose front begins what was seen.
use Rattle.std.proofs.Common.{◌≡◌, ℕ, ◌<◌, ◌≤◌, List, length, true, sym, ap, ◌∙◌, arith, ◌+◌, inl, inr}
use Rattle.std.proofs.lemmas.List.{take_all, length-set, length_push}
use Rattle.std.proofs.lemmas.List.Quantifiers.{position-Some}
use Rattle.std.proofs.lemmas.Option.{get_or_from_slice_get, slice_get_within}
use Rattle.std.specs.Prelude.{Some, slice_get, slice_set}
use Rattle.file_tracker.specs.Fronts.{begins, front_of}
use Rattle.file_tracker.specs.Places.{place_of, with_front}
use Rattle.file_tracker.specs.declared.row.Row.{Row}
use Rattle.standing.proofs.PrefixLemmas.{begins-true}
use Rattle.file_pass.specs.Inner.Settled.{IsKnown, Settles, admitted}
use Rattle.file_pass.specs.declared.ending.SeenFile.{SeenFile}
use Rattle.file_pass.specs.declared.setup.Setup.{Setup}
use Rattle.file_pass.proofs.Listing.{set_same}

module _ (front : List ℕ) (rows : List Row) (place : ℕ) (row : Row) (known : place_of front rows ≡ Some place) where
  pub known_begins : slice_get rows place ≡ Some row → begins row.front front ≡ true
  known_begins at =
      ap (λ (r : Row). begins r.front front) (sym (get_or_from_slice_get rows place row row at)) ∙ (position-Some (λ (r : Row). begins (front_of r) front) rows place row known).1

  -- a front that isn't longer than the row's is the row's
  pub known_as_is : slice_get rows place ≡ Some row → length front ≤ length row.front → IsKnown front rows place rows
  known_as_is at short =
      let same : front ≡ row.front = sym (take_all (length row.front) front short) ∙ begins-true row.front front (known_begins at) in
      record {
        row = row;
        at = at;
        first_one = known;
        grown = sym (ap (λ (f : List ℕ). slice_set rows place (with_front f row)) same ∙ set_same rows place row at);
      }

-- a row that was found or made stands there
pub settled_within : (setup : Setup) (seen : SeenFile) (before : List Row) (place : ℕ) (after : List Row) → Settles setup seen before (Some place) after → place < length after
settled_within setup seen before place after (inl known) =
    omega (arith, slice_get_within before place known.row known.at, ap (λ (rows : List Row). length rows) known.grown, length-set before place (with_front seen.front.now known.row))
settled_within setup seen before place after (inr fresh) =
    omega (arith, fresh.last, ap (λ (rows : List Row). length rows) fresh.added, length_push before (admitted setup seen.file.size seen.path.now seen.front.now (length before + 1)))
