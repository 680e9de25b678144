-- What it is for a row to be as its file's bytes and the kept lines say.
use Rattle.std.specs.Prelude.{◌≡◌, ℕ, ◌+◌, ◌≤◌, suc, List, map, None, Some, slice_get, length, All}
use Rattle.kept_lines.specs.Lines.{whole_lines}
use Rattle.kept_lines.specs.OwnLines.{AreOf}
use Rattle.otlp_json.specs.IsOf64Bits.{IsTime}
use Rattle.pipeline.specs.AsRules.{rules_of}
use Rattle.pipeline.specs.declared.Pipeline.{Pipeline}
use Rattle.standing.specs.Closed.{Made, AreClosed, all_made, entries_in, flags_in}
use Rattle.standing.specs.Eras.{Eras, era_at, era_count, last_era}
use Rattle.standing.specs.Marks.{Mark, numbered, untimed}
use Rattle.standing.specs.Part.{HasTaken, first_point, last_part}
use Rattle.standing.specs.Rows.{Row}
use Rattle.standing.specs.Times.{AreTimed}

-- these pipelines are the eras from this one to the last
pub record AreErasFrom (eras : Eras) (born : ℕ) (pipes : List Pipeline) : Type 0 where
  pub from_first : 1 ≤ born
  pub to_last : born + length pipes ≡ suc (era_count eras)
  pub each : (place : ℕ) (pipe : Pipeline) → slice_get pipes place ≡ Some pipe → (text : List ℕ) × (era_at eras (born + place) ≡ Some (rules_of text pipe))

-- The parts of the row are those of these bytes, with their tokens and the state that they leave, and its lines among the kept ones
-- are those of the entries, in order, with times of 64 bits where they are to have some, which never fall.
pub record RowHolds (eras : Eras) (content : List ℕ) (row : Row) (kept : List ℕ) : Type 0 where
  pub earlier : List Made
  pub closed : AreClosed eras content row.path row.born (first_point row) row.ends earlier
  pub tokens : List (List ℕ)
  pub taken : HasTaken (last_era eras) (last_part (last_era eras) row) content tokens row
  pub own : List (List ℕ)
  pub are_own : AreOf row.id (whole_lines kept) own
  pub lines : List Mark
  pub spelled : own ≡ map (last_era eras).line lines
  pub all_lines : untimed lines ≡ numbered row.id 1 None (entries_in (all_made eras row earlier tokens))
  pub times : AreTimed (flags_in (all_made eras row earlier tokens)) lines
  pub of_64_bits : All (λ (mark : Mark). IsTime mark.observed) lines
