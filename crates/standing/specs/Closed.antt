-- The parts of a row's file that were read under earlier settings, each closed when the next ones were adopted.
use Rattle.std.specs.Prelude.{◌≡◌, ℕ, ◌+◌, ◌-◌, ◌≤◌, List, [], ◌∷◌, ◌++◌, length, drop, map, Bool, Some}
use Rattle.entry_model.specs.LogRecord.{LogRecord}
use Rattle.file_tracker.specs.declared.ends.End.{End}
use Rattle.standing.specs.Eras.{Eras, era_at, last_era}
use Rattle.standing.specs.Part.{part_output, last_part}
use Rattle.standing.specs.Rows.{Row}
use Rattle.standing.specs.Rules.{Rules}
use Rattle.standing.specs.Tokens.{UpTo}

-- an entry that was made, and whether its line has a time
pub record Made : Type 0 where
  pub entry : LogRecord
  pub stamped : Bool

abbrev pub flagged : Bool → List LogRecord → List Made
flagged stamped entries = map (λ (entry : LogRecord). record { entry = entry; stamped = stamped }) entries

-- what comes out for the tokens of a part, and when it is closed
abbrev pub closed_output : Rules → List ℕ → ℕ → List (List ℕ) → List LogRecord
closed_output rules path before tokens =
    rules.made path before rules.fresh tokens ++ rules.closed (rules.state_after path before rules.fresh tokens)

-- These tokens were taken from one point up to the next under the era's settings, and what was held back then came out.
pub record ClosedPart (eras : Eras) (content path : List ℕ) (era : ℕ) (from to : End) : Type 0 where
  pub rules : Rules
  pub there : era_at eras era ≡ Some rules
  pub begins : from.offset ≤ to.offset
  pub within : to.offset ≤ length content
  pub tokens : List (List ℕ)
  pub bound : UpTo rules (drop from.offset content) (to.offset - from.offset) tokens
  pub records : to.records ≡ from.records + length tokens
  pub lines : to.lines ≡ from.lines + length (closed_output rules path from.records tokens)

abbrev pub made_in : (eras : Eras) (content path : List ℕ) (era : ℕ) (from to : End) → ClosedPart eras content path era from to → List Made
made_in eras content path era from to part = flagged part.rules.stamps (closed_output part.rules path from.records part.tokens)

-- the parts that end so, from this era and this point on, gave these entries
abbrev pub AreClosed : (eras : Eras) (content path : List ℕ) → ℕ → End → List End → List Made → Type 0
AreClosed eras content path era from [] made = made ≡ []
AreClosed eras content path era from (end ∷ ends) made =
    (part : ClosedPart eras content path era from end) × (more : List Made)
    × (made ≡ made_in eras content path era from end part ++ more) × AreClosed eras content path (era + 1) end ends more

-- ---- all that a row gave

-- what the parts before the last one gave, and then the last one
abbrev pub all_made : Eras → Row → List Made → List (List ℕ) → List Made
all_made eras row earlier tokens =
    earlier ++ flagged (last_era eras).stamps (part_output (last_era eras) (last_part (last_era eras) row) row.path tokens)

abbrev pub entries_in : List Made → List LogRecord
entries_in made = map (λ (m : Made). m.entry) made

abbrev pub flags_in : List Made → List Bool
flags_in made = map (λ (m : Made). m.stamped) made
