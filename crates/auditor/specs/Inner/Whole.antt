-- What it is for each part of a row to end where its tokens do, with the counts and the state that they leave.
use Rattle.std.specs.Prelude.{◌≡◌, ℕ, ◌+◌, ◌-◌, ◌≤◌, List, [], ◌∷◌, length, drop}
use Rattle.file_tracker.specs.declared.ends.End.{End}
use Rattle.standing.specs.Closed.{closed_output}
use Rattle.standing.specs.Part.{HasTaken, part_from}
use Rattle.standing.specs.Rows.{Row}
use Rattle.standing.specs.Rules.{Rules}
use Rattle.standing.specs.Tokens.{UpTo}

-- so many tokens, which use so many bytes, and so many lines lie between two points, of which the second isn't past the last byte
pub record AreBetween (from to : End) (last used count lines : ℕ) : Type 0 where
  pub within : to.offset ≤ last
  pub offsets : to.offset ≡ from.offset + used
  pub records : to.records ≡ from.records + count
  pub outputs : to.lines ≡ from.lines + lines

-- a part that was closed
pub record IsWholeClosed (rules : Rules) (content path : List ℕ) (from to : End) : Type 0 where
  pub begins : from.offset ≤ to.offset
  pub within : to.offset ≤ length content
  pub tokens : List (List ℕ)
  pub bound : UpTo rules (drop from.offset content) (to.offset - from.offset) tokens
  pub records : to.records ≡ from.records + length tokens
  pub lines : to.lines ≡ from.lines + length (closed_output rules path from.records tokens)

-- the last part
pub record IsWholeOpen (rules : Rules) (content : List ℕ) (row : Row) (from : End) : Type 0 where
  pub tokens : List (List ℕ)
  pub taken : HasTaken rules (part_from rules from) content tokens row

-- all parts from a point on, each under its rules
abbrev pub AreWhole : List Rules → List ℕ → Row → End → List End → Type 0
AreWhole [] content row from ends = ⊥
AreWhole (rules ∷ later) content row from [] = IsWholeOpen rules content row from
AreWhole (rules ∷ later) content row from (end ∷ ends) = IsWholeClosed rules content row.path from end × AreWhole later content row end ends
