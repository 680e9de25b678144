-- What a verdict says.
use Rattle.std.specs.Prelude.{◌≡◌, ℕ, ◌+◌, ◌≤◌, Bool, true, List, map, None, length, take, All}
use Rattle.auditor.specs.Asked.{asked}
use Rattle.auditor.specs.RowHolds.{RowHolds}
use Rattle.auditor.specs.declared.Verdict.{Verdict}
use Rattle.auditor.specs.declared.Verdict.TheVariants.{Same, Differs}
use Rattle.kept_lines.specs.Lines.{whole_lines}
use Rattle.kept_lines.specs.OwnLines.{AreOf}
use Rattle.otlp_json.specs.IsOf64Bits.{IsTime}
use Rattle.standing.specs.Closed.{Made, entries_in, flags_in}
use Rattle.standing.specs.Eras.{Eras, last_era}
use Rattle.standing.specs.Marks.{Mark, numbered, untimed}
use Rattle.standing.specs.Rows.{Row}
use Rattle.standing.specs.Rules.{Rules}
use Rattle.standing.specs.Times.{AreTimed}

-- the first n of the lines are those of the first n entries, with times of 64 bits that never fall
pub record Agree (line : Mark → List ℕ) (id : ℕ) (made : List Made) (own : List (List ℕ)) (n : ℕ) : Type 0 where
  pub asked : n ≤ length made
  pub there : n ≤ length own
  pub lines : List Mark
  pub spelled : take n own ≡ map line lines
  pub all_lines : untimed lines ≡ numbered id 1 None (entries_in (take n made))
  pub times : AreTimed (flags_in (take n made)) lines
  pub of_64_bits : All (λ (mark : Mark). IsTime mark.observed) lines

-- the line with this number, from 1, is the first that differs or of which only one is there, or the one past all
pub record IsFirstOther (line : Mark → List ℕ) (id : ℕ) (made : List Made) (own : List (List ℕ)) (number : ℕ) : Type 0 where
  pub before : ℕ
  pub is : number ≡ before + 1
  pub agree : Agree line id made own before
  pub no_more : Agree line id made own (before + 1) → ⊥

-- `rules` are those of the row's parts
abbrev pub IsVerdict : Eras → List Rules → List ℕ → Row → List ℕ → Verdict → Type 0
IsVerdict eras rules content row kept Same = RowHolds eras content row kept
IsVerdict eras rules content row kept (Differs number) =
    (RowHolds eras content row kept → ⊥)
    × ((own : List (List ℕ)) × AreOf row.id (whole_lines kept) own × IsFirstOther (last_era eras).line row.id (asked rules content row) own number)

-- so it is said of parts that are all whole or not, and of so many lines that agree, are asked for and are there
abbrev pub IsSaid : Bool → ℕ → ℕ → ℕ → Verdict → Type 0
IsSaid is_whole agreed asked_for there Same = (is_whole ≡ true) × (agreed ≡ asked_for) × (agreed ≡ there)
IsSaid is_whole agreed asked_for there (Differs number) = (number ≡ agreed + 1) × (is_whole ≡ true → agreed ≡ asked_for → agreed ≡ there → ⊥)
