-- What a row's file was found to be.
use Rattle.std.specs.Prelude.{◌≡◌, ℕ, ◌-◌, ◌≤◌, ◌⊎◌, List, [], ◌++◌, length, map, take, drop}
use Rattle.auditor.specs.RowHolds.{AreErasFrom}
use Rattle.auditor.specs.Rests.{HasRest}
use Rattle.auditor.specs.Verdicts.{IsVerdict}
use Rattle.auditor.specs.declared.Verdict.{Verdict}
use Rattle.auditor.specs.declared.Verdict.TheVariants as verdict
use Rattle.folder_audit.specs.declared.findings.Finding.{Finding}
use Rattle.folder_audit.specs.declared.findings.Finding.TheVariants.{Absent, Same, Differs}
use Rattle.outside.specs.World.{History, World, bytes}
use Rattle.pipeline.specs.AsRules.{rules_of}
use Rattle.pipeline.specs.Parts.{settings_of}
use Rattle.pipeline.specs.declared.Pipeline.{Pipeline}
use Rattle.standing.specs.Eras.{Eras}
use Rattle.standing.specs.Included.{IsIncluded}
use Rattle.standing.specs.Moments.{IsLater, LookAt, IsNamed}
use Rattle.standing.specs.Prefixes.{IsPrefix}
use Rattle.standing.specs.Rows.{Row}

-- The first of a file's bytes were judged: all that it had, or enough to decide each token up to the row's offset.
pub record JudgedBytes (pipes : List Pipeline) (row : Row) (output : List ℕ) (verdict : Verdict) (whole : List ℕ) : Type 0 where
  pub content : List ℕ
  pub behind : List ℕ
  pub split : whole ≡ content ++ behind
  pub within : row.offset ≤ length content
  pub enough : (content ≡ whole) ⊎ HasRest pipes row.offset content
  pub says : (eras : Eras) → AreErasFrom eras row.born pipes → IsVerdict eras (map (rules_of []) pipes) content row output verdict

-- The file was opened between the two moments, under a name that is to be read.
pub record Looked (last : Pipeline) (old new : History) (file : ℕ) (moment : History) : Type 0 where
  pub path : List ℕ
  pub included : IsIncluded last.include.items last.exclude.items path
  pub later : IsLater old moment
  pub looked : LookAt new file moment
  pub named : IsNamed moment path file

-- It began with the row's front then, and the bytes that it had were judged.
pub record Judged (pipes : List Pipeline) (last : Pipeline) (row : Row) (output : List ℕ) (verdict : Verdict) (old new : World) : Type 0 where
  pub file : ℕ
  pub moment : History
  pub looked : Looked last old.history new.history file moment
  pub begins : IsPrefix row.front (take (settings_of last).fingerprint_size (bytes moment file))
  pub by_bytes : JudgedBytes pipes row output verdict (bytes moment file)

-- the pipelines of a row: those from the era in which it was made on
abbrev pub pipes_of : List Pipeline → Row → List Pipeline
pipes_of pipes row = drop (row.born - 1) pipes

-- Of a row whose file wasn't read nothing is said.
abbrev pub IsReadAs : List Pipeline → List ℕ → Row → Finding → List ℕ → Type 0
IsReadAs pipes output row Absent whole = Unit {0}
IsReadAs pipes output row (Same lines) whole = JudgedBytes (pipes_of pipes row) row output verdict.Same whole
IsReadAs pipes output row (Differs line) whole = JudgedBytes (pipes_of pipes row) row output (verdict.Differs line) whole

abbrev pub IsFound : List Pipeline → Pipeline → List ℕ → Row → Finding → World → World → Type 0
IsFound pipes last output row Absent old new = Unit {0}
IsFound pipes last output row (Same lines) old new = Judged (pipes_of pipes row) last row output verdict.Same old new
IsFound pipes last output row (Differs line) old new = Judged (pipes_of pipes row) last row output (verdict.Differs line) old new

-- of a file that was read so many lines are told
abbrev pub TellsLines : Row → Finding → Type 0
TellsLines row Absent = Unit {0}
TellsLines row (Same lines) = lines ≡ row.lines
TellsLines row (Differs line) = Unit {0}

-- what a verdict is of a row with so many lines
abbrev pub HasVerdict : Verdict → ℕ → Finding → Type 0
HasVerdict verdict.Same lines finding = finding ≡ Same lines
HasVerdict (verdict.Differs line) lines finding = finding ≡ Differs line
