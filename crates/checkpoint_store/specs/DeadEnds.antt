-- Bytes with which nothing that is spelled goes on.
use Rattle.std.specs.Prelude.{◌≡◌, ℕ, ◌⊎◌, List, ◌++◌, length}

-- one byte, or a number of four or eight
abbrev pub IsPart : List ℕ → Type 0
IsPart bytes = (length bytes ≡ 1) ⊎ ((length bytes ≡ 4) ⊎ (length bytes ≡ 8))

-- At this place a byte stands, or a number, with which no spelling of a kind goes on: none begins with all bytes up to and
-- with it.
pub record IsDeadEnd (IsSpelling : List ℕ → Type 0) (bytes : List ℕ) (fault : ℕ) : Type 0 where
  pub before : List ℕ
  pub part : List ℕ
  pub after : List ℕ
  pub parts : bytes ≡ before ++ (part ++ after)
  pub place : fault ≡ length before
  pub whole : IsPart part
  pub none : (more : List ℕ) → IsSpelling (before ++ (part ++ more)) → ⊥
