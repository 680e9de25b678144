-- Bytes with which no spelling goes on.
use Rattle.std.specs.Prelude.{◌≡◌, ℕ, ◌+◌, ◌⊎◌, List, ◌++◌, length, drop}
use Rattle.state_codec.specs.Spelling.{bytes_spelling}
use Rattle.state_codec.specs.Rules.{IsShortText}

-- one byte, or a text that is spelled whole
abbrev pub IsUnit : List ℕ → Type 0
IsUnit bytes = (length bytes ≡ 1) ⊎ ((text : List ℕ) × IsShortText text × (bytes ≡ bytes_spelling text))

-- At this place a byte stands, or a key, with which nothing that is spelled goes on: no spelling begins with the bytes from
-- `at` up to and with it.
pub record IsDeadEnd {Y : Type 0} (spelling : Y → List ℕ) (Keeps : Y → Type 0) (bytes : List ℕ) (at fault : ℕ) : Type 0 where
  pub before : List ℕ
  pub unit : List ℕ
  pub after : List ℕ
  pub parts : drop at bytes ≡ before ++ (unit ++ after)
  pub place : fault ≡ at + length before
  pub whole : IsUnit unit
  pub none : (value : Y) (more rest : List ℕ) → Keeps value → before ++ (unit ++ more) ≡ spelling value ++ rest → ⊥
