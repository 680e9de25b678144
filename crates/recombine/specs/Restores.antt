-- What restoring groups from a place of some bytes answers.
use Rattle.std.specs.Prelude.{◌≡◌, ℕ, ◌+◌, ◌-◌, ◌<◌, ◌⊎◌, List, ◌++◌, length, drop, Result, Ok, Err, ⊤}
use Rattle.state_codec.specs.declared.CodecFault.{CodecFault}
use Rattle.state_codec.specs.declared.CodecFault.TheVariants.{Malformed, Memory}
use Rattle.state_codec.specs.Reads.{StandsAt}
use Rattle.state_codec.specs.Rules.{IsShortText}
use Rattle.state_codec.specs.Spelling.{bytes_spelling}
use Rattle.recombine.specs.Group.{Group}
use Rattle.recombine.specs.Reading.{groups_at}
use Rattle.recombine.specs.Rules.{AreSpellable}
use Rattle.recombine.specs.Spelling.{groups_spelling}

-- one byte, a number of four, or a text that is spelled whole
abbrev pub IsPart : List ℕ → Type 0
IsPart bytes = (length bytes ≡ 1) ⊎ ((length bytes ≡ 4) ⊎ ((text : List ℕ) × IsShortText text × (bytes ≡ bytes_spelling text)))

-- At this place a byte stands, or a number or a text, with which no groups go on: no spelling of groups begins with the bytes
-- from `at` up to and with it.
pub record IsDeadEnd (bytes : List ℕ) (at fault : ℕ) : Type 0 where
  pub before : List ℕ
  pub part : List ℕ
  pub after : List ℕ
  pub parts : drop at bytes ≡ before ++ (part ++ after)
  pub place : fault ≡ at + length before
  pub whole : IsPart part
  pub none : (groups : List Group) (more rest : List ℕ) → AreSpellable groups → before ++ (part ++ more) ≡ groups_spelling groups ++ rest → ⊥

-- no groups are spelled at this place, and reading tells how many bytes are left where it can't go on: in front of the end it
-- is told at the first byte, number or text with which nothing goes on
pub record FailsAt (bytes : List ℕ) (at fault : ℕ) : Type 0 where
  pub none : (groups : List Group) (rest : List ℕ) → AreSpellable groups → drop at bytes ≡ groups_spelling groups ++ rest → ⊥
  pub place : (left : ℕ) × (groups_at (drop at bytes) ≡ Err left) × (fault ≡ length bytes - left)
  pub stops : fault < length bytes → IsDeadEnd bytes at fault

-- want of memory says nothing
abbrev pub Restores : List ℕ → ℕ → Result (List Group × ℕ) CodecFault → Type 0
Restores bytes at (Ok x) = StandsAt groups_spelling AreSpellable bytes at x.0 x.1
Restores bytes at (Err (Malformed fault)) = FailsAt bytes at fault
Restores bytes at (Err Memory) = ⊤

-- these groups are answered, with the place behind them, unless memory ran out
abbrev pub Answers : List Group → ℕ → Result (List Group × ℕ) CodecFault → Type 0
Answers groups next (Ok x) = (x.0 ≡ groups) × (x.1 ≡ next)
Answers groups next (Err (Malformed fault)) = ⊥
Answers groups next (Err Memory) = ⊤
