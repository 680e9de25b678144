-- Lines of the Container Runtime Interface, as `2024-01-01T00:00:00.5Z stdout F it began`: a time, the name of a stream, a
-- tag and the text, with a space between each two.
use Rattle.std.specs.Prelude.{◌≡◌, ℕ, ◌+◌, ◌<◌, ◌==◌, ◌⊎◌, Bool, true, false, List, [], ◌∷◌, ◌++◌, length, codes, if◌then◌else◌, Option, None, Some, is_some}
use Rattle.std.specs.List.{position_or_len, before_first, after_first}
use Rattle.json_text.specs.Leftmost.{IsLeftmostFault}
use Rattle.time_layout.specs.declared.fault.TimeFault.{TimeFault}
use Rattle.container_parser.specs.Words.{is_space}
use Rattle.container_parser.specs.Times.{IsTime, IsNoTime, place_of}

abbrev pub IsStream : List ℕ → Type 0
IsStream name = (name ≡ codes "stdout") ⊎ (name ≡ codes "stderr")

-- `P` marks a part of a line, and `F` a whole line or its last part: whether it is a part that more parts follow
abbrev pub marked_partial : ℕ → Option Bool
marked_partial mark = (if mark == 80 then Some true else (if mark == 70 then Some false else None))

-- a tag is a mark alone, or with a colon behind it and whatever follows that
abbrev pub tagged_partial : List ℕ → Option Bool
tagged_partial [] = None
tagged_partial (mark ∷ []) = marked_partial mark
tagged_partial (mark ∷ next ∷ rest) = (if next == 58 then marked_partial mark else None)

-- how many bytes of a tag the text begins with, where it begins with no whole one
abbrev pub tag_reach : List ℕ → ℕ
tag_reach [] = 0
tag_reach (mark ∷ rest) = (if is_some (marked_partial mark) then 1 else 0)

-- what a tag and what stands behind it say
pub record Content : Type 0 where
  pub partial : Bool
  pub text : List ℕ

-- a tag, and then the end or a space and the text
pub record IsContent (bytes : List ℕ) (content : Content) : Type 0 where
  pub tag : tagged_partial (before_first is_space bytes) ≡ Some content.partial
  pub text : content.text ≡ after_first is_space bytes

pub record Said : Type 0 where
  pub stream : List ℕ
  pub content : Content

-- what stands behind the time: a stream, a space, a tag and the text
pub record IsSaid (bytes : List ℕ) (said : Said) : Type 0 where
  pub stream : IsStream said.stream
  pub rest : List ℕ
  pub is : bytes ≡ said.stream ++ 32 ∷ rest
  pub content : IsContent rest said.content

-- the line is a time, a space and what is said
pub record IsCriLine (line : List ℕ) (instant : ℕ) (said : Said) : Type 0 where
  pub goes_on : position_or_len is_space line < length line
  pub time : IsTime (before_first is_space line) instant
  pub behind : IsSaid (after_first is_space line) said

-- no time begins the line; or one does, and there the line ends; or a space follows, and what is behind it goes wrong at
-- its first byte from which it can't go on
pub data IsCriFault (line : List ℕ) : ℕ → Type 0 where
  no_time : (fault : TimeFault) → IsNoTime (before_first is_space line) fault → IsCriFault line (place_of fault)
  time_alone : (instant : ℕ) → IsTime (before_first is_space line) instant → position_or_len is_space line ≡ length line
      → IsCriFault line (length line)
  nothing_said : (instant at : ℕ) → IsTime (before_first is_space line) instant → position_or_len is_space line < length line
      → IsLeftmostFault IsSaid (after_first is_space line) at → IsCriFault line (position_or_len is_space line + 1 + at)
