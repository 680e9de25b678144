-- Control lines, and what they ask for.
use Rattle.std.specs.Prelude.{◌≡◌, ◌≢◌, ◌⊎◌, ℕ, ◌<◌, ◌≤◌, ◌+◌, ◌==◌, if◌then◌else◌, Bool, false, List, [], ◌∷◌, ◌++◌, length, codes, Option, None, Some, Result, Ok, Err}
use Rattle.std.specs.List.{list_any}
use Rattle.std.specs.Str.{bytes_eq}
use Rattle.std.specs.Str.Lines.{strip_carriage_return}
use Rattle.outside.specs.declared.fault.Failed.{Failed}
use Rattle.agent_commands.specs.declared.control.Request.{Request}
use Rattle.agent_commands.specs.declared.control.Request.TheVariants.{Poll, Quit, End, Faulty, Exhausted}

-- the most bytes of a line before its LF
abbrev pub max_line : ℕ
max_line = 64

-- the most bytes of all control lines
abbrev pub max_control : ℕ
max_control = 1099511627776

-- what a text asks for
abbrev pub asked_by : List ℕ → Request
asked_by text = if bytes_eq text (codes "poll") then Poll else if bytes_eq text (codes "quit") then Quit else Faulty

abbrev pub has_line_feed : List ℕ → Bool
has_line_feed text = list_any (λ byte. byte == 10) text

-- A whole line was taken. One CR before its LF doesn't belong to its text.
pub record TakesLine (left : ℕ) (request : Request) (old new : List ℕ) : Type 0 where
  pub line : List ℕ
  pub one : has_line_feed line ≡ false
  pub within : length line ≤ max_line
  pub allowed : length line < left
  pub taken : old ≡ line ++ 10 ∷ new
  pub asks : request ≡ asked_by (strip_carriage_return line)

-- The rest was taken, which has no line end and isn't empty. The end is seen only where a byte could still be taken.
pub record TakesLast (left : ℕ) (request : Request) (old new : List ℕ) : Type 0 where
  pub one : has_line_feed old ≡ false
  pub within : length old ≤ max_line
  pub sees_end : length old < left
  pub some_left : old ≢ []
  pub taken : new ≡ []
  pub asks : request ≡ asked_by old

-- No bytes were there.
pub record TakesNothing (left : ℕ) (request : Request) (old new : List ℕ) : Type 0 where
  pub none_left : old ≡ []
  pub sees_end : 0 < left
  pub taken : new ≡ []
  pub asks : request ≡ End

-- One byte more than a line may have was taken.
pub record TakesTooMuch (left : ℕ) (request : Request) (old new : List ℕ) : Type 0 where
  pub front : List ℕ
  pub one : has_line_feed front ≡ false
  pub long : length front ≡ max_line + 1
  pub allowed : length front ≤ left
  pub taken : old ≡ front ++ new
  pub asks : request ≡ Faulty

-- All that may be taken was taken, and the line hasn't ended.
pub record TakesAllAllowed (left : ℕ) (request : Request) (old new : List ℕ) : Type 0 where
  pub front : List ℕ
  pub one : has_line_feed front ≡ false
  pub within : length front ≤ max_line
  pub all : length front ≡ left
  pub taken : old ≡ front ++ new
  pub asks : request ≡ Exhausted

-- The next line was taken, where `left` bytes may be taken.
abbrev pub Takes : ℕ → Request → List ℕ → List ℕ → Type 0
Takes left request old new =
    TakesLine left request old new
    ⊎ TakesLast left request old new
    ⊎ TakesNothing left request old new
    ⊎ TakesTooMuch left request old new
    ⊎ TakesAllAllowed left request old new

-- A part of a line was taken.
pub record TakesPart (old new : List ℕ) : Type 0 where
  pub front : List ℕ
  pub one : has_line_feed front ≡ false
  pub within : length front ≤ max_line
  pub taken : old ≡ front ++ new

-- the next line was taken, or a part of it where the source failed
abbrev pub Asks : ℕ → Result Request Failed → List ℕ → List ℕ → Type 0
Asks left (Ok request) old new = Takes left request old new
Asks left (Err _) old new = TakesPart old new

-- Of the bytes that may be taken, as many are gone as were taken.
pub record Spends (left left_after : ℕ) (old new : List ℕ) : Type 0 where
  pub taken : List ℕ
  pub front : old ≡ taken ++ new
  pub counted : left ≡ length taken + left_after

pub record TakesAtMost (most : ℕ) (old new : List ℕ) : Type 0 where
  pub taken : List ℕ
  pub front : old ≡ taken ++ new
  pub within : length taken ≤ most

pub record TakesExactly (count : ℕ) (old new : List ℕ) : Type 0 where
  pub taken : List ℕ
  pub front : old ≡ taken ++ new
  pub exact : length taken ≡ count

abbrev pub GivesByte : Result (Option ℕ) Failed → List ℕ → List ℕ → Type 0
GivesByte (Ok None) old new = (old ≡ []) × (new ≡ [])
GivesByte (Ok (Some byte)) old new = old ≡ byte ∷ new
GivesByte (Err _) old new = new ≡ old
