-- The tokens of several lines. At each LF among the first max + 1 bytes a line is judged: where marked lines begin tokens
-- the one behind the LF, else the one before it. A token ends before the first LF whose line is marked; without one it is
-- cut after `max` bytes.
use Rattle.std.specs.Prelude.{ℕ, ◌+◌, ◌-◌, nat_lt, if◌then◌else◌, ◌&&◌, not, true, Bool, List, length, take, drop, slice_index, Option, Some, None, option_map, is_some}
use Rattle.std.specs.List.{suffix_len}
use Rattle.std.specs.Str.Lines.{strip_carriage_return}
use Rattle.line_splitter.specs.Cuts.{Cut, cut}
use Rattle.line_splitter.specs.LineTokens as lines
use Rattle.line_splitter.specs.LineTokens.{is_line_feed}
use Rattle.multiline.specs.Cutting.{Cutting, starting, ending, is_marked}
use Rattle.multiline.specs.FirstPlace.{first_place}

-- The text of the line behind the LF at a place: up to its own LF, if that is among its first max + 1 bytes, less one CR
-- directly before it; else its first max bytes, if it has more. Else the line isn't decided.
unfoldable pub line_behind : ℕ → List ℕ → ℕ → Option (List ℕ)
line_behind max b place = option_map (λ c. c.text) (lines.first_cut max (drop (place + 1) b))

-- where the line begins that the LF at a place ends: behind the LF before
unfoldable pub line_start : List ℕ → ℕ → ℕ
line_start b place = place - suffix_len (λ byte. not (is_line_feed byte)) (take place b)

-- the text of the line that the LF at a place ends, less one CR directly before it
unfoldable pub line_before : List ℕ → ℕ → List ℕ
line_before b place = strip_carriage_return (drop (line_start b place) (take place b))

-- whether the line that is judged at a place is marked; none where it isn't decided
unfoldable pub judged : Cutting → ℕ → List ℕ → ℕ → Option Bool
judged (starting pattern) max b place = option_map (is_marked pattern) (line_behind max b place)
judged (ending pattern) max b place = Some (is_marked pattern (line_before b place))

abbrev pub may_end : Option Bool → Bool
may_end None = true
may_end (Some marked) = marked

-- an LF whose line is marked or not decided
unfoldable pub stops_at : Cutting → ℕ → List ℕ → ℕ → Bool
stops_at cutting max b place = is_line_feed (slice_index b place) && may_end (judged cutting max b place)

-- how many bytes are looked at for an LF
abbrev pub window : ℕ → List ℕ → ℕ
window max b = length (take (max + 1) b)

-- the place of the first such LF among the first max + 1 bytes; where there is none, how many these are
unfoldable pub stop : Cutting → ℕ → List ℕ → ℕ
stop cutting max b = first_place (stops_at cutting max b) (window max b)

-- the token that the LF at a place ends: the bytes before it, less one CR directly before it; the LF is used too
abbrev pub cut_before : List ℕ → ℕ → Cut
cut_before b place = cut (strip_carriage_return (take place b)) (place + 1)

-- If there is such an LF, the token ends before it, or there is none if its line isn't decided. Else, if b has more than
-- max bytes, the token is its first max bytes. Else there is none.
unfoldable pub first_cut : Cutting → ℕ → List ℕ → Option Cut
first_cut cutting max b =
    if nat_lt (stop cutting max b) (window max b)
    then (if is_some (judged cutting max b (stop cutting max b)) then Some (cut_before b (stop cutting max b)) else None)
    else (if nat_lt max (length b) then Some (cut (take max b) max) else None)
