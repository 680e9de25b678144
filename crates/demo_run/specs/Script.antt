-- The script of so many rounds.
use Rattle.std.specs.Prelude.{ℕ, zero, suc, ◌+◌, ◌%◌, ◌==◌, if◌then◌else◌, List, [], ◌∷◌, ◌++◌, codes, decimal, Option, None, Some}
use Rattle.demo_run.specs.Moves.{Move, step, poll, stop, reopen}
use Rattle.outside.specs.World.{create, append, rename}

-- ---- what is written

abbrev pub settings_text : List ℕ
settings_text = codes "{\"include\":[\"d*.log*\"],\"start_at\":\"beginning\"}"

-- which of the three logs a round writes to
abbrev pub log_of : ℕ → ℕ
log_of round = round % 3

abbrev pub log_name : ℕ → List ℕ
log_name log = codes "d" ++ decimal log ++ codes ".log"

abbrev pub rotated_name : ℕ → List ℕ
rotated_name round = codes "d0.log." ++ decimal round

abbrev pub line_of : ℕ → List ℕ
line_of round = codes "r" ++ decimal round ++ codes " k" ++ decimal (log_of round) ++ codes "\n"

-- ---- one event after another

-- the events so far, the file that has the name of each log now, and the number of the next file
pub record Played : Type 0 where
  pub moves : List Move
  pub files : ℕ → Option ℕ
  pub next_file : ℕ

abbrev pub with_move : Move → Played → Played
with_move move played = record { moves = played.moves ++ move ∷ []; files = played.files; next_file = played.next_file }

-- from now on the log's name is that of this file, or free
abbrev pub with_name : ℕ → Option ℕ → Played → Played
with_name log file played = record { moves = played.moves; files = λ other. if other == log then file else played.files other; next_file = played.next_file }

-- ---- one round

-- the next file gets the log's name
abbrev pub with_new_file : ℕ → Played → Played
with_new_file log played =
    with_name log (Some played.next_file)
    (record { moves = played.moves ++ step (create played.next_file (log_name log)) ∷ []; files = played.files; next_file = played.next_file + 1 })

-- where the name of the round's log is free, a file gets it
abbrev pub with_file : ℕ → Played → Played
with_file round played = elim (played.files (log_of round)) [ Some file ↦ played | None ↦ with_new_file (log_of round) played ]

-- the file that has the name grows by the round's line
abbrev pub with_line : ℕ → Played → Played
with_line round played = elim (played.files (log_of round)) [ Some file ↦ with_move (step (append file (line_of round))) played | None ↦ played ]

-- the file of the first log gets another name
abbrev pub with_other_name : ℕ → Played → Played
with_other_name round played = elim (played.files 0) [
  | Some file ↦ with_name 0 None (with_move (step (rename file (rotated_name round))) played)
  | None ↦ played
]

-- each tenth round
abbrev pub with_rotation : ℕ → Played → Played
with_rotation round played = if round % 10 == 0 then with_other_name round played else played

-- in each seventh round a poll is stopped, and the agent is opened again
abbrev pub with_stop : ℕ → Played → Played
with_stop round played = if round % 7 == 0 then with_move reopen (with_move poll (with_move (stop (round % 13) (round % 5)) played)) else played

-- a line, and a poll
abbrev pub with_round : ℕ → Played → Played
with_round round played = with_move poll (with_stop round (with_rotation round (with_line round (with_file round played))))

-- ---- all rounds

abbrev pub played : ℕ → Played
played zero = record { moves = reopen ∷ []; files = λ log. None; next_file = 1 }
played (suc round) = with_round (suc round) (played round)

abbrev pub script : ℕ → List Move
script rounds = (played rounds).moves
