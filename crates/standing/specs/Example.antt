-- Worked histories, with settings by which each line of `app.log*` is an entry.
use Rattle.std.specs.Prelude.{ℕ, ◌+◌, List, [], ◌∷◌, ◌++◌, map, codes, Bool, true, false, None}
use Rattle.entry_model.specs.Datum.{Datum, null, boolean, int, text, list, fields}
use Rattle.entry_model.specs.LogRecord.{of_text}
use Rattle.glob_match.specs.Pattern.{Pattern}
use Rattle.glob_match.specs.declared.pattern.Component.TheVariants.{Name}
use Rattle.glob_match.specs.declared.pattern.Piece.TheVariants.{Single}
use Rattle.glob_match.specs.declared.pattern.Unit.TheVariants.{Plain, Star}
use Rattle.idle_flush.specs.Rests.{rest_cuts}
use Rattle.line_splitter.specs.Cuts.{texts}
use Rattle.line_splitter.specs.LineTokens.{line_cuts}
use Rattle.outside.specs.World.{create, append, rename, look, History}
use Rattle.standing.specs.Eras.{Eras}
use Rattle.standing.specs.Look.{Look}
use Rattle.standing.specs.Marks.{Mark}
use Rattle.standing.specs.Pass.{Stretch}
use Rattle.standing.specs.Poll.{Poll}
use Rattle.standing.specs.Rows.{Row, Checkpoint}
use Rattle.standing.specs.Rules.{Rules}

abbrev pub is_empty : List ℕ → Bool
is_empty [] = true
is_empty (byte ∷ rest) = false

abbrev pub body_of : Datum → List ℕ
body_of null = []
body_of (boolean b) = []
body_of (int z) = []
body_of (text bytes) = bytes
body_of (list items) = []
body_of (fields entries) = []

-- the id, the number and the body, with a space between two; for ids and numbers of one digit
unfoldable pub line_text : Mark → List ℕ
line_text mark = (48 + mark.id) ∷ 32 ∷ (48 + mark.number) ∷ 32 ∷ (body_of mark.entry.body ++ codes "\n")

-- `app.log*`
abbrev pub app_logs : Pattern
app_logs = record { is_absolute = false; components = Name (map (λ c. Single (Plain c)) (codes "app.log") ++ Single Star ∷ []) ∷ [] }

abbrev pub line_rest : ℕ → List ℕ → List (List ℕ)
line_rest max b = texts (rest_cuts max b)

-- lines of at most 64 bytes, of files from their beginning, which their first 16 bytes tell from each other
abbrev pub each_line : Rules
each_line = record {
  settings = codes "{\"include\":[\"app.log*\"]}";
  cuts = line_cuts 64;
  made = λ path before state tokens. map of_text tokens;
  state_after = λ path before state tokens. [];
  rest = line_rest 64;
  closed = λ state. [];
  fresh = [];
  is_state = is_empty;
  line = line_text;
  fits = λ mark. false;
  include = app_logs ∷ [];
  exclude = [];
  front_size = 16;
  from_end = false;
  stamps = false;
  flush_after = 0;
}

abbrev pub one_era : Eras
one_era = record { first = each_line; later = [] }

abbrev pub look_at : List ℕ → ℕ → History → ℕ → Look
look_at path file moment end = record { path = path; file = file; moment = moment; end = end; skipped = false }

abbrev pub mark_of : ℕ → ℕ → List ℕ → Mark
mark_of id number body = record { id = id; number = number; observed = None; entry = of_text body }

-- a line and a part of one
abbrev pub begun : History
begun = append 1 (codes "one\ntw") ∷ create 1 (codes "app.log") ∷ []

abbrev pub polled : History
polled = look 1 ∷ begun

-- the file was given another name and got the rest of its line, and a new file has the old name
abbrev pub rotated : History
rotated = append 2 (codes "three\n") ∷ create 2 (codes "app.log") ∷ append 1 (codes "o\n") ∷ rename 1 (codes "app.log.1") ∷ polled

abbrev pub polled_again : History
polled_again = look 1 ∷ look 2 ∷ rotated

abbrev pub first_looks : List Look
first_looks = look_at (codes "app.log") 1 begun 6 ∷ []

-- in byte order of the paths, the newest first
abbrev pub second_looks : List Look
second_looks = look_at (codes "app.log.1") 1 (look 2 ∷ rotated) 8 ∷ look_at (codes "app.log") 2 rotated 6 ∷ []

abbrev pub row_of : ℕ → List ℕ → ℕ → ℕ → Row
row_of id seen offset lines = record {
  id = id;
  path = codes "app.log";
  front = seen;
  start = 0;
  offset = offset;
  records = lines;
  lines = lines;
  state = [];
  born = 1;
  ends = [];
  seen = 0;
  quiet = 0;
}

-- what the first poll kept
abbrev pub first_checkpoint : Checkpoint
first_checkpoint = record { eras = each_line.settings ∷ []; output_length = 8; observed = 0; next_id = 2; rows = row_of 1 (codes "one\ntw") 4 1 ∷ [] }

abbrev pub second_checkpoint : Checkpoint
second_checkpoint = record {
  eras = each_line.settings ∷ [];
  output_length = 26;
  observed = 0;
  next_id = 3;
  rows = row_of 1 (codes "one\ntwo\n") 8 2 ∷ row_of 2 (codes "three\n") 6 1 ∷ [];
}

abbrev pub first_lines : List Mark
first_lines = mark_of 1 1 (codes "one") ∷ []

abbrev pub second_lines : List Mark
second_lines = mark_of 2 1 (codes "three") ∷ mark_of 1 2 (codes "two") ∷ []

abbrev pub poll_of : Bool → Poll
poll_of first = record { rules = each_line; era = 1; first = first; stamp = None }

abbrev pub first_stretch : Stretch
first_stretch = record { old = begun; new = polled; faults_before = 0; faults_after = 0 }

abbrev pub second_stretch : Stretch
second_stretch = record { old = rotated; new = polled_again; faults_before = 0; faults_after = 0 }

-- ---- other settings are adopted between two polls

abbrev pub other_text : List ℕ
other_text = codes "{\"include\":[\"app.log*\"],\"max_log_size\":64}"

abbrev pub other_line : Rules
other_line = record each_line { settings = other_text }

abbrev pub two_eras : Eras
two_eras = record { first = each_line; later = other_line ∷ [] }

-- the file's first part ended behind its first line
abbrev pub adopted_row : Row
adopted_row = record (row_of 1 (codes "one\ntw") 4 1) { ends = record { offset = 4; records = 1; lines = 1 } ∷ [] }

abbrev pub adopted_checkpoint : Checkpoint
adopted_checkpoint = record first_checkpoint { eras = each_line.settings ∷ other_text ∷ []; rows = adopted_row ∷ [] }

-- the line got its rest
abbrev pub grown : History
grown = append 1 (codes "o\n") ∷ polled

abbrev pub grown_looks : List Look
grown_looks = look_at (codes "app.log") 1 grown 8 ∷ []

abbrev pub grown_stretch : Stretch
grown_stretch = record { old = grown; new = look 1 ∷ grown; faults_before = 0; faults_after = 0 }

abbrev pub grown_checkpoint : Checkpoint
grown_checkpoint = record adopted_checkpoint {
  output_length = 16;
  rows = record (row_of 1 (codes "one\ntwo\n") 8 2) { ends = adopted_row.ends } ∷ [];
}

abbrev pub grown_lines : List Mark
grown_lines = mark_of 1 2 (codes "two") ∷ []

-- ---- a part of a line stands still, and the settings ask for a flush after two looks

abbrev pub flushing_line : Rules
flushing_line = record each_line { flush_after = 2 }

abbrev pub flushing_poll : Bool → Poll
flushing_poll first = record { rules = flushing_line; era = 1; first = first; stamp = None }

-- the row after so many looks that found nothing new
abbrev pub still_row : ℕ → Row
still_row looks = record (row_of 1 (codes "one\ntw") 4 1) { seen = 6; quiet = looks }

abbrev pub still_checkpoint : ℕ → Checkpoint
still_checkpoint looks = record first_checkpoint { rows = still_row looks ∷ [] }

abbrev pub still_looks : List Look
still_looks = look_at (codes "app.log") 1 polled 6 ∷ []

abbrev pub still_stretch : Stretch
still_stretch = record { old = polled; new = look 1 ∷ polled; faults_before = 0; faults_after = 0 }

abbrev pub flushed_checkpoint : Checkpoint
flushed_checkpoint = record first_checkpoint { output_length = 15; rows = record (row_of 1 (codes "one\ntw") 6 2) { seen = 6 } ∷ [] }

abbrev pub flushed_lines : List Mark
flushed_lines = mark_of 1 2 (codes "tw") ∷ []
