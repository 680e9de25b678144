-- What the settings of a script say of its files.
use Rattle.std.specs.Prelude.{◌≡◌, ℕ, ◌*◌, ◌<◌, ◌≤◌, All, List, flat_map, length, false, None}
use Rattle.demo_run.specs.Script.{line_of, log_name, rotated_name}
use Rattle.entry_model.specs.LogRecord.{LogRecord}
use Rattle.line_splitter.specs.Cuts.{Cut}
use Rattle.standing.specs.Limits.{row_limit}
use Rattle.standing.specs.Marks.{numbered}
use Rattle.standing.specs.Rules.{Rules, Includes, output_text}
use Rattle.standing.specs.Tokens.{tokens_of}

-- what a file has to which these rounds wrote
abbrev pub lines_of_rounds : List ℕ → List ℕ
lines_of_rounds rounds = flat_map line_of rounds

abbrev pub AreRounds : List ℕ → Type 0
AreRounds rounds = All (λ (round : ℕ). round ≤ 1000) rounds

-- what comes out for tokens that stand at a file's beginning
abbrev pub entries_of : Rules → List ℕ → List (List ℕ) → List LogRecord
entries_of rules path tokens = rules.made path 0 rules.fresh tokens

-- more bytes than any line of the output has that a line of a script gives
abbrev pub widest : ℕ
widest = 10000

pub record IsRuled (rules : Rules) : Type 0 where
  pub front_size : 16 ≤ rules.front_size
  pub from_beginning : rules.from_end ≡ false
  pub no_times : rules.stamps ≡ false
  pub never : rules.flush_after ≡ 0
  pub logs : (log : ℕ) → log < 3 → Includes rules (log_name log)
  pub rotated : (round : ℕ) → round ≤ 1000 → Includes rules (rotated_name round)
  pub some_bytes : (content : List ℕ) → All (λ (cut : Cut). 1 ≤ cut.used) (rules.cuts content)
  -- each line of a round gives one entry
  pub entries : (rounds : List ℕ) → AreRounds rounds → (path : List ℕ) → length (entries_of rules path (tokens_of rules (lines_of_rounds rounds))) ≡ length rounds
  pub output : (rounds : List ℕ) → AreRounds rounds → length rounds ≤ 1000 → (path : List ℕ) → length path ≤ 16 → (id : ℕ) → id ≤ row_limit
      → length (output_text rules (numbered id 1 None (entries_of rules path (tokens_of rules (lines_of_rounds rounds))))) ≤ length rounds * widest
